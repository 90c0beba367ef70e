use Rattle.std.proofs.Common.{◌+◌, ◌-◌, ◌≡◌, take, length, ap, subst, arith}
use Rattle.attributes.specs.Map.{entries_of}
use Rattle.attributes.specs.Table.{AllBefore}
use Rattle.attributes.proofs.Places.{read_at, compared, free_end}
use Rattle.attributes.proofs.Halving.{here_found, before_found}
use Rattle.attributes.proofs.map.Map.place.Goals as goal

pub returns-in-Equal : goal.returns-in-Equal
returns-in-Equal g c =
    let es = c.args.self.now.entries in
    let last = c.len-len.result - 1 in
    let read = read_at _ es last c.index.result.now (ap entries_of c.self.view_is) (omega (arith, c.if-len-eq0.false, c.len-len.ensures)) c.index.ensures in
    here_found c.args.name.now es last c.index.result.now c.args.self.now.ascending read.0 read.1
    (compared c.args.name.now _ _ _ c.in-Equal.ensures c.as_str.ensures.text)

pub returns-in-Greater : goal.returns-in-Greater
returns-in-Greater g c =
    let es = c.args.self.now.entries in
    let last = c.len-len.result - 1 in
    let read = read_at _ es last c.index.result.now (ap entries_of c.self.view_is) (omega (arith, c.if-len-eq0.false, c.len-len.ensures)) c.index.ensures in
    let before = before_found c.args.name.now es last c.index.result.now c.args.self.now.ascending read.0 read.1
    (compared c.args.name.now _ _ _ c.in-Greater.ensures c.as_str.ensures.text) in
    let all : last + 1 ≡ c.len-len.result = omega (arith, c.if-len-eq0.false) in
    free_end c.args.name.now es c.len-len.result c.args.self.now.ascending (subst (λ n. AllBefore c.args.name.now (take n es)) all before)
    (omega (arith, c.len-len.ensures, ap length (ap entries_of c.self.view_is)))
