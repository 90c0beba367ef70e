use Rattle.std.proofs.Common.{◌≡◌, ◌+◌, ◌∙◌, ℕ, List, take, drop, get_or, ap, arith, rules}
use Rattle.std.specs.Int.{w32, to_le_bytes}
use Rattle.disk.specs.Device.{History}
use Rattle.journal.specs.Area.{open_gate}
use Rattle.milestone.proofs.CellsRead.{body_damaged, body_found}
use Rattle.milestone.proofs.cell.read_cell.Goals as goal

-- the body that was read is that of the cell
pub returns-in_default-clause-damaged : goal.returns-in_default-clause-damaged
returns-in_default-clause-damaged g c is honest =
    let seen = g.D.Disk.seen c.args.disk.now in
    let head = c.read_at.new.out in
    let len = c.body_len-len.result in
    let same : g.D.Disk.seen c.read_at.new.disk ≡ seen = ap (λ (h : History). h.now.seen) c.read_at.ensures.only_read.history in
    let read : head ≡ take 5 (drop c.args.at seen) = c.in_ok-read_at.ensures.bytes (c.read_range.ensures.only_read.honest honest) in
    let gate : get_or head 0 0 ≡ open_gate = search rules in
    let spelled : take 4 (drop 1 head) ≡ to_le_bytes w32 len = c.body_len-len.ensures.len in
    let body : c.deref.result.now ≡ take len (drop (c.args.at + 5) seen) =
    c.deref.ensures.value ∙ c.in_ok-body.ensures.bytes honest ∙ ap (λ (l : List ℕ). take len (drop (c.args.at + 5) l)) same in
    body_damaged c.args.format c.args.at c.args.size c.args.number seen head c.requires.low c.requires.high c.requires.within read len c.body_len-len.ensures.bound gate spelled (omega arith) c.deref.result.now body (search rules)

pub returns-clause-found : goal.returns-clause-found
returns-clause-found g c honest =
    let seen = g.D.Disk.seen c.args.disk.now in
    let head = c.read_at.new.out in
    let len = c.body_len-len.result in
    let same : g.D.Disk.seen c.read_at.new.disk ≡ seen = ap (λ (h : History). h.now.seen) c.read_at.ensures.only_read.history in
    let read : head ≡ take 5 (drop c.args.at seen) = c.in_ok-read_at.ensures.bytes (c.read_range.ensures.only_read.honest honest) in
    let gate : get_or head 0 0 ≡ open_gate = search rules in
    let spelled : take 4 (drop 1 head) ≡ to_le_bytes w32 len = c.body_len-len.ensures.len in
    let body : c.deref.result.now ≡ take len (drop (c.args.at + 5) seen) =
    c.deref.ensures.value ∙ c.in_ok-body.ensures.bytes honest ∙ ap (λ (l : List ℕ). take len (drop (c.args.at + 5) l)) same in
    body_found c.args.format c.args.at c.args.size c.args.number seen head c.requires.low c.requires.high c.requires.within read len c.body_len-len.ensures.bound gate spelled (omega arith) c.deref.result.now body
    c.in-Some.milestone (search rules) (search rules)
