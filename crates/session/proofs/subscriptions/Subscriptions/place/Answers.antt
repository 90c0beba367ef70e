use Rattle.std.proofs.Common.{◌≡◌, length, take, subst, sym, ap, ◌∙◌, arith}
use Rattle.std.specs.Prelude.{T}
use Rattle.std.specs.FinMap.Entries.{is_sorted}
use Rattle.attributes.specs.Map.{by_bytes}
use Rattle.attributes.specs.Table.{AllBefore, none_before}
use Rattle.attributes.proofs.CallerLemmas.{here_at, free_at, free_end, before_more}
use Rattle.session.proofs.Kept.{read_at, compared}
use Rattle.session.proofs.subscriptions.Subscriptions.place.Goals as goal

pub loop-i-init : goal.loop-i-init
loop-i-init c = none_before

pub returns-in-Less : goal.returns-in-Less
returns-in-Less c =
    let es = c.args.self.now in
    let ascending : T (is_sorted by_bytes es) = subst (λ l. T (is_sorted by_bytes l)) c.self.view_is c.self.invariant in
    let read = read_at _ es c.loop-i.i c.entry-item.result (c.deref-entry-items.ensures.value ∙ c.self.view_is) c.loop-i-test.true c.entry-item.is in
    free_at c.args.name.now es c.loop-i.i ascending c.loop-i.invariant c.entry-item.result read.0 read.1
    (compared c.args.name.now _ _ _ c.in-Less.ensures c.as_str.ensures.text)

pub returns-in-Equal : goal.returns-in-Equal
returns-in-Equal c =
    let es = c.args.self.now in
    let ascending : T (is_sorted by_bytes es) = subst (λ l. T (is_sorted by_bytes l)) c.self.view_is c.self.invariant in
    let read = read_at _ es c.loop-i.i c.entry-item.result (c.deref-entry-items.ensures.value ∙ c.self.view_is) c.loop-i-test.true c.entry-item.is in
    here_at c.args.name.now es c.loop-i.i ascending c.loop-i.invariant c.entry-item.result read.0 read.1
    (compared c.args.name.now _ _ _ c.in-Equal.ensures c.as_str.ensures.text)

pub loop-i-preserved : goal.loop-i-preserved
loop-i-preserved c =
    let es = c.args.self.now in
    let ascending : T (is_sorted by_bytes es) = subst (λ l. T (is_sorted by_bytes l)) c.self.view_is c.self.invariant in
    let read = read_at _ es c.loop-i.i c.entry-item.result (c.deref-entry-items.ensures.value ∙ c.self.view_is) c.loop-i-test.true c.entry-item.is in
    before_more c.args.name.now es c.loop-i.i ascending c.loop-i.invariant c.entry-item.result read.0 read.1
    (compared c.args.name.now _ _ _ c.in-Greater.ensures c.as_str.ensures.text)

pub returns : goal.returns
returns c =
    let es = c.args.self.now in
    let ascending : T (is_sorted by_bytes es) = subst (λ l. T (is_sorted by_bytes l)) c.self.view_is c.self.invariant in
    let same = ap length (c.deref-entry-items.ensures.value ∙ c.self.view_is) in
    let over : c.loop-i.i ≡ c.len.result = omega (arith, c.deref-entry-items.ensures.len) in
    free_end c.args.name.now es c.len.result ascending
    (subst (λ n. AllBefore c.args.name.now (take n es)) over c.loop-i.invariant)
    (sym same ∙ omega (arith, c.deref-entry-items.ensures.len))
