use Rattle.std.proofs.Common.{◌≡◌, ℕ, ◌+◌, ◌-◌, ◌≤◌, List, take, sym, ap, ap₂, subst, ◌∙◌, arith}
use Rattle.delta.specs.Element.{Element}
use Rattle.delta.specs.Operation.{Operation}
use Rattle.compose.specs.Many.{applied}
use Rattle.revision.specs.declared.past.kept_document.Kept.{Kept}
use Rattle.revision.specs.declared.rule.taker.Taker.{Taker}
use Rattle.revision.specs.Past.{Parts, AreParts, AreKept, AreNoted, seen, sources_after, changes_by}
use Rattle.revision.specs.steps.PastView.{parts_of}
use Rattle.revision.proofs.LettingGo.{later_parts, later_are, later_is, noted_there}
use Rattle.revision.proofs.past.Past.prune.Goals as goal

pub sources_after_first-noted-requires-clause-noted : goal.sources_after_first-noted-requires-clause-noted
sources_after_first-noted-requires-clause-noted c =
    let parts : Parts = parts_of c.self.inside in
    subst (AreNoted parts.start parts.sources (changes_by c.as_slice-3.result.now c.as_slice-4.result.now)) (sym c.as_slice-2.ensures.value)
    (subst (λ (t : List Taker). AreNoted parts.start parts.sources (changes_by t c.as_slice-4.result.now) parts.kept) (sym c.as_slice-3.ensures.value)
    (subst (λ (d : List (List Operation)). AreNoted parts.start parts.sources (changes_by parts.takers d) parts.kept) (sym c.as_slice-4.ensures.value) c.self.invariant.noted))

pub invariant_of-self : goal.invariant_of-self
invariant_of-self c =
    let parts : Parts = parts_of c.self.inside in
    let from : ℕ = c.beginning-from.result.0 in
    let gone : ℕ = from - parts.start in
    let passed : ℕ = c.count_up_to-passed.result in
    let sources = c.in-Ok-noted.sources in
    let within : gone ≤ parts.floor - parts.start = omega (arith, c.beginning-from.ensures.below, c.beginning-from.ensures.above) in
    let start_is : parts.start + gone ≡ from = omega (arith, c.beginning-from.ensures.above) in
    let kept = subst (AreKept parts.start parts.count parts.units parts.deltas) (sym c.as_slice.ensures.value) c.self.invariant.kept in
    let units : c.in-Ok.document ≡ applied parts.units (take gone parts.deltas) = c.in-Ok.ensures.same ∙ c.beginning-from.ensures.there parts.count parts.deltas kept in
    let sources_is = c.in-Ok-noted.ensures.sources
    ∙ ap₂ (λ (t : List Taker) (d : List (List Operation)). sources_after parts.start parts.sources (changes_by (take gone t) (take gone d))) c.as_slice-3.ensures.value c.as_slice-4.ensures.value in
    subst (λ (n : ℕ). AreParts (record (later_parts parts gone sources passed) { start = n; units = c.in-Ok.document; takers = c.drop_first.new.items.items; deltas = c.drop_first-in-Ok-noted.new.items.items; kept = c.drop_first-in-Ok-noted-2.new.items.items })) start_is
    (subst (λ (u : List Element). AreParts (record (later_parts parts gone sources passed) { units = u; takers = c.drop_first.new.items.items; deltas = c.drop_first-in-Ok-noted.new.items.items; kept = c.drop_first-in-Ok-noted-2.new.items.items })) (sym units)
    (subst (λ (t : List Taker). AreParts (record (later_parts parts gone sources passed) { takers = t; deltas = c.drop_first-in-Ok-noted.new.items.items; kept = c.drop_first-in-Ok-noted-2.new.items.items })) (sym c.drop_first.ensures)
    (subst (λ (d : List (List Operation)). AreParts (record (later_parts parts gone sources passed) { deltas = d; kept = c.drop_first-in-Ok-noted-2.new.items.items })) (sym c.drop_first-in-Ok-noted.ensures)
    (subst (λ (k : List Kept). AreParts (record (later_parts parts gone sources passed) { kept = k })) (sym c.drop_first-in-Ok-noted-2.ensures)
    (later_are parts c.self.invariant gone sources passed within sources_is)))))

pub returns-in-Ok-noted : goal.returns-in-Ok-noted
returns-in-Ok-noted c =
    let parts : Parts = parts_of c.self.inside in
    let from : ℕ = c.beginning-from.result.0 in
    let gone : ℕ = from - parts.start in
    let passed : ℕ = c.count_up_to-passed.result in
    let sources = c.in-Ok-noted.sources in
    let within : gone ≤ parts.floor - parts.start = omega (arith, c.beginning-from.ensures.below, c.beginning-from.ensures.above) in
    let start_is : from ≡ parts.start + gone = omega (arith, c.beginning-from.ensures.above) in
    let kept = subst (AreKept parts.start parts.count parts.units parts.deltas) (sym c.as_slice.ensures.value) c.self.invariant.kept in
    let units : c.in-Ok.document ≡ applied parts.units (take gone parts.deltas) = c.in-Ok.ensures.same ∙ c.beginning-from.ensures.there parts.count parts.deltas kept in
    let noted = noted_there parts c.self.invariant gone sources within
    (c.in-Ok-noted.ensures.sources ∙ ap₂ (λ (t : List Taker) (d : List (List Operation)). sources_after parts.start parts.sources (changes_by (take gone t) (take gone d))) c.as_slice-3.ensures.value c.as_slice-4.ensures.value) in
    ap (λ (n : ℕ). seen (record (later_parts parts gone sources passed) { start = n; units = c.in-Ok.document; takers = c.drop_first.new.items.items; deltas = c.drop_first-in-Ok-noted.new.items.items })) start_is
    ∙ (ap (λ (u : List Element). seen (record (later_parts parts gone sources passed) { units = u; takers = c.drop_first.new.items.items; deltas = c.drop_first-in-Ok-noted.new.items.items })) units
    ∙ (ap₂ (λ (t : List Taker) (d : List (List Operation)). seen (record (later_parts parts gone sources passed) { takers = t; deltas = d })) c.drop_first.ensures c.drop_first-in-Ok-noted.ensures
    ∙ (later_is parts c.self.invariant gone sources passed within noted ∙ c.self.view_is)))
