use Rattle.std.proofs.Common.{[], ◌≡◌, ℕ, ◌+◌, ◌-◌, max, Bool, List, length, drop, sym, ap, ap₂, subst, ◌∙◌, arith}
use Rattle.revision.specs.declared.rule.taker.Taker.{Taker}
use Rattle.revision.specs.Past.{Parts, Prepared, AreParts, seen, with_steps}
use Rattle.revision.specs.steps.PastView.{parts_of}
use Rattle.revision.specs.steps.Turning.{steps_to_last_reset, floor_after_reset, live_after_takers}
use Rattle.revision.proofs.Parts.{accept_is, accept_are, nothing_prepared}
use Rattle.revision.proofs.FromBase.{slice-from}
use Rattle.revision.proofs.Turning.{turns-within}
use Rattle.std.proofs.lemmas.List.{length-drop}
use Rattle.revision.proofs.past.Past.accept.Goals as goal

pub returns-then-self-len : goal.returns-then-self-len
returns-then-self-len c =
    let parts : Parts = parts_of c.self.inside in
    sym c.self.view_is
    ∙ (nothing_prepared parts c.self.invariant c.args.keep (omega (arith, c.if-self-len.true, c.len.ensures))
    ∙ ap (λ (p : Prepared). record { past = with_steps c.args.keep p.past p.next; next = [] }) c.self.view_is)

pub returns : goal.returns
returns c =
    let parts : Parts = parts_of c.self.inside in
    let added = slice-from parts.count c.as_slice.result.now ∙ ap (λ (l : List Taker). drop parts.count l) c.as_slice.ensures.value in
    let turns : c.count_to_last_reset-turns.result ≡ steps_to_last_reset (drop parts.count parts.takers) = c.count_to_last_reset-turns.ensures ∙ ap steps_to_last_reset added in
    let live : c.live_after-live.result ≡ live_after_takers parts.live (drop parts.count parts.takers) = c.live_after-live.ensures ∙ ap (live_after_takers parts.live) added in
    let all : c.len-self-inside.result ≡ length parts.deltas = omega (arith, c.len-self-inside.ensures) in
    let turned : c.floor_after_reset.result ≡ floor_after_reset (parts.start + parts.count) parts.floor (steps_to_last_reset (drop parts.count parts.takers)) =
    c.floor_after_reset.ensures ∙ ap (floor_after_reset (parts.start + parts.count) parts.floor) turns in
    let floor_is : c.max-self-inside.result
    ≡ max (floor_after_reset (parts.start + parts.count) parts.floor (steps_to_last_reset (drop parts.count parts.takers))) (parts.start + length parts.deltas - c.args.keep) =
    omega (arith, c.max-self-inside.ensures, turned, c.saturating_sub-least.ensures, c.from.ensures, c.len-2.ensures) in
    ap₂ (λ (n : ℕ) (l : Bool). seen (record parts { count = n; floor = c.max-self-inside.result; live = l })) all live
    ∙ (accept_is parts c.self.invariant c.args.keep c.max-self-inside.result c.requires.some (omega (arith, c.if-self-len.false, c.len.ensures, c.self.invariant.count)) floor_is
    ∙ ap (λ (p : Prepared). record { past = with_steps c.args.keep p.past p.next; next = [] }) c.self.view_is)

pub invariant_of-self : goal.invariant_of-self
invariant_of-self c =
    let parts : Parts = parts_of c.self.inside in
    let added = slice-from parts.count c.as_slice.result.now ∙ ap (λ (l : List Taker). drop parts.count l) c.as_slice.ensures.value in
    let turns : c.count_to_last_reset-turns.result ≡ steps_to_last_reset (drop parts.count parts.takers) = c.count_to_last_reset-turns.ensures ∙ ap steps_to_last_reset added in
    let live : c.live_after-live.result ≡ live_after_takers parts.live (drop parts.count parts.takers) = c.live_after-live.ensures ∙ ap (live_after_takers parts.live) added in
    let all : c.len-self-inside.result ≡ length parts.deltas = omega (arith, c.len-self-inside.ensures) in
    let turned : c.floor_after_reset.result ≡ floor_after_reset (parts.start + parts.count) parts.floor (steps_to_last_reset (drop parts.count parts.takers)) =
    c.floor_after_reset.ensures ∙ ap (floor_after_reset (parts.start + parts.count) parts.floor) turns in
    let floor_is : c.max-self-inside.result
    ≡ max (floor_after_reset (parts.start + parts.count) parts.floor (steps_to_last_reset (drop parts.count parts.takers))) (parts.start + length parts.deltas - c.args.keep) =
    omega (arith, c.max-self-inside.ensures, turned, c.saturating_sub-least.ensures, c.from.ensures, c.len-2.ensures) in
    subst (λ (n : ℕ). AreParts (record parts { count = n; floor = c.max-self-inside.result; live = c.live_after-live.result })) (sym all)
    (subst (λ (l : Bool). AreParts (record parts { count = length parts.deltas; floor = c.max-self-inside.result; live = l })) (sym live)
    (accept_are parts c.self.invariant c.args.keep c.max-self-inside.result c.requires.some c.requires.bound floor_is))

pub floor_after_reset-requires : goal.floor_after_reset-requires
floor_after_reset-requires c =
    let parts : Parts = parts_of c.self.inside in
    let added = slice-from parts.count c.as_slice.result.now ∙ ap (λ (l : List Taker). drop parts.count l) c.as_slice.ensures.value in
    let turns : c.count_to_last_reset-turns.result ≡ steps_to_last_reset (drop parts.count parts.takers) = c.count_to_last_reset-turns.ensures ∙ ap steps_to_last_reset added in
    omega (arith, turns, turns-within (drop parts.count parts.takers), length-drop parts.count parts.takers, c.self.invariant.same, c.self.invariant.count, c.self.invariant.revision)
