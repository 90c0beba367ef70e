-- Members of whose documents each has a closed cell: none is to be closed for them.
use Rattle.std.proofs.Common.{◌≡◌, inl, inr, ℕ, ◌+◌, ◌<◌, true, false, Bool, Some, None, List, length, get_or, refl, sym, ◌∙◌, ap, subst, arith}
use Rattle.std.specs.Prelude.{slice_get}
use Rattle.std.proofs.lemmas.Option.{slice_get-get_or, same_Some}
use Rattle.history.specs.Cell.{Pair, freed}
use Rattle.milestone.specs.declared.cells.Cells.{Cells}
use Rattle.milestone.specs.Cells.{Fits, HasClosed, revisions_of}
use Rattle.milestone.specs.Revisions.{revisions_in}
use Rattle.recovery.specs.declared.group.Member.{Member}
use Rattle.recovery.specs.steps.Group.{is_in, part, HaveClosed, Stand}
use Rattle.recovery.proofs.Covering.{low_or_above}
use Rattle.recovery.proofs.Members.{part_own, part_other}
use Rattle.recovery.proofs.PutGroups.{member_of}

-- a pair with a closed cell has none that is closed for a milestone
freed_same : (pair : Pair) → HasClosed (revisions_in pair) → freed pair ≡ pair
freed_same (None, second) closed = refl
freed_same (Some first, None) closed = refl
freed_same (Some first, Some second) (inl none) = absurd cc
freed_same (Some first, Some second) (inr none) = absurd cc

pub none_freed : (ms : List Member) (held : ℕ → Pair) (known : List Cells) (content : List ℕ) → HaveClosed ms known → Stand held known content
    → Stand (part ms (λ n. freed (held n)) held) known content
none_freed ms held known content closed stand n one at = subst (Fits content one) (sym (by_test (is_in ms n) refl)) (stand n one at)
  where
    by_test : (b : Bool) → is_in ms n ≡ b → part ms (λ k. freed (held k)) held n ≡ held n
    by_test true is =
        let found = member_of ms n (λ m. (c : Cells) → slice_get known m.document ≡ Some c → HasClosed (revisions_of c)) closed is in
        let its : HasClosed (revisions_of one) = found.2 one (ap (λ k. slice_get known k) found.1 ∙ at) in
        part_own ms (λ k. freed (held k)) held n is ∙ freed_same (held n) (subst HasClosed (stand n one at).revisions its)
    by_test false is = part_other ms (λ k. freed (held k)) held n is

-- one member more
pub closed_more : (ms : List Member) (known : List Cells) (k : ℕ) (m : Member) (P : Member → Type 0) → k < length ms → get_or ms k m ≡ m → P m
    → ((j : ℕ) (x : Member) → j < k → get_or ms j x ≡ x → P x) → (j : ℕ) (x : Member) → j < k + 1 → get_or ms j x ≡ x → P x
closed_more ms known k m P inside is has before j x below at = elim (low_or_above k j) [
  | inr less ↦ before j x less at
  | inl above ↦
      let last : k ≡ j = omega (arith, above, below) in
      let same : m ≡ x = same_Some m x (ap Some (sym is) ∙ (sym (slice_get-get_or ms k m inside) ∙ (ap (λ n. slice_get ms n) last
      ∙ (slice_get-get_or ms j x (omega (arith, last, inside)) ∙ ap Some at)))) in
      subst P same has
]
