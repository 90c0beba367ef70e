-- Members of a group, one behind another, and what documents of theirs have.
use Rattle.std.proofs.Common.{◌≡◌, ◌≢◌, ℕ, zero, suc, ◌+◌, ◌<◌, true, false, Bool, List, [], ◌∷◌, ◌++◌, length, take, get_or, refl, sym, ◌∙◌, ap, arith}
use Rattle.std.specs.Prelude.{◌==◌, ◌||◌, cond}
use Rattle.std.proofs.lemmas.Bool.{false≢true, eq-eqb, or_parts}
use Rattle.std.proofs.Math.Bool.{or_assoc}
use Rattle.std.proofs.lemmas.Bool.Decides.{nat_tests}
use Rattle.std.proofs.lemmas.List.{take_more}
use Rattle.history.specs.Cell.{Pair}
use Rattle.recovery.specs.declared.group.Member.{Member}
use Rattle.recovery.specs.steps.Group.{is_in, part, AreDistinct}

or_none : (a : Bool) → (a || false) ≡ a
or_none true = refl
or_none false = refl

pub or_all : (a : Bool) → (a || true) ≡ true
or_all true = refl
or_all false = refl

pub is_in_push : (ms : List Member) (m : Member) (n : ℕ) → is_in (ms ++ m ∷ []) n ≡ (is_in ms n || (m.document == n))
is_in_push [] m n = or_none (m.document == n)
is_in_push (first ∷ others) m n =
    ap (λ (b : Bool). (first.document == n) || b) (is_in_push others m n) ∙ sym (or_assoc (first.document == n) (is_in others n) (m.document == n))

-- a member is one of them
pub in_at : (ms : List Member) (k : ℕ) (m : Member) → k < length ms → get_or ms k m ≡ m → is_in ms m.document ≡ true
in_at [] k m inside is = absurd (omega (arith, inside))
in_at (first ∷ others) zero m inside is =
    ap (λ (b : Bool). b || is_in others m.document) (eq-eqb first.document m.document (ap (λ (x : Member). x.document) is))
in_at (first ∷ others) (suc k) m inside is =
    ap (λ (b : Bool). (first.document == m.document) || b) (in_at others k m (omega (arith, inside)) is) ∙ or_all (first.document == m.document)

module _ (ms : List Member) (k : ℕ) (m : Member) (inside : k < length ms) (is : get_or ms k m ≡ m) where
  pub in_more : (n : ℕ) → is_in (take (k + 1) ms) n ≡ (is_in (take k ms) n || (m.document == n))
  in_more n =
      ap (λ (l : List Member). is_in l n) (take_more ms k m inside ∙ ap (λ (x : Member). take k ms ++ x ∷ []) is) ∙ is_in_push (take k ms) m n

  pub in_next : is_in (take (k + 1) ms) m.document ≡ true
  in_next =
      in_more m.document
      ∙ (ap (λ (b : Bool). is_in (take k ms) m.document || b) (eq-eqb m.document m.document refl) ∙ or_all (is_in (take k ms) m.document))

  pub in_other : (n : ℕ) → m.document ≢ n → is_in (take (k + 1) ms) n ≡ is_in (take k ms) n
  in_other n apart =
      let away : (m.document == n) ≡ false = grind (arith, nat_tests) in
      in_more n ∙ (ap (λ (b : Bool). is_in (take k ms) n || b) away ∙ or_none (is_in (take k ms) n))

  -- one that isn't among them with the next one isn't among them, and isn't the next one
  pub not_before : (n : ℕ) → is_in (take (k + 1) ms) n ≡ false → is_in (take k ms) n ≡ false
  not_before n away = (or_parts (is_in (take k ms) n) (m.document == n) (sym (in_more n) ∙ away)).0

  pub not_next : (n : ℕ) → is_in (take (k + 1) ms) n ≡ false → m.document ≢ n
  not_next n away same =
      false≢true (sym ((or_parts (is_in (take k ms) n) (m.document == n) (sym (in_more n) ∙ away)).1) ∙ eq-eqb m.document n same)

  -- what the documents have once the next one's has changed
  module _ (own others : ℕ → Pair) where
    pub part_next : part (take (k + 1) ms) own others m.document ≡ own m.document
    part_next = ap (λ (b : Bool). cond b (own m.document) (others m.document)) in_next

    pub part_still : (n : ℕ) → m.document ≢ n → part (take (k + 1) ms) own others n ≡ part (take k ms) own others n
    part_still n apart = ap (λ (b : Bool). cond b (own n) (others n)) (in_other n apart)

    pub part_before : AreDistinct ms → part (take k ms) own others m.document ≡ others m.document
    part_before distinct = ap (λ (b : Bool). cond b (own m.document) (others m.document)) (distinct k m inside is)

pub part_own : (ms : List Member) (own others : ℕ → Pair) (n : ℕ) → is_in ms n ≡ true → part ms own others n ≡ own n
part_own ms own others n is = ap (λ (b : Bool). cond b (own n) (others n)) is

pub part_other : (ms : List Member) (own others : ℕ → Pair) (n : ℕ) → is_in ms n ≡ false → part ms own others n ≡ others n
part_other ms own others n is = ap (λ (b : Bool). cond b (own n) (others n)) is
