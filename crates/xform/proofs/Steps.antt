-- The first step along two lists of operations.
use Rattle.std.proofs.Common.{◌≡◌, ℕ, zero, suc, ◌+◌, ◌-◌, ◌<◌, ◌≤◌, ◌⊎◌, ⊎_elim, inl, inr, Bool, true, false, cond, List, [], ◌∷◌, length, min, refl, sym, ap, subst, ◌∙◌, arith}
use Rattle.std.proofs.lemmas.Bool.{ltb-true, ltb-false, le-ltb}
use Rattle.std.proofs.lemmas.List.{length-map}
use Rattle.std.proofs.Math.Nat.{min-le_left, min-le_right}
use Rattle.std.specs.Prelude.{nat_lt}
use Rattle.attributes.specs.Attributes.{Changes}
use Rattle.attributes.specs.Map.{empty}
use Rattle.delta.specs.Element.{Element, letters, lettered, embedded}
use Rattle.delta.specs.Operation.{Operation, insert_text, insert_embed, retain, delete, is_insert, op_len, op_out, base_of, out_of}
use Rattle.delta.specs.Gaps.{Gaps, End, Fate, Del, Keep, front, run, counted, joined}
use Rattle.delta.specs.Normal.{NoneIsEmpty}
use Rattle.delta.specs.Parts.{left_after}
use Rattle.delta.proofs.CallerLemmas.{front-nil, joined-run, joined-front, counted-append, run-parts}
use Rattle.delta.specs.Places.{IsBare}
use Rattle.xform.specs.After.{fate_after, after}
use Rattle.xform.specs.steps.Stepping.{made_of, BeginsWithInsert, IsStep}
use Rattle.xform.proofs.Heads.{after-first, after-second, after-deleted, after-kept, after-nothing}

-- units of one fate, as an operation
abbrev pub stretch : ℕ → Fate → Operation
stretch n Del = delete n
stretch n (Keep c) = retain n c

-- how many of so many units of a fate are left
abbrev pub kept_of : ℕ → Fate → ℕ
kept_of k Del = 0
kept_of k (Keep c) = k

-- what is left without some units of this fate
record IsCut (k : ℕ) (f : Fate) (all left : List Operation) : Type 0 where
  counted_is : counted all ≡ run k f (counted left)
  base_is : base_of all ≡ k + base_of left
  out_is : out_of all ≡ kept_of k f + out_of left
  some : NoneIsEmpty all → NoneIsEmpty left
  length_le : length left ≤ length all

part-kept : (n k : ℕ) (c : Changes) (ops : List Operation) → k < n → IsCut k (Keep c) (retain n c ∷ ops) (retain (n - k) c ∷ ops)
part-kept n k c ops h = record {
  counted_is = run-parts n k (n - k) (Keep c) (counted ops) (omega arith);
  base_is = omega arith;
  out_is = omega arith;
  some = λ all. (omega arith, all.1);
  length_le = omega arith;
}

part-deleted : (n k : ℕ) (ops : List Operation) → k < n → IsCut k Del (delete n ∷ ops) (delete (n - k) ∷ ops)
part-deleted n k ops h = record {
  counted_is = run-parts n k (n - k) Del (counted ops) (omega arith);
  base_is = omega arith;
  out_is = omega arith;
  some = λ all. (omega arith, all.1);
  length_le = omega arith;
}

whole-kept : (n k : ℕ) (c : Changes) (ops : List Operation) → n ≡ k → IsCut k (Keep c) (retain n c ∷ ops) ops
whole-kept n k c ops e = record {
  counted_is = ap (λ m. run m (Keep c) (counted ops)) e;
  base_is = omega arith;
  out_is = omega arith;
  some = λ all. all.1;
  length_le = omega arith;
}

whole-deleted : (n k : ℕ) (ops : List Operation) → n ≡ k → IsCut k Del (delete n ∷ ops) ops
whole-deleted n k ops e = record {
  counted_is = ap (λ m. run m Del (counted ops)) e;
  base_is = omega arith;
  out_is = omega arith;
  some = λ all. all.1;
  length_le = omega arith;
}

is_cut : (f : Fate) (n k : ℕ) (ops : List Operation) → k ≤ n → IsCut k f (stretch n f ∷ ops) (left_after k (stretch n f) ops)
is_cut Del n k ops h =
    elim (nat_lt k n) as (λ t. nat_lt k n ≡ t → IsCut k Del (delete n ∷ ops) (cond t (delete (n - k) ∷ ops) ops)) [
      | true ↦ λ e. part-deleted n k ops (ltb-true k n e)
      | false ↦ λ e. let le : n ≤ k = ltb-false k n e in whole-deleted n k ops (omega arith)
    ] refl
is_cut (Keep c) n k ops h =
    elim (nat_lt k n) as (λ t. nat_lt k n ≡ t → IsCut k (Keep c) (retain n c ∷ ops) (cond t (retain (n - k) c ∷ ops) ops)) [
      | true ↦ λ e. part-kept n k c ops (ltb-true k n e)
      | false ↦ λ e. let le : n ≤ k = ltb-false k n e in whole-kept n k c ops (omega arith)
    ] refl

-- all of its units: the operation is gone
cut-all : (f : Fate) (n k : ℕ) (ops : List Operation) → n ≤ k → left_after k (stretch n f) ops ≡ ops
cut-all Del n k ops h = ap (λ t. cond t (delete (n - k) ∷ ops) ops) (le-ltb k n h)
cut-all (Keep c) n k ops h = ap (λ t. cond t (retain (n - k) c ∷ ops) ops) (le-ltb k n h)

-- an insert, counted out
counted-insert : (op : Operation) (ops : List Operation) → is_insert op ≡ true
    → (xs : List Element) × (counted (op ∷ ops) ≡ front xs (counted ops)) × (counted (op ∷ []) ≡ front xs (End [])) × (length xs ≡ op_out op)
counted-insert (insert_text us a) ops is = (letters us a, refl, refl, length-map us (λ u. lettered u a))
counted-insert (insert_embed key value a) ops is = (embedded key value a ∷ [], refl, refl, refl)
counted-insert (retain n c) ops is = absurd (cc)
counted-insert (delete n) ops is = absurd (cc)

joined-stretch : (f : Fate) (k : ℕ) (g : Gaps) → joined (counted (stretch k f ∷ [])) g ≡ run k f g
joined-stretch Del k g = joined-run k Del (End []) g ∙ ap (run k Del) (front-nil g)
joined-stretch (Keep c) k g = joined-run k (Keep c) (End []) g ∙ ap (run k (Keep c)) (front-nil g)

-- nothing is inserted where the first operation is no insert
bare-filled : (n : ℕ) (f : Fate) (g : Gaps) → 0 < n → IsBare (run n f g)
bare-filled zero f g some = absurd (omega arith)
bare-filled (suc n) f g some = tt

pub bare-from : (ops : List Operation) → NoneIsEmpty ops → ¬ (BeginsWithInsert ops) → IsBare (counted ops)
bare-from [] some other = tt
bare-from (insert_text us a ∷ ops) some other = absurd (other refl)
bare-from (insert_embed key value a ∷ ops) some other = absurd (other refl)
bare-from (retain n c ∷ ops) some other = bare-filled n (Keep c) (counted ops) some.0
bare-from (delete n ∷ ops) some other = bare-filled n Del (counted ops) some.0

-- past an insert of the first
pub step-first : (op : Operation) (a b : List Operation) (priority : Bool) → is_insert op ≡ true → (priority ≡ true) ⊎ IsBare (counted b)
    → IsStep (op ∷ a) b (retain (op_out op) empty ∷ []) a b priority
step-first op a b priority is may =
    let parts = counted-insert op a is in record {
      same =
          ap (λ g. after g (counted b) priority) parts.1
          ∙ (after-first parts.0 (counted a) (counted b) priority may
          ∙ (ap (λ n. run n (Keep empty) (after (counted a) (counted b) priority)) parts.3
          ∙ sym (joined-stretch (Keep empty) (op_out op) (after (counted a) (counted b) priority))));
      first_some = λ all. all.1;
      second_some = λ all. all;
      base = omega arith;
      out = omega arith;
      shorter = omega arith;
    }

-- past an insert of the second
step-insert : (op : Operation) (a b : List Operation) (priority : Bool) → is_insert op ≡ true → (priority ≡ false) ⊎ IsBare (counted a)
    → IsStep a (op ∷ b) (op ∷ []) a b priority
step-insert op a b priority is may =
    let parts = counted-insert op b is in record {
      same =
          ap (λ h. after (counted a) h priority) parts.1
          ∙ (after-second parts.0 (counted a) (counted b) priority may
          ∙ sym (ap (λ g. joined g (after (counted a) (counted b) priority)) parts.2
          ∙ (joined-front parts.0 (End []) (after (counted a) (counted b) priority) ∙ ap (front parts.0) (front-nil (after (counted a) (counted b) priority)))));
      first_some = λ all. all;
      second_some = λ all. all.1;
      base = omega arith;
      out = omega arith;
      shorter = omega arith;
    }

-- past any operation of the second where nothing is left of the first
step-past_end : (op : Operation) (b : List Operation) (priority : Bool) → IsStep [] (op ∷ b) (op ∷ []) [] b priority
step-past_end op b priority = record {
  same =
      after-nothing (counted (op ∷ b)) priority
      ∙ (counted-append (op ∷ []) b ∙ ap (joined (counted (op ∷ []))) (sym (after-nothing (counted b) priority)));
  first_some = λ all. all;
  second_some = λ all. all.1;
  base = omega arith;
  out = omega arith;
  shorter = omega arith;
}

pub step-second : (op : Operation) (a b : List Operation) (priority : Bool) → NoneIsEmpty a
    → (a ≡ []) ⊎ ((is_insert op ≡ true) × ((priority ≡ false) ⊎ ¬ (BeginsWithInsert a))) → IsStep a (op ∷ b) (op ∷ []) a b priority
step-second op a b priority some (inl none) = subst (λ l. IsStep l (op ∷ b) (op ∷ []) l b priority) (sym none) (step-past_end op b priority)
step-second op a b priority some (inr turn) = step-insert op a b priority turn.0 (⊎_elim inl (λ other. inr (bare-from a some other)) turn.1)

-- past as many units as both have
fewer : (f e : Fate) (m n k : ℕ) (a b : List Operation) → (m ≤ k) ⊎ (n ≤ k) → k ≤ m → k ≤ n
    → length (left_after k (stretch m f) a) + length (left_after k (stretch n e) b) < length (stretch m f ∷ a) + length (stretch n e ∷ b)
fewer f e m n k a b one h_a h_b =
    let cut_a = is_cut f m k a h_a in
    let cut_b = is_cut e n k b h_b in
    ⊎_elim
    (λ all. omega (arith, cut_b.length_le, ap length (cut-all f m k a all)))
    (λ all. omega (arith, cut_a.length_le, ap length (cut-all e n k b all)))
    one

step-deleted : (e : Fate) (m n k : ℕ) (a b : List Operation) (priority : Bool) → (m ≤ k) ⊎ (n ≤ k) → k ≤ m → k ≤ n
    → IsStep (delete m ∷ a) (stretch n e ∷ b) [] (left_after k (delete m) a) (left_after k (stretch n e) b) priority
step-deleted e m n k a b priority one h_a h_b =
    let cut_a = is_cut Del m k a h_a in
    let cut_b = is_cut e n k b h_b in
    let a2 : List Operation = left_after k (delete m) a in
    let b2 : List Operation = left_after k (stretch n e) b in record {
      same =
          ap (λ g. after g (counted (stretch n e ∷ b)) priority) cut_a.counted_is
          ∙ (ap (λ h. after (run k Del (counted a2)) h priority) cut_b.counted_is
          ∙ (after-deleted k e (counted a2) (counted b2) priority ∙ sym (front-nil (after (counted a2) (counted b2) priority))));
      first_some = cut_a.some;
      second_some = cut_b.some;
      base = omega (arith, cut_a.out_is, cut_b.base_is);
      out = omega (arith, cut_a.out_is, cut_b.out_is);
      shorter = fewer Del e m n k a b one h_a h_b;
    }

base-stretch : (f : Fate) (k : ℕ) → base_of (stretch k f ∷ []) ≡ k
base-stretch Del k = omega arith
base-stretch (Keep c) k = omega arith

out-stretch : (f : Fate) (k : ℕ) → out_of (stretch k f ∷ []) ≤ k
out-stretch Del k = omega arith
out-stretch (Keep c) k = omega arith

step-kept : (c : Changes) (e : Fate) (m n k : ℕ) (a b : List Operation) (priority : Bool) → (m ≤ k) ⊎ (n ≤ k) → k ≤ m → k ≤ n
    → IsStep (retain m c ∷ a) (stretch n e ∷ b) (stretch k (fate_after c e priority) ∷ []) (left_after k (retain m c) a) (left_after k (stretch n e) b) priority
step-kept c e m n k a b priority one h_a h_b =
    let cut_a = is_cut (Keep c) m k a h_a in
    let cut_b = is_cut e n k b h_b in
    let a2 : List Operation = left_after k (retain m c) a in
    let b2 : List Operation = left_after k (stretch n e) b in record {
      same =
          ap (λ g. after g (counted (stretch n e ∷ b)) priority) cut_a.counted_is
          ∙ (ap (λ h. after (run k (Keep c) (counted a2)) h priority) cut_b.counted_is
          ∙ (after-kept k c e (counted a2) (counted b2) priority
          ∙ sym (joined-stretch (fate_after c e priority) k (after (counted a2) (counted b2) priority))));
      first_some = cut_a.some;
      second_some = cut_b.some;
      base = omega (arith, cut_a.out_is, cut_b.base_is, base-stretch (fate_after c e priority) k);
      out = omega (arith, cut_a.out_is, cut_b.out_is, out-stretch (fate_after c e priority) k);
      shorter = fewer (Keep c) e m n k a b one h_a h_b;
    }

-- of two lengths one is the least of both
least : (m n : ℕ) → (m ≤ min m n) ⊎ (n ≤ min m n)
least m n =
    elim (nat_lt m n) as (λ t. nat_lt m n ≡ t → (m ≤ min m n) ⊎ (n ≤ min m n)) [
      | true ↦ λ e. let lt : m < n = ltb-true m n e in inl (omega arith)
      | false ↦ λ e. let le : n ≤ m = ltb-false m n e in inr (omega arith)
    ] refl

pub step-both : (one two : Operation) → is_insert one ≡ false → is_insert two ≡ false → (k : ℕ) → k ≡ min (op_len one) (op_len two) → (a b : List Operation) (priority : Bool)
    → IsStep (one ∷ a) (two ∷ b) (made_of one two k priority) (left_after k one a) (left_after k two b) priority
step-both (insert_text us c) two no_one no_two k is a b priority = absurd (cc)
step-both (insert_embed key value c) two no_one no_two k is a b priority = absurd (cc)
step-both one (insert_text us c) no_one no_two k is a b priority = absurd (cc)
step-both one (insert_embed key value c) no_one no_two k is a b priority = absurd (cc)
step-both (delete m) (retain n e) no_one no_two k is a b priority =
    rw is (step-deleted (Keep e) m n (min m n) a b priority (least m n) (min-le_left m n) (min-le_right m n))
step-both (delete m) (delete n) no_one no_two k is a b priority =
    rw is (step-deleted Del m n (min m n) a b priority (least m n) (min-le_left m n) (min-le_right m n))
step-both (retain m c) (retain n e) no_one no_two k is a b priority =
    rw is (step-kept c (Keep e) m n (min m n) a b priority (least m n) (min-le_left m n) (min-le_right m n))
step-both (retain m c) (delete n) no_one no_two k is a b priority =
    rw is (step-kept c Del m n (min m n) a b priority (least m n) (min-le_left m n) (min-le_right m n))
