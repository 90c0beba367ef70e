-- Where one operation more is added, and what stands there then.
use Rattle.std.proofs.Common.{◌≡◌, ℕ, zero, suc, ◌-◌, ◌<◌, ◌≤◌, Bool, true, false, ◌&&◌, cond, List, [], ◌∷◌, ◌++◌, length, take, drop, get_or, set, insert, Some, None, refl, sym, ap, ◌∙◌, arith, ◌+◌, ◌^◌}
use Rattle.std.proofs.Math.Numerals.{sub-one}
use Rattle.std.proofs.lemmas.List.{set-get_or}
use Rattle.std.specs.Prelude.{MatchBool}
use Rattle.delta.specs.Operation.{Operation, insert_text, insert_embed, retain, delete, is_insert, is_delete, merged, op_len, op_base, op_out, base_of, out_of}
use Rattle.delta.specs.steps.Building.{neighbours, added, place_of, IsAddedApart}

-- by the last operation
pub place_of-last : (ops : List Operation) (k : ℕ) (op d : Operation) → length ops ≡ suc k → place_of ops op ≡ cond (is_delete (get_or ops k d) && is_insert op) k (suc k)
place_of-last [] k op d e = absurd (omega arith)
place_of-last (a ∷ []) zero op d e = refl
place_of-last (a ∷ []) (suc k) op d e = absurd (omega arith)
place_of-last (a ∷ b ∷ r) zero op d e = absurd (omega arith)
place_of-last (a ∷ b ∷ r) (suc k) op d e =
    ap suc (place_of-last (b ∷ r) k op d (omega arith))
    ∙ elim (is_delete (get_or (b ∷ r) k d) && is_insert op) as (λ t. suc (cond t k (suc k)) ≡ cond t (suc k) (suc (suc k))) [ true ↦ refl | false ↦ refl ]

pub place_of-le : (ops : List Operation) (op : Operation) → place_of ops op ≤ length ops
place_of-le [] op = omega arith
place_of-le (a ∷ []) op = elim (is_delete a && is_insert op) as (λ t. cond t 0 1 ≤ 1) [ true ↦ omega arith | false ↦ omega arith ]
place_of-le (a ∷ b ∷ r) op = omega (arith, place_of-le (b ∷ r) op)

-- added after the first operations: beside the last of them
pub added-take : (ops : List Operation) (k : ℕ) (op d : Operation) → k < length ops → added (take (suc k) ops) op ≡ take k ops ++ neighbours (merged (get_or ops k d) op) (get_or ops k d) op []
added-take [] k op d h = absurd (omega arith)
added-take (a ∷ r) zero op d h = refl
added-take (a ∷ []) (suc k) op d h = absurd (omega arith)
added-take (a ∷ b ∷ r) (suc k) op d h = ap (λ l. a ∷ l) (added-take (b ∷ r) k op d (omega arith))

pub place_of-before : (ops : List Operation) (op d : Operation) → 0 < length ops → (is_delete (get_or ops (length ops - 1) d) && is_insert op) ≡ true → length ops - 1 ≡ place_of ops op
place_of-before ops op d some e =
    sym (place_of-last ops (length ops - 1) op d (omega arith) ∙ ap (λ t. cond t (length ops - 1) (suc (length ops - 1))) e)

pub place_of-end : (ops : List Operation) (op d : Operation) → 0 < length ops → (is_delete (get_or ops (length ops - 1) d) && is_insert op) ≡ false → length ops ≡ place_of ops op
place_of-end ops op d some e =
    let k : length ops ≡ suc (length ops - 1) = omega arith in
    k ∙ sym (place_of-last ops (length ops - 1) op d k ∙ ap (λ t. cond t (length ops - 1) (suc (length ops - 1))) e)

pub place_of-none : (ops : List Operation) (op : Operation) → length ops ≤ 0 → length ops ≡ place_of ops op
place_of-none [] op none = refl
place_of-none (a ∷ ops) op none = absurd (omega arith)

-- merged with the one before its place, or put at its place
pub merged-there : (ops : List Operation) (k : ℕ) (op d m : Operation) → k < length ops → merged (get_or ops k d) op ≡ Some m → set ops k m ≡ added (take (suc k) ops) op ++ drop (suc k) ops
merged-there [] k op d m h e = absurd (omega arith)
merged-there (a ∷ r) zero op d m h e = ap (λ o. neighbours o a op [] ++ r) (sym e)
merged-there (a ∷ []) (suc k) op d m h e = absurd (omega arith)
merged-there (a ∷ b ∷ r) (suc k) op d m h e = ap (λ l. a ∷ l) (merged-there (b ∷ r) k op d m (omega arith) e)

pub put-there : (ops : List Operation) (k : ℕ) (op d : Operation) → k < length ops → merged (get_or ops k d) op ≡ None → insert ops (suc k) op ≡ added (take (suc k) ops) op ++ drop (suc k) ops
put-there [] k op d h e = absurd (omega arith)
put-there (a ∷ r) zero op d h e = ap (λ o. neighbours o a op [] ++ r) (sym e)
put-there (a ∷ []) (suc k) op d h e = absurd (omega arith)
put-there (a ∷ b ∷ r) (suc k) op d h e = ap (λ l. a ∷ l) (put-there (b ∷ r) k op d (omega arith) e)

-- no operation is longer than all of them
op_len-both : (op : Operation) → op_len op ≤ op_base op + op_out op
op_len-both (insert_text us a) = omega arith
op_len-both (insert_embed key value a) = omega arith
op_len-both (retain n c) = omega arith
op_len-both (delete n) = omega arith

pub op_len-le : (ops : List Operation) (k : ℕ) (d : Operation) → k < length ops → op_len (get_or ops k d) ≤ base_of ops + out_of ops
op_len-le [] k d h = absurd (omega arith)
op_len-le (a ∷ r) zero d h = omega (arith, op_len-both a)
op_len-le (a ∷ r) (suc k) d h = omega (arith, op_len-le r k d (omega arith))

pub op_len-room : (op : Operation) (base out : ℕ) → base + op_base op ≤ 2 ^ 48 → out + op_out op ≤ 2 ^ 48 → base + out + op_len op ≤ 2 ^ 49
op_len-room op base out base_fits out_fits = omega (arith, op_len-both op)

-- the same by the place itself
pub merged-at : (ops : List Operation) (place : ℕ) (op last m : Operation) → 0 < place → place ≤ length ops → last ≡ get_or ops (place - 1) last → merged last op ≡ Some m
    → set ops (place - 1) m ≡ added (take place ops) op ++ drop place ops
merged-at ops zero op last m some within is e = absurd (omega arith)
merged-at ops (suc k) op last m some within is e =
    let h : k < length ops = omega arith in
    ap (λ n. set ops n m) (sub-one (suc k)) ∙ merged-there ops k op last m h (ap (λ o. merged o op) (sym (is ∙ ap (λ n. get_or ops n last) (sub-one (suc k)))) ∙ e)

pub put-at : (ops : List Operation) (place : ℕ) (op last m : Operation) → 0 < place → place ≤ length ops → last ≡ get_or ops (place - 1) last → merged last op ≡ None → m ≡ last
    → IsAddedApart ops (set ops (place - 1) m) place op
put-at ops zero op last m some within is e same = absurd (omega arith)
put-at ops (suc k) op last m some within is e same =
    let h : k < length ops = omega arith in
    let at : last ≡ get_or ops k last = is ∙ ap (λ n. get_or ops n last) (sub-one (suc k)) in record {
      same = ap (λ n. set ops n m) (sub-one (suc k)) ∙ (ap (set ops k) (same ∙ at) ∙ set-get_or ops k last);
      there = put-there ops k op last h (ap (λ o. merged o op) (sym at) ∙ e);
    }

pub put-first : (ops : List Operation) (op : Operation) → IsAddedApart ops ops 0 op
put-first ops op = record { same = refl; there = refl }

pub merge-at : (yes : Bool) (ops : List Operation) (place : ℕ) (op last m : Operation) → 0 < place → place ≤ length ops → last ≡ get_or ops (place - 1) last
    → MatchBool yes (merged last op ≡ Some m) ((merged last op ≡ None) × (m ≡ last))
    → MatchBool yes (set ops (place - 1) m ≡ added (take place ops) op ++ drop place ops) (IsAddedApart ops (set ops (place - 1) m) place op)
merge-at true ops place op last m some within is h = merged-at ops place op last m some within is h
merge-at false ops place op last m some within is h = put-at ops place op last m some within is h.0 h.1
