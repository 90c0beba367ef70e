-- One more operation at the end of a built list.
use Rattle.std.proofs.Common.{◌≡◌, ℕ, suc, ◌+◌, ◌<◌, Bool, true, false, not, ◌&&◌, cond, List, [], ◌∷◌, ◌++◌, take, drop, Option, Some, None, refl, sym, ap, ◌∙◌}
use Rattle.std.proofs.lemmas.Bool.{and_parts, ltb-true}
use Rattle.std.specs.Prelude.{is_none, nat_lt}
use Rattle.attributes.specs.Attributes.{Attributes, Changes, same_attributes, same_changes}
use Rattle.delta.specs.Operation.{Operation, insert_text, insert_embed, retain, delete, is_insert, is_delete, merged, op_len}
use Rattle.delta.specs.Normal.{may_precede, is_built, built}
use Rattle.delta.specs.steps.Building.{neighbours, added, place_of}
use Rattle.delta.proofs.Folding.{consed, built-cons}

-- what may stand before an operation is put before it as it is
apart : (o : Option Operation) (t : Bool) (a b : Operation) (r s : List Operation) → is_none o ≡ true → not t ≡ true → cond t s (neighbours o a b r) ≡ a ∷ b ∷ r
apart None false a b r s none kept = refl
apart None true a b r s none kept = cc
apart (Some m) t a b r s none kept = cc

pub consed-apart : (a b : Operation) (r : List Operation) → may_precede a b ≡ true → consed a (b ∷ r) ≡ a ∷ b ∷ r
consed-apart a b r may =
    let parts = and_parts (is_none (merged a b)) (not (is_delete a && is_insert b)) may in
    apart (merged a b) (is_delete a && is_insert b) a b r (b ∷ consed a r) parts.0 parts.1

-- an operation that another merged into may stand where it stood
some_of : (t : Bool) (x m : Operation) → cond t (Some x) None ≡ Some m → x ≡ m
some_of true x m e = cc
some_of false x m e = absurd (cc)

may_precede-text : (a : Operation) (us vs : List ℕ) (t : Attributes) → may_precede a (insert_text us t) ≡ may_precede a (insert_text vs t)
may_precede-text (insert_text ws s) us vs t =
    elim (same_attributes s t) as (λ e. (is_none (cond e (Some (insert_text (ws ++ us) s)) None) && true) ≡ (is_none (cond e (Some (insert_text (ws ++ vs) s)) None) && true)) [ true ↦ refl | false ↦ refl ]
may_precede-text (insert_embed key value s) us vs t = refl
may_precede-text (retain n c) us vs t = refl
may_precede-text (delete n) us vs t = refl

may_precede-retain : (a : Operation) (m n : ℕ) (c : Changes) → may_precede a (retain m c) ≡ may_precede a (retain n c)
may_precede-retain (insert_text us s) m n c = refl
may_precede-retain (insert_embed key value s) m n c = refl
may_precede-retain (retain k d) m n c =
    elim (same_changes d c) as (λ e. (is_none (cond e (Some (retain (k + m) d)) None) && true) ≡ (is_none (cond e (Some (retain (k + n) d)) None) && true)) [ true ↦ refl | false ↦ refl ]
may_precede-retain (delete k) m n c = refl

may_precede-delete : (a : Operation) (m n : ℕ) → may_precede a (delete m) ≡ may_precede a (delete n)
may_precede-delete (insert_text us s) m n = refl
may_precede-delete (insert_embed key value s) m n = refl
may_precede-delete (retain k d) m n = refl
may_precede-delete (delete k) m n = refl

may_precede-merged : (a b op m : Operation) → merged b op ≡ Some m → may_precede a m ≡ may_precede a b
may_precede-merged a (insert_text us s) (insert_text vs t) m e = ap (may_precede a) (sym (some_of (same_attributes s t) (insert_text (us ++ vs) s) m e)) ∙ may_precede-text a (us ++ vs) us s
may_precede-merged a (retain k c) (retain n d) m e = ap (may_precede a) (sym (some_of (same_changes c d) (retain (k + n) c) m e)) ∙ may_precede-retain a (k + n) k c
may_precede-merged a (delete k) (delete n) m e = ap (may_precede a) (sym (some_of true (delete (k + n)) m e)) ∙ may_precede-delete a (k + n) k
may_precede-merged a (insert_text us s) (insert_embed key value t) m e = absurd (cc)
may_precede-merged a (insert_text us s) (retain n d) m e = absurd (cc)
may_precede-merged a (insert_text us s) (delete n) m e = absurd (cc)
may_precede-merged a (insert_embed key value s) op m e = absurd (cc)
may_precede-merged a (retain k c) (insert_text vs t) m e = absurd (cc)
may_precede-merged a (retain k c) (insert_embed key value t) m e = absurd (cc)
may_precede-merged a (retain k c) (delete n) m e = absurd (cc)
may_precede-merged a (delete k) (insert_text vs t) m e = absurd (cc)
may_precede-merged a (delete k) (insert_embed key value t) m e = absurd (cc)
may_precede-merged a (delete k) (retain n d) m e = absurd (cc)

-- so it is put before what another was added to
consed-added : (a b : Operation) (r s : List Operation) (op : Operation) → may_precede a b ≡ true → consed a (added (b ∷ r) op ++ s) ≡ a ∷ (added (b ∷ r) op ++ s)
consed-added a b [] s op may =
    elim (merged b op) as (λ o. merged b op ≡ o → consed a (neighbours o b op [] ++ s) ≡ a ∷ (neighbours o b op [] ++ s)) [
      | Some m ↦ λ e. consed-apart a m s (may_precede-merged a b op m e ∙ may)
      | None ↦ λ e. consed-apart a b (op ∷ s) may
    ] refl
consed-added a b (c ∷ r) s op may = consed-apart a b (added (c ∷ r) op ++ s) may

-- no delete stands before a delete
not_deleted : (a b : Operation) → may_precede a b ≡ true → is_delete b ≡ true → is_delete a ≡ false
not_deleted (insert_text us s) b may e = refl
not_deleted (insert_embed key value s) b may e = refl
not_deleted (retain n c) b may e = refl
not_deleted (delete m) (delete n) may e = absurd (cc)
not_deleted (delete m) (insert_text us s) may e = absurd (cc)
not_deleted (delete m) (insert_embed key value s) may e = absurd (cc)
not_deleted (delete m) (retain n c) may e = absurd (cc)

neighbours-append : (o : Option Operation) (a b : Operation) (s : List Operation) → neighbours o a b s ≡ neighbours o a b [] ++ s
neighbours-append (Some m) a b s = refl
neighbours-append None a b s = refl

consed-not_deleted : (a b : Operation) (s : List Operation) → is_delete a ≡ false → consed a (b ∷ s) ≡ neighbours (merged a b) a b [] ++ s
consed-not_deleted a b s e = rw e (neighbours-append (merged a b) a b s)

-- the two parts of a built list
is_built-parts : (a b : Operation) (r : List Operation) → is_built (a ∷ b ∷ r) ≡ true → (0 < op_len a) × (may_precede a b ≡ true) × (is_built (b ∷ r) ≡ true)
is_built-parts a b r h =
    let parts = and_parts (nat_lt 0 (op_len a)) (may_precede a b && is_built (b ∷ r)) h in
    let rest = and_parts (may_precede a b) (is_built (b ∷ r)) parts.1 in
    (ltb-true 0 (op_len a) parts.0, rest.0, rest.1)

-- one more operation is added at its place
pub built-push : (ops : List Operation) (op : Operation) → is_built ops ≡ true → 0 < op_len op → built (ops ++ op ∷ []) ≡ added (take (place_of ops op) ops) op ++ drop (place_of ops op) ops
built-push [] op h some = built-cons op [] some
built-push (a ∷ []) op h some =
    built-cons a (op ∷ []) (ltb-true 0 (op_len a) h)
    ∙ (ap (consed a) (built-cons op [] some)
    ∙ elim (is_delete a && is_insert op) as (λ t. cond t (op ∷ a ∷ []) (neighbours (merged a op) a op [])
    ≡ added (take (cond t 0 1) (a ∷ [])) op ++ drop (cond t 0 1) (a ∷ [])) [
      | true ↦ refl
      | false ↦ neighbours-append (merged a op) a op []
    ])
built-push (a ∷ b ∷ []) op h some =
    let parts = is_built-parts a b [] h in
    built-cons a (b ∷ op ∷ []) parts.0
    ∙ (ap (consed a) (built-push (b ∷ []) op parts.2 some)
    ∙ elim (is_delete b && is_insert op) as (λ t. (is_delete b && is_insert op) ≡ t → consed a (added (take (cond t 0 1) (b ∷ [])) op ++ drop (cond t 0 1) (b ∷ []))
    ≡ added (take (suc (cond t 0 1)) (a ∷ b ∷ [])) op ++ drop (suc (cond t 0 1)) (a ∷ b ∷ [])) [
      | true ↦ λ e. consed-not_deleted a op (b ∷ []) (not_deleted a b parts.1 (and_parts (is_delete b) (is_insert op) e).0)
      | false ↦ λ e. consed-added a b [] [] op parts.1
    ] refl)
built-push (a ∷ b ∷ c ∷ r) op h some =
    let parts = is_built-parts a b (c ∷ r) h in
    built-cons a (b ∷ c ∷ r ++ op ∷ []) parts.0
    ∙ (ap (consed a) (built-push (b ∷ c ∷ r) op parts.2 some)
    ∙ consed-added a b (take (place_of (c ∷ r) op) (c ∷ r)) (drop (place_of (c ∷ r) op) (c ∷ r)) op parts.1)
