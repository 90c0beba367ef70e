-- A last retain without attributes: what is left without it is the normal form.
use Rattle.std.proofs.Common.{◌≡◌, ℕ, zero, suc, ◌+◌, ◌-◌, ◌<◌, true, false, not, ◌&&◌, cond, List, [], ◌∷◌, ◌++◌, length, take, get_or, Some, None, refl, sym, ap, subst, ◌∙◌, ◌⊎◌, inl, inr, ⊎_elim, arith}
use Rattle.std.proofs.lemmas.List.{append-nil}
use Rattle.std.proofs.lemmas.Bool.{and_parts, and_from}
use Rattle.std.specs.Prelude.{is_none, nat_lt}
use Rattle.attributes.specs.Map.{empty}
use Rattle.attributes.specs.Attributes.{same_changes, same_changes-Decides}
use Rattle.delta.specs.Element.{Element}
use Rattle.delta.specs.Operation.{Operation, insert_text, insert_embed, retain, delete, is_plain, merged, op_len, base_of, out_of}
use Rattle.delta.specs.Gaps.{Gaps, End, Gap, Fate, Del, Keep, front, run, counted, joined}
use Rattle.delta.specs.Normal.{may_precede, is_built, ends_plain, IsNormal, past, settled, trim, trimmed, spelled, nf}
use Rattle.delta.specs.steps.Building.{without_plain, IsBuilding, IsDelta}
use Rattle.delta.proofs.Joins.{counted-append}
use Rattle.delta.proofs.Settling.{settled-front}
use Rattle.delta.proofs.BuiltLists.{nf-same}
use Rattle.delta.proofs.Lengths.{base_of-append, out_of-append}

-- units kept without a change, and nothing after them
abbrev kept : ℕ → Gaps
kept n = run n (Keep empty) (End [])

settled-kept : (n : ℕ) → settled (kept n) ≡ kept n
settled-kept zero = refl
settled-kept (suc n) = ap (Gap [] (Keep empty)) (settled-kept n)

trimmed-kept : (n : ℕ) → trimmed (kept n) ≡ End []
trimmed-kept zero = refl
trimmed-kept (suc n) = ap (trim [] (Keep empty)) (trimmed-kept n)

-- trimming leaves what stands before, and what moves before a delete
pub trim-front : (xs ys : List Element) (f : Fate) (g : Gaps) → trim (xs ++ ys) f g ≡ front xs (trim ys f g)
trim-front xs ys Del g = refl
trim-front xs ys (Keep c) (End []) =
    elim (same_changes c empty) as (λ t. cond t (End (xs ++ ys)) (Gap (xs ++ ys) (Keep c) (End [])) ≡ front xs (cond t (End ys) (Gap ys (Keep c) (End [])))) [ true ↦ refl | false ↦ refl ]
trim-front xs ys (Keep c) (End (z ∷ zs)) = refl
trim-front xs ys (Keep c) (Gap zs f g) = refl

pub trimmed-front : (xs : List Element) (g : Gaps) → trimmed (front xs g) ≡ front xs (trimmed g)
trimmed-front xs (End ys) = refl
trimmed-front xs (Gap ys f g) = trim-front xs ys f (trimmed g)

pub past-trim : (ys : List Element) (f : Fate) (g : Gaps) → Gap ys Del (trim [] f g) ≡ past Del (trim ys f g)
past-trim ys Del g = refl
past-trim ys (Keep c) (End []) =
    elim (same_changes c empty) as (λ t. Gap ys Del (cond t (End []) (Gap [] (Keep c) (End []))) ≡ past Del (cond t (End ys) (Gap ys (Keep c) (End [])))) [ true ↦ refl | false ↦ refl ]
past-trim ys (Keep c) (End (z ∷ zs)) = refl
past-trim ys (Keep c) (Gap zs f g) = refl

pub trimmed-past : (g : Gaps) → trimmed (past Del g) ≡ past Del (trimmed g)
trimmed-past (End ys) = refl
trimmed-past (Gap ys f g) = past-trim ys f (trimmed g)

-- so units kept without a change, and nothing after them, are nothing
trimmed-joined : (g : Gaps) (n : ℕ) → trimmed (settled (joined g (kept n))) ≡ trimmed (settled g)
trimmed-joined (End xs) n =
    ap trimmed (settled-front xs (kept n) ∙ ap (front xs) (settled-kept n))
    ∙ (trimmed-front xs (kept n) ∙ (ap (front xs) (trimmed-kept n) ∙ ap End (append-nil xs)))
trimmed-joined (Gap xs (Keep c) g) n =
    trimmed-front xs (Gap [] (Keep c) (settled (joined g (kept n))))
    ∙ (ap (λ k. front xs (trim [] (Keep c) k)) (trimmed-joined g n) ∙ sym (trimmed-front xs (Gap [] (Keep c) (settled g))))
trimmed-joined (Gap xs Del g) n =
    trimmed-front xs (past Del (settled (joined g (kept n))))
    ∙ (ap (front xs) (trimmed-past (settled (joined g (kept n))) ∙ (ap (past Del) (trimmed-joined g n) ∙ sym (trimmed-past (settled g))))
    ∙ sym (trimmed-front xs (past Del (settled g))))

nf-append_kept : (ops : List Operation) (n : ℕ) → nf (counted (ops ++ retain n empty ∷ [])) ≡ nf (counted ops)
nf-append_kept ops n = ap (λ g. spelled (trimmed (settled g))) (counted-append ops (retain n empty ∷ [])) ∙ ap spelled (trimmed-joined (counted ops) n)

-- the operations end so, or they stay as they are
plain_is : (op : Operation) → is_plain op ≡ true → (n : ℕ) × (op ≡ retain n empty)
plain_is (retain n c) e = (n, ap (retain n) ((same_changes-Decides c empty).0 e))
plain_is (insert_text us a) e = absurd (cc)
plain_is (insert_embed key value a) e = absurd (cc)
plain_is (delete n) e = absurd (cc)

pub without_plain-cases : (ops : List Operation) → (without_plain ops ≡ ops) ⊎ ((n : ℕ) × (ops ≡ without_plain ops ++ retain n empty ∷ []))
without_plain-cases [] = inl refl
without_plain-cases (op ∷ []) =
    elim (is_plain op) as (λ t. is_plain op ≡ t → (cond t [] (op ∷ []) ≡ op ∷ []) ⊎ ((n : ℕ) × (op ∷ [] ≡ cond t [] (op ∷ []) ++ retain n empty ∷ []))) [
      | true ↦ λ e. let p : (n : ℕ) × (op ≡ retain n empty) = plain_is op e in inr (p.0, ap (λ o. o ∷ []) p.1)
      | false ↦ λ e. inl refl
    ] refl
without_plain-cases (op ∷ next ∷ ops) =
    ⊎_elim (λ e. inl (ap (λ l. op ∷ l) e)) (λ p. inr (p.0, ap (λ l. op ∷ l) p.1)) (without_plain-cases (next ∷ ops))

-- what is left is in normal form
no_plain_before : (a b : Operation) → may_precede a b ≡ true → is_plain b ≡ true → is_plain a ≡ false
no_plain_before (insert_text us s) b may e = refl
no_plain_before (insert_embed key value s) b may e = refl
no_plain_before (delete m) b may e = refl
no_plain_before (retain m c) (insert_text us s) may e = absurd (cc)
no_plain_before (retain m c) (insert_embed key value s) may e = absurd (cc)
no_plain_before (retain m c) (delete n) may e = absurd (cc)
no_plain_before (retain m c) (retain n d) may e =
    elim (same_changes c empty) as (λ t. same_changes c empty ≡ t → t ≡ false) [
      | true ↦ λ plain.
          let same : same_changes c d ≡ true = (same_changes-Decides c d).1 ((same_changes-Decides c empty).0 plain ∙ sym ((same_changes-Decides d empty).0 e)) in
          let apart : is_none (cond (same_changes c d) (Some (retain (m + n) c)) None) ≡ true = (and_parts (is_none (merged (retain m c) (retain n d))) true may).0 in
          let not_apart : is_none (cond true (Some (retain (m + n) c)) None) ≡ true = rw same at apart in
          absurd (cc)
      | false ↦ λ plain. refl
    ] refl

kept_apart : (a b : Operation) (r : List Operation) → is_built (a ∷ b ∷ r) ≡ true → (nat_lt 0 (op_len a) ≡ true) × (may_precede a b ≡ true) × (is_built (b ∷ r) ≡ true)
kept_apart a b r h =
    let parts = and_parts (nat_lt 0 (op_len a)) (may_precede a b && is_built (b ∷ r)) h in
    let rest = and_parts (may_precede a b) (is_built (b ∷ r)) parts.1 in
    (parts.0, rest.0, rest.1)

is_built-without_plain : (ops : List Operation) → is_built ops ≡ true → is_built (without_plain ops) ≡ true
is_built-without_plain [] h = refl
is_built-without_plain (a ∷ []) h = elim (is_plain a) as (λ t. is_built (cond t [] (a ∷ [])) ≡ true) [ true ↦ refl | false ↦ h ]
is_built-without_plain (a ∷ b ∷ []) h =
    let parts = kept_apart a b [] h in
    elim (is_plain b) as (λ t. is_built (a ∷ cond t [] (b ∷ [])) ≡ true) [ true ↦ parts.0 | false ↦ h ]
is_built-without_plain (a ∷ b ∷ c ∷ r) h =
    let parts = kept_apart a b (c ∷ r) h in
    and_from _ _ parts.0 (and_from _ _ parts.1 (is_built-without_plain (b ∷ c ∷ r) parts.2))

ends_plain-without_plain : (ops : List Operation) → is_built ops ≡ true → ends_plain (without_plain ops) ≡ false
ends_plain-without_plain [] h = refl
ends_plain-without_plain (a ∷ []) h =
    elim (is_plain a) as (λ t. is_plain a ≡ t → ends_plain (cond t [] (a ∷ [])) ≡ false) [ true ↦ λ e. refl | false ↦ λ e. e ] refl
ends_plain-without_plain (a ∷ b ∷ []) h =
    let parts = kept_apart a b [] h in
    elim (is_plain b) as (λ t. is_plain b ≡ t → ends_plain (a ∷ cond t [] (b ∷ [])) ≡ false) [
      | true ↦ λ e. no_plain_before a b parts.1 e
      | false ↦ λ e. e
    ] refl
ends_plain-without_plain (a ∷ b ∷ c ∷ r) h = ends_plain-without_plain (b ∷ c ∷ r) (kept_apart a b (c ∷ r) h).2

IsNormal-without_plain : (ops : List Operation) → is_built ops ≡ true → IsNormal (without_plain ops)
IsNormal-without_plain ops h =
    and_from (is_built (without_plain ops)) (not (ends_plain (without_plain ops))) (is_built-without_plain ops h) (ap not (ends_plain-without_plain ops h))

-- and it is the normal form
pub nf-without_plain : (ops : List Operation) → is_built ops ≡ true → without_plain ops ≡ nf (counted ops)
nf-without_plain ops h =
    let same : nf (counted (without_plain ops)) ≡ without_plain ops = nf-same (without_plain ops) (IsNormal-without_plain ops h) in
    ⊎_elim
    (λ e. sym same ∙ ap (λ l. nf (counted l)) e)
    (λ p. sym same ∙ (sym (nf-append_kept (without_plain ops) p.0) ∙ ap (λ l. nf (counted l)) (sym p.1)))
    (without_plain-cases ops)

-- by the last operation
pub without_plain-last : (ops : List Operation) (k : ℕ) (d : Operation) → length ops ≡ suc k → without_plain ops ≡ cond (is_plain (get_or ops k d)) (take k ops) ops
without_plain-last [] k d e = absurd (omega arith)
without_plain-last (op ∷ []) zero d e = refl
without_plain-last (op ∷ []) (suc k) d e = absurd (omega arith)
without_plain-last (op ∷ next ∷ ops) zero d e = absurd (omega arith)
without_plain-last (op ∷ next ∷ ops) (suc k) d e =
    ap (λ l. op ∷ l) (without_plain-last (next ∷ ops) k d (omega arith))
    ∙ elim (is_plain (get_or (next ∷ ops) k d)) as (λ t. op ∷ cond t (take k (next ∷ ops)) (next ∷ ops)
    ≡ cond t (take (suc k) (op ∷ next ∷ ops)) (op ∷ next ∷ ops)) [ true ↦ refl | false ↦ refl ]

-- a last retain without attributes is taken off
pub taken : (ops rest : List Operation) (last : Operation) (n : ℕ) → 0 < length ops → last ≡ get_or ops (length ops - 1) last → last ≡ retain n empty → rest ≡ take (length ops - 1) ops → rest ≡ without_plain ops
taken ops rest last n some is plain front =
    front
    ∙ sym (without_plain-last ops (length ops - 1) last (omega arith)
    ∙ ap (λ t. cond t (take (length ops - 1) ops) ops) (ap is_plain (sym is ∙ plain) ∙ same_changes-empty))
  where
    same_changes-empty : same_changes empty empty ≡ true
    same_changes-empty = (same_changes-Decides empty empty).1 refl

pub not_taken : (ops : List Operation) (last : Operation) → 0 < length ops → last ≡ get_or ops (length ops - 1) last → is_plain last ≡ false → ops ≡ without_plain ops
not_taken ops last some is other =
    sym (without_plain-last ops (length ops - 1) last (omega arith)
    ∙ ap (λ t. cond t (take (length ops - 1) ops) ops) (ap is_plain (sym is) ∙ other))

-- and both lengths are less by its length
pub taken-lengths : (ops rest : List Operation) (last : Operation) (n : ℕ) → ops ≡ rest ++ last ∷ [] → last ≡ retain n empty → (base_of rest + n ≡ base_of ops) × (out_of rest + n ≡ out_of ops)
taken-lengths ops rest last n parts plain =
    let e : ops ≡ rest ++ retain n empty ∷ [] = parts ∙ ap (λ o. rest ++ o ∷ []) plain in (
      omega (arith, ap base_of e, base_of-append rest (retain n empty ∷ [])),
      omega (arith, ap out_of e, out_of-append rest (retain n empty ∷ [])),
    )

-- so a delta is made of what is left
pub IsDelta-without_plain : (ops rest : List Operation) (base out n : ℕ) → IsBuilding ops base out → rest ≡ without_plain ops → base_of rest + n ≡ base_of ops → out_of rest + n ≡ out_of ops
    → IsDelta rest (base - n) (out - n)
IsDelta-without_plain ops rest base out n kept rest_is less_base less_out = record {
  normal = subst IsNormal (sym rest_is) (IsNormal-without_plain ops kept.built);
  bounded = record { base = omega (arith, kept.bounded.base); out = omega (arith, kept.bounded.out) };
  base_is = omega (arith, kept.base_is);
  out_is = omega (arith, kept.out_is);
}
