-- What takes one operation back, on the units that it stands on.
use Rattle.std.proofs.Common.{◌≡◌, ℕ, ◌+◌, true, false, List, [], ◌∷◌, ◌++◌, length, refl, sym, ap, subst, ◌∙◌, arith, length-append, append_assoc}
use Rattle.attributes.specs.Map.{empty}
use Rattle.attributes.specs.Attributes.{Attributes, Changes, reverted, reverted_by}
use Rattle.delta.specs.Element.{Element, letters, embedded}
use Rattle.delta.specs.Operation.{Operation, insert_text, insert_embed, retain, delete, op_len, op_base, op_out, base_of, out_of, is_insert}
use Rattle.delta.specs.Gaps.{Gaps, End, Gap, Del, Keep, front, run, counted, joined}
use Rattle.delta.specs.Normal.{settled}
use Rattle.delta.proofs.CallerLemmas.{front-nil, front-front, run-parts, joined-joined, counted-append, settled-joined}
use Rattle.document.specs.declared.run.Piece.{Piece}
use Rattle.document.specs.declared.run.Piece.TheVariants as piece
use Rattle.document.specs.Pieces.{piece_units, piece_attributes}
use Rattle.compose.specs.Inverse.{inverse, unit_back}
use Rattle.compose.specs.steps.SteppingBack.{for_units, TakesBack, IsTakenBack}
use Rattle.compose.proofs.Meetings.{length-letters, run-joined}

-- what is inserted is deleted
run-append : (xs ys : List Element) (g : Gaps) → run (length (xs ++ ys)) Del g ≡ run (length xs) Del (run (length ys) Del g)
run-append [] ys g = refl
run-append (x ∷ xs) ys g = ap (Gap [] Del) (run-append xs ys g)

inverse-front : (xs : List Element) (g : Gaps) (d : List Element) → inverse (front xs g) d ≡ run (length xs) Del (inverse g d)
inverse-front xs (End ys) d = run-append xs ys (End [])
inverse-front xs (Gap ys f g) [] = run-append xs ys (inverse g [])
inverse-front xs (Gap ys f g) (x ∷ d) = run-append xs ys (unit_back f x (inverse g d))

-- what is kept with a change gets the change back, what is kept as it is stays, and what is deleted comes back
inverse-kept : (us : List ℕ) (a : Attributes) (c : Changes) (g : Gaps) (d : List Element)
    → inverse (run (length us) (Keep c) g) (letters us a ++ d) ≡ run (length us) (Keep (reverted c a)) (inverse g d)
inverse-kept [] a c g d = refl
inverse-kept (u ∷ us) a c g d = ap (Gap [] (Keep (reverted c a))) (inverse-kept us a c g d)

inverse-plain : (xs : List Element) (g : Gaps) (d : List Element) → inverse (run (length xs) (Keep empty) g) (xs ++ d) ≡ run (length xs) (Keep empty) (inverse g d)
unfolding reverted_by
inverse-plain [] g d = refl
inverse-plain (x ∷ xs) g d = ap (Gap [] (Keep empty)) (inverse-plain xs g d)

inverse-deleted : (xs : List Element) (g : Gaps) (d : List Element) → inverse (run (length xs) Del g) (xs ++ d) ≡ front xs (inverse g d)
inverse-deleted [] g d = sym (front-nil (inverse g d))
inverse-deleted (x ∷ xs) g d = ap (front (x ∷ [])) (inverse-deleted xs g d) ∙ front-front (x ∷ []) xs (inverse g d)

-- an insert
out-effect : (op : Operation) (rest : List Operation) (d : List Element) → is_insert op ≡ true
    → inverse (counted (op ∷ rest)) d ≡ joined (counted (delete (op_len op) ∷ [])) (inverse (counted rest) d)
out-effect (insert_text us a) rest d is =
    inverse-front (letters us a) (counted rest) d
    ∙ (ap (λ n. run n Del (inverse (counted rest) d)) (length-letters us a) ∙ sym (run-joined (length us) Del (inverse (counted rest) d)))
out-effect (insert_embed key value a) rest d is =
    inverse-front (embedded key value a ∷ []) (counted rest) d ∙ sym (run-joined 1 Del (inverse (counted rest) d))
out-effect (retain n c) rest d is = absurd (cc)
out-effect (delete n) rest d is = absurd (cc)

pub out-len : (op : Operation) → is_insert op ≡ true → (op_len op ≡ op_out op) × (0 ≡ op_base op)
out-len (insert_text us a) is = (refl, refl)
out-len (insert_embed key value a) is = (refl, refl)
out-len (retain n c) is = absurd (cc)
out-len (delete n) is = absurd (cc)

pub insert_back : (op made : Operation) (n : ℕ) → is_insert op ≡ true → n ≡ op_len op → made ≡ delete n → TakesBack op [] made
insert_back op made n is n_is made_is =
    subst (TakesBack op []) (sym (made_is ∙ ap delete n_is))
    (record { effect = λ rest behind. out-effect op rest behind is; base = (out-len op is).0; out = (out-len op is).1 })

-- what is kept as it is
pub plain_back : (xs : List Element) (made : Operation) (n : ℕ) → length xs ≡ n → made ≡ retain n empty → TakesBack (retain n empty) xs made
plain_back xs made n count made_is =
    subst (TakesBack (retain n empty) xs) (sym made_is)
    (record {
      effect = λ rest behind. ap (λ m. inverse (run m (Keep empty) (counted rest)) (xs ++ behind)) (sym count)
          ∙ (inverse-plain xs (counted rest) behind ∙ (ap (λ m. run m (Keep empty) (inverse (counted rest) behind)) count ∙ sym (run-joined n (Keep empty) (inverse (counted rest) behind))));
      base = refl;
      out = refl;
    })

-- what is changed, and what is deleted
changed-letters : (us : List ℕ) (a : Attributes) (c : Changes) (g : Gaps) (d : List Element)
    → inverse (run (length (letters us a)) (Keep c) g) (letters us a ++ d) ≡ run (length (letters us a)) (Keep (reverted c a)) (inverse g d)
changed-letters us a c g d =
    ap (λ n. inverse (run n (Keep c) g) (letters us a ++ d)) (length-letters us a)
    ∙ (inverse-kept us a c g d ∙ ap (λ n. run n (Keep (reverted c a)) (inverse g d)) (sym (length-letters us a)))

changed-effect : (p : Piece) (c : Changes) (g : Gaps) (d : List Element)
    → inverse (run (length (piece_units p)) (Keep c) g) (piece_units p ++ d) ≡ run (length (piece_units p)) (Keep (reverted c (piece_attributes p))) (inverse g d)
changed-effect (piece.Text text units a) c g d = changed-letters _ a.now c g d
changed-effect (piece.Embed key value a) c g d = refl

pub changed_back : (p : Piece) (c back : Changes) (made : Operation) (n : ℕ) → n ≡ length (piece_units p) → back ≡ reverted c (piece_attributes p) → made ≡ retain n back
    → TakesBack (retain (length (piece_units p)) c) (piece_units p) made
changed_back p c back made n n_is back_is made_is =
    let len = length (piece_units p) in
    let old = reverted c (piece_attributes p) in
    subst (TakesBack (retain len c) (piece_units p)) (sym (made_is ∙ (ap (λ k. retain k back) n_is ∙ ap (retain len) back_is)))
    (record {
      effect = λ rest behind. changed-effect p c (counted rest) behind ∙ sym (run-joined len (Keep old) (inverse (counted rest) behind));
      base = refl;
      out = refl;
    })

pub deleted_back : (xs : List Element) (made : Operation) → counted (made ∷ []) ≡ End xs → op_base made ≡ 0 → op_out made ≡ length xs → TakesBack (delete (length xs)) xs made
deleted_back xs made made_is base out = record {
  effect = λ rest behind. inverse-deleted xs (counted rest) behind ∙ ap (λ g. joined g (inverse (counted rest) behind)) (sym made_is);
  base = base;
  out = out;
}

-- what takes an operation back is added
pub one_back : (old new taken : List Element) (op m : Operation) (before made : List Operation) → old ≡ taken ++ new → length taken ≡ op_base op → TakesBack op taken m
    → settled (counted made) ≡ settled (counted (before ++ m ∷ [])) → base_of made ≡ base_of before + op_base m → out_of made ≡ out_of before + op_out m
    → IsTakenBack old new op before made
one_back old new taken op m before made parts count takes added base out = record {
  taken = taken;
  parts = parts;
  count = count;
  effect = λ rest.
      let behind = inverse (counted rest) new in
      ap (λ d. settled (joined (counted before) (inverse (counted (op ∷ rest)) d))) parts
      ∙ (ap (λ g. settled (joined (counted before) g)) (takes.effect rest new)
      ∙ (ap settled (sym (joined-joined (counted before) (counted (m ∷ [])) behind))
      ∙ (ap (λ g. settled (joined g behind)) (sym (counted-append before (m ∷ [])))
      ∙ (sym (settled-joined (counted (before ++ m ∷ [])) behind)
      ∙ (ap (λ g. settled (joined g behind)) (sym added) ∙ settled-joined (counted made) behind)))));
  base = omega (arith, base, takes.base);
  out = omega (arith, out, takes.out);
}

-- an operation that keeps or deletes, in parts
counted-parts : (op : Operation) (m k n : ℕ) (rest : List Operation) → is_insert op ≡ false → n ≡ m + k
    → counted (for_units n op ∷ rest) ≡ counted (for_units m op ∷ for_units k op ∷ rest)
counted-parts (insert_text us a) m k n rest stands e = absurd (cc)
counted-parts (insert_embed key value a) m k n rest stands e = absurd (cc)
counted-parts (retain l c) m k n rest stands e = run-parts n m k (Keep c) (counted rest) e
counted-parts (delete l) m k n rest stands e = run-parts n m k Del (counted rest) e

pub base_for : (op : Operation) (n : ℕ) → is_insert op ≡ false → op_base (for_units n op) ≡ n
base_for (insert_text us a) n stands = absurd (cc)
base_for (insert_embed key value a) n stands = absurd (cc)
base_for (retain l c) n stands = refl
base_for (delete l) n stands = refl

pub out_parts : (op : Operation) (m k n : ℕ) → is_insert op ≡ false → n ≡ m + k → op_out (for_units n op) ≡ op_out (for_units m op) + op_out (for_units k op)
out_parts (insert_text us a) m k n stands e = absurd (cc)
out_parts (insert_embed key value a) m k n stands e = absurd (cc)
out_parts (retain l c) m k n stands e = e
out_parts (delete l) m k n stands e = refl

pub whole_units : (op : Operation) (n : ℕ) → is_insert op ≡ false → n ≡ op_base op → for_units n op ≡ op
whole_units (insert_text us a) n stands e = absurd (cc)
whole_units (insert_embed key value a) n stands e = absurd (cc)
whole_units (retain l c) n stands e = ap (λ k. retain k c) e
whole_units (delete l) n stands e = ap delete e

counted-none : (op : Operation) (rest : List Operation) → is_insert op ≡ false → counted (for_units 0 op ∷ rest) ≡ counted rest
counted-none (insert_text us a) rest stands = absurd (cc)
counted-none (insert_embed key value a) rest stands = absurd (cc)
counted-none (retain l c) rest stands = refl
counted-none (delete l) rest stands = refl

out-none : (op : Operation) → is_insert op ≡ false → op_out (for_units 0 op) ≡ 0
out-none (insert_text us a) stands = absurd (cc)
out-none (insert_embed key value a) stands = absurd (cc)
out-none (retain l c) stands = refl
out-none (delete l) stands = refl

nothing_back : (d : List Element) (op : Operation) (made : List Operation) → is_insert op ≡ false → IsTakenBack d d (for_units 0 op) made made
nothing_back d op made stands = record {
  taken = [];
  parts = refl;
  count = sym (base_for op 0 stands);
  effect = λ rest. ap (λ g. settled (joined (counted made) (inverse g d))) (counted-none op rest stands);
  base = omega (arith, out-none op stands);
  out = omega (arith, base_for op 0 stands);
}

pub none_back : (d : List Element) (op : Operation) (made : List Operation) (n : ℕ) → is_insert op ≡ false → n ≡ 0 → IsTakenBack d d (for_units n op) made made
none_back d op made n stands none = subst (λ k. IsTakenBack d d (for_units k op) made made) (sym none) (nothing_back d op made stands)

pub more_back : (old mid new : List Element) (op : Operation) (before made next : List Operation) (m k n : ℕ) → is_insert op ≡ false
    → IsTakenBack old mid (for_units m op) before made → IsTakenBack mid new (for_units k op) made next → n ≡ m + k → IsTakenBack old new (for_units n op) before next
more_back old mid new op before made next m k n stands first second e = record {
  taken = first.taken ++ second.taken;
  parts = first.parts ∙ (ap (λ l. first.taken ++ l) second.parts ∙ sym (append_assoc first.taken second.taken new));
  count = omega (arith, length-append first.taken second.taken, first.count, second.count, base_for op m stands, base_for op k stands, base_for op n stands, e);
  effect = λ rest.
      ap (λ g. settled (joined (counted before) (inverse g old))) (counted-parts op m k n rest stands e) ∙ (first.effect (for_units k op ∷ rest) ∙ second.effect rest);
  base = omega (arith, first.base, second.base, out_parts op m k n stands e);
  out = omega (arith, first.out, second.out, base_for op m stands, base_for op k stands, base_for op n stands, e);
}
