-- What one step along two lists of operations makes and leaves.
use Rattle.std.proofs.Common.{◌≡◌, ◌+◌, ◌≤◌, ◌⊎◌, inl, inr, true, List, [], ◌∷◌, ◌++◌, refl, sym, ap, subst, ◌∙◌, arith}
use Rattle.std.proofs.lemmas.List.{append-nil}
use Rattle.delta.specs.Element.{letters, embedded}
use Rattle.delta.specs.Operation.{Operation, insert_text, insert_embed, retain, delete, op_base, out_of, is_insert, is_delete}
use Rattle.delta.specs.Gaps.{End, Del, front, run, counted, joined}
use Rattle.delta.specs.Normal.{IsNormal, NoneIsEmpty, settled}
use Rattle.delta.proofs.CallerLemmas.{front-nil, joined-run, counted-append, normal-rest}
use Rattle.compose.specs.Composed.{composed}
use Rattle.compose.specs.steps.PairTest.{cuts}
use Rattle.compose.specs.steps.Stepping.{IsStep, IsStepBefore, IsShorter}
use Rattle.compose.proofs.Alongside.{composed-nothing, composed-insert, composed-deleted}
use Rattle.compose.proofs.Pairs.{cuts-nothing, cuts-insert, cuts-deleted}

-- the first operation of the first list, where the second has ended or the operation deletes
alone-effect : (op : Operation) (ops second : List Operation) → (second ≡ []) ⊎ (is_delete op ≡ true)
    → composed (counted (op ∷ ops)) (counted second) ≡ joined (counted (op ∷ [])) (composed (counted ops) (counted second))
alone-effect op ops second (inl ended) =
    ap (λ l. composed (counted (op ∷ ops)) (counted l)) ended
    ∙ (composed-nothing (counted (op ∷ ops))
    ∙ (counted-append (op ∷ []) ops
    ∙ (ap (joined (counted (op ∷ []))) (sym (composed-nothing (counted ops))) ∙ ap (λ l. joined (counted (op ∷ [])) (composed (counted ops) (counted l))) (sym ended))))
alone-effect (delete n) ops second (inr deletes) =
    composed-deleted n (counted ops) (counted second)
    ∙ sym (joined-run n Del (End []) (composed (counted ops) (counted second)) ∙ ap (run n Del) (front-nil (composed (counted ops) (counted second))))
alone-effect (insert_text us a) ops second (inr deletes) = absurd (cc)
alone-effect (insert_embed key value a) ops second (inr deletes) = absurd (cc)
alone-effect (retain n c) ops second (inr deletes) = absurd (cc)

alone-cuts : (op : Operation) (ops second : List Operation) → (second ≡ []) ⊎ (is_delete op ≡ true) → cuts (counted (op ∷ ops)) (counted second) ≡ cuts (counted ops) (counted second)
alone-cuts op ops second (inl ended) =
    ap (λ l. cuts (counted (op ∷ ops)) (counted l)) ended
    ∙ (cuts-nothing (counted (op ∷ ops)) ∙ (sym (cuts-nothing (counted ops)) ∙ ap (λ l. cuts (counted ops) (counted l)) (sym ended)))
alone-cuts (delete n) ops second (inr deletes) = cuts-deleted n (counted ops) (counted second)
alone-cuts (insert_text us a) ops second (inr deletes) = absurd (cc)
alone-cuts (insert_embed key value a) ops second (inr deletes) = absurd (cc)
alone-cuts (retain n c) ops second (inr deletes) = absurd (cc)

pub IsStep-first : (op : Operation) (ops second : List Operation) → IsNormal (op ∷ ops) → (second ≡ []) ⊎ (is_delete op ≡ true)
    → IsStep (op ∷ ops) second (op ∷ []) ops second
IsStep-first op ops second normal alone = record {
  effect = ap settled (alone-effect op ops second alone);
  cut = alone-cuts op ops second alone;
  normal = normal-rest op ops normal;
}

-- the first operation of the second list, where the first has ended or the operation inserts
inserted-effect : (first : List Operation) (op : Operation) (ops : List Operation) → (first ≡ []) ⊎ (is_insert op ≡ true)
    → settled (composed (counted first) (counted (op ∷ ops))) ≡ settled (joined (counted (op ∷ [])) (composed (counted first) (counted ops)))
inserted-effect first op ops (inl ended) =
    ap (λ l. settled (composed (counted l) (counted (op ∷ ops)))) ended
    ∙ (ap settled (front-nil (counted (op ∷ ops)) ∙ counted-append (op ∷ []) ops)
    ∙ (ap (λ g. settled (joined (counted (op ∷ [])) g)) (sym (front-nil (counted ops)))
    ∙ ap (λ l. settled (joined (counted (op ∷ [])) (composed (counted l) (counted ops)))) (sym ended)))
inserted-effect first (insert_text us a) ops (inr inserts) =
    composed-insert (counted first) (letters us a) (counted ops)
    ∙ ap (λ l. settled (front l (composed (counted first) (counted ops)))) (sym (append-nil (letters us a)))
inserted-effect first (insert_embed key value a) ops (inr inserts) = composed-insert (counted first) (embedded key value a ∷ []) (counted ops)
inserted-effect first (retain n c) ops (inr inserts) = absurd (cc)
inserted-effect first (delete n) ops (inr inserts) = absurd (cc)

inserted-cuts : (first : List Operation) (op : Operation) (ops : List Operation) → (first ≡ []) ⊎ (is_insert op ≡ true) → cuts (counted first) (counted (op ∷ ops)) ≡ cuts (counted first) (counted ops)
inserted-cuts first op ops (inl ended) =
    ap (λ l. cuts (counted l) (counted (op ∷ ops))) ended ∙ ap (λ l. cuts (counted l) (counted ops)) (sym ended)
inserted-cuts first (insert_text us a) ops (inr inserts) = cuts-insert (counted first) (letters us a) (counted ops)
inserted-cuts first (insert_embed key value a) ops (inr inserts) = cuts-insert (counted first) (embedded key value a ∷ []) (counted ops)
inserted-cuts first (retain n c) ops (inr inserts) = absurd (cc)
inserted-cuts first (delete n) ops (inr inserts) = absurd (cc)

pub IsStep-second : (first : List Operation) (op : Operation) (ops : List Operation) → IsNormal first → (first ≡ []) ⊎ (is_insert op ≡ true)
    → IsStep first (op ∷ ops) (op ∷ []) first ops
IsStep-second first op ops normal alone = record {
  effect = inserted-effect first op ops alone;
  cut = inserted-cuts first op ops alone;
  normal = normal;
}

-- the same by equal operations, whatever follows the first list
pub first_made : (op made : Operation) (ops second rest : List Operation) → made ≡ op → rest ≡ ops → (second ≡ []) ⊎ (is_delete op ≡ true)
    → IsStepBefore (op ∷ ops) second (made ∷ []) rest second
first_made op made ops second rest made_is rest_is alone more normal =
    subst (λ m. IsStep (op ∷ (ops ++ more)) second (m ∷ []) (rest ++ more) second) (sym made_is)
    (subst (λ r. IsStep (op ∷ (ops ++ more)) second (op ∷ []) (r ++ more) second) (sym rest_is) (IsStep-first op (ops ++ more) second normal alone))

pub second_made : (first : List Operation) (op made : Operation) (ops rest : List Operation) → made ≡ op → rest ≡ ops → (first ≡ []) ⊎ (is_insert op ≡ true)
    → IsNormal first → IsStep first (op ∷ ops) (made ∷ []) first rest
second_made first op made ops rest made_is rest_is alone normal =
    subst (λ m. IsStep first (op ∷ ops) (m ∷ []) first rest) (sym made_is)
    (subst (λ r. IsStep first (op ∷ ops) (op ∷ []) first r) (sym rest_is) (IsStep-second first op ops normal alone))

-- and what is left is shorter
out-alone : (op : Operation) (second : List Operation) → (second ≡ []) ⊎ (is_delete op ≡ true) → (second ≡ []) ⊎ (out_of (op ∷ []) + out_of second ≤ out_of second)
out-alone op second (inl ended) = inl ended
out-alone (delete n) second (inr deletes) = inr (omega arith)
out-alone (insert_text us a) second (inr deletes) = absurd (cc)
out-alone (insert_embed key value a) second (inr deletes) = absurd (cc)
out-alone (retain n c) second (inr deletes) = absurd (cc)

pub first_shorter : (op made : Operation) (ops second rest : List Operation) → made ≡ op → rest ≡ ops → NoneIsEmpty (op ∷ ops) → IsNormal second
    → (second ≡ []) ⊎ (is_delete op ≡ true) → IsShorter (op ∷ ops) second (made ∷ []) rest second
first_shorter op made ops second rest made_is rest_is some normal alone =
    subst (λ m. IsShorter (op ∷ ops) second (m ∷ []) rest second) (sym made_is)
    (subst (λ r. IsShorter (op ∷ ops) second (op ∷ []) r second) (sym rest_is)
    (record {
      first_some = some.1;
      second_normal = normal;
      first_ended = λ e. absurd (cc);
      second_ended = λ e. e;
      base = omega arith;
      out = out-alone op second alone;
      shorter = omega arith;
    }))

base-insert : (op : Operation) → is_insert op ≡ true → op_base op ≡ 0
base-insert (insert_text us a) inserts = refl
base-insert (insert_embed key value a) inserts = refl
base-insert (retain n c) inserts = absurd (cc)
base-insert (delete n) inserts = absurd (cc)

pub second_shorter : (first : List Operation) (op made : Operation) (ops rest : List Operation) → made ≡ op → rest ≡ ops → NoneIsEmpty first → IsNormal (op ∷ ops)
    → is_insert op ≡ true → IsShorter first (op ∷ ops) (made ∷ []) first rest
second_shorter first op made ops rest made_is rest_is some normal inserts =
    subst (λ m. IsShorter first (op ∷ ops) (m ∷ []) first rest) (sym made_is)
    (subst (λ r. IsShorter first (op ∷ ops) (op ∷ []) first r) (sym rest_is)
    (record {
      first_some = some;
      second_normal = normal-rest op ops normal;
      first_ended = λ e. e;
      second_ended = λ e. absurd (cc);
      base = omega (arith, base-insert op inserts);
      out = inr (omega arith);
      shorter = omega arith;
    }))
