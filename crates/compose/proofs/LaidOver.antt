-- The second list laid over the first, step by step.
use Rattle.std.proofs.Common.{◌≡◌, ◌⊎◌, inl, inr, ℕ, ◌<◌, ◌≤◌, true, false, List, [], ◌∷◌, ◌++◌, refl, sym, ap, subst, ◌∙◌, min, arith}
use Rattle.std.specs.Prelude.{Result, Ok, Err}
use Rattle.std.proofs.lemmas.List.{append-nil, length-append}
use Rattle.refusal.specs.declared.Refusal.{Refusal}
use Rattle.refusal.specs.declared.Refusal.TheVariants.{BadOps, CutsPair, NoMemory}
use Rattle.delta.specs.Operation.{Operation, op_len, is_insert, is_delete, IsBounded}
use Rattle.delta.specs.Gaps.{counted}
use Rattle.delta.specs.Normal.{IsNormal, NoneIsEmpty, settled, nf}
use Rattle.delta.proofs.CallerLemmas.{base_of-append, left_after-whole, first-whole, normal-rest, none_empty-normal}
use Rattle.compose.specs.Outcome.{IsComposeRefused}
use Rattle.delta.specs.Parts.{first_units, left_after}
use Rattle.compose.specs.steps.Stepping.{made_in_turn, IsShortStep, CutsBefore}
use Rattle.compose.specs.steps.PartlyComposed.{IsPartlyComposed, ComposesFurther, IsRefusedPartway, IsComposeOutcome, EndsWith}
use Rattle.compose.proofs.DocumentCuts.{cut-text}
use Rattle.compose.proofs.Meetings.{met_made, met_shorter, ends-within}
use Rattle.compose.proofs.PartsComposed.{Takes, parts-start, parts-step, parts-whole, parts-past, parts-end}
use Rattle.compose.proofs.Progress.{first_made, first_shorter, second_made, second_shorter}

-- a step, whatever operations follow the first list
ended-append : (before left more : List Operation) → (before ≡ [] → left ≡ []) → before ++ more ≡ [] → left ++ more ≡ []
ended-append [] left more ended none = ap (λ l. l ++ more) (ended refl) ∙ none
ended-append (op ∷ ops) left more ended none = absurd (cc)

takes-more : (before after made left rest more : List Operation) → IsShortStep before after made left rest → IsNormal (before ++ more) → Takes (before ++ more) after made (left ++ more) rest
takes-more before after made left rest more short normal =
    let shorter = short.shorter in
    record {
      step = short.step more normal;
      normal = shorter.second_normal;
      first_ended = ended-append before left more shorter.first_ended;
      second_ended = shorter.second_ended;
      base = inr (omega (arith, shorter.base, base_of-append before more, base_of-append left more));
      out = shorter.out;
      shorter = omega (arith, shorter.shorter, length-append before more, length-append left more);
    }

-- one step more
pub further-step : (old now next first second made before after left rest : List Operation) → ComposesFurther old first second now before after
    → IsShortStep before after made left rest → settled (counted next) ≡ settled (counted (now ++ made)) → ComposesFurther old first second next left rest
further-step old now next first second made before after left rest further short added f s more so =
    let now_is = further f s more so in
    parts-step f s now made next (before ++ more) after (left ++ more) rest now_is (takes-more before after made left rest more short now_is.before_normal) added

-- what is refused of it
pub refused-step : (old now first second made before after left rest : List Operation) (e : Refusal) → ComposesFurther old first second now before after
    → IsShortStep before after made left rest → (e ≡ BadOps → ¬ (IsBounded (now ++ made))) → (e ≡ BadOps) ⊎ (e ≡ NoMemory) → IsRefusedPartway old first second e
refused-step old now first second made before after left rest e further short past (inl bad) f s more so =
    let now_is = further f s more so in
    subst (IsComposeRefused f s) (sym bad)
    (parts-past f s now made (before ++ more) after (left ++ more) rest now_is (takes-more before after made left rest more short now_is.before_normal) (past bad))
refused-step old now first second made before after left rest e further short past (inr memory) f s more so = subst (IsComposeRefused f s) (sym memory) tt

pub refused-cut : (old now first second before after : List Operation) (e : Refusal) → ComposesFurther old first second now before after
    → (e ≡ CutsPair → CutsBefore before after) → (e ≡ CutsPair) ⊎ (e ≡ NoMemory) → IsRefusedPartway old first second e
refused-cut old now first second before after e further cuts (inl cut) f s more so =
    let now_is = further f s more so in
    subst (IsComposeRefused f s) (sym cut) (cut-text (counted f) (counted s) (now_is.cut ∙ cuts cut more now_is.before_normal))
refused-cut old now first second before after e further cuts (inr memory) f s more so = subst (IsComposeRefused f s) (sym memory) tt

-- what a loop over both keeps
pub record IsLaid (old first second out before after : List Operation) : Type 0 where
  pub on : ComposesFurther old first second out before after
  pub first_some : NoneIsEmpty before
  pub second_normal : IsNormal after

pub laid-step : (old now next first second made before after left rest : List Operation) → IsLaid old first second now before after
    → IsShortStep before after made left rest → settled (counted next) ≡ settled (counted (now ++ made)) → IsLaid old first second next left rest
laid-step old now next first second made before after left rest laid short added = record {
  on = further-step old now next first second made before after left rest laid.on short added;
  first_some = short.shorter.first_some;
  second_normal = short.shorter.second_normal;
}

-- an insert of the second
pub insert-step : (op made : Operation) (ops rest : List Operation) → is_insert op ≡ true → IsNormal (op ∷ ops) → made ≡ op → rest ≡ ops → IsShortStep [] (op ∷ ops) (made ∷ []) [] rest
insert-step op made ops rest inserts normal made_is rest_is = record {
  step = λ more normal_more. second_made more op made ops rest made_is rest_is (inr inserts) normal_more;
  shorter = second_shorter [] op made ops rest made_is rest_is tt normal inserts;
}

-- what a loop over inserts of the second keeps
pub record IsPassed (old second out after : List Operation) : Type 0 where
  pub on : ComposesFurther old [] second out [] after
  pub normal : IsNormal after

pub passed-step : (old now next second : List Operation) (op made : Operation) (ops rest : List Operation) → IsPassed old second now (op ∷ ops) → is_insert op ≡ true
    → made ≡ op → rest ≡ ops → settled (counted next) ≡ settled (counted (now ++ made ∷ [])) → IsPassed old second next rest
passed-step old now next second op made ops rest passed inserts made_is rest_is added =
    let short = insert-step op made ops rest inserts passed.normal made_is rest_is in
    record {
      on = further-step old now next [] second (made ∷ []) [] (op ∷ ops) [] rest passed.on short added;
      normal = short.shorter.second_normal;
    }

-- what is left of the second, where the first has ended
append-takes : (op made : Operation) (ops rest : List Operation) → IsNormal (op ∷ ops) → made ≡ op → rest ≡ ops → Takes [] (op ∷ ops) (made ∷ []) [] rest
append-takes op made ops rest normal made_is rest_is =
    subst (λ m. Takes [] (op ∷ ops) (m ∷ []) [] rest) (sym made_is)
    (subst (λ r. Takes [] (op ∷ ops) (op ∷ []) [] r) (sym rest_is)
    (record {
      step = second_made [] op op ops ops refl refl (inl refl) refl;
      normal = normal-rest op ops normal;
      first_ended = λ e. e;
      second_ended = λ e. absurd (cc);
      base = inl refl;
      out = inr (omega arith);
      shorter = omega arith;
    }))

-- and what a loop over all of it keeps
abbrev pub Appends : List Operation → List Operation → List Operation → List Operation → Type 0
Appends old second out after = (f s : List Operation) → IsPartlyComposed f s old [] second → IsPartlyComposed f s out [] after

pub appended-step : (old now next second : List Operation) (op made : Operation) (ops rest : List Operation) → Appends old second now (op ∷ ops)
    → made ≡ op → rest ≡ ops → settled (counted next) ≡ settled (counted (now ++ made ∷ [])) → Appends old second next rest
appended-step old now next second op made ops rest appends made_is rest_is added f s so =
    let now_is = appends f s so in
    parts-step f s now (made ∷ []) next [] (op ∷ ops) [] rest now_is (append-takes op made ops rest now_is.after_normal made_is rest_is) added

pub appended-refused : (old now second : List Operation) (op made : Operation) (ops : List Operation) (e : Refusal) → Appends old second now (op ∷ ops)
    → made ≡ op → (e ≡ BadOps → ¬ (IsBounded (now ++ made ∷ []))) → (e ≡ BadOps) ⊎ (e ≡ NoMemory)
    → (f s : List Operation) → IsPartlyComposed f s old [] second → IsComposeRefused f s e
appended-refused old now second op made ops e appends made_is past (inl bad) f s so =
    let now_is = appends f s so in
    subst (IsComposeRefused f s) (sym bad)
    (parts-past f s now (made ∷ []) [] (op ∷ ops) [] ops now_is (append-takes op made ops ops now_is.after_normal made_is refl) (past bad))
appended-refused old now second op made ops e appends made_is past (inr memory) f s so = subst (IsComposeRefused f s) (sym memory) tt

-- an operation after inserts of the second
pub further-then : (old now new : List Operation) (op : Operation) (second after rest : List Operation) → ComposesFurther old [] second now [] after
    → ComposesFurther now (op ∷ []) after new [] rest → ComposesFurther old (op ∷ []) second new [] rest
further-then old now new op second after rest before then f s more so = then f s more (before f s (op ∷ more) so)

pub refused-then : (old now : List Operation) (op : Operation) (second after : List Operation) (e : Refusal) → ComposesFurther old [] second now [] after
    → IsRefusedPartway now (op ∷ []) after e → IsRefusedPartway old (op ∷ []) second e
refused-then old now op second after e before refused f s more so = refused f s more (before f s (op ∷ more) so)

pub refused-inserts : (old : List Operation) (op : Operation) (second : List Operation) (e : Refusal) → IsRefusedPartway old [] second e → IsRefusedPartway old (op ∷ []) second e
refused-inserts old op second e refused f s more so = refused f s (op ∷ more) so

-- one that stands alone as it is
pub alone-step : (op : Operation) (second : List Operation) → 0 < op_len op → IsNormal second → (second ≡ []) ⊎ (is_delete op ≡ true)
    → IsShortStep (op ∷ []) second (op ∷ []) [] second
alone-step op second some normal alone = record {
  step = first_made op op [] second [] refl refl alone;
  shorter = first_shorter op op [] second [] refl refl (some, tt) normal alone;
}

-- one whose units the second's operation keeps or deletes all
pub whole-step : (op next : Operation) (ops rest made : List Operation) (n : ℕ) → 0 < op_len op → is_delete op ≡ false → is_insert next ≡ false
    → IsNormal (next ∷ ops) → n ≡ op_len op → n ≤ op_len next → rest ≡ left_after n next ops → made ≡ made_in_turn op next
    → IsShortStep (op ∷ []) (next ∷ ops) made [] rest
whole-step op next ops rest made n some stays stands normal n_is within rest_is made_is =
    let is_min : n ≡ min (op_len op) (op_len next) = omega arith in
    let part_is : op ≡ first_units n op = sym (first-whole op) ∙ ap (λ k. first_units k op) (sym n_is) in
    let left_is : ◌≡◌ {A = List Operation} [] (left_after n op []) = sym (left_after-whole op []) ∙ ap (λ k. left_after k op []) (sym n_is) in
    record {
      step = met_made op next op [] ops made [] rest n stays stands normal is_min (λ cut. omega (arith, ends-within n op cut)) part_is made_is left_is rest_is;
      shorter = met_shorter op next op [] ops made [] rest n (some, tt) normal is_min part_is made_is left_is rest_is;
    }

pub not-begun : (old first second : List Operation) → ComposesFurther old first second old first second
not-begun old first second f s more so = so

-- nothing is made yet
pub laid-none : (start first second before after : List Operation) → start ≡ [] → before ≡ first → after ≡ second
    → IsNormal first → IsNormal second → IsBounded first → IsBounded second → IsPartlyComposed first second start (before ++ []) after
laid-none start first second before after start_is before_is after_is normal_first normal_second bounded_first bounded_second =
    subst (λ l. IsPartlyComposed first second start l after) (sym (append-nil before))
    (parts-start first second start before after start_is before_is after_is normal_first normal_second bounded_first bounded_second)

pub none_empty-same : (ops same : List Operation) → same ≡ ops → IsNormal ops → NoneIsEmpty same
none_empty-same ops same is normal = subst NoneIsEmpty (sym is) (none_empty-normal ops normal)

-- what comes of both lists, where all was made
pub outcome : (one old out second : List Operation) → Appends old second out [] → one ≡ nf (counted out) → IsBounded one
    → (f s : List Operation) → IsPartlyComposed f s old [] second → IsComposeOutcome (Ok one) f s
outcome one old out second appends one_is bounded f s so =
    let now_is = appends f s so in
    let ends = one_is ∙ parts-end f s out [] [] now_is refl refl in
    record {
      one = ends;
      accepted = (parts-whole f s out [] [] now_is (inl refl), subst IsBounded ends bounded);
      refused = tt;
    }

pub refused-outcome : (r : Result (List Operation) Refusal) (e g : Refusal) (old second : List Operation) → r ≡ Err e → e ≡ g
    → ((f s : List Operation) → IsPartlyComposed f s old [] second → IsComposeRefused f s g) → EndsWith r old second
refused-outcome r e g old second was from refused f s so =
    subst (λ o. IsComposeOutcome o f s) (sym was) (record { one = tt; accepted = tt; refused = subst (IsComposeRefused f s) (sym from) (refused f s so) })
