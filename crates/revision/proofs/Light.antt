-- The test of a change on a document, by what the document would weigh.
use Rattle.std.proofs.Common.{inl, inr, ◌≡◌, ℕ, ◌+◌, ◌-◌, ◌≤◌, ◌<◌, ◌^◌, ◌⊎◌, ◌↔◌, min, Bool, true, false, List, [], ◌∷◌, length, Result, Ok, Err, refl, sym, ap, ◌∙◌, true≢false, arith}
use Rattle.std.specs.Prelude.{OnOk, OnErr, IfErr, ◌&&◌, ◌||◌, ◌==◌, not, nat_le}
use Rattle.std.proofs.lemmas.Bool.{eqb-true}
use Rattle.std.proofs.lemmas.Bool.Decides.{nat_tests}
use Rattle.refusal.specs.declared.Refusal.{Refusal}
use Rattle.refusal.specs.declared.Refusal.TheVariants.{PastEnd, CutsPair}
use Rattle.delta.specs.Element.{Element}
use Rattle.delta.specs.Operation.{Operation}
use Rattle.delta.specs.Gaps.{counted, apply}
use Rattle.delta.specs.Places.{IsDefined}
use Rattle.document.specs.Places.{Cuts}
use Rattle.revision.specs.Parting.{parts_pair}
use Rattle.revision.specs.Command.{Step, Edits, Deletes, Revives, deletes}
use Rattle.revision.specs.Past.{Content, IsBlankFor, is_content, suits, units_after}
use Rattle.revision.specs.State.{reaches_past, stands_on, stands}
use Rattle.revision.proofs.Told.{parts_told}

module _ (delta : List Operation) (units : List Element) (weighed : Result ℕ Refusal)
    (past_end : (weighed ≡ Err PastEnd) ↔ (¬ (IsDefined units (counted delta))))
    (cuts : (weighed ≡ Err CutsPair) ↔ (IsDefined units (counted delta) × Cuts units (counted delta))) where
  -- where a weight is given, both tests pass
  pub reaches : (weight : ℕ) → weighed ≡ Ok weight → reaches_past delta units ≡ false
  reaches weight is = by_test (reaches_past delta units) refl where
    by_test : (b : Bool) → reaches_past delta units ≡ b → reaches_past delta units ≡ false
    by_test false e = e
    by_test true e =
        let refused : weighed ≡ Err PastEnd = past_end.1 (λ defined. grind (arith, nat_tests)) in
        absurd (cc)

  pub whole : (weight : ℕ) → weighed ≡ Ok weight → parts_pair delta units ≡ false
  whole weight is = by_test (parts_pair delta units) refl where
    by_test : (b : Bool) → parts_pair delta units ≡ b → parts_pair delta units ≡ false
    by_test false e = e
    by_test true e =
        let short : reaches_past delta units ≡ false = reaches weight is in
        let defined : IsDefined units (counted delta) = grind (arith, nat_tests) in
        let refused : weighed ≡ Err CutsPair = cuts.1 (defined, (parts_told delta units).0 e) in
        absurd (cc)

  pub stands_where : (weight : ℕ) → weighed ≡ Ok weight → stands_on delta units ≡ true
  stands_where weight is = rw (reaches weight is, whole weight is) refl

  -- where it is refused, one of them fails
  pub fails : (refusal : Refusal) → weighed ≡ Err refusal → (refusal ≡ PastEnd) ⊎ (refusal ≡ CutsPair) → stands_on delta units ≡ false
  fails refusal is (inl end) =
      let undefined : ¬ (IsDefined units (counted delta)) = past_end.0 (is ∙ ap (λ r. Err r) end) in
      let over : reaches_past delta units ≡ true = by_test undefined (reaches_past delta units) refl in
      rw over refl
    where
      by_test : (¬ (IsDefined units (counted delta))) → (b : Bool) → reaches_past delta units ≡ b → reaches_past delta units ≡ true
      by_test undefined true e = e
      by_test undefined false e =
          let defined : IsDefined units (counted delta) = grind (arith, nat_tests) in
          absurd (undefined defined)
  fails refusal is (inr cut) =
      let parted : parts_pair delta units ≡ true = (parts_told delta units).1 (cuts.0 (is ∙ ap (λ r. Err r) cut)).1 in
      rw parted (neither (reaches_past delta units))
    where
      neither : (far : Bool) → (not far && not true) ≡ false
      neither true = refl
      neither false = refl

-- the same of a result
module _ (delta : List Operation) (units : List Element) (weighed : Result ℕ Refusal)
    (past_end : (weighed ≡ Err PastEnd) ↔ (¬ (IsDefined units (counted delta))))
    (cuts : (weighed ≡ Err CutsPair) ↔ (IsDefined units (counted delta) × Cuts units (counted delta))) where
  pub weighed-ok : OnOk weighed (stands_on delta units ≡ true)
  weighed-ok = by_result weighed refl where
    by_result : (w : Result ℕ Refusal) → weighed ≡ w → OnOk w (stands_on delta units ≡ true)
    by_result (Ok weight) e = stands_where delta units weighed past_end cuts weight e
    by_result (Err refusal) e = tt

  pub weighed-err : IfErr weighed (λ refusal. (refusal ≡ PastEnd) ⊎ (refusal ≡ CutsPair)) → OnErr weighed (stands_on delta units ≡ false)
  weighed-err only = by_result weighed refl only where
    by_result : (w : Result ℕ Refusal) → weighed ≡ w → IfErr w (λ refusal. (refusal ≡ PastEnd) ⊎ (refusal ≡ CutsPair)) → OnErr w (stands_on delta units ≡ false)
    by_result (Ok weight) e only = tt
    by_result (Err refusal) e only = fails delta units weighed past_end cuts refusal e only

-- where a change isn't a deletion, its delta stands on what stands in the document, and leads to what stands there after it
module _ (step : Step) (delta : List Operation) (units : List Element) (other : deletes step ≡ false) (blank : IsBlankFor step units) where
  pub stands-change : stands step delta units ≡ stands_on delta units
  stands-change = by_step step other blank where
    by_step : (st : Step) → deletes st ≡ false → IsBlankFor st units → stands st delta units ≡ stands_on delta units
    by_step Edits other blank = refl
    by_step Deletes other blank = absurd (true≢false other)
    by_step Revives other blank = ap (stands_on delta) (sym blank)

  pub after-change : units_after units step delta ≡ apply units (counted delta)
  after-change = by_step step other blank where
    by_step : (st : Step) → deletes st ≡ false → IsBlankFor st units → units_after units st delta ≡ apply units (counted delta)
    by_step Edits other blank = refl
    by_step Deletes other blank = absurd (true≢false other)
    by_step Revives other blank = ap (λ u. apply u (counted delta)) (sym blank)

-- a document that is created again has nothing in it
pub blank-for : (content : Content) (step : Step) → is_content content ≡ true → suits content.live step ≡ true → IsBlankFor step content.units
blank-for content Edits may suit = tt
blank-for content Deletes may suit = tt
blank-for content Revives may suit = nothing content.units (by_mark content.live suit may) where
  by_mark : (live : Bool) → not live ≡ true → (live || (length content.units == 0)) ≡ true → (length content.units == 0) ≡ true
  by_mark false dead may = may
  by_mark true dead may = absurd (true≢false (sym dead))

  nothing : (units : List Element) → (length units == 0) ≡ true → units ≡ []
  nothing [] e = refl
  nothing (x ∷ units) e = absurd (omega (arith, eqb-true (length (x ∷ units)) 0 e))

same_test : (x y m : ℕ) → (x ≤ m → y ≤ m) → (y ≤ m → x ≤ m) → nat_le x m ≡ nat_le y m
same_test x y m there back = by_tests (nat_le x m) (nat_le y m) refl refl where
  by_tests : (a b : Bool) → nat_le x m ≡ a → nat_le y m ≡ b → nat_le x m ≡ nat_le y m
  by_tests true true p q = p ∙ sym q
  by_tests false false p q = p ∙ sym q
  by_tests true false p q =
      let le : x ≤ m = grind (arith, nat_tests) in
      let le' : y ≤ m = there le in
      absurd (grind (arith, nat_tests))
  by_tests false true p q =
      let le : y ≤ m = grind (arith, nat_tests) in
      let le' : x ≤ m = back le in
      absurd (grind (arith, nat_tests))

-- the sum as the program makes it is as large as the weight, as far as the limit goes
pub light_sum : (weight sources most sum w beside : ℕ) → most < 2 ^ 32 → w ≡ min weight (2 ^ 64 - 1) → beside ≡ min sources (2 ^ 64 - 1)
    → sum ≡ min (w + beside) (2 ^ 64 - 1) → nat_le sum most ≡ nat_le (weight + sources) most
light_sum weight sources most sum w beside bound w_is beside_is sum_is =
    same_test sum (weight + sources) most (λ le. omega arith) (λ le. omega arith)
