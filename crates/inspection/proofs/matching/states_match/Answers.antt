use Rattle.std.proofs.Common.{◌≡◌, ◌<◌, ◌∙◌, inl, inr, true, false, Bool, Ok, Some, ℕ, length, map, get_or, sym, ap, subst, arith, rules}
use Rattle.std.specs.Prelude.{slice_get}
use Rattle.std.proofs.lemmas.Bool.{cases_lt}
use Rattle.revision.specs.Pending.{record_of}
use Rattle.inspection.specs.Matching.{PlacesMatch}
use Rattle.inspection.proofs.Told.{record_at_place}
use Rattle.inspection.proofs.Places.{lengths_match, place_matches, states_alike}
use Rattle.inspection.proofs.matching.states_match.Goals as goal

pub returns-then-not-same_limits-clause-differ : goal.returns-then-not-same_limits-clause-differ
returns-then-not-same_limits-clause-differ c = λ is alike.
    let no : c.same_limits.result ≡ false = search rules in
    let yes : c.same_limits.result ≡ true = c.same_limits.ensures.1 (c.limits.ensures.limits ∙ alike.limits ∙ sym c.limits-2.ensures.limits) in
    let both : false ≡ true = sym no ∙ yes in
    absurd cc

pub returns-then-documents-others-clause-differ : goal.returns-then-documents-others-clause-differ
returns-then-documents-others-clause-differ c = λ is alike.
    let documents = c.documents-documents.result.now in
    let others = c.documents-others.result.now in
    let same : length documents ≡ length others =
    lengths_match documents others c.args.one.now c.args.other.now c.documents-documents.ensures.documents c.documents-others.ensures.documents alike in
    search (same, rules)

pub returns-then-not-branch-clause-differ : goal.returns-then-not-branch-clause-differ
returns-then-not-branch-clause-differ c = λ is alike.
    let documents = c.documents-documents.result.now in
    let others = c.documents-others.result.now in
    let number = c.loop-number.number in
    let one = c.index-documents-number.result in
    let other = c.index-others-number.result in
    let within : number < length documents = search rules in
    let within_others : number < length others = search rules in
    let is_one : one ≡ get_or documents number one = search rules in
    let is_other : other ≡ get_or others number other = search rules in
    let no : c.in_ok-documents_match.field-0 ≡ false = search rules in
    let matched = place_matches documents others c.args.one.now c.args.other.now c.documents-documents.ensures.documents c.documents-others.ensures.documents
    number (record_of one) (record_of other) (record_at_place documents number one within is_one) (record_at_place others number other within_others is_other) alike in
    c.in_ok-documents_match.ensures.differ (ap (λ (b : Bool). Ok b) no) matched

pub loop-number-preserved : goal.loop-number-preserved
loop-number-preserved c = λ place inside.
    let documents = c.documents-documents.result.now in
    let others = c.documents-others.result.now in
    let number = c.loop-number.number in
    let one = c.index-documents-number.result in
    let other = c.index-others-number.result in
    let within : number < length documents = search rules in
    let within_others : number < length others = search rules in
    let is_one : one ≡ get_or documents number one = search rules in
    let is_other : other ≡ get_or others number other = search rules in
    let yes : c.in_ok-documents_match.field-0 ≡ true = search rules in
    let matched = c.in_ok-documents_match.ensures.alike (ap (λ (b : Bool). Ok b) yes) in
    elim (cases_lt place number) [
      | inl below ↦ c.loop-number.invariant place below
      | inr above ↦
          let here : number ≡ place = omega (arith, inside, above) in
          subst (λ (n : ℕ). PlacesMatch (slice_get (map record_of documents) n) (slice_get (map record_of others) n)) here
          (subst (λ o. PlacesMatch (slice_get (map record_of documents) number) o) (sym (record_at_place others number other within_others is_other))
          (subst (λ o. PlacesMatch o (Some (record_of other))) (sym (record_at_place documents number one within is_one)) matched))
    ]

pub returns-clause-alike : goal.returns-clause-alike
returns-clause-alike c = λ is.
    let documents = c.documents-documents.result.now in
    let others = c.documents-others.result.now in
    let same : length documents ≡ length others = search rules in
    let yes : c.same_limits.result ≡ true = search rules in
    let limits = sym c.limits.ensures.limits ∙ c.same_limits.ensures.0 yes ∙ c.limits-2.ensures.limits in
    states_alike documents others c.args.one.now c.args.other.now c.documents-documents.ensures.documents c.documents-others.ensures.documents limits same
    (λ place inside. c.loop-number.invariant place (omega (arith, inside, c.loop-number-test.false)))
