-- A text that the last run of a document takes in.
use Rattle.std.proofs.Common.{◌≡◌, ◌≢◌, Bool, true, false, MatchBool, Some, ℕ, ◌+◌, ◌≤◌, List, [], ◌∷◌, ◌++◌, length, get_or, set, sym, ap, subst, ◌∙◌, arith, length-append}
use Rattle.attributes.specs.Attributes.{Attributes}
use Rattle.delta.specs.Element.{Element}
use Rattle.document.specs.Chunks.{runs_of_chunks, units_of_chunks, IsChunk, AreSized, AreChunks}
use Rattle.document.specs.Pairs.{IsWellFormed}
use Rattle.document.specs.Runs.{units_of_runs, AreRuns, TakesText, last_attributes}
use Rattle.document.proofs.Chunked.{runs_of_chunks-last, AreSized-append, AreSized-parts, TakesText-later, length_chunks-more, length_chunks-before}
use Rattle.document.proofs.Ended.{ends_in, set-last, units-taken, AreRuns-taken}

-- one chunk is no longer than all
pub length_chunk : (cs : List (List (List Element))) (n : ℕ) (c : List (List Element)) → n + 1 ≡ length cs → c ≡ get_or cs n c → length (units_of_runs c) ≤ length (units_of_chunks cs)
length_chunk cs n c at is = omega (arith, length_chunks-more cs n c (omega (arith, at)) is, length_chunks-before cs (n + 1))

as_many : (old new : List (List Element)) (more : List Element) (a : Attributes) → TakesText old new more a → length new ≡ length old
as_many old new more a takes =
    ap length takes.4
    ∙ (length-append takes.0 ((takes.1 ++ more) ∷ []) ∙ (sym (length-append takes.0 (takes.1 ∷ [])) ∙ sym (ap length takes.2)))

pub appended_chunks : (yes : Bool) (cs : List (List (List Element))) (n : ℕ) (old new : List (List Element)) (more : List Element) (a : Attributes)
    → n + 1 ≡ length cs → old ≡ get_or cs n old → IsWellFormed more → AreChunks cs
    → MatchBool yes (TakesText old new more a) ((last_attributes old ≢ Some a) × (new ≡ old))
    → MatchBool yes (units_of_chunks (set cs n new) ≡ units_of_chunks cs ++ more) (units_of_chunks (set cs n new) ≡ units_of_chunks cs)
    × (length (units_of_chunks (set cs n new)) ≤ length (units_of_chunks cs) + length more) × AreChunks (set cs n new)
appended_chunks true cs n old new more a at is formed chunks takes =
    let e = ends_in cs n old (omega (arith, at)) is in
    let same : set cs n new ≡ e.before ++ new ∷ [] = set-last cs old new e n at in
    let front = runs_of_chunks e.before in
    let later = TakesText-later front old new more a takes in
    let now : runs_of_chunks (set cs n new) ≡ front ++ new = ap runs_of_chunks same ∙ runs_of_chunks-last e.before new in
    let before : runs_of_chunks cs ≡ front ++ old = ap runs_of_chunks e.parts ∙ runs_of_chunks-last e.before old in
    let units : units_of_chunks (set cs n new) ≡ units_of_chunks cs ++ more =
    ap units_of_runs now ∙ (units-taken (front ++ old) (front ++ new) more a later ∙ ap (λ l. units_of_runs l ++ more) (sym before)) in
    let sized = AreSized-parts e.before (old ∷ []) (subst AreSized e.parts chunks.0) in
    let count = as_many old new more a takes in
    let is_chunk : IsChunk new = (omega (arith, count, sized.1.0.0), omega (arith, count, sized.1.0.1)) in (
      units,
      omega (arith, ap length units, length-append (units_of_chunks cs) more),
      (
        subst AreSized (sym same) (AreSized-append e.before (new ∷ []) sized.0 (is_chunk, tt)),
        subst AreRuns (sym now) (AreRuns-taken (front ++ old) (front ++ new) more a later formed (subst AreRuns before chunks.1)),
      ),
    )
appended_chunks false cs n old new more a at is formed chunks missed =
    let e = ends_in cs n old (omega (arith, at)) is in
    let same : set cs n new ≡ cs = set-last cs old new e n at ∙ (ap (λ c. e.before ++ c ∷ []) missed.1 ∙ sym e.parts) in (
      ap units_of_chunks same,
      omega (arith, ap (λ l. length (units_of_chunks l)) same),
      subst AreChunks (sym same) chunks,
    )
