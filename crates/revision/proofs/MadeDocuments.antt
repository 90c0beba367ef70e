-- What stands beside commands, and what a command leaves in its document.
use Rattle.std.proofs.Common.{◌≡◌, ℕ, zero, suc, ◌<◌, true, Some, None, List, [], ◌∷◌, length, map, get_or, refl, ap, ap₂, ◌∙◌, arith}
use Rattle.std.specs.Prelude.{Option, option_map, is_some, slice_get}
use Rattle.std.proofs.lemmas.Option.{slice_get-map, slice_get_read}
use Rattle.delta.specs.Element.{Element}
use Rattle.revision.specs.Command.{Taken}
use Rattle.revision.specs.Made.{text_of, IsMade, MadeMore, MadeBefore, MadeFirst, MadeRest}
use Rattle.revision.specs.Past.{Content, units_after, empty_past, prepared_units}
use Rattle.revision.specs.Pending.{PendingDocument, with_prepared}
use Rattle.revision.specs.State.{DocumentRecord, State, next_of, record_by_name, set_document, grown}
use Rattle.revision.proofs.Following.{content-with_steps}
use Rattle.revision.proofs.OneMore.{none-past}

-- what a command leaves in the document of its number
pub left_at : (keep : ℕ) (documents : List DocumentRecord) (number : ℕ) (taken : Taken)
    → slice_get (set_document number (record_by_name keep (slice_get documents number) taken None) documents) number ≡ record_by_name keep (slice_get documents number) taken None
left_at keep [] number taken = refl
left_at keep (first ∷ others) zero taken = refl
left_at keep (first ∷ others) (suc number) taken = through (record_by_name keep (slice_get others number) taken None) (left_at keep others number taken) where
  through : (found : Option DocumentRecord) → slice_get (set_document number found others) number ≡ found → slice_get (set_document (suc number) found (first ∷ others)) (suc number) ≡ found
  through None is = is
  through (Some found) is = is

pub left_by : (state : State) (taken : Taken) (document : List Element) → taken.name ≡ None → IsMade state taken document
    → document ≡ text_of (record_by_name state.limits.keep (slice_get state.documents taken.document) taken None)
left_by state taken document named made =
    made.left
    ∙ ap (λ n. text_of (slice_get (set_document taken.document (record_by_name state.limits.keep (slice_get state.documents taken.document) taken n) state.documents) taken.document)) named
    ∙ ap text_of (left_at state.limits.keep state.documents taken.document taken)

-- which is what its delta makes of what is prepared
pub left_there : (keep : ℕ) (d : PendingDocument) (taken : Taken)
    → text_of (record_by_name keep (Some (with_prepared keep d)) taken None) ≡ units_after (prepared_units d.past) taken.step taken.delta
left_there keep d taken =
    ap (λ (c : Content). c.units) (content-with_steps keep (with_prepared keep d).past (next_of taken ∷ []))
    ∙ ap (λ (c : Content). units_after c.units taken.step taken.delta) (content-with_steps keep d.past.past d.past.next)

pub left_of : (keep : ℕ) (documents : List PendingDocument) (i : ℕ) (d : PendingDocument) (taken : Taken) → i < length documents → d ≡ get_or documents i d
    → text_of (record_by_name keep (slice_get (map (with_prepared keep) documents) i) taken None) ≡ units_after (prepared_units d.past) taken.step taken.delta
left_of keep documents i d taken inside is =
    ap (λ found. text_of (record_by_name keep found taken None))
    (slice_get-map (with_prepared keep) documents i ∙ ap (option_map (with_prepared keep)) (slice_get_read documents (length documents) i d refl inside is))
    ∙ left_there keep d taken

-- what a creation leaves in the document that comes at the end
pub left_new : (state : State) (taken : Taken) (name : List ℕ) (document : List Element) → taken.name ≡ Some name → taken.document ≡ length state.documents
    → IsMade state taken document → document ≡ units_after [] taken.step taken.delta
left_new state taken name document named at made =
    made.left
    ∙ (ap₂ (λ i n. text_of (slice_get (set_document i (record_by_name state.limits.keep (slice_get state.documents i) taken n) state.documents) i)) at named
    ∙ (ap (λ found. text_of (slice_get (set_document (length state.documents) (record_by_name state.limits.keep found taken (Some name)) state.documents) (length state.documents)))
    (none-past state.documents)
    ∙ (ap text_of (at-end state.documents (record_by_name state.limits.keep None taken (Some name)) refl)
    ∙ ap (λ (c : Content). c.units) (content-with_steps state.limits.keep empty_past (next_of taken ∷ [])))))
  where
    at-end : (documents : List DocumentRecord) (found : Option DocumentRecord) → is_some found ≡ true
        → slice_get (set_document (length documents) found documents) (length documents) ≡ found
    at-end documents None some = absurd (cc)
    at-end [] (Some found) some = refl
    at-end (first ∷ others) (Some found) some = at-end others (Some found) some

pub made_more : MadeMore
made_more state [] [] taken document are same is = (is, tt)
made_more state [] (made ∷ rest) taken document are same is = absurd are
made_more state (first ∷ others) [] taken document are same is = absurd (omega (arith, same))
made_more state (first ∷ others) (made ∷ rest) taken document are same is =
    (are.0, made_more (grown state first) others rest taken document are.1 (omega (arith, same)) is)

pub made_before : MadeBefore
made_before state commands others [] are = tt
made_before state [] others (made ∷ rest) are = absurd are
made_before state (first ∷ commands) others (made ∷ rest) are = (are.0, made_before (grown state first) commands others rest are.1)

pub made_first : MadeFirst
made_first state commands documents zero are = tt
made_first state commands [] (suc count) are = tt
made_first state [] (made ∷ rest) (suc count) are = absurd are
made_first state (first ∷ others) (made ∷ rest) (suc count) are = (are.0, made_first (grown state first) others rest count are.1)

pub made_rest : MadeRest
made_rest state commands documents zero are = are
made_rest state commands [] (suc count) are = tt
made_rest state [] (made ∷ rest) (suc count) are = absurd are
made_rest state (first ∷ others) (made ∷ rest) (suc count) are = made_rest (grown state first) others rest count are.1
