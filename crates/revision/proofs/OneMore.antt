-- A state as it grows by a command, and its documents with what is prepared.
use Rattle.std.proofs.Common.{◌≡◌, ℕ, zero, suc, ◌+◌, ◌<◌, true, false, ◌&&◌, List, [], ◌∷◌, ◌++◌, length, map, take, Option, Some, None, refl, sym, ap, ap₂, ◌∙◌, arith, true≢false}
use Rattle.std.specs.Prelude.{slice_get}
use Rattle.std.proofs.lemmas.List.{take-map, map-append}
use Rattle.std.proofs.lemmas.Bool.{and_parts}
use Rattle.std.proofs.lemmas.Bool.Decides.{Decides-eqb, Decides-ltb}
use Rattle.revision.specs.steps.DocumentsView.{names_of}
use Rattle.revision.specs.steps.Index.{number_of}
use Rattle.revision.proofs.Indexed.{number-found, none_from_test, room_parts}
use Rattle.revision.specs.steps.ChangedAt.{changed_at}
use Rattle.revision.specs.Command.{Taken}
use Rattle.revision.specs.Past.{Next, Past, with_step, with_steps}
use Rattle.revision.specs.Pending.{PendingDocument, record_of, with_prepared}
use Rattle.revision.specs.steps.Preparing.{with_next, begun}
use Rattle.revision.specs.State.{Limits, DocumentRecord, State, next_of, record_by_name, set_document, has_room, begins, continues_by_name, grows, grown}
use Rattle.revision.proofs.ChangedAt.{map-changed_at}

-- one step more, at the end
with_steps-last : (keep : ℕ) (past : Past) (next : List Next) (last : Next)
    → with_steps keep past (next ++ last ∷ []) ≡ with_step keep (with_steps keep past next) last.step last.change
with_steps-last keep past [] last = refl
with_steps-last keep past (first ∷ others) last = with_steps-last keep (with_step keep past first.step first.change) others last

further : (i : ℕ) (found : Option DocumentRecord) (d : DocumentRecord) (ds : List DocumentRecord)
    → set_document (suc i) found (d ∷ ds) ≡ d ∷ set_document i found ds
further i None d ds = refl
further i (Some found) d ds = refl

-- a document that is there is changed
pub changed_by : (keep : ℕ) (i : ℕ) (documents : List PendingDocument) (taken : Taken)
    → set_document i (record_by_name keep (slice_get (map (with_prepared keep) documents) i) taken None) (map (with_prepared keep) documents)
    ≡ map (with_prepared keep) (changed_at (with_next (next_of taken)) i documents)
changed_by keep i [] taken = refl
changed_by keep zero (d ∷ others) taken =
    ap (λ (past : Past). record { name = d.name; past = past } ∷ map (with_prepared keep) others)
    (sym (with_steps-last keep d.past.past d.past.next (next_of taken)))
changed_by keep (suc i) (d ∷ others) taken =
    further i (record_by_name keep (slice_get (map (with_prepared keep) others) i) taken None) (with_prepared keep d) (map (with_prepared keep) others)
    ∙ ap (λ ds. with_prepared keep d ∷ ds) (changed_by keep i others taken)

-- where a change continues a document, the document is there
pub continued-within : (limits : Limits) (ds : List DocumentRecord) (i : ℕ) (taken : Taken) → continues_by_name limits (slice_get ds i) taken None ≡ true → i < length ds
continued-within limits [] i taken h = absurd (true≢false (sym h))
continued-within limits (d ∷ ds) zero taken h = omega arith
continued-within limits (d ∷ ds) (suc i) taken h = omega (arith, continued-within limits ds i taken h)

-- a document comes at the end
pub set-last : (ds : List DocumentRecord) (d : DocumentRecord) → set_document (length ds) (Some d) ds ≡ ds ++ d ∷ []
set-last [] d = refl
set-last (e ∷ ds) d = ap (λ es. e ∷ es) (set-last ds d)

pub none-past : (ds : List DocumentRecord) → slice_get ds (length ds) ≡ None
none-past [] = refl
none-past (d ∷ ds) = none-past ds

-- what is held isn't changed
pub record_of-changed : (change : PendingDocument → PendingDocument) → ((d : PendingDocument) → record_of (change d) ≡ record_of d) → (count i : ℕ) (documents : List PendingDocument)
    → map record_of (take count (changed_at change i documents)) ≡ map record_of (take count documents)
record_of-changed change same count i documents =
    sym (take-map record_of count (changed_at change i documents))
    ∙ ap (take count) (map-changed_at record_of change same i documents)
    ∙ take-map record_of count documents

pub same_length : (keep : ℕ) (documents : List PendingDocument) → length (map (with_prepared keep) documents) ≡ length documents
same_length keep [] = refl
same_length keep (d ∷ others) = ap suc (same_length keep others)

-- a state by its documents
abbrev pub state_by : Limits → List PendingDocument → State
state_by limits documents = record { limits = limits; documents = map (with_prepared limits.keep) documents }

module _ (limits : Limits) (documents : List PendingDocument) (taken : Taken) (name : List ℕ) where
  -- what there is where there is room for a document
  pub room_for : (number : ℕ) → has_room (state_by limits documents) number (Some name) ≡ true
      → (number ≡ length documents) × (length documents < limits.docs) × (number_of name 0 (names_of documents) ≡ None)
  room_for number room =
      let parts = room_parts _ _ _ room in (
        (Decides-eqb number (length (map (with_prepared limits.keep) documents))).0 parts.0 ∙ same_length limits.keep documents,
        rw (sym (same_length limits.keep documents)) ((Decides-ltb (length (map (with_prepared limits.keep) documents)) limits.docs).0 parts.1),
        none_from_test _ (number-found limits.keep name 0 documents ∙ parts.2),
      )

  -- the document that is made comes at the end
  pub created_by : taken.document ≡ length documents → taken.name ≡ Some name
      → map (with_prepared limits.keep) (documents ++ begun name (next_of taken) ∷ []) ≡ (grown (state_by limits documents) taken).documents
  created_by at named =
      let ds = map (with_prepared limits.keep) documents in
      map-append (with_prepared limits.keep) documents (begun name (next_of taken) ∷ [])
      ∙ sym (set-last ds (with_prepared limits.keep (begun name (next_of taken))))
      ∙ ap (λ found. set_document (length ds) (record_by_name limits.keep found taken (Some name)) ds) (sym (none-past ds))
      ∙ ap₂ (λ i n. set_document i (record_by_name limits.keep (slice_get ds i) taken n) ds) (same_length limits.keep documents ∙ sym at) (sym named)

-- a creation continues a state exactly where it has room there, and begins its document
module _ (state : State) (taken : Taken) (name : List ℕ) (named : taken.name ≡ Some name) where
  by_name : grows state taken
      ≡ (has_room state taken.document (Some name) && continues_by_name state.limits (slice_get state.documents taken.document) taken (Some name))
  by_name = ap (λ n. has_room state taken.document n && continues_by_name state.limits (slice_get state.documents taken.document) taken n) named

  pub created_as : has_room state taken.document (Some name) ≡ true → grows state taken ≡ begins state.limits taken
  created_as room =
      let parts = room_parts _ _ _ room in
      let at : taken.document ≡ length state.documents = (Decides-eqb taken.document (length state.documents)).0 parts.0 in
      by_name
      ∙ ap₂ (λ b found. b && continues_by_name state.limits found taken (Some name)) room (ap (slice_get state.documents) at ∙ none-past state.documents)

  pub created_parts : grows state taken ≡ true → (has_room state taken.document (Some name) ≡ true) × (begins state.limits taken ≡ true)
  created_parts grown =
      let room = (and_parts _ _ (sym by_name ∙ grown)).0 in
      (room, sym (created_as room) ∙ grown)
