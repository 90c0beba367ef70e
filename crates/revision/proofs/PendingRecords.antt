-- The records of documents that are not added up yet.
use Rattle.std.proofs.Common.{◌≡◌, ℕ, ◌<◌, List, length, get_or, Some, refl, ap, ◌∙◌}
use Rattle.std.specs.Prelude.{map, slice_get, option_map}
use Rattle.std.proofs.lemmas.Option.{slice_get-map, slice_get_read}
use Rattle.revision.specs.Pending.{PendingDocument, record_of}

-- the record of the document at a place
pub record_at_place : (documents : List PendingDocument) (number : ℕ) (document : PendingDocument) → number < length documents → document ≡ get_or documents number document
    → slice_get (map record_of documents) number ≡ Some (record_of document)
record_at_place documents number document inside is =
    slice_get-map record_of documents number ∙ ap (λ o. option_map record_of o) (slice_get_read documents (length documents) number document refl inside is)
