-- The documents of the program, without where they lie in memory.
use Rattle.std.specs.Prelude.{◌≡◌, ◌⊎◌, ◌≤◌, ℕ, List, [], Some, length, take, map, slice_get}
use Rattle.std.specs.BTreeMap.{get_by_text}
use Rattle.revision.specs.declared.past.documents.Documents.TheInside.{Inside}
use Rattle.revision.specs.steps.ChangedAt.{IsAmong}
use Rattle.revision.specs.Documents.{PreparedState}
use Rattle.revision.specs.steps.Index.{IsIndex, NoneTwice}
use Rattle.revision.specs.Invariants.{IsLimits}
use Rattle.revision.specs.Pending.{PendingDocument, record_of, with_prepared}

-- what is held are the first documents; the others are creations that are prepared
abbrev pub states_of : Inside → PreparedState
states_of d = record {
  before = record { limits = d.limits; documents = map record_of (take d.count d.documents.items) };
  after = record { limits = d.limits; documents = map (with_prepared d.limits.keep) d.documents.items };
}

abbrev pub names_of : List PendingDocument → List (List ℕ)
names_of documents = map (λ d. d.name) documents

-- nothing is prepared of a document that isn't touched
abbrev pub UntouchedRest : List ℕ → List PendingDocument → Type 0
UntouchedRest touched documents =
    (i : ℕ) (d : PendingDocument) → slice_get documents i ≡ Some d → IsAmong i touched ⊎ (d.past.next ≡ [])

pub record AreDocuments (d : Inside) : Type 0 where
  pub limits : IsLimits d.limits
  pub held : d.count ≤ length d.documents.items
  pub room : length d.documents.items ≤ d.limits.docs
  pub index : IsIndex (get_by_text d.names.map) (names_of d.documents.items)
  pub none_twice : NoneTwice (names_of d.documents.items)
  pub rest : UntouchedRest d.touched.items d.documents.items
