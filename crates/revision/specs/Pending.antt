-- A document with the changes that are prepared to follow.
use Rattle.std.specs.Prelude.{◌≡◌, ℕ, Option, Some, None, List, [], refl}
use Rattle.std.specs.Coded.{Coded, code_by, coded×, coded_list, coded_ℕ}
use Rattle.delta.specs.Element.{Element}
use Rattle.revision.specs.Sources.{Sources, Table}
use Rattle.revision.specs.Past.{Prepared, prepared_code, newest, newest_units, newest_sources, prepared_units, sources_after, changes_in, with_steps}
use Rattle.revision.specs.State.{DocumentRecord}

-- the document's name, and its past with the changes that are prepared
pub record PendingDocument : Type 0 where
  pub name : List ℕ
  pub past : Prepared

-- the document without them
abbrev pub record_of : PendingDocument → DocumentRecord
record_of d = record { name = d.name; past = d.past.past }

-- the document with them
abbrev pub with_prepared : ℕ → PendingDocument → DocumentRecord
with_prepared keep d = record { name = d.name; past = with_steps keep d.past.past d.past.next }

-- the sources after what is prepared
abbrev pub prepared_sources : Prepared → Sources
prepared_sources prepared = sources_after (newest prepared.past) (newest_sources prepared.past) (changes_in prepared.next)

-- the units after what is prepared, which are kept where something is
abbrev pub AreNextUnits : Prepared → Option (List Element) → Type 0
AreNextUnits prepared None = prepared.next ≡ []
AreNextUnits prepared (Some units) = units ≡ prepared_units prepared

-- what is kept beside the past is what comes of it
pub record ComesOf (past : Prepared) (units : List Element) (next : Option (List Element)) (sources : Table) : Type 0 where
  pub newest : units ≡ newest_units past.past
  pub after : AreNextUnits past next
  pub held : sources.accepted ≡ newest_sources past.past
  pub prepared : sources.prepared ≡ prepared_sources past

-- how a document is told from another
abbrev pub pending_code : Coded PendingDocument
pending_code =
    code_by (List ℕ × Prepared) (coded× (coded_list coded_ℕ) prepared_code) (λ d. (d.name, d.past)) (λ p. record { name = p.0; past = p.1 }) (λ _. refl)
