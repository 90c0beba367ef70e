-- What a milestone is made of: units of a document, and deltas that lead from them to a revision, with the document's sources there.
use Rattle.std.specs.Prelude.{◌≡◌, ℕ, ◌≤◌, ◌<◌, ◌^◌, Bool, List, [], ◌∷◌, refl}
use Rattle.std.specs.Coded.{Coded, code_by, coded×, coded_list, coded_ℕ, coded_bool}
use Rattle.delta.specs.Element.{Element}
use Rattle.delta.specs.Operation.{Operation, operation_code, base_of}
use Rattle.delta.specs.Gaps.{counted, apply}
use Rattle.compose.specs.Many.{applied, lengths_of}
use Rattle.revision.specs.Past.{StandInTurn}
use Rattle.revision.specs.Sources.{Sources, sources_code}
use Rattle.history.specs.Cell.{Cell}
use Rattle.milestone.specs.Milestone.{IsMilestone}

-- The document's number in order of creation, its name, the revision, the inserts that make the units at some revision up to that, the deltas
-- in turn, where the first stands on these units, whether the document is live or deleted, and the sources at the revision.
pub record Job : Type 0 where
  pub document : ℕ
  pub name : List ℕ
  pub revision : ℕ
  pub base : List Operation
  pub deltas : List (List Operation)
  pub live : Bool
  pub sources : Sources

-- the units that the deltas stand on
abbrev pub units_of_job : Job → List Element
units_of_job job = apply [] (counted job.base)

-- the cell that comes of it: what the deltas make of the units
abbrev pub cell_of_job : Job → Cell
cell_of_job job = record {
  name = job.name;
  revision = job.revision;
  content = record { units = applied (units_of_job job) job.deltas; live = job.live };
  sources = job.sources;
}

-- the base lengths and the output lengths of the inserts and of all deltas together sum to at most 2^48
abbrev pub KeepLengths : List Operation → List (List Operation) → Type 0
KeepLengths base deltas = lengths_of (base ∷ deltas) ≤ 2 ^ 48

-- Each delta is accepted by the document that those before it make of the units: it speaks of units that are there, and parts no pair. All
-- their lengths keep the bound, and what comes of them is a milestone.
pub record IsJob (job : Job) : Type 0 where
  pub document : job.document < 2 ^ 32
  pub inserts : base_of job.base ≡ 0
  pub stand : StandInTurn (units_of_job job) job.deltas
  pub lengths : KeepLengths job.base job.deltas
  pub milestone : IsMilestone (cell_of_job job)

-- how a job is told from another
abbrev pub job_code : Coded Job
job_code =
    code_by (ℕ × (List ℕ × (ℕ × (List Operation × (List (List Operation) × (Bool × Sources))))))
    (coded× coded_ℕ (coded× (coded_list coded_ℕ) (coded× coded_ℕ (coded× (coded_list operation_code)
    (coded× (coded_list (coded_list operation_code)) (coded× coded_bool sources_code))))))
    (λ j. (j.document, (j.name, (j.revision, (j.base, (j.deltas, (j.live, j.sources)))))))
    (λ p. record { document = p.0; name = p.1.0; revision = p.1.1.0; base = p.1.1.1.0; deltas = p.1.1.1.1.0; live = p.1.1.1.1.1.0; sources = p.1.1.1.1.1.1 })
    (λ _. refl)
