-- A store whose oldest segment is being covered by milestones.
use Rattle.std.proofs.Common.{◌≡◌, ℕ, ◌≤◌, Option, Some, None, List, length, map, ◌∙◌, ap, subst, sym, arith}
use Rattle.std.specs.Prelude.{Result, Ok, Err, OnOk, slice_get}
use Rattle.std.proofs.lemmas.Bool.Decides.{nat_tests}
use Rattle.std.proofs.lemmas.List.{length-map}
use Rattle.std.proofs.lemmas.Option.{slice_get_past}
use Rattle.disk.specs.declared.device.Disk.{Ghosts}
use Rattle.refusal.specs.declared.Refusal.{Refusal}
use Rattle.revision.specs.Pending.{PendingDocument, record_of}
use Rattle.revision.specs.State.{newest_revision, DocumentRecord, revision_of}
use Rattle.segments.specs.Numbers.{IsOldest}
use Rattle.segments.specs.Ring.{known_numbers}
use Rattle.recovery.specs.declared.marks.Mark.{Mark}
use Rattle.recovery.specs.declared.store.Store.{Store}
use Rattle.recovery.specs.Marks.{without_segment}
use Rattle.recovery.specs.Jobs.{no_job_of, no_job_for}
use Rattle.recovery.specs.Open.{known_marks}
use Rattle.recovery.specs.steps.Freeing.{KeepsSegments}

-- a document can be given a milestone at its revision, where its open cells are no higher
pub none_against : (found : Option DocumentRecord) (newest high : ℕ) → newest ≡ newest_revision found → high ≤ newest → 1 ≤ newest → no_job_for found high newest ≡ None
none_against None newest high is above first = absurd (omega (arith, is, first))
none_against (Some found) newest high is above first = none_here
  where
    there : newest ≡ revision_of found
    there = is

    none_here : no_job_of found high newest ≡ None
    none_here = grind (arith, nat_tests)

-- no document at a place past all
pub none_there : (list : List PendingDocument) (documents : List DocumentRecord) (place : ℕ) → map record_of list ≡ documents → length list ≤ place
    → slice_get documents place ≡ None
none_there list documents place same past =
    slice_get_past documents place (omega (arith, past, length-map list record_of, ap (λ (l : List DocumentRecord). length l) same))

module _ {D : Type 0} {disk : Ghosts D} where
  pub keeps_on : {old mid new : Store D disk} → KeepsSegments old mid → KeepsSegments mid new → KeepsSegments old new
  keeps_on first second = record { state = second.state ∙ first.state; ring = second.ring ∙ first.ring; marks = second.marks ∙ first.marks }

  -- the marks of the segment that was retired are gone
  pub marks_gone : {A : Type 0} (old mid new : Store D disk) (result : Result A Refusal) → KeepsSegments old mid
      → OnOk result ((slot segment : ℕ) → IsOldest (known_numbers mid.ring) slot segment → known_marks new ≡ without_segment segment (known_marks mid))
      → OnOk result ((slot segment : ℕ) → IsOldest (known_numbers old.ring) slot segment → known_marks new ≡ without_segment segment (known_marks old))
  marks_gone old mid new (Ok answer) keeps gone = λ slot segment oldest.
      let here : IsOldest (known_numbers mid.ring) slot segment = subst (λ (l : List (Option ℕ)). IsOldest l slot segment) (ap known_numbers (sym keeps.ring)) oldest in
      gone slot segment here ∙ ap (λ (l : List Mark). without_segment segment l) keeps.marks
  marks_gone old mid new (Err refusal) keeps gone = tt
