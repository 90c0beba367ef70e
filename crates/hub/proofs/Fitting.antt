-- A run that is the longest fits.
use Rattle.std.proofs.Common.{◌≡◌, ◌⊎◌, ◌≤◌, ℕ, List, [], length, drop, sym, subst, ◌∙◌, inl, inr}
use Rattle.std.specs.Prelude.{Result, Ok, Err, IfOk}
use Rattle.std.proofs.lemmas.List.{take-map, nil_from_length}
use Rattle.revision.specs.Command.{Taken}
use Rattle.journal.specs.BatchSpelling.{batch_width}
use Rattle.world.specs.Progress.{Progress, next_run}
use Rattle.world.specs.World.{Entry, takens}
use Rattle.hub.specs.Runs.{IsLongest, untaken}

pub longest_fits : (board : Progress Entry) (cap : ℕ) (run : List Taken) → IsLongest cap (untaken board) (length run)
    → run ≡ takens (next_run board (length run)) → (run ≡ []) ⊎ (batch_width run ≤ cap)
longest_fits board cap run longest is = elim longest.fits [
  | inl none ↦ inl (nil_from_length run none)
  | inr fits ↦ inr (subst (λ (r : List Taken). batch_width r ≤ cap)
      (take-map (λ (entry : Entry). entry.taken) (length run) (drop board.taken board.order) ∙ sym is) fits)
]

-- of a result, what follows from two facts of its value
pub if_ok_both : {A E : Type 0} (P Q R : A → Type 0) → ((value : A) → P value → Q value → R value) → (result : Result A E)
    → IfOk result P → IfOk result Q → IfOk result R
if_ok_both P Q R follows (Ok value) one other = follows value one other
if_ok_both P Q R follows (Err refusal) one other = tt
