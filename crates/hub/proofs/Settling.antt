-- What a writer's counts say of the board.
use Rattle.std.proofs.Common.{◌≡◌, ℕ, ◌+◌, ◌≤◌, List, [], ◌∷◌, ◌++◌, length, take, drop, refl, sym, ap, ◌∙◌, arith, append_assoc, append-nil, length-append}
use Rattle.std.specs.Prelude.{◌<◌, ◌&&◌, ◌==◌, nat_lt, nat_le, true}
use Rattle.std.proofs.lemmas.Bool.Decides.{nat_tests}
use Rattle.std.proofs.Math.Seq.{take-append_seam, drop-append_seam}
use mathlib.Core.List.{IsPrefix}
use Rattle.revision.specs.Command.{Taken, Command}
use Rattle.revision.specs.Acceptance.{Answer, Takes, Repeats, Refuses, answer}
use Rattle.recovery.specs.Found.{commands_of}
use Rattle.std.proofs.lemmas.List.{length-drop}
use Rattle.recovery.proofs.CallerLemmas.{commands-append}
use Rattle.published.proofs.CallerLemmas.{takens_long}
use Rattle.world.specs.Progress.{Progress, submitted, submitted_by}
use Rattle.world.specs.World.{Entry, entry_of, takens}
use Rattle.hub.specs.Runs.{ComesNext, MaySettle, Writer, counts_of, untaken}
use Rattle.hub.proofs.Placing.{takens-take, takens-drop}

-- a command that is submitted is neither taken off nor settled by that
counts_by : (board : Progress Entry) (command : Command) (due : Answer)
    → ((submitted_by (entry_of command) board due).taken ≡ board.taken) × ((submitted_by (entry_of command) board due).settled ≡ board.settled)
counts_by board command (Takes taken) = (refl, refl)
counts_by board command (Repeats revision) = (refl, refl)
counts_by board command (Refuses refusal) = (refl, refl)

pub counts_stay : (board : Progress Entry) (command : Command)
    → ((submitted (entry_of command) board command).taken ≡ board.taken) × ((submitted (entry_of command) board command).settled ≡ board.settled)
counts_stay board command = counts_by board command (answer board.state command)

settles : (settled taken n told : ℕ) → settled + n ≤ taken → told ≡ settled + n → 0 < n → nat_lt 0 n && nat_le (settled + n) taken && (told == settled + n) ≡ true
settles settled taken n told within same some = grind (arith, nat_tests)

-- the batch that comes next after what a writer has settled may be settled, since the board has settled and handed out as much
pub may_settle : (board : Progress Entry) (writer : Writer) (batch : List Taken) (told : List (List Taken)) → ComesNext writer batch told → writer.settled ≡ board.settled
    → writer.taken ≡ board.taken → IsPrefix (commands_of told) (takens board.order) → MaySettle board batch (length (commands_of told))
may_settle board writer batch told next settled taken (more, whole) =
    let before = commands_of next.before in
    let joined : commands_of told ≡ before ++ batch = ap commands_of next.ends ∙ commands-append next.before (batch ∷ []) ∙ ap (λ l. before ++ l) (append-nil batch) in
    let place : length before ≡ board.settled = next.settled ∙ settled in
    let order : before ++ (batch ++ more) ≡ takens board.order = sym (append_assoc before batch more) ∙ ap (λ l. l ++ more) (sym joined) ∙ whole in
    let behind : drop board.settled (takens board.order) ≡ batch ++ more =
    ap (λ n. drop n (takens board.order)) (sym place) ∙ ap (drop (length before)) (sym order) ∙ drop-append_seam before (batch ++ more) in
    let long : length (commands_of told) ≡ board.settled + length batch = omega (arith, ap length joined, length-append before batch, place) in
    record {
      next = sym (takens-take (length batch) (drop board.settled board.order) ∙ ap (take (length batch)) (takens-drop board.settled board.order ∙ behind) ∙ take-append_seam batch more);
      count = settles board.settled board.taken (length batch) (length (commands_of told)) (omega (arith, next.taken, settled, taken)) long (omega (arith, next.some));
    }

-- what comes next after what a writer has settled comes next by the board's own counts, where these are as large
pub comes_next : (board : Progress Entry) (writer : Writer) (batch : List Taken) (told : List (List Taken)) → ComesNext writer batch told
    → writer.settled ≡ board.settled → writer.taken ≡ board.taken → ComesNext (counts_of board) batch told
comes_next board writer batch told next settled taken = record {
  before = next.before;
  ends = next.ends;
  some = next.some;
  settled = next.settled ∙ settled;
  taken = omega (arith, next.taken, settled, taken);
}

-- where nothing is left to take off, all of the order is taken off
pub all_taken : (board : Progress Entry) → untaken board ≡ [] → length board.order ≤ board.taken
all_taken board none = omega (arith, takens_long (drop board.taken board.order), ap (λ (l : List Taken). length l) none, length-drop board.taken board.order)
