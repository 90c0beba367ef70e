-- What the writer counts, from call to call.
use Rattle.std.proofs.Common.{◌≡◌, ◌+◌, ℕ, List, [], ◌∷◌, ◌++◌, length, sym, ◌∙◌, ap, arith, append-nil, length-append}
use Rattle.std.specs.Prelude.{Some, Result, Ok, Err, OnOk, IfErr}
use Rattle.disk.specs.declared.device.Disk.{Ghosts}
use Rattle.refusal.specs.declared.Refusal.{Refusal}
use Rattle.revision.specs.Command.{Taken}
use Rattle.recovery.specs.Found.{commands_of}
use Rattle.recovery.specs.Moment.{Receipt}
use Rattle.recovery.specs.declared.store.Store.{Store}
use Rattle.revision.specs.State.{State}
use Rattle.hub.specs.Legal.{Board}
use Rattle.hub.specs.Runs.{ComesNext, Writer, counts_ended, counts_settled, counts_taken}
use Rattle.flusher.specs.declared.flusher.Flusher.{Flusher}
use Rattle.flusher.specs.Holding.{KeepsBatches, told_of, committed_of, waiting_of, under_way}
use Rattle.flusher.specs.Standing.{HaveBegun}
use Rattle.flusher.specs.Upkeep.{KeepsUp}
use Rattle.flusher.specs.Writing.{HasCommitted, HasPublished, HoldsNow, IsHeldBack}
use Rattle.flusher.proofs.CallerLemmas.{commands-append}
use Rattle.turns.specs.Counting.{IsAt, IsAllPublished}
use Rattle.turns.specs.Writing.{told_count}

module _ {D L : Type 0} {disk : Ghosts D} where
  -- what is published and what is under way stays
  pub at_still : (writer : Writer) (old new : Flusher D L disk) → told_of new ≡ told_of old → under_way new ≡ under_way old → IsAt writer old → IsAt writer new
  at_still writer old new told held at = record {
    settled = at.settled ∙ sym (ap (λ (t : List (List Taken)). length (commands_of t)) told);
    taken = omega (arith, at.taken, ap (λ (t : List (List Taken)). length (commands_of t)) told, ap (λ (t : List (List Taken)). length (commands_of t)) held);
  }

  pub at_kept : (writer : Writer) (old new : Flusher D L disk) → KeepsBatches old new → IsAt writer old → IsAt writer new
  at_kept writer old new keeps at =
      at_still writer old new keeps.told
      (ap (λ (l : List (List Taken)). l ++ waiting_of new) keeps.committed ∙ ap (λ (l : List (List Taken)). committed_of old ++ l) keeps.waiting) at

  pub at_kept_up : (writer : Writer) (old new : Flusher D L disk) → KeepsUp old new → IsAt writer old → IsAt writer new
  at_kept_up writer old new keeps at = at_kept writer old new keeps.batches at

  -- what was held is committed, or held still
  pub at_committed : (writer : Writer) (result : Result (Unit {0}) Refusal) (old new : Flusher D L disk) → OnOk result (HasCommitted old new) → IfErr result (λ e. IsHeldBack e old new)
      → IsAt writer old → IsAt writer new
  at_committed writer (Ok x) old new done back at =
      at_still writer old new done.told
      (ap (λ (l : List (List Taken)). l ++ waiting_of new) done.committed ∙ ap (λ (l : List (List Taken)). under_way old ++ l) done.waiting ∙ append-nil (under_way old)) at
  at_committed writer (Err refusal) old new done back at = at_kept writer old new back.still.batches at

  -- nothing is under way
  nothing : (flusher : Flusher D L disk) → committed_of flusher ≡ [] → waiting_of flusher ≡ [] → under_way flusher ≡ []
  nothing flusher committed waiting = ap (λ (l : List (List Taken)). l ++ waiting_of flusher) committed ∙ waiting

  -- a hub of a board that has begun with the flusher, whatever seats it gave
  pub at_begun : (start : State) (store : Store D disk) (seats : ℕ) (flusher : Flusher D L disk) (begun board : Board) (writer : Writer) → HaveBegun start store seats flusher begun
      → board.progress ≡ begun.progress → writer ≡ record { taken = board.progress.taken; settled = board.progress.settled; ended = 0 } → IsAt writer flusher
  at_begun start store seats flusher begun board writer has same is =
      let none : told_count flusher ≡ 0 = ap (λ (t : List (List Taken)). length (commands_of t)) has.told in
      record {
        settled = ap (λ (w : Writer). w.settled) is ∙ ap (λ b. b.settled) same ∙ ap (λ (b : Board). b.progress.settled) has.fresh ∙ sym none;
        taken = omega (
          arith,
          none,
          ap (λ (w : Writer). w.taken) is,
          ap (λ b. b.taken) same,
          ap (λ (b : Board). b.progress.taken) has.fresh,
          ap (λ (t : List (List Taken)). length (commands_of t)) (nothing flusher has.calm.committed has.calm.waiting),
        );
      }

  -- what is taken off then follows what is published
  pub follows : (writer : Writer) (flusher : Flusher D L disk) → committed_of flusher ≡ [] → waiting_of flusher ≡ [] → IsAt writer flusher → writer.taken ≡ told_count flusher
  follows writer flusher committed waiting at =
      omega (arith, at.taken, ap (λ (t : List (List Taken)). length (commands_of t)) (nothing flusher committed waiting))

  -- the writer was told that nothing comes any more
  pub at_end : (writer after : Writer) (flusher : Flusher D L disk) → after ≡ counts_ended writer → IsAt writer flusher → IsAt after flusher
  at_end writer after flusher is at = record {
    settled = ap (λ (w : Writer). w.settled) is ∙ at.settled;
    taken = ap (λ (w : Writer). w.taken) is ∙ at.taken;
  }

  -- and then all of the order is published, where nothing is under way
  pub all_published : (writer after : Writer) (flusher : Flusher D L disk) → after ≡ counts_ended writer → committed_of flusher ≡ [] → waiting_of flusher ≡ [] → IsAt writer flusher
      → IsAllPublished after flusher
  all_published writer after flusher is committed waiting at =
      (ap (λ (w : Writer). w.ended) is, ap (λ (w : Writer). w.taken) is ∙ follows writer flusher committed waiting at)

  -- a run was taken off that has no command
  pub at_none : (writer after : Writer) (flusher : Flusher D L disk) → after ≡ counts_taken writer 0 → IsAt writer flusher → IsAt after flusher
  at_none writer after flusher is at = record {
    settled = ap (λ (w : Writer). w.settled) is ∙ at.settled;
    taken = omega (arith, at.taken, ap (λ (w : Writer). w.taken) is);
  }

  -- it is held
  pub at_held : (writer after : Writer) (old new : Flusher D L disk) (run : List Taken) → committed_of old ≡ [] → waiting_of old ≡ [] → after ≡ counts_taken writer (length run)
      → HoldsNow run old new → IsAt writer old → IsAt after new
  at_held writer after old new run committed waiting is holds at =
      let held : under_way new ≡ run ∷ [] = ap (λ (l : List (List Taken)). l ++ waiting_of new) (holds.committed ∙ committed) ∙ holds.waiting in
      record {
        settled = ap (λ (w : Writer). w.settled) is ∙ at.settled ∙ sym (ap (λ (t : List (List Taken)). length (commands_of t)) holds.told);
        taken = omega (
          arith,
          follows writer old committed waiting at,
          ap (λ (w : Writer). w.taken) is,
          ap (λ (t : List (List Taken)). length (commands_of t)) holds.told,
          ap (λ (t : List (List Taken)). length (commands_of t)) held,
          length-append run [],
        );
      }

  -- what was written comes next
  pub comes_next : (writer : Writer) (old new : Flusher D L disk) (both : Receipt D × List (List Taken)) → HasPublished (Some both) old new → IsAt writer old
      → ComesNext writer both.0.batch both.1
  comes_next writer old new both done at = record {
    before = told_of old;
    ends = done.some.token_is ∙ done.some.published ∙ ap (λ (l : List (List Taken)). told_of old ++ l) done.some.batch;
    some = done.some.some;
    settled = sym at.settled;
    taken = omega (arith, at.settled, at.taken, ap (λ (t : List (List Taken)). length (commands_of t)) done.some.batch, length-append both.0.batch []);
  }

  -- and it is settled
  pub at_settled : (writer after : Writer) (old new : Flusher D L disk) (both : Receipt D × List (List Taken)) → HasPublished (Some both) old new
      → after ≡ counts_settled writer (length both.0.batch) → IsAt writer old → IsAt after new
  at_settled writer after old new both done is at =
      let told : told_of new ≡ told_of old ++ both.0.batch ∷ [] = done.some.published ∙ ap (λ (l : List (List Taken)). told_of old ++ l) done.some.batch in
      let longer : told_count new ≡ told_count old + length both.0.batch =
      omega (
        arith,
        ap (λ (t : List (List Taken)). length (commands_of t)) told,
        ap length (commands-append (told_of old) (both.0.batch ∷ [])),
        length-append (commands_of (told_of old)) (both.0.batch ++ []),
        length-append both.0.batch [],
      ) in
      record {
        settled = omega (arith, at.settled, ap (λ (w : Writer). w.settled) is, longer);
        taken = omega (
          arith,
          at.taken,
          ap (λ (w : Writer). w.taken) is,
          longer,
          ap (λ (t : List (List Taken)). length (commands_of t)) done.some.batch,
          length-append both.0.batch [],
          ap (λ (t : List (List Taken)). length (commands_of t)) (nothing new done.committed done.waiting),
        );
      }
