-- Where the flusher's thread stands between its turns.
use Rattle.std.specs.Prelude.{◌≡◌, ◌+◌, ◌++◌, length}
use Rattle.disk.specs.declared.device.Disk.{Ghosts}
use Rattle.recovery.specs.Found.{commands_of}
use Rattle.hub.specs.Runs.{Writer}
use Rattle.flusher.specs.declared.flusher.Flusher.{Flusher}
use Rattle.flusher.specs.Holding.{committed_of, waiting_of}
use Rattle.turns.specs.Writing.{told_count}

module _ {D L : Type 0} {disk : Ghosts D} where
  -- What is published is settled, and what is taken off the order is published, committed or held, and nothing else is.
  pub record IsAt (writer : Writer) (flusher : Flusher D L disk) : Type 0 where
    pub settled : writer.settled ≡ told_count flusher
    pub taken : writer.taken ≡ told_count flusher + length (commands_of (committed_of flusher ++ waiting_of flusher))

  -- All of the order is published: the writer was told that nothing comes any more, and all that it took off is published.
  abbrev pub IsAllPublished : Writer → Flusher D L disk → Type 0
  IsAllPublished writer flusher = (writer.ended ≡ 1) × (writer.taken ≡ told_count flusher)
