-- What readers are shown.
use Rattle.std.specs.Prelude.{◌≡◌, ◌&&◌, true, List}
use Rattle.revision.specs.Command.{Taken}
use Rattle.revision.specs.State.{State, fold, all_grow}
use Rattle.recovery.specs.Found.{commands_of}
use Rattle.view.specs.News.{News}
use Rattle.view.specs.declared.shown.Basis.{Basis}

-- a state, with the published batches that made it
pub record Seen : Type 0 where
  pub state : State
  pub published : List (List Taken)

-- the state that is shown, with the published batches that made it, where each continued it
abbrev pub basis_of : Seen → Basis
basis_of shown = record { state = shown.state; published = shown.published; grew = true }

-- it with one batch more
abbrev pub after : Basis → News → Basis
after basis news = record { state = fold basis.state news.batch; published = news.published; grew = basis.grew && all_grow basis.state news.batch }

-- What is shown is what the batches make of the start, and each of their commands continued what those before had made.
pub record IsShown (start : State) (shown : Seen) : Type 0 where
  pub made : shown.state ≡ fold start (commands_of shown.published)
  pub grew : all_grow start (commands_of shown.published) ≡ true
