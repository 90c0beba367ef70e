-- What a crash leaves outside a range.
use Rattle.std.specs.Prelude.{ℕ, List}
use Rattle.disk.specs.Device.{State, MayLeave, SameOutside}

-- outside the range it is what a crash in this state may leave
pub record IsLeftOutside (place size : ℕ) (state : State) (content : List ℕ) : Type 0 where
  pub before : List ℕ
  pub left : MayLeave state before
  pub outside : SameOutside place size before content
