-- One step along two lists of operations, the second over what the first leaves.
use Rattle.std.specs.Prelude.{◌≡◌, ◌⊎◌, ◌+◌, ◌<◌, ◌≤◌, IsTrue, List, length, [], ◌∷◌, ◌++◌}
use Rattle.std.specs.Option.{option_to_list}
use Rattle.delta.specs.Operation.{Operation, retain, delete, then_changed, base_of, out_of}
use Rattle.delta.specs.Cursor.{operations_left}
use Rattle.delta.specs.Gaps.{counted, joined}
use Rattle.delta.specs.Normal.{IsNormal, NoneIsEmpty, settled}
use Rattle.compose.specs.Composed.{composed}
use Rattle.compose.specs.steps.PairTest.{cuts}
use Rattle.compose.specs.declared.stepping.Step.{Step}

-- what two operations on the same units make, the second after the first
abbrev pub made_in_turn : Operation → Operation → List Operation
made_in_turn op (retain n d) = then_changed op d ∷ []
made_in_turn (retain m c) (delete n) = delete m ∷ []
made_in_turn _ _ = []

-- a step makes some operations of the two lists and leaves others: they stand for the two as well
pub record IsStep (first second made first_left second_left : List Operation) : Type 0 where
  pub effect : settled (composed (counted first) (counted second))
      ≡ settled (joined (counted made) (composed (counted first_left) (counted second_left)))
  pub cut : cuts (counted first) (counted second) ≡ cuts (counted first_left) (counted second_left)
  pub normal : IsNormal first_left

-- whatever operations follow the first list
abbrev pub IsStepBefore : List Operation → List Operation → List Operation → List Operation → List Operation → Type 0
IsStepBefore first second made first_left second_left =
    (more : List Operation) → IsNormal (first ++ more) → IsStep (first ++ more) second made (first_left ++ more) second_left

-- and the lists that it leaves are shorter; a list that has ended stays so
pub record IsShorter (first second made first_left second_left : List Operation) : Type 0 where
  pub first_some : NoneIsEmpty first_left
  pub second_normal : IsNormal second_left
  pub first_ended : first ≡ [] → first_left ≡ []
  pub second_ended : second ≡ [] → second_left ≡ []
  pub base : base_of made + base_of first_left ≤ base_of first
  pub out : (second ≡ []) ⊎ (out_of made + out_of second_left ≤ out_of second)
  pub shorter : length first_left + length second_left < length first + length second

-- both, of a list that may be the beginning of a longer one
pub record IsShortStep (first second made first_left second_left : List Operation) : Type 0 where
  pub step : IsStepBefore first second made first_left second_left
  pub shorter : IsShorter first second made first_left second_left

-- the same of what the program gives
abbrev pub IsStepOf : List Operation → List Operation → Step → Type 0
IsStepOf first second s = IsShortStep first second (option_to_list s.made) (operations_left s.first) (operations_left s.second)

-- the second list cuts a pair that the first inserts, whatever operations follow the first
abbrev pub CutsBefore : List Operation → List Operation → Type 0
CutsBefore first second = (more : List Operation) → IsNormal (first ++ more) → IsTrue (cuts (counted (first ++ more)) (counted second))
