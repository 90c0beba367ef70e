-- One step along two lists of operations of one document: what it makes of the second after the first.
use Rattle.std.specs.Prelude.{◌≡◌, ℕ, ◌+◌, ◌<◌, ◌≤◌, ◌^◌, Bool, true, List, [], ◌∷◌, length}
use Rattle.std.specs.Option.{option_to_list}
use Rattle.attributes.specs.Attributes.{transformed}
use Rattle.delta.specs.Operation.{Operation, retain, delete, is_insert, base_of, out_of}
use Rattle.delta.specs.Gaps.{Gaps, counted, joined}
use Rattle.delta.specs.Normal.{settled, NoneIsEmpty}
use Rattle.delta.specs.Cursor.{operations_left}
use Rattle.xform.specs.After.{after}
use Rattle.xform.specs.declared.stepping.Step.{Step}

-- what stands first inserts
abbrev pub BeginsWithInsert : List Operation → Type 0
BeginsWithInsert [] = ⊥
BeginsWithInsert (op ∷ ops) = is_insert op ≡ true

-- what the second makes of these units after the first, where neither inserts: nothing where the first deletes them
abbrev pub made_of : Operation → Operation → ℕ → Bool → List Operation
made_of (retain m c) (retain n e) k priority = retain k (transformed c e priority) ∷ []
made_of (retain m c) (delete n) k priority = delete k ∷ []
made_of one two k priority = []

-- a step makes some operations of the two lists and leaves others: they stand for the second after the first as well
pub record IsStep (first second made first_left second_left : List Operation) (priority : Bool) : Type 0 where
  pub same : after (counted first) (counted second) priority
      ≡ joined (counted made) (after (counted first_left) (counted second_left) priority)
  pub first_some : NoneIsEmpty first → NoneIsEmpty first_left
  pub second_some : NoneIsEmpty second → NoneIsEmpty second_left
  pub base : base_of made + (out_of first_left + base_of second_left) ≤ out_of first + base_of second
  pub out : out_of made + (out_of first_left + out_of second_left) ≤ out_of first + out_of second
  pub shorter : length first_left + length second_left < length first + length second

-- the same of what the program gives
abbrev pub IsStepOf : List Operation → List Operation → Bool → Step → Type 0
IsStepOf first second priority step =
    IsStep first second (option_to_list step.made) (operations_left step.first) (operations_left step.second) priority

-- operations stand for others, whatever comes after them
pub record StandsFor (ops others : List Operation) : Type 0 where
  pub same : (g : Gaps) → settled (joined (counted ops) g) ≡ settled (joined (counted others) g)
  pub base : base_of ops ≡ base_of others
  pub out : out_of ops ≡ out_of others

-- what was made, and what is left of both lists, stand for the second after the first
pub record IsPartlyMade (first second : List Operation) (priority : Bool) (first_left second_left made : List Operation) : Type 0 where
  pub same : settled (joined (counted made) (after (counted first_left) (counted second_left) priority))
      ≡ settled (after (counted first) (counted second) priority)
  pub first_some : NoneIsEmpty first_left
  pub second_some : NoneIsEmpty second_left
  pub base : base_of made + (out_of first_left + base_of second_left) ≤ out_of first + base_of second
  pub out : out_of made + (out_of first_left + out_of second_left) ≤ out_of first + out_of second
  pub room : out_of first + base_of second ≤ 2 ^ 49
