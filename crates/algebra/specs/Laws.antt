-- What holds of every command, and what the results are for.
use Rattle.std.specs.Prelude.{◌≡◌, ◌≤◌, Bool, not, List, [], length, Ok}
use Rattle.delta.specs.Element.{Element}
use Rattle.delta.specs.Operation.{Operation, base_of}
use Rattle.delta.specs.Gaps.{counted, apply}
use Rattle.compose.specs.Composes.{Composes}
use Rattle.algebra.specs.Outcomes.{Outcome, Composing, Transforming, InvertingOn, ApplyingOn}
use Rattle.algebra.specs.Tasks.{ComesTo}
use Rattle.algebra.specs.declared.task.Task.{Task}

-- a command comes to one thing at most
abbrev pub ComesToOne : Type 0
ComesToOne = (task : Task) (one other : Outcome) → ComesTo task one → ComesTo task other → one ≡ other

-- a document after a delta
abbrev pub document_after : List Element → List Operation → List Element
document_after document ops = apply document (counted ops)

-- what composing gives does what the two do in turn
abbrev pub ComposedInTurn : Type 0
ComposedInTurn = (first second one : List Operation) → Composing first second (Ok one) → Composes one first second

-- each of two deltas of one document, transformed past the other, leads to the same document
abbrev pub MetBothWays : Type 0
MetBothWays =
    (document : List Element) (a b a_moved b_moved : List Operation) (priority : Bool)
    → base_of a ≤ length document → base_of b ≤ length document
    → Transforming a b priority (Ok b_moved) → Transforming b a (not priority) (Ok a_moved)
    → document_after (document_after document a) b_moved ≡ document_after (document_after document b) a_moved

-- what inverting gives leads back to the document
abbrev pub TakenBack : Type 0
TakenBack =
    (document : List Element) (ops back : List Operation)
    → InvertingOn ops document (Ok back) → document_after (document_after document ops) back ≡ document

-- what applying gives makes the document after the delta of the empty one
abbrev pub MadeAnew : Type 0
MadeAnew =
    (document : List Element) (ops made : List Operation)
    → ApplyingOn ops document (Ok made) → document_after [] made ≡ document_after document ops
