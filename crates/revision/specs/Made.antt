-- Documents that are at hand as commands leave them, so that nobody makes them again.
use Rattle.std.specs.Prelude.{◌≡◌, ℕ, true, Option, Some, None, List, [], ◌∷◌, ◌++◌, length, take, drop, slice_get}
use Rattle.delta.specs.Element.{Element}
use Rattle.revision.specs.Command.{Taken}
use Rattle.revision.specs.State.{DocumentRecord, State, units_of, grows, grown, fold}

-- what stands in a document, and nothing where there is none
abbrev pub text_of : Option DocumentRecord → List Element
text_of None = []
text_of (Some document) = units_of document

-- what stands in the document of this number
abbrev pub text_at : State → ℕ → List Element
text_at state number = text_of (slice_get state.documents number)

-- A command continues a state, and this is what it leaves in its document.
pub record IsMade (state : State) (taken : Taken) (document : List Element) : Type 0 where
  pub continues : grows state taken ≡ true
  pub left : document ≡ text_at (grown state taken) taken.document

-- Beside the first of these commands stands what each of them leaves in its document, on the state that those before have made. Beside the
-- last ones nothing need stand.
abbrev pub AreMade : State → List Taken → List (List Element) → Type 0
AreMade state commands [] = Unit {0}
AreMade state [] (document ∷ documents) = ⊥
AreMade state (first ∷ others) (document ∷ documents) = IsMade state first document × AreMade (grown state first) others documents

-- A document more, behind as many commands as there are documents.
abbrev pub MadeMore : Type 0
MadeMore = (state : State) (commands : List Taken) (documents : List (List Element)) (taken : Taken) (document : List Element)
    → AreMade state commands documents → length documents ≡ length commands → IsMade (fold state commands) taken document
    → AreMade state (commands ++ taken ∷ []) (documents ++ document ∷ [])

-- Commands more, without documents.
abbrev pub MadeBefore : Type 0
MadeBefore = (state : State) (commands others : List Taken) (documents : List (List Element))
    → AreMade state commands documents → AreMade state (commands ++ others) documents

-- So many of the first commands with their documents.
abbrev pub MadeFirst : Type 0
MadeFirst = (state : State) (commands : List Taken) (documents : List (List Element)) (count : ℕ)
    → AreMade state commands documents → AreMade state (take count commands) (take count documents)

-- The others with theirs, on what the first `count` make.
abbrev pub MadeRest : Type 0
MadeRest = (state : State) (commands : List Taken) (documents : List (List Element)) (count : ℕ)
    → AreMade state commands documents → AreMade (fold state (take count commands)) (drop count commands) (drop count documents)
