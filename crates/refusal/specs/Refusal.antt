-- The number and the name of each refusal, as messages print them, and what it is to be one of some.
use Rattle.std.specs.Prelude.{ℕ, List, [], ◌∷◌, ◌≡◌, ◌⊎◌, ◌++◌, codes}
use Rattle.std.specs.Fmt.{decimal}
use Rattle.refusal.specs.declared.Refusal.{Refusal}
use Rattle.refusal.specs.declared.Refusal.TheVariants.{BadLine, BadMessage, BadOps, TooManyOps, NoHello, NoDocument, Exists, BadName, Gap, OldNumber, TooManySources, Future, TooOld, PastEnd, CutsPair, TooHeavy, TooWide, RevisionsSpent, NothingToUndo, TooManyDocuments, StoreFailed, NoMemory, LineTooLong, NoSeat, NotFormatted, AlreadyFormatted, Damaged, BadShape, Fault, StillNeeded, Stranger, JournalFull, OldFormat, NotOld, Deleted}

-- its number
abbrev pub number_of : Refusal → ℕ
number_of BadLine = 1
number_of BadMessage = 2
number_of BadOps = 3
number_of TooManyOps = 4
number_of NoHello = 5
number_of NoDocument = 6
number_of Exists = 7
number_of BadName = 8
number_of Gap = 9
number_of OldNumber = 10
number_of TooManySources = 11
number_of Future = 12
number_of TooOld = 13
number_of PastEnd = 14
number_of CutsPair = 15
number_of TooHeavy = 16
number_of TooWide = 17
number_of RevisionsSpent = 18
number_of NothingToUndo = 19
number_of TooManyDocuments = 20
number_of StoreFailed = 21
number_of NoMemory = 22
number_of LineTooLong = 23
number_of NoSeat = 24
number_of NotFormatted = 30
number_of AlreadyFormatted = 31
number_of Damaged = 32
number_of BadShape = 33
number_of Fault = 34
number_of StillNeeded = 35
number_of Stranger = 36
number_of JournalFull = 37
number_of OldFormat = 38
number_of NotOld = 39
number_of Deleted = 40

-- its name, as bytes
abbrev pub name_of : Refusal → List ℕ
name_of BadLine = codes "BadLine"
name_of BadMessage = codes "BadMessage"
name_of BadOps = codes "BadOps"
name_of TooManyOps = codes "TooManyOps"
name_of NoHello = codes "NoHello"
name_of NoDocument = codes "NoDocument"
name_of Exists = codes "Exists"
name_of BadName = codes "BadName"
name_of Gap = codes "Gap"
name_of OldNumber = codes "OldNumber"
name_of TooManySources = codes "TooManySources"
name_of Future = codes "Future"
name_of TooOld = codes "TooOld"
name_of PastEnd = codes "PastEnd"
name_of CutsPair = codes "CutsPair"
name_of TooHeavy = codes "TooHeavy"
name_of TooWide = codes "TooWide"
name_of RevisionsSpent = codes "RevisionsSpent"
name_of NothingToUndo = codes "NothingToUndo"
name_of TooManyDocuments = codes "TooManyDocuments"
name_of StoreFailed = codes "StoreFailed"
name_of NoMemory = codes "NoMemory"
name_of LineTooLong = codes "LineTooLong"
name_of NoSeat = codes "NoSeat"
name_of NotFormatted = codes "NotFormatted"
name_of AlreadyFormatted = codes "AlreadyFormatted"
name_of Damaged = codes "Damaged"
name_of BadShape = codes "BadShape"
name_of Fault = codes "Fault"
name_of StillNeeded = codes "StillNeeded"
name_of Stranger = codes "Stranger"
name_of JournalFull = codes "JournalFull"
name_of OldFormat = codes "OldFormat"
name_of NotOld = codes "NotOld"
name_of Deleted = codes "Deleted"

-- how it is printed, as `error 7 Exists`
abbrev pub text_of : Refusal → List ℕ
text_of refusal = codes "error " ++ (decimal (number_of refusal) ++ (codes " " ++ name_of refusal))

-- it is one of these
abbrev pub IsOneOf : {A : Type 0} → A → List A → Type 0
IsOneOf it [] = ⊥
IsOneOf it (first ∷ []) = it ≡ first
IsOneOf it (first ∷ second ∷ others) = (it ≡ first) ⊎ IsOneOf it (second ∷ others)
