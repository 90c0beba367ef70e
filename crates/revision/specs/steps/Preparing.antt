-- What is done to a document with the changes that are prepared to follow.
use Rattle.std.specs.Prelude.{ℕ, List, [], ◌∷◌, ◌++◌}
use Rattle.revision.specs.Past.{Next, empty_past, with_steps}
use Rattle.revision.specs.Pending.{PendingDocument}

-- a document after what was prepared is accepted, or forgotten, or after one more change is prepared
abbrev pub accepted : ℕ → PendingDocument → PendingDocument
accepted keep d = record d { past = record { past = with_steps keep d.past.past d.past.next; next = [] } }

abbrev pub forgotten : PendingDocument → PendingDocument
forgotten d = record d { past = record d.past { next = [] } }

abbrev pub with_next : Next → PendingDocument → PendingDocument
with_next one d = record d { past = record d.past { next = d.past.next ++ one ∷ [] } }

-- a document by its first change, which is prepared
abbrev pub begun : List ℕ → Next → PendingDocument
begun name first = record { name = name; past = record { past = empty_past; next = first ∷ [] } }
