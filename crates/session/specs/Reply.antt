-- What a line is replied: a JSON object with its members in ascending order and no blanks, and a line end.
use Rattle.std.specs.Prelude.{ℕ, List, [], ◌∷◌, ◌++◌, map, codes, Result, Ok, Err}
use Rattle.serde_json.specs.Data.{Data, Items, object, array, member, no_members, number, unsigned, string}
use Rattle.serde_json.specs.Written.{compact_text}
use Rattle.serde_json.specs.View.{items_of}
use Rattle.delta.specs.Element.{Element}
use Rattle.delta.specs.Operation.{Operation}
use Rattle.delta.specs.Gaps.{End}
use Rattle.delta.specs.Normal.{nf}
use Rattle.optext.specs.Printed.{printed}
use Rattle.refusal.specs.declared.Refusal.{Refusal}
use Rattle.refusal.specs.declared.Refusal.TheVariants.{TooOld}
use Rattle.refusal.specs.Refusal.{number_of, name_of}
use Rattle.session.specs.declared.reply.Reply.{Reply}
use Rattle.session.specs.declared.reply.Reply.TheVariants.{Taken, Again}

-- `{"ok":"hello"}`
abbrev pub greeting : Data
greeting = object (member (codes "ok") (string (codes "hello")) no_members)

abbrev pub kind_of : Reply → List ℕ
kind_of (Taken rev) = codes "taken"
kind_of (Again rev) = codes "again"

abbrev pub rev_of : Reply → ℕ
rev_of (Taken rev) = rev
rev_of (Again rev) = rev

-- `{"doc":"d","n":1,"ok":"taken","rev":1}`
abbrev pub acknowledgement_of : List ℕ → ℕ → List ℕ → ℕ → Data
acknowledgement_of doc n kind rev =
    object (member (codes "doc") (string doc) (member (codes "n") (number (unsigned n))
    (member (codes "ok") (string kind) (member (codes "rev") (number (unsigned rev)) no_members))))

-- the same of a command's reply, with `again` where it was taken before
abbrev pub acknowledgement : List ℕ → ℕ → Reply → Data
acknowledgement doc n reply = acknowledgement_of doc n (kind_of reply) (rev_of reply)

-- a delta is printed as the array of its operations
abbrev pub printed_delta : List Operation → Data
printed_delta delta = array (printed delta)

-- `{"doc":"d","ok":"doc","ops":[{"insert":"z"}],"rev":1}`, with the operations printed
abbrev pub document_with : List ℕ → Data → ℕ → Data
document_with doc operations rev =
    object (member (codes "doc") (string doc) (member (codes "ok") (string (codes "doc"))
    (member (codes "ops") operations (member (codes "rev") (number (unsigned rev)) no_members))))

-- the same of a document's units: the operations are those that make them of the empty document
abbrev pub document_reply : List ℕ → List Element → ℕ → Data
document_reply doc units rev = document_with doc (printed_delta (nf (End units))) rev

-- and deltas as the array of those
abbrev pub printed_deltas : List (List Operation) → Items
printed_deltas deltas = items_of (map printed_delta deltas)

-- `{"deltas":[[{"insert":"z"}]],"doc":"d","ok":"since","rev":1}`, with the deltas printed
abbrev pub since_with : List ℕ → Data → ℕ → Data
since_with doc deltas rev =
    object (member (codes "deltas") deltas (member (codes "doc") (string doc)
    (member (codes "ok") (string (codes "since")) (member (codes "rev") (number (unsigned rev)) no_members))))

-- the same of deltas; the last one made this revision
abbrev pub since_reply : List ℕ → List (List Operation) → ℕ → Data
since_reply doc deltas rev = since_with doc (array (printed_deltas deltas)) rev

-- `{"doc":"d","ok":"subscribed","rev":1}`, with the revision that was asked for
abbrev pub subscribed_reply : List ℕ → ℕ → Data
subscribed_reply doc rev =
    object (member (codes "doc") (string doc) (member (codes "ok") (string (codes "subscribed"))
    (member (codes "rev") (number (unsigned rev)) no_members)))

-- `{"doc":"d","ok":"unsubscribed"}`
abbrev pub unsubscribed_reply : List ℕ → Data
unsubscribed_reply doc =
    object (member (codes "doc") (string doc) (member (codes "ok") (string (codes "unsubscribed")) no_members))

-- `{"doc":"d","news":1,"ops":[{"insert":"z"}]}`, with the operations printed
abbrev pub news_with : List ℕ → ℕ → Data → Data
news_with doc revision operations =
    object (member (codes "doc") (string doc) (member (codes "news") (number (unsigned revision)) (member (codes "ops") operations no_members)))

-- `{"doc":"d","ended":13}`: the number is that of the refusal
abbrev pub ended_with : List ℕ → ℕ → Data
ended_with doc refusal =
    object (member (codes "doc") (string doc) (member (codes "ended") (number (unsigned refusal)) no_members))

-- `{"code":7,"error":"Exists"}`
abbrev pub refusal_reply : Refusal → Data
refusal_reply refusal =
    object (member (codes "code") (number (unsigned (number_of refusal))) (member (codes "error") (string (name_of refusal)) no_members))

-- the value's line
abbrev pub line_of : Data → List ℕ
line_of value = compact_text value ++ 10 ∷ []

-- the line of a refusal
abbrev pub refusal_line : Refusal → List ℕ
refusal_line refusal = line_of (refusal_reply refusal)

-- the line of a revision that is told, with its delta
abbrev pub news_line : List ℕ → ℕ → List Operation → List ℕ
news_line doc revision delta = line_of (news_with doc revision (printed_delta delta))

-- the line of a subscription that ends
abbrev pub ended_line : List ℕ → List ℕ
ended_line doc = line_of (ended_with doc (number_of TooOld))

-- the line of what was asked to follow a document: the reply, or the refusal
abbrev pub subscribed_line : List ℕ → ℕ → Result (Unit {0}) Refusal → List ℕ
subscribed_line doc revision (Ok held) = line_of (subscribed_reply doc revision)
subscribed_line doc revision (Err refusal) = refusal_line refusal
