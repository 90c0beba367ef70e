-- Messages: what a line's JSON value asks for.
use Rattle.std.specs.Prelude.{ℕ, ◌^◌, ◌<◌, ◌≤◌, ◌==◌, ◌&&◌, nat_lt, if◌then◌else◌, List, codes, bytes_eq, Option, Some, None, option_and_then, option_map}
use Rattle.serde_json.specs.Data.{Data, Items}
use Rattle.serde_json.specs.Find.{get, as_str, as_number, as_u64, as_array}
use Rattle.optext.specs.Described.{member_count}
use Rattle.session.specs.declared.question.Question.{Question}
use Rattle.session.specs.declared.question.Question.TheVariants.{Newest, At, Since}

pub data Message : Type 0 where
  -- the source presents itself
  Hello : (source : List ℕ) → Message
  -- a document is to be made, under the source's number for it, by these operations
  Create : (doc : List ℕ) (number : ℕ) (operations : Items) → Message
  -- a document is to be changed, under the source's number, by operations that were made on its revision `base`
  Edit : (doc : List ℕ) (number base : ℕ) (operations : Items) → Message
  -- the source's last change of a document is to be taken back, under the source's number
  Undo : (doc : List ℕ) (number : ℕ) → Message
  -- a document is to be deleted, under the source's number
  Delete : (doc : List ℕ) (number : ℕ) → Message
  -- something is asked of a document
  Read : (doc : List ℕ) (question : Question) → Message
  -- a document is to be followed from a revision on
  Subscribe : (doc : List ℕ) (revision : ℕ) → Message
  -- and not to be followed any longer
  Unsubscribe : (doc : List ℕ) → Message

-- the member of this name, where it is a text
abbrev pub text_at : List ℕ → Data → Option (List ℕ)
text_at name value = option_and_then as_str (get name value)

-- a number of a command is 1 to 2^53 - 1
abbrev pub command_number : ℕ → Option ℕ
command_number n = if nat_lt 0 n && nat_lt n (2 ^ 53) then Some n else None

-- the member of this name, where it is such a number
abbrev pub number_at : List ℕ → Data → Option ℕ
number_at name value = option_and_then command_number (option_and_then as_u64 (option_and_then as_number (get name value)))

-- a revision is 0 to 2^53 - 1
abbrev pub revision_number : ℕ → Option ℕ
revision_number n = if nat_lt n (2 ^ 53) then Some n else None

-- the member of this name, where it is such a revision
abbrev pub revision_at : List ℕ → Data → Option ℕ
revision_at name value = option_and_then revision_number (option_and_then as_u64 (option_and_then as_number (get name value)))

-- the member of this name, where it is an array
abbrev pub array_at : List ℕ → Data → Option Items
array_at name value = option_and_then as_array (get name value)

-- `{"do":"hello","source":..}`
abbrev pub hello_of : Data → Option Message
hello_of value = if member_count value == 2 then option_map Hello (text_at (codes "source") value) else None

-- `{"do":"create","doc":..,"n":..,"ops":[..]}`
abbrev pub create_of : Data → Option Message
create_of value =
    if member_count value == 4 then
    option_and_then (λ doc. option_and_then (λ n. option_map (Create doc n) (array_at (codes "ops") value)) (number_at (codes "n") value))
    (text_at (codes "doc") value)
    else None

-- `{"base":..,"do":"edit","doc":..,"n":..,"ops":[..]}`
abbrev pub edit_of : Data → Option Message
edit_of value =
    if member_count value == 5 then
    option_and_then
    (λ doc. option_and_then
    (λ n. option_and_then (λ base. option_map (Edit doc n base) (array_at (codes "ops") value)) (revision_at (codes "base") value))
    (number_at (codes "n") value))
    (text_at (codes "doc") value)
    else None

-- a command on a document without operations, by its number `n`
abbrev pub numbered_of : (List ℕ → ℕ → Message) → Data → Option Message
numbered_of message value =
    if member_count value == 3 then option_and_then (λ doc. option_map (message doc) (number_at (codes "n") value)) (text_at (codes "doc") value)
    else None

-- `{"do":"undo","doc":..,"n":..}`
abbrev pub undo_of : Data → Option Message
undo_of value = numbered_of Undo value

-- `{"do":"delete","doc":..,"n":..}`
abbrev pub delete_of : Data → Option Message
delete_of value = numbered_of Delete value

-- `{"do":"fetch","doc":..}`
abbrev pub fetch_newest_of : Data → Option Message
fetch_newest_of value = option_map (λ doc. Read doc Newest) (text_at (codes "doc") value)

-- what is asked of a document at a revision, its member `rev`
abbrev pub at_rev : (List ℕ → ℕ → Message) → Data → Option Message
at_rev message value = option_and_then (λ doc. option_map (message doc) (revision_at (codes "rev") value)) (text_at (codes "doc") value)

-- a question of a document at a revision
abbrev pub read_at : (ℕ → Question) → Data → Option Message
read_at question value = at_rev (λ doc rev. Read doc (question rev)) value

-- the same, or `{"do":"fetch","doc":..,"rev":..}`
abbrev pub fetch_of : Data → Option Message
fetch_of value =
    if member_count value == 2 then fetch_newest_of value
    else if member_count value == 3 then read_at At value
    else None

-- `{"do":"since","doc":..,"rev":..}`
abbrev pub since_of : Data → Option Message
since_of value = if member_count value == 3 then read_at Since value else None

-- `{"do":"subscribe","doc":..,"rev":..}`
abbrev pub subscribe_of : Data → Option Message
subscribe_of value = if member_count value == 3 then at_rev Subscribe value else None

-- `{"do":"unsubscribe","doc":..}`
abbrev pub unsubscribe_of : Data → Option Message
unsubscribe_of value = if member_count value == 2 then option_map Unsubscribe (text_at (codes "doc") value) else None

abbrev pub message_called : List ℕ → Data → Option Message
message_called kind value =
    if bytes_eq kind (codes "hello") then hello_of value
    else if bytes_eq kind (codes "create") then create_of value
    else if bytes_eq kind (codes "edit") then edit_of value
    else if bytes_eq kind (codes "undo") then undo_of value
    else if bytes_eq kind (codes "delete") then delete_of value
    else if bytes_eq kind (codes "fetch") then fetch_of value
    else if bytes_eq kind (codes "since") then since_of value
    else if bytes_eq kind (codes "subscribe") then subscribe_of value
    else if bytes_eq kind (codes "unsubscribe") then unsubscribe_of value
    else None

-- the message that a value is: its member `do` says its kind, and it has exactly the members of that kind
abbrev pub message_of : Data → Option Message
message_of value = option_and_then (λ kind. message_called kind value) (text_at (codes "do") value)

-- what every message keeps: the number of a command is 1 to 2^53 - 1, and the revision that an edit was made on below 2^53
abbrev pub IsNumbered : Message → Type 0
IsNumbered (Hello source) = Unit {0}
IsNumbered (Create doc n operations) = (1 ≤ n) × (n < 2 ^ 53)
IsNumbered (Edit doc n base operations) = (1 ≤ n) × (n < 2 ^ 53) × (base < 2 ^ 53)
IsNumbered (Undo doc n) = (1 ≤ n) × (n < 2 ^ 53)
IsNumbered (Delete doc n) = (1 ≤ n) × (n < 2 ^ 53)
IsNumbered (Read doc question) = Unit {0}
IsNumbered (Subscribe doc revision) = Unit {0}
IsNumbered (Unsubscribe doc) = Unit {0}
