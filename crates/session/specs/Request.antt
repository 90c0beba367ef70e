-- What a session does upon a line, before anything is asked of the desk.
use Rattle.std.specs.Prelude.{◌≡◌, true, ℕ, ◌^◌, ◌||◌, nat_lt, if◌then◌else◌, List, Option, Some, None, Result, Ok, Err}
use Rattle.serde_json.specs.Data.{Data}
use Rattle.refusal.specs.declared.Refusal.{Refusal}
use Rattle.refusal.specs.declared.Refusal.TheVariants.{BadLine, BadMessage, NoHello, BadName, BadOps}
use Rattle.delta.specs.Operation.{Operation, base_of, out_of}
use Rattle.optext.specs.Json.{value_of}
use Rattle.revision.specs.Name.{is_document_name, is_source_name}
use Rattle.revision.specs.Command as command
use Rattle.optext.specs.Described.{delta_of}
use Rattle.session.specs.Message as message
use Rattle.session.specs.declared.request.Request.{Request}
use Rattle.session.specs.declared.request.Request.TheVariants.{Greet, Ask, Read, Subscribe, Unsubscribe}

-- a command with a delta, which stands on at most 2^44 code units, and whose output has at most 2^44
abbrev pub with_delta : List ℕ → List ℕ → ℕ → (List Operation → command.Action) → Result (List Operation) Refusal → Result Request Refusal
with_delta source doc number action (Err refusal) = Err refusal
with_delta source doc number action (Ok delta) =
    if nat_lt (2 ^ 44) (base_of delta) || nat_lt (2 ^ 44) (out_of delta) then Err BadOps
    else Ok (Ask (record { name = doc; source = source; number = number; action = action delta }))

-- what is asked of a document, which has a name
abbrev pub of_document : List ℕ → Result Request Refusal → Result Request Refusal
of_document doc asked = if is_document_name doc then asked else Err BadName

-- the request that a message is before a source has presented itself
abbrev pub before_hello : message.Message → Result Request Refusal
before_hello (message.Hello source) = if is_source_name source then Ok (Greet source) else Err BadName
before_hello (message.Create doc number operations) = Err NoHello
before_hello (message.Edit doc number base operations) = Err NoHello
before_hello (message.Undo doc number) = Err NoHello
before_hello (message.Delete doc number) = Err NoHello
before_hello (message.Read doc question) = Err NoHello
before_hello (message.Subscribe doc revision) = Err NoHello
before_hello (message.Unsubscribe doc) = Err NoHello

-- and after this one has
abbrev pub after_hello : List ℕ → message.Message → Result Request Refusal
after_hello source (message.Hello again) = Err BadMessage
after_hello source (message.Create doc number operations) =
    of_document doc (with_delta source doc number command.Create (delta_of operations))
after_hello source (message.Edit doc number base operations) =
    of_document doc (with_delta source doc number (command.Edit base) (delta_of operations))
after_hello source (message.Undo doc number) =
    of_document doc (Ok (Ask (record { name = doc; source = source; number = number; action = command.Undo })))
after_hello source (message.Delete doc number) =
    of_document doc (Ok (Ask (record { name = doc; source = source; number = number; action = command.Delete })))
after_hello source (message.Read doc question) = of_document doc (Ok (Read doc question))
after_hello source (message.Subscribe doc revision) = of_document doc (Ok (Subscribe doc revision))
after_hello source (message.Unsubscribe doc) = of_document doc (Ok (Unsubscribe doc))

-- the request that a message is, in a session whose source has or has not presented itself
abbrev pub request_in : Option (List ℕ) → message.Message → Result Request Refusal
request_in None found = before_hello found
request_in (Some source) found = after_hello source found

abbrev pub of_message : Option (List ℕ) → Option message.Message → Result Request Refusal
of_message source None = Err BadMessage
of_message source (Some found) = request_in source found

abbrev pub of_value : Option (List ℕ) → Option Data → Result Request Refusal
of_value source None = Err BadLine
of_value source (Some value) = of_message source (message.message_of value)

-- the request that a line is: the first refusal that holds decides
abbrev pub request_of : Option (List ℕ) → List ℕ → Result Request Refusal
request_of source line = of_value source (value_of line)

-- what every request keeps: the source that is greeted has the name of a source
abbrev pub GreetsSource : Request → Type 0
GreetsSource (Greet source) = is_source_name source ≡ true
GreetsSource (Ask asked) = Unit {0}
GreetsSource (Read doc question) = Unit {0}
GreetsSource (Subscribe doc revision) = Unit {0}
GreetsSource (Unsubscribe doc) = Unit {0}
