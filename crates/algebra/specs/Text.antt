-- How a delta is printed.
use Rattle.std.specs.Prelude.{ℕ, List, codes}
use Rattle.serde_json.specs.Data.{Data, array, object, no_members, member}
use Rattle.serde_json.specs.Written.{compact_text}
use Rattle.delta.specs.Operation.{Operation}
use Rattle.optext.specs.Printed.{printed}

-- `{"ops":[..]}`
abbrev pub content : List Operation → Data
content ops = object (member (codes "ops") (array (printed ops)) no_members)

-- without blanks
abbrev pub text_of : List Operation → List ℕ
text_of ops = compact_text (content ops)
