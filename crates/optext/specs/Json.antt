-- The value of a JSON text.
use Rattle.std.specs.Prelude.{ℕ, if◌then◌else◌, List, Option, None}
use Rattle.std.specs.Str.{is_utf8}
use Rattle.serde_json.specs.Data.{Data}
use Rattle.serde_json.specs.Read.{read}

-- the one JSON text that bytes are: they are UTF-8, and nest at most 127 levels deep
abbrev pub value_of : List ℕ → Option Data
value_of text = if is_utf8 text then read text else None
