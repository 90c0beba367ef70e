-- The value of a line that was read to its end.
use Rattle.std.proofs.Common.{◌≡◌, ℕ, List, [], Some, None, cond, sym, ap, ◌∙◌, arith}
use Rattle.std.specs.Str.{IsUtf8}
use Rattle.std.proofs.lemmas.Str.{is_utf8-from_IsUtf8}
use Rattle.json.specs.Lex.{tokens}
use Rattle.json.specs.Json.{value}
use Rattle.serde_json.specs.Data.{Data}
use Rattle.serde_json.specs.Read.{read}
use Rattle.optext.specs.Json.{value_of}
use Rattle.session.specs.steps.Tokened.{Reads}
use Rattle.session.proofs.Turns.{whole_read}

pub line_read : (line text : List ℕ) (d : Data) → IsUtf8 line → text ≡ line → Reads 4 (tokens text) d [] → value_of line ≡ Some d
line_read line text d valid same reads =
    ap (λ b. cond b (read line) None) (is_utf8-from_IsUtf8 line valid)
    ∙ ap read (sym same)
    ∙ whole_read (value 127 (tokens text)) d (reads 127 (omega arith))
