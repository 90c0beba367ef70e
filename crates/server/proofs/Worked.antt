-- A document as it is printed, spelled out.
use Rattle.std.specs.Prelude.{◌≡◌, codes, [], ◌∷◌}
use Rattle.std.proofs.Common.{refl}
use Rattle.std.specs.Fmt.{digits}
use Rattle.serde_json.proofs.OnLiterals.{serde_json_on_literals}
use Rattle.std.specs.Char.{encode_utf8}
use Rattle.std.specs.Char.Utf16.{utf16_chars}
use Rattle.attributes.specs.Map.{empty}
use Rattle.delta.specs.Operation.{insert_text}
use Rattle.algebra.specs.Text.{text_of}
use Rattle.server.specs.Dump as dump

pub printed : dump.line_of (codes "d") 1 0 (text_of (insert_text (codes "z") empty ∷ [])) ≡ codes "d 1 0 {\"ops\":[{\"insert\":\"z\"}]}\n"
unfolding serde_json_on_literals digits utf16_chars encode_utf8
printed = refl
