-- Words and what becomes of them, computed.
use Rattle.std.specs.Prelude.{◌≡◌, ℕ, zero, suc, true, false, List, [], ◌∷◌, Some, Ok, Err, codes, refl}
use Rattle.std.proofs.Common.{inl}
use Rattle.std.specs.Str.{chars, is_utf8}
use Rattle.std.specs.Char.{encode_utf8}
use Rattle.std.specs.Char.Utf16.{utf16_chars}
use Rattle.serde_json.specs.Data.{null, Items, no_items, item}
use Rattle.serde_json.proofs.OnLiterals.{serde_json_on_literals}
use Rattle.refusal.specs.declared.Refusal.TheVariants.{BadLine, BadMessage, BadOps, TooManyOps, PastEnd}
use Rattle.attributes.specs.Map.{empty, insert}
use Rattle.attributes.specs.Attributes.{Changes, changed_by}
use Rattle.attributes.specs.Scalar.{flag_scalar}
use Rattle.delta.specs.Element.{letters}
use Rattle.delta.specs.Operation.{Operation, insert_text, retain, delete}
use Rattle.compose.specs.Cuts.{CutsText}
use Rattle.algebra.specs.Words.{delta_in, deltas_in, of_array}
use Rattle.compose.specs.Composed.{one_for}
use Rattle.xform.specs.After.{second_past}
use Rattle.algebra.specs.Outcomes.{first_document}
use Rattle.algebra.specs.Text.{text_of}

abbrev ins : List ℕ → Operation
ins units = insert_text units empty

abbrev ret : ℕ → Operation
ret n = retain n empty

abbrev bolden : Changes
bolden = insert empty (codes "bold") (Some (flag_scalar true))

-- what words describe
read_text : delta_in (codes "{\"ops\":[{\"insert\":\"abc\"}]}") ≡ Ok (ins (codes "abc") ∷ [])
unfolding serde_json_on_literals is_utf8 chars
read_text = refl

read_lengths : delta_in (codes "{\"ops\":[{\"retain\":1},{\"delete\":1}]}") ≡ Ok (ret 1 ∷ delete 1 ∷ [])
unfolding serde_json_on_literals is_utf8 chars
read_lengths = refl

read_nothing : delta_in (codes "{\"ops\":[]}") ≡ Ok []
unfolding serde_json_on_literals is_utf8 chars
read_nothing = refl

no_json : delta_in (codes "x") ≡ Err BadLine
unfolding serde_json_on_literals is_utf8 chars
no_json = refl

another_member : delta_in (codes "{\"more\":1,\"ops\":[]}") ≡ Err BadMessage
unfolding serde_json_on_literals is_utf8 chars
another_member = refl

no_array : delta_in (codes "{\"ops\":{}}") ≡ Err BadMessage
unfolding serde_json_on_literals is_utf8 chars
no_array = refl

no_operation : delta_in (codes "{\"ops\":[{\"insert\":null}]}") ≡ Err BadOps
unfolding serde_json_on_literals is_utf8 chars
no_operation = refl

abbrev nulls : ℕ → Items
nulls zero = no_items
nulls (suc n) = item null (nulls n)

too_many : of_array (Some (nulls 1025)) ≡ Err TooManyOps
too_many = refl

-- the first word's fault is told
no_object_before_no_json : deltas_in (codes "{}") (codes "x") ≡ Err BadMessage
unfolding serde_json_on_literals is_utf8 chars
no_object_before_no_json = refl

no_json_after_a_delta : deltas_in (codes "{\"ops\":[]}") (codes "x") ≡ Err BadLine
unfolding serde_json_on_literals is_utf8 chars
no_json_after_a_delta = refl

-- [ins "abc"], then [ret 1, del 1], is [ins "ac"]
deleted_within : one_for (ins (codes "abc") ∷ []) (ret 1 ∷ delete 1 ∷ []) ≡ ins (codes "ac") ∷ []
unfolding changed_by
deleted_within = refl

-- of "😀", D83D DE00, [ret 1, del 1] cuts the pair
pair_cut : CutsText (ins (0xd83d ∷ 0xde00 ∷ []) ∷ []) (ret 1 ∷ delete 1 ∷ [])
pair_cut = (0, (refl, refl, refl), inl (λ e. cc))

-- [ins "b", ret 5, ins "c"] past [ins "a"]
abbrev inserting : List Operation
inserting = ins (codes "b") ∷ ret 5 ∷ ins (codes "c") ∷ []

first_before : second_past (ins (codes "a") ∷ []) inserting true ≡ ret 1 ∷ ins (codes "b") ∷ ret 5 ∷ ins (codes "c") ∷ []
first_before = refl

first_behind : second_past (ins (codes "a") ∷ []) inserting false ≡ ins (codes "b") ∷ ret 6 ∷ ins (codes "c") ∷ []
first_behind = refl

-- [ret 1, ins "x", del 4] past [del 3], and the other way
abbrev crossing : List Operation
crossing = ret 1 ∷ ins (codes "x") ∷ delete 4 ∷ []

crossing_after : second_past (delete 3 ∷ []) crossing true ≡ ins (codes "x") ∷ delete 2 ∷ []
crossing_after = refl

deletes_after : second_past crossing (delete 3 ∷ []) false ≡ delete 1 ∷ []
deletes_after = refl

-- [ins "ab"] makes a document of the empty one, [ret 1 {bold: true}] makes none
made : first_document (ins (codes "ab") ∷ []) ≡ Ok (letters (codes "ab") empty)
made = refl

not_made : first_document (retain 1 bolden ∷ []) ≡ Err PastEnd
unfolding insert
not_made = refl

-- {"ops":[]}, {"ops":[{"insert":"ac"}]} and {"ops":[{"attributes":{"bold":true},"insert":"ac"}]}
nothing_printed : text_of [] ≡ codes "{\"ops\":[]}"
unfolding serde_json_on_literals is_utf8 chars
nothing_printed = refl

text_printed : text_of (ins (codes "ac") ∷ []) ≡ codes "{\"ops\":[{\"insert\":\"ac\"}]}"
unfolding serde_json_on_literals utf16_chars encode_utf8
text_printed = refl

bold_printed : text_of (insert_text (codes "ac") (insert empty (codes "bold") (flag_scalar true)) ∷ [])
    ≡ codes "{\"ops\":[{\"attributes\":{\"bold\":true},\"insert\":\"ac\"}]}"
unfolding serde_json_on_literals utf16_chars encode_utf8 insert
bold_printed = refl
