-- The body of a cell spelled out: the source "a" created document 0, "d", with the text "z". It has 54 bytes.
use Rattle.std.proofs.Common.{◌≡◌, true, false, [], ◌∷◌, length, refl}
use Rattle.std.specs.Char.{encode_utf8}
use Rattle.std.specs.Char.Utf16.{utf16_chars}
use Rattle.attributes.specs.Map.{empty, insert}
use Rattle.delta.specs.Element.{letters}
use Rattle.revision.specs.Sources.{with_taken}
use Rattle.journal.specs.Spelling.{number, text16, text32}
use Rattle.journal.specs.DeltaSpelling.{value, pairs, operation, delta}
use Rattle.history.specs.Cell.{Cell}
use Rattle.milestone.specs.CellSpelling.{window, source, sources, cell_body_in, cell_body}

abbrev created : Cell
created = record { name = 100 ∷ []; revision = 1; content = record { units = letters (122 ∷ []) empty; live = true }; sources = with_taken (97 ∷ []) 1 1 empty }

-- the document's number and name; the revision, and that the document is live; the delta; the sources
pub body-of_created : cell_body 0 created ≡
    0 ∷ 0 ∷ 0 ∷ 0
    ∷ 1 ∷ 0 ∷ 100
    ∷ 1 ∷ 0 ∷ 0 ∷ 0 ∷ 0 ∷ 0 ∷ 0 ∷ 0 ∷ 1
    ∷ 1 ∷ 0 ∷ 0 ∷ 0 ∷ 1 ∷ 1 ∷ 0 ∷ 0 ∷ 0 ∷ 122 ∷ 0 ∷ 0 ∷ 0 ∷ 0
    ∷ 1 ∷ 0 ∷ 0 ∷ 0 ∷ 1 ∷ 0 ∷ 97 ∷ 1 ∷ 0 ∷ 0 ∷ 0 ∷ 0 ∷ 0 ∷ 0 ∷ 0 ∷ 1 ∷ 1 ∷ 0 ∷ 0 ∷ 0 ∷ 0 ∷ 0 ∷ 0 ∷ 0 ∷ []
unfolding number text16 text32 value pairs operation delta window source sources cell_body_in insert utf16_chars encode_utf8
body-of_created = refl

pub created_long : length (cell_body 0 created) ≡ 54
unfolding number text16 text32 value pairs operation delta window source sources cell_body_in insert utf16_chars encode_utf8
created_long = refl

-- deleted with the source's number 2 it has the empty delta
abbrev deleted : Cell
deleted = record { name = 100 ∷ []; revision = 2; content = record { units = []; live = false }; sources = with_taken (97 ∷ []) 2 2 (with_taken (97 ∷ []) 1 1 empty) }

pub body-of_deleted : cell_body 0 deleted ≡
    0 ∷ 0 ∷ 0 ∷ 0
    ∷ 1 ∷ 0 ∷ 100
    ∷ 2 ∷ 0 ∷ 0 ∷ 0 ∷ 0 ∷ 0 ∷ 0 ∷ 0 ∷ 0
    ∷ 0 ∷ 0 ∷ 0 ∷ 0
    ∷ 1 ∷ 0 ∷ 0 ∷ 0 ∷ 1 ∷ 0 ∷ 97 ∷ 2 ∷ 0 ∷ 0 ∷ 0 ∷ 0 ∷ 0 ∷ 0 ∷ 0 ∷ 2
    ∷ 1 ∷ 0 ∷ 0 ∷ 0 ∷ 0 ∷ 0 ∷ 0 ∷ 0 ∷ 2 ∷ 0 ∷ 0 ∷ 0 ∷ 0 ∷ 0 ∷ 0 ∷ 0 ∷ []
unfolding number text16 text32 value pairs operation delta window source sources cell_body_in insert utf16_chars encode_utf8
body-of_deleted = refl
