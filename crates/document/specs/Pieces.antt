-- What a run of the program is, and a piece of one, as units.
use Rattle.std.specs.Prelude.{ℕ, ◌≡◌, ◌<◌, List, [], ◌∷◌, length, string_bytes, Option, Some, None}
use Rattle.utf16.specs.Units.{units_of}
use Rattle.attributes.specs.Attributes.{Attributes}
use Rattle.delta.specs.Element.{Element, letters, embedded}
use Rattle.document.specs.Pairs.{IsWellFormed}
use Rattle.document.specs.Weight.{named_weight}
use Rattle.document.specs.declared.run.Content.{Content}
use Rattle.document.specs.declared.run.Content.TheVariants as content
use Rattle.document.specs.declared.run.Piece.{Piece}
use Rattle.document.specs.declared.run.Piece.TheVariants as piece

-- a run's text or embed, with its attributes
abbrev pub content_units : Content → Attributes → List Element
content_units (content.Text text) a = letters (units_of (string_bytes text)) a
content_units (content.Embed key value) a = embedded key value a ∷ []

-- the same text or embed, whatever its attributes
abbrev pub IsSameContent : Content → Content → Type 0
IsSameContent c d = (a : Attributes) → content_units c a ≡ content_units d a

-- a piece, with its attributes
abbrev pub piece_units : Piece → List Element
piece_units (piece.Text text units a) = letters (units_of text.now) a.now
piece_units (piece.Embed key value a) = embedded key.now value.now a.now ∷ []

-- a text's number of code units stands beside it, and there is one
abbrev pub IsCounted : Piece → Type 0
IsCounted (piece.Text text units a) = (units ≡ length (units_of text.now)) × (0 < units)
IsCounted (piece.Embed key value a) = Unit {0}

-- a piece has a unit, and is well formed by itself
abbrev pub IsPiece : Piece → Type 0
IsPiece p = IsCounted p × IsWellFormed (piece_units p)

-- what is left of a run that was begun
abbrev pub begun_units : Option Piece → List Element
begun_units None = []
begun_units (Some p) = piece_units p

abbrev pub IsBegun : Option Piece → Type 0
IsBegun None = Unit {0}
IsBegun (Some p) = IsPiece p

-- a piece's attributes, and the piece with others
abbrev pub piece_attributes : Piece → Attributes
piece_attributes (piece.Text text units a) = a.now
piece_attributes (piece.Embed key value a) = a.now

abbrev pub piece_dressed : Piece → Attributes → List Element
piece_dressed (piece.Text text units a) b = letters (units_of text.now) b
piece_dressed (piece.Embed key value a) b = embedded key.now value.now b ∷ []

-- an embed's value; a text has none
abbrev pub content_weight : Content → ℕ
content_weight (content.Text text) = 0
content_weight (content.Embed key value) = named_weight key value
