-- The units of a document: code units and embeds, each with attributes (quill-delta's README, "Operations": lengths count
-- UTF-16 code units, and an embed has length 1).
use Rattle.std.specs.Prelude.{ℕ, List, map}
use Rattle.attributes.specs.Attributes.{Attributes}
use Rattle.attributes.specs.Scalar.{Scalar}

-- a UTF-16 code unit, or an embed with its name and value
pub data Item : Type 0 where
  code_unit : ℕ → Item
  embed : List ℕ → Scalar → Item

-- one unit of a document
pub record Element : Type 0 where
  pub item : Item
  pub attributes : Attributes

-- a code unit with attributes
abbrev pub lettered : ℕ → Attributes → Element
lettered u a = record { item = code_unit u; attributes = a }

-- an embed with attributes
abbrev pub embedded : List ℕ → Scalar → Attributes → Element
embedded key value a = record { item = embed key value; attributes = a }

-- code units, each with the same attributes
abbrev pub letters : List ℕ → Attributes → List Element
letters us a = map (λ u. lettered u a) us
