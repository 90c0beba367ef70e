-- What the tokens of an edit spell, in the terms of the value that the whole line has.
use Rattle.std.specs.Prelude.{◌≡◌, ◌≤◌, ℕ, List, [], ◌∷◌, length, codes, if◌then◌else◌, Option, Some, None, option_map, Ok, ⊤}
use Rattle.json.specs.Token.{Token, begin_object}
use Rattle.json.specs.Json.{value as value_at, members as members_at}
use Rattle.serde_json.specs.Data.{Data, string, number, unsigned, array, object, Items, Members, no_members, member, put}
use Rattle.serde_json.specs.Events.{members_len}
use Rattle.serde_json.specs.Find.{get_member}
use Rattle.serde_json.specs.Read.{of_json, of_members, converted}
use Rattle.attributes.specs.Map.{Map}
use Rattle.attributes.specs.Scalar.{Scalar}
use Rattle.delta.specs.Operation.{Operation}
use Rattle.optext.specs.Described.{key_of, scalar_of, delta_of}
use Rattle.session.specs.declared.tokened.fields.Fields.{Fields}

-- the tokens are a value, which nests no deeper than a depth, and others behind it
abbrev pub Reads : ℕ → List Token → Data → List Token → Type 0
Reads depth tokens value left = (nests : ℕ) → depth ≤ nests → converted of_json (value_at nests tokens) ≡ Some (value, left)

-- the tokens are such a value, and others behind it
abbrev pub Spells : (Data → Type 0) → ℕ → List Token → List Token → Type 0
Spells Is depth tokens left = (value : Data) × Is value × Reads depth tokens value left

-- a token is a value of an attribute
abbrev pub IsScalarToken : Token → Scalar → Type 0
IsScalarToken token scalar = (value : Data) × (scalar_of value ≡ Some scalar) × ((left : List Token) → Reads 0 (token ∷ left) value left)

-- an object's tokens spell these members first, where each nests no deeper than a depth, and then others
abbrev pub ReadsMembers : ℕ → List Token → Members → List Token → Type 0
ReadsMembers depth tokens found left =
    (nests : ℕ) → depth ≤ nests → (n : ℕ) × (length left ≤ n)
    × (converted (λ ms. of_members ms no_members) (members_at (value_at nests) (length tokens) tokens)
    ≡ converted (λ ms. of_members ms found) (members_at (value_at nests) n left))

-- the entries that members describe, one for one
abbrev pub AreEntries : {X : Type 0} → (Data → Option X) → Members → List (List ℕ × X) → Type 0
AreEntries value_of no_members [] = ⊤
AreEntries value_of no_members (e ∷ es) = ⊥
AreEntries value_of (member name value ms) [] = ⊥
AreEntries value_of (member name value ms) (e ∷ es) = (name ≡ e.0) × (key_of name ≡ Some e.0) × (value_of value ≡ Some e.1) × AreEntries value_of ms es

-- members, and attributes beside them or not
abbrev pub beside : Option Data → Members → Members
beside None members = members
beside (Some attributes) members = put (codes "attributes") attributes members

-- attributes or none, which describe this map, come last in an operation
abbrev pub Ends : {X : Type 0} → (Option Data → Option (Map X)) → List Token → List Token → Map X → Type 0
Ends described tokens left map =
    (attributes : Option Data) × (described attributes ≡ Some map)
    × ((first : List Token) (members : Members) → ReadsMembers 1 first members tokens
    → Reads 2 (begin_object ∷ first) (object (beside attributes members)) left)

-- a value is an array of operations, whose delta this is
abbrev pub DescribesDelta : List Operation → Data → Type 0
DescribesDelta delta value = (items : Items) × (value ≡ array items) × (delta_of items ≡ Ok delta)

-- a delta that was read or not is that of a member that is there or not
abbrev pub IsDelta : Option (List Operation) → Option Data → Type 0
IsDelta None found = found ≡ None
IsDelta (Some delta) found = (value : Data) × (found ≡ Some value) × DescribesDelta delta value

-- what was read of an edit is what its members so far say
pub record AreFields (fields : Fields) (members : Members) : Type 0 where
  pub kind : get_member (codes "do") members ≡ (if fields.edits then Some (string (codes "edit")) else None)
  pub doc : get_member (codes "doc") members ≡ option_map (λ doc. string doc.now) fields.doc
  pub numbered : get_member (codes "n") members ≡ option_map (λ n. number (unsigned n)) fields.number
  pub base : get_member (codes "base") members ≡ option_map (λ n. number (unsigned n)) fields.base
  pub delta : IsDelta fields.delta (get_member (codes "ops") members)

-- a member of this name that was not there is read
abbrev pub AddsField : Fields → List ℕ → Fields → List Token → List Token → Type 0
AddsField old name new tokens left =
    (members : Members) → AreFields old members
    → (get_member name members ≡ None) × Spells (λ value. AreFields new (put name value members)) 3 tokens left

-- a value is an object of five members, and this was read of them
abbrev pub IsEdit : Fields → Data → Type 0
IsEdit fields value = (members : Members) × (value ≡ object members) × AreFields fields members × (members_len members ≡ 5)
