-- One operation, from the tokens of its object.
use Rattle.std.proofs.Common.{◌≡◌, ℕ, ◌<◌, ◌^◌, List, ◌∷◌, Option, Some, None, option_map, option_and_then, refl, ap, ◌∙◌, arith}
use Rattle.std.specs.Prelude.{codes}
use Rattle.json.specs.Token.{Token, begin_object, end_object, key}
use Rattle.json.specs.Json.{read_key}
use Rattle.serde_json.specs.Data.{Data, string, number, unsigned, object, no_members, member, put}
use Rattle.utf16.specs.Units.{units_of}
use Rattle.attributes.specs.Map.{Map}
use Rattle.attributes.specs.Attributes.{Attributes, Changes}
use Rattle.delta.specs.Operation.{insert_text, retain, delete}
use Rattle.optext.specs.Described.{attributes_of, changes_of, insertion_of, operation_of}
use Rattle.session.specs.steps.Tokened.{Reads, Spells, ReadsMembers, Ends, beside}
use Rattle.session.proofs.Objects.{deeper, no_member_yet, member_more, members_end}
use Rattle.optext.proofs.CallerLemmas.{length_of-printed}

module _ {X : Type 0} (described : Option Data → Option (Map X)) (tokens left : List Token) (map : Map X) where
  -- no attributes before the brace
  pub ends_without : described None ≡ Some map → read_key tokens ≡ Some (None, left) → Ends described tokens left map
  ends_without is ends = (None, is, λ first members so_far. members_end 1 first tokens left members so_far ends)

  -- and some
  pub ends_with : (inside closing : List Token) → read_key tokens ≡ Some (Some (codes "attributes"), inside)
      → Spells (λ value. described (Some value) ≡ Some map) 1 inside closing → closing ≡ end_object ∷ left → Ends described tokens left map
  ends_with inside closing named spells closes = (
    Some spells.0,
    spells.1,
    λ first members so_far. members_end 1 first closing left (put (codes "attributes") spells.0 members)
        (member_more 1 first tokens inside closing members (codes "attributes") spells.0 so_far named spells.2) (ap read_key closes),
  )

-- the first member of an object
first_member : (name : List ℕ) (ts r : List Token) (d : Data) → Reads 0 ts d r → ReadsMembers 1 (key name ∷ ts) (member name d no_members) r
first_member name ts r d reads = member_more 1 (key name ∷ ts) (key name ∷ ts) ts r no_members name d (no_member_yet 1 (key name ∷ ts)) refl (deeper 0 1 ts d r (omega arith) reads)

inserts : (s : List ℕ) (attributes : Option Data) (map : Attributes) → attributes_of attributes ≡ Some map
    → operation_of (object (beside attributes (member (codes "insert") (string s) no_members))) ≡ Some (insert_text (units_of s) map)
inserts s None map e = ap (option_and_then (insertion_of (string s))) e
inserts s (Some d) map e = ap (option_and_then (insertion_of (string s))) e

retains : (n : ℕ) (changes : Option Data) (map : Changes) → n < 2 ^ 32 → changes_of changes ≡ Some map
    → operation_of (object (beside changes (member (codes "retain") (number (unsigned n)) no_members))) ≡ Some (retain n map)
retains n None map small e =
    ap (option_and_then (λ len. option_map (retain len) (changes_of None))) (length_of-printed n small) ∙ ap (option_map (retain n)) e
retains n (Some d) map small e =
    ap (option_and_then (λ len. option_map (retain len) (changes_of (Some d)))) (length_of-printed n small) ∙ ap (option_map (retain n)) e

-- an insert of a text
pub spells_insert : (s : List ℕ) (map : Attributes) (ts r left : List Token) → Reads 0 ts (string s) r → Ends attributes_of r left map
    → Spells (λ value. operation_of value ≡ Some (insert_text (units_of s) map)) 2 (begin_object ∷ key (codes "insert") ∷ ts) left
spells_insert s map ts r left reads ends = (
  object (beside ends.0 (member (codes "insert") (string s) no_members)),
  inserts s ends.0 map ends.1,
  ends.2 (key (codes "insert") ∷ ts) (member (codes "insert") (string s) no_members) (first_member (codes "insert") ts r (string s) reads),
)

-- a retain
pub spells_retain : (n : ℕ) (map : Changes) (ts r left : List Token) → n < 2 ^ 32 → Reads 0 ts (number (unsigned n)) r → Ends changes_of r left map
    → Spells (λ value. operation_of value ≡ Some (retain n map)) 2 (begin_object ∷ key (codes "retain") ∷ ts) left
spells_retain n map ts r left small reads ends = (
  object (beside ends.0 (member (codes "retain") (number (unsigned n)) no_members)),
  retains n ends.0 map small ends.1,
  ends.2 (key (codes "retain") ∷ ts) (member (codes "retain") (number (unsigned n)) no_members) (first_member (codes "retain") ts r (number (unsigned n)) reads),
)

-- a delete
pub spells_delete : (n : ℕ) (ts r left : List Token) → n < 2 ^ 32 → Reads 0 ts (number (unsigned n)) r → r ≡ end_object ∷ left
    → Spells (λ value. operation_of value ≡ Some (delete n)) 2 (begin_object ∷ key (codes "delete") ∷ ts) left
spells_delete n ts r left small reads closes = (
  object (member (codes "delete") (number (unsigned n)) no_members),
  ap (option_map delete) (length_of-printed n small),
  members_end 1 (key (codes "delete") ∷ ts) r left _ (first_member (codes "delete") ts r (number (unsigned n)) reads) (ap read_key closes),
)
