-- Members of an object whose tokens are read one after another.
use Rattle.std.proofs.Common.{◌≡◌, ℕ, suc, ◌-◌, ◌<◌, ◌≤◌, List, ◌∷◌, length, Some, None, refl, ap, ◌∙◌, arith}
use Rattle.json.specs.Token.{Token, begin_object}
use Rattle.json.specs.Json.{read_key, value, members, parse_map}
use Rattle.json.proofs.Grammar.{left, value-begin_object, read_key-shorter, skip_value-shorter}
use Rattle.serde_json.specs.Data.{Data, object, Members, no_members, put}
use Rattle.serde_json.specs.Read.{of_json, converted}
use Rattle.session.proofs.Turns.{converted_some, converted-object, member_read, members_over}
use Rattle.session.specs.steps.Tokened.{Reads, ReadsMembers}

-- what is read of tokens is shorter than they are
pub shorter : (nests : ℕ) (ts r : List Token) (d : Data) → converted of_json (value nests ts) ≡ Some (d, r) → length r < length ts
shorter nests ts r d e = skip_value-shorter nests ts r (ap left (converted_some of_json (value nests ts) d r e).1)

-- and so at a greater depth
pub deeper : (a b : ℕ) (ts : List Token) (d : Data) (r : List Token) → a ≤ b → Reads a ts d r → Reads b ts d r
deeper a b ts d r le reads nests deep = reads nests (omega arith)

-- no member yet
pub no_member_yet : (depth : ℕ) (ts : List Token) → ReadsMembers depth ts no_members ts
no_member_yet depth ts nests deep = (length ts, omega arith, refl)

-- one member more
pub member_more : (depth : ℕ) (first ts s r : List Token) (found : Members) (name : List ℕ) (d : Data)
    → ReadsMembers depth first found ts → read_key ts ≡ Some (Some name, s) → Reads depth s d r → ReadsMembers depth first (put name d found) r
member_more depth first ts s r found name d so_far named reads nests deep =
    let was = so_far nests deep in
    let read = reads nests deep in
    let less = shorter nests s r d read in
    let key_less = read_key-shorter ts (Some name) s named in (
      was.0 - 1,
      omega (arith, was.1),
      was.2 ∙ member_read (value nests) found was.0 name ts s r d (omega (arith, was.1)) named read,
    )

-- the brace that closes the object
pub members_end : (depth : ℕ) (first ts r : List Token) (found : Members)
    → ReadsMembers depth first found ts → read_key ts ≡ Some (None, r) → Reads (suc depth) (begin_object ∷ first) (object found) r
members_end depth first ts r found so_far ends nests deep =
    let was = so_far (nests - 1) (omega arith) in
    ap (converted of_json) (value-begin_object nests first (omega arith))
    ∙ converted-object (members (value (nests - 1)) (length first) first)
    ∙ ap (parse_map object) (was.2 ∙ members_over (value (nests - 1)) found was.0 ts r was.1 ends)
