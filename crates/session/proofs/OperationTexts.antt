-- Texts of operations, from their pieces.
use Rattle.std.proofs.Common.{◌≡◌, ◌++◌, ◌<◌, ◌+◌, ◌≤◌, ◌/◌, ◌%◌, List, ℕ, ℤ, pos, negsuc, [], ◌∷◌, Bool, true, false, cond, map, take, length, get_or, refl, sym, ap, ap₂, ◌∙◌, append_assoc, append-nil}
use Rattle.std.specs.Prelude.{codes, decimal, nat_lt}
use Rattle.std.specs.Char.{digit_char}
use Rattle.std.specs.Fmt.{signed_decimal}
use Rattle.std.proofs.lemmas.Bool.{lt-ltb, le-ltb}
use Rattle.std.proofs.lemmas.List.{take_more}
use Rattle.json.specs.Print.{escape, escape_byte, escape_letter, quoted}
use Rattle.serde_json.specs.Data.{Data, Members, member, no_members, number, unsigned, string, object}
use Rattle.serde_json.specs.Find.{of_integer}
use Rattle.serde_json.specs.View.{items_of}
use Rattle.serde_json.specs.Written.{comma_if, compact_text, items_text, members_text, number_text}
use Rattle.serde_json.proofs.OnLiterals.{serde_json_on_literals}
use Rattle.attributes.specs.Scalar.{Scalar}
use Rattle.attributes.specs.Attributes.{Attributes, Changes}
use Rattle.optext.specs.Printed.{printed_scalar, printed_change, printed_entries, printed_embed, printed_insert, printed_retain, printed_operation, attributes_member, then_member}
use Rattle.delta.specs.Operation.{delete}
use Rattle.session.specs.steps.Printing.{opening}

-- ---- strings

pub escape-append : (a b : List ℕ) → escape (a ++ b) ≡ escape a ++ escape b
escape-append [] b = refl
escape-append (x ∷ xs) b = ap (λ (l : List ℕ). escape_byte x ++ l) (escape-append xs b) ∙ sym (append_assoc (escape_byte x) (escape xs) (escape b))

-- one more byte whose escape is itself
pub plain-more : (text : List ℕ) (i : ℕ) → i < length text → escape_byte (get_or text i 0) ≡ get_or text i 0 ∷ []
    → escape (take i text) ≡ take i text → escape (take (i + 1) text) ≡ take (i + 1) text
plain-more text i inside plain so_far =
    let byte : ℕ = get_or text i 0 in
    let more : take (i + 1) text ≡ take i text ++ byte ∷ [] = take_more text i 0 inside in
    ap escape more ∙ escape-append (take i text) (byte ∷ [])
    ∙ ap₂ ◌++◌ so_far (append-nil (escape_byte byte) ∙ plain) ∙ sym more

-- the escape of a byte
when_true : {X : Type 0} (b : Bool) (x y : X) → b ≡ true → cond b x y ≡ x
when_true true x y is = refl
when_true false x y is = absurd cc

when_false : {X : Type 0} (b : Bool) (x y : X) → b ≡ false → cond b x y ≡ y
when_false true x y is = absurd cc
when_false false x y is = refl

pub letter_text : (x l : ℕ) → l ≡ escape_letter x → 0 < l → 92 ∷ l ∷ [] ≡ escape_byte x
unfolding escape_byte
letter_text x l is some =
    ap (λ (k : ℕ). 92 ∷ k ∷ []) is ∙ sym (when_true (nat_lt 0 (escape_letter x)) _ _ (ap (nat_lt 0) (sym is) ∙ lt-ltb 0 l some))

pub code_text : (x l high low : ℕ) → l ≡ escape_letter x → l ≤ 0 → x < 32 → high ≡ digit_char (x / 16) → low ≡ digit_char (x % 16)
    → 92 ∷ 117 ∷ 48 ∷ 48 ∷ high ∷ low ∷ [] ≡ escape_byte x
unfolding escape_byte
code_text x l high low is none below high_is low_is =
    ap₂ (λ (a b : ℕ). 92 ∷ 117 ∷ 48 ∷ 48 ∷ a ∷ b ∷ []) high_is low_is
    ∙ sym (when_true (nat_lt x 32) _ (x ∷ []) (lt-ltb x 32 below))
    ∙ sym (when_false (nat_lt 0 (escape_letter x)) (92 ∷ escape_letter x ∷ []) _ (ap (nat_lt 0) (sym is) ∙ le-ltb 0 l none))

pub byte_text : (x l : ℕ) → l ≡ escape_letter x → l ≤ 0 → 32 ≤ x → x ∷ [] ≡ escape_byte x
unfolding escape_byte
byte_text x l is none above =
    sym (when_false (nat_lt x 32) (92 ∷ 117 ∷ 48 ∷ 48 ∷ digit_char (x / 16) ∷ digit_char (x % 16) ∷ []) (x ∷ []) (le-ltb x 32 above))
    ∙ sym (when_false (nat_lt 0 (escape_letter x)) (92 ∷ escape_letter x ∷ []) _ (ap (nat_lt 0) (sym is) ∙ le-ltb 0 l none))

pub quoted-of : (a b : List ℕ) → a ≡ b → codes "\"" ++ (escape a ++ codes "\"") ≡ quoted b
unfolding serde_json_on_literals
quoted-of a b is = ap (λ (l : List ℕ). quoted l) is

-- ---- numbers

pub whole_text : (z : ℤ) → signed_decimal z ≡ number_text (of_integer z)
whole_text (pos n) = refl
whole_text (negsuc n) = refl

-- ---- operations

pub operation_text : (ms : Members) (name : List ℕ) (value : Data)
    → opening ms ++ (quoted name ++ 58 ∷ (compact_text value ++ codes "}")) ≡ compact_text (object (then_member (attributes_member ms) name value))
unfolding serde_json_on_literals
operation_text no_members name value = refl
operation_text (member key first others) name value =
    ap (λ (l : List ℕ). codes "{\"attributes\":" ++ l)
    (append_assoc (compact_text (object (member key first others))) (codes ",") (quoted name ++ 58 ∷ (compact_text value ++ codes "}")))

pub insert_text_is : (a : Attributes) (text units : List ℕ) → units ≡ text
    → opening (printed_entries printed_scalar a.entries) ++ (codes "\"insert\":" ++ (quoted text ++ codes "}")) ≡ compact_text (printed_insert a (string units))
unfolding serde_json_on_literals
insert_text_is a text units is =
    operation_text (printed_entries printed_scalar a.entries) (codes "insert") (string text)
    ∙ ap (λ (t : List ℕ). compact_text (printed_insert a (string t))) (sym is)

pub insert_embed_is : (a : Attributes) (name : List ℕ) (value : Scalar)
    → opening (printed_entries printed_scalar a.entries) ++ (codes "\"insert\":{" ++ (quoted name ++ (codes ":" ++ (compact_text (printed_scalar value) ++ codes "}}"))))
    ≡ compact_text (printed_insert a (printed_embed name value))
unfolding serde_json_on_literals
insert_embed_is a name value =
    let inner : List ℕ = compact_text (printed_scalar value) in
    ap (λ (l : List ℕ). opening (printed_entries printed_scalar a.entries) ++ (codes "\"insert\":{" ++ l))
    (sym (append_assoc (quoted name) (58 ∷ (inner ++ codes "}")) (codes "}") ∙ ap (λ (l : List ℕ). quoted name ++ 58 ∷ l) (append_assoc inner (codes "}") (codes "}"))))
    ∙ operation_text (printed_entries printed_scalar a.entries) (codes "insert") (printed_embed name value)

pub retain_is : (c : Changes) (n : ℕ)
    → opening (printed_entries printed_change c.entries) ++ (codes "\"retain\":" ++ (decimal n ++ codes "}")) ≡ compact_text (printed_retain c n)
unfolding serde_json_on_literals
retain_is c n = operation_text (printed_entries printed_change c.entries) (codes "retain") (number (unsigned n))

pub delete_is : (n : ℕ) → codes "{\"delete\":" ++ (decimal n ++ codes "}") ≡ compact_text (printed_operation (delete n))
unfolding serde_json_on_literals
delete_is n = refl

pub opening-none : {X : Type 0} (printed_value : X → Data) (entries : List (List ℕ × X)) → entries ≡ [] → codes "{" ≡ opening (printed_entries printed_value entries)
opening-none printed_value entries none = ap (λ es. opening (printed_entries printed_value es)) (sym none)

pub opening-some : {X : Type 0} (printed_value : X → Data) (entries : List (List ℕ × X)) → (entries ≡ [] → ⊥)
    → codes "{\"attributes\":" ++ (compact_text (object (printed_entries printed_value entries)) ++ codes ",") ≡ opening (printed_entries printed_value entries)
opening-some printed_value [] some = absurd (some refl)
opening-some printed_value (e ∷ es) some = refl

-- ---- items and members in turn

pub comma-none : (later : Bool) → later ≡ false → [] ≡ comma_if later
comma-none later is = ap comma_if (sym is)

pub comma-some : (later : Bool) → later ≡ true → codes "," ≡ comma_if later
comma-some later is = ap comma_if (sym is)

pub item-next : {X : Type 0} (print : X → Data) (later : Bool) (rest others : List X) (x : X) → rest ≡ x ∷ others
    → items_text later (items_of (map print rest)) ≡ (comma_if later ++ compact_text (print x)) ++ items_text true (items_of (map print others))
item-next print later rest others x is =
    ap (λ l. items_text later (items_of (map print l))) is
    ∙ sym (append_assoc (comma_if later) (compact_text (print x)) (items_text true (items_of (map print others))))

pub item-end : {X : Type 0} (print : X → Data) (later : Bool) (rest : List X) → rest ≡ [] → items_text later (items_of (map print rest)) ≡ codes "]"
item-end print later rest is = ap (λ l. items_text later (items_of (map print l))) is

pub member-next : {X : Type 0} (print : X → Data) (later : Bool) (rest others : List (List ℕ × X)) (e : List ℕ × X) → rest ≡ e ∷ others
    → members_text later (printed_entries print rest)
    ≡ ((comma_if later ++ (quoted e.0 ++ codes ":")) ++ compact_text (print e.1)) ++ members_text true (printed_entries print others)
member-next print later rest others e is =
    let comma = comma_if later in
    let name = quoted e.0 in
    let value = compact_text (print e.1) in
    let back = members_text true (printed_entries print others) in
    ap (λ l. members_text later (printed_entries print l)) is
    ∙ sym (append_assoc (comma ++ (name ++ codes ":")) value back ∙ append_assoc comma (name ++ codes ":") (value ++ back)
    ∙ ap (λ (l : List ℕ). comma ++ l) (append_assoc name (codes ":") (value ++ back)))

pub member-end : {X : Type 0} (print : X → Data) (later : Bool) (rest : List (List ℕ × X)) → rest ≡ [] → members_text later (printed_entries print rest) ≡ codes "}"
member-end print later rest is = ap (λ l. members_text later (printed_entries print l)) is
