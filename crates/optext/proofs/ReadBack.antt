-- What is printed of an operation describes it.
use Rattle.std.proofs.Common.{◌≡◌, ◌<◌, ◌≤◌, ◌^◌, ℕ, suc, ℤ, pos, negsuc, cond, List, [], ◌∷◌, length, Option, Some, None, Ok, refl, sym, ap, subst, ◌∙◌, arith}
use Rattle.std.proofs.lemmas.Bool.Decides.{nat_tests}
use Rattle.std.proofs.lemmas.List.Elements.{All-head, All-tail}
use Rattle.std.specs.Prelude.{All, IfSome, codes, option_and_then, option_map}
use Rattle.attributes.specs.Laws.{EntriesMakeMap, with_entries}
use Rattle.attributes.specs.Map.{Map, empty, insert}
use Rattle.attributes.specs.Attributes.{Attributes, Changes, IsKey}
use Rattle.attributes.specs.Scalar.{Scalar, text_scalar, whole_scalar, flag_scalar, IsExact, is_exact-Decides, IsExactScalar}
use Rattle.serde_json.specs.Data.{Data, number, unsigned, string, object, Items, Members, no_members, member}
use Rattle.serde_json.specs.Find.{of_integer}
use Rattle.serde_json.specs.Events.{items_len}
use Rattle.utf16.specs.Units.{utf8_of}
use Rattle.delta.specs.Operation.{Operation, insert_text, insert_embed, retain, delete}
use Rattle.delta.specs.Laws.{NormalIsKept}
use Rattle.optext.specs.Described.{scalar_of_number, scalar_of, change_of, with_members, described_by, attributes_of, changes_of, length_of, insert_of, insertion_of, retain_of, operation_of, operations_of, delta_of, delta_by}
use Rattle.optext.specs.Printed.{printed_scalar, printed_change, printed_entries, attributes_member, then_member, printed}
use Rattle.optext.specs.Laws.{IsAttribute, IsAttributeChange, HasMessageSpelling, OperationReadsBack, DeltaReadsBack}
use Rattle.optext.proofs.Embeds.{key_of-key}
use Rattle.optext.proofs.Deltas.{bounded_delta}

-- values
scalar_of_number-of_integer : (n : ℤ) → IsExact n → scalar_of_number (of_integer n) ≡ Some (whole_scalar n)
scalar_of_number-of_integer (pos n) exact = ap (λ b. cond b (Some (whole_scalar (pos n))) None) ((is_exact-Decides (pos n)).1 exact)
scalar_of_number-of_integer (negsuc n) exact = ap (λ b. cond b (Some (whole_scalar (negsuc n))) None) ((is_exact-Decides (negsuc n)).1 exact)

scalar_of-printed : (value : Scalar) → IsExactScalar value → scalar_of (printed_scalar value) ≡ Some value
scalar_of-printed (text_scalar text) exact = refl
scalar_of-printed (whole_scalar n) exact = scalar_of_number-of_integer n exact
scalar_of-printed (flag_scalar flag) exact = refl

change_of-some : (value : Scalar) → change_of (printed_scalar value) ≡ option_map Some (scalar_of (printed_scalar value))
change_of-some (text_scalar text) = refl
change_of-some (whole_scalar n) = refl
change_of-some (flag_scalar flag) = refl

change_of-printed : (value : Option Scalar) → IfSome value IsExactScalar → change_of (printed_change value) ≡ Some value
change_of-printed None exact = refl
change_of-printed (Some value) exact = change_of-some value ∙ ap (option_map Some) (scalar_of-printed value exact)

-- the members that print entries fill a map with these entries
with_members-printed : {X : Type 0} (read : Data → Option X) (print : X → Data) (Kept : X → Type 0) → ((x : X) → Kept x → read (print x) ≡ Some x)
    → (m : Map X) (es : List (List ℕ × X)) → All (λ e. IsKey e.0 × Kept e.1) es → with_members read m (printed_entries print es) ≡ Some (with_entries m es)
with_members-printed read print Kept reads m [] kept = refl
with_members-printed {X = X} read print Kept reads m (e ∷ es) kept =
    let one = All-head (λ (e : List ℕ × X). IsKey e.0 × Kept e.1) e es kept in
    let more = All-tail (λ (e : List ℕ × X). IsKey e.0 × Kept e.1) e es kept in
    rw (key_of-key e.0 one.0, reads e.1 one.1) (with_members-printed read print Kept reads (insert m e.0 e.1) es more)

-- the attributes, where there are any
abbrev given : Members → Option Data
given no_members = None
given ms = Some (object ms)

described_by-given : {X : Type 0} (read : Data → Option X) (ms : Members) → described_by read (given ms) ≡ with_members read empty ms
described_by-given read no_members = refl
described_by-given read (member name value ms) = refl

operation_of-insert : (ms : Members) (what : Data) → operation_of (object (then_member (attributes_member ms) (codes "insert") what)) ≡ insert_of what (given ms)
operation_of-insert no_members what = refl
operation_of-insert (member name value ms) what = refl

operation_of-retain : (ms : Members) (len : Data) → operation_of (object (then_member (attributes_member ms) (codes "retain") len)) ≡ retain_of len (given ms)
operation_of-retain no_members len = refl
operation_of-retain (member name value ms) len = refl

attributes_of-printed : EntriesMakeMap → (a : Attributes) → All IsAttribute a.entries → attributes_of (given (printed_entries printed_scalar a.entries)) ≡ Some a
attributes_of-printed entries a kept =
    described_by-given scalar_of (printed_entries printed_scalar a.entries)
    ∙ (with_members-printed scalar_of printed_scalar IsExactScalar scalar_of-printed empty a.entries kept ∙ ap Some (entries.of_attributes a))

changes_of-printed : EntriesMakeMap → (c : Changes) → All IsAttributeChange c.entries → changes_of (given (printed_entries printed_change c.entries)) ≡ Some c
changes_of-printed entries c kept =
    described_by-given change_of (printed_entries printed_change c.entries)
    ∙ (with_members-printed change_of printed_change (λ v. IfSome v IsExactScalar) change_of-printed empty c.entries kept ∙ ap Some (entries.of_changes c))

pub length_of-printed : (n : ℕ) → n < 2 ^ 32 → length_of (number (unsigned n)) ≡ Some n
length_of-printed n below = grind (arith, nat_tests)

pub operation_of-printed : EntriesMakeMap → OperationReadsBack
operation_of-printed entries (insert_text units a) spellable =
    operation_of-insert (printed_entries printed_scalar a.entries) (string (utf8_of units))
    ∙ (ap (option_and_then (insertion_of (string (utf8_of units)))) (attributes_of-printed entries a spellable.0.1)
    ∙ ap (λ us. Some (insert_text us a)) spellable.0.0)
operation_of-printed entries (insert_embed name value a) spellable =
    operation_of-insert (printed_entries printed_scalar a.entries) (object (member name (printed_scalar value) no_members))
    ∙ (ap (option_and_then (insertion_of (object (member name (printed_scalar value) no_members)))) (attributes_of-printed entries a spellable.0.2)
    ∙ rw (scalar_of-printed value spellable.0.1, key_of-key name spellable.0.0) refl)
operation_of-printed entries (retain n c) spellable =
    operation_of-retain (printed_entries printed_change c.entries) (number (unsigned n))
    ∙ rw (length_of-printed n spellable.1, changes_of-printed entries c spellable.0) refl
operation_of-printed entries (delete n) spellable = ap (option_map delete) (length_of-printed n spellable.1)

operations_of-printed : EntriesMakeMap → (ops : List Operation) → All HasMessageSpelling ops → operations_of (printed ops) ≡ Some ops
operations_of-printed entries [] spellable = refl
operations_of-printed entries (op ∷ ops) spellable =
    rw (operation_of-printed entries op (All-head HasMessageSpelling op ops spellable), operations_of-printed entries ops (All-tail HasMessageSpelling op ops spellable)) refl

items_len-printed : (ops : List Operation) → items_len (printed ops) ≡ length ops
items_len-printed [] = refl
items_len-printed (op ∷ ops) = ap suc (items_len-printed ops)

pub few_items : (items : Items) → items_len items ≤ 1024 → delta_of items ≡ delta_by (operations_of items)
few_items items few = grind (arith, nat_tests)

pub delta_of-printed : EntriesMakeMap → NormalIsKept → DeltaReadsBack
delta_of-printed entries kept ops normal bounded few spellable =
    few_items (printed ops) (subst (λ n. n ≤ 1024) (sym (items_len-printed ops)) few)
    ∙ (ap delta_by (operations_of-printed entries ops spellable) ∙ (bounded_delta ops bounded ∙ ap Ok (kept ops normal)))
