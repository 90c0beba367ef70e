-- The one member of an embed.
use Rattle.std.proofs.Common.{◌≡◌, ◌<◌, ◌≤◌, ◌⊎◌, ◌↔◌, ℕ, List, [], ◌∷◌, length, Some, None, Result, Ok, Err, IfOk, IfErr, OnOk, String, string_bytes, refl, sym, ap, inl, inr, arith}
use Rattle.std.proofs.lemmas.Bool.Decides.{nat_tests}
use Rattle.std.specs.declared.alloc.Global.{Global}
use Rattle.std.specs.Prelude.{slice_get}
use Rattle.serde_json.specs.Data.{Data, member, no_members}
use Rattle.serde_json.specs.View.{view, members_view}
use Rattle.serde_json.specs.declared.value.Value.{Value}
use Rattle.refusal.specs.declared.Refusal.{Refusal}
use Rattle.refusal.specs.declared.Refusal.TheVariants.{BadOps, NoMemory}
use Rattle.attributes.specs.Attributes.{Attributes, IsKey}
use Rattle.attributes.specs.Scalar.{Scalar}
use Rattle.delta.specs.Operation.{Operation, insert_embed}
use Rattle.optext.specs.Answer.{IsRead}
use Rattle.optext.specs.Described.{embed_of, key_of, scalar_of}

abbrev Entry : Type 0
Entry = String Global × Value

pub embed_of-many : (es : List Entry) (a : Attributes) → 1 < length es → embed_of (members_view es) a ≡ None
embed_of-many [] a many = absurd (omega arith)
embed_of-many (e ∷ []) a many = absurd (omega arith)
embed_of-many (e ∷ f ∷ es) a many = refl

pub members_view-one : (es : List Entry) (e : Entry) → length es ≤ 1 → slice_get es 0 ≡ Some e → members_view es ≡ member (string_bytes e.0) (view e.1) no_members
members_view-one [] e few first = cc
members_view-one (f ∷ []) e few first = let same : f ≡ e = cc in ap (λ (x : Entry). member (string_bytes x.0) (view x.1) no_members) same
members_view-one (f ∷ g ∷ es) e few first = absurd (omega arith)

-- where its value is refused, so is the embed
pub refused_embed : (name : List ℕ) (value : Data) (a : Attributes) (e : Refusal) → IsRead {X = Scalar} (scalar_of value) (Err e)
    → IsRead (embed_of (member name value no_members) a) (Err e)
refused_embed name value a e (inl memory) = inl memory
refused_embed name value a e (inr bad) = inr (bad.0, rw bad.1 refl)

pub key_of-key : (name : List ℕ) → IsKey name → key_of name ≡ Some name
key_of-key name key = grind (arith, nat_tests)

key_of-none : (name : List ℕ) → (IsKey name → ⊥) → key_of name ≡ None
key_of-none name none = let some : (1 ≤ length name) → (length name ≤ 64) → ⊥ = λ a b. none (a, b) in grind (arith, nat_tests)

-- what makes an embed of a value that was read makes the one that is described
pub made_embed : (r : Result Operation Refusal) (name : List ℕ) (value : Data) (a : Attributes) (x : Scalar) → scalar_of value ≡ Some x
    → IfOk r (λ op. op ≡ insert_embed name x a) → OnOk r (IsKey name) → ((r ≡ Err BadOps) ↔ ¬ (IsKey name)) → IfErr r (λ e. (e ≡ BadOps) ⊎ (e ≡ NoMemory))
    → IsRead (embed_of (member name value no_members) a) r
made_embed (Ok op) name value a x is made kept bad only = rw (is, key_of-key name kept) (ap Some (sym made))
made_embed (Err e) name value a x is made kept bad (inl refused) = inr (refused, rw (is, key_of-none name (bad.0 (ap Err refused))) refl)
made_embed (Err e) name value a x is made kept bad (inr memory) = inl memory
