-- Code units with attributes: appends, and which attributes a run of text has.
use Rattle.std.proofs.Common.{◌≡◌, ℕ, ◌<◌, Bool, true, List, [], ◌∷◌, ◌++◌, length, Some, IfSome, sym, ap, subst, ◌∙◌, arith}
use Rattle.std.proofs.lemmas.List.{map-append, length-map}
use Rattle.attributes.specs.Attributes.{Attributes, same_attributes, same_attributes-Decides}
use Rattle.delta.specs.Element.{Element, lettered, letters}
use Rattle.document.specs.Runs.{text_attributes}

pub letters-append : (us vs : List ℕ) (a : Attributes) → letters (us ++ vs) a ≡ letters us a ++ letters vs a
letters-append us vs a = map-append (λ u. lettered u a) us vs

pub length-letters : (us : List ℕ) (a : Attributes) → length (letters us a) ≡ length us
length-letters us a = length-map us (λ u. lettered u a)

pub text_attributes-letters : (us : List ℕ) (a : Attributes) (r : List Element) → letters us a ≡ r → 0 < length r → text_attributes r ≡ Some a
text_attributes-letters [] a r e some = absurd (omega (arith, ap length e))
text_attributes-letters (u ∷ us) a r e some = ap text_attributes (sym e)

-- whether a run of text has these attributes, and one that takes a text in
pub takes_text : (same_ones : Bool) (us : List ℕ) (a b : Attributes) (r : List Element) → same_ones ≡ same_attributes a b → letters us a ≡ r → 0 < length r
    → (same_ones ≡ true → text_attributes r ≡ Some b) × (text_attributes r ≡ Some b → same_ones ≡ true)
takes_text same_ones us a b r same is some = (
  λ e. text_attributes-letters us a r is some ∙ ap Some ((same_attributes-Decides a b).0 (sym same ∙ e)),
  λ e. let equal : a ≡ b = (let both : Some a ≡ Some b = sym (text_attributes-letters us a r is some) ∙ e in cc) in
      same ∙ (same_attributes-Decides a b).1 equal,
)

pub appended : (us vs ws : List ℕ) (a : Attributes) (r : List Element) → letters us a ≡ r → 0 < length r → ws ≡ us ++ vs
    → IfSome (text_attributes r) (λ b. letters ws a ≡ r ++ letters vs b)
appended us vs ws a r is some both =
    subst (λ o. IfSome o (λ b. letters ws a ≡ r ++ letters vs b)) (sym (text_attributes-letters us a r is some))
    (ap (λ l. letters l a) both ∙ (letters-append us vs a ∙ ap (λ l. l ++ letters vs a) is))
