-- The operations that a gap form is spelled by: counted out, they give it back; they are merged, and in order where it is settled.
use Rattle.std.proofs.Common.{◌≡◌, ℕ, suc, true, false, cond, List, [], ◌∷◌, ◌++◌, refl, sym, ap, ◌∙◌}
use Rattle.std.proofs.lemmas.List.{append-nil}
use Rattle.attributes.specs.Attributes.{Attributes, same_attributes, same_changes, same_attributes-Decides, same_changes-Decides}
use Rattle.delta.specs.Element.{Element, Item, code_unit, embed, lettered, letters}
use Rattle.delta.specs.Operation.{Operation, insert_text, insert_embed, retain, delete}
use Rattle.delta.specs.Gaps.{Gaps, End, Gap, Fate, Del, Keep, front, run, counted}
use Rattle.delta.specs.Normal.{spell_unit, spell_item, spell_inserts, spell_fate, spelled}
use Rattle.delta.proofs.Joins.{front-nil, front-front}

-- a unit with the item and the attributes
abbrev unit_of : Item → Attributes → Element
unit_of i a = record { item = i; attributes = a }

-- counted out, what was spelled
counted-spell_unit : (u : ℕ) (a : Attributes) (ops : List Operation) → counted (spell_unit u a ops) ≡ front (lettered u a ∷ []) (counted ops)
counted-spell_unit u a [] = refl
counted-spell_unit u a (insert_text us b ∷ ops) =
    elim (same_attributes a b) as (λ t. same_attributes a b ≡ t
    → counted (cond t (insert_text (u ∷ us) b ∷ ops) (insert_text (u ∷ []) a ∷ insert_text us b ∷ ops)) ≡ front (lettered u a ∷ []) (counted (insert_text us b ∷ ops))) [
      | true ↦ λ e.
          ap (λ t. front (lettered u t ∷ letters us b) (counted ops)) (sym ((same_attributes-Decides a b).0 e))
          ∙ sym (front-front (lettered u a ∷ []) (letters us b) (counted ops))
      | false ↦ λ e. refl
    ] refl
counted-spell_unit u a (insert_embed key value b ∷ ops) = refl
counted-spell_unit u a (retain n c ∷ ops) = refl
counted-spell_unit u a (delete n ∷ ops) = refl

counted-spell_item : (i : Item) (a : Attributes) (ops : List Operation) → counted (spell_item i a ops) ≡ front (unit_of i a ∷ []) (counted ops)
counted-spell_item (code_unit u) a ops = counted-spell_unit u a ops
counted-spell_item (embed key value) a ops = refl

counted-spell_inserts : (xs : List Element) (ops : List Operation) → counted (spell_inserts xs ops) ≡ front xs (counted ops)
counted-spell_inserts [] ops = sym (front-nil (counted ops))
counted-spell_inserts (x ∷ xs) ops =
    counted-spell_item x.item x.attributes (spell_inserts xs ops)
    ∙ (ap (front (x ∷ [])) (counted-spell_inserts xs ops) ∙ front-front (x ∷ []) xs (counted ops))

counted-spell_fate : (f : Fate) (ops : List Operation) → counted (spell_fate f ops) ≡ Gap [] f (counted ops)
counted-spell_fate (Keep c) [] = refl
counted-spell_fate (Keep c) (retain n d ∷ ops) =
    elim (same_changes c d) as (λ t. same_changes c d ≡ t
    → counted (cond t (retain (suc n) d ∷ ops) (retain 1 c ∷ retain n d ∷ ops)) ≡ Gap [] (Keep c) (counted (retain n d ∷ ops))) [
      | true ↦ λ e. ap (λ t. Gap [] (Keep t) (run n (Keep d) (counted ops))) (sym ((same_changes-Decides c d).0 e))
      | false ↦ λ e. refl
    ] refl
counted-spell_fate (Keep c) (insert_text us a ∷ ops) = refl
counted-spell_fate (Keep c) (insert_embed key value a ∷ ops) = refl
counted-spell_fate (Keep c) (delete n ∷ ops) = refl
counted-spell_fate Del [] = refl
counted-spell_fate Del (delete n ∷ ops) = refl
counted-spell_fate Del (insert_text us a ∷ ops) = refl
counted-spell_fate Del (insert_embed key value a ∷ ops) = refl
counted-spell_fate Del (retain n c ∷ ops) = refl

pub counted-spelled : (g : Gaps) → counted (spelled g) ≡ g
counted-spelled (End xs) = counted-spell_inserts xs [] ∙ ap End (append-nil xs)
counted-spelled (Gap xs f g) =
    counted-spell_inserts xs (spell_fate f (spelled g))
    ∙ (ap (front xs) (counted-spell_fate f (spelled g) ∙ ap (Gap [] f) (counted-spelled g)) ∙ ap (λ l. Gap l f g) (append-nil xs))

-- what is spelled after more inserts
pub spell_inserts-append : (xs ys : List Element) (ops : List Operation) → spell_inserts (xs ++ ys) ops ≡ spell_inserts xs (spell_inserts ys ops)
spell_inserts-append [] ys ops = refl
spell_inserts-append (x ∷ xs) ys ops = ap (spell_item x.item x.attributes) (spell_inserts-append xs ys ops)

pub spelled-front : (xs : List Element) (g : Gaps) → spelled (front xs g) ≡ spell_inserts xs (spelled g)
spelled-front xs (End ys) = spell_inserts-append xs ys []
spelled-front xs (Gap ys f g) = spell_inserts-append xs ys (spell_fate f (spelled g))
