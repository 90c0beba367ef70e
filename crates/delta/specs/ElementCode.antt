-- How one unit of a document is told from every other.
use Rattle.std.specs.Prelude.{◌≡◌, ℕ, List, refl}
use Rattle.std.specs.Coded.{Coded, code_by, coded⊎, coded×, coded_list, coded_ℕ}
use Rattle.std.proofs.Common.{◌⊎◌, inl, inr}
use Rattle.attributes.specs.Attributes.{Attributes}
use Rattle.attributes.specs.Map.{map_code}
use Rattle.attributes.specs.Scalar.{Scalar, scalar_code}
use Rattle.delta.specs.Element.{Element, Item, code_unit, embed}

abbrev item_parts : Item → ℕ ⊎ (List ℕ × Scalar)
item_parts (code_unit u) = inl u
item_parts (embed key value) = inr (key, value)

abbrev item_of_parts : ℕ ⊎ (List ℕ × Scalar) → Item
item_of_parts (inl u) = code_unit u
item_of_parts (inr p) = embed p.0 p.1

pub item_of_parts-item_parts : (i : Item) → item_of_parts (item_parts i) ≡ i
item_of_parts-item_parts (code_unit u) = refl
item_of_parts-item_parts (embed key value) = refl

abbrev pub item_code : Coded Item
item_code = code_by (ℕ ⊎ (List ℕ × Scalar)) (coded⊎ coded_ℕ (coded× (coded_list coded_ℕ) scalar_code)) item_parts item_of_parts item_of_parts-item_parts

abbrev pub element_code : Coded Element
element_code =
    code_by (Item × Attributes) (coded× item_code (map_code scalar_code)) (λ x. (x.item, x.attributes)) (λ p. record { item = p.0; attributes = p.1 }) (λ _. refl)
