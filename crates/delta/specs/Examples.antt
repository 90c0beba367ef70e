-- Normal forms, computed.
use Rattle.std.specs.Prelude.{◌≡◌, ℕ, true, List, [], ◌∷◌, refl, codes}
use Rattle.attributes.specs.Map.{empty, insert}
use Rattle.attributes.specs.Attributes.{Attributes, Changes}
use Rattle.attributes.specs.Scalar.{flag_scalar}
use Rattle.delta.specs.Operation.{Operation, insert_text, retain, delete}
use Rattle.delta.specs.Gaps.{counted}
use Rattle.delta.specs.Normal.{nf, built}

abbrev bare : Attributes
bare = empty

abbrev plain : Changes
plain = empty

abbrev bold : Attributes
bold = insert empty (codes "bold") (flag_scalar true)

abbrev ins : List ℕ → Operation
ins us = insert_text us bare

-- del 2, ins "x", ret 0, ins "" read as ins "x", del 2
delete_after_insert : nf (counted (delete 2 ∷ ins (codes "x") ∷ retain 0 plain ∷ ins [] ∷ [])) ≡ ins (codes "x") ∷ delete 2 ∷ []
delete_after_insert = refl

-- ins "a", del 1, ins "b" is ins "ab", del 1
merged_before_delete : nf (counted (ins (codes "a") ∷ delete 1 ∷ ins (codes "b") ∷ [])) ≡ ins (codes "ab") ∷ delete 1 ∷ []
merged_before_delete = refl

-- ins "a" {bold: true}, ins "b" stays two
kept_apart : nf (counted (insert_text (codes "a") bold ∷ ins (codes "b") ∷ [])) ≡ insert_text (codes "a") bold ∷ ins (codes "b") ∷ []
unfolding insert
kept_apart = refl

-- del 1, del 2 is del 3
merged_deletes : nf (counted (delete 1 ∷ delete 2 ∷ [])) ≡ delete 3 ∷ []
merged_deletes = refl

-- ins "a", ret 3 is ins "a"
last_retain : nf (counted (ins (codes "a") ∷ retain 3 plain ∷ [])) ≡ ins (codes "a") ∷ []
last_retain = refl

-- and a builder keeps the retain, since more may come
last_retain_built : built (ins (codes "a") ∷ retain 3 plain ∷ []) ≡ ins (codes "a") ∷ retain 3 plain ∷ []
last_retain_built = refl
