-- When two operations, or two lists of them, are the same, by tests.
use Rattle.std.specs.Prelude.{◌≡◌, Bool, false, ◌&&◌, ◌==◌, List}
use Rattle.std.specs.Bool.{Decides}
use Rattle.std.specs.Cmp.Lexicographic.{pointwise, pointwise_decides, bytes_decides}
use Rattle.std.specs.Str.{bytes_eq}
use Rattle.std.proofs.Common.{ap, eq-eqb}
use Rattle.std.proofs.lemmas.Bool.{and_parts, and_from, false≢true, eqb-true}
use Rattle.attributes.specs.Attributes.{same_attributes, same_changes, same_attributes-Decides, same_changes-Decides}
use Rattle.attributes.specs.Scalar.{same_scalar, same_scalar-Decides}
use Rattle.delta.specs.Operation.{Operation, insert_text, insert_embed, retain, delete}

-- the same operation
abbrev pub same_operation : Operation → Operation → Bool
same_operation (insert_text us a) (insert_text vs b) = bytes_eq us vs && same_attributes a b
same_operation (insert_embed key value a) (insert_embed key' value' b) = bytes_eq key key' && (same_scalar value value' && same_attributes a b)
same_operation (retain m c) (retain n d) = m == n && same_changes c d
same_operation (delete m) (delete n) = m == n
same_operation _ _ = false

-- the same operations, one by one
abbrev pub same_operations : List Operation → List Operation → Bool
same_operations = pointwise same_operation

pub same_operation-Decides : (x y : Operation) → Decides (same_operation x y) (x ≡ y)
same_operation-Decides (insert_text us a) (insert_text vs b) = (
  λ t. let parts = and_parts (bytes_eq us vs) (same_attributes a b) t in
      let units = (bytes_decides us vs).0 parts.0 in
      let attributes = (same_attributes-Decides a b).0 parts.1 in
      λ i. insert_text (units i) (attributes i),
  λ e. and_from (bytes_eq us vs) (same_attributes a b) ((bytes_decides us vs).1 cc) ((same_attributes-Decides a b).1 cc),
)
same_operation-Decides (insert_embed key value a) (insert_embed key' value' b) = (
  λ t. let parts = and_parts (bytes_eq key key') (same_scalar value value' && same_attributes a b) t in
      let rest = and_parts (same_scalar value value') (same_attributes a b) parts.1 in
      let keys = (bytes_decides key key').0 parts.0 in
      let values = (same_scalar-Decides value value').0 rest.0 in
      let attributes = (same_attributes-Decides a b).0 rest.1 in
      λ i. insert_embed (keys i) (values i) (attributes i),
  λ e. and_from (bytes_eq key key') (same_scalar value value' && same_attributes a b) ((bytes_decides key key').1 cc)
      (and_from (same_scalar value value') (same_attributes a b) ((same_scalar-Decides value value').1 cc) ((same_attributes-Decides a b).1 cc)),
)
same_operation-Decides (retain m c) (retain n d) = (
  λ t. let parts = and_parts (m == n) (same_changes c d) t in
      let lengths = eqb-true m n parts.0 in
      let changes = (same_changes-Decides c d).0 parts.1 in
      λ i. retain (lengths i) (changes i),
  λ e. and_from (m == n) (same_changes c d) (eq-eqb m n cc) ((same_changes-Decides c d).1 cc),
)
same_operation-Decides (delete m) (delete n) = (λ t. ap delete (eqb-true m n t), λ e. eq-eqb m n cc)
same_operation-Decides (insert_text us a) (insert_embed key' value' b) = (λ e. absurd (false≢true e), λ e. cc)
same_operation-Decides (insert_text us a) (retain n d) = (λ e. absurd (false≢true e), λ e. cc)
same_operation-Decides (insert_text us a) (delete n) = (λ e. absurd (false≢true e), λ e. cc)
same_operation-Decides (insert_embed key value a) (insert_text vs b) = (λ e. absurd (false≢true e), λ e. cc)
same_operation-Decides (insert_embed key value a) (retain n d) = (λ e. absurd (false≢true e), λ e. cc)
same_operation-Decides (insert_embed key value a) (delete n) = (λ e. absurd (false≢true e), λ e. cc)
same_operation-Decides (retain m c) (insert_text vs b) = (λ e. absurd (false≢true e), λ e. cc)
same_operation-Decides (retain m c) (insert_embed key' value' b) = (λ e. absurd (false≢true e), λ e. cc)
same_operation-Decides (retain m c) (delete n) = (λ e. absurd (false≢true e), λ e. cc)
same_operation-Decides (delete m) (insert_text vs b) = (λ e. absurd (false≢true e), λ e. cc)
same_operation-Decides (delete m) (insert_embed key' value' b) = (λ e. absurd (false≢true e), λ e. cc)
same_operation-Decides (delete m) (retain n d) = (λ e. absurd (false≢true e), λ e. cc)

pub same_operations-Decides : (xs ys : List Operation) → Decides (same_operations xs ys) (xs ≡ ys)
same_operations-Decides xs ys = pointwise_decides same_operation-Decides xs ys
