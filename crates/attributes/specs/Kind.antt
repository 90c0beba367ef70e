-- What a value of the program is, as a scalar.
use Rattle.std.specs.Prelude.{string_bytes}
use Rattle.attributes.specs.Scalar.{Scalar, text_scalar, whole_scalar, flag_scalar, IsExact}
use Rattle.attributes.specs.declared.value.Kind.{Kind}
use Rattle.attributes.specs.declared.value.Kind.TheVariants as kind
use Rattle.attributes.specs.declared.value.ValueRef.{ValueRef}
use Rattle.attributes.specs.declared.value.ValueRef.TheVariants as value_ref

abbrev pub scalar_of_kind : Kind → Scalar
scalar_of_kind (kind.Text s) = text_scalar (string_bytes s)
scalar_of_kind (kind.Whole n) = whole_scalar n
scalar_of_kind (kind.Flag b) = flag_scalar b

-- a whole number is exact
abbrev pub IsExactKind : Kind → Type 0
IsExactKind (kind.Whole n) = IsExact n
IsExactKind _ = Unit {0}

-- the value that a borrowed one shows
abbrev pub scalar_of : ValueRef → Scalar
scalar_of (value_ref.Text s) = text_scalar s.now
scalar_of (value_ref.Whole n) = whole_scalar n
scalar_of (value_ref.Flag b) = flag_scalar b
