-- What holds of a result that was refused, and of what is there.
use Rattle.std.proofs.Common.{Result, Ok, Err, Option, Some, None}
use Rattle.std.specs.Prelude.{IfSome}
use Rattle.std.specs.Result.{OnErr}

pub OnErr-always : {T E : Type 0} (r : Result T E) {P : Type 0} → P → OnErr r P
OnErr-always (Ok x) holds = tt
OnErr-always (Err e) holds = holds

pub IfSome-map : {A : Type 0} (P Q : A → Type 0) (found : Option A) → ((x : A) → P x → Q x) → IfSome found P → IfSome found Q
IfSome-map P Q None implies has = tt
IfSome-map P Q (Some x) implies has = implies x has
