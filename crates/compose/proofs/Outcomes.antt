-- What holds of an outcome, from what holds of it.
use Rattle.std.proofs.Common.{◌≡◌, refl, sym, subst}
use Rattle.std.specs.Prelude.{Result, Ok, Err, IfOk, OnOk, IfErr}
use Rattle.refusal.specs.declared.Refusal.{Refusal}
pub use Rattle.document.proofs.CallerLemmas.{only_memory}

module _ {T E : Type 0} where
  pub on_ok : {P Q : Type 0} (r : Result T E) → (P → Q) → OnOk r P → OnOk r Q
  on_ok (Ok x) f p = f p
  on_ok (Err e) f p = tt

  pub map_ok : {P R : T → Type 0} (r : Result T E) → ((x : T) → P x → R x) → IfOk r P → IfOk r R
  map_ok (Ok x) f p = f x p
  map_ok (Err e) f p = tt

-- what holds of a refusal that is handed on
module _ {T : Type 0} where
  pub handed_on : (P : Refusal → Type 0) (r : Result T Refusal) (e f : Refusal) → r ≡ Err e → e ≡ f → P f → IfErr r P
  handed_on P r e f was from p = subst (λ o. IfErr o P) (sym was) (subst P (sym from) p)

  pub each_err : {P R : Refusal → Type 0} (r : Result T Refusal) → ((e : Refusal) → r ≡ Err e → P e → R e) → IfErr r P → IfErr r R
  each_err (Ok x) f p = tt
  each_err (Err e) f p = f e refl p

  pub refused_so : (P : Refusal → Type 0) (r : Result T Refusal) (e : Refusal) → r ≡ Err e → IfErr r P → P e
  refused_so P r e is p = subst (λ o. IfErr o P) is p

-- where a builder has room, memory alone refuses
abbrev refused : Refusal → Result (Unit {0}) Refusal
refused refusal = Err refusal
