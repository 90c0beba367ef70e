-- What is kept of a result that is asked for its value, and which values of attributes tokens are.
use Rattle.std.proofs.Common.{◌≡◌, ℕ, ℤ, pos, List, Option, Some, None, Result, Ok, Err, Bool, true, IfSome, IfOk, OkIff, sym, ap, subst, ◌∙◌}
use Rattle.std.specs.Prelude.{if◌then◌else◌, MatchResult, ⊤}
use Rattle.std.specs.Result.{result_ok}
use Rattle.json.specs.Token as token
use Rattle.serde_json.specs.Data.{unsigned, string, number, boolean}
use Rattle.serde_json.specs.Read.{number_of}
use Rattle.attributes.specs.Scalar.{Scalar, IsExact, is_exact, is_exact-Decides, text_scalar, whole_scalar, flag_scalar}
use Rattle.session.specs.steps.Tokened.{IsScalarToken}
use Rattle.session.proofs.OneToken.{reads_string, reads_number, reads_boolean}

abbrev value_or : {A : Type 0} → A → Option A → A
value_or a None = a
value_or a (Some b) = b

-- what holds of a result's value
pub some_kept : {A E : Type 0} (Holds : A → Type 0) (r : Result A E) (o : Option A) → o ≡ result_ok r → IfOk r Holds → IfSome o Holds
some_kept Holds (Ok a) o is holds = subst (λ x. IfSome x Holds) (sym is) holds
some_kept Holds (Err e) o is holds = subst (λ x. IfSome x Holds) (sym is) tt

pub kept : {A E : Type 0} (Holds : A → Type 0) (r : Result A E) (a : A) → Some a ≡ result_ok r → IfOk r Holds → Holds a
kept Holds (Ok b) a is holds = subst Holds (sym (ap (value_or a) is)) holds
kept Holds (Err e) a is holds = absurd (cc)

abbrev IsThere : {A : Type 0} → Option A → Type 0
IsThere None = ⊥
IsThere (Some a) = ⊤

pub not_refused : {A E : Type 0} (r : Result A E) (a : A) (e : E) → Some a ≡ result_ok r → r ≡ Err e → ⊥
not_refused r a e is refused = subst IsThere (is ∙ ap result_ok refused) tt

pub matched_ok : {A E : Type 0} (P : A → Type 0) (Q : E → Type 0) (r : Result A E) → MatchResult r P Q → IfOk r P
matched_ok P Q (Ok a) is = is
matched_ok P Q (Err e) is = tt

pub both_ok : {A E : Type 0} (P Q : A → Type 0) (r : Result A E) → IfOk r P → IfOk r Q → IfOk r (λ a. P a × Q a)
both_ok P Q (Ok a) p q = (p, q)
both_ok P Q (Err e) p q = tt

pub ok_both : {A E : Type 0} (P : Type 0) (b : A) (r : Result A E) → OkIff r P b → IfOk r (λ a. P × (a ≡ b))
ok_both P b (Ok a) is = is
ok_both P b (Err e) is = tt

pub scalar_text : (s : List ℕ) (x : Scalar) → x ≡ text_scalar s → IsScalarToken (token.string s) x
scalar_text s x is = (string s, ap Some (sym is), reads_string s)

pub scalar_flag : (b : Bool) (x : Scalar) → x ≡ flag_scalar b → IsScalarToken (token.boolean b) x
scalar_flag b x is = (boolean b, ap Some (sym is), reads_boolean b)

pub scalar_whole : (s : List ℕ) (n : ℕ) (z : ℤ) (x : Scalar) → number_of s ≡ Some (unsigned n) → z ≡ pos n → IsExact z → x ≡ whole_scalar z → IsScalarToken (token.number s) x
scalar_whole s n z x reads same exact is =
    let small : is_exact (pos n) ≡ true = (is_exact-Decides (pos n)).1 (subst IsExact same exact) in (
      number (unsigned n),
      ap (λ b. if b then Some (whole_scalar (pos n)) else None) small ∙ ap Some (sym (is ∙ ap whole_scalar same)),
      λ left. reads_number s n left reads,
    )
