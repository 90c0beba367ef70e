use Rattle.std.proofs.Common.{◌≡◌, ◌∙◌, ℤ, pos, sym, ap, subst, SFits, w64, of_z, to_z}
use Rattle.std.proofs.lemmas.Int.{to_z-of_z}
use Rattle.json.specs.Token as token
use Rattle.json.specs.Reads.{token_of}
use Rattle.attributes.specs.Scalar.{Scalar, IsExact, text_scalar, whole_scalar}
use Rattle.attributes.proofs.CallerLemmas.{IfSome-map}
use Rattle.session.proofs.ScalarTokens.{kept, some_kept, both_ok, ok_both, scalar_text, scalar_flag, scalar_whole}
use Rattle.session.proofs.tokened.attribute_maps.value_of.Goals as goal

pub returns-in-String : goal.returns-in-String
returns-in-String c =
    let first : token_of c.args.token.now ≡ token.string c.in-String.text.now = ap token_of c.in-String.is in
    rw first (IfSome-map _ _ c.ok.result (scalar_text c.in-String.text.now) (some_kept (λ (x : Scalar). x ≡ text_scalar c.in-String.text.now) c.text.result c.ok.result c.ok.ensures.value c.text.ensures.text))

pub returns-in_ok-ok-in-Number : goal.returns-in_ok-ok-in-Number
returns-in_ok-ok-in-Number c =
    let first : token_of c.args.token.now ≡ token.number c.in-Number.text.now = ap token_of c.in-Number.is in
    let n = c.in_ok-digits-in-Number.field-0 in
    let z = c.in_ok-ok-in-Number.field-0 in
    let both : SFits w64 (pos n) × (z ≡ pos n) = kept (λ (y : ℤ). SFits w64 (pos n) × (y ≡ pos n)) c.try_from.result z c.in_ok-ok-in-Number.ensures.value (ok_both (SFits w64 (pos n)) (pos n) c.try_from.result c.try_from.ensures) in
    let same : to_z w64 (of_z w64 z) ≡ pos n = to_z-of_z w64 z (subst (SFits w64) (sym both.1) both.0) ∙ both.1 in
    let y = to_z w64 (of_z w64 z) in
    rw first
    (IfSome-map (λ (x : Scalar). IsExact y × (x ≡ whole_scalar y)) _ c.ok-in-Number-2.result (λ x exact. scalar_whole c.in-Number.text.now n y x c.in_ok-digits-in-Number.ensures same exact.0 exact.1)
    (some_kept (λ (x : Scalar). IsExact y × (x ≡ whole_scalar y)) c.whole.result c.ok-in-Number-2.result c.ok-in-Number-2.ensures.value
    (both_ok (λ _. IsExact y) (λ (x : Scalar). x ≡ whole_scalar y) c.whole.result c.whole.ensures.kept c.whole.ensures.number)))

pub returns-in-Bool : goal.returns-in-Bool
returns-in-Bool c =
    let first : token_of c.args.token.now ≡ token.boolean c.in-Bool.flag = ap token_of c.in-Bool.is in
    rw first (scalar_flag c.in-Bool.flag c.flag.result c.flag.ensures)
