use Rattle.std.proofs.Common.{◌≡◌, ◌∙◌, ap, IfSome, Option, Some, None, ℕ, List, SomeIff, ◌<◌, ◌^◌}
use Rattle.std.specs.Prelude.{◌≢◌, slice_index}
use Rattle.fast_float.specs.Text.{scan, digits_of, IsInteger}
use Rattle.serde_json.specs.Data.{unsigned}
use Rattle.serde_json.specs.Read.{number_of}
use Rattle.session.proofs.OneToken.{number_of-digits}
use Rattle.session.proofs.tokened.scalars.digits.Goals as goal

scanned : (s : List ℕ) (found : Option ℕ) → slice_index s 0 ≢ 45 → SomeIff found (IsInteger (scan s) × (digits_of (scan s) < 2 ^ 64)) (digits_of (scan s)) → IfSome found (λ n. number_of s ≡ Some (unsigned n))
scanned s None plain is = tt
scanned s (Some n) plain is = number_of-digits s n plain is.0.0 is.0.1 is.1

pub returns : goal.returns
returns c =
    let text = c.as_bytes-bytes.ensures.value in
    scanned c.args.text.now c.to_u64.result (λ e. c.if-bytes-eq45.false (rw text e))
    (rw (← c.scan.ensures.parts ∙ ap scan text) c.to_u64.ensures)
