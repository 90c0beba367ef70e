use Rattle.std.proofs.Common.{◌≡◌, ◌∷◌, IfSome, Option, Some, None, ℕ, List, arith}
use Rattle.json.specs.Token as token
use Rattle.json.specs.Token.{Token}
use Rattle.serde_json.specs.Data.{unsigned, number}
use Rattle.serde_json.specs.Read.{number_of}
use Rattle.session.specs.steps.Tokened.{Reads}
use Rattle.session.proofs.OneToken.{reads_number}
use Rattle.session.proofs.tokened.scalars.whole.Goals as goal

digits_read : (s : List ℕ) (left : List Token) (found : Option ℕ) → IfSome found (λ n. number_of s ≡ Some (unsigned n)) → IfSome found (λ n. Reads 0 (token.number s ∷ left) (number (unsigned n)) left)
digits_read s left None is = tt
digits_read s left (Some n) is = reads_number s n left is

pub returns-in-Number : goal.returns-in-Number
returns-in-Number c =
    let first : c.args.reader.now ≡ token.number c.in-Number.text.now ∷ c.next.new.self = grind arith in
    rw first (digits_read c.in-Number.text.now c.next.new.self c.digits.result c.digits.ensures)
