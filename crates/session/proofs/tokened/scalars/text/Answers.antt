use Rattle.std.proofs.Common.{◌≡◌, ◌∷◌, arith}
use Rattle.json.specs.Token as token
use Rattle.serde_json.specs.Data.{string}
use Rattle.session.proofs.OneToken.{reads_string}
use Rattle.session.proofs.tokened.scalars.text.Goals as goal

pub returns-in-String : goal.returns-in-String
returns-in-String c =
    let first : c.args.reader.now ≡ token.string c.in-String.text.now ∷ c.next.new.self = grind arith in
    rw first (reads_string c.in-String.text.now c.next.new.self)
