use Rattle.std.proofs.Common.{◌≡◌, ◌∷◌, refl, arith}
use Rattle.json.specs.Token as token
use Rattle.serde_json.specs.Data.{null}
use Rattle.session.proofs.OneToken.{reads_null}
use Rattle.session.proofs.tokened.attribute_maps.new_value.Goals as goal

pub returns-in-Null : goal.returns-in-Null
returns-in-Null c =
    let first : c.args.reader.now ≡ token.null ∷ c.next.new.self = grind arith in
    (null, refl, rw first (reads_null c.next.new.self))
