use Rattle.std.proofs.Common.{◌≡◌, rules}
use Rattle.session.proofs.Pages.{spells-as, spells-both}
use Rattle.session.proofs.OperationTexts.{quoted-of}
use Rattle.session.proofs.quoting.push_quoted.Goals as goal

pub returns : goal.returns
returns g c =
    let bytes : c.as_bytes.result.now ≡ c.args.text.now = search rules in
    spells-as (quoted-of _ _ bytes) (spells-both c.push_str.ensures (spells-both c.push_escaped.ensures c.push_str-2.ensures))
