use Rattle.session.proofs.Pages.{spells-as}
use Rattle.session.proofs.OperationTexts.{letter_text, code_text, byte_text}
use Rattle.session.proofs.quoting.push_escape.Goals as goal

pub returns-then-letter-gt0 : goal.returns-then-letter-gt0
returns-then-letter-gt0 g c = spells-as (letter_text c.args.byte _ c.short_escape-letter.ensures c.if-letter-gt0.true) c.push.ensures

pub returns-then-byte-lt32 : goal.returns-then-byte-lt32
returns-then-byte-lt32 g c =
    spells-as (code_text c.args.byte _ _ _ c.short_escape-letter.ensures c.if-letter-gt0.false c.if-byte-lt32.true c.hex.ensures c.hex-then-byte-lt32.ensures) c.push-then-byte-lt32.ensures

pub returns : goal.returns
returns g c = spells-as (byte_text c.args.byte _ c.short_escape-letter.ensures c.if-letter-gt0.false c.if-byte-lt32.false) c.push-2.ensures
