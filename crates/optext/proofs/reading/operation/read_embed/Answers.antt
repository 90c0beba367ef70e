use Rattle.std.proofs.Common.{inr, refl, arith, string_bytes}
use Rattle.std.proofs.lemmas.Result.{err_from_is_err_and}
use Rattle.serde_json.specs.View.{view}
use Rattle.optext.proofs.Embeds.{embed_of-many, members_view-one, refused_embed, made_embed}
use Rattle.optext.proofs.reading.operation.read_embed.Goals as goal

pub returns-then-len-gt1 : goal.returns-then-len-gt1
returns-then-len-gt1 c = inr (refl, embed_of-many c.args.members.now.entries c.args.attrs (omega (arith, c.len.ensures.len, c.if-len-gt1.true)))

pub returns-in_err-value-in-Some : goal.returns-in_err-value-in-Some
returns-in_err-value-in-Some c =
    let one = members_view-one c.args.members.now.entries (c.in-Some.name.now, c.in-Some.value.now) (omega (arith, c.len.ensures.len, c.if-len-gt1.false)) c.in-Some.ensures.first in
    let p = err_from_is_err_and c.from_residual.result c.from_residual.ensures.1 in
    rw (p.1, p.2, one) (refused_embed (string_bytes c.in-Some.name.now) (view c.in-Some.value.now) c.args.attrs c.in_err-value-in-Some.field-0.0 c.in_err-value-in-Some.ensures)

pub returns-in_ok-value-in-Some : goal.returns-in_ok-value-in-Some
returns-in_ok-value-in-Some c =
    let one = members_view-one c.args.members.now.entries (c.in-Some.name.now, c.in-Some.value.now) (omega (arith, c.len.ensures.len, c.if-len-gt1.false)) c.in-Some.ensures.first in
    rw (one, ← c.as_str.ensures.value)
    (made_embed c.embed.result c.as_str.result.now (view c.in-Some.value.now) c.args.attrs c.in_ok-value-in-Some.value c.in_ok-value-in-Some.ensures c.embed.ensures.embed c.embed.ensures.kept c.embed.ensures.bad c.embed.ensures.only)
