use Rattle.std.proofs.Common.{◌<◌, length, arith}
use Rattle.utf16.specs.Units.{units_of}
use Rattle.delta.specs.Operation.{insert_text, insert_embed}
use Rattle.session.proofs.Runs.{text_run, embed_run}
use Rattle.session.proofs.printing.push_run.Goals as goal

pub returns-in-Text : goal.returns-in-Text
returns-in-Text g c =
    let counted = c.in-Text.ensures.counted in
    let some : 0 < length (units_of c.in-Text.text.now) = omega (arith, counted.0, counted.1) in (
      insert_text (units_of c.in-Text.text.now) c.in-Text.attrs.now,
      λ behind runs. text_run (units_of c.in-Text.text.now) c.in-Text.attrs.now c.args.run.now behind c.in-Text.ensures.units some runs,
      c.push_text.ensures,
    )

pub returns-in-Embed : goal.returns-in-Embed
returns-in-Embed g c = (
  insert_embed c.in-Embed.name.now c.in-Embed.value.now c.in-Embed.attrs.now,
  λ behind runs. embed_run c.in-Embed.name.now c.in-Embed.value.now c.in-Embed.attrs.now c.args.run.now behind c.in-Embed.ensures.units,
  c.push_embed.ensures,
)
