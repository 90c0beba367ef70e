use Rattle.utf16.specs.Units.{units_of}
use Rattle.document.proofs.Ended.{merged_run}
use Rattle.document.proofs.Letters.{text_attributes-letters}
use Rattle.document.proofs.runs.merge_run.Goals as goal

pub returns-in_ok-merged-in-Text : goal.returns-in_ok-merged-in-Text
returns-in_ok-merged-in-Text c = record {
  ok =
      let is = rw c.in-Text.is at c.piece.ensures.units in
      merged_run _ _ _ _ _ c.in-Text.attrs.now is
      (text_attributes-letters (units_of c.in-Text.text.now) c.in-Text.attrs.now _ is c.requires.run.0) c.requires.run c.requires.kept
      c.in_ok-merged-in-Text.ensures.ok;
}
