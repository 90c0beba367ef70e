use Rattle.revision.proofs.Texts.{IsText-units_of}
use Rattle.revision.proofs.laws.texts_are_spellable.Goals as goal

pub returns : goal.returns
returns c = IsText-units_of
