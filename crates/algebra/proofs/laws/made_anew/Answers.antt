use Rattle.std.proofs.Common.{◌∙◌, [], ap, append-nil}
use Rattle.delta.specs.Gaps.{End}
use Rattle.algebra.specs.Laws.{document_after}
use Rattle.algebra.proofs.laws.made_anew.Goals as goal

pub returns : goal.returns
returns c = λ document ops made h. ap (document_after []) h.1 ∙ (c.effect_of_normal.ensures [] (End (document_after document ops)) ∙ append-nil (document_after document ops))
