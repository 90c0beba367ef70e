use Rattle.std.proofs.Common.{◌∙◌, ap}
use Rattle.delta.specs.Gaps.{counted}
use Rattle.delta.specs.Normal.{nf}
use Rattle.delta.proofs.Ends.{IsDelta-without_plain, nf-without_plain}
use Rattle.delta.proofs.builder.Builder.finish.Goals as goal

pub of-requires : goal.of-requires
of-requires c =
    let left = c.take_plain-plain.ensures in
    IsDelta-without_plain c.self.inside.ops.items c.take_plain-plain.new.ops.items c.self.inside.base c.self.inside.out c.take_plain-plain.result c.self.invariant left.rest left.base left.out

pub returns : goal.returns
returns c =
    c.of.ensures ∙ (c.take_plain-plain.ensures.rest ∙ (nf-without_plain c.self.inside.ops.items c.self.invariant.built ∙ ap (λ l. nf (counted l)) c.self.view_is))
