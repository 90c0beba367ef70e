use Rattle.std.proofs.Common.{◌≡◌, ◌∙◌, subst, take}
use Rattle.std.proofs.lemmas.List.{take_all}
use Rattle.std.specs.Prelude.{All}
use Rattle.optext.specs.Laws.{HasSpellableContent}
use Rattle.optext.proofs.Spelled.{reads_back}
use Rattle.optext.proofs.writing.write_ops.Goals as goal

pub returns-clause-reads_back : goal.returns-clause-reads_back
returns-clause-reads_back c =
    let all : take c.loop-op.op-index c.ops-ops.result.now ≡ c.args.delta.now = take_all c.loop-op.op-index c.ops-ops.result.now c.loop-op-test.false ∙ c.ops-ops.ensures.ops in
    reads_back c.args.delta.now c.delta_reads_back.ensures c.ops-ops.ensures.normal c.ops-ops.ensures.bounded (subst (All HasSpellableContent) all c.loop-op.invariant.kept)
