use Rattle.std.proofs.Common.{arith, ap, refl}
use Rattle.delta.specs.Operation.{out_of}
use Rattle.document.specs.Chunks.{runs_of_chunks}
use Rattle.document.proofs.Deciding.{cut_by_runs, made_length, units_after}
use Rattle.document.proofs.document.Document.built.Goals as goal

pub built-requires-clause-whole : goal.built-requires-clause-whole
built-requires-clause-whole c =
    λ parted. c.requires.accepted.1
    (cut_by_runs (runs_of_chunks c.as_slice.result.now) (runs_of_chunks c.self.inside.chunks.items) c.args.self.now c.ops.result.now c.args.delta.now (ap runs_of_chunks c.as_slice.ensures.value) c.self.view_is c.ops.ensures.ops c.ops.ensures.normal parted)

pub returns-clause-bound : goal.returns-clause-bound
returns-clause-bound c =
    let out = out_of c.args.delta.now in
    omega (
      arith,
      made_length (runs_of_chunks c.as_slice.result.now) (runs_of_chunks c.self.inside.chunks.items) c.args.self.now _ c.ops.result.now c.args.delta.now c.args.behind out
          (ap runs_of_chunks c.as_slice.ensures.value) c.self.view_is c.ops.ensures.ops c.in_ok-made.ensures.units c.requires.behind refl,
      units_after c.args.self.now c.args.delta.now c.args.behind out c.requires.behind refl,
      c.requires.accepted.2,
    )
