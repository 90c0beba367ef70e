use Rattle.std.proofs.lemmas.List.{take_rest}
use Rattle.session.proofs.Writes.{on_err, front-of, front-kept, moved}
use Rattle.session.proofs.output.write_whole.Goals as goal

pub tries-preserved : goal.tries-preserved
tries-preserved g c =
    let so_far = c.tries.invariant in
    moved (g.W.Write.contents c.args.writer.now) (g.W.Write.contents c.tries.writer) _ so_far.0 c.tries.rest.now _ c.args.bytes.now c.in_ok-count.count
    (take_rest c.tries.rest.now c.in_ok-count.count) so_far.1 so_far.2 c.in_ok-count.ensures.written

pub returns-in_err-count-clause-front : goal.returns-in_err-count-clause-front
returns-in_err-count-clause-front g c =
    let so_far = c.tries.invariant in
    on_err c.from_residual.result
    (front-kept (g.W.Write.contents c.args.writer.now) (g.W.Write.contents c.tries.writer) (g.W.Write.contents c.write_some.new.writer)
    so_far.0 c.tries.rest.now c.args.bytes.now so_far.1 so_far.2 c.in_err-count.ensures.kept)

pub returns-clause-front : goal.returns-clause-front
returns-clause-front g c =
    let so_far = c.tries.invariant in
    front-of (g.W.Write.contents c.args.writer.now) (g.W.Write.contents c.tries.writer) so_far.0 c.tries.rest.now c.args.bytes.now so_far.1 so_far.2
