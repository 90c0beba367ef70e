use Rattle.std.proofs.Common.{◌≡◌, ◌++◌, length, arith, ap}
use Rattle.document.specs.Chunks.{IsChunk, runs_of_chunks}
use Rattle.document.specs.Runs.{units_of_runs}
use Rattle.document.proofs.Chunked.{length_runs-front, length_runs-back, closed_runs, closed_sized}
use Rattle.document.proofs.building.close_front.Goals as goal

pub new-requires-clause-bound : goal.new-requires-clause-bound
new-requires-clause-bound c =
    let front = c.replace-front.result.items in
    let parts : front ++ c.in_ok-back.back.items ≡ c.args.loose.now.items = rw c.replace-front.ensures.value c.in_ok-back.ensures.parts in
    omega (arith, length_runs-front front c.in_ok-back.back.items, length_runs-back (runs_of_chunks c.args.made.now.items) c.args.loose.now.items, ap (λ l. length (units_of_runs l)) parts, c.requires.bound)

pub returns-clause-runs : goal.returns-clause-runs
returns-clause-runs c =
    let parts : c.replace-front.result.items ++ c.replace-front.new.dest.items ≡ c.args.loose.now.items =
    rw (c.replace-front.ensures.value, c.replace-front.ensures.after) c.in_ok-back.ensures.parts in
    closed_runs c.args.made.now.items _ _ c.replace-front.result.items _ _ c.in_ok-push.ensures.items c.in_ok-new.ensures.runs parts

pub returns-clause-sized : goal.returns-clause-sized
returns-clause-sized c =
    let is_chunk : IsChunk c.replace-front.result.items = rw c.replace-front.ensures.value c.in_ok-back.ensures.front in
    closed_sized c.args.made.now.items _ _ c.replace-front.result.items c.in_ok-push.ensures.items c.in_ok-new.ensures.runs c.requires.sized is_chunk
