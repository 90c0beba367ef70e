use Rattle.std.proofs.Common.{◌≡◌, ◌<◌, ◌++◌, length, arith, ap, rules, ◌∙◌, append-nil, sym}
use Rattle.document.specs.Chunks.{IsChunk, runs_of_chunks}
use Rattle.document.specs.Runs.{units_of_runs}
use Rattle.document.proofs.Chunked.{length_runs-back, closed_runs, closed_sized}
use Rattle.document.proofs.building.close.Goals as goal

pub new-requires-then-not-is_empty-clause-bound : goal.new-requires-then-not-is_empty-clause-bound
new-requires-then-not-is_empty-clause-bound c =
    let before = runs_of_chunks c.make_room.new.made.items in
    let runs = c.replace-runs.result.items in
    let parts : before ++ runs ≡ runs_of_chunks c.args.made.now.items ++ c.args.loose.now.items = rw c.replace-runs.ensures.value c.in_ok-make_room.ensures.runs in
    omega (arith, length_runs-back before runs, ap (λ l. length (units_of_runs l)) parts, c.requires.bound)

pub returns-in_ok-push-clause-runs : goal.returns-in_ok-push-clause-runs
returns-in_ok-push-clause-runs c =
    let before = runs_of_chunks c.make_room.new.made.items in
    let runs = c.replace-runs.result.items in
    let parts : before ++ runs ≡ runs_of_chunks c.args.made.now.items ++ c.args.loose.now.items = rw c.replace-runs.ensures.value c.in_ok-make_room.ensures.runs in
    sym (append-nil (runs_of_chunks c.push.new.self.items))
    ∙ (closed_runs c.make_room.new.made.items _ _ runs _ _ c.in_ok-push.ensures.items c.in_ok-new.ensures.runs (append-nil runs) ∙ parts)

pub returns-in_ok-push-clause-sized : goal.returns-in_ok-push-clause-sized
returns-in_ok-push-clause-sized c =
    let some : 0 < length c.make_room.new.loose.items = search rules in
    let is_chunk : IsChunk c.replace-runs.result.items = rw c.replace-runs.ensures.value ((some, omega (arith, c.in_ok-make_room.ensures.room))) in
    closed_sized c.make_room.new.made.items _ _ c.replace-runs.result.items c.in_ok-push.ensures.items c.in_ok-new.ensures.runs c.in_ok-make_room.ensures.sized is_chunk
