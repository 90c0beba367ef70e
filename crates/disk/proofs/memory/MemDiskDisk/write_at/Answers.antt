use Rattle.std.proofs.Common.{◌≡◌, ◌+◌, length, rules, arith, List, ℕ}
use Rattle.std.proofs.lemmas.Grind.{common_steps}
use Rattle.std.specs.Prelude.{slice_range}
use Rattle.std.specs.Vec.{with_items}
use Rattle.disk.specs.Device.{overwritten}
use Rattle.disk.proofs.Rewinding.{writes}
use Rattle.disk.proofs.memory.MemDiskDisk.write_at.Goals as goal

pub returns-clause-time : goal.returns-clause-time
returns-clause-time c =
    let old : List ℕ = c.args.self.now.bytes.items in
    let new : List ℕ = (with_items c.note.new.self.bytes c.overwrite.new.bytes).items in
    let kept : c.in-Ok.replaced.items ≡ slice_range old c.args.at (c.args.at + length c.args.bytes.now) = search rules in
    let wrote : new ≡ overwritten old c.args.at c.args.bytes.now = grind (arith, common_steps) in
    writes c.args.at c.args.bytes.now old new c.args.self.now.calls.items c.note.new.self.calls.items c.in-Ok.replaced c.requires kept wrote c.in_ok-note.ensures.kept
