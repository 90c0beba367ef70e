use Rattle.std.proofs.Common.{◌≡◌, rules}
use Rattle.migration.proofs.Refused.{made_by, refused_by}
use Rattle.migration.proofs.migrating.Old.put_on.Goals as goal

pub returns-clause-made : goal.returns-clause-made
returns-clause-made g c =
    let shape : c.args.self.now.shape ≡ c.self.inside.shape = search rules in
    let start : c.args.self.now.start ≡ c.as_slice.result.now = search rules in
    rw (shape, start) (made_by g.B.Disk _ c.args.disk.now c.format_with.new.disk c.format_with.result c.format_with.ensures.done c.format_with.ensures.synced
    c.format_with.ensures.formatted)

pub returns-clause-any_moment : goal.returns-clause-any_moment
returns-clause-any_moment g c =
    let shape : c.args.self.now.shape ≡ c.self.inside.shape = search rules in
    let start : c.args.self.now.start ≡ c.as_slice.result.now = search rules in
    rw (shape, start) (record { kept = c.format_with.ensures.kept; from_sync = c.format_with.ensures.from_sync; length = c.format_with.ensures.length })

pub returns-clause-refused : goal.returns-clause-refused
returns-clause-refused g c =
    let shape : c.args.self.now.shape ≡ c.self.inside.shape = search rules in
    rw shape (refused_by g.B.Disk _ c.args.disk.now c.format_with.new.disk c.format_with.result c.format_with.ensures.formatted c.format_with.ensures.already_formatted
    c.format_with.ensures.bad_shape c.format_with.ensures.refused c.format_with.ensures.memory)
