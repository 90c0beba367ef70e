use Rattle.disk.proofs.Contents.{leaves_seen, synced_leaves}
use Rattle.disk.proofs.laws.crash_at_rest.Goals as goal

pub returns-clause-seen : goal.returns-clause-seen
returns-clause-seen c = leaves_seen

pub returns-clause-only : goal.returns-clause-only
returns-clause-only c = synced_leaves
