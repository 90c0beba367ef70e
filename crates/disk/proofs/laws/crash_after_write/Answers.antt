use Rattle.disk.proofs.Contents.{leaves_opened, opened_leaves}
use Rattle.disk.proofs.laws.crash_after_write.Goals as goal

pub returns : goal.returns
returns c at count old new content fits opens = (
  leaves_opened at count old new content fits opens,
  λ from. opened_leaves at count old new content from.0 opens from.1 from.2,
)
