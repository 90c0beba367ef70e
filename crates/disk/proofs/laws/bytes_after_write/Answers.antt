use Rattle.disk.proofs.Contents.{length_overwritten, take_overwritten, drop_overwritten, byte_overwritten, overwritten_same_outside}
use Rattle.disk.proofs.laws.bytes_after_write.Goals as goal

pub returns-clause-length : goal.returns-clause-length
returns-clause-length c = length_overwritten

pub returns-clause-before : goal.returns-clause-before
returns-clause-before c = take_overwritten

pub returns-clause-from : goal.returns-clause-from
returns-clause-from c = drop_overwritten

pub returns-clause-among : goal.returns-clause-among
returns-clause-among c = byte_overwritten

pub returns-clause-outside : goal.returns-clause-outside
returns-clause-outside c = overwritten_same_outside
