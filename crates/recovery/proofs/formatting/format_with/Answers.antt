use Rattle.std.proofs.Common.{inl}
use Rattle.disk.specs.Crash.{history_of}
use Rattle.recovery.proofs.EmptyStores.{from_sync, nothing_done, just_synced, synced_and_written}
use Rattle.recovery.proofs.formatting.format_with.Goals as goal

pub returns-then-len-lt-SUPERBLOCK_LEN-clause-from_sync : goal.returns-then-len-lt-SUPERBLOCK_LEN-clause-from_sync
returns-then-len-lt-SUPERBLOCK_LEN-clause-from_sync g c unformatted = just_synced (nothing_done (history_of g.D.Disk c.args.disk.now))

pub returns-in_err-is_open-clause-any_moment : goal.returns-in_err-is_open-clause-any_moment
returns-in_err-is_open-clause-any_moment g c synced unformatted = from_sync (just_synced c.reads_open_gate.ensures.only_synced) synced (inl unformatted)

pub returns-then-is_open-clause-any_moment : goal.returns-then-is_open-clause-any_moment
returns-then-is_open-clause-any_moment g c synced unformatted = from_sync (just_synced c.reads_open_gate.ensures.only_synced) synced (inl unformatted)

pub returns-then-not-is_in_range-clause-any_moment : goal.returns-then-not-is_in_range-clause-any_moment
returns-then-not-is_in_range-clause-any_moment g c synced unformatted = from_sync (just_synced c.reads_open_gate.ensures.only_synced) synced (inl unformatted)

pub returns-in_err-body-clause-any_moment : goal.returns-in_err-body-clause-any_moment
returns-in_err-body-clause-any_moment g c synced unformatted = from_sync (just_synced c.reads_open_gate.ensures.only_synced) synced (inl unformatted)

-- after the writes
pub returns-clause-any_moment : goal.returns-clause-any_moment
returns-clause-any_moment g c synced unformatted =
    from_sync (synced_and_written c.reads_open_gate.ensures.only_synced c.in_ok-is_open.ensures.synced unformatted c.write_with.ensures.any_moment) synced (inl unformatted)

pub returns-clause-from_sync : goal.returns-clause-from_sync
returns-clause-from_sync g c unformatted = synced_and_written c.reads_open_gate.ensures.only_synced c.in_ok-is_open.ensures.synced unformatted c.write_with.ensures.any_moment
