use Rattle.std.proofs.Common.{refl, inl}
use Rattle.disk.specs.Crash.{history_of}
use Rattle.disk.proofs.CallerLemmas.{begins}
use Rattle.test_store.proofs.callers.append_byte.Goals as goal

-- Where memory ran out nothing was called: the device is synced, and has the table before.
pub returns-in_err-record : goal.returns-in_err-record
returns-in_err-record g c = record {
  any_moment = λ table synced fits. begins (history_of g.D.Disk c.args.disk.now) synced
      (inl (record { outside = record { same_length = refl; before = refl; after = refl }; holds = fits.holds }));
}
