use Rattle.std.proofs.Common.{◌≡◌, ◌⊎◌, ◌∙◌, false, Err, List, ℕ, ap, inl, subst}
use Rattle.disk.specs.Crash.{history_of}
use Rattle.disk.proofs.CallerLemmas.{begins}
use Rattle.journal.specs.BatchSpelling.{batch, batch_width}
use Rattle.refusal.specs.declared.Refusal.{Refusal}
use Rattle.refusal.specs.declared.Refusal.TheVariants.{JournalFull, NoMemory, Fault}
use Rattle.segments.specs.Ring.{fits_newest}
use Rattle.segments.specs.RingCalls.{CostsByRoom}
use Rattle.segments.proofs.CallerLemmas.{full_ring}
use Rattle.recovery.specs.steps.Appending.{IsDone, IsAppendRefused}
use Rattle.recovery.proofs.Commits.{as_it_was}
use Rattle.recovery.proofs.Refusals.{if_err, of_if_err, of_ok, on_ok_by, takes_no_memory, or_memory}
use Rattle.recovery.proofs.store.append_batch.Goals as goal

-- nothing was called
pub returns-in_err-record-clause-any_moment : goal.returns-in_err-record-clause-any_moment
returns-in_err-record-clause-any_moment g c table synced fits =
    begins (history_of g.D.Disk c.args.disk.now) synced (inl (as_it_was _ c.args.ring.now table fits))

pub returns-clause-appended : goal.returns-clause-appended
returns-clause-appended g c =
    let old = g.D.Disk.seen c.args.disk.now in
    let new = g.D.Disk.seen c.append.new.disk in
    let body = c.in_ok-record.ensures.spelled ∙ ap batch c.as_slice.ensures in
    on_ok_by c.append.result
    (λ value is. record {
      done = λ table fits.
          let now = (of_ok c.append.result value is c.append.ensures.appended).done table fits in
          subst (λ (l : List ℕ). IsDone old c.args.ring.now table l new c.append.new.self) body (record { ready = now.0; is_ready = now.1; now = now.2; appended = now.3; fits = now.4 });
      synced = (of_ok c.append.result value is c.append.ensures.appended).synced;
    })

-- what memory is wanted for comes first
pub returns-clause-refused : goal.returns-clause-refused
returns-clause-refused g c =
    let ring = c.args.ring.now in
    let wide = c.in_ok-record.ensures.width ∙ ap batch_width c.as_slice.ensures in
    if_err (λ e. IsAppendRefused g.D.Disk e c.args.batch.now ring c.append.new.self c.args.disk.now c.append.new.disk) c.append.result
    (λ e is. record {
      only = of_if_err (λ r. (r ≡ JournalFull) ⊎ ((r ≡ NoMemory) ⊎ (r ≡ Fault))) c.append.result e is (or_memory c.append.result c.append.ensures.refused.only);
      full = λ told.
          let both = c.append.ensures.refused.exact.0 (is ∙ ap (λ (r : Refusal). Err r) told) in
          (full_ring ring (batch_width c.args.batch.now)).1 (subst (λ n. fits_newest ring n ≡ false) wide both.0, both.1);
      untouched = λ told. absurd (takes_no_memory c.append.result c.append.ensures.refused.only (is ∙ ap (λ (r : Refusal). Err r) told));
    })

pub returns-clause-costs : goal.returns-clause-costs
returns-clause-costs g c =
    let wide = c.in_ok-record.ensures.width ∙ ap batch_width c.as_slice.ensures in
    subst (λ (n : ℕ). CostsByRoom g.D.Disk (fits_newest c.args.ring.now n) c.args.disk.now c.append.new.disk) wide c.append.ensures.costs
