use Rattle.std.proofs.Common.{◌∙◌, inr, Err, refl, length, sym, ap, subst}
use Rattle.std.proofs.lemmas.Result.{on_ok_weaker, err_from_is_err_and}
use Rattle.refusal.specs.declared.Refusal.TheVariants.{NotOld}
use Rattle.disk.proofs.CallerLemmas.{synced_leaves}
use Rattle.milestone.specs.declared.format.Format.TheVariants.{One, Two}
use Rattle.recovery.specs.declared.shape.Shape.{Shape}
use Rattle.recovery.specs.Formatting.{Fits, IsBegunStore}
use Rattle.migration.specs.Brought.{IsMigratedFrom}
use Rattle.migration.proofs.Moments.{migrated, spares_as, untouched}
use Rattle.migration.proofs.Refused.{refused_by_old, refused_by_new}
use Rattle.migration.proofs.migrating.migrate.Goals as goal

-- nothing was done to the new device
pub returns-in_err-read-clause-any_moment : goal.returns-in_err-read-clause-any_moment
returns-in_err-read-clause-any_moment g c = untouched g.B.Disk (IsMigratedFrom g.A.Disk c.args.old.now c.read.new.disk) c.args.new.now

pub returns-in_err-read-clause-refused : goal.returns-in_err-read-clause-refused
returns-in_err-read-clause-refused g c =
    let p = err_from_is_err_and c.from_residual.result c.from_residual.ensures.1 in
    let read = c.in_err-read.ensures in
    rw (p.1, p.2) (refused_by_old g.A.Disk g.B.Disk One Two NotOld (inr refl) _ c.args.old.now c.read.new.disk c.in_err-read.field-0.0 c.args.new.now read.only read.refused
    (λ is. read.faults.failed (ap (λ e. Err e) is)))

pub returns-clause-brought : goal.returns-clause-brought
returns-clause-brought g c =
    let read = c.in_ok-read.ensures.read in
    let old = c.in_ok-read.read in
    on_ok_weaker c.put_on.result (λ made. record {
      found = read.found;
      kept = λ content left. synced_leaves _ content read.synced left ∙ c.read.ensures.only_synced.seen;
      made = record {
        is = λ honest state is.
            migrated is.shape state old.start (g.B.Disk.seen c.put_on.new.disk) (read.cut honest state is)
            (subst (λ (s : Shape). IsBegunStore s old.start (g.B.Disk.seen c.put_on.new.disk)) (sym (read.shape honest state is)) made.is);
        synced = made.synced;
        had_none = made.had_none;
      };
    }) c.put_on.ensures.made

pub returns-clause-any_moment : goal.returns-clause-any_moment
returns-clause-any_moment g c =
    let read = c.in_ok-read.ensures.read in
    let old = c.in_ok-read.read in
    spares_as (λ content begun honest state is.
    migrated is.shape state old.start content (read.cut honest state is)
    (subst (λ (s : Shape). IsBegunStore s old.start content) (sym (read.shape honest state is)) begun)) c.put_on.ensures.any_moment

pub returns-clause-refused : goal.returns-clause-refused
returns-clause-refused g c =
    let read = c.in_ok-read.ensures.read in
    refused_by_new g.A.Disk g.B.Disk One Two NotOld (inr refl) _ c.args.old.now c.read.new.disk c.put_on.result _ c.args.new.now c.put_on.new.disk read.found
    (λ unfit honest state is fits. unfit (subst (λ (s : Shape). Fits s (length (g.B.Disk.seen c.args.new.now))) (read.shape honest state is) fits))
    c.put_on.ensures.refused c.put_on.ensures.only c.put_on.ensures.faults
