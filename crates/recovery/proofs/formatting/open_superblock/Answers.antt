use Rattle.std.proofs.Common.{◌∙◌, sym, subst}
use Rattle.std.proofs.lemmas.Result.{on_ok_weaker}
use Rattle.disk.specs.Crash.{history_of}
use Rattle.disk.proofs.CallerLemmas.{begins_anywhere, goes_on_sync}
use Rattle.recovery.specs.Formatting.{IsUnformatted, IsPreparedWith, IsBegunStore}
use Rattle.recovery.proofs.Beginning.{sync_prepared_with, write_gate_with, opened_with}
use Rattle.recovery.proofs.formatting.open_superblock.Goals as goal

pub returns-in_err-sync-clause-any_moment : goal.returns-in_err-sync-clause-any_moment
returns-in_err-sync-clause-any_moment g c closed =
    let at_start = begins_anywhere {P = IsUnformatted} (history_of g.D.Disk c.args.disk.now) closed in
    sync_prepared_with at_start c.sync.ensures.time

pub returns-in_err-write_at-clause-any_moment : goal.returns-in_err-write_at-clause-any_moment
returns-in_err-write_at-clause-any_moment g c closed =
    let at_start = begins_anywhere {P = IsUnformatted} (history_of g.D.Disk c.args.disk.now) closed in
    let is : IsPreparedWith c.args.shape.now c.args.milestones.now (g.D.Disk.seen c.sync.new.self) =
    subst (IsPreparedWith c.args.shape.now c.args.milestones.now) (sym c.sync.ensures.seen) c.requires.prepared in
    write_gate_with (sync_prepared_with at_start c.sync.ensures.time) c.in_ok-sync.ensures.closed c.requires.in_range c.requires.begins is c.write_at.ensures.time

pub returns-clause-any_moment : goal.returns-clause-any_moment
returns-clause-any_moment g c closed =
    let at_start = begins_anywhere {P = IsUnformatted} (history_of g.D.Disk c.args.disk.now) closed in
    let is : IsPreparedWith c.args.shape.now c.args.milestones.now (g.D.Disk.seen c.sync.new.self) =
    subst (IsPreparedWith c.args.shape.now c.args.milestones.now) (sym c.sync.ensures.seen) c.requires.prepared in
    goes_on_sync
    (write_gate_with (sync_prepared_with at_start c.sync.ensures.time) c.in_ok-sync.ensures.closed c.requires.in_range c.requires.begins is c.write_at.ensures.time)
    c.sync-2.ensures.time

pub returns-clause-done : goal.returns-clause-done
returns-clause-done g c =
    let is : IsPreparedWith c.args.shape.now c.args.milestones.now (g.D.Disk.seen c.sync.new.self) =
    subst (IsPreparedWith c.args.shape.now c.args.milestones.now) (sym c.sync.ensures.seen) c.requires.prepared in
    let store : IsBegunStore c.args.shape.now c.args.milestones.now (g.D.Disk.seen c.sync-2.new.self) =
    subst (IsBegunStore c.args.shape.now c.args.milestones.now) (sym (c.sync-2.ensures.seen ∙ c.in_ok-write_at.ensures.written))
    (opened_with c.args.shape.now c.args.milestones.now (g.D.Disk.seen c.sync.new.self) c.requires.in_range c.requires.begins is) in
    on_ok_weaker c.sync-2.result (λ closed. store) c.sync-2.ensures.closed
