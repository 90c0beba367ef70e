use Rattle.std.proofs.Common.{◌∙◌, ⊎_elim, ℕ, List, subst, sym, rules}
use Rattle.disk.proofs.CallerLemmas.{synced_leaves}
use Rattle.segments.specs.Ring.{Fits}
use Rattle.recovery.specs.Found.{Found, HoldsParts}
use Rattle.recovery.specs.Cells.{FitEach}
use Rattle.recovery.specs.Jobs.{CanBePut, CanAllBePut}
use Rattle.milestone.specs.Job.{Job}
use Rattle.std.proofs.lemmas.List.Elements.{All-nil}
use Rattle.recovery.proofs.FoundOnce.{found_once, runs_at}
use Rattle.recovery.proofs.Named.{new_letters}
use Rattle.recovery.proofs.Runs.{found_again}
use Rattle.recovery.proofs.store.Store.open.Goals as goal

pub returns-in-Ok-clause-opened : goal.returns-in-Ok-clause-opened
returns-in-Ok-clause-opened g c =
    let content = g.D.Disk.seen c.args.disk in
    let recovered = c.in-Ok.recovered in
    let found : g.D.Disk.honest c.read_store.new.disk → Found content c.args.pick recovered.state = λ honest.
    let read = c.in-Ok.ensures.read honest in
    record { shape = recovered.shape; cells = read.cells; table = read.table; batches = read.batches; holds = read.holds; stand = read.stand } in
    record {
      found = found;
      only_state = λ honest state is. found_once content c.args.pick state recovered.state is (found honest);
      -- what is known is what was read
      knows = λ honest.
          let read = c.in-Ok.ensures.read honest in
          record {
            cells = read.cells;
            table = read.table;
            batches = read.batches;
            holds = read.holds;
            fits = read.fits;
            ring_at = read.place.at;
            ring_size = read.place.size;
            cells_are = read.cells_are;
            cells_fit = read.cells_fit;
            marked = read.marked;
            stand = read.stand;
          };
      -- the store that ran on the content runs on with what was read
      runs_on = λ honest state of.
          let read = c.in-Ok.ensures.read honest in
          let again = found_again content state c.args.pick recovered.state of (found honest) in
          let runs = runs_at content recovered.shape read.cells read.table read.batches read.holds recovered.state again.1 in (
            record {
              synced = c.in-Ok.ensures.synced;
              cells = read.cells;
              table = read.table;
              batches = read.batches;
              order = again.1.order;
              holds = subst (λ (l : List ℕ). HoldsParts l recovered.shape read.cells read.table read.batches) (sym c.read_store.ensures.seen) read.holds;
              fits = subst (λ (l : List ℕ). Fits l recovered.ring read.table) (sym c.read_store.ensures.seen) read.fits;
              ring_at = read.place.at;
              ring_size = read.place.size;
              cells_are = read.cells_are;
              cells_fit = subst (λ (l : List ℕ). FitEach l recovered.cells.items read.cells) (sym c.read_store.ensures.seen) read.cells_fit;
              marked = read.marked;
              limits = runs.0;
              runs = runs.1;
              kept = subst (λ (l : List Job). CanAllBePut again.1.order read.cells l) (sym c.new.ensures) (All-nil (CanBePut again.1.order read.cells));
            },
            again.0,
          );
      works = search rules;
      no_jobs = search rules;
    }

pub returns-in-Ok-clause-device : goal.returns-in-Ok-clause-device
returns-in-Ok-clause-device g c = record {
  time = search rules;
  seen = search rules;
  kept = λ content left. synced_leaves _ content c.in-Ok.ensures.synced left ∙ c.read_store.ensures.seen;
  good = search rules;
  honest = search rules;
}

pub returns-in-Err-clause-refused : goal.returns-in-Err-clause-refused
returns-in-Err-clause-refused g c =
    let refused = c.in-Err.ensures.refused in
    record {
      not_formatted = search rules;
      old_format = search rules;
      damaged = λ is honest. (refused.formatted is honest, refused.new_format is honest, refused.damaged is honest);
      -- such a content is formatted, and found as a state
      open_or = λ honest state of.
          let by = of.by_either c.args.pick in
          ⊎_elim (λ unformatted. absurd (refused.not_formatted unformatted honest by.found.holds.laid_out.names.formatted))
          (λ more. ⊎_elim (λ old. absurd (new_letters (g.D.Disk.seen c.args.disk) by.found.shape by.found.holds.laid_out.names (refused.old_format old honest)))
          (λ rest. ⊎_elim (λ damaged. absurd (refused.damaged damaged honest by.there by.found)) (λ others. others) rest) more)
          refused.only;
      fault = search rules;
      no_fault = search rules;
      only = search rules;
      time = search rules;
      seen = search rules;
    }
