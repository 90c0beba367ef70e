use Rattle.std.proofs.Common.{◌∙◌, ℕ, List, sym, subst, rules}
use Rattle.std.proofs.lemmas.Result.{err_from_is_err_and}
use Rattle.history.specs.declared.pick.Pick.TheVariants.{Newer}
use Rattle.milestone.specs.declared.format.Format.TheVariants.{One}
use Rattle.recovery.specs.Layout.{IsFormatted, NamesIn}
use Rattle.recovery.specs.Found.{FoundIn}
use Rattle.recovery.proofs.FoundOnce.{found_once_in}
use Rattle.recovery.proofs.Named.{named_same}
use Rattle.recovery.proofs.reading.read_old.Goals as goal

pub returns-clause-found : goal.returns-clause-found
returns-clause-found g c honest =
    let recovered = c.in_ok-shape.field-0 in
    let read = c.in_ok-shape.ensures.read honest in
    subst (λ (l : List ℕ). FoundIn One l Newer recovered.state) c.is_synced_as.ensures.seen
    (record { shape = recovered.shape; cells = read.cells; table = read.table; batches = read.batches; holds = read.holds; stand = read.stand })

pub returns-clause-only_state : goal.returns-clause-only_state
unfolding returns-clause-found
returns-clause-only_state g c honest state is =
    found_once_in One (g.D.Disk.seen c.args.disk.now) Newer state c.in_ok-shape.field-0.state is (returns-clause-found g c honest)

pub returns-clause-only_shape : goal.returns-clause-only_shape
returns-clause-only_shape g c honest state is =
    let recovered = c.in_ok-shape.field-0 in
    let read = c.in_ok-shape.ensures.read honest in
    named_same One (g.D.Disk.seen c.args.disk.now) is.shape recovered.shape is.holds.laid_out.names
    (subst (λ (l : List ℕ). NamesIn One l recovered.shape) c.is_synced_as.ensures.seen read.holds.laid_out.names)

pub returns-in_err-shape-clause-damaged : goal.returns-in_err-shape-clause-damaged
returns-in_err-shape-clause-damaged g c =
    let p = err_from_is_err_and c.from_residual-in_err-shape.result c.from_residual-in_err-shape.ensures.1 in
    rw p.1 (λ is honest. (
      subst IsFormatted c.is_synced_as.ensures.seen (c.in_err-shape.ensures.refused.formatted (sym p.2 ∙ is) honest),
      λ two. search rules,
      λ found holds. c.in_err-shape.ensures.refused.damaged (sym p.2 ∙ is) honest found (subst (λ (l : List ℕ). FoundIn One l Newer found) (sym c.is_synced_as.ensures.seen) holds),
    ))
