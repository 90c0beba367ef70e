use Rattle.std.proofs.Common.{◌∙◌, inr, refl, sym, subst}
use Rattle.std.proofs.lemmas.Result.{err_from_is_err_and}
use Rattle.revision.specs.State.{State}
use Rattle.migration.specs.Migrated.{AreCut}
use Rattle.migration.proofs.Begun.{may_begin}
use Rattle.migration.proofs.Refused.{memory_tells_nothing}
use Rattle.migration.proofs.migrating.Old.read.Goals as goal

pub returns-in_err-shape-clause-refused : goal.returns-in_err-shape-clause-refused
returns-in_err-shape-clause-refused g c =
    let p = err_from_is_err_and c.from_residual.result c.from_residual.ensures.1 in
    rw p.1 (record {
      not_formatted = λ is honest. c.in_err-shape.ensures.not_formatted (sym p.2 ∙ is) honest;
      other_format = λ is honest. c.in_err-shape.ensures.not_old (sym p.2 ∙ is) honest;
      damaged = λ is honest. c.in_err-shape.ensures.damaged (sym p.2 ∙ is) honest;
    })

pub returns-in_err-start-clause-refused : goal.returns-in_err-start-clause-refused
returns-in_err-start-clause-refused g c =
    let p = err_from_is_err_and c.from_residual-in_err-start.result c.from_residual-in_err-start.ensures.1 in
    rw p.1 (memory_tells_nothing (inr refl) p.0 c.args.disk.now c.read_old.new.disk p.2)

pub invariant_of-result : goal.invariant_of-result
invariant_of-result g c =
    let old = c.in_ok-shape.field-0 in
    let made = c.in_ok-start.ensures in (
      c.in_ok-shape.ensures.in_range,
      may_begin old.shape old.state c.in_ok-start.start.items made.state c.in_ok-shape.ensures.limits made.cut made.spelled,
    )

pub returns-clause-read : goal.returns-clause-read
returns-clause-read g c = record {
  found = λ honest. (c.in_ok-shape.field-0.state, c.in_ok-shape.ensures.found honest);
  shape = λ honest state is. c.in_ok-shape.ensures.only_shape honest state is;
  cut = λ honest state is.
      subst (λ (s : State). AreCut s c.in_ok-start.start.items) (sym (c.in_ok-shape.ensures.only_state honest state is)) c.in_ok-start.ensures.cut;
  synced = c.in_ok-shape.ensures.synced;
}
