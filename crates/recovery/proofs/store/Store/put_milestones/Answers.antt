use Rattle.std.proofs.Common.{◌≡◌, ◌≤◌, false, List, length, take, refl, sym, ◌∙◌, ap, subst, arith, rules}
use Rattle.std.proofs.lemmas.List.{length-take-le}
use Rattle.milestone.specs.Job.{Job}
use Rattle.recovery.specs.declared.group.Member.{Member}
use Rattle.recovery.specs.Open.{has_failed}
use Rattle.recovery.specs.steps.Group.{AreKept}
use Rattle.recovery.proofs.Faults.{faults_none, faults_ok}
use Rattle.recovery.proofs.Gathered.{told_memory}
use Rattle.recovery.proofs.Going.{goes_nowhere}
use Rattle.recovery.proofs.KeptMembers.{none_kept, costs_together_none, costs_longer}
use Rattle.recovery.proofs.store.Store.put_milestones.Goals as goal

-- the store had failed
pub returns-then-self-clause-keeps : goal.returns-then-self-clause-keeps
returns-then-self-clause-keeps g c = record { state = refl; ring = refl; marks = refl }

pub returns-then-self-clause-costs : goal.returns-then-self-clause-costs
returns-then-self-clause-costs g c = costs_together_none c.args.self.now c.args.composed.now

pub returns-then-self-clause-goes : goal.returns-then-self-clause-goes
returns-then-self-clause-goes g c = goes_nowhere c.args.self.now

-- there was no memory for the first one
pub returns-in_err-group-clause-faults : goal.returns-in_err-group-clause-faults
returns-in_err-group-clause-faults g c =
    let works : has_failed c.args.self.now ≡ false = search rules in
    faults_none c.args.self.now c.from_residual.result works (told_memory c.from_residual.result c.from_residual.ensures.1)

pub returns-in_err-group-clause-keeps : goal.returns-in_err-group-clause-keeps
returns-in_err-group-clause-keeps g c = record { state = refl; ring = refl; marks = refl }

pub returns-in_err-group-clause-costs : goal.returns-in_err-group-clause-costs
returns-in_err-group-clause-costs g c = costs_together_none c.args.self.now c.args.composed.now

pub returns-in_err-group-clause-goes : goal.returns-in_err-group-clause-goes
returns-in_err-group-clause-goes g c = goes_nowhere c.args.self.now

-- what the first jobs make is put
pub put_once-requires-clause-kept : goal.put_once-requires-clause-kept
put_once-requires-clause-kept g c = (
  take c.in_ok-group.group.end c.args.composed.now,
  subst (λ (l : List Member). AreKept (take c.in_ok-group.group.end c.args.composed.now) l c.args.self.now) (sym c.deref.ensures.value) c.in_ok-group.ensures.kept,
)

pub returns-in-Ok-clause-put : goal.returns-in-Ok-clause-put
returns-in-Ok-clause-put g c =
    let first : List Job = take c.in_ok-group.group.end c.args.composed.now in
    c.in-Ok.ensures.put first (subst (λ (l : List Member). AreKept first l c.args.self.now) (sym c.deref.ensures.value) c.in_ok-group.ensures.kept)

pub returns-in-Ok-clause-passed : goal.returns-in-Ok-clause-passed
returns-in-Ok-clause-passed g c none =
    let first : List Job = take c.in_ok-group.group.end c.args.composed.now in
    c.put_once.ensures.none (c.deref.ensures.value ∙ none_kept c.args.self.now first c.in_ok-group.group.members.items c.in_ok-group.ensures.kept none)

pub returns-in-Ok-clause-faults : goal.returns-in-Ok-clause-faults
returns-in-Ok-clause-faults g c = faults_ok tt c.in_ok-group.group.end c.in-Ok.ensures.faults

pub returns-in-Ok-clause-costs : goal.returns-in-Ok-clause-costs
returns-in-Ok-clause-costs g c =
    let composed : List Job = c.args.composed.now in
    let count = c.in_ok-group.group.end in
    let kept = subst (λ (l : List Member). AreKept (take count composed) l c.args.self.now) (sym c.deref.ensures.value) c.in_ok-group.ensures.kept in
    let few : length c.deref.result.now ≤ length (take count composed) =
    omega (arith, c.in_ok-group.ensures.few, length-take-le count composed c.in_ok-group.ensures.count.0, ap (λ (l : List Member). length l) c.deref.ensures.value) in
    costs_longer c.args.self.now c.put_once.new.self composed count (c.put_once.ensures.costs (take count composed) kept few)

pub returns-clause-costs : goal.returns-clause-costs
returns-clause-costs g c =
    let composed : List Job = c.args.composed.now in
    let count = c.in_ok-group.group.end in
    let kept = subst (λ (l : List Member). AreKept (take count composed) l c.args.self.now) (sym c.deref.ensures.value) c.in_ok-group.ensures.kept in
    let few : length c.deref.result.now ≤ length (take count composed) =
    omega (arith, c.in_ok-group.ensures.few, length-take-le count composed c.in_ok-group.ensures.count.0, ap (λ (l : List Member). length l) c.deref.ensures.value) in
    costs_longer c.args.self.now c.put_once.new.self composed count (c.put_once.ensures.costs (take count composed) kept few)
