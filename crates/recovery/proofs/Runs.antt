-- Steps of a run, and what contents represent within it.
use Rattle.std.proofs.Common.{◌≡◌, inl, inr, ℕ, ◌+◌, ◌<◌, List, [], ◌∷◌, ◌++◌, length, take, get_or, refl, sym, ◌∙◌, ap, subst, arith}
use Rattle.std.proofs.lemmas.List.{take_more, take_all}
use Rattle.disk.specs.declared.device.Disk.{Ghosts}
use Rattle.revision.specs.Command.{Taken}
use Rattle.revision.specs.State.{Limits, State, fold}
use Rattle.revision.specs.Agree.{Agree}
use Rattle.history.specs.declared.pick.Pick.{Pick}
use Rattle.history.specs.Found.{StandFor}
use Rattle.history.proofs.CallerLemmas.{at_most_one, recovers, reopens}
use Rattle.recovery.specs.declared.run.StoreStep.{StoreStep}
use Rattle.recovery.specs.declared.store.Store.{Store}
use Rattle.recovery.specs.Found.{Found, FoundBy, FoundAs, RunsWith, limits_of, commands_of}
use Rattle.recovery.specs.Open.{IsOpen, IsUnchanged, IsWithOrWithout}
use Rattle.recovery.specs.Run.{batch_of, state_after, IsAfterSome}
use Rattle.recovery.proofs.FoundOnce.{stand_at}

-- a call that does nothing leaves a store unchanged, and so do two such calls
pub unchanged : {D : Type 0} {disk : Ghosts D} (store : Store D disk) → IsUnchanged store store
unchanged store = record { device = refl; shape = refl; ring = refl; cells = refl; marks = refl; jobs = refl; state = refl; failed = refl }

pub unchanged_twice : {D : Type 0} {disk : Ghosts D} {one two three : Store D disk} → IsUnchanged one two → IsUnchanged two three → IsUnchanged one three
unchanged_twice first second = record {
  device = second.device ∙ first.device;
  shape = second.shape ∙ first.shape;
  ring = second.ring ∙ first.ring;
  cells = second.cells ∙ first.cells;
  marks = second.marks ∙ first.marks;
  jobs = second.jobs ∙ first.jobs;
  state = second.state ∙ first.state;
  failed = second.failed ∙ first.failed;
}

-- the content under a store that is open is that of a store which runs with its state
pub found_open : {D : Type 0} {disk : Ghosts D} (store : Store D disk) → IsOpen store → RunsWith (disk.seen store.device) store.state
found_open store is_open = record {
  shape = store.shape;
  cells = is_open.cells;
  table = is_open.table;
  batches = is_open.batches;
  order = is_open.order;
  holds = is_open.holds;
  limits = is_open.limits;
  runs = is_open.runs;
}

-- such a content is found by either pick as a state that agrees
pub found_as : (content : List ℕ) (state : State) → RunsWith content state → FoundAs content state
found_as content state is = record { by_either = by_either; runs = is }
  where
    by_either : (pick : Pick) → FoundBy pick content state
    by_either pick =
        let recovered = recovers is.order is.cells (commands_of is.batches) state pick is.runs in
        let stand : StandFor (limits_of is.shape) is.cells (commands_of is.batches) pick recovered.0 =
        subst (λ (l : Limits). StandFor l is.cells (commands_of is.batches) pick recovered.0) is.limits recovered.1 in
        record {
          there = recovered.0;
          found = record { shape = is.shape; cells = is.cells; table = is.table; batches = is.batches; holds = is.holds; stand = stand };
          agrees = recovered.2;
        }

-- and with whichever state it is found as, its store runs on
pub found_again : (content : List ℕ) (state : State) (pick : Pick) (found : State) → FoundAs content state → Found content pick found → Agree found state × RunsWith content found
found_again content state pick found of is =
    let running = of.runs in
    let entries = commands_of running.batches in
    let here : StandFor (limits_of running.shape) running.cells entries pick found = stand_at content running.shape running.cells running.table running.batches running.holds pick found is in
    let stand : StandFor state.limits running.cells entries pick found = subst (λ (l : Limits). StandFor l running.cells entries pick found) (sym running.limits) here in
    let recovered = recovers running.order running.cells entries state pick running.runs in
    let same : recovered.0 ≡ found = at_most_one state.limits running.cells entries pick recovered.0 found recovered.1 stand in (
      subst (λ (s : State). Agree s state) same recovered.2,
      record {
        shape = running.shape;
        cells = running.cells;
        table = running.table;
        batches = running.batches;
        order = running.order;
        holds = running.holds;
        limits = here.same_limits;
        runs = reopens running.order running.cells entries state pick found running.runs stand;
      },
    )

pub state_after-append : (state : State) (first second : List StoreStep) → state_after state (first ++ second) ≡ state_after (state_after state first) second
state_after-append state [] second = refl
state_after-append state (step ∷ first) second = state_after-append (fold state (batch_of step)) first second

module _ (state : State) (steps : List StoreStep) (i : ℕ) (step : StoreStep) (inside : i < length steps) (is : step ≡ get_or steps i step) where
  -- the state after one step more
  pub state_after-more : state_after state (take (i + 1) steps) ≡ fold (state_after state (take i steps)) (batch_of step)
  state_after-more =
      ap (state_after state) (take_more steps i step inside) ∙ state_after-append state (take i steps) (get_or steps i step ∷ [])
      ∙ ap (λ (s : StoreStep). fold (state_after state (take i steps)) (batch_of s)) (sym is)

  -- within a step: before it, or after it
  pub within_step : (now : State) (batch : List Taken) (content : List ℕ) → now ≡ state_after state (take i steps) → batch ≡ batch_of step → IsWithOrWithout now batch content → IsAfterSome i state steps content
  within_step now batch content here same (inl found) = record { count = i; enough = omega arith; within = omega arith; found = subst (FoundAs content) here found }
  within_step now batch content here same (inr found) = record {
    count = i + 1;
    enough = omega arith;
    within = omega arith;
    found = subst (FoundAs content) (ap (λ (s : State). fold s batch) here ∙ ap (fold (state_after state (take i steps))) same ∙ sym state_after-more) found;
  }

-- no fewer than some are no fewer than none
pub some_of : (least : ℕ) (state : State) (steps : List StoreStep) (content : List ℕ) → IsAfterSome least state steps content → IsAfterSome 0 state steps content
some_of least state steps content after = record { count = after.count; enough = omega arith; within = after.within; found = after.found }

-- before the first step
pub before_all : (state : State) (steps : List StoreStep) (content : List ℕ) → FoundAs content state → IsAfterSome 0 state steps content
before_all state steps content found = record { count = 0; enough = omega arith; within = omega arith; found = found }

-- after the last
pub after_all : (state now : State) (steps : List StoreStep) (content : List ℕ) → now ≡ state_after state steps → FoundAs content now → IsAfterSome (length steps) state steps content
after_all state now steps content is found = record {
  count = length steps;
  enough = omega arith;
  within = omega arith;
  found = subst (FoundAs content) (is ∙ ap (state_after state) (sym (take_all (length steps) steps (omega arith)))) found;
}
