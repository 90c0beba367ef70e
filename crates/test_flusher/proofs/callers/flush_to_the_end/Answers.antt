use Rattle.std.proofs.Common.{◌≡◌, ◌∙◌, ◌++◌, [], List, Result, Ok, Err, OnOk, ap, append-nil}
use Rattle.revision.specs.Command.{Taken}
use Rattle.revision.specs.State.{State, fold}
use Rattle.recovery.specs.Found.{commands_of}
use Rattle.recovery.specs.Open.{state_of}
use Rattle.flusher.specs.Holding.{store_of, told_of, committed_of, waiting_of}
use Rattle.test_flusher.proofs.callers.flush_to_the_end.Goals as goal

-- what the store holds is what is published, where nothing else is committed
all_published : {T E : Type 0} (r : Result T E) (start now : State) (told committed waiting : List (List Taken))
    → now ≡ fold start (commands_of (told ++ committed)) → OnOk r ((committed ≡ []) × (waiting ≡ [])) → OnOk r (now ≡ fold start (commands_of told))
all_published (Ok x) start now told committed waiting kept (none, others) =
    kept ∙ ap (λ l. fold start (commands_of l)) (ap (λ l. told ++ l) none ∙ append-nil told)
all_published (Err e) start now told committed waiting kept nothing = tt

pub returns-clause-holds : goal.returns-clause-holds
returns-clause-holds g c =
    let flusher = c.flush_all-ended.new.flusher in
    all_published c.flush_all-ended.result g.L.Life.start (state_of (store_of flusher)) (told_of flusher) (committed_of flusher) (waiting_of flusher) c.kept.ensures
    c.flush_all-ended.ensures.written.nothing
