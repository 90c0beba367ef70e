-- What a call that publishes answers, where the batch is in the log.
use Rattle.std.proofs.Common.{◌≡◌, List, [], ◌∷◌, ◌++◌, Option, Some, None, Result, Ok, Err, ap, sym, ◌∙◌}
use Rattle.revision.specs.Command.{Taken}
use Rattle.recovery.specs.Moment.{Moment, Receipt}
use Rattle.view.specs.Published.{Published}
use Rattle.view.specs.Publishing.{Publishes, ShowsNext}

-- the publisher of a batch that is in the log
abbrev pub logged : {D : Type 0} → List (List Taken) → Receipt D → List Moment → Published
logged told receipt moments = record { told = told; unpublished = receipt.batch ∷ []; moments = moments }

-- once that batch is shown, it is published
pub shown-publishes : {D E : Type 0} (told : List (List Taken)) (receipt : Receipt D) (next : List (List Taken)) (moments : List Moment)
    (answer : Result (Option (Receipt D × List (List Taken))) E) (new : Published)
    → next ≡ told ++ receipt.batch ∷ [] → ShowsNext told receipt next moments answer new → Publishes (logged told receipt moments) answer new
shown-publishes told receipt next moments (Ok (Some p)) new ends shows = record {
  batch = ap (λ r. r.batch ∷ []) (sym shows.done.0);
  told = shows.done.1 ∙ ends ∙ ap (λ r. told ++ r.batch ∷ []) (sym shows.done.0);
  shown = shows.done.2 ∙ ap (λ t. record { told = t; unpublished = []; moments = moments }) (sym shows.done.1);
  none = tt;
  unchanged = tt;
}
shown-publishes told receipt next moments (Ok None) new ends shows = absurd shows.some
shown-publishes told receipt next moments (Err e) new ends shows = record {
  batch = tt;
  told = tt;
  shown = tt;
  none = tt;
  unchanged = shows.unchanged;
}
