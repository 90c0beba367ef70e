-- What a call that publishes answers, and what a reader has read and learned.
use Rattle.std.specs.Prelude.{◌≡◌, true, List, [], ◌∷◌, ◌++◌, Option, Result, IfOk, IfErr, IfSome, IfNone, OnErr}
use mathlib.Core.List.{IsPrefix}
use Rattle.refusal.specs.declared.Refusal.{Refusal}
use Rattle.refusal.specs.declared.Refusal.TheVariants.{StoreFailed}
use Rattle.revision.specs.Command.{Taken}
use Rattle.revision.specs.State.{State, all_grow, fold}
use Rattle.recovery.specs.Found.{commands_of}
use Rattle.recovery.specs.Moment.{Moment, Receipt}
use Rattle.view.specs.Published.{Published}

module _ {D E : Type 0} where
  -- The batch that was given is published, and its receipt is given back with the token that ends with it; or none was given; or it is refused,
  -- and nothing has changed.
  pub record Publishes (old : Published) (answer : Result (Option (Receipt D × List (List Taken))) E) (new : Published) : Type 0 where
    pub batch : IfOk answer (λ published. IfSome published (λ p. old.unpublished ≡ p.0.batch ∷ []))
    pub told : IfOk answer (λ published. IfSome published (λ p. p.1 ≡ old.told ++ p.0.batch ∷ []))
    pub shown : IfOk answer (λ published. IfSome published (λ p. new ≡ record { told = p.1; unpublished = []; moments = old.moments }))
    pub none : IfOk answer (λ published. IfNone published ((old.unpublished ≡ []) × (new ≡ old)))
    pub unchanged : OnErr answer (new ≡ old)

  -- A batch that is in the log is shown, and its receipt and its token are given back; or it is refused, and stays to be published.
  pub record ShowsNext (told : List (List Taken)) (receipt : Receipt D) (next : List (List Taken)) (moments : List Moment)
      (answer : Result (Option (Receipt D × List (List Taken))) E) (new : Published) : Type 0 where
    pub done : IfOk answer (λ published. IfSome published (λ p. (p.0 ≡ receipt) × (p.1 ≡ next)
        × (new ≡ record { told = next; unpublished = []; moments = moments })))
    pub some : IfOk answer (λ published. IfNone published ⊥)
    pub unchanged : OnErr answer (new ≡ record { told = told; unpublished = receipt.batch ∷ []; moments = moments })

-- What was read begins with all that was seen before, and each of its commands continued what those before had made.
pub record ReadsOn (start : State) (old new : List (List Taken)) : Type 0 where
  pub kept : IsPrefix old new
  pub grows : all_grow start (commands_of new) ≡ true

-- The state that some published batches make, which go on from those that a reader has seen, was lent to a function; `there` tells these batches by
-- what came of it, and `Returns` what the function gives of a state. Refused with `StoreFailed` alone.
pub record IsLent {A : Type 0} (start : State) (old : List (List Taken)) (result : Result A Refusal) (there : A → List (List Taken)) (Returns : State → A → Type 0) : Type 0 where
  pub seen : IfOk result (λ a. ReadsOn start old (there a))
  pub answer : IfOk result (λ a. (s : State) × (s ≡ fold start (commands_of (there a))) × Returns s a)
  pub only : IfErr result (λ e. e ≡ StoreFailed)
