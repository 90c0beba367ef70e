-- What is published once a batch that was given is.
use Rattle.std.proofs.Common.{◌≡◌, List, [], ◌∷◌, ◌++◌, Option, Some, sym, ap, subst, ◌∙◌}
use Rattle.std.specs.Prelude.{IfSome}
use Rattle.revision.specs.Command.{Taken}
use Rattle.revision.specs.State.{State, fold}
use Rattle.recovery.specs.Found.{commands_of}
use Rattle.recovery.specs.Moment.{Receipt}
use Rattle.view.specs.Published.{Published}

module _ {D : Type 0} (old new : Published) (found : Option (Receipt D × List (List Taken))) (both : Receipt D × List (List Taken)) (is : found ≡ Some both)
    (batch : IfSome found (λ p. old.unpublished ≡ p.0.batch ∷ [])) (told : IfSome found (λ p. p.1 ≡ old.told ++ p.0.batch ∷ []))
    (shown : IfSome found (λ p. new ≡ record { told = p.1; unpublished = []; moments = old.moments })) where
  -- all that was published, and the batch
  pub published_told : new.told ≡ old.told ++ old.unpublished
  published_told =
      let here : new ≡ record { told = both.1; unpublished = []; moments = old.moments } = subst (λ o. IfSome o (λ p. new ≡ record { told = p.1; unpublished = []; moments = old.moments })) is shown in
      let next : both.1 ≡ old.told ++ both.0.batch ∷ [] = subst (λ o. IfSome o (λ p. p.1 ≡ old.told ++ p.0.batch ∷ [])) is told in
      let given : old.unpublished ≡ both.0.batch ∷ [] = subst (λ o. IfSome o (λ p. old.unpublished ≡ p.0.batch ∷ [])) is batch in
      ap (λ (p : Published). p.told) here ∙ next ∙ ap (λ (l : List (List Taken)). old.told ++ l) (sym given)

  -- so a store that held what all of that makes holds what is published
  pub published_kept : (start held : State) → held ≡ fold start (commands_of (old.told ++ old.unpublished)) → held ≡ fold start (commands_of new.told)
  published_kept start held kept = kept ∙ ap (λ (l : List (List Taken)). fold start (commands_of l)) (sym published_told)
