-- What is published and what is to be, in the log.
use Rattle.std.proofs.Common.{◌≡◌, ◌⊎◌, inl, inr, List, [], ◌∷◌, ◌++◌, refl, sym, subst, ◌∙◌, ap, append_assoc, append-nil}
use mathlib.Core.List.{IsPrefix}
use Rattle.disk.specs.declared.device.Disk.{Ghosts}
use Rattle.revision.specs.Command.{Taken}
use Rattle.revision.specs.State.{State}
use Rattle.recovery.specs.Moment.{Moment, moment_of}
use Rattle.published.specs.Moments.{AreMoments}
use Rattle.published.proofs.CallerLemmas.{moments_more}
use Rattle.view.specs.Stages.{IsLogged, IsTimed, held_in, moments_in}
use Rattle.view.specs.declared.publisher.Stage.{Stage}
use Rattle.view.specs.declared.publisher.Stage.TheVariants.{Idle, Held, Logged, Queued}

module _ {D L : Type 0} where
  -- a prefix of the log is one of what is published, with the batch that is to be
  pub within_log : (log told token : List (List Taken)) (stage : Stage D L) → IsLogged log told stage → IsPrefix token log → IsPrefix token (told ++ held_in stage)
  within_log log told token Idle logged begins = subst (λ (l : List (List Taken)). IsPrefix token l) (logged ∙ sym (append-nil told)) begins
  within_log log told token (Held receipt ordered made) logged (more, is) =
      (more ++ receipt.batch ∷ [], sym (append_assoc token more (receipt.batch ∷ [])) ∙ ap (λ (l : List (List Taken)). l ++ receipt.batch ∷ []) (is ∙ logged.0))
  within_log log told token (Logged receipt next) logged begins = subst (λ (l : List (List Taken)). IsPrefix token l) (logged.0 ∙ logged.1) begins
  within_log log told token (Queued receipt next) logged begins = subst (λ (l : List (List Taken)). IsPrefix token l) (logged.0 ∙ logged.1) begins

  -- the log has what is published, or the batch that is to be as well
  pub log_is : (log told : List (List Taken)) (stage : Stage D L) → IsLogged log told stage → (log ≡ told) ⊎ (log ≡ told ++ held_in stage)
  log_is log told Idle logged = inl logged
  log_is log told (Held receipt ordered made) logged = inl logged.0
  log_is log told (Logged receipt next) logged = inr (logged.0 ∙ logged.1)
  log_is log told (Queued receipt next) logged = inr (logged.0 ∙ logged.1)

  -- the moments of the log are a prefix of those of what is published and of the batch that is to be
  pub within_moments : (disk : Ghosts D) (moments some : List Moment) (stage : Stage D L) → IsPrefix some moments → IsPrefix some (moments_in disk moments stage)
  within_moments disk moments some Idle begins = begins
  within_moments disk moments some (Held receipt ordered made) (more, is) =
      let at = moment_of disk receipt.at in
      (more ++ at ∷ [], sym (append_assoc some more (at ∷ [])) ∙ ap (λ (l : List Moment). l ++ at ∷ []) is)
  within_moments disk moments some (Logged receipt next) begins = begins
  within_moments disk moments some (Queued receipt next) begins = begins

  -- where no batch is to be published they are those of the log
  pub moments_idle : (disk : Ghosts D) (moments : List Moment) (stage : Stage D L) → held_in stage ≡ [] → moments_in disk moments stage ≡ moments
  moments_idle disk moments Idle none = refl
  moments_idle disk moments (Held receipt ordered made) none = absurd (let no : ⊥ = cc in no)
  moments_idle disk moments (Logged receipt next) none = refl
  moments_idle disk moments (Queued receipt next) none = refl

  -- there is one for each batch
  pub moments_are : (disk : Ghosts D) (start : State) (log told : List (List Taken)) (moments : List Moment) (stage : Stage D L) → AreMoments start log moments
      → IsLogged log told stage → IsTimed disk start told stage → AreMoments start (told ++ held_in stage) (moments_in disk moments stage)
  moments_are disk start log told moments Idle are logged timed =
      subst (λ (l : List (List Taken)). AreMoments start l moments) (logged ∙ sym (append-nil told)) are
  moments_are disk start log told moments (Held receipt ordered made) are logged timed =
      moments_more start told receipt.batch moments (moment_of disk receipt.at) (subst (λ (l : List (List Taken)). AreMoments start l moments) logged.0 are) timed
  moments_are disk start log told moments (Logged receipt next) are logged timed =
      subst (λ (l : List (List Taken)). AreMoments start l moments) (logged.0 ∙ logged.1) are
  moments_are disk start log told moments (Queued receipt next) are logged timed =
      subst (λ (l : List (List Taken)). AreMoments start l moments) (logged.0 ∙ logged.1) are
