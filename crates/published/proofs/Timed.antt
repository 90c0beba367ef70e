-- The moments of published batches.
use Rattle.std.proofs.Common.{◌≡◌, suc, List, [], ◌∷◌, ◌++◌, length, refl, ap, sym, subst, ◌∙◌}
use Rattle.std.proofs.lemmas.List.{append-nil}
use Rattle.revision.specs.Command.{Taken}
use Rattle.revision.specs.State.{State, grown, fold}
use Rattle.recovery.specs.Found.{commands_of}
use Rattle.disk.specs.declared.device.Disk.{Ghosts}
use Rattle.recovery.specs.Moment.{At, Moment, Receipt, IsMomentOf, moment_of}
use Rattle.published.specs.Moments.{AreMoments}
use Rattle.published.proofs.Orders.{commands_more}
use Rattle.revision.proofs.CallerLemmas.{fold-append}

-- one batch more, with the moment at which its commit had ended
pub moments_more : (start : State) (batches : List (List Taken)) (batch : List Taken) (moments : List Moment) (moment : Moment) → AreMoments start batches moments
    → IsMomentOf (fold start (commands_of (batches ++ batch ∷ []))) moment → AreMoments start (batches ++ batch ∷ []) (moments ++ moment ∷ [])
moments_more start [] batch [] moment are is =
    (subst (λ (c : List Taken). IsMomentOf (fold start c) moment) (append-nil batch) is, tt)
moments_more start [] batch (first ∷ moments) moment are is = absurd are
moments_more start (first ∷ batches) batch [] moment are is = absurd are
moments_more start (first ∷ batches) batch (one ∷ moments) moment are is = (
  are.0,
  moments_more (fold start first) batches batch moments moment are.1
      (subst (λ (s : State). IsMomentOf s moment) (fold-append start first (commands_of (batches ++ batch ∷ []))) is),
)

-- there are as many moments as batches
pub moments_long : (start : State) (batches : List (List Taken)) (moments : List Moment) → AreMoments start batches moments → length moments ≡ length batches
moments_long start [] [] are = refl
moments_long start [] (moment ∷ moments) are = absurd are
moments_long start (batch ∷ batches) [] are = absurd are
moments_long start (batch ∷ batches) (moment ∷ moments) are = ap (λ n. suc n) (moments_long (fold start batch) batches moments are.1)

-- those of the first batches are the first of them
pub moments_first : (start : State) (first more : List (List Taken)) (moments : List Moment) → AreMoments start (first ++ more) moments
    → (here : List Moment) × (others : List Moment) × (here ++ others ≡ moments) × AreMoments start first here
moments_first start [] more moments are = ([], moments, refl, tt)
moments_first start (batch ∷ first) more [] are = absurd are
moments_first start (batch ∷ first) more (moment ∷ moments) are =
    let rest = moments_first (fold start batch) first more moments are.1 in
    (moment ∷ rest.0, rest.1, ap (λ (l : List Moment). moment ∷ l) rest.2, (are.0, rest.3))

-- the last of them is of what all the batches make
pub moments_last : (start : State) (batches : List (List Taken)) (batch : List Taken) (moments : List Moment) → AreMoments start (batches ++ batch ∷ []) moments
    → (earlier : List Moment) × (moment : Moment) × (moments ≡ earlier ++ moment ∷ []) × IsMomentOf (fold start (commands_of (batches ++ batch ∷ []))) moment
moments_last start [] batch [] are = absurd are
moments_last start [] batch (moment ∷ []) are =
    ([], moment, refl, subst (λ (c : List Taken). IsMomentOf (fold start c) moment) (sym (append-nil batch)) are.0)
moments_last start [] batch (moment ∷ (other ∷ others)) are = absurd are.1
moments_last start (first ∷ batches) batch [] are = absurd are
moments_last start (first ∷ batches) batch (one ∷ moments) are =
    let rest = moments_last (fold start first) batches batch moments are.1 in (
      one ∷ rest.0,
      rest.1,
      ap (λ (l : List Moment). one ∷ l) rest.2,
      subst (λ (s : State). IsMomentOf s rest.1) (sym (fold-append start first (commands_of (batches ++ batch ∷ [])))) rest.3,
    )

-- What a store holds after a commit is what the batch makes of what is published, where that is what it held before,
pub committed_state : (start old new : State) (told : List (List Taken)) (batch : List Taken) → old ≡ fold start (commands_of told) → new ≡ fold old batch
    → new ≡ fold start (commands_of (told ++ batch ∷ []))
committed_state start old new told batch kept grown =
    grown ∙ ap (λ (s : State). fold s batch) kept ∙ sym (fold-append start (commands_of told) batch) ∙ ap (fold start) (sym (commands_more told batch))

-- and that is so of the moment which its receipt has.
pub committed_moment : {D : Type 0} (disk : Ghosts D) (start old new : State) (told : List (List Taken)) (batch : List Taken) (device : D) (receipt : Receipt D)
    → old ≡ fold start (commands_of told) → receipt.batch ≡ batch → new ≡ fold old batch → receipt.at ≡ record { state = new; device = device } → disk.unsynced device ≡ []
    → IsMomentOf (fold start (commands_of (told ++ receipt.batch ∷ []))) (moment_of disk receipt.at)
committed_moment {D} disk start old new told batch device receipt kept same grown at synced = record {
  held = ap (λ (a : At D). a.state) at ∙ committed_state start old new told receipt.batch kept (grown ∙ ap (fold old) (sym same));
  synced = ap (λ (a : At D). disk.unsynced a.device) at ∙ synced;
}
