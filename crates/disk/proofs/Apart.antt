-- What a crash leaves of writes that lie apart from one another.
use Rattle.std.proofs.Common.{◌≡◌, inl, inr, ℕ, ◌+◌, ◌-◌, ◌≤◌, ◌<◌, List, [], ◌∷◌, length, get_or, take, drop, sym, ◌∙◌, ap, subst, arith}
use Rattle.std.specs.Prelude.{◌↔◌}
use Rattle.std.proofs.lemmas.List.{ext_get_or, get_or-take, get_or-drop, length-take, length-take-le, length-drop}
use Rattle.disk.specs.Apart.{IsWithin, AreApart, IsApart, CoversMoreWithin, AreWrites}
use Rattle.disk.specs.Device.{State, IsCovered, MayLeave, overwritten, SameOutside}
use Rattle.disk.proofs.Contents.{sides, same_at, byte_overwritten, overwritten_same_outside, not_covered, covered_here, covered_there}

-- contents of one length that agree at each place of a range agree in it
pub same_range : (at count : ℕ) (a b : List ℕ) → length a ≡ length b → ((place : ℕ) → IsWithin at count place → get_or a place 0 ≡ get_or b place 0)
    → take count (drop at a) ≡ take count (drop at b)
same_range at count a b long agree =
    ext_get_or 0 (take count (drop at a)) (take count (drop at b))
    (omega (arith, length-take count (drop at a), length-take count (drop at b), length-drop at a, length-drop at b))
    (λ place inside.
    let here : place < count = omega (arith, length-take count (drop at a)) in
    get_or-take count (drop at a) place 0 here ∙ get_or-drop at a place 0 ∙ agree (at + place) (omega arith, omega arith)
    ∙ sym (get_or-take count (drop at b) place 0 here ∙ get_or-drop at b place 0))

pub left_apart : (at count : ℕ) (state : State) (content : List ℕ) → IsApart at count state.unsynced → MayLeave state content
    → take count (drop at content) ≡ take count (drop at state.seen)
left_apart at count state content apart left =
    same_range at count content state.seen left.same_length (λ place within. left.outside place (apart place within))

pub apart_synced : (at count : ℕ) (ranges : List (ℕ × ℕ)) → ranges ≡ [] → IsApart at count ranges
apart_synced at count ranges none place within covered =
    not_covered place (subst (λ (l : List (ℕ × ℕ)). IsCovered l place) none covered)

-- a place of one of two ranges apart is in no other one
not_both : (at count other size place : ℕ) → AreApart at count other size → IsWithin other size place → ¬ IsWithin at count place
not_both at count other size place (inl before) there here = absurd (omega (arith, before, there.0, here.1))
not_both at count other size place (inr behind) there here = absurd (omega (arith, behind, there.1, here.0))

pub apart_still : (at count other size : ℕ) (old new : List (ℕ × ℕ)) → AreApart at count other size → CoversMoreWithin at count old new
    → IsApart other size old → IsApart other size new
apart_still at count other size old new apart more was place within covered = elim (more place covered) [
  | inl here ↦ not_both at count other size place apart within here
  | inr before ↦ was place within before
]

pub same_elsewhere : (at count other size : ℕ) (old new : List ℕ) → AreApart at count other size → SameOutside at count old new
    → take size (drop other new) ≡ take size (drop other old)
same_elsewhere at count other size old new apart same =
    same_range other size new old same.same_length (λ place within. same_at at count old new same place (not_both at count other size place apart within))

-- what one crash leaves in a range, and another one elsewhere
pub left_mixed : (at count : ℕ) (state : State) (here elsewhere : List ℕ) → at + count ≤ length state.seen → MayLeave state here → MayLeave state elsewhere
    → MayLeave state (overwritten elsewhere at (take count (drop at here)))
left_mixed at count state here elsewhere fits left_here left_elsewhere = record {
  same_length = outside.same_length ∙ left_elsewhere.same_length;
  outside = λ place free. elim (sides at count place) [
    | inl before ↦ same_at at (length bytes) elsewhere mixed outside place (λ within. absurd (omega (arith, before, within.0))) ∙ left_elsewhere.outside place free
    | inr (inl within) ↦
        let inside : place - at < count = omega (arith, within.1) in
        let same : at + (place - at) ≡ place = omega (arith, within.0) in
        byte_overwritten elsewhere at bytes place (omega (arith, left_elsewhere.same_length, fits)) (within.0, omega (arith, within.1, long))
        ∙ get_or-take count (drop at here) (place - at) 0 inside ∙ get_or-drop at here (place - at) 0 ∙ ap (λ k. get_or here k 0) same
        ∙ left_here.outside place free
    | inr (inr behind) ↦ same_at at (length bytes) elsewhere mixed outside place (λ within. absurd (omega (arith, behind, within.1, long))) ∙ left_elsewhere.outside place free
  ];
}
  where
    bytes : List ℕ
    bytes = take count (drop at here)

    long : length bytes ≡ count
    long = length-take-le count (drop at here) (omega (arith, fits, left_here.same_length, length-drop at here))

    mixed : List ℕ
    mixed = overwritten elsewhere at bytes

    outside : SameOutside at (length bytes) elsewhere mixed
    outside = overwritten_same_outside elsewhere at bytes (omega (arith, fits, long, left_elsewhere.same_length))

-- what writes change lies in their ranges, which are unsynced afterwards
record Written (ranges : List (ℕ × ℕ)) (old new : State) : Type 0 where
  same_length : length new.seen ≡ length old.seen
  outside : (place : ℕ) → ¬ IsCovered ranges place → get_or new.seen place 0 ≡ get_or old.seen place 0
  unsynced : new.unsynced ≡ ranges

written : (ranges : List (ℕ × ℕ)) (old new : State) → old.unsynced ≡ [] → AreWrites ranges old new → Written ranges old new
written [] old new synced same = record {
  same_length = ap (λ (s : State). length s.seen) same;
  outside = λ place free. ap (λ (s : State). get_or s.seen place 0) same;
  unsynced = ap (λ (s : State). s.unsynced) same ∙ synced;
}
written (range ∷ ranges) old new synced (mid, before, fits, step) =
    let was = written ranges old mid synced before in
    record {
      same_length = step.seen.same_length ∙ was.same_length;
      outside = λ place free.
          same_at range.0 range.1 mid.seen new.seen step.seen place (λ within. free (covered_here range.0 range.1 place ranges within))
          ∙ was.outside place (λ covered. free (covered_there range place ranges covered));
      unsynced = step.unsynced ∙ ap (λ (l : List (ℕ × ℕ)). range ∷ l) was.unsynced;
    }

pub left_by_writes : (ranges : List (ℕ × ℕ)) (old new : State) (content : List ℕ) → old.unsynced ≡ [] → AreWrites ranges old new
    → (MayLeave new content ↔ MayLeave (record { seen = old.seen; unsynced = ranges }) content)
left_by_writes ranges old new content synced writes =
    let now = written ranges old new synced writes in (
      λ left. record {
        same_length = left.same_length ∙ now.same_length;
        outside = λ place free. left.outside place (λ covered. free (subst (λ (l : List (ℕ × ℕ)). IsCovered l place) now.unsynced covered)) ∙ now.outside place free;
      },
      λ left. record {
        same_length = left.same_length ∙ sym now.same_length;
        outside = λ place free.
            let apart : ¬ IsCovered ranges place = λ covered. free (subst (λ (l : List (ℕ × ℕ)). IsCovered l place) (sym now.unsynced) covered) in
            left.outside place apart ∙ sym (now.outside place apart);
      },
    )
