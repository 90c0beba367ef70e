-- What stands where after a write, and which contents a crash may leave.
use Rattle.std.proofs.Common.{◌≡◌, ◌⊎◌, inl, inr, ⊎_elim, ℕ, suc, zero, ◌+◌, ◌-◌, ◌≤◌, ◌<◌, List, [], ◌∷◌, ◌++◌, length, get_or, take, drop, refl, sym, ◌∙◌, ap, subst, arith, length-append, length-drop}
use Rattle.std.specs.Prelude.{slice_range}
use Rattle.std.proofs.lemmas.Bool.{cases_lt}
use Rattle.std.proofs.lemmas.List.{take_at, drop_at, ext_get_or, get_or-take, get_or-drop, get_or_append_left, get_or-append_right, length-take, length-take-le, drop-drop, drop-take, take-take}
use Rattle.disk.specs.Device.{State, IsCovered, MayLeave, overwritten, SameOutside, IsWrite}
use Rattle.disk.specs.Laws.{IsWithin}

-- a place is before a range, in it or behind it
pub sides : (at count place : ℕ) → (place < at) ⊎ (IsWithin at count place ⊎ (at + count ≤ place))
sides at count place = elim (cases_lt place at) [
  | inl before ↦ inl before
  | inr from ↦ elim (cases_lt place (at + count)) [ inl within ↦ inr (inl (from, within)) | inr behind ↦ inr (inr behind) ]
]

-- outside the range the bytes are the same
pub same_at : (at count : ℕ) (old new : List ℕ) → SameOutside at count old new → (place : ℕ) → ¬ IsWithin at count place → get_or new place 0 ≡ get_or old place 0
same_at at count old new same place outside = elim (sides at count place) [
  | inl before ↦ sym (get_or-take at new place 0 before) ∙ ap (λ (l : List ℕ). get_or l place 0) same.before ∙ get_or-take at old place 0 before
  | inr (inl within) ↦ absurd (outside within)
  | inr (inr behind) ↦
      let here : at + count + (place - (at + count)) ≡ place = omega arith in
      ap (λ k. get_or new k 0) (sym here) ∙ sym (get_or-drop (at + count) new (place - (at + count)) 0)
      ∙ ap (λ (l : List ℕ). get_or l (place - (at + count)) 0) same.after
      ∙ get_or-drop (at + count) old (place - (at + count)) 0 ∙ ap (λ k. get_or old k 0) here
]

pub length_overwritten : (old : List ℕ) (at : ℕ) (bytes : List ℕ) → at + length bytes ≤ length old → length (overwritten old at bytes) ≡ length old
length_overwritten old at bytes fits =
    omega (arith, length-append (take at old) (bytes ++ drop (at + length bytes) old), length-append bytes (drop (at + length bytes) old), length-drop (at + length bytes) old, length-take-le at old (omega arith))

-- the bytes before stay
pub take_overwritten : (old : List ℕ) (at : ℕ) (bytes : List ℕ) → at ≤ length old → take at (overwritten old at bytes) ≡ take at old
take_overwritten old at bytes fits = take_at (take at old) (bytes ++ drop (at + length bytes) old) at (length-take-le at old fits)

-- from the place on there are the bytes, and then the old ones
pub drop_overwritten : (old : List ℕ) (at : ℕ) (bytes : List ℕ) → at ≤ length old → drop at (overwritten old at bytes) ≡ bytes ++ drop (at + length bytes) old
drop_overwritten old at bytes fits = drop_at (take at old) (bytes ++ drop (at + length bytes) old) at (length-take-le at old fits)

-- the bytes behind stay
pub rest-overwritten : (old : List ℕ) (at : ℕ) (bytes : List ℕ) → at ≤ length old → drop (at + length bytes) (overwritten old at bytes) ≡ drop (at + length bytes) old
rest-overwritten old at bytes fits =
    sym (drop-drop (length bytes) at (overwritten old at bytes)) ∙ ap (λ (l : List ℕ). drop (length bytes) l) (drop_overwritten old at bytes fits)
    ∙ drop_at bytes (drop (at + length bytes) old) (length bytes) refl

-- the range holds the bytes
pub slice_range-overwritten : (old : List ℕ) (at : ℕ) (bytes : List ℕ) → at ≤ length old → slice_range (overwritten old at bytes) at (at + length bytes) ≡ bytes
slice_range-overwritten old at bytes fits =
    let long : at + length bytes - at ≡ length bytes = omega arith in
    ap (λ (l : List ℕ). take (at + length bytes - at) l) (drop_overwritten old at bytes fits) ∙ take_at bytes (drop (at + length bytes) old) (at + length bytes - at) (sym long)

-- a good write changes its range alone
pub overwritten_same_outside : (old : List ℕ) (at : ℕ) (bytes : List ℕ) → at + length bytes ≤ length old → SameOutside at (length bytes) old (overwritten old at bytes)
overwritten_same_outside old at bytes fits = record {
  same_length = length_overwritten old at bytes fits;
  before = take_overwritten old at bytes (omega arith);
  after = rest-overwritten old at bytes (omega arith);
}

-- a place of the range holds the byte written there
pub byte_overwritten : (old : List ℕ) (at : ℕ) (bytes : List ℕ) (place : ℕ) → at ≤ length old → IsWithin at (length bytes) place → get_or (overwritten old at bytes) place 0 ≡ get_or bytes (place - at) 0
byte_overwritten old at bytes place fits within =
    get_or-append_right (take at old) (bytes ++ drop (at + length bytes) old) at place 0 (length-take-le at old fits) within.0
    ∙ get_or_append_left bytes (drop (at + length bytes) old) 0 (place - at) (omega arith)

-- lists of one length that agree outside a range
pub same_outside : (at count : ℕ) (old new : List ℕ) → length new ≡ length old → ((place : ℕ) → ¬ IsWithin at count place → get_or new place 0 ≡ get_or old place 0) → SameOutside at count old new
same_outside at count old new long agree = record {
  same_length = long;
  before = ext_get_or 0 (take at new) (take at old) (omega (arith, length-take at new, length-take at old)) (λ place inside.
      let here : place < at = omega (arith, length-take at new) in
      get_or-take at new place 0 here ∙ agree place (λ within. absurd (omega arith)) ∙ sym (get_or-take at old place 0 here));
  after = ext_get_or 0 (drop (at + count) new) (drop (at + count) old) (omega (arith, length-drop (at + count) new, length-drop (at + count) old)) (λ place inside.
      get_or-drop (at + count) new place 0 ∙ agree (at + count + place) (λ within. absurd (omega arith)) ∙ sym (get_or-drop (at + count) old place 0));
}

-- what agrees outside a range agrees outside a wider one
pub same_outside_wider : (at size within count : ℕ) (old new : List ℕ) → at ≤ within → within + count ≤ at + size → SameOutside within count old new → SameOutside at size old new
same_outside_wider at size within count old new from to same = record {
  same_length = same.same_length;
  before = sym (take-take at within new from) ∙ ap (λ (l : List ℕ). take at l) same.before ∙ take-take at within old from;
  after =
      let end : within + count + (at + size - (within + count)) ≡ at + size = omega arith in
      ap (λ k. drop k new) (sym end) ∙ sym (drop-drop (at + size - (within + count)) (within + count) new)
      ∙ ap (λ (l : List ℕ). drop (at + size - (within + count)) l) same.after
      ∙ drop-drop (at + size - (within + count)) (within + count) old ∙ ap (λ k. drop k old) end;
}

-- one change in a range after another
pub same_outside_then : (at size : ℕ) (a b c : List ℕ) → SameOutside at size a b → SameOutside at size b c → SameOutside at size a c
same_outside_then at size a b c first second = record {
  same_length = second.same_length ∙ first.same_length;
  before = second.before ∙ first.before;
  after = second.after ∙ first.after;
}

-- a range more covers its places
pub covered_here : (at count place : ℕ) (ranges : List (ℕ × ℕ)) → IsWithin at count place → IsCovered ((at, count) ∷ ranges) place
covered_here at count place ranges within = (0, (at, count), omega arith, refl, within)

pub covered_there : (range : ℕ × ℕ) (place : ℕ) (ranges : List (ℕ × ℕ)) → IsCovered ranges place → IsCovered (range ∷ ranges) place
covered_there range place ranges there = (suc there.0, there.1, omega (arith, there.2), there.3, there.4)

-- a place that is covered with one range more lies in it or was covered before
pub covered_by : (at count place : ℕ) (ranges : List (ℕ × ℕ)) → IsCovered ((at, count) ∷ ranges) place → IsWithin at count place ⊎ IsCovered ranges place
covered_by at count place ranges (zero, range, inside, is, within) = inl (subst (λ (r : ℕ × ℕ). IsWithin r.0 r.1 place) (sym is) within)
covered_by at count place ranges (suc k, range, inside, is, within) = inr (k, range, omega arith, is, within)

pub not_covered : (place : ℕ) → ¬ IsCovered [] place
not_covered place covered = absurd (omega (arith, covered.2))

-- what a read gives is one of the contents that a crash may leave
pub leaves_seen : (state : State) → MayLeave state state.seen
leaves_seen state = record { same_length = refl; outside = λ place open_place. refl }

-- and in a synced state it is the only one
pub synced_leaves : (state : State) (content : List ℕ) → state.unsynced ≡ [] → MayLeave state content → content ≡ state.seen
synced_leaves state content synced left =
    ext_get_or 0 content state.seen left.same_length (λ place inside. left.outside place (λ covered. not_covered place (subst (λ (ranges : List (ℕ × ℕ)). IsCovered ranges place) synced covered)))

-- after a write, good or torn, a crash may leave what it might have left before, with any bytes in the range
pub leaves_opened : (at count : ℕ) (old new : State) (content : List ℕ) → at + count ≤ length old.seen → IsWrite at count old new → MayLeave new content → (before : List ℕ) × MayLeave old before × SameOutside at count before content
leaves_opened at count old new content fits opens left = (before, may, same)
  where
    bytes : List ℕ
    bytes = slice_range old.seen at (at + count)

    size : length content ≡ length old.seen
    size = left.same_length ∙ opens.seen.same_length

    long : length bytes ≡ count
    long = length-take-le (at + count - at) (drop at old.seen) (omega (arith, length-drop at old.seen)) ∙ omega arith

    before : List ℕ
    before = overwritten content at bytes

    kept : SameOutside at count content before
    kept = subst (λ n. SameOutside at n content before) long (overwritten_same_outside content at bytes (omega (arith, long, size)))

    same : SameOutside at count before content
    same = record { same_length = sym kept.same_length; before = sym kept.before; after = sym kept.after }

    here : (place : ℕ) → IsWithin at count place → get_or before place 0 ≡ get_or old.seen place 0
    here place within =
        byte_overwritten content at bytes place (omega (arith, size)) (within.0, omega (arith, within.1, long))
        ∙ get_or-take (at + count - at) (drop at old.seen) (place - at) 0 (omega arith)
        ∙ get_or-drop at old.seen (place - at) 0 ∙ ap (λ k. get_or old.seen k 0) (omega arith)

    there : (place : ℕ) → ¬ IsWithin at count place → ¬ IsCovered old.unsynced place → get_or before place 0 ≡ get_or old.seen place 0
    there place outside closed =
        same_at at count content before kept place outside
        ∙ left.outside place (λ covered. ⊎_elim outside closed (covered_by at count place old.unsynced (subst (λ (ranges : List (ℕ × ℕ)). IsCovered ranges place) opens.unsynced covered)))
        ∙ same_at at count old.seen new.seen opens.seen place outside

    may : MayLeave old before
    may = record {
      same_length = kept.same_length ∙ size;
      outside = λ place closed. elim (sides at count place) [
        | inl ahead ↦ there place (λ within. absurd (omega arith)) closed
        | inr (inl within) ↦ here place within
        | inr (inr behind) ↦ there place (λ within. absurd (omega arith)) closed
      ];
    }

-- and nothing else
pub opened_leaves : (at count : ℕ) (old new : State) (content before : List ℕ) → IsWrite at count old new → MayLeave old before → SameOutside at count before content → MayLeave new content
opened_leaves at count old new content before opens left same = record {
  same_length = same.same_length ∙ left.same_length ∙ sym opens.seen.same_length;
  outside = λ place not_open.
      let apart : ¬ IsCovered ((at, count) ∷ old.unsynced) place = λ covered. not_open (subst (λ (ranges : List (ℕ × ℕ)). IsCovered ranges place) (sym opens.unsynced) covered) in
      let not_within : ¬ IsWithin at count place = λ within. apart (covered_here at count place old.unsynced within) in
      same_at at count before content same place not_within ∙ left.outside place (λ covered. apart (covered_there (at, count) place old.unsynced covered)) ∙ sym (same_at at count old.seen new.seen opens.seen place not_within);
}

-- a range before a place is what it was, where all before the place is
pub range_before : (p n q : ℕ) (old new : List ℕ) → p + n ≤ q → take q new ≡ take q old → take n (drop p new) ≡ take n (drop p old)
range_before p n q old new ends same =
    let part : (l : List ℕ) → take n (drop p l) ≡ drop p (take (p + n) (take q l)) =
    λ l. sym (drop-take p n l) ∙ ap (λ (m : List ℕ). drop p m) (sym (take-take (p + n) q l ends)) in
    part new ∙ ap (λ (l : List ℕ). drop p (take (p + n) l)) same ∙ sym (part old)
