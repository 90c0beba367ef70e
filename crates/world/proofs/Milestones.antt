-- What an opening gives is what the order makes of the start, each document from its milestone on.
use Rattle.std.proofs.Common.{◌≡◌, ℕ, zero, suc, ◌+◌, ◌-◌, ◌≤◌, ◌<◌, true, List, [], ◌∷◌, length, drop, get_or, Option, Some, None, refl, sym, ap, ap₂, ◌∙◌, subst, arith}
use Rattle.std.specs.Prelude.{◌&&◌, nat_le, max, min, slice_get}
use Rattle.std.proofs.lemmas.List.{at_drop_more}
use Rattle.std.proofs.lemmas.Bool.{le-leb}
use Rattle.revision.specs.Command.{Taken}
use Rattle.revision.specs.declared.step.Step.{Step}
use Rattle.revision.specs.declared.step.Step.TheVariants.{Edits, Deletes, Revives}
use Rattle.revision.specs.Past.{Change, Past, newest, empty_past, from_floor, with_change, with_step}
use Rattle.revision.specs.State.{Limits, DocumentRecord, State, revision_of, change_of, last_of_all, record_by_name, set_document, fold}
use Rattle.revision.specs.Floors.{longer, raised, raised_each}
use Rattle.revision.specs.Agree.{DocumentsAgree, PlacesAgree, Agree}
use Rattle.revision.proofs.CallerLemmas.{from_twice, from_newest}
use Rattle.world.specs.World.{last_composed}
use Rattle.world.specs.Step.{whole, with_floors, may_pick}
use Rattle.world.specs.Stepping.{floors_of, recovered, are_reached}
use Rattle.world.proofs.Pasts.{newest-from_floor, content-from_floor, sources-from_floor, newest-with_step}
use Rattle.world.proofs.Cutting.{IsCut, cut-itself, cut-floor, cut-change, same-turned, equal-cut}
use Rattle.world.proofs.Agreeing.{limits-fold}
use Rattle.std.proofs.Math.Bool.{and-true}

-- of two that are cut from one past, the one of the higher floor is cut from the other
cut-within : (past a b : Past) → IsCut past a → IsCut past b → a.floor ≤ b.floor → IsCut a b
cut-within past a b first second le = record {
  low = le;
  high = omega (arith, second.high, number);
  is = second.is ∙ (sym (from_twice past a.floor b.floor first.low le) ∙ ap (λ p. from_floor p b.floor) (sym first.is));
}
  where
    number : newest a ≡ newest past
    number = ap newest first.is ∙ from_newest past a.floor first.low first.high

-- A record that lets go of what lies `keep` below its revision, and one that lets go of nothing but by deletions and creations again.
record Behind (keep : ℕ) (all made : DocumentRecord) : Type 0 where
  pub name : made.name ≡ all.name
  pub cut : IsCut all.past made.past
  pub floor : made.past.floor ≡ max all.past.floor (newest made.past - keep)

same_newest : (keep : ℕ) (all made : DocumentRecord) → Behind keep all made → newest made.past ≡ newest all.past
same_newest keep all made behind = ap newest behind.cut.is ∙ from_newest all.past made.past.floor behind.cut.low behind.cut.high

behind-change : (keep : ℕ) (all made : DocumentRecord) (change : Change) → keep ≤ last_of_all → Behind keep all made
    → Behind keep (record all { past = with_change last_of_all all.past change }) (record made { past = with_change keep made.past change })
behind-change keep all made change few behind = record {
  name = behind.name;
  cut = cut-within (longer all.past change) (with_change last_of_all all.past change) (with_change keep made.past change)
      (cut-change last_of_all all.past all.past change (cut-itself all.past)) (cut-change keep all.past made.past change behind.cut)
      (omega (arith, behind.cut.low, few, same));
  floor = omega (arith, behind.floor, few, same, newest-with_step keep made.past Edits change);
}
  where
    same : newest made.past ≡ newest all.past
    same = same_newest keep all made behind

-- the same of each step
behind-step : (keep : ℕ) (all made : DocumentRecord) (step : Step) (change : Change) → keep ≤ last_of_all → Behind keep all made
    → Behind keep (record all { past = with_step last_of_all all.past step change }) (record made { past = with_step keep made.past step change })
behind-step keep all made Edits change few behind = behind-change keep all made change few behind
behind-step keep all made Deletes change few behind = record {
  name = behind.name;
  cut = equal-cut _ _ (same-turned all.past made.past Deletes change behind.cut);
  floor = omega (arith, same_newest keep all made behind);
}
behind-step keep all made Revives change few behind = record {
  name = behind.name;
  cut = equal-cut _ _ (same-turned all.past made.past Revives change behind.cut);
  floor = omega (arith, same_newest keep all made behind);
}

behind-begun : (keep : ℕ) (name : List ℕ) → Behind keep (record { name = name; past = empty_past }) (record { name = name; past = empty_past })
behind-begun keep name = record { name = refl; cut = cut-itself empty_past; floor = omega arith }

abbrev BehindOption : ℕ → Option DocumentRecord → Option DocumentRecord → Type 0
BehindOption keep None None = Unit {0}
BehindOption keep None (Some made) = ⊥
BehindOption keep (Some all) None = ⊥
BehindOption keep (Some all) (Some made) = Behind keep all made

abbrev BehindAll : ℕ → List DocumentRecord → List DocumentRecord → Type 0
BehindAll keep [] [] = Unit {0}
BehindAll keep [] (made ∷ others) = ⊥
BehindAll keep (all ∷ more) [] = ⊥
BehindAll keep (all ∷ more) (made ∷ others) = Behind keep all made × BehindAll keep more others

behind-at : (keep : ℕ) (all made : List DocumentRecord) → BehindAll keep all made → (n : ℕ) → BehindOption keep (slice_get all n) (slice_get made n)
behind-at keep [] [] behind n = tt
behind-at keep [] (made ∷ others) behind n = absurd behind
behind-at keep (first ∷ more) [] behind n = absurd behind
behind-at keep (first ∷ more) (made ∷ others) behind zero = behind.0
behind-at keep (first ∷ more) (made ∷ others) behind (suc n) = behind-at keep more others behind.1 n

behind-set : (keep n : ℕ) (whole_one made_one : Option DocumentRecord) (all made : List DocumentRecord) → BehindOption keep whole_one made_one → BehindAll keep all made
    → BehindAll keep (set_document n whole_one all) (set_document n made_one made)
behind-set keep zero None None all made one behind = behind
behind-set keep (suc n) None None all made one behind = behind
behind-set keep n None (Some m) all made one behind = absurd one
behind-set keep n (Some w) None all made one behind = absurd one
behind-set keep zero (Some w) (Some m) [] [] one behind = (one, tt)
behind-set keep (suc n) (Some w) (Some m) [] [] one behind = tt
behind-set keep n (Some w) (Some m) [] (second ∷ others) one behind = absurd behind
behind-set keep n (Some w) (Some m) (first ∷ more) [] one behind = absurd behind
behind-set keep zero (Some w) (Some m) (first ∷ more) (second ∷ others) one behind = (one, behind.1)
behind-set keep (suc n) (Some w) (Some m) (first ∷ more) (second ∷ others) one behind = (behind.0, behind-set keep n (Some w) (Some m) more others one behind.1)

behind-next : (keep : ℕ) (all made : Option DocumentRecord) (taken : Taken) (name : Option (List ℕ)) → keep ≤ last_of_all → BehindOption keep all made
    → BehindOption keep (record_by_name last_of_all all taken name) (record_by_name keep made taken name)
behind-next keep None None taken None few behind = tt
behind-next keep None None taken (Some name) few behind =
    behind-step keep (record { name = name; past = empty_past }) (record { name = name; past = empty_past }) taken.step (change_of taken) few (behind-begun keep name)
behind-next keep None (Some made) taken name few behind = absurd behind
behind-next keep (Some all) None taken name few behind = absurd behind
behind-next keep (Some all) (Some made) taken None few behind = behind-step keep all made taken.step (change_of taken) few behind
behind-next keep (Some all) (Some made) taken (Some name) few behind = behind-step keep all made taken.step (change_of taken) few behind

behind-fold : (limits : Limits) → limits.keep ≤ last_of_all → (all made : List DocumentRecord) (commands : List Taken) → BehindAll limits.keep all made
    → BehindAll limits.keep (fold (record { limits = record limits { keep = last_of_all }; documents = all }) commands).documents
    (fold (record { limits = limits; documents = made }) commands).documents
behind-fold limits few all made [] behind = behind
behind-fold limits few all made (first ∷ others) behind =
    behind-fold limits few (set_document first.document (record_by_name last_of_all (slice_get all first.document) first first.name) all)
    (set_document first.document (record_by_name limits.keep (slice_get made first.document) first first.name) made) others
    (behind-set limits.keep first.document (record_by_name last_of_all (slice_get all first.document) first first.name)
    (record_by_name limits.keep (slice_get made first.document) first first.name) all made
    (behind-next limits.keep (slice_get all first.document) (slice_get made first.document) first first.name few (behind-at limits.keep all made behind first.document)) behind)

-- A record that may be held from a milestone on, with the one that lets go of what lies `keep` below its revision, and one that lets go of
-- nothing but by deletions and creations again.
record Held (keep : ℕ) (all made held : DocumentRecord) : Type 0 where
  pub name : held.name ≡ all.name
  pub cut : IsCut all.past held.past
  pub floor : made.past.floor ≡ max all.past.floor (newest held.past - keep)

held-newest : (keep : ℕ) (all made held : DocumentRecord) → Held keep all made held → newest held.past ≡ newest all.past
held-newest keep all made held is = ap newest is.cut.is ∙ from_newest all.past held.past.floor is.cut.low is.cut.high

behind-held : (keep : ℕ) (all made : DocumentRecord) → Behind keep all made → Held keep all made made
behind-held keep all made behind = record { name = behind.name; cut = behind.cut; floor = behind.floor }

raised-held : (keep milestone : ℕ) (all made : DocumentRecord) → Behind keep all made → Held keep all made (record made { past = raised milestone made.past })
raised-held keep milestone all made behind = record {
  name = behind.name;
  cut = cut-floor all.past made.past (max made.past.floor (min milestone (newest made.past))) (omega arith) (omega arith) behind.cut;
  floor = omega (arith, behind.floor, same);
}
  where
    same : newest (raised milestone made.past) ≡ newest made.past
    same = from_newest made.past (max made.past.floor (min milestone (newest made.past))) (omega arith) (omega arith)

abbrev HeldAll : ℕ → List DocumentRecord → List DocumentRecord → List DocumentRecord → Type 0
HeldAll keep [] [] [] = Unit {0}
HeldAll keep [] [] (held ∷ more) = ⊥
HeldAll keep [] (made ∷ others) held = ⊥
HeldAll keep (all ∷ rest) [] held = ⊥
HeldAll keep (all ∷ rest) (made ∷ others) [] = ⊥
HeldAll keep (all ∷ rest) (made ∷ others) (held ∷ more) = Held keep all made held × HeldAll keep rest others more

held-each : (keep : ℕ) (milestones : List ℕ) (all made : List DocumentRecord) → BehindAll keep all made → HeldAll keep all made (raised_each milestones made)
held-each keep [] [] [] behind = tt
held-each keep (milestone ∷ later) [] [] behind = tt
held-each keep milestones [] (made ∷ others) behind = absurd behind
held-each keep milestones (first ∷ more) [] behind = absurd behind
held-each keep [] (first ∷ more) (made ∷ others) behind = (behind-held keep first made behind.0, held-each keep [] more others behind.1)
held-each keep (milestone ∷ later) (first ∷ more) (made ∷ others) behind =
    (raised-held keep milestone first made behind.0, held-each keep later more others behind.1)

between : (low floor most most' high : ℕ) → low ≤ floor → floor ≤ high → most ≡ most' → ((nat_le low floor && nat_le floor most) && nat_le floor high) ≡ nat_le floor most'
between low floor most most' high above within same =
    ap (λ b. (b && nat_le floor most) && nat_le floor high) (le-leb low floor above)
    ∙ (ap (λ b. nat_le floor most && b) (le-leb floor high within) ∙ (and-true (nat_le floor most) ∙ ap (nat_le floor) same))

held-picks : (keep : ℕ) (composed : List (ℕ × ℕ)) (number : ℕ) (all made held : List DocumentRecord) → HeldAll keep all made held
    → may_pick keep composed number all (floors_of held) ≡ are_reached composed number made held
held-picks keep composed number [] [] [] is = refl
held-picks keep composed number [] [] (held ∷ more) is = absurd is
held-picks keep composed number [] (made ∷ others) held is = absurd is
held-picks keep composed number (first ∷ rest) [] held is = absurd is
held-picks keep composed number (first ∷ rest) (made ∷ others) [] is = absurd is
held-picks keep composed number (first ∷ rest) (made ∷ others) (held ∷ more) is =
    ap₂ (λ a b. a && b)
    (between first.past.floor held.past.floor (max first.past.floor (max (last_composed number composed) (revision_of first - keep)))
    (max made.past.floor (last_composed number composed)) (revision_of first) is.0.cut.low is.0.cut.high (omega (arith, is.0.floor, same)))
    (held-picks keep composed (number + 1) rest others more is.1)
  where
    same : newest held.past ≡ newest first.past
    same = held-newest keep first made held is.0

held-floors : (keep : ℕ) (all made held : List DocumentRecord) → HeldAll keep all made held → with_floors all (floors_of held) ≡ held
held-floors keep [] [] [] is = refl
held-floors keep [] [] (held ∷ more) is = absurd is
held-floors keep [] (made ∷ others) held is = absurd is
held-floors keep (first ∷ rest) [] held is = absurd is
held-floors keep (first ∷ rest) (made ∷ others) [] is = absurd is
held-floors keep (first ∷ rest) (made ∷ others) (held ∷ more) is =
    λ i. record { name = sym is.0.name i; past = sym is.0.cut.is i } ∷ held-floors keep rest others more is.1 i

module _ (start : State) (none : start.documents ≡ []) (few : start.limits.keep ≤ last_of_all) (commands : List Taken) (milestones : List ℕ) where
  held : HeldAll start.limits.keep (whole start commands).documents (fold start commands).documents (recovered start commands milestones).documents
  held = held-each start.limits.keep milestones (whole start commands).documents (fold start commands).documents
      (behind-fold start.limits few start.documents start.documents commands (subst (λ d. BehindAll start.limits.keep d d) (sym none) tt))

  -- an opening may pick its floors exactly where they are reached
  pub recovered_picks : (composed : List (ℕ × ℕ))
      → may_pick start.limits.keep composed 0 (whole start commands).documents (floors_of (recovered start commands milestones).documents)
      ≡ are_reached composed 0 (fold start commands).documents (recovered start commands milestones).documents
  recovered_picks composed =
      held-picks start.limits.keep composed 0 (whole start commands).documents (fold start commands).documents (recovered start commands milestones).documents held

  -- and with them it is what an opening gives
  pub recovered_state : record start { documents = with_floors (whole start commands).documents (floors_of (recovered start commands milestones).documents) }
      ≡ recovered start commands milestones
  recovered_state = λ i. record {
    limits = sym (limits-fold start commands) i;
    documents = held-floors start.limits.keep (whole start commands).documents (fold start commands).documents (recovered start commands milestones).documents held i;
  }

-- what is held from milestones on agrees with what is held from lower revisions on
raised-agrees : (milestone : ℕ) (d : DocumentRecord) → DocumentsAgree (record d { past = raised milestone d.past }) d
raised-agrees milestone d = record {
  name = refl;
  revision = newest-from_floor d.past floor low high;
  content = content-from_floor d.past floor low high;
  sources = sources-from_floor d.past floor low high;
  past = λ later above _ _. from_twice d.past floor later low above;
}
  where
    floor : ℕ
    floor = max d.past.floor (min milestone (newest d.past))

    low : d.past.floor ≤ floor
    low = omega arith

    high : floor ≤ newest d.past
    high = omega arith

places-agree : (milestones : List ℕ) (documents : List DocumentRecord) (n : ℕ) → PlacesAgree (slice_get (raised_each milestones documents) n) (slice_get documents n)
places-agree [] documents n = same-place (slice_get documents n)
  where
    same-place : (d : Option DocumentRecord) → PlacesAgree d d
    same-place None = tt
    same-place (Some d) = record { name = refl; revision = refl; content = refl; sources = refl; past = λ floor _ _ _. refl }
places-agree (milestone ∷ later) [] zero = tt
places-agree (milestone ∷ later) [] (suc n) = tt
places-agree (milestone ∷ later) (first ∷ others) zero = raised-agrees milestone first
places-agree (milestone ∷ later) (first ∷ others) (suc n) = places-agree later others n

pub recovered_agrees : (start : State) (commands : List Taken) (milestones : List ℕ) → Agree (recovered start commands milestones) (fold start commands)
recovered_agrees start commands milestones = record { limits = refl; documents = places-agree milestones (fold start commands).documents }

-- the test, as it continues with the next document
pub reached-step : (composed : List (ℕ × ℕ)) (number : ℕ) (made held : List DocumentRecord) (m h : DocumentRecord) → number < length made → number < length held
    → m ≡ get_or made number m → h ≡ get_or held number h
    → are_reached composed number (drop number made) (drop number held)
    ≡ (nat_le h.past.floor (max m.past.floor (last_composed number composed)) && are_reached composed (number + 1) (drop (number + 1) made) (drop (number + 1) held))
reached-step composed number made held m h in_made in_held m_is h_is =
    at_drop_more (λ l. are_reached composed number l (drop number held)) made number m in_made
    ∙ (ap (λ x. are_reached composed number (x ∷ drop (number + 1) made) (drop number held)) (sym m_is)
    ∙ (at_drop_more (λ l. are_reached composed number (m ∷ drop (number + 1) made) l) held number h in_held
    ∙ ap (λ x. are_reached composed number (m ∷ drop (number + 1) made) (x ∷ drop (number + 1) held)) (sym h_is)))

-- it ends with either of the lists
pub reached-none : (composed : List (ℕ × ℕ)) (number : ℕ) (made : List DocumentRecord) → are_reached composed number made [] ≡ true
reached-none composed number [] = refl
reached-none composed number (first ∷ others) = refl

pub reached-end : (composed : List (ℕ × ℕ)) (number from : ℕ) (made held : List DocumentRecord) → min (length made) (length held) ≤ from
    → are_reached composed number (drop from made) (drop from held) ≡ true
reached-end composed number zero [] held ended = refl
reached-end composed number zero (first ∷ others) [] ended = refl
reached-end composed number zero (first ∷ others) (one ∷ more) ended = absurd (omega (arith, ended))
reached-end composed number (suc from) [] held ended = refl
reached-end composed number (suc from) (first ∷ others) [] ended = reached-none composed number (drop from others)
reached-end composed number (suc from) (first ∷ others) (one ∷ more) ended = reached-end composed number from others more (omega (arith, ended))
