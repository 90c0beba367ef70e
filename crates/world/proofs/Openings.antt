-- An opening shows what the order makes of the start, whichever floors it gives.
use Rattle.std.proofs.Common.{◌≡◌, ℕ, ◌+◌, ◌-◌, ◌≤◌, true, List, [], ◌∷◌, map, refl, ap, ◌∙◌}
use Rattle.std.specs.Prelude.{◌&&◌, nat_le, max}
use Rattle.std.proofs.lemmas.Bool.{and_parts, leb-true}
use Rattle.revision.specs.Command.{Taken}
use Rattle.revision.specs.Past.{from_floor}
use Rattle.revision.specs.State.{DocumentRecord, revision_of, State}
use Rattle.world.specs.World.{last_composed}
use Rattle.world.specs.Step.{keeping_all, whole, with_floors, may_begin_at, may_pick}
use Rattle.world.specs.Shown.{shown, all_shown}
use Rattle.world.proofs.Pasts.{newest-from_floor, content-from_floor, sources-from_floor}
use Rattle.world.proofs.Showing.{fold_shown, shown-fold}

shown-from_floor : (found : DocumentRecord) (floor : ℕ) → found.past.floor ≤ floor → floor ≤ revision_of found
    → shown (record found { past = from_floor found.past floor }) ≡ shown found
shown-from_floor found floor above below = λ i. record {
  name = found.name;
  content = content-from_floor found.past floor above below i;
  revision = newest-from_floor found.past floor above below i;
  sources = sources-from_floor found.past floor above below i;
}

shown-with_floors : (keep : ℕ) (composed : List (ℕ × ℕ)) (number : ℕ) (documents : List DocumentRecord) (floors : List ℕ)
    → may_pick keep composed number documents floors ≡ true → map shown (with_floors documents floors) ≡ map shown documents
shown-with_floors keep composed number [] [] h = refl
shown-with_floors keep composed number [] (floor ∷ floors) h = refl
shown-with_floors keep composed number (first ∷ others) [] h = refl
shown-with_floors keep composed number (first ∷ others) (floor ∷ floors) h =
    let parts = and_parts (may_begin_at keep (last_composed number composed) first floor) (may_pick keep composed (number + 1) others floors) h in
    let tests = and_parts (nat_le first.past.floor floor && nat_le floor (max first.past.floor (max (last_composed number composed) (revision_of first - keep)))) (nat_le floor (revision_of first)) parts.0 in
    let above = leb-true first.past.floor floor (and_parts (nat_le first.past.floor floor) _ tests.0).0 in
    let below = leb-true floor (revision_of first) tests.1 in
    ap (λ d. d ∷ map shown (with_floors others floors)) (shown-from_floor first floor above below)
    ∙ ap (λ l. shown first ∷ l) (shown-with_floors keep composed (number + 1) others floors parts.1)

pub shown-opened : (start : State) (commands : List Taken) (composed : List (ℕ × ℕ)) (floors : List ℕ)
    → may_pick start.limits.keep composed 0 (whole start commands).documents floors ≡ true
    → map shown (with_floors (whole start commands).documents floors) ≡ fold_shown (all_shown start) commands
shown-opened start commands composed floors h =
    shown-with_floors start.limits.keep composed 0 (whole start commands).documents floors h ∙ shown-fold (keeping_all start) commands
