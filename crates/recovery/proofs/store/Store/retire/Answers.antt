use Rattle.std.proofs.Common.{◌≡◌, ◌≤◌, ◌<◌, ◌∙◌, ⊎_elim, inl, inr, ℕ, true, false, List, length, filter, not, ap, subst, sym, rules, refl, arith}
use Rattle.std.specs.Prelude.{Err}
use Rattle.std.proofs.lemmas.Bool.{false≢true}
use Rattle.disk.proofs.CallerLemmas.{leaves_map}
use Rattle.refusal.specs.declared.Refusal.{Refusal}
use Rattle.refusal.specs.declared.Refusal.TheVariants.{StillNeeded}
use Rattle.segments.specs.Numbers.{open_count}
use Rattle.segments.specs.Ring.{known_numbers}
use Rattle.recovery.specs.declared.marks.Mark.{Mark}
use Rattle.recovery.specs.Cells.{lowest_known}
use Rattle.recovery.specs.Marks.{marks_of, is_of, greatest_marked, without_segment}
use Rattle.recovery.specs.Marked.{AreMarked}
use Rattle.recovery.proofs.Commits.{held_now}
use Rattle.recovery.proofs.Faults.{goes_by}
use Rattle.recovery.proofs.Going.{goes_nowhere, goes_unchanged}
use Rattle.recovery.proofs.Marked.{one_oldest, marked_retired}
use Rattle.recovery.proofs.Marking.{fewer_marks}
use Rattle.recovery.proofs.Refusals.{ok≢err}
use Rattle.recovery.proofs.Retirement.{parted, too_few, above_cells, same_number, may_retire, known_covered, runs_on, parts_on, left_retiring}
use Rattle.recovery.proofs.Runs.{unchanged}
use Rattle.recovery.proofs.Upkeep.{cells_later}
use Rattle.recovery.proofs.store.Store.retire.Goals as goal

-- nothing was called
pub returns-then-self-clause-goes : goal.returns-then-self-clause-goes
returns-then-self-clause-goes g c = goes_nowhere c.args.self.now

pub returns-in_default-clause-goes : goal.returns-in_default-clause-goes
returns-in_default-clause-goes g c = goes_unchanged (record { device = refl; shape = refl; ring = refl; cells = refl; marks = refl; jobs = refl; state = refl; failed = refl })

pub returns-then-not-are_covered-clause-goes : goal.returns-then-not-are_covered-clause-goes
returns-then-not-are_covered-clause-goes g c = goes_unchanged (record { device = refl; shape = refl; ring = refl; cells = refl; marks = refl; jobs = refl; state = refl; failed = refl })

-- what stands outside the gate
pub returns-then-self-clause-outside : goal.returns-then-self-clause-outside
returns-then-self-clause-outside g c = inl refl

pub returns-in_default-clause-outside : goal.returns-in_default-clause-outside
returns-in_default-clause-outside g c = inl refl

pub returns-then-not-are_covered-clause-outside : goal.returns-then-not-are_covered-clause-outside
returns-then-not-are_covered-clause-outside g c = inl refl

pub returns-in-Ok-clause-outside : goal.returns-in-Ok-clause-outside
returns-in-Ok-clause-outside g c = c.retire_oldest.ensures.outside

pub returns-in-Err-clause-outside : goal.returns-in-Err-clause-outside
returns-in-Err-clause-outside g c = c.retire_oldest.ensures.outside

-- the store had failed
pub returns-then-self-clause-needed : goal.returns-then-self-clause-needed
returns-then-self-clause-needed g c =
    let failed : c.args.self.now.failed ≡ true = search rules in
    record {
      only = inr refl;
      known = λ works. absurd (false≢true (sym works ∙ failed));
      exact = λ works is_open. absurd (false≢true (sym works ∙ failed));
    }

-- fewer than two slots are open
pub returns-in_default-clause-needed : goal.returns-in_default-clause-needed
returns-in_default-clause-needed g c =
    let few : open_count (known_numbers c.args.self.now.ring) < 2 = search rules in
    record {
      only = inl refl;
      known = λ works. (λ told may. absurd (omega (arith, few, may.two)), λ needed. refl);
      exact = λ works is_open. (λ told. too_few c.args.self.now is_open few, λ needed. refl);
    }

-- a mark is above the cells
pub returns-then-not-are_covered-clause-needed : goal.returns-then-not-are_covered-clause-needed
returns-then-not-are_covered-clause-needed g c =
    let store = c.args.self.now in
    let oldest = c.in-Some.ensures.oldest in
    let above : (document : ℕ) × (lowest_known store.cells.items document < greatest_marked c.in-Some.oldest document (marks_of store.marks)) = search rules in
    record {
      only = inl refl;
      known = λ works. (λ told may. absurd (omega (arith, above.1, may.spared oldest.0 c.in-Some.oldest oldest.1 above.0)), λ needed. refl);
      exact = λ works is_open. (λ told. above_cells store is_open oldest.0 c.in-Some.oldest above.0 oldest.1 above.1, λ needed. refl);
    }

-- none is, and two are open: the segment is retired, or the device fails
pub returns-in-Ok-clause-needed : goal.returns-in-Ok-clause-needed
returns-in-Ok-clause-needed g c =
    let store = c.args.self.now in
    let oldest = c.in-Some.ensures.oldest in
    let low : (document : ℕ) → greatest_marked c.in-Some.oldest document (marks_of store.marks) ≤ lowest_known store.cells.items document = search rules in
    let two : 2 ≤ open_count (known_numbers store.ring) = search rules in
    record {
      only = tt;
      known = λ works. (λ told. absurd (ok≢err _ StillNeeded told), λ needed. absurd (needed (known_covered store c.in-Some.oldest oldest two low)));
      exact = λ works is_open. (
        λ told. absurd (ok≢err _ StillNeeded told),
        λ needed. absurd (needed (may_retire store is_open oldest.0 c.in-Some.oldest oldest.1 low two)),
      );
    }

pub returns-in-Err-clause-needed : goal.returns-in-Err-clause-needed
returns-in-Err-clause-needed g c =
    let store = c.args.self.now in
    let oldest = c.in-Some.ensures.oldest in
    let low : (document : ℕ) → greatest_marked c.in-Some.oldest document (marks_of store.marks) ≤ lowest_known store.cells.items document = search rules in
    let two : 2 ≤ open_count (known_numbers store.ring) = search rules in
    record {
      only = c.in-Err.ensures.refused.only;
      known = λ works. (
        λ told may. absurd (omega (arith, two, c.in-Err.ensures.refused.exact.0 told)),
        λ needed. absurd (needed (known_covered store c.in-Some.oldest oldest two low)),
      );
      exact = λ works is_open. (
        λ told needed. absurd (omega (arith, two, c.in-Err.ensures.refused.exact.0 told)),
        λ needed. absurd (needed (may_retire store is_open oldest.0 c.in-Some.oldest oldest.1 low two)),
      );
    }

-- the segment is gone, and its marks with it
pub returns-in-Ok-clause-retired : goal.returns-in-Ok-clause-retired
returns-in-Ok-clause-retired g c =
    let store = c.args.self.now in
    let oldest = c.in-Some.ensures.oldest in
    let low : (document : ℕ) → greatest_marked c.in-Some.oldest document (marks_of store.marks) ≤ lowest_known store.cells.items document = search rules in
    let places = c.retire_oldest.ensures.slots.places in
    let two : 2 ≤ open_count (known_numbers store.ring) = search rules in
    let works : store.failed ≡ false = search rules in
    record {
      taken = (
        works,
        refl,
        λ is_open.
            let done = c.in-Ok.ensures.retired.done is_open.table is_open.fits in
            let after = done.0 in
            let retired = done.1 in
            let now = done.2 in
            let number = same_number store is_open oldest.0 c.in-Some.oldest oldest.1 low after retired in
            record {
              may = may_retire store is_open oldest.0 c.in-Some.oldest oldest.1 low two;
              retired = record {
                goes_on = record {
                  synced = c.in-Ok.ensures.retired.synced;
                  cells = is_open.cells;
                  table = after;
                  batches = (parted store is_open after retired).left;
                  order = is_open.order;
                  holds = parts_on store is_open oldest.0 c.in-Some.oldest oldest.1 low _ after retired (held_now _ _ store.ring c.retire_oldest.new.self after places now);
                  fits = now.fits;
                  ring_at = places.at ∙ is_open.ring_at;
                  ring_size = places.size ∙ is_open.ring_size;
                  cells_are = is_open.cells_are;
                  cells_fit = cells_later store is_open _ now.outside;
                  marked = subst (λ (m : List Mark). AreMarked after m) (sym c.forget.ensures)
                      (subst (λ n. AreMarked after (filter (λ mark. not (is_of n mark)) (marks_of store.marks))) (sym number)
                      (marked_retired is_open.table after (marks_of store.marks) is_open.fits.holds.differ retired is_open.marked));
                  limits = is_open.limits;
                  runs = runs_on store is_open oldest.0 c.in-Some.oldest oldest.1 low after retired;
                  kept = is_open.kept;
                };
                same_cells = refl;
                retired = retired;
              };
            },
      );
      marks = λ slot segment is.
          c.forget.ensures ∙ ap (λ n. without_segment n (marks_of store.marks)) (one_oldest (known_numbers store.ring) oldest.0 slot c.in-Some.oldest segment oldest.1 is);
    }

-- a crash within the call leaves the segment, or the content without it
pub returns-in-Ok-clause-goes : goal.returns-in-Ok-clause-goes
returns-in-Ok-clause-goes g c =
    let store = c.args.self.now in
    let oldest = c.in-Some.ensures.oldest in
    let low : (document : ℕ) → greatest_marked c.in-Some.oldest document (marks_of store.marks) ≤ lowest_known store.cells.items document = search rules in
    let works : store.failed ≡ false = search rules in
    record {
      any_moment = λ unfailed is_open. leaves_map (left_retiring store is_open oldest.0 c.in-Some.oldest oldest.1 low) (c.retire_oldest.ensures.any_moment is_open.table is_open.synced is_open.fits);
      opens = λ unfailed is_open. ((returns-in-Ok-clause-retired g c).taken.2 is_open).retired.goes_on;
      stays = λ failed. absurd (false≢true (sym works ∙ failed));
    }

pub returns-in-Err-clause-faults : goal.returns-in-Err-clause-faults
returns-in-Err-clause-faults g c = search rules

pub returns-in-Err-clause-goes : goal.returns-in-Err-clause-goes
returns-in-Err-clause-goes g c =
    let store = c.args.self.now in
    let oldest = c.in-Some.ensures.oldest in
    let low : (document : ℕ) → greatest_marked c.in-Some.oldest document (marks_of store.marks) ≤ lowest_known store.cells.items document = search rules in
    let two : 2 ≤ open_count (known_numbers store.ring) = search rules in
    goes_by (Err c.in-Err.refusal) (returns-in-Err-clause-faults g c)
    (λ unfailed is_open. leaves_map (left_retiring store is_open oldest.0 c.in-Some.oldest oldest.1 low) (c.retire_oldest.ensures.any_moment is_open.table is_open.synced is_open.fits)) tt
    (λ other. ⊎_elim (λ is. absurd (omega (arith, two, c.in-Err.ensures.refused.exact.0 (ap (λ (r : Refusal). Err r) is)))) (λ is. absurd (other is)) c.in-Err.ensures.refused.only)

-- what is left where it was refused
pub returns-then-self-clause-left : goal.returns-then-self-clause-left
returns-then-self-clause-left g c = record { ring = refl; marks = refl; untouched = λ is. unchanged c.args.self.now }

pub returns-in_default-clause-left : goal.returns-in_default-clause-left
returns-in_default-clause-left g c = record { ring = refl; marks = refl; untouched = λ is. record { device = refl; shape = refl; ring = refl; cells = refl; marks = refl; jobs = refl; state = refl; failed = refl } }

pub returns-then-not-are_covered-clause-left : goal.returns-then-not-are_covered-clause-left
returns-then-not-are_covered-clause-left g c = record { ring = refl; marks = refl; untouched = λ is. record { device = refl; shape = refl; ring = refl; cells = refl; marks = refl; jobs = refl; state = refl; failed = refl } }

pub returns-in-Err-clause-left : goal.returns-in-Err-clause-left
returns-in-Err-clause-left g c =
    let store = c.args.self.now in
    let two : 2 ≤ open_count (known_numbers store.ring) = search rules in
    record {
      ring = search rules;
      marks = refl;
      untouched = λ is. absurd (omega (arith, two, c.in-Err.ensures.refused.exact.0 (ap (λ (r : Refusal). Err r) is)));
    }

pub returns-in-Ok-clause-stays : goal.returns-in-Ok-clause-stays
returns-in-Ok-clause-stays g c = record {
  state = refl;
  cells = refl;
  jobs = refl;
  no_more_marks = omega (arith, ap (λ (l : List Mark). length l) c.forget.ensures, fewer_marks c.in-Some.oldest (marks_of c.args.self.now.marks));
}
