use Rattle.std.proofs.Common.{◌≡◌, ◌≤◌, ◌/◌, ◌∙◌, inl, inr, List, length, refl, sym, ap, rules, arith}
use Rattle.std.specs.Prelude.{Err, [], ◌∷◌}
use Rattle.refusal.specs.Refusal.{IsOneOf}
use Rattle.refusal.specs.declared.Refusal.{Refusal}
use Rattle.refusal.specs.declared.Refusal.TheVariants.{StillNeeded, NoMemory, Fault}
use Rattle.segments.specs.Numbers.{open_count}
use Rattle.segments.specs.Ring.{known_numbers}
use Rattle.milestone.specs.Job.{Job}
use Rattle.recovery.specs.declared.marks.Mark.{Mark}
use Rattle.recovery.specs.Freed.{HasFew, IsUnfreed, bytes_for, most_bytes}
use Rattle.recovery.specs.Marks.{within_segment}
use Rattle.recovery.specs.Open.{known_marks}
use Rattle.recovery.specs.Retiring.{IsUnretired}
use Rattle.recovery.proofs.FullGroups.{syncs_none, syncs_half, syncs_all}
use Rattle.recovery.proofs.Going.{goes_nowhere, goes_same}
use Rattle.recovery.proofs.Faults.{faults_on}
use Rattle.recovery.proofs.CellsAlone.{cells_still, only_cells, only_then}
use Rattle.recovery.proofs.Covering.{may_go, freed_by}
use Rattle.recovery.proofs.Freed.{keeps_others_none, costs_none, unfreed_none, no_memory, needed_or_fault}
use Rattle.recovery.proofs.Marked.{one_oldest}
use Rattle.recovery.proofs.PutAtOnce.{retired_now, retired_marks}
use Rattle.recovery.proofs.Raising.{marks_gone}
use Rattle.recovery.proofs.Refusals.{if_err, on_ok_by, of_if_err, of_ok}
use Rattle.recovery.proofs.SparedJobs.{spared_then, spared_oldest}
use Rattle.recovery.proofs.store.Store.free_oldest.Goals as goal

-- the store had failed
pub returns-then-self-clause-refused : goal.returns-then-self-clause-refused
returns-then-self-clause-refused g c =
    unfreed_none Fault c.args.self.now (inr refl) (λ is. let none : ⊥ = cc in absurd none)

pub returns-then-self-clause-others : goal.returns-then-self-clause-others
returns-then-self-clause-others g c = keeps_others_none c.args.self.now

pub returns-then-self-clause-outside : goal.returns-then-self-clause-outside
returns-then-self-clause-outside g c = only_cells c.args.self.now c.args.self.now (cells_still c.args.self.now)

pub returns-then-self-clause-costs : goal.returns-then-self-clause-costs
returns-then-self-clause-costs g c = costs_none 2 c.args.self.now

pub returns-then-self-clause-syncs : goal.returns-then-self-clause-syncs
returns-then-self-clause-syncs g c = syncs_none 2 c.args.self.now

pub returns-then-self-clause-goes : goal.returns-then-self-clause-goes
returns-then-self-clause-goes g c = goes_nowhere c.args.self.now

-- too few slots are open
pub returns-in_default-clause-refused : goal.returns-in_default-clause-refused
returns-in_default-clause-refused g c =
    let few : HasFew c.args.self.now = search rules in
    unfreed_none StillNeeded c.args.self.now (inl refl) (λ is. few)

pub returns-in_default-clause-others : goal.returns-in_default-clause-others
returns-in_default-clause-others g c = keeps_others_none c.args.self.now

pub returns-in_default-clause-outside : goal.returns-in_default-clause-outside
returns-in_default-clause-outside g c = only_cells c.args.self.now c.args.self.now (cells_still c.args.self.now)

pub returns-in_default-clause-costs : goal.returns-in_default-clause-costs
returns-in_default-clause-costs g c = costs_none 2 c.args.self.now

pub returns-in_default-clause-syncs : goal.returns-in_default-clause-syncs
returns-in_default-clause-syncs g c = syncs_none 2 c.args.self.now

pub returns-in_default-clause-goes : goal.returns-in_default-clause-goes
returns-in_default-clause-goes g c = goes_nowhere c.args.self.now

-- milestones were given up
pub returns-in-Err-clause-refused : goal.returns-in-Err-clause-refused
returns-in-Err-clause-refused g c = record {
  only = c.in-Err.ensures.only;
  ring = c.cover_segment.ensures.keeps.ring;
  marks = c.cover_segment.ensures.keeps.marks;
  needed = λ is is_open. absurd (c.in-Err.ensures.needed (ap (λ (r : Refusal). Err r) is) is_open);
  half = λ memory. c.in-Err.ensures.half (λ fault. let same : NoMemory ≡ Fault = sym memory ∙ fault in cc);
}

pub returns-in-Err-clause-others : goal.returns-in-Err-clause-others
returns-in-Err-clause-others g c =
    let store = c.args.self.now in
    let found = c.in-Some.ensures.oldest in
    record {
      jobs = λ is_open slot segment oldest.
          spared_oldest store c.cover_segment.new.self found.0 c.in-Some.oldest slot segment found.1 oldest (c.cover_segment.ensures.jobs is_open);
      no_more = c.cover_segment.ensures.no_more_jobs;
    }

pub returns-in-Err-clause-outside : goal.returns-in-Err-clause-outside
returns-in-Err-clause-outside g c = only_cells c.args.self.now c.cover_segment.new.self c.cover_segment.ensures.outside

pub returns-in-Err-clause-costs : goal.returns-in-Err-clause-costs
returns-in-Err-clause-costs g c =
    let store = c.args.self.now in
    let found = c.in-Some.ensures.oldest in
    record {
      by_segment = λ slot segment oldest.
          let same = one_oldest (known_numbers store.ring) found.0 slot c.in-Some.oldest segment found.1 oldest in
          omega (arith, c.cover_segment.ensures.calls, ap (λ n. length (within_segment n (known_marks store))) same);
      by_marks = omega (arith, c.cover_segment.ensures.calls_by_marks);
    }

pub returns-in-Err-clause-syncs : goal.returns-in-Err-clause-syncs
returns-in-Err-clause-syncs g c =
    let store = c.args.self.now in
    let found = c.in-Some.ensures.oldest in
    let syncs = c.cover_segment.ensures.syncs in
    record {
      by_bytes = λ slot segment oldest.
          let same = one_oldest (known_numbers store.ring) found.0 slot c.in-Some.oldest segment found.1 oldest in
          omega (
            arith,
            syncs_half store c.cover_segment.new.self c.in-Some.oldest syncs.0 syncs.1 syncs.2,
            ap (λ n. bytes_for n store / most_bytes) same,
          );
    }

pub returns-in-Err-clause-no_more_marks : goal.returns-in-Err-clause-no_more_marks
returns-in-Err-clause-no_more_marks g c = omega (arith, ap (λ (l : List Mark). length l) c.cover_segment.ensures.keeps.marks)

-- nothing needs the oldest segment any more
pub returns-clause-freed : goal.returns-clause-freed
returns-clause-freed g c =
    let store = c.args.self.now in
    let mid = c.cover_segment.new.self in
    let new = c.retire.new.self in
    let oldest = c.in-Some.ensures.oldest in
    on_ok_by c.retire.result
    (λ done is. record {
      now = of_ok c.retire.result done is
          (freed_by store mid new oldest.0 c.in-Some.oldest c.retire.result oldest.1 c.in_default-cover_segment.ensures.covered c.retire.ensures.stays.jobs (retired_now mid new c.retire.result c.retire.ensures.retired));
      marks = of_ok c.retire.result done is (marks_gone store mid new c.retire.result c.cover_segment.ensures.keeps (retired_marks mid new c.retire.result c.retire.ensures.retired));
    })

-- so its retirement isn't refused but for the device
pub returns-clause-refused : goal.returns-clause-refused
returns-clause-refused g c =
    let store = c.args.self.now in
    let mid = c.cover_segment.new.self in
    let new = c.retire.new.self in
    let oldest = c.in-Some.ensures.oldest in
    let two : 2 ≤ open_count (known_numbers store.ring) = search rules in
    if_err (λ e. IsUnfreed e store new) c.retire.result
    (λ e is. record {
      only = needed_or_fault e (of_if_err (λ e. IsOneOf e (StillNeeded ∷ Fault ∷ [])) c.retire.result e is c.retire.ensures.needed.only);
      ring = (of_if_err (λ e. IsUnretired e mid new) c.retire.result e is c.retire.ensures.left).ring ∙ c.cover_segment.ensures.keeps.ring;
      marks = (of_if_err (λ e. IsUnretired e mid new) c.retire.result e is c.retire.ensures.left).marks ∙ c.cover_segment.ensures.keeps.marks;
      needed = λ told is_open.
          let over = c.in_default-cover_segment.ensures.covered is_open in
          absurd ((c.retire.ensures.needed.exact c.in_default-cover_segment.ensures.faults.works over.goes_on).0 (is ∙ ap (λ (r : Refusal). Err r) told)
          (may_go store mid is_open oldest.0 c.in-Some.oldest c.cover_segment.ensures.keeps oldest.1 two over));
      half = λ memory. absurd (no_memory c.retire.result c.retire.ensures.needed.only (is ∙ ap (λ (r : Refusal). Err r) memory));
    })

pub returns-clause-others : goal.returns-clause-others
returns-clause-others g c =
    let store = c.args.self.now in
    let mid = c.cover_segment.new.self in
    let found = c.in-Some.ensures.oldest in
    record {
      jobs = λ is_open slot segment oldest.
          spared_then segment store mid c.retire.new.self
          (spared_oldest store mid found.0 c.in-Some.oldest slot segment found.1 oldest (c.cover_segment.ensures.jobs is_open)) c.retire.ensures.stays.jobs;
      no_more = omega (arith, c.cover_segment.ensures.no_more_jobs, ap (λ (l : List Job). length l) c.retire.ensures.stays.jobs);
    }

pub returns-clause-outside : goal.returns-clause-outside
returns-clause-outside g c =
    only_then c.args.self.now c.cover_segment.new.self c.retire.new.self c.cover_segment.ensures.outside c.cover_segment.ensures.keeps c.retire.ensures.outside

pub returns-clause-costs : goal.returns-clause-costs
returns-clause-costs g c =
    let store = c.args.self.now in
    let found = c.in-Some.ensures.oldest in
    record {
      by_segment = λ slot segment oldest.
          let same = one_oldest (known_numbers store.ring) found.0 slot c.in-Some.oldest segment found.1 oldest in
          omega (arith, c.cover_segment.ensures.calls, c.retire.ensures.calls, ap (λ n. length (within_segment n (known_marks store))) same);
      by_marks = omega (arith, c.cover_segment.ensures.calls_by_marks, c.retire.ensures.calls);
    }

pub returns-clause-syncs : goal.returns-clause-syncs
returns-clause-syncs g c =
    let store = c.args.self.now in
    let found = c.in-Some.ensures.oldest in
    let syncs = c.cover_segment.ensures.syncs in
    record {
      by_bytes = λ slot segment oldest.
          let same = one_oldest (known_numbers store.ring) found.0 slot c.in-Some.oldest segment found.1 oldest in
          omega (
            arith,
            syncs_all store c.cover_segment.new.self c.retire.new.self c.in-Some.oldest syncs.0 syncs.1 syncs.2 c.in_default-cover_segment.ensures.faults.good c.retire.ensures.syncs,
            ap (λ n. bytes_for n store / most_bytes) same,
          );
    }

pub returns-clause-no_more_marks : goal.returns-clause-no_more_marks
returns-clause-no_more_marks g c = omega (arith, c.retire.ensures.stays.no_more_marks, ap (λ (l : List Mark). length l) c.cover_segment.ensures.keeps.marks)

pub returns-clause-faults : goal.returns-clause-faults
returns-clause-faults g c = faults_on c.in_default-cover_segment.field-0 c.retire.result c.in_default-cover_segment.ensures.faults c.retire.ensures.faults

pub returns-clause-goes : goal.returns-clause-goes
returns-clause-goes g c = goes_same c.cover_segment.ensures.keeps.state c.cover_segment.ensures.goes c.retire.ensures.goes

pub returns-clause-state : goal.returns-clause-state
returns-clause-state g c = c.retire.ensures.stays.state ∙ c.cover_segment.ensures.keeps.state
