use Rattle.std.proofs.Common.{◌≡◌, ◌∙◌, ◌<◌, ◌+◌, ℕ, Vec, List, [], ◌∷◌, ◌++◌, false, length, get_or, take, sym, ap, subst}
use Rattle.std.specs.declared.alloc.Global.{Global}
use Rattle.std.proofs.lemmas.List.{length-map}
use Rattle.std.proofs.lemmas.Result.{err_from_is_err_and}
use Rattle.revision.specs.Command.{Taken}
use Rattle.journal.specs.Scan.{items_of}
use Rattle.recovery.specs.Marks.{IsNoted, marks_of}
use Rattle.recovery.specs.Marked.{AreBodiesMarked}
use Rattle.recovery.specs.Found.{SpellBatches}
use Rattle.recovery.specs.steps.Reading.{lists_of, are_below}
use Rattle.recovery.proofs.MarkedRead.{no_bodies, bodies_more, one_noted}
use Rattle.recovery.proofs.Gathering.{AddedBy, SpelledAt, map-at, map-within, map-take-more, batch-same, by-count, by-none, by-more, spelled-at}
use Rattle.recovery.proofs.reading.entries.add_bodies.Goals as goal

abbrev commands_in : Vec Taken Global → List Taken
commands_in v = v.items

abbrev bytes_in : Vec ℕ Global → List ℕ
bytes_in v = v.items

-- the batch that a body spells among those of all
here : (bodies : List (Vec ℕ Global)) (i : ℕ) (item : Vec ℕ Global) (body : List ℕ) (batches : List (List Taken)) → i < length bodies → item ≡ get_or bodies i item
    → body ≡ item.items → SpellBatches (items_of bodies) batches → SpelledAt body batches
here bodies i item body batches lt is same spell =
    spelled-at (items_of bodies) batches i body spell (map-within bytes_in bodies i lt) (map-at bytes_in bodies i item [] lt is ∙ sym same)

pub returns-in_default-clause-damaged : goal.returns-in_default-clause-damaged
returns-in_default-clause-damaged c is batches spell =
    let at = here c.args.bodies.now c.loop-body.body-index c.body-item.result c.deref.result.now batches c.loop-body-test.true c.body-item.is c.deref.ensures.value spell in
    let none = rw c.in_default.is at c.in_ok-batch.ensures.none in
    absurd (none at.commands at.is_batch at.spelled)

pub returns-in_err-add_batch-clause-damaged : goal.returns-in_err-add_batch-clause-damaged
returns-in_err-add_batch-clause-damaged c =
    let p = err_from_is_err_and c.from_residual-in_err-add_batch.result c.from_residual-in_err-add_batch.ensures.1 in
    let read = rw c.in-Some.is at c.in_ok-batch.ensures.found in
    let count = by-count _ (lists_of c.args.lists.now) (lists_of c.loop-body.lists) c.loop-body.invariant.added in
    let long : length c.loop-body.lists ≡ length c.args.lists.now = sym (length-map c.loop-body.lists commands_in) ∙ (count ∙ length-map c.args.lists.now commands_in) in
    rw p.1 (λ is batches spell.
    let at = here c.args.bodies.now c.loop-body.body-index c.body-item.result c.deref.result.now batches c.loop-body-test.true c.body-item.is c.deref.ensures.value spell in
    let same = batch-same c.in-Some.batch.items at.commands read.0 at.is_batch (sym read.1 ∙ at.spelled) in
    at.part (length c.args.lists.now)
    (subst (λ n. are_below n at.commands ≡ false) long
    (subst (λ (l : List Taken). are_below (length c.loop-body.lists) l ≡ false) same (c.in_err-add_batch.ensures.damaged (sym p.2 ∙ is)))))

pub loop-body-init : goal.loop-body-init
loop-body-init c = record {
  added = by-none (lists_of c.args.lists.now);
  marked = no_bodies c.args.number (marks_of c.args.marks.now);
}

pub loop-body-preserved : goal.loop-body-preserved
loop-body-preserved c =
    let i = c.loop-body.body-index in
    let bodies = c.args.bodies.now in
    let body = c.deref.result.now in
    let commands = c.in-Some.batch.items in
    let read = rw c.in-Some.is at c.in_ok-batch.ensures.found in
    let more : items_of (take (i + 1) bodies) ≡ items_of (take i bodies) ++ body ∷ [] =
    map-take-more bytes_in bodies i c.body-item.result c.loop-body-test.true c.body-item.is ∙ ap (λ (b : List ℕ). items_of (take i bodies) ++ b ∷ []) (sym c.deref.ensures.value) in
    let before = marks_of c.loop-body.marks in
    let after = marks_of c.mark_batch.new.marks in
    let noted : IsNoted c.args.number commands before after =
    subst (λ (l : List Taken). IsNoted c.args.number l before after) c.deref-in-loop-body.ensures.value c.in_ok-mark_batch.ensures.noted in
    record {
      added = subst (λ (l : List (List ℕ)). AddedBy l (lists_of c.args.lists.now) (lists_of c.add_batch.new.lists)) (sym more)
          (by-more (items_of (take i bodies)) body commands (lists_of c.args.lists.now) (lists_of c.loop-body.lists) (lists_of c.add_batch.new.lists)
          c.loop-body.invariant.added read.0 read.1 c.in_ok-add_batch.ensures.added);
      marked = subst (λ (l : List (List ℕ)). AreBodiesMarked c.args.number l (marks_of c.args.marks.now) after) (sym more)
          (bodies_more c.args.number (items_of (take i bodies)) (body ∷ []) (marks_of c.args.marks.now) before after c.loop-body.invariant.marked
          (one_noted c.args.number body commands before after read.0 read.1 noted));
    }
