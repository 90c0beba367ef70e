use Rattle.std.proofs.Common.{◌≡◌, ⊎_elim, inl, inr, [], ◌∷◌, ◌++◌, List, length, Some, None, refl, sym, ◌∙◌, ap, append-nil, length-append, subst, ◌≤◌, ◌<◌, ◌^◌, arith}
use Rattle.revision.specs.Command.{Taken}
use Rattle.revision.specs.State.{fold}
use Rattle.world.specs.World.{takens}
use Rattle.recovery.specs.Found.{commands_of}
use Rattle.recovery.specs.Moment.{moment_of}
use Rattle.recovery.specs.Open.{FitsSlot, state_of}
use Rattle.refusal.specs.declared.Refusal.TheVariants.{StillNeeded}
use Rattle.view.specs.Published.{Published}
use Rattle.flusher.proofs.Holdings.{held_in, goes_not, goes_batch, committed_none, committed_one, given_up_one, kept_more, moment_by, next_by, held_made, made_on, no_batch, no_error, held_continues, no_stranger, same_refusal}
use Rattle.flusher.proofs.Lasting.{surely_refused, surely_committed}
use Rattle.flusher.proofs.Writes.{faults_ok, faults_err, faults_none, no_room_of}
use Rattle.flusher.proofs.flusher.Flusher.commit_freeing.Goals as goal

pub goes_on-ordered-requires : goal.goes_on-ordered-requires
goes_on-ordered-requires g c =
    let held : c.args.self.now.waiting ≡ Some c.in-Some.batch = cc in
    c.args.self.now.placed c.in-Some.batch held ∙ ap (λ (l : List (List Taken)). length (commands_of l)) (sym c.told.ensures)

pub accept-requires-clause-next : goal.accept-requires-clause-next
accept-requires-clause-next g c =
    let held : c.args.self.now.waiting ≡ Some c.in-Some.batch = cc in
    let same : c.batch.result.now ≡ c.in-Some.batch.commands = cc in
    next_by c.args.self.now.publisher.told c.told.result.now c.in-Some.batch.commands c.in-Ok.receipt.batch (takens c.goes_on-ordered.result) c.told.ensures
    (c.in-Ok.ensures.receipt.names ∙ same) (c.args.self.now.fits c.in-Some.batch held).some c.goes_on-ordered.ensures.few c.goes_on-ordered.ensures.next

pub invariant_of-self-in-Ok : goal.invariant_of-self-in-Ok
invariant_of-self-in-Ok g c =
    let before = c.args.self.now in
    let held : before.waiting ≡ Some c.in-Some.batch = cc in
    let same : c.batch.result.now ≡ c.in-Some.batch.commands = cc in
    let alone = (before.fits c.in-Some.batch held).alone in
    let names = c.in-Ok.ensures.receipt.names in
    let kept = kept_more _ _ _ before.publisher c.accept.new.self _ _ c.batch.result.now before.kept alone c.accept.ensures names c.in-Ok.ensures.committed.state in
    record {
      kept = kept;
      few = (
        omega (arith, ap (λ (p : Published). length p.unpublished) c.accept.ensures),
        omega (
          arith,
          ap (λ (p : Published). length p.unpublished) c.accept.ensures,
          ap (λ (p : Published). length (commands_of p.unpublished)) c.accept.ensures,
          length-append c.in-Ok.receipt.batch [],
          ap length names,
          ap length same,
          (before.fits c.in-Some.batch held).some,
        ),
      );
      fits = λ x is. absurd (let none : ⊥ = cc in none);
      placed = λ x is. absurd (let none : ⊥ = cc in none);
      lasts = surely_committed before.begun before.opened.value before.publisher c.accept.new.self before.waiting _ c.in-Some.batch c.batch.result.now c.in-Ok.receipt.batch _ before.store
          c.commit_freeing.new.self held c.in-Some.ensures.after same names before.kept alone c.accept.ensures (ap (moment_of g.D.Disk) c.in-Ok.ensures.receipt.at) c.in-Ok.ensures.faults.works kept
          c.commit_freeing.ensures.goes before.lasts;
    }

-- what was committed before lasts on
pub invariant_of-self-in-Err-clause-lasts : goal.invariant_of-self-in-Err-clause-lasts
invariant_of-self-in-Err-clause-lasts g c =
    let before = c.args.self.now in
    let held : before.waiting ≡ Some c.in-Some.batch = cc in
    let same : c.batch.result.now ≡ c.in-Some.batch.commands = cc in
    surely_refused before.begun before.opened.value before.publisher before.waiting _ c.in-Some.batch c.batch.result.now before.store c.commit_freeing.new.self held c.fill.ensures.some same before.kept
    c.commit_freeing.ensures.goes before.lasts

-- the documents beside the batch
pub made-made-requires : goal.made-made-requires
made-made-requires g c =
    let held : c.args.self.now.waiting ≡ Some c.in-Some.batch = cc in
    c.args.self.now.placed c.in-Some.batch held ∙ ap (λ (l : List (List Taken)). length (commands_of l)) (sym c.told-in-Some.ensures)

pub commit_freeing-requires : goal.commit_freeing-requires
commit_freeing-requires g c =
    let held : c.args.self.now.waiting ≡ Some c.in-Some.batch = cc in
    let same : c.batch.result.now ≡ c.in-Some.batch.commands = cc in
    record {
      some = subst (λ (b : List Taken). 1 ≤ length b) (sym same) (c.args.self.now.fits c.in-Some.batch held).some;
      short = subst (λ (b : List Taken). length b < 2 ^ 32) (sym same) (c.args.self.now.fits c.in-Some.batch held).short;
      fits = subst (λ (b : List Taken). FitsSlot (state_of c.args.self.now.store) b) (sym same) (c.args.self.now.fits c.in-Some.batch held).fits;
      made = held_made g.L.Life.start c.args.self.now.begun c.args.self.now.store.state c.args.self.now.publisher.told c.told-in-Some.result.now c.args.self.now.publisher.unpublished
          c.in-Some.batch.commands c.batch.result.now c.made-made.result.now c.facts.ensures c.told-in-Some.ensures same c.args.self.now.kept
          (c.args.self.now.fits c.in-Some.batch held).alone c.made-made.ensures;
    }

pub committed-made-requires-clause-place : goal.committed-made-requires-clause-place
committed-made-requires-clause-place g c =
    let held : c.args.self.now.waiting ≡ Some c.in-Some.batch = cc in
    c.args.self.now.placed c.in-Some.batch held ∙ ap (λ (l : List (List Taken)). length (commands_of l)) (sym c.told-in-Ok.ensures)

pub accept-requires-clause-made : goal.accept-requires-clause-made
accept-requires-clause-made g c =
    let same : c.batch.result.now ≡ c.in-Some.batch.commands = cc in
    made_on g.L.Life.start c.args.self.now.publisher.told c.told-in-Ok.result.now c.in-Some.batch.commands c.in-Ok.receipt.batch c.committed-made.result.items c.told-in-Ok.ensures
    (c.in-Ok.ensures.receipt.names ∙ same) c.committed-made.ensures

-- the moment of its commit
pub accept-requires-clause-moment : goal.accept-requires-clause-moment
accept-requires-clause-moment g c =
    let held : c.args.self.now.waiting ≡ Some c.in-Some.batch = cc in
    moment_by g.D.Disk g.L.Life.start c.args.self.now.begun c.args.self.now.store.state _ c.args.self.now.publisher.told c.args.self.now.publisher.unpublished c.batch.result.now
    _ c.in-Ok.receipt c.facts.ensures c.args.self.now.kept (c.args.self.now.fits c.in-Some.batch held).alone c.in-Ok.ensures.receipt.names c.in-Ok.ensures.committed.state
    c.in-Ok.ensures.receipt.at c.in-Ok.ensures.receipt.synced

-- what is committed
pub returns-in-None-clause-committed : goal.returns-in-None-clause-committed
returns-in-None-clause-committed g c =
    let none : c.args.self.now.waiting ≡ None = cc in
    let empty : held_in c.args.self.now.waiting ≡ [] = ap held_in none in
    record {
      told = refl;
      committed = sym (ap (λ (l : List (List Taken)). c.args.self.now.publisher.unpublished ++ l) empty ∙ append-nil _);
      waiting = ap held_in c.in-None.ensures.after;
      state = sym (ap (λ (l : List (List Taken)). fold c.args.self.now.store.state (commands_of l)) empty);
      store = committed_none c.args.self.now.store (held_in c.args.self.now.waiting) empty;
      opened = refl;
    }

pub returns-in-Ok-clause-committed : goal.returns-in-Ok-clause-committed
returns-in-Ok-clause-committed g c =
    let held : c.args.self.now.waiting ≡ Some c.in-Some.batch = cc in
    let same : c.batch.result.now ≡ c.in-Some.batch.commands = cc in
    let one = ap held_in held ∙ ap (λ (b : List Taken). b ∷ []) (sym same) in
    let alone = (c.args.self.now.fits c.in-Some.batch held).alone in
    record {
      told = ap (λ (p : Published). p.told) c.accept.ensures;
      committed = ap (λ (p : Published). p.unpublished) c.accept.ensures ∙ ap (λ (b : List Taken). b ∷ []) c.in-Ok.ensures.receipt.names ∙ sym one
          ∙ sym (ap (λ (l : List (List Taken)). l ++ held_in c.args.self.now.waiting) alone);
      waiting = ap held_in c.in-Some.ensures.after;
      state = c.in-Ok.ensures.committed.state ∙ ap (fold c.args.self.now.store.state) (sym (ap commands_of one ∙ append-nil _));
      store = committed_one _ _ c.batch.result.now _ one c.in-Ok.ensures.committed.now c.in-Ok.ensures.committed.behind;
      opened = refl;
    }

-- it is held still
pub returns-in-Err-clause-refused : goal.returns-in-Err-clause-refused
returns-in-Err-clause-refused g c =
    let held : c.args.self.now.waiting ≡ Some c.in-Some.batch = cc in
    let same : c.batch.result.now ≡ c.in-Some.batch.commands = cc in
    let e = c.in-Err.ensures.refused in
    record {
      some = λ none. no_batch c.in-Some.batch.commands (held_in c.args.self.now.waiting) none (ap held_in held);
      still = record {
        batches = record { told = refl; committed = refl; waiting = ap held_in c.fill.ensures.some ∙ sym (ap held_in held); opened = refl };
        state = e.state;
      };
      memory = λ is. given_up_one _ _ c.batch.result.now _ (ap held_in held ∙ ap (λ (b : List Taken). b ∷ []) (sym same)) (λ room. e.unchanged (inr is) room)
          (λ full is_open. ⊎_elim (λ freed. inr freed) (λ half. inl half.1) (e.behind (inr is) full is_open));
    }

-- what a crash leaves, what it costs, and when it is refused: never as a stranger's
pub returns-in-None-clause-writes : goal.returns-in-None-clause-writes
returns-in-None-clause-writes g c =
    let none : c.args.self.now.waiting ≡ None = cc in
    record {
      goes = goes_not c.args.self.now.store (commands_of (held_in c.args.self.now.waiting));
      syncs = record { by_bytes = λ slot segment oldest. omega arith };
      why = tt;
      few = λ works room few. absurd (no_batch room.0 (held_in c.args.self.now.waiting) (ap held_in none) room.1);
      faults = faults_none tt refl (ap held_in none);
    }

pub returns-in-Ok-clause-writes : goal.returns-in-Ok-clause-writes
returns-in-Ok-clause-writes g c =
    let held : c.args.self.now.waiting ≡ Some c.in-Some.batch = cc in
    let same : c.batch.result.now ≡ c.in-Some.batch.commands = cc in
    let one = ap held_in held ∙ ap (λ (b : List Taken). b ∷ []) (sym same) in
    let e = c.commit_freeing.ensures in
    record {
      goes = goes_batch _ _ c.batch.result.now _ one e.goes;
      syncs = e.costs.syncs;
      why = tt;
      few = λ works room few. absurd
          (no_error c.in-Ok.receipt StillNeeded (c.in-Ok.ensures.must.few works (no_room_of c.args.self.now c.batch.result.now one room) few));
      faults = faults_ok c.in-Ok.receipt tt c.in-Ok.ensures.faults;
    }

pub returns-in-Err-clause-writes : goal.returns-in-Err-clause-writes
returns-in-Err-clause-writes g c =
    let held : c.args.self.now.waiting ≡ Some c.in-Some.batch = cc in
    let same : c.batch.result.now ≡ c.in-Some.batch.commands = cc in
    let one = ap held_in held ∙ ap (λ (b : List Taken). b ∷ []) (sym same) in
    let still = ap held_in c.fill.ensures.some ∙ ap (λ (b : List Taken). b ∷ []) (sym same) in
    let e = c.in-Err.ensures.refused in
    record {
      goes = goes_batch _ _ c.batch.result.now _ one c.commit_freeing.ensures.goes;
      syncs = c.commit_freeing.ensures.costs.syncs;
      why = record {
        only = no_stranger c.args.self.now.store.state c.batch.result.now c.in-Err.refusal
            (held_continues g.L.Life.start c.args.self.now.begun c.args.self.now.store.state c.args.self.now.publisher.told c.told.result.now c.args.self.now.publisher.unpublished
            c.in-Some.batch.commands c.batch.result.now c.goes_on-ordered.result c.facts.ensures c.told.ensures same c.facts-in-Some.ensures c.goes_on-ordered.ensures.next
            c.args.self.now.kept (c.args.self.now.fits c.in-Some.batch held).alone)
            e.stranger e.only;
        full = λ is. ((c.batch.result.now, one, (e.full is).0), (c.batch.result.now, still, (e.full is).1), (e.full is).2);
        needed = λ is. ((c.batch.result.now, one, (e.needed is).0), (e.needed is).3);
        used_up = e.spent;
      };
      few = λ works room few. same_refusal c.in-Err.refusal StillNeeded
          (c.in-Err.ensures.must.few works (no_room_of c.args.self.now c.batch.result.now one room) few);
      faults = faults_err c.in-Err.refusal c.in-Err.ensures.faults;
    }
