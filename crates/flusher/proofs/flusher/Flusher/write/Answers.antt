use Rattle.std.proofs.Common.{◌≡◌, None, refl}
use Rattle.refusal.specs.declared.Refusal.TheVariants.{StillNeeded}
use Rattle.flusher.proofs.Holdings.{no_error, same_refusal, none_of_held, published_or_not, kept_moved, few_moved, batches_moved, moments_moved}
use Rattle.flusher.proofs.Lasting.{surely_moved}
use Rattle.flusher.proofs.Writes.{faults_refused, faults_behind, unpublished_held, unpublished_behind, refused_by_memory, published_behind, published_as, memory_no_fault}
use Rattle.flusher.proofs.flusher.Flusher.write.Goals as goal

-- what was given is published, or it stays given
pub invariant_of-self : goal.invariant_of-self
invariant_of-self g c =
    let before = c.commit_freeing.new.self in
    let e = c.publish.ensures in
    let moved = published_or_not c.publish.result before.publisher c.publish.new.self e.batch e.told e.shown e.none e.unchanged in
    let none : before.waiting ≡ None = none_of_held before.waiting c.in_default.ensures.committed.waiting in
    record {
      kept = kept_moved _ _ before.publisher c.publish.new.self moved before.kept;
      few = few_moved before.publisher c.publish.new.self moved before.few;
      fits = λ run is. absurd (let no : ⊥ = cc in no);
      placed = λ run is. absurd (let no : ⊥ = cc in no);
      lasts = surely_moved before.begun before.opened.value before.publisher c.publish.new.self before.waiting before.store (batches_moved before.publisher c.publish.new.self moved)
          (moments_moved before.publisher c.publish.new.self moved) before.lasts;
    }

-- its commit is refused
pub returns-in-Err-clause-refused : goal.returns-in-Err-clause-refused
returns-in-Err-clause-refused g c = unpublished_held c.in-Err.ensures.refused

-- it is committed, and published
pub returns-in-Ok-clause-published : goal.returns-in-Ok-clause-published
returns-in-Ok-clause-published g c =
    let e = c.in-Ok.ensures in
    published_as c.to_settle.result c.in-Ok.published c.to_settle.ensures
    (published_behind c.in-Ok.published c.in_default.ensures.committed refl refl refl e.batch e.told e.shown e.none c.commit_freeing.new.self.few)

-- it is committed, and memory ran out for the publish
pub returns-in-Err-publish-clause-refused : goal.returns-in-Err-publish-clause-refused
returns-in-Err-publish-clause-refused g c =
    unpublished_behind c.into.ensures c.in_default.ensures.committed refl refl refl c.in-Err-publish.ensures.unchanged

-- what a crash leaves, and when it is refused
pub returns-in-Err-clause-writes : goal.returns-in-Err-clause-writes
returns-in-Err-clause-writes g c =
    let e = c.in-Err.ensures.writes in
    record {
      goes = e.goes;
      syncs = e.syncs;
      why = e.why;
      few = λ works room few. same_refusal c.in-Err.refusal StillNeeded (e.few works room few);
      faults = faults_refused c.in-Err.refusal e.faults;
    }

-- a commit that was Ok had no batch that finds no room where too few slots are open
pub returns-in-Ok-clause-writes : goal.returns-in-Ok-clause-writes
returns-in-Ok-clause-writes g c =
    let e = c.in_default.ensures.writes in
    record {
      goes = e.goes;
      syncs = e.syncs;
      why = tt;
      few = λ works room few. absurd (no_error c.in_default.field-0 StillNeeded (e.few works room few));
      faults = faults_behind c.in_default.field-0 _ e.faults refl (no_error _ _);
    }

pub returns-in-Err-publish-clause-writes : goal.returns-in-Err-publish-clause-writes
returns-in-Err-publish-clause-writes g c =
    let e = c.in_default.ensures.writes in
    record {
      goes = e.goes;
      syncs = e.syncs;
      why = refused_by_memory c.into.ensures;
      few = λ works room few. absurd (no_error c.in_default.field-0 StillNeeded (e.few works room few));
      faults = faults_behind c.in_default.field-0 _ e.faults refl (memory_no_fault c.into.result c.into.ensures);
    }
