use Rattle.std.proofs.Common.{◌≡◌, ◌≤◌, ◌<◌, ◌∙◌, ℕ, List, Vec, Global, length, get_or, ap, arith}
use Rattle.std.specs.Prelude.{◌^◌}
use Rattle.recovery.specs.declared.marks.Mark.{Mark}
use Rattle.recovery.specs.Marks.{greatest_marked, within_segment}
use Rattle.recovery.specs.Open.{known_cells, known_marks}
use Rattle.recovery.specs.steps.Freeing.{count_marked}
use Rattle.recovery.proofs.CoveredDocuments.{ok_map}
use Rattle.recovery.proofs.Superblocks.{ranges_of}
use Rattle.recovery.proofs.store.Store.marked_revisions.Goals as goal

pub returns-clause-count : goal.returns-clause-count
returns-clause-count g c =
    ok_map (λ (v : Vec ℕ Global). length v.items ≡ c.len.result) (λ (v : Vec ℕ Global). length v.items ≡ length (known_cells c.args.self.now)) c.greatest_revisions.result
    (λ v has. omega (arith, has)) c.greatest_revisions.ensures.count

pub returns-clause-small : goal.returns-clause-small
returns-clause-small g c =
    let store = c.args.self.now in
    ok_map (λ (v : Vec ℕ Global). length v.items ≡ c.len.result) (λ (v : Vec ℕ Global). length v.items < 2 ^ 32) c.greatest_revisions.result
    (λ v has. omega (arith, has, store.placed.count, (ranges_of store.shape store.in_range).docs)) c.greatest_revisions.ensures.count

pub returns-clause-marked : goal.returns-clause-marked
returns-clause-marked g c =
    let store = c.args.self.now in
    ok_map (λ (v : Vec ℕ Global). (n : ℕ) → n < c.len.result → get_or v.items n 0 ≡ greatest_marked c.args.segment n c.all.result.now)
    (λ (v : Vec ℕ Global). (n : ℕ) → n < length (known_cells store) → get_or v.items n 0 ≡ greatest_marked c.args.segment n (known_marks store)) c.greatest_revisions.result
    (λ v has n below. has n (omega (arith, below)) ∙ ap (λ (l : List Mark). greatest_marked c.args.segment n l) c.all.ensures) c.greatest_revisions.ensures.marked

pub returns-clause-few : goal.returns-clause-few
returns-clause-few g c =
    let store = c.args.self.now in
    ok_map (λ (v : Vec ℕ Global). count_marked v.items ≤ length (within_segment c.args.segment c.all.result.now))
    (λ (v : Vec ℕ Global). count_marked v.items ≤ length (within_segment c.args.segment (known_marks store))) c.greatest_revisions.result
    (λ v has. omega (arith, has, ap (λ (l : List Mark). length (within_segment c.args.segment l)) c.all.ensures)) c.greatest_revisions.ensures.few
