use Rattle.std.proofs.Common.{◌≡◌, length, ap, sym, subst, rules, ◌∙◌}
use Rattle.document.specs.Chunks.{AreChunks, units_of_chunks}
use Rattle.document.proofs.Chunked.{AreChunks-split}
use Rattle.document.proofs.Entering.{none_begun, none_passed, chunks_passed}
use Rattle.document.proofs.cursor.Cursor.next_chunks.Goals as goal

pub invariant_of-self : goal.invariant_of-self
invariant_of-self c = (
  c.self.invariant.0,
  c.self.invariant.1,
  c.self.invariant.2,
  subst AreChunks (sym c.split_at.ensures.back) (AreChunks-split c.whole_chunks-count.result.0 c.self.inside.chunks.now c.self.invariant.3).1,
)

pub returns-clause-parts : goal.returns-clause-parts
returns-clause-parts c =
    let empty : length c.self.inside.runs.now ≡ 0 = search rules in
    chunks_passed _ c.self.inside.runs.now c.self.inside.chunks.now c.split_at.result.0.now c.split_at.result.1.now c.whole_chunks-count.result.0
    (none_begun c.self.inside.begun (sym c.is_some.ensures ∙ c.if-is_some.false)) empty c.split_at.ensures.front c.split_at.ensures.back
    ∙ c.self.view_is

pub returns-clause-chunks : goal.returns-clause-chunks
returns-clause-chunks c = subst AreChunks (sym c.split_at.ensures.front) (AreChunks-split c.whole_chunks-count.result.0 c.self.inside.chunks.now c.self.invariant.3).0

pub returns-clause-none : goal.returns-clause-none
returns-clause-none c =
    none_passed (units_of_chunks c.split_at.result.0.now) _ c.args.self.now c.whole_chunks-count.result.1
    (let empty : length c.self.inside.runs.now ≡ 0 = search rules in
    chunks_passed _ c.self.inside.runs.now c.self.inside.chunks.now c.split_at.result.0.now c.split_at.result.1.now c.whole_chunks-count.result.0
    (none_begun c.self.inside.begun (sym c.is_some.ensures ∙ c.if-is_some.false)) empty c.split_at.ensures.front c.split_at.ensures.back
    ∙ c.self.view_is)
    (c.whole_chunks-count.ensures.units ∙ ap (λ l. length (units_of_chunks l)) (sym c.split_at.ensures.front))
