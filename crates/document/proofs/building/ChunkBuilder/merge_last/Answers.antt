use Rattle.std.proofs.Common.{◌≡◌, ◌≢◌, ◌<◌, ◌++◌, length, arith, rules, ap, ◌∙◌, sym, subst, MatchBool, Some, length-append}
use Rattle.utf16.specs.Units.{units_of}
use Rattle.delta.specs.Element.{letters}
use Rattle.document.specs.Chunks.{runs_of_chunks}
use Rattle.document.specs.Runs.{units_of_runs, TakesText, last_attributes}
use Rattle.document.proofs.Chunked.{length_runs-back, some_last, merged_loose}
use Rattle.document.proofs.building.ChunkBuilder.merge_last.Goals as goal
use Rattle.document.proofs.building.ChunkBuilder.merge_last.Goals.{else-is_empty-via-then-is_empty+else-not-takes, else-is_empty-via-else-is_empty}

pub merge_into-requires-clause-bound : goal.merge_into-requires-clause-bound
merge_into-requires-clause-bound c =
    omega (
      arith,
      length_runs-back (runs_of_chunks c.refill.new.made.items) c.refill.new.loose.items,
      ap (λ l. length (units_of_runs l)) (c.in_ok-refill.ensures.runs ∙ c.self.view_is),
      c.requires.bound,
    )

pub returns : goal.returns
returns c = record {
  ok =
      let before = runs_of_chunks c.refill.new.made.items in
      let new = before ++ c.merge_into.new.runs.items in
      let more = letters (units_of c.args.text.now) c.args.attrs.now in
      let old = runs_of_chunks c.self.inside.made.items ++ c.self.inside.loose.items in
      let filled : 0 < length old =
      elim c.else-is_empty.branch [
        | else-is_empty-via-then-is_empty+else-not-takes w ↦ subst (λ l. 0 < length l) (sym c.self.view_is) (some_last c.args.self.now c.args.attrs.now (w.takes.ensures.0 w.if-not-takes.false))
        | else-is_empty-via-else-is_empty w ↦ let some : 0 < length c.self.inside.loose.items = search rules in
            omega (arith, length-append (runs_of_chunks c.self.inside.made.items) c.self.inside.loose.items, some)
      ] in
      let some = c.in_ok-refill.ensures.some filled in
      subst
      (λ l. MatchBool c.in_ok-merged.merged (TakesText l new more c.args.attrs.now) ((last_attributes l ≢ Some c.args.attrs.now) × (new ≡ l)))
      (c.in_ok-refill.ensures.runs ∙ c.self.view_is)
      (merged_loose c.in_ok-merged.merged before c.refill.new.loose.items c.merge_into.new.runs.items more c.args.attrs.now some c.in_ok-merged.ensures.ok);
}
