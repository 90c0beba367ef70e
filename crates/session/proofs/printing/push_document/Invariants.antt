use Rattle.std.proofs.Common.{◌++◌, [], length}
use Rattle.delta.specs.Gaps.{End}
use Rattle.delta.specs.Normal.{nf, spell_inserts}
use Rattle.document.specs.Chunks.{runs_of_chunks}
use Rattle.document.specs.Runs.{units_of_runs, AreRuns}
use Rattle.optext.specs.Printed.{printed}
use Rattle.serde_json.specs.Written.{compact_text, items_text}
use Rattle.session.specs.Reply.{printed_delta}
use Rattle.session.proofs.Pages.{SpellsFront}
use Rattle.session.proofs.printing.push_document.Given as goal

-- the operations that insert the runs before the rest are spelled
abbrev pub invariant-loop-chunk : goal.invariant-loop-chunk
invariant-loop-chunk g l = record {
  spelled : SpellsFront g.O.Output.contents g.O.Output.has_failed l.fn.out l.fn.page l.out l.page
      (items_text l.later (printed (spell_inserts (units_of_runs (runs_of_chunks l.rest)) []))) (compact_text (printed_delta (nf (End l.document))));
  runs : AreRuns (runs_of_chunks l.rest);
}

abbrev pub decreases-loop-chunk : goal.decreases-loop-chunk
decreases-loop-chunk g l = length l.rest

abbrev pub invariant-loop-run : goal.invariant-loop-run
invariant-loop-run g l = record {
  spelled : SpellsFront g.O.Output.contents g.O.Output.has_failed l.fn.out l.fn.page l.out l.page
      (items_text l.later (printed (spell_inserts (units_of_runs (l.runs ++ runs_of_chunks l.others)) [])))
      (compact_text (printed_delta (nf (End l.document))));
  runs : AreRuns (l.runs ++ runs_of_chunks l.others);
}

abbrev pub decreases-loop-run : goal.decreases-loop-run
decreases-loop-run g l = length l.runs
