use Rattle.std.proofs.Common.{◌≡◌, ◌++◌, ◌∷◌, [], List, true, sym, ap, subst, ◌∙◌, rules}
use Rattle.std.proofs.lemmas.List.{nil_from_length}
use Rattle.delta.specs.Element.{Element}
use Rattle.delta.specs.Gaps.{End}
use Rattle.delta.specs.Normal.{nf, spell_inserts}
use Rattle.document.specs.Chunks.{runs_of_chunks}
use Rattle.document.specs.Runs.{units_of_runs, AreRuns}
use Rattle.optext.specs.Printed.{printed, printed_operation}
use Rattle.serde_json.specs.Data.{array}
use Rattle.serde_json.specs.Written.{compact_text, items_text}
use Rattle.session.specs.Reply.{printed_delta}
use Rattle.session.proofs.Pages.{front-none, front-left, front-more, front-ends, front-last, spells-both, spells-failed}
use Rattle.session.proofs.OperationTexts.{item-next}
use Rattle.session.proofs.Runs.{other_runs}
use Rattle.session.proofs.printing.push_document.Goals as goal

pub loop-chunk-init : goal.loop-chunk-init
loop-chunk-init g c = record {
  spelled = front-more (ap (λ us. compact_text (array (printed (spell_inserts us [])))) (sym c.chunks-rest.ensures.units))
      (front-none c.args.out.now c.args.page.now (compact_text (printed_delta (nf (End c.args.document.now))))) c.push_str.ensures;
  runs = c.chunks-rest.ensures.chunks.1;
}

pub loop-run-init : goal.loop-run-init
loop-run-init g c =
    let so_far = c.loop-chunk.invariant in
    let all : runs_of_chunks c.loop-chunk.rest.now ≡ c.runs-runs.result.now ++ runs_of_chunks c.in-Some.others.now =
    ap runs_of_chunks c.in-Some.ensures.cases.0 ∙ ap (λ (l : List (List Element)). l ++ runs_of_chunks c.in-Some.others.now) (sym c.runs-runs.ensures.runs) in
    record {
      spelled = front-left (ap (λ rs. items_text c.loop-chunk.later (printed (spell_inserts (units_of_runs rs) []))) all) so_far.spelled;
      runs = subst AreRuns all so_far.runs;
    }

pub loop-run-preserved : goal.loop-run-preserved
loop-run-preserved g c =
    let so_far = c.loop-run.invariant in
    let behind : List (List Element) = c.in-Some-split_first.behind.now ++ runs_of_chunks c.in-Some.others.now in
    let inserts = c.push_run.ensures in
    let all : c.loop-run.runs.now ++ runs_of_chunks c.in-Some.others.now ≡ c.in-Some-split_first.run'.now ∷ behind =
    ap (λ (l : List (List Element)). l ++ runs_of_chunks c.in-Some.others.now) c.in-Some-split_first.ensures.cases.0 in
    let runs : AreRuns (c.in-Some-split_first.run'.now ∷ behind) = subst AreRuns all so_far.runs in
    record {
      spelled = front-more
          (ap (λ rs. items_text c.loop-run.later (printed (spell_inserts (units_of_runs rs) []))) all
          ∙ item-next printed_operation c.loop-run.later _ (spell_inserts (units_of_runs behind) []) inserts.0 (inserts.1 behind runs))
          so_far.spelled (spells-both c.push_comma.ensures inserts.2);
      runs = other_runs c.in-Some-split_first.run'.now behind runs;
    }

pub loop-chunk-preserved : goal.loop-chunk-preserved
loop-chunk-preserved g c =
    let so_far = c.loop-run.invariant in
    let none : c.loop-run.runs.now ≡ [] = nil_from_length c.loop-run.runs.now (search rules) in
    let all : c.loop-run.runs.now ++ runs_of_chunks c.in-Some.others.now ≡ runs_of_chunks c.in-Some.others.now =
    ap (λ (l : List (List Element)). l ++ runs_of_chunks c.in-Some.others.now) none in
    record {
      spelled = front-left (ap (λ rs. items_text c.loop-run.later (printed (spell_inserts (units_of_runs rs) []))) all) so_far.spelled;
      runs = subst AreRuns all so_far.runs;
    }

pub returns-then-has_failed : goal.returns-then-has_failed
returns-then-has_failed g c =
    let failed : c.loop-chunk.page.failed ≡ true = search rules in
    front-last c.loop-chunk.invariant.spelled (spells-failed c.loop-chunk.out c.loop-chunk.page _ failed)

pub returns : goal.returns
returns g c =
    let none : c.loop-chunk.rest.now ≡ [] = nil_from_length c.loop-chunk.rest.now (search rules) in
    front-ends (ap (λ cs. items_text c.loop-chunk.later (printed (spell_inserts (units_of_runs (runs_of_chunks cs)) []))) none)
    c.loop-chunk.invariant.spelled c.push_str-2.ensures
