use Rattle.std.proofs.Common.{◌≡◌, ◌++◌, ◌∷◌, ◌∙◌, [], List, ℕ, length, refl, sym, ap, subst, arith, rules, length-append}
use Rattle.std.specs.Int.{w32}
use Rattle.std.specs.List.{flat_map, AllByRecursion}
use Rattle.std.proofs.lemmas.Result.{err_from_is_err_and}
use Rattle.revision.specs.Window.{Window}
use Rattle.revision.specs.Sources.{Sources}
use Rattle.journal.specs.Spelling.{number}
use Rattle.milestone.specs.CellSpelling.{source}
use Rattle.milestone.specs.steps.Reading.{IsSource}
use Rattle.milestone.proofs.Order.{IsLast, last_more, entries_insert}
use Rattle.milestone.proofs.Fields.{sources_short, none_more, each_more, split_more, all_read}
use Rattle.milestone.proofs.reading.sources.Goals as goal

pub returns-in_default-clause-none : goal.returns-in_default-clause-none
returns-in_default-clause-none c = λ is. sources_short c.args.format c.args.revision (omega arith) c.args.bytes.now (c.in_default.ensures.none.0 refl)

pub returns-in_err-text-clause-none : goal.returns-in_err-text-clause-none
returns-in_err-text-clause-none c =
    let why = err_from_is_err_and c.from_residual.result c.from_residual.ensures.1 in
    let at = c.loop in
    rw why.1 (λ is.
    none_more c.args.format c.args.revision (omega arith) at.sources.entries at.last.now c.in-Some.count c.args.bytes.now at.rest.now at.invariant.split (omega arith)
    (omega (arith, at.invariant.counted, c.loop-test.true)) at.invariant.each at.invariant.is_last (c.in_err-text.ensures.none (sym why.2 ∙ is)))

pub loop-preserved : goal.loop-preserved
loop-preserved c =
    let at = c.loop in
    let x : List ℕ × Window = (c.in_ok-text.name, c.in_ok-text.window) in
    let entries : c.put.new.sources.entries ≡ at.sources.entries ++ (c.in_ok-text.name, c.in_ok-text.window) ∷ [] =
    ap (λ (m : Sources). m.entries) c.in_ok-put.ensures.ok ∙ entries_insert at.sources at.last.now c.in_ok-text.name c.in_ok-text.window at.invariant.is_last c.in_ok-text.ensures.above in
    record {
      text = search rules;
      split = subst (λ (es : List (List ℕ × Window)). c.args.bytes.now ≡ number w32 c.in-Some.count ++ (flat_map (source c.args.format) es ++ c.in_ok-text.after.now)) (sym entries)
          (split_more c.args.format c.in-Some.count at.sources.entries (c.in_ok-text.name, c.in_ok-text.window) c.args.bytes.now at.rest.now c.in_ok-text.after.now at.invariant.split c.in_ok-text.ensures.found.1);
      counted = omega (arith, at.invariant.counted, ap (length {A = List ℕ × Window}) entries, length-append at.sources.entries ((c.in_ok-text.name, c.in_ok-text.window) ∷ []));
      each = subst (AllByRecursion (IsSource c.args.format c.args.revision)) (sym entries) (each_more c.args.format c.args.revision at.sources.entries (c.in_ok-text.name, c.in_ok-text.window) at.invariant.each c.in_ok-text.ensures.found.0);
      is_last = subst (λ (es : List (List ℕ × Window)). IsLast es c.in_ok-text.text.now) (sym entries)
          (subst (λ (t : List ℕ). IsLast (at.sources.entries ++ (c.in_ok-text.name, c.in_ok-text.window) ∷ []) t) c.in_ok-text.ensures.same
          (last_more at.sources.entries at.last.now (c.in_ok-text.name, c.in_ok-text.window) at.invariant.is_last c.in_ok-text.ensures.above));
    }

pub returns-clause-found : goal.returns-clause-found
returns-clause-found c =
    let at = c.loop in
    all_read c.args.format c.args.revision at.sources c.in-Some.count c.args.bytes.now at.rest.now at.invariant.split (omega arith) (omega (arith, at.invariant.counted, c.loop-test.false, at.auto.counter-end)) at.invariant.each
