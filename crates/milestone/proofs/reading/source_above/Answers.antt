use Rattle.std.proofs.Common.{◌≢◌, ◌∙◌, sym, ap, arith, rules, Less}
use Rattle.std.proofs.lemmas.Result.{err_from_is_err_and}
use Rattle.attributes.specs.Map.{by_bytes}
use Rattle.milestone.proofs.Order.{less}
use Rattle.milestone.proofs.Fields.{behind_name, source_read}
use Rattle.milestone.proofs.reading.source_above.Goals as goal

pub returns-in_err-window-clause-none : goal.returns-in_err-window-clause-none
returns-in_err-window-clause-none c =
    let why = err_from_is_err_and c.from_residual-in_err-window.result c.from_residual-in_err-window.ensures.1 in
    rw why.1 (λ is x more is_x above spelled.
    let names = behind_name c.args.format c.args.revision (omega arith) c.args.bytes.now c.in_ok-text.name c.in_ok-text.rest.now x more c.in_ok-text.ensures.found.0 c.in_ok-text.ensures.found.1 is_x spelled in
    c.in_err-window.ensures.none (sym why.2 ∙ is) x.1 more is_x.window names.1)

pub returns-in-Less-clause-found : goal.returns-in-Less-clause-found
returns-in-Less-clause-found c =
    source_read c.args.format c.args.revision c.in_ok-text.name c.in_ok-window.window c.args.bytes.now c.in_ok-text.rest.now c.in_ok-window.rest.now c.in_ok-text.ensures.found.0 c.in_ok-text.ensures.found.1
    c.in_ok-window.ensures.found

pub returns-in_default : goal.returns-in_default
returns-in_default c = record {
  found = tt;
  same = tt;
  above = tt;
  none = λ is x more is_x above spelled.
      let names = behind_name c.args.format c.args.revision (omega arith) c.args.bytes.now c.in_ok-text.name c.in_ok-text.rest.now x more c.in_ok-text.ensures.found.0 c.in_ok-text.ensures.found.1 is_x spelled in
      let unordered : by_bytes c.args.last.now c.in_ok-text.text.now ≢ Less = search rules in
      unordered (ap (by_bytes c.args.last.now) (sym c.in_ok-text.ensures.same ∙ names.0) ∙ less _ above);
}
