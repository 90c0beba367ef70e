use Rattle.std.proofs.Common.{◌≡◌, ◌++◌, ◌∷◌, [], append-nil, ◌∙◌, rules}
use Rattle.std.specs.String.{string_bytes}
use Rattle.algebra.specs.Text.{text_of}
use Rattle.server.proofs.Fronts.{front-of, appends-kept}
use Rattle.server.proofs.deltas.print_answer.Goals as goal

-- the whole line was put, and only then the flush failed
pub returns-in_err-flush-clause-stopped : goal.returns-in_err-flush-clause-stopped
returns-in_err-flush-clause-stopped g c told =
    let printed = c.in_ok-line.ensures.line in
    let bytes : c.as_bytes.result.now ≡ string_bytes c.in_ok-line.line = search rules in
    let old = g.O.Output.contents c.args.output.now in
    let put = g.O.Output.contents c.put.new.self in
    let new = g.O.Output.contents c.flush.new.self in (
      printed.0,
      printed.1,
      front-of old new c.as_bytes.result.now [] (text_of printed.0 ++ 10 ∷ []) (append-nil c.as_bytes.result.now ∙ bytes ∙ printed.2)
          (appends-kept old put new c.as_bytes.result.now c.in_ok-put.ensures.written c.flush.ensures.kept),
    )
