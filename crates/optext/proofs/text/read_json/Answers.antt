use Rattle.std.proofs.Common.{inl, inr, sym, ◌∙◌, true≢false}
use Rattle.optext.proofs.Values.{value_of-utf8, value_of-none}
use Rattle.optext.proofs.text.read_json.Goals as goal
use Rattle.optext.proofs.text.read_json.Goals.{then-is_memory, else-is_memory}

pub returns-in-Ok-clause-ok : goal.returns-in-Ok-clause-ok
returns-in-Ok-clause-ok c = value_of-utf8 _ c.in-Ok.ensures.ok.0 ∙ c.in-Ok.ensures.ok.1

pub returns-after-is_memory-clause-err : goal.returns-after-is_memory-clause-err
returns-after-is_memory-clause-err c =
    elim c.if-is_memory.branch [
      | then-is_memory w ↦ inl w.result-is
      | else-is_memory w ↦
          inr (w.result-is, value_of-none _ (c.in-Err.ensures.err (λ m. true≢false (sym (c.is_memory.ensures.1 m) ∙ w.if-is_memory.false))))
    ]
