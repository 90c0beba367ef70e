use Rattle.std.proofs.Common.{◌≡◌, ◌||◌, Bool, false, ap, rules}
use Rattle.serde_json.specs.View.{view}
use Rattle.serde_json.specs.Written.{has_float}
use Rattle.serde_json.specs.declared.value.Value.{the_lemmas}
use Rattle.algebra.specs.Text.{content}
use Rattle.algebra.proofs.writing.write_delta.Goals as goal

pub returns : goal.returns
returns c = record {
  printed =
      let built : view c.in_ok-value.value ≡ content c.args.delta.now = search (rules, the_lemmas) in
      let plain : has_float (content c.args.delta.now) ≡ false = ap (λ (b : Bool). b || false) (c.printed_without_floats.ensures c.args.delta.now) in
      rw built at c.in_ok-to_string.ensures.text plain;
}
