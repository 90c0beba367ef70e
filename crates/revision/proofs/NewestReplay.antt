-- What the newest revision is made of: what stands there, and no delta.
use Rattle.std.proofs.Common.{◌≡◌, ℕ, ◌-◌, List, [], take, ap, ◌∙◌, arith}
use Rattle.delta.specs.Element.{Element}
use Rattle.delta.specs.Operation.{Operation}
use Rattle.revision.specs.Past.{Past, newest, newest_units, deltas_above}
use Rattle.revision.specs.Replay.{IsReplay}

pub newest_replay : (past : Past) (revision : ℕ) (units : List Element) (deltas : List (List Operation)) → revision ≡ newest past → units ≡ newest_units past
    → deltas ≡ [] → IsReplay past revision units deltas
newest_replay past revision units deltas is content none =
    let nothing : 0 ≡ revision - newest past = omega (arith, is) in
    record {
      base = newest past;
      held = omega arith;
      below = omega (arith, is);
      content = content;
      between = none ∙ ap (λ n. take n (deltas_above past (newest past))) nothing;
    }
