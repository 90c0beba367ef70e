use Rattle.std.proofs.Common.{◌≡◌, ◌≤◌, ◌-◌, length, take}
use Rattle.json.specs.Print.{escape}
use Rattle.session.proofs.quoting.plain_length.Given as goal

-- the bytes so far need no escape
abbrev pub invariant-loop-length : goal.invariant-loop-length
invariant-loop-length l = record {
  within : l.length ≤ length l.text;
  plain : escape (take l.length l.text) ≡ take l.length l.text;
}

abbrev pub decreases-loop-length : goal.decreases-loop-length
decreases-loop-length l = length l.text - l.length
