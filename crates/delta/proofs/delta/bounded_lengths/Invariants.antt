use Rattle.std.proofs.Common.{◌≡◌, ◌≤◌, ◌+◌, ◌^◌, length}
use Rattle.delta.specs.Operation.{base_of, out_of}
use Rattle.delta.proofs.delta.bounded_lengths.Given as goal

-- the lengths so far with those of the operations that are left are the lengths of all
abbrev pub invariant-loop-op : goal.invariant-loop-op
invariant-loop-op l = record {
  base : l.base + base_of l.rest ≡ base_of l.fn.ops;
  out : l.out + out_of l.rest ≡ out_of l.fn.ops;
  base_fits : l.base ≤ 2 ^ 48;
  out_fits : l.out ≤ 2 ^ 48;
}

abbrev pub decreases-loop-op : goal.decreases-loop-op
decreases-loop-op l = length l.rest
