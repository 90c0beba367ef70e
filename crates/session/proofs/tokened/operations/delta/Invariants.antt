use Rattle.delta.specs.Operation.{IsBounded}
use Rattle.session.proofs.Arrays.{Completes}
use Rattle.session.proofs.tokened.operations.delta.Given as goal

-- the operations so far are bounded, and what is left of the array completes them
abbrev pub invariant-loop : goal.invariant-loop
invariant-loop l =
    record {
      bounded : IsBounded l.builder;
      completes : Completes 2 l.initial.reader l.builder l.counter l.reader;
    }
