use Rattle.std.proofs.Common.{◌≡◌, ◌≤◌, ◌+◌, List, [], ◌∷◌, ◌++◌, length, ap, arith, length-append}
use Rattle.std.specs.Prelude.{Result, Ok, Err, IfOk}
use Rattle.revision.specs.Command.{Taken}
use Rattle.recovery.specs.Found.{commands_of}
use Rattle.recovery.specs.Moment.{Receipt}
use Rattle.recovery.proofs.CallerLemmas.{commands-append}
use Rattle.hub.specs.Runs.{ComesNext, Writer, counts_taken}
use Rattle.test_hub.proofs.threads.committed.Goals as goal

-- and all that is taken off is published then, as what was published before with the batch
longer : {D : Type 0} (both : List (List Taken) × Receipt D) (told : List (List Taken)) → both.0 ≡ told ++ both.1.batch ∷ [] → length (commands_of both.0) ≡ length (commands_of told) + length both.1.batch
longer both told ends =
    omega (
      arith,
      ap (λ (t : List (List Taken)). length (commands_of t)) ends,
      ap length (commands-append told (both.1.batch ∷ [])),
      length-append (commands_of told) (both.1.batch ++ []),
      length-append both.1.batch [],
    )

module _ {D E : Type 0} where
  -- the batch that was committed comes next
  next : (result : Result (List (List Taken) × Receipt D) E) (old new : Writer) (told : List (List Taken)) (run : List Taken) → old.taken ≡ length (commands_of told)
      → old.settled ≡ length (commands_of told) → new ≡ counts_taken old (length run) → 1 ≤ length run → IfOk result (λ both. both.0 ≡ told ++ both.1.batch ∷ [])
      → IfOk result (λ both. both.1.batch ≡ run) → IfOk result (λ both. ComesNext new both.1.batch both.0)
  next (Ok both) old new told run taken settled is some ends same = record {
    before = told;
    ends = ends;
    some = omega (arith, some, ap length same);
    settled = omega (arith, settled, ap (λ (w : Writer). w.settled) is);
    taken = omega (arith, taken, settled, ap (λ (w : Writer). w.taken) is, ap (λ (w : Writer). w.settled) is, ap length same);
  }
  next (Err refusal) old new told run taken settled is some ends same = tt

  taken_all : (result : Result (List (List Taken) × Receipt D) E) (old new : Writer) (told : List (List Taken)) (run : List Taken) → old.taken ≡ length (commands_of told)
      → new ≡ counts_taken old (length run) → IfOk result (λ both. both.0 ≡ told ++ both.1.batch ∷ []) → IfOk result (λ both. both.1.batch ≡ run)
      → IfOk result (λ both. new.taken ≡ length (commands_of both.0))
  taken_all (Ok both) old new told run taken is ends same = omega (arith, taken, ap (λ (w : Writer). w.taken) is, longer both told ends, ap length same)
  taken_all (Err refusal) old new told run taken is ends same = tt

  settled_all : (result : Result (List (List Taken) × Receipt D) E) (old new : Writer) (told : List (List Taken)) (run : List Taken) → old.settled ≡ length (commands_of told)
      → new ≡ counts_taken old (length run) → IfOk result (λ both. both.0 ≡ told ++ both.1.batch ∷ [])
      → IfOk result (λ both. new.settled + length both.1.batch ≡ length (commands_of both.0))
  settled_all (Ok both) old new told run settled is ends = omega (arith, settled, ap (λ (w : Writer). w.settled) is, longer both told ends)
  settled_all (Err refusal) old new told run settled is ends = tt

pub returns-clause-next : goal.returns-clause-next
returns-clause-next g c =
    let some : 1 ≤ length c.in-Ok.run'.commands = omega arith in
    next c.write_or_end.result c.args.writer.now c.take.new.writer c.args.publishing c.in-Ok.run'.commands c.requires.taken c.requires.settled c.in-Ok.ensures.next.counts some
    c.write_or_end.ensures.told c.write_or_end.ensures.batch

pub returns-clause-taken : goal.returns-clause-taken
returns-clause-taken g c =
    taken_all c.write_or_end.result c.args.writer.now c.take.new.writer c.args.publishing c.in-Ok.run'.commands c.requires.taken c.in-Ok.ensures.next.counts
    c.write_or_end.ensures.told c.write_or_end.ensures.batch

pub returns-clause-settled : goal.returns-clause-settled
returns-clause-settled g c =
    settled_all c.write_or_end.result c.args.writer.now c.take.new.writer c.args.publishing c.in-Ok.run'.commands c.requires.settled c.in-Ok.ensures.next.counts
    c.write_or_end.ensures.told
