use Rattle.std.proofs.Common.{refl, inr}
use Rattle.std.proofs.lemmas.Result.{on_ok_weaker}
use Rattle.disk.specs.Device.{NoStep}
use Rattle.server.proofs.Doing.{closed-there, filled-there, filled-new}
use Rattle.server.proofs.program.copy_from.Goals as goal

-- nothing was asked of the old store's device yet
pub returns-in-Err-clause-unwritten : goal.returns-in-Err-clause-unwritten
returns-in-Err-clause-unwritten g c = (_, NoStep refl, NoStep refl)

-- nothing was asked of the new file
pub returns-in-Err-shape-clause-had : goal.returns-in-Err-shape-clause-had
returns-in-Err-shape-clause-had g c =
    closed-there c.in-Ok.there (g.C.Calls.made c.file_there.new.calls) c.in-Ok.ensures.there c.in-Ok.ensures.missing c.in-Ok.ensures.untouched
    c.close_there.ensures.closed c.close_there.ensures.none

-- a file that was there
pub returns-in-Some-clause-had : goal.returns-in-Some-clause-had
returns-in-Some-clause-had g c =
    inr
    (filled-there c.in-Ok.there c.in-Some.to (g.C.Calls.made c.file_there.new.calls) c.in-Some.is c.in-Ok.ensures.there c.in-Ok.ensures.untouched
    c.copy_to.ensures.spared)

pub returns-in-Some-clause-kept : goal.returns-in-Some-clause-kept
returns-in-Some-clause-kept g c =
    on_ok_weaker c.copy_to.result.done
    (λ closes. filled-there c.in-Ok.there c.in-Some.to (g.C.Calls.made c.file_there.new.calls) c.in-Some.is c.in-Ok.ensures.there
    c.in-Ok.ensures.untouched (
      closes.0,
      record {
        read = c.shape_of-from.result.device;
        first = c.shape_of-from.ensures.only_synced.time;
        seen = c.shape_of-from.ensures.only_synced.seen;
        shape = c.with_numbers-shape.result;
        numbers = c.with_numbers-shape.ensures;
        brought = closes.1;
      },
      closes.2,
    ))
    c.copy_to.ensures.brought

-- one that was made
pub returns-in-Ok-make_for-clause-had : goal.returns-in-Ok-make_for-clause-had
returns-in-Ok-make_for-clause-had g c =
    inr
    (filled-new c.in-Ok.there c.in-Ok-make_for.to (g.C.Calls.made c.file_there.new.calls) (g.C.Calls.made c.make_for.new.calls) c.in-None.is
    c.in-Ok.ensures.missing c.in-Ok-make_for.ensures.kept c.copy_to-in-Ok-make_for.ensures.spared)

pub returns-in-Ok-make_for-clause-kept : goal.returns-in-Ok-make_for-clause-kept
returns-in-Ok-make_for-clause-kept g c =
    on_ok_weaker c.copy_to-in-Ok-make_for.result.done
    (λ closes. filled-new c.in-Ok.there c.in-Ok-make_for.to (g.C.Calls.made c.file_there.new.calls) (g.C.Calls.made c.make_for.new.calls) c.in-None.is
    c.in-Ok.ensures.missing c.in-Ok-make_for.ensures.kept (
      closes.0,
      record {
        read = c.shape_of-from.result.device;
        first = c.shape_of-from.ensures.only_synced.time;
        seen = c.shape_of-from.ensures.only_synced.seen;
        shape = c.with_numbers-shape.result;
        numbers = c.with_numbers-shape.ensures;
        brought = closes.1;
      },
      closes.2,
    ))
    c.copy_to-in-Ok-make_for.ensures.brought
