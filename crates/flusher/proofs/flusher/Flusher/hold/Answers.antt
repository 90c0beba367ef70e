use Rattle.std.proofs.Common.{refl, ap}
use Rattle.flusher.proofs.Holdings.{held_in, none_of_held}
use Rattle.flusher.proofs.Lasting.{surely_held}
use Rattle.flusher.proofs.flusher.Flusher.hold.Goals as goal

pub fill-requires : goal.fill-requires
fill-requires g c = record { none = none_of_held c.args.self.now.waiting c.requires.none.1 }

-- more batches were given
pub invariant_of-self-clause-lasts : goal.invariant_of-self-clause-lasts
invariant_of-self-clause-lasts g c =
    let before = c.args.self.now in
    surely_held before.begun before.opened.value before.publisher before.waiting _ c.args.run before.store (none_of_held before.waiting c.requires.none.1) c.fill.ensures.some before.lasts

pub returns : goal.returns
returns g c = record { store = refl; told = refl; committed = refl; waiting = ap held_in c.fill.ensures.some; opened = refl }
