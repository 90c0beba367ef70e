use Rattle.std.proofs.Common.{false, ◌≡◌, inl, inr, rules}
use Rattle.disk.specs.Crash.{history_of}
use Rattle.disk.proofs.CallerLemmas.{begins, leaves_map}
use Rattle.segments.specs.Ring.{fits_newest}
use Rattle.segments.proofs.Rings.{same_ring}
use Rattle.segments.proofs.Appending.{opening_ready}
use Rattle.segments.proofs.ring.Ring.ready.Goals as goal

pub returns-in-Some-clause-any_moment : goal.returns-in-Some-clause-any_moment
returns-in-Some-clause-any_moment g c table synced fits = begins (history_of g.D.Disk c.args.disk.now) synced (inl (same_ring _ _ table fits))

pub returns-in_err-open_slot-clause-any_moment : goal.returns-in_err-open_slot-clause-any_moment
returns-in_err-open_slot-clause-any_moment g c table synced fits =
    let full : fits_newest c.args.self.now c.args.len ≡ false = search rules in
    leaves_map (opening_ready _ c.args.self.now c.args.len table full) (c.open_slot.ensures.any_moment table synced fits)

pub returns-clause-any_moment : goal.returns-clause-any_moment
returns-clause-any_moment g c table synced fits =
    let full : fits_newest c.args.self.now c.args.len ≡ false = search rules in
    leaves_map (opening_ready _ c.args.self.now c.args.len table full) (c.open_slot.ensures.any_moment table synced fits)

pub returns-clause-ready : goal.returns-clause-ready
returns-clause-ready g c =
    let full : fits_newest c.args.self.now c.args.len ≡ false = search rules in
    let opened = c.in_ok-open_slot.ensures.opened in
    record {
      newest = search rules;
      room = search rules;
      takes = inr opened.takes;
      done = λ table fits. let now = opened.done table fits in (now.0, inr (full, now.1), now.2);
      synced = λ synced. opened.synced;
    }
