use Rattle.std.proofs.Common.{◌≡◌, ◌≤◌, ◌⊎◌, inl, inr, ℕ, [], length, rules, arith, ap, subst}
use Rattle.recovery.specs.Open.{FitsSlot, state_of}
use Rattle.flusher.specs.Flushers.{cap_of}
use Rattle.flusher.specs.Holding.{store_of}
use Rattle.flusher.proofs.CallerLemmas.{fits_slot}
use Rattle.turns.proofs.CallerLemmas.{at_held}
use Rattle.test_flusher.proofs.shows.hold_next.Goals as goal

-- a run that isn't empty has no more bytes than it was asked for
pub hold-requires-clause-fits : goal.hold-requires-clause-fits
hold-requires-clause-fits g c =
    by_case _ (λ width. (fits_slot (state_of (store_of c.args.flusher.now)) c.in-Ok.run'.commands width).1) c.in-Ok.ensures.next.fits where
      by_case : (width : ℕ) → (width ≤ cap_of (state_of (store_of c.args.flusher.now)) → FitsSlot (state_of (store_of c.args.flusher.now)) c.in-Ok.run'.commands)
          → (c.in-Ok.run'.commands ≡ []) ⊎ (width ≤ c.cap.result) → FitsSlot (state_of (store_of c.args.flusher.now)) c.in-Ok.run'.commands
      by_case width fits (inl none) =
          let zero : length c.in-Ok.run'.commands ≡ 0 = ap length none in
          let some : 1 ≤ length c.in-Ok.run'.commands = search rules in
          let never : ◌≡◌ {A = ℕ} 1 0 = omega (arith, some, zero) in
          cc
      by_case width fits (inr short) = fits (subst (λ (n : ℕ). width ≤ n) c.cap.ensures short)

pub returns : goal.returns
returns g c = record {
  at = at_held c.args.writer.now c.take.new.writer c.args.flusher.now c.hold.new.self c.in-Ok.run'.commands c.requires.nothing.0 c.requires.nothing.1 c.in-Ok.ensures.next.counts c.hold.ensures
      c.requires.at;
}
