use Rattle.std.proofs.Common.{◌≡◌, ◌≤◌, ◌+◌, ◌*◌, ◌∷◌, [], length, inl, ℕ, refl, ap, subst, rules, ◌∙◌, arith}
use Rattle.disk.specs.Device.{overwritten, SameOutside, History}
use Rattle.disk.specs.Crash.{history_of}
use Rattle.disk.proofs.CallerLemmas.{begins, goes_on_first_write, goes_on_sync, costs_write, costs_sync}
use Rattle.segments.specs.Numbers.{IsOldest, open_count}
use Rattle.segments.specs.Ring.{known_numbers}
use Rattle.segments.proofs.Costing.{failed_sync}
use Rattle.segments.proofs.Rings.{same_ring}
use Rattle.segments.proofs.Retiring.{gate_outside, retiring, retired_ring}
use Rattle.segments.proofs.ring.Ring.retire_oldest.Goals as goal

-- nothing was called
pub returns-in_default-clause-any_moment : goal.returns-in_default-clause-any_moment
returns-in_default-clause-any_moment g c table synced fits = begins (history_of g.D.Disk c.args.disk.now) synced (inl (same_ring _ _ table fits))

pub returns-in_err-write_at-clause-any_moment : goal.returns-in_err-write_at-clause-any_moment
returns-in_err-write_at-clause-any_moment g c table synced fits =
    let ring = c.args.self.now in
    let old = g.D.Disk.seen c.args.disk.now in
    let slot = c.in-Some.slot in
    let oldest : (n : ℕ) × IsOldest (known_numbers ring) slot n = search rules in
    let two : 2 ≤ open_count (known_numbers ring) = search rules in
    let first = begins (history_of g.D.Disk c.args.disk.now) synced (inl (same_ring _ _ table fits)) in
    goes_on_first_write first synced c.write_at.ensures.time (search rules) (λ content same.
    retiring old ring table fits c.requires.within slot oldest.0 oldest.1 two content (subst (λ n. SameOutside n 1 old content) c.place-place.ensures.place same))

pub returns-in_err-sync-clause-any_moment : goal.returns-in_err-sync-clause-any_moment
returns-in_err-sync-clause-any_moment g c table synced fits =
    let ring = c.args.self.now in
    let old = g.D.Disk.seen c.args.disk.now in
    let slot = c.in-Some.slot in
    let oldest : (n : ℕ) × IsOldest (known_numbers ring) slot n = search rules in
    let two : 2 ≤ open_count (known_numbers ring) = search rules in
    let first = begins (history_of g.D.Disk c.args.disk.now) synced (inl (same_ring _ _ table fits)) in
    goes_on_sync (goes_on_first_write first synced c.write_at.ensures.time (search rules) (λ content same.
    retiring old ring table fits c.requires.within slot oldest.0 oldest.1 two content (subst (λ n. SameOutside n 1 old content) c.place-place.ensures.place same))) c.sync.ensures.time

pub returns-clause-any_moment : goal.returns-clause-any_moment
returns-clause-any_moment g c table synced fits =
    let ring = c.args.self.now in
    let old = g.D.Disk.seen c.args.disk.now in
    let slot = c.in-Some.slot in
    let oldest : (n : ℕ) × IsOldest (known_numbers ring) slot n = search rules in
    let two : 2 ≤ open_count (known_numbers ring) = search rules in
    let first = begins (history_of g.D.Disk c.args.disk.now) synced (inl (same_ring _ _ table fits)) in
    goes_on_sync (goes_on_first_write first synced c.write_at.ensures.time (search rules) (λ content same.
    retiring old ring table fits c.requires.within slot oldest.0 oldest.1 two content (subst (λ n. SameOutside n 1 old content) c.place-place.ensures.place same))) c.sync.ensures.time

pub returns-clause-retired : goal.returns-clause-retired
returns-clause-retired g c = record {
  takes = search rules;
  done = λ table fits.
      let ring = c.args.self.now in
      let old = g.D.Disk.seen c.args.disk.now in
      let new = g.D.Disk.seen c.sync.new.self in
      let slot = c.in-Some.slot in
      let oldest : (n : ℕ) × IsOldest (known_numbers ring) slot n = search rules in
      let two : 2 ≤ open_count (known_numbers ring) = search rules in
      let seen : new ≡ overwritten old (ring.at + slot * ring.size) (0 ∷ []) = c.sync.ensures.seen ∙ c.in_ok-write_at.ensures.written ∙ ap (λ k. overwritten old k (0 ∷ [])) c.place-place.ensures.place in
      retired_ring old ring table fits c.requires.within slot oldest.0 oldest.1 two new _ seen refl refl refl refl;
  synced = search rules;
}

-- what stands outside the gate
pub returns-in_default-clause-outside : goal.returns-in_default-clause-outside
returns-in_default-clause-outside g c = inl refl

pub returns-in_err-write_at-clause-outside : goal.returns-in_err-write_at-clause-outside
returns-in_err-write_at-clause-outside g c =
    let oldest : (n : ℕ) × IsOldest (known_numbers c.args.self.now) c.in-Some.slot n = search rules in
    gate_outside c.args.self.now c.in-Some.slot oldest.0 _ oldest.1 c.place-place.ensures.place (history_of g.D.Disk c.args.disk.now) (history_of g.D.Disk c.write_at.new.self)
    c.write_at.ensures.time _ refl

pub returns-in_err-sync-clause-outside : goal.returns-in_err-sync-clause-outside
returns-in_err-sync-clause-outside g c =
    let oldest : (n : ℕ) × IsOldest (known_numbers c.args.self.now) c.in-Some.slot n = search rules in
    gate_outside c.args.self.now c.in-Some.slot oldest.0 _ oldest.1 c.place-place.ensures.place (history_of g.D.Disk c.args.disk.now) (history_of g.D.Disk c.write_at.new.self)
    c.write_at.ensures.time _ c.sync.ensures.seen

pub returns-clause-outside : goal.returns-clause-outside
returns-clause-outside g c =
    let oldest : (n : ℕ) × IsOldest (known_numbers c.args.self.now) c.in-Some.slot n = search rules in
    gate_outside c.args.self.now c.in-Some.slot oldest.0 _ oldest.1 c.place-place.ensures.place (history_of g.D.Disk c.args.disk.now) (history_of g.D.Disk c.write_at.new.self)
    c.write_at.ensures.time _ c.sync.ensures.seen

-- what it costs
pub returns-in_err-write_at-clause-costs : goal.returns-in_err-write_at-clause-costs
returns-in_err-write_at-clause-costs g c =
    let write = costs_write _ _ _ _ c.write_at.ensures.time in
    record {
      calls = omega (arith, write.0);
      every_call = omega (arith, write.0, c.in_err-write_at.ensures.failed);
      syncs = omega (arith, write.1, c.in_err-write_at.ensures.failed);
    }

pub returns-in_err-sync-clause-costs : goal.returns-in_err-sync-clause-costs
returns-in_err-sync-clause-costs g c =
    let write = costs_write _ _ _ _ c.write_at.ensures.time in
    let sync = costs_sync _ _ c.sync.ensures.time in
    let same = failed_sync c.sync.ensures.time (c.in_err-sync.ensures.open ∙ c.in_ok-write_at.ensures.opened) in
    let still : length (g.D.Disk.past c.sync.new.self) ≡ length (g.D.Disk.past c.write_at.new.self) = ap (λ (h : History). length h.past) same in
    record {
      calls = omega (arith, write.0, sync.0);
      every_call = omega (arith, write.0, still, c.in_ok-write_at.ensures.good.0, c.in_err-sync.ensures.failed);
      syncs = omega (arith, write.1, sync.1, c.in_ok-write_at.ensures.good.0, c.in_err-sync.ensures.failed);
    }

pub returns-clause-costs : goal.returns-clause-costs
returns-clause-costs g c =
    let write = costs_write _ _ _ _ c.write_at.ensures.time in
    let sync = costs_sync _ _ c.sync.ensures.time in
    record {
      calls = omega (arith, write.0, sync.0);
      every_call = omega (arith, write.0, sync.0, c.in_ok-write_at.ensures.good.0, c.in_ok-sync.ensures.good.0);
      syncs = omega (arith, write.1, sync.1, c.in_ok-write_at.ensures.good.0, c.in_ok-sync.ensures.good.0);
    }
