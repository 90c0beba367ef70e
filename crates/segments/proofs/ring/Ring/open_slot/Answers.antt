use Rattle.std.proofs.Common.{◌≡◌, ◌+◌, ◌∷◌, [], List, ℕ, inl, refl, ap, subst, rules, ◌∙◌}
use Rattle.disk.specs.Device.{overwritten}
use Rattle.disk.specs.Crash.{history_of}
use Rattle.disk.proofs.CallerLemmas.{begins, leaves_map}
use Rattle.journal.specs.Area.{Place, open_gate, IsGated}
use Rattle.segments.specs.Table.{slot_place}
use Rattle.segments.proofs.Slots.{head_of}
use Rattle.segments.proofs.Rings.{same_ring, opening, opened_ring}
use Rattle.segments.proofs.ring.Ring.open_slot.Goals as goal

-- nothing was called
pub returns-in_default-clause-any_moment : goal.returns-in_default-clause-any_moment
returns-in_default-clause-any_moment g c table synced fits = begins (history_of g.D.Disk c.args.disk.now) synced (inl (same_ring _ _ table fits))

pub returns-in_err-write_gated-clause-any_moment : goal.returns-in_err-write_gated-clause-any_moment
returns-in_err-write_gated-clause-any_moment g c table synced fits =
    let ring = c.args.self.now in
    let old = g.D.Disk.seen c.args.disk.now in
    let slot = c.in-Some.slot in
    let number = c.in-Some.number in
    leaves_map (λ content gated.
    opening old ring table fits c.requires.within slot number (search rules) (search rules) content (subst (λ place. IsGated place (head_of number) old content) c.place-place.ensures.place (search rules)))
    (c.write_gated.ensures.any_moment synced)

pub returns-clause-any_moment : goal.returns-clause-any_moment
returns-clause-any_moment g c table synced fits =
    let ring = c.args.self.now in
    let old = g.D.Disk.seen c.args.disk.now in
    let slot = c.in-Some.slot in
    let number = c.in-Some.number in
    leaves_map (λ content gated.
    opening old ring table fits c.requires.within slot number (search rules) (search rules) content (subst (λ place. IsGated place (head_of number) old content) c.place-place.ensures.place (search rules)))
    (c.write_gated.ensures.any_moment synced)

pub returns-clause-opened : goal.returns-clause-opened
returns-clause-opened g c = record {
  takes = search rules;
  room = search rules;
  done = λ table fits.
      let ring = c.args.self.now in
      let old = g.D.Disk.seen c.args.disk.now in
      let new = g.D.Disk.seen c.write_gated.new.disk in
      let slot = c.in-Some.slot in
      let number = c.in-Some.number in
      let place = slot_place ring.at ring.size slot in
      let head : c.head.result ≡ head_of number = search rules in
      let seen : new ≡ overwritten (overwritten old (place + 1) (head_of number)) place (open_gate ∷ []) =
      c.in_ok-write_gated.ensures.seen
      ∙ ap (λ k. overwritten (overwritten old (k + 1) c.head.result) k (open_gate ∷ [])) c.place-place.ensures.place
      ∙ ap (λ (l : List ℕ). overwritten (overwritten old (place + 1) l) place (open_gate ∷ [])) head in
      let begins : c.empty.result.at ≡ place + 9 = ap (λ (p : Place). p.at) c.empty.ensures ∙ ap (λ k. k + 9) c.place-place.ensures.place in
      opened_ring old ring table fits c.requires.within slot number (search rules) (search rules) new _ c.empty.result seen refl refl refl refl
      begins (ap (λ (p : Place). p.size) c.empty.ensures) (ap (λ (p : Place). p.next) c.empty.ensures);
  synced = search rules;
}
