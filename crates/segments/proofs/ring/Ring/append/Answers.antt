use Rattle.std.proofs.Common.{refl, ap, subst, rules}
use Rattle.disk.proofs.CallerLemmas.{leaves_map, goes_on_run}
use Rattle.journal.specs.Area.{Place}
use Rattle.segments.specs.Ring.{IsReady, IsLeftReady}
use Rattle.segments.proofs.Appending.{stands, bodies_there, appending, appended_ring, left_ready, left_appending, fits_since}
use Rattle.segments.proofs.ring.Ring.append.Goals as goal

pub returns-in_err-area-clause-any_moment : goal.returns-in_err-area-clause-any_moment
returns-in_err-area-clause-any_moment g c table synced fits = leaves_map (λ content left. left_ready _ c.args.self.now table c.args.added.now content (subst (λ n. IsLeftReady (g.D.Disk.seen c.args.disk.now) c.args.self.now n table content) c.body_len.ensures.len left))
    (c.ready.ensures.any_moment table synced fits)

pub returns-in_err-append-clause-any_moment : goal.returns-in_err-append-clause-any_moment
returns-in_err-append-clause-any_moment g c table synced fits =
    let first = leaves_map (λ content left. left_ready _ c.args.self.now table c.args.added.now content (subst (λ n. IsLeftReady (g.D.Disk.seen c.args.disk.now) c.args.self.now n table content) c.body_len.ensures.len left))
    (c.ready.ensures.any_moment table synced fits) in
    let found = c.in_ok-area.ensures.ready.done table fits in
    let is_ready = subst (λ n. IsReady c.args.self.now n table found.0) c.body_len.ensures.len found.1 in
    let mid = g.D.Disk.seen c.ready.new.disk in
    let ring = c.ready.new.self in
    let area = c.in_ok-area.area in
    let newest = c.in_ok-area.ensures.ready.newest in
    let second = c.append.ensures.any_moment (bodies_there mid ring found.0 found.2.fits area newest) (c.in_ok-area.ensures.ready.synced synced) (stands mid ring found.0 found.2.fits area newest) in
    goes_on_run first (leaves_map (λ content left.
    left_appending _ mid c.args.self.now ring table found.0 c.args.added.now content is_ready c.ready.ensures.slots.places found.2.outside
    (appending mid ring found.0 found.2.fits area newest c.args.added.now content left)) second)

pub returns-clause-any_moment : goal.returns-clause-any_moment
returns-clause-any_moment g c table synced fits =
    let first = leaves_map (λ content left. left_ready _ c.args.self.now table c.args.added.now content (subst (λ n. IsLeftReady (g.D.Disk.seen c.args.disk.now) c.args.self.now n table content) c.body_len.ensures.len left))
    (c.ready.ensures.any_moment table synced fits) in
    let found = c.in_ok-area.ensures.ready.done table fits in
    let is_ready = subst (λ n. IsReady c.args.self.now n table found.0) c.body_len.ensures.len found.1 in
    let mid = g.D.Disk.seen c.ready.new.disk in
    let ring = c.ready.new.self in
    let area = c.in_ok-area.area in
    let newest = c.in_ok-area.ensures.ready.newest in
    let second = c.append.ensures.any_moment (bodies_there mid ring found.0 found.2.fits area newest) (c.in_ok-area.ensures.ready.synced synced) (stands mid ring found.0 found.2.fits area newest) in
    goes_on_run first (leaves_map (λ content left.
    left_appending _ mid c.args.self.now ring table found.0 c.args.added.now content is_ready c.ready.ensures.slots.places found.2.outside
    (appending mid ring found.0 found.2.fits area newest c.args.added.now content left)) second)

pub returns-clause-appended : goal.returns-clause-appended
returns-clause-appended g c = record {
  done = λ table fits.
      let found = c.in_ok-area.ensures.ready.done table fits in
      let is_ready = subst (λ n. IsReady c.args.self.now n table found.0) c.body_len.ensures.len found.1 in
      let mid = g.D.Disk.seen c.ready.new.disk in
      let new = g.D.Disk.seen c.append.new.disk in
      let ring = c.ready.new.self in
      let area = c.in_ok-area.area in
      let newest = c.in_ok-area.ensures.ready.newest in
      let done = c.in_ok-append.ensures.done (bodies_there mid ring found.0 found.2.fits area newest) (stands mid ring found.0 found.2.fits area newest) in
      let now = appended_ring mid ring found.0 found.2.fits area newest c.args.added.now new _ c.append.new.self done
      (ap (λ (p : Place). p.at) c.in_ok-append.ensures.place) (ap (λ (p : Place). p.size) c.in_ok-append.ensures.place) refl refl refl refl in
      (found.0, is_ready, now.0, now.1, fits_since (g.D.Disk.seen c.args.disk.now) mid new c.args.self.now ring c.ready.ensures.slots.places found.2.outside _ now.0 now.2);
  synced = search rules;
}
