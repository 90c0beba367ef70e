use Rattle.std.proofs.Common.{◌≡◌, ◌≤◌, ◌+◌, ◌++◌, ◌∷◌, [], List, ℕ, length, inl, refl, sym, ap, ◌∙◌, subst, arith, rules, ◌<◌}
use Rattle.disk.specs.Device.{overwritten}
use Rattle.disk.specs.Crash.{history_of}
use Rattle.disk.proofs.CallerLemmas.{begins, leaves_map}
use Rattle.journal.specs.Area.{Place, IsAppended, IsGated, frame, open_gate}
use Rattle.journal.proofs.Areas.{before_or_after, after}
use Rattle.journal.proofs.area.Area.append.Goals as goal

-- nothing was called
pub returns-then-not-has_room-clause-any_moment : goal.returns-then-not-has_room-clause-any_moment
returns-then-not-has_room-clause-any_moment g c bodies synced stands =
    begins (history_of g.D.Disk c.args.disk.now) synced (record { outside = record { same_length = refl; before = refl; after = refl }; holds = inl stands.holds })

pub returns-in_err-write_gated-clause-any_moment : goal.returns-in_err-write_gated-clause-any_moment
returns-in_err-write_gated-clause-any_moment g c bodies synced stands =
    let old = g.D.Disk.seen c.args.disk.now in
    let place = c.args.self.now in
    let gate : c.self.inside.at + c.self.inside.next ≡ place.at + place.next = ap (λ (p : Place). p.at + p.next) c.self.view_is in
    let bytes : c.behind_gate.result.now ≡ frame c.args.added.now ++ 0 ∷ [] = c.behind_gate.ensures in
    let room : place.next + 6 + length c.args.added.now ≤ place.size = search rules in
    let sizes : c.self.inside.size ≡ place.size = ap (λ (p : Place). p.size) c.self.view_is in
    let body = c.body_len-len.ensures.body in
    let inside : place.next < place.size = omega arith in
    leaves_map (λ content left.
    before_or_after old place bodies stands inside c.requires.within c.args.added.now body.some body.short room content
    (subst (λ (l : List ℕ). IsGated (place.at + place.next) l old content) bytes (subst (λ k. IsGated k c.behind_gate.result.now old content) gate left)))
    (c.write_gated.ensures.any_moment synced)

pub returns-clause-any_moment : goal.returns-clause-any_moment
returns-clause-any_moment g c bodies synced stands =
    let old = g.D.Disk.seen c.args.disk.now in
    let place = c.args.self.now in
    let gate : c.self.inside.at + c.self.inside.next ≡ place.at + place.next = ap (λ (p : Place). p.at + p.next) c.self.view_is in
    let bytes : c.behind_gate.result.now ≡ frame c.args.added.now ++ 0 ∷ [] = c.behind_gate.ensures in
    let room : place.next + 6 + length c.args.added.now ≤ place.size = search rules in
    let sizes : c.self.inside.size ≡ place.size = ap (λ (p : Place). p.size) c.self.view_is in
    let body = c.body_len-len.ensures.body in
    let inside : place.next < place.size = omega arith in
    leaves_map (λ content left.
    before_or_after old place bodies stands inside c.requires.within c.args.added.now body.some body.short room content
    (subst (λ (l : List ℕ). IsGated (place.at + place.next) l old content) bytes (subst (λ k. IsGated k c.behind_gate.result.now old content) gate left)))
    (c.write_gated.ensures.any_moment synced)

pub returns-clause-done : goal.returns-clause-done
returns-clause-done g c bodies stands =
    let old = g.D.Disk.seen c.args.disk.now in
    let place = c.args.self.now in
    let gate : c.self.inside.at + c.self.inside.next ≡ place.at + place.next = ap (λ (p : Place). p.at + p.next) c.self.view_is in
    let bytes : c.behind_gate.result.now ≡ frame c.args.added.now ++ 0 ∷ [] = c.behind_gate.ensures in
    let room : place.next + 6 + length c.args.added.now ≤ place.size = search rules in
    let sizes : c.self.inside.size ≡ place.size = ap (λ (p : Place). p.size) c.self.view_is in
    let body = c.body_len-len.ensures.body in
    let inside : place.next < place.size = omega arith in
    let next : c.self.inside.next + (5 + c.body_len-len.result) ≡ place.next + 5 + length c.args.added.now = omega (arith, ap (λ (p : Place). p.next) c.self.view_is, c.body_len-len.ensures.len) in
    let seen : g.D.Disk.seen c.write_gated.new.disk ≡ overwritten (overwritten old (place.at + place.next + 1) (frame c.args.added.now ++ 0 ∷ [])) (place.at + place.next) (open_gate ∷ []) =
    c.in_ok-write_gated.ensures.seen
    ∙ ap (λ k. overwritten (overwritten old (k + 1) c.behind_gate.result.now) k (open_gate ∷ [])) gate
    ∙ ap (λ (l : List ℕ). overwritten (overwritten old (place.at + place.next + 1) l) (place.at + place.next) (open_gate ∷ [])) bytes in
    let done = after old place bodies stands inside c.requires.within c.args.added.now body.some body.short room (g.D.Disk.seen c.write_gated.new.disk) (c.self.inside.next + (5 + c.body_len-len.result)) seen next in
    subst (λ (p : Place). IsAppended old place bodies c.args.added.now (g.D.Disk.seen c.write_gated.new.disk) (record p { next = c.self.inside.next + (5 + c.body_len-len.result) })) (sym c.self.view_is) done
