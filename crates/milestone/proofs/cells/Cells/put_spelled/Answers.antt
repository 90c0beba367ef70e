use Rattle.std.proofs.Common.{◌≡◌, ◌≢◌, ◌+◌, ◌∷◌, ◌∙◌, [], List, ℕ, None, Some, refl, ap, subst, rules}
use Rattle.disk.specs.Device.{overwritten}
use Rattle.disk.proofs.CallerLemmas.{leaves_map}
use Rattle.journal.specs.Area.{open_gate, frame, IsGated}
use Rattle.milestone.specs.CellSpelling.{cell_body}
use Rattle.milestone.proofs.Putting.{putting_first, putting_second, is_put_first, is_put_second}
use Rattle.milestone.proofs.cells.Cells.put_spelled.Goals as goal

-- into the first cell
pub returns-in_err-write_gated-clause-any_moment : goal.returns-in_err-write_gated-clause-any_moment
returns-in_err-write_gated-clause-any_moment g c pair synced fits =
    let bytes : c.args.bytes.now ≡ frame (cell_body c.args.self.now.number c.args.milestone.now) = c.requires.spelled in
    let none : c.args.self.now.first ≡ None = search rules in
    leaves_map (λ content gated.
    putting_first (g.D.Disk.seen c.args.disk.now) c.args.self.now pair fits c.requires.within c.args.milestone.now c.requires.is c.requires.fits none content
    (subst (λ (l : List ℕ). IsGated c.args.self.now.place l (g.D.Disk.seen c.args.disk.now) content) bytes gated))
    (c.write_gated.ensures.any_moment synced)

pub returns-then-is_none-clause-any_moment : goal.returns-then-is_none-clause-any_moment
returns-then-is_none-clause-any_moment g c pair synced fits =
    let bytes : c.args.bytes.now ≡ frame (cell_body c.args.self.now.number c.args.milestone.now) = c.requires.spelled in
    let none : c.args.self.now.first ≡ None = search rules in
    leaves_map (λ content gated.
    putting_first (g.D.Disk.seen c.args.disk.now) c.args.self.now pair fits c.requires.within c.args.milestone.now c.requires.is c.requires.fits none content
    (subst (λ (l : List ℕ). IsGated c.args.self.now.place l (g.D.Disk.seen c.args.disk.now) content) bytes gated))
    (c.write_gated.ensures.any_moment synced)

pub returns-then-is_none-clause-done : goal.returns-then-is_none-clause-done
returns-then-is_none-clause-done g c pair fits =
    let bytes : c.args.bytes.now ≡ frame (cell_body c.args.self.now.number c.args.milestone.now) = c.requires.spelled in
    let none : c.args.self.now.first ≡ None = search rules in
    is_put_first (g.D.Disk.seen c.args.disk.now) c.args.self.now pair fits c.requires.within c.args.milestone.now c.requires.is c.requires.fits none
    (g.D.Disk.seen c.write_gated.new.disk) _
    (c.in_ok-write_gated.ensures.seen ∙ ap (λ (l : List ℕ). overwritten (overwritten (g.D.Disk.seen c.args.disk.now) (c.args.self.now.place + 1) l) c.args.self.now.place (open_gate ∷ [])) bytes)
    refl refl refl (ap (λ n. Some n) c.revision.ensures.revision) refl

-- into the second one
pub returns-in_err-write_gated-2-clause-any_moment : goal.returns-in_err-write_gated-2-clause-any_moment
returns-in_err-write_gated-2-clause-any_moment g c pair synced fits =
    let bytes : c.args.bytes.now ≡ frame (cell_body c.args.self.now.number c.args.milestone.now) = c.requires.spelled in
    let there : c.args.self.now.first ≢ None = search rules in
    leaves_map (λ content gated.
    putting_second (g.D.Disk.seen c.args.disk.now) c.args.self.now pair fits c.requires.within c.args.milestone.now c.requires.is c.requires.fits there c.requires.closed content
    (subst (λ (l : List ℕ). IsGated (c.args.self.now.place + c.args.self.now.size) l (g.D.Disk.seen c.args.disk.now) content) bytes gated))
    (c.write_gated-2.ensures.any_moment synced)

pub returns-clause-any_moment : goal.returns-clause-any_moment
returns-clause-any_moment g c pair synced fits =
    let bytes : c.args.bytes.now ≡ frame (cell_body c.args.self.now.number c.args.milestone.now) = c.requires.spelled in
    let there : c.args.self.now.first ≢ None = search rules in
    leaves_map (λ content gated.
    putting_second (g.D.Disk.seen c.args.disk.now) c.args.self.now pair fits c.requires.within c.args.milestone.now c.requires.is c.requires.fits there c.requires.closed content
    (subst (λ (l : List ℕ). IsGated (c.args.self.now.place + c.args.self.now.size) l (g.D.Disk.seen c.args.disk.now) content) bytes gated))
    (c.write_gated-2.ensures.any_moment synced)

pub returns-clause-done : goal.returns-clause-done
returns-clause-done g c pair fits =
    let bytes : c.args.bytes.now ≡ frame (cell_body c.args.self.now.number c.args.milestone.now) = c.requires.spelled in
    let there : c.args.self.now.first ≢ None = search rules in
    is_put_second (g.D.Disk.seen c.args.disk.now) c.args.self.now pair fits c.requires.within c.args.milestone.now c.requires.is c.requires.fits there c.requires.closed
    (g.D.Disk.seen c.write_gated-2.new.disk) _
    (c.in_ok-write_gated-2.ensures.seen ∙ ap (λ (l : List ℕ). overwritten (overwritten (g.D.Disk.seen c.args.disk.now) (c.args.self.now.place + c.args.self.now.size + 1) l) (c.args.self.now.place + c.args.self.now.size) (open_gate ∷ [])) bytes)
    refl refl refl refl (ap (λ n. Some n) c.revision-2.ensures.revision)
