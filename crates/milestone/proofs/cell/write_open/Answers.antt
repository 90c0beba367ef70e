use Rattle.std.proofs.Common.{◌≡◌, ◌+◌, ◌≤◌, ℕ, Some, List, [], ◌∷◌, length, ap, ◌∙◌, arith}
use Rattle.disk.specs.Device.{overwritten}
use Rattle.disk.proofs.CallerLemmas.{leaves_map, same_outside_wider}
use Rattle.journal.specs.Area.{frame, open_gate}
use Rattle.milestone.specs.CellSpelling.{cell_body}
use Rattle.milestone.proofs.Holding.{first_changed, put_cell, put_outside}
use Rattle.milestone.proofs.cell.write_open.Goals as goal

framed_long : (bytes body : List ℕ) (size : ℕ) → bytes ≡ frame body → 5 + length body ≤ size → 1 + length bytes ≤ size
framed_long bytes body size is fits = omega (arith, ap (length {A = ℕ}) is, fits, long)
  where
    long : length (frame body) ≡ 4 + length body
    long = omega arith

pub returns-in_err-write_both-clause-any_moment : goal.returns-in_err-write_both-clause-any_moment
returns-in_err-write_both-clause-any_moment g c =
    let is = c.deref.ensures.value ∙ c.in_ok-bytes.ensures.bytes in
    let short = framed_long c.deref.result.now (cell_body c.args.number c.args.milestone.now) c.args.size is c.requires.fits in
    leaves_map (λ content left. record {
      before = left.before;
      left = left.left;
      outside = same_outside_wider c.args.place c.args.size c.args.place (1 + length c.deref.result.now) left.before content (omega arith) (omega (arith, short)) left.outside;
    }) c.write_both.ensures.any_moment

pub returns-clause-any_moment : goal.returns-clause-any_moment
returns-clause-any_moment g c =
    let is = c.deref.ensures.value ∙ c.in_ok-bytes.ensures.bytes in
    let short = framed_long c.deref.result.now (cell_body c.args.number c.args.milestone.now) c.args.size is c.requires.fits in
    leaves_map (λ content left. record {
      before = left.before;
      left = left.left;
      outside = same_outside_wider c.args.place c.args.size c.args.place (1 + length c.deref.result.now) left.before content (omega arith) (omega (arith, short)) left.outside;
    }) c.write_both.ensures.any_moment

-- the first cell has changed, and the second one hasn't
pub returns-clause-held : goal.returns-clause-held
returns-clause-held g c pair holds =
    let is = c.deref.ensures.value ∙ c.in_ok-bytes.ensures.bytes in
    let old = g.D.Disk.seen c.args.disk.now in
    let new = g.D.Disk.seen c.write_both.new.disk in
    let within : c.args.place + c.args.size ≤ length old = omega (arith, c.requires.within) in
    let written : new ≡ overwritten (overwritten old (c.args.place + 1) (frame (cell_body c.args.number c.args.milestone.now))) c.args.place (open_gate ∷ []) =
    c.in_ok-write_both.ensures.written ∙ ap (λ (l : List ℕ). overwritten (overwritten old (c.args.place + 1) l) c.args.place (open_gate ∷ [])) is in
    first_changed c.args.place c.args.size c.args.number old new (Some c.args.milestone.now) pair
    (put_outside c.args.place c.args.size c.args.number old c.args.milestone.now c.requires.is c.requires.fits within new written) holds
    (put_cell c.args.place c.args.size c.args.number old c.args.milestone.now c.requires.is c.requires.fits within new written)

pub returns-clause-outside : goal.returns-clause-outside
returns-clause-outside g c =
    let is = c.deref.ensures.value ∙ c.in_ok-bytes.ensures.bytes in
    put_outside c.args.place c.args.size c.args.number (g.D.Disk.seen c.args.disk.now) c.args.milestone.now c.requires.is c.requires.fits (omega (arith, c.requires.within))
    (g.D.Disk.seen c.write_both.new.disk)
    (c.in_ok-write_both.ensures.written ∙ ap (λ (l : List ℕ). overwritten (overwritten (g.D.Disk.seen c.args.disk.now) (c.args.place + 1) l) c.args.place (open_gate ∷ [])) is)
