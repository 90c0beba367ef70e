use Rattle.std.proofs.Common.{◌≡◌, ◌∙◌, Some, inl, refl, sym, ap, arith, rules}
use Rattle.milestone.specs.Revisions.{with_revision}
use Rattle.milestone.specs.Cells.{revisions_of}
use Rattle.milestone.specs.Together.{IsPutOr, closed_gate}
use Rattle.milestone.proofs.Stepping.{nothing_called, write_wider, one_step, gate_within, gate_left, gate_open, ready_within}
use Rattle.milestone.proofs.cells.Cells.write_opened.Goals as goal

-- nothing was called
pub returns-in_default-clause-any_moment : goal.returns-in_default-clause-any_moment
returns-in_default-clause-any_moment g c pair cell stand ready = nothing_called g.D.Disk c.args.self.now pair c.args.disk.now stand c.requires.end (IsPutOr cell pair) (inl refl)

pub returns-in_err-write_one-clause-any_moment : goal.returns-in_err-write_one-clause-any_moment
returns-in_err-write_one-clause-any_moment g c pair cell stand ready =
    let known : closed_gate c.args.self.now ≡ Some c.in-Some.gate = search rules in
    one_step g.D.Disk c.args.self.now pair c.args.disk.now stand c.requires.end (IsPutOr cell pair) c.in-Some.gate 1 c.write_one.new.disk c.write_one.ensures.any_moment
    (λ before content fits end agree same. gate_left before c.args.self.now pair fits end cell
    (ready_within c.args.self.now cell (g.D.Disk.seen c.args.disk.now) before agree ready) c.in-Some.gate known content same)

pub returns-in_err-write_one-clause-within : goal.returns-in_err-write_one-clause-within
returns-in_err-write_one-clause-within g c =
    let known : closed_gate c.args.self.now ≡ Some c.in-Some.gate = search rules in
    let inside = gate_within c.args.self.now c.in-Some.gate 0 known (omega (arith, c.args.self.now.size_low)) in
    write_wider g.D.Disk _ _ c.in-Some.gate 1 1 c.args.disk.now c.write_one.new.disk (omega (arith, inside.0)) (omega (arith, inside.1)) c.write_one.ensures.one

pub returns-clause-any_moment : goal.returns-clause-any_moment
returns-clause-any_moment g c pair cell stand ready =
    let known : closed_gate c.args.self.now ≡ Some c.in-Some.gate = search rules in
    one_step g.D.Disk c.args.self.now pair c.args.disk.now stand c.requires.end (IsPutOr cell pair) c.in-Some.gate 1 c.write_one.new.disk c.write_one.ensures.any_moment
    (λ before content fits end agree same. gate_left before c.args.self.now pair fits end cell
    (ready_within c.args.self.now cell (g.D.Disk.seen c.args.disk.now) before agree ready) c.in-Some.gate known content same)

pub returns-clause-within : goal.returns-clause-within
returns-clause-within g c =
    let known : closed_gate c.args.self.now ≡ Some c.in-Some.gate = search rules in
    let inside = gate_within c.args.self.now c.in-Some.gate 0 known (omega (arith, c.args.self.now.size_low)) in
    write_wider g.D.Disk _ _ c.in-Some.gate 1 1 c.args.disk.now c.write_one.new.disk (omega (arith, inside.0)) (omega (arith, inside.1)) c.write_one.ensures.one

pub returns-clause-done : goal.returns-clause-done
returns-clause-done g c pair cell closed is fits ready =
    let known : closed_gate c.args.self.now ≡ Some c.in-Some.gate = search rules in
    gate_open (g.D.Disk.seen c.args.disk.now) c.args.self.now pair fits c.requires.end cell ready c.in-Some.gate known
    (g.D.Disk.seen c.write_one.new.disk) _ c.in_ok-write_one.ensures.written c.note.ensures.same (c.note.ensures.revisions closed ∙ ap (λ r. with_revision r (revisions_of c.args.self.now)) (sym is))
