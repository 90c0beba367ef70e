use Rattle.std.proofs.Common.{ℕ, ◌+◌, ◌≡◌, ◌∙◌, None, Some, refl, sym, subst, arith, length, rules}
use Rattle.std.proofs.lemmas.Option.{none-some, same_Some}
use Rattle.milestone.specs.Together.{WriteWithin, closed_gate}
use Rattle.milestone.proofs.Stepping.{nothing_called, write_wider, one_step, gate_within, body_left, body_now, body_ready}
use Rattle.milestone.proofs.cells.Cells.write_body.Goals as goal

-- nothing was called
pub returns-in_default-clause-any_moment : goal.returns-in_default-clause-any_moment
returns-in_default-clause-any_moment g c pair stand = nothing_called g.D.Disk c.args.self.now pair c.args.disk.now stand c.requires.end (λ left. left ≡ pair) refl

pub returns-in_default-clause-narrow : goal.returns-in_default-clause-narrow
returns-in_default-clause-narrow g c gate is =
    let none : closed_gate c.args.self.now ≡ None = search rules in
    absurd (none-some gate (sym none ∙ is))

pub returns-in_err-write_one-clause-any_moment : goal.returns-in_err-write_one-clause-any_moment
returns-in_err-write_one-clause-any_moment g c pair stand =
    let known : closed_gate c.args.self.now ≡ Some c.in-Some.gate = search rules in
    one_step g.D.Disk c.args.self.now pair c.args.disk.now stand c.requires.end (λ left. left ≡ pair) (c.in-Some.gate + 1) (length c.args.bytes.now) c.write_one.new.disk c.write_one.ensures.any_moment
    (λ before content fits end agree same. body_left before c.args.self.now pair fits c.in-Some.gate (length c.args.bytes.now) known c.requires.short content same)

pub returns-in_err-write_one-clause-done : goal.returns-in_err-write_one-clause-done
returns-in_err-write_one-clause-done g c pair fits =
    let known : closed_gate c.args.self.now ≡ Some c.in-Some.gate = search rules in
    body_now (g.D.Disk.seen c.args.disk.now) c.args.self.now pair fits c.in-Some.gate (length c.args.bytes.now) known c.requires.short (g.D.Disk.seen c.write_one.new.disk) c.write_one.ensures.one.outside

pub returns-in_err-write_one-clause-within : goal.returns-in_err-write_one-clause-within
returns-in_err-write_one-clause-within g c =
    let known : closed_gate c.args.self.now ≡ Some c.in-Some.gate = search rules in
    let inside = gate_within c.args.self.now c.in-Some.gate (length c.args.bytes.now) known c.requires.short in
    write_wider g.D.Disk _ _ (c.in-Some.gate + 1) (length c.args.bytes.now) 1 c.args.disk.now c.write_one.new.disk (omega (arith, inside.0)) (omega (arith, inside.1)) c.write_one.ensures.one

pub returns-in_err-write_one-clause-narrow : goal.returns-in_err-write_one-clause-narrow
returns-in_err-write_one-clause-narrow g c gate is =
    let known : closed_gate c.args.self.now ≡ Some c.in-Some.gate = search rules in
    subst (λ (k : ℕ). WriteWithin g.D.Disk (k + 1) (length c.args.bytes.now) 1 c.args.disk.now c.write_one.new.disk) (same_Some c.in-Some.gate gate (sym known ∙ is)) c.write_one.ensures.one

pub returns-clause-any_moment : goal.returns-clause-any_moment
returns-clause-any_moment g c pair stand =
    let known : closed_gate c.args.self.now ≡ Some c.in-Some.gate = search rules in
    one_step g.D.Disk c.args.self.now pair c.args.disk.now stand c.requires.end (λ left. left ≡ pair) (c.in-Some.gate + 1) (length c.args.bytes.now) c.write_one.new.disk c.write_one.ensures.any_moment
    (λ before content fits end agree same. body_left before c.args.self.now pair fits c.in-Some.gate (length c.args.bytes.now) known c.requires.short content same)

pub returns-clause-done : goal.returns-clause-done
returns-clause-done g c pair fits =
    let known : closed_gate c.args.self.now ≡ Some c.in-Some.gate = search rules in
    body_now (g.D.Disk.seen c.args.disk.now) c.args.self.now pair fits c.in-Some.gate (length c.args.bytes.now) known c.requires.short (g.D.Disk.seen c.write_one.new.disk) c.write_one.ensures.one.outside

pub returns-clause-within : goal.returns-clause-within
returns-clause-within g c =
    let known : closed_gate c.args.self.now ≡ Some c.in-Some.gate = search rules in
    let inside = gate_within c.args.self.now c.in-Some.gate (length c.args.bytes.now) known c.requires.short in
    write_wider g.D.Disk _ _ (c.in-Some.gate + 1) (length c.args.bytes.now) 1 c.args.disk.now c.write_one.new.disk (omega (arith, inside.0)) (omega (arith, inside.1)) c.write_one.ensures.one

pub returns-clause-narrow : goal.returns-clause-narrow
returns-clause-narrow g c gate is =
    let known : closed_gate c.args.self.now ≡ Some c.in-Some.gate = search rules in
    subst (λ (k : ℕ). WriteWithin g.D.Disk (k + 1) (length c.args.bytes.now) 1 c.args.disk.now c.write_one.new.disk) (same_Some c.in-Some.gate gate (sym known ∙ is)) c.write_one.ensures.one

pub returns-clause-ready : goal.returns-clause-ready
returns-clause-ready g c cell room is =
    let known : closed_gate c.args.self.now ≡ Some c.in-Some.gate = search rules in
    let inside = gate_within c.args.self.now c.in-Some.gate (length c.args.bytes.now) known c.requires.short in
    body_ready c.args.self.now c.in-Some.gate c.args.bytes.now (g.D.Disk.seen c.args.disk.now) (g.D.Disk.seen c.write_one.new.disk) known (omega (arith, inside.1, c.requires.end)) c.in_ok-write_one.ensures.written cell room is
