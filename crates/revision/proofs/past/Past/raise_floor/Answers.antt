use Rattle.std.proofs.Common.{◌≡◌, ◌+◌, max, ap, ◌∙◌, arith}
use Rattle.std.specs.Prelude.{min}
use Rattle.revision.specs.Floors.{raised}
use Rattle.revision.specs.Past.{Prepared}
use Rattle.revision.specs.steps.PastView.{parts_of}
use Rattle.revision.proofs.Raising.{raise_is}
use Rattle.revision.proofs.past.Past.raise_floor.Goals as goal

pub returns : goal.returns
returns c =
    let floor_is : c.max-self-inside.result ≡ max c.self.inside.floor (min c.args.revision (c.self.inside.start + c.self.inside.count)) =
    omega (arith, c.max-self-inside.ensures, c.min.ensures) in
    raise_is (parts_of c.self.inside) c.self.invariant c.args.revision c.max-self-inside.result floor_is
    ∙ ap (λ (p : Prepared). record p { past = raised c.args.revision p.past }) c.self.view_is
