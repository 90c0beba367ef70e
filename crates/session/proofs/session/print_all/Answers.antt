use Rattle.std.proofs.Common.{◌≡◌, [], ap, rules}
use Rattle.std.proofs.lemmas.List.{nil_from_length}
use Rattle.std.specs.List.{flat_map}
use Rattle.session.specs.steps.DueText.{due_text}
use Rattle.session.proofs.Pages.{front-none, front-more, front-end}
use Rattle.session.proofs.session.print_all.Goals as goal

pub loop-due-init : goal.loop-due-init
loop-due-init g c = front-none c.args.out.now c.args.page.now (flat_map due_text c.args.lines.now)

pub loop-due-preserved : goal.loop-due-preserved
loop-due-preserved g c = front-more (ap (flat_map due_text) c.in-Some.ensures.cases.0) c.loop-due.invariant c.print.ensures

pub returns : goal.returns
returns g c =
    let none : c.loop-due.rest.now ≡ [] = nil_from_length c.loop-due.rest.now (search rules) in
    front-end (ap (flat_map due_text) none) c.loop-due.invariant
