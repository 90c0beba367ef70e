use Rattle.std.proofs.Common.{◌≡◌, ◌∙◌, ap, subst, sym}
use Rattle.view.specs.Published.{Published}
use Rattle.view.specs.Publishing.{Publishes}
use Rattle.view.specs.Stages.{IsLogged, IsTimed, held_in, moments_in}
use Rattle.view.proofs.Publishing.{logged, shown-publishes}
use Rattle.view.proofs.publisher.published.Goals as goal

pub add-next-requires-clause-moment : goal.add-next-requires-clause-moment
add-next-requires-clause-moment g c = subst (λ s. IsTimed g.D.Disk g.L.Life.start c.publisher.inside.told s) c.in-Held.is c.publisher.invariant.4

pub returns-in-Logged : goal.returns-in-Logged
returns-in-Logged g c =
    let told = c.publisher.inside.told in
    let log = c.publisher.inside.log in
    let given : logged told c.in-Logged.receipt log.moments ≡ c.args.publisher =
    ap (λ s. record { told = told; unpublished = held_in s; moments = moments_in g.D.Disk log.moments s }) (sym c.in-Logged.is) ∙ c.publisher.view_is in
    let ends = subst (λ s. IsLogged log.batches told s) c.in-Logged.is c.publisher.invariant.2 in
    subst (λ (p : Published). Publishes p c.queued-in-Logged.result.1 c.queued-in-Logged.result.0) given
    (shown-publishes told c.in-Logged.receipt c.in-Logged.next log.moments _ _ ends.1 c.queued-in-Logged.ensures)

pub returns-in-Queued : goal.returns-in-Queued
returns-in-Queued g c =
    let told = c.publisher.inside.told in
    let log = c.publisher.inside.log in
    let given : logged told c.in-Queued.receipt log.moments ≡ c.args.publisher =
    ap (λ s. record { told = told; unpublished = held_in s; moments = moments_in g.D.Disk log.moments s }) (sym c.in-Queued.is) ∙ c.publisher.view_is in
    let ends = subst (λ s. IsLogged log.batches told s) c.in-Queued.is c.publisher.invariant.2 in
    subst (λ (p : Published). Publishes p c.shown.result.1 c.shown.result.0) given
    (shown-publishes told c.in-Queued.receipt c.in-Queued.next log.moments _ _ ends.1 c.shown.ensures)
