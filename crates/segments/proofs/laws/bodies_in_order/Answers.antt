use Rattle.segments.proofs.Orders.{opened_bodies, appended_bodies, retired_bodies}
use Rattle.segments.proofs.laws.bodies_in_order.Goals as goal

pub returns-clause-opened : goal.returns-clause-opened
returns-clause-opened c = opened_bodies

pub returns-clause-appended : goal.returns-clause-appended
returns-clause-appended c = appended_bodies

pub returns-clause-retired : goal.returns-clause-retired
returns-clause-retired c = retired_bodies
