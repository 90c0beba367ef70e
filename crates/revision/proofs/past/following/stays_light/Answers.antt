use Rattle.std.proofs.Common.{◌≡◌, ◌+◌, ◌<◌, ◌^◌, ◌-◌, min, sym, ap, subst, ◌∙◌}
use Rattle.std.specs.Prelude.{◌&&◌, nat_le}
use Rattle.document.specs.Weight as document
use Rattle.revision.specs.Past.{units_after}
use Rattle.revision.specs.Sources.{with_taken}
use Rattle.revision.specs.State.{stands, weight_after, weight_of_sources}
use Rattle.revision.proofs.Light.{light_sum}
use Rattle.revision.proofs.past.following.stays_light.Goals as goal

pub returns-in-Ok : goal.returns-in-Ok
returns-in-Ok c =
    let taken = c.args.taken.now in
    let units = c.args.document.now in
    let weight = document.weight_of (units_after units taken.step taken.delta) in
    let sources = weight_of_sources c.args.limits (with_taken taken.source taken.number taken.revision c.args.sources.now) in
    let limit : c.from.result ≡ c.args.limits.weight = c.from.ensures ∙ c.weight.ensures in
    let bound : c.args.limits.weight < 2 ^ 32 = subst (λ n. n < 2 ^ 32) c.weight.ensures c.weight.type_inv in
    let beside_is : c.weight_with-beside.result ≡ min sources (2 ^ 64 - 1) = c.weight_with-beside.ensures taken.source taken.number taken.revision c.requires.found in
    let light : nat_le c.saturating_add.result c.from.result ≡ nat_le (weight + sources) c.args.limits.weight =
    ap (nat_le c.saturating_add.result) limit
    ∙ light_sum weight sources c.args.limits.weight c.saturating_add.result c.in-Ok.units c.weight_with-beside.result bound c.in-Ok.ensures.weight beside_is c.saturating_add.ensures in
    light ∙ ap (λ b. b && nat_le (weight_after c.args.limits units c.args.sources.now taken) c.args.limits.weight) (sym c.in-Ok.ensures.stands)

pub returns-in-Err : goal.returns-in-Err
returns-in-Err c =
    let taken = c.args.taken.now in
    sym (ap (λ b. b && nat_le (weight_after c.args.limits c.args.document.now c.args.sources.now taken) c.args.limits.weight) c.in-Err.ensures.err)
