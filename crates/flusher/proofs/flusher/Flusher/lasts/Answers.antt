use Rattle.std.proofs.Common.{[], ◌++◌, subst}
use Rattle.std.proofs.Math.Logic.{∥∥₁_map}
use Rattle.revision.specs.State.{State}
use Rattle.recovery.specs.Goes.{Goes}
use Rattle.flusher.specs.Batches.{IsBeginning}
use Rattle.flusher.specs.Lasting.{given_in, EachLasts}
use Rattle.flusher.proofs.flusher.Flusher.lasts.Goals as goal

pub returns : goal.returns
returns g c =
    let here = c.args.self.now in
    let all = given_in here.publisher here.waiting in
    ∥∥₁_map here.lasts (λ lasts. record {
      timed = c.facts-2.ensures;
      goes = subst (λ (s : State). Goes (IsBeginning 0 s all) here.opened.value here.store) c.facts.ensures lasts.goes;
      each = subst (λ (s : State). EachLasts s here.opened.value all here.store [] (here.publisher.told ++ here.publisher.unpublished) here.publisher.moments) c.facts.ensures lasts.each;
    })
