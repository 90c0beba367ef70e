use Rattle.std.proofs.Common.{◌≡◌, ◌∙◌, ◌++◌, ◌∷◌, List, ap, arith}
use Rattle.sockets.specs.Socket.{Event, came}
use Rattle.sockets.proofs.accepting.accept_each.Goals as goal

-- one call more of the listener
one_more : (old mid new : List Event) → (since : List Event) × (mid ≡ since ++ old) → (event : Event) × (new ≡ event ∷ mid)
    → (since : List Event) × (new ≡ since ++ old)
one_more old mid new (since, so_far) (event, added) = (event ∷ since, added ∙ ap (λ l. event ∷ l) so_far)

pub peers-preserved : goal.peers-preserved
peers-preserved g c = record {
  counted = omega (arith, c.peers.invariant.counted, c.accept_one.ensures.counted);
  accounted = c.accept_one.ensures.accounted ∙ c.peers.invariant.accounted;
  since = one_more _ _ _ c.peers.invariant.since c.accept_one.ensures.one;
}

pub peers-preserved-then-not-goes_on : goal.peers-preserved-then-not-goes_on
peers-preserved-then-not-goes_on g c =
    let same = c.stop_waiting-then-not-goes_on.ensures in
    let as_many = ap came same in
    record {
      counted = omega (arith, as_many, c.peers.invariant.counted, c.accept_one.ensures.counted);
      accounted = c.accept_one.ensures.accounted ∙ c.peers.invariant.accounted;
      since =
          let more = one_more _ _ _ c.peers.invariant.since c.accept_one.ensures.one in
          (more.0, same ∙ more.1);
    }
