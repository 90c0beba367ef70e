use Rattle.std.proofs.Common.{rules, ap, ◌∙◌}
use Rattle.session.proofs.Shelved.{popped-fits}
use Rattle.session.proofs.shelf.Shelf.let_go.Goals as goal

pub loop-preserved : goal.loop-preserved
loop-preserved c = record {
  fits = λ state fits. popped-fits state c.loop.self-inside.documents c.pop_lru.new.self _ (c.loop.invariant.fits state fits) c.pop_lru.ensures.entries;
  places = ap (λ cache. cache.cap) c.pop_lru.ensures.entries ∙ c.loop.invariant.places;
}
