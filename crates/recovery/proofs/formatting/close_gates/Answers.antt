use Rattle.std.proofs.Common.{◌≡◌, ◌+◌, ◌*◌, ◌≤◌, length, refl, ◌∙◌, arith, below_more, subst, sym, [], ◌∷◌, List, ℕ}
use Rattle.disk.specs.Device.{overwritten}
use Rattle.disk.specs.Crash.{history_of}
use Rattle.disk.proofs.CallerLemmas.{begins_anywhere}
use Rattle.recovery.specs.Layout.{IsClosed}
use Rattle.recovery.proofs.EmptyStores.{closed_at, stays_closed, stays_unformatted, gate_fits}
use Rattle.recovery.proofs.formatting.close_gates.Goals as goal

pub loop-k-init : goal.loop-k-init
loop-k-init g c = record {
  any_moment = λ closed. begins_anywhere (history_of g.D.Disk c.args.disk.now) closed;
  closed = λ j below. absurd (omega arith);
  others = λ place closed. closed;
  length = refl;
  honest = (λ honest. honest, λ honest. honest);
  faults = refl;
}

pub loop-k-preserved : goal.loop-k-preserved
loop-k-preserved g c =
    let fits : c.args.at + c.loop-k.k * c.args.size + 1 ≤ length (g.D.Disk.seen c.loop-k.disk) =
    gate_fits c.args.at c.args.size c.args.count c.loop-k.k (length (g.D.Disk.seen c.loop-k.disk)) (omega (arith, c.requires.within)) c.requires.some (omega arith) in
    let written : g.D.Disk.seen c.write_at.new.self ≡ overwritten (g.D.Disk.seen c.loop-k.disk) (c.args.at + c.loop-k.k * c.args.size) (0 ∷ []) = c.in_ok-write_at.ensures.written in
    let others = stays_closed (g.D.Disk.seen c.loop-k.disk) (c.args.at + c.loop-k.k * c.args.size) fits in
    record {
      any_moment = λ closed. stays_unformatted (c.loop-k.invariant.any_moment closed) c.write_at.ensures.time fits (omega (arith, c.requires.behind));
      closed = below_more (λ j. IsClosed (g.D.Disk.seen c.write_at.new.self) (c.args.at + j * c.args.size)) c.loop-k.k
          (λ j below. subst (λ (l : List ℕ). IsClosed l (c.args.at + j * c.args.size)) (sym written) (others (c.args.at + j * c.args.size) (c.loop-k.invariant.closed j below)))
          (subst (λ (l : List ℕ). IsClosed l (c.args.at + c.loop-k.k * c.args.size)) (sym written) (closed_at (g.D.Disk.seen c.loop-k.disk) (c.args.at + c.loop-k.k * c.args.size) fits));
      others = λ place closed. subst (λ (l : List ℕ). IsClosed l place) (sym written) (others place (c.loop-k.invariant.others place closed));
      length = c.write_at.ensures.length ∙ c.loop-k.invariant.length;
      honest = (λ honest. c.loop-k.invariant.honest.0 (c.write_at.ensures.honest.0 honest), λ honest. c.write_at.ensures.honest.1 (c.loop-k.invariant.honest.1 honest));
      faults = c.in_ok-write_at.ensures.good.0 ∙ c.loop-k.invariant.faults;
    }

pub returns-in_err-write_at-clause-any_moment : goal.returns-in_err-write_at-clause-any_moment
returns-in_err-write_at-clause-any_moment g c closed =
    let fits : c.args.at + c.loop-k.k * c.args.size + 1 ≤ length (g.D.Disk.seen c.loop-k.disk) =
    gate_fits c.args.at c.args.size c.args.count c.loop-k.k (length (g.D.Disk.seen c.loop-k.disk)) (omega (arith, c.requires.within)) c.requires.some (omega arith) in
    stays_unformatted (c.loop-k.invariant.any_moment closed) c.write_at.ensures.time fits (omega (arith, c.requires.behind))
