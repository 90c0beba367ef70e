use Rattle.std.proofs.Common.{◌≡◌, ◌⊎◌, ◌+◌, ◌-◌, ◌^◌, ◌<◌, ◌≤◌, take, sym, ap, ◌∙◌, subst, arith, inl, inr}
use Rattle.std.proofs.lemmas.List.{length-map}
use Rattle.std.specs.Prelude.{min, sum_by}
use Rattle.revision.specs.Command.{Taken, width_of}
use Rattle.world.specs.World.{Entry, takens}
use Rattle.hub.proofs.Widths.{width-more, above, within}
use Rattle.hub.proofs.run.longest.Goals as goal

pub returns-then-more-from : goal.returns-then-more-from
returns-then-more-from c = record {
  within = omega (arith, c.loop-i-test.true, length-map c.args.entries.now (λ (e : Entry). e.taken));
  fits = fitting c.loop-i.invariant.fits;
  longest = λ inside. subst (λ n. c.args.cap < 4 + n) (sym step)
      (above c.loop-i.used (sum_by width_of (take c.loop-i.i (takens c.args.entries.now))) (width_of c.index-entries-i.result.taken) c.saturating_add-more.result c.args.cap
      c.loop-i.invariant.used counted over);
}
  where
    fitting : (c.loop-i.i ≡ 0) ⊎ (c.loop-i.used ≤ c.args.cap) → (c.loop-i.i ≡ 0) ⊎ (4 + sum_by width_of (take c.loop-i.i (takens c.args.entries.now)) ≤ c.args.cap)
    fitting (inl none) = inl none
    fitting (inr some) = inr (subst (λ n. n ≤ c.args.cap) c.loop-i.invariant.used some)

    step : sum_by width_of (take (c.loop-i.i + 1) (takens c.args.entries.now))
        ≡ sum_by width_of (take c.loop-i.i (takens c.args.entries.now)) + width_of c.index-entries-i.result.taken
    step = width-more c.args.entries.now c.loop-i.i c.index-entries-i.result c.loop-i-test.true c.index-entries-i.is

    counted : c.saturating_add-more.result ≡ min (c.loop-i.used + min (width_of c.index-entries-i.result.taken) (2 ^ 64 - 1)) (2 ^ 64 - 1)
    counted = c.saturating_add-more.ensures ∙ ap (λ n. min (c.loop-i.used + n) (2 ^ 64 - 1))
        (c.width.ensures.width ∙ ap (λ (t : Taken). min (width_of t) (2 ^ 64 - 1)) c.taken.ensures)

    over : c.args.cap < c.saturating_add-more.result
    over = subst (λ n. n < c.saturating_add-more.result) c.from.ensures c.if-more-from.true

pub loop-i-preserved : goal.loop-i-preserved
loop-i-preserved c = record {
  used = within c.loop-i.used (sum_by width_of (take c.loop-i.i (takens c.args.entries.now))) (width_of c.index-entries-i.result.taken) c.saturating_add-more.result c.args.cap
      c.loop-i.invariant.used counted small c.ranges.cap.fits ∙ ap (λ n. 4 + n) (sym step);
  fits = inr small;
}
  where
    step : sum_by width_of (take (c.loop-i.i + 1) (takens c.args.entries.now))
        ≡ sum_by width_of (take c.loop-i.i (takens c.args.entries.now)) + width_of c.index-entries-i.result.taken
    step = width-more c.args.entries.now c.loop-i.i c.index-entries-i.result c.loop-i-test.true c.index-entries-i.is

    counted : c.saturating_add-more.result ≡ min (c.loop-i.used + min (width_of c.index-entries-i.result.taken) (2 ^ 64 - 1)) (2 ^ 64 - 1)
    counted = c.saturating_add-more.ensures ∙ ap (λ n. min (c.loop-i.used + n) (2 ^ 64 - 1))
        (c.width.ensures.width ∙ ap (λ (t : Taken). min (width_of t) (2 ^ 64 - 1)) c.taken.ensures)

    small : c.saturating_add-more.result ≤ c.args.cap
    small = subst (λ n. c.saturating_add-more.result ≤ n) c.from.ensures c.if-more-from.false
