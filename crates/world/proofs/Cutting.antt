-- A past that is cut from a longer one: what it holds is what the longer one holds from its floor on, and stays so.
use Rattle.std.proofs.Common.{◌≡◌, ℕ, ◌+◌, ◌-◌, ◌≤◌, [], ◌∷◌, sym, ap, ◌∙◌, arith}
use Rattle.std.specs.Prelude.{max}
use Rattle.std.proofs.lemmas.List.{length-append}
use Rattle.revision.specs.declared.step.Step.{Step}
use Rattle.revision.specs.declared.step.Step.TheVariants.{Edits, Deletes, Revives}
use Rattle.revision.specs.Sources.{with_taken}
use Rattle.revision.specs.Past.{Change, Past, content_after, newest, newest_content, newest_sources, content_at, sources_at, from_floor, with_change, rebased, with_step}
use Rattle.revision.specs.Floors.{longer}
use Rattle.revision.proofs.CallerLemmas.{from_itself, from_twice, from_newest, from_longer}

-- a past is another's from a floor on
pub record IsCut (whole past : Past) : Type 0 where
  pub low : whole.floor ≤ past.floor
  pub high : past.floor ≤ newest whole
  pub is : past ≡ from_floor whole past.floor

pub cut-itself : (past : Past) → IsCut past past
cut-itself past = record { low = omega arith; high = omega arith; is = sym (from_itself past) }

pub cut-floor : (whole past : Past) (floor : ℕ) → past.floor ≤ floor → floor ≤ newest past → IsCut whole past → IsCut whole (from_floor past floor)
cut-floor whole past floor low high cut = record {
  low = omega (arith, cut.low, low);
  high = omega (arith, high, number);
  is = ap (λ p. from_floor p floor) cut.is ∙ from_twice whole past.floor floor cut.low low;
}
  where
    number : newest past ≡ newest whole
    number = ap newest cut.is ∙ from_newest whole past.floor cut.low cut.high

pub cut-change : (keep : ℕ) (whole past : Past) (change : Change) → IsCut whole past → IsCut (longer whole change) (with_change keep past change)
cut-change keep whole past change cut =
    cut-floor (longer whole change) (longer past change) (max past.floor (newest past + 1 - keep)) (omega arith) (omega (arith, length-append past.changes (change ∷ [])))
    (record {
      low = cut.low;
      high = omega (arith, cut.high, length-append whole.changes (change ∷ []));
      is = ap (λ p. longer p change) cut.is ∙ from_longer whole past.floor change cut.low cut.high;
    })

-- a past with a step more and nothing let go, but for what a deletion or a creation again lets go of
abbrev pub longer_by : Past → Step → Change → Past
longer_by past Edits change = longer past change
longer_by past Deletes change = rebased past (content_after (newest_content past) Deletes change.delta) change
longer_by past Revives change = rebased past (content_after (newest_content past) Revives change.delta) change

-- a deletion or a creation again makes one past of both
module _ (whole past : Past) (step : Step) (change : Change) (cut : IsCut whole past) where
  number : newest past ≡ newest whole
  number = ap newest cut.is ∙ from_newest whole past.floor cut.low cut.high

  there : from_floor past (newest past) ≡ from_floor whole (newest past)
  there = ap (λ p. from_floor p (newest past)) cut.is ∙ from_twice whole past.floor (newest past) cut.low (omega arith)

  content_there : newest_content past ≡ newest_content whole
  content_there = ap (λ (p : Past). p.content) there ∙ ap (content_at whole) number

  sources_there : newest_sources past ≡ newest_sources whole
  sources_there = ap (λ (p : Past). p.sources) there ∙ ap (sources_at whole) number

  abbrev pub turned : Past → Past
  turned p = rebased p (content_after (newest_content p) step change.delta) change

  pub same-turned : turned past ≡ turned whole
  same-turned = λ i. record {
    floor = number i + 1;
    content = content_after (content_there i) step change.delta;
    sources = with_taken change.source change.number (number i + 1) (sources_there i);
    changes = [];
  }

pub equal-cut : (whole past : Past) → past ≡ whole → IsCut whole past
equal-cut whole past same = record {
  low = omega (arith, ap (λ (p : Past). p.floor) same);
  high = omega (arith, ap (λ (p : Past). p.floor) same);
  is = same ∙ (sym (from_itself whole) ∙ ap (from_floor whole) (sym (ap (λ (p : Past). p.floor) same)));
}

pub cut-step : (keep : ℕ) (whole past : Past) (step : Step) (change : Change) → IsCut whole past → IsCut (longer_by whole step change) (with_step keep past step change)
cut-step keep whole past Edits change cut = cut-change keep whole past change cut
cut-step keep whole past Deletes change cut = equal-cut _ _ (same-turned whole past Deletes change cut)
cut-step keep whole past Revives change cut = equal-cut _ _ (same-turned whole past Revives change cut)

-- two that are cut from one past hold the same from any floor on that neither is above
pub cuts-agree : (whole a b : Past) (floor : ℕ) → IsCut whole a → IsCut whole b → a.floor ≤ floor → b.floor ≤ floor → from_floor a floor ≡ from_floor b floor
cuts-agree whole a b floor first second over other =
    ap (λ p. from_floor p floor) first.is ∙ (from_twice whole a.floor floor first.low over
    ∙ sym (ap (λ p. from_floor p floor) second.is ∙ from_twice whole b.floor floor second.low other))
