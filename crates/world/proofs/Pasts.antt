-- What a document shows comes of its past however far back that goes, and continues with each step.
use Rattle.std.proofs.Common.{◌≡◌, ℕ, ◌+◌, ◌≤◌, ap, ◌∙◌, arith}
use Rattle.revision.specs.declared.step.Step.{Step}
use Rattle.revision.specs.Sources.{with_taken}
use Rattle.revision.specs.Past.{Change, Past, newest, newest_content, newest_sources, content_after, content_at, sources_at, from_floor, with_step}
use Rattle.revision.proofs.CallerLemmas.{from_twice, from_newest, step_makes}

module _ (past : Past) (floor : ℕ) (above : past.floor ≤ floor) (below : floor ≤ newest past) where
  pub newest-from_floor : newest (from_floor past floor) ≡ newest past
  newest-from_floor = from_newest past floor above below

  -- at its newest revision it holds what it held
  at_newest : from_floor (from_floor past floor) (newest (from_floor past floor)) ≡ from_floor past (newest past)
  at_newest = from_twice past floor (newest (from_floor past floor)) above (omega (arith, below, newest-from_floor)) ∙ ap (from_floor past) newest-from_floor

  pub content-from_floor : newest_content (from_floor past floor) ≡ newest_content past
  content-from_floor = ap (λ (p : Past). p.content) at_newest

  pub sources-from_floor : sources_at (from_floor past floor) (newest (from_floor past floor)) ≡ sources_at past (newest past)
  sources-from_floor = ap (λ (p : Past). p.sources) at_newest

-- one step more
module _ (keep : ℕ) (past : Past) (step : Step) (change : Change) where
  pub newest-with_step : newest (with_step keep past step change) ≡ newest past + 1
  newest-with_step = (step_makes keep past step change).0

  pub content-with_step : newest_content (with_step keep past step change) ≡ content_after (newest_content past) step change.delta
  content-with_step = ap (content_at (with_step keep past step change)) newest-with_step ∙ (step_makes keep past step change).1

  pub sources-with_step : newest_sources (with_step keep past step change) ≡ with_taken change.source change.number (newest past + 1) (newest_sources past)
  sources-with_step = ap (sources_at (with_step keep past step change)) newest-with_step ∙ (step_makes keep past step change).2
