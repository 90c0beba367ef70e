-- States that agree match, and so do both readings of a store that ran.
use Rattle.std.proofs.Common.{◌≡◌, ℕ, ◌-◌, Option, Some, None, List, map, sym, ◌∙◌, ap, subst, arith}
use Rattle.std.specs.Prelude.{slice_get}
use Rattle.std.proofs.lemmas.List.{drop-map}
use Rattle.revision.specs.Past.{Past, Change, Content, newest, deltas_above, from_floor}
use Rattle.revision.specs.State.{Limits, DocumentRecord, State}
use Rattle.revision.specs.Agree.{Agree, PlacesAgree, DocumentsAgree}
use Rattle.history.specs.declared.pick.Pick.{Pick}
use Rattle.history.specs.declared.pick.Pick.TheVariants.{Newer, Older}
use Rattle.history.specs.Found.{StandFor}
use Rattle.history.specs.Running.{Runs}
use Rattle.history.proofs.CallerLemmas.{recovers, reopens, showing_agree}
use Rattle.recovery.specs.Found.{Found, FoundAs, limits_of, commands_of}
use Rattle.recovery.proofs.CallerLemmas.{found_once}
use Rattle.inspection.specs.Matching.{PastsMatch, DocumentsMatch, PlacesMatch, Match, common_floor}

-- the deltas above a floor are those of the changes that are held from there
deltas_from : (past : Past) (floor : ℕ) → deltas_above past floor ≡ map (λ (change : Change). change.delta) (from_floor past floor).changes
deltas_from past floor = drop-map (λ (change : Change). change.delta) (floor - past.floor) past.changes

pasts_match : (floor : ℕ) (a b : Past) → from_floor a floor ≡ from_floor b floor → PastsMatch floor a b
pasts_match floor a b same = record {
  units = ap (λ (p : Past). p.content.units) same;
  sources = ap (λ (p : Past). p.sources) same;
  deltas = deltas_from a floor ∙ ap (λ (p : Past). map (λ (change : Change). change.delta) p.changes) same ∙ sym (deltas_from b floor);
}

documents_match : (a b : DocumentRecord) → DocumentsAgree a b → DocumentsMatch a b
documents_match a b agree = record {
  name = agree.name;
  revision = agree.revision;
  live = ap (λ (content : Content). content.live) agree.content;
  sources = agree.sources;
  units = ap (λ (content : Content). content.units) agree.content;
  past = pasts_match (common_floor a b) a.past b.past
      (agree.past (common_floor a b) (omega arith) (omega arith) (let same : newest a.past ≡ newest b.past = agree.revision in omega (arith, same)));
}

places_match : (a b : Option DocumentRecord) → PlacesAgree a b → PlacesMatch a b
places_match None None agree = tt
places_match None (Some b) agree = agree
places_match (Some a) None agree = agree
places_match (Some a) (Some b) agree = documents_match a b agree

pub agree_match : (s t : State) → Agree s t → Match s t
agree_match s t agree = record {
  limits = agree.limits;
  documents = λ number. places_match (slice_get s.documents number) (slice_get t.documents number) (agree.documents number);
}

module _ (content : List ℕ) (state : State) (of : FoundAs content state) where
  -- whichever state it is found as runs on over its history
  runs_on : (pick : Pick) (found : State) → Found content pick found
      → (found.limits ≡ state.limits) × Runs of.runs.order of.runs.cells (commands_of of.runs.batches) found
  runs_on pick found is =
      let entries = commands_of of.runs.batches in
      let recovered = recovers of.runs.order of.runs.cells entries state pick of.runs.runs in
      let stand : StandFor (limits_of of.runs.shape) of.runs.cells entries pick recovered.0 =
      subst (λ (l : Limits). StandFor l of.runs.cells entries pick recovered.0) of.runs.limits recovered.1 in
      let there : Found content pick recovered.0 =
      record { shape = of.runs.shape; cells = of.runs.cells; table = of.runs.table; batches = of.runs.batches; holds = of.runs.holds; stand = stand } in
      let same : recovered.0 ≡ found = found_once content pick recovered.0 found there is in (
        subst (λ (s : State). s.limits ≡ state.limits) same recovered.1.same_limits,
        subst (λ (s : State). Runs of.runs.order of.runs.cells entries s) same
            (reopens of.runs.order of.runs.cells entries state pick recovered.0 of.runs.runs recovered.1),
      )

  -- both readings of a store that ran match
  pub ran_match : (newer older : State) → Found content Newer newer → Found content Older older → Match newer older
  ran_match newer older is_newer is_older =
      let one = runs_on Newer newer is_newer in
      let other = runs_on Older older is_older in
      agree_match newer older (showing_agree of.runs.order newer older (one.0 ∙ sym other.0) one.1.shows other.1.shows)
