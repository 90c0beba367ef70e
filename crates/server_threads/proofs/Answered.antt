-- What a session's desk acknowledged stands in what the thread that writes has written.
use Rattle.std.proofs.Common.{◌≡◌, ◌≤◌, ◌⊎◌, inl, inr, ℕ, true, List, [], ◌∷◌, ◌++◌, length, length-append, append-nil, refl, sym, ◌∙◌, ap, subst, arith}
use Rattle.std.specs.Prelude.{◌<◌, Bool, Option, Result, Ok, Err, OnOk, OnErr}
use Rattle.std.specs.Io.KnownBytes.{IsAtEnd}
use Rattle.std.proofs.lemmas.Bool.{cases_lt}
use Rattle.std.proofs.Math.Logic.{∥∥₁_map}
use mathlib.Core.List.{IsPrefix}
use Rattle.disk.specs.declared.device.Disk.{Ghosts}
use Rattle.disk.proofs.CallerLemmas.{leaves_map}
use Rattle.revision.specs.Command.{Taken}
use Rattle.revision.specs.State.{State, all_grow, fold}
use Rattle.recovery.specs.declared.store.Store.{Store}
use Rattle.recovery.specs.Found.{commands_of, FoundAs}
use Rattle.recovery.specs.Moment.{Moment}
use Rattle.recovery.specs.Open.{state_of}
use Rattle.world.specs.World.{Entry}
use Rattle.published.proofs.CallerLemmas.{prefix_self, prefix_trans, prefix_shorter, begun_grows, grow_first as grow_front}
use Rattle.flusher.specs.Batches.{IsBeginning}
use Rattle.flusher.specs.Lasting.{Surely}
use Rattle.flusher.proofs.CallerLemmas.{commands-append}
use Rattle.turns.specs.Writing.{WasAt}
use Rattle.session.specs.Session.{Session}
use Rattle.session.specs.Exchange.{Exchange}
use Rattle.session.specs.Replies.{Asks}
use Rattle.serving.specs.declared.failure.ServingError.{ServingError}
use Rattle.serving.specs.Serving.{Serves, StopsServing, IsServed as IsAnswered, IsServedSoFar, beginning}
use Rattle.hub_desk.specs.AtHub.{Desk, PassesAtHub}
use Rattle.hub_desk.specs.Standing.{AllStand}
use Rattle.hub_desk.proofs.CallerLemmas.{all_stand, found_through, told_through}
use Rattle.server_threads.specs.Answers.{HoldsAll, first_desk}
use Rattle.server_threads.specs.Served.{AreLasting, IsKeptFrom, IsWritten, KeepsAnswers}
use Rattle.server_threads.specs.Streams.{IsAnsweredAtHub, StopsAtHub}
use Rattle.server_threads.proofs.AtCommits.{was_kept}
use Rattle.server_threads.proofs.Places.{all_have_causes, all_have_places, counts_all}

-- a prefix that is no shorter than the whole is the whole
pub all_of : {A : Type 0} (first more whole : List A) → first ++ more ≡ whole → length whole ≤ length first → first ≡ whole
all_of first [] whole is enough = sym (append-nil first) ∙ is
all_of {A} first (x ∷ more) whole is enough =
    absurd (omega (arith, enough, ap (λ (l : List A). length l) is, length-append first (x ∷ more)))

-- what begins batches with no fewer commands than they have is found as what all of them make
pub found_whole : (start : State) (batches : List (List Taken)) (content : List ℕ) → IsBeginning (length (commands_of batches)) start batches content
    → FoundAs content (fold start (commands_of batches))
found_whole start batches content begins =
    let joined : commands_of begins.first ++ commands_of begins.more ≡ commands_of batches =
    sym (commands-append begins.first begins.more) ∙ ap commands_of begins.whole in
    subst (λ (c : List Taken). FoundAs content (fold start c)) (all_of (commands_of begins.first) (commands_of begins.more) (commands_of batches) joined begins.enough) begins.found

-- and so does a prefix of batches
grow_first : (state : State) (first all : List (List Taken)) → IsPrefix first all → all_grow state (commands_of all) ≡ true → all_grow state (commands_of first) ≡ true
grow_first state first all (more, whole) grow =
    grow_front state (commands_of first) (commands_of more) (ap (all_grow state) (sym (commands-append first more) ∙ ap commands_of whole) ∙ grow)

-- Batches begin others that have as many commands at least, or make the same.
all_in : (told first all : List (List Taken)) → IsPrefix told all → IsPrefix first all → length (commands_of told) ≤ length (commands_of first)
    → IsPrefix told first ⊎ (commands_of first ≡ commands_of told)
all_in told first all begins also enough = by_length (cases_lt (length first) (length told))
  where
    by_length : (length first < length told) ⊎ (length told ≤ length first) → IsPrefix told first ⊎ (commands_of first ≡ commands_of told)
    by_length (inl less) =
        let (rest, is) = prefix_shorter first told all also begins (omega (arith, less)) in
        inr (all_of (commands_of first) (commands_of rest) (commands_of told) (sym (commands-append first rest) ∙ ap commands_of is) enough)
    by_length (inr le) = inl (prefix_shorter told first all begins also le)

-- what begins batches with no fewer commands than a desk was told of, holds all that it acknowledged by then
holds_all : (start : State) (answered : List Exchange) (mid : Desk) (batches : List (List Taken)) (content : List ℕ) → Asks (PassesAtHub start) first_desk answered mid
    → IsPrefix mid.told batches → all_grow start (commands_of batches) ≡ true → IsBeginning (length (commands_of mid.told)) start batches content → HoldsAll answered content
holds_all start answered mid batches content asks told grow begins =
    let first : IsPrefix begins.first batches = (begins.more, begins.whole) in
    (fold start (commands_of begins.first), begins.found, by_case (all_in mid.told begins.first batches told first begins.enough) first)
  where
    by_case : IsPrefix mid.told begins.first ⊎ (commands_of begins.first ≡ commands_of mid.told) → IsPrefix begins.first batches
        → AllStand (fold start (commands_of begins.first)) answered
    by_case (inl within) first = all_stand start first_desk mid answered begins.first asks within (grow_first start begins.first batches first grow)
    by_case (inr same) first =
        subst (λ (l : List Taken). AllStand (fold start l) answered) (sym same)
        (all_stand start first_desk mid answered mid.told asks (prefix_self mid.told) (grow_first start mid.told batches told grow))

-- what was served of a session up to where a stream failed is what was served from its beginning
from_first : (start : State) (old new : Session) (desk desk' : Desk) (input input' output output' : Option (List ℕ)) (in_failed out_failed : Bool)
    → old ≡ beginning → (out_failed ≡ true) ⊎ ((in_failed ≡ true) × Serves (PassesAtHub start) old new desk desk' input input' output output')
    → (out_failed ≡ true) ⊎ ((in_failed ≡ true) × IsServedSoFar (PassesAtHub start) desk desk' input input' output output')
from_first start old new desk desk' input input' output output' in_failed out_failed same (inl failing) = inl failing
from_first start old new desk desk' input input' output output' in_failed out_failed same (inr (failing, serves)) =
    inr (failing, (new, subst (λ (s : Session). Serves (PassesAtHub start) s new desk desk' input input' output output') same serves))

-- a session that was served from its beginning, at a desk at its own
pub answered_whole : (start : State) (old new : Session) (desk desk' : Desk) (input input' output output' : Option (List ℕ)) (result : Result (Unit {0}) ServingError)
    → old ≡ beginning → desk ≡ first_desk → OnOk result (Serves (PassesAtHub start) old new desk desk' input input' output output') → OnOk result (IsAtEnd input')
    → OnOk result (IsAnsweredAtHub start input input' output output' desk')
answered_whole start old new desk desk' input input' output output' (Ok answer) same first serves end = record {
  served =
      subst (λ (d : Desk). IsAnswered (PassesAtHub start) d desk' input input' output output') first
      (record {
        last = new;
        served = subst (λ (s : Session). Serves (PassesAtHub start) s new desk desk' input input' output output') same serves;
        at_end = end;
      });
}
answered_whole start old new desk desk' input input' output output' (Err failure) same first serves end = tt

-- one that a stream stopped
pub stops_there : (start : State) (old new : Session) (desk desk' : Desk) (input input' output output' : Option (List ℕ)) (in_failed out_failed : Bool) (result : Result (Unit {0}) ServingError)
    → old ≡ beginning → desk ≡ first_desk → OnErr result (StopsServing (PassesAtHub start) old desk desk' input input' output output')
    → OnErr result ((out_failed ≡ true) ⊎ ((in_failed ≡ true) × Serves (PassesAtHub start) old new desk desk' input input' output output'))
    → OnErr result (StopsAtHub start input input' output output' in_failed out_failed desk')
stops_there start old new desk desk' input input' output output' in_failed out_failed (Ok answer) same first stops cause = tt
stops_there start old new desk desk' input input' output output' in_failed out_failed (Err failure) same first stops cause = record {
  stops =
      subst (λ (d : Desk). StopsServing (PassesAtHub start) beginning d desk' input input' output output') first
      (subst (λ (s : Session). StopsServing (PassesAtHub start) s desk desk' input input' output output') same stops);
  cause =
      subst (λ (d : Desk). (out_failed ≡ true) ⊎ ((in_failed ≡ true) × IsServedSoFar (PassesAtHub start) d desk' input input' output output')) first
      (from_first start old new desk desk' input input' output output' in_failed out_failed same cause);
}

module _ {D : Type 0} {disk : Ghosts D} where
  -- a desk that was told of a prefix of the batches that are written, and found a prefix of the order
  pub keeps_answers : (order : List Entry) (written waiting : List (List Taken)) (moments : List Moment) (old new : Store D disk) (last : Desk) → IsWritten order written waiting old new
      → Surely (AreLasting written waiting moments old new) → IsPrefix last.told written → IsPrefix last.found order → KeepsAnswers order written waiting moments old new last
  keeps_answers order written waiting moments old new last is kept told found = record {
    told = told;
    places = λ asked asks. all_have_places (state_of old) first_desk last asked (commands_of last.told) asks (prefix_self (commands_of last.told));
    counts = λ asked asks. counts_all (state_of old) first_desk last asked asks;
    stand = λ asked asks. subst (λ (s : State). AllStand s asked) (sym is.state) (all_stand (state_of old) first_desk last asked written asks told grow);
    found = λ others mid asks. prefix_trans mid.found last.found order (found_through (state_of old) others mid last asks) found;
    causes = λ asked asks. all_have_causes (state_of old) first_desk last asked order asks found;
    each_answer = λ answered others mid before after.
        let within : IsPrefix mid.told written = prefix_trans mid.told last.told written (told_through (state_of old) others mid last after) told in
        kept_from answered mid before within (is.each mid.told within);
    since_commit = λ answered others mid before after.
        let within : IsPrefix mid.told written = prefix_trans mid.told last.told written (told_through (state_of old) others mid last after) told in
        ∥∥₁_map kept (λ all.
        let there = was_kept written waiting moments old new is.goes all.each mid.told within in
        record { from = kept_from answered mid before within there.0; at = there.1 });
  }
    where
      grow_all : all_grow (state_of old) (commands_of (written ++ waiting)) ≡ true
      grow_all = begun_grows (state_of old) (commands_of (written ++ waiting)) order is.legal is.begins

      grow : all_grow (state_of old) (commands_of written) ≡ true
      grow = grow_first (state_of old) written (written ++ waiting) (waiting, refl) grow_all

      kept_from : (answered : List Exchange) (mid : Desk) → Asks (PassesAtHub (state_of old)) first_desk answered mid → IsPrefix mid.told written
          → WasAt (state_of old) 0 mid.told (written ++ waiting) old new → IsKeptFrom (state_of old) answered mid.told (written ++ waiting) old new
      kept_from answered mid before within was = record {
        was = was;
        stand = all_stand (state_of old) first_desk mid answered mid.told before (prefix_self mid.told) (grow_first (state_of old) mid.told written within grow);
        lasts = λ works is_open.
            leaves_map (λ content begins. holds_all (state_of old) answered mid (written ++ waiting) content before
            (prefix_trans mid.told written (written ++ waiting) within (waiting, refl)) grow_all begins)
            (was.behind.any_moment (was.works works) (was.before.opens (was.works works) is_open));
      }
