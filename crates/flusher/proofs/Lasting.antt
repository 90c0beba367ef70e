-- What a flusher's type keeps of its moments, from call to call.
use Rattle.std.proofs.Common.{◌≡◌, ◌≤◌, ℕ, false, Option, Some, None, List, [], ◌∷◌, ◌++◌, length, refl, sym, ◌∙◌, ap, subst, arith, append_assoc, append-nil}
use Rattle.std.specs.Prelude.{option_to_list}
use Rattle.std.specs.Option.{option_map}
use Rattle.std.proofs.Math.Logic.{∥∥₁_map}
use Rattle.disk.specs.declared.device.Disk.{Ghosts}
use Rattle.revision.specs.Command.{Taken}
use Rattle.revision.specs.State.{State, fold}
use Rattle.recovery.specs.declared.store.Store.{Store}
use Rattle.recovery.specs.Found.{commands_of, FoundAs}
use Rattle.recovery.specs.Goes.{Goes}
use Rattle.recovery.specs.Moment.{Moment}
use Rattle.recovery.specs.Open.{IsWithOrWithout, device_of, has_failed, moment_now, state_of}
use Rattle.recovery.proofs.CallerLemmas.{goes_none, goes_map, goes_on, found_as, found_open}
use Rattle.view.specs.Published.{Published}
use Rattle.hub.specs.Runs.{Run}
use Rattle.flusher.specs.Batches.{IsBeginning}
use Rattle.flusher.specs.Lasting.{given_in, IsLasting, EachLasts, Lasts, Surely}
use Rattle.flusher.proofs.Beginnings.{fewer, longer, no_more, these, within_write}

same_le : (n : ℕ) → n ≤ n
same_le n = omega arith

module _ {D : Type 0} {disk : Ghosts D} (start : State) (opened : Store D disk) where
  -- more batches come
  longer_one : (first all with_more l : List (List Taken)) (moment : Moment) (now : Store D disk) → with_more ≡ all ++ l → IsLasting start opened first all moment now
      → IsLasting start opened first with_more moment now
  longer_one first all with_more l moment now same was = record {
    at = was.at;
    is = was.is;
    state = was.state;
    works = was.works;
    before = goes_map (λ content. longer 0 start all with_more l content same) was.before;
    behind = goes_map (λ content. longer (length (commands_of first)) start all with_more l content same) was.behind;
  }

  each_longer : (before batches all with_more l : List (List Taken)) (moments : List Moment) (now : Store D disk) → with_more ≡ all ++ l
      → EachLasts start opened all now before batches moments → EachLasts start opened with_more now before batches moments
  each_longer before [] all with_more l [] now same each = tt
  each_longer before [] all with_more l (moment ∷ moments) now same each = absurd each
  each_longer before (batch ∷ batches) all with_more l [] now same each = absurd each
  each_longer before (batch ∷ batches) all with_more l (moment ∷ moments) now same each = (
    longer_one (before ++ batch ∷ []) all with_more l moment now same each.0,
    each_longer (before ++ batch ∷ []) batches all with_more l moments now same each.1,
  )

  -- calls go on that take nothing back
  goes_on_one : (least : ℕ) (first all : List (List Taken)) (moment : Moment) (old new : Store D disk) → length (commands_of first) ≤ least
      → Goes (IsBeginning least start all) old new → IsLasting start opened first all moment old → IsLasting start opened first all moment new
  goes_on_one least first all moment old new few goes was = record {
    at = was.at;
    is = was.is;
    state = was.state;
    works = was.works;
    before = was.before;
    behind = goes_on was.behind (goes_map (λ content. fewer least (length (commands_of first)) start all content few) goes);
  }

  each_goes_on : (least : ℕ) (before batches all : List (List Taken)) (moments : List Moment) (old new : Store D disk)
      → length (commands_of (before ++ batches)) ≤ least → Goes (IsBeginning least start all) old new
      → EachLasts start opened all old before batches moments → EachLasts start opened all new before batches moments
  each_goes_on least before [] all [] old new few goes each = tt
  each_goes_on least before [] all (moment ∷ moments) old new few goes each = absurd each
  each_goes_on least before (batch ∷ batches) all [] old new few goes each = absurd each
  each_goes_on least before (batch ∷ batches) all (moment ∷ moments) old new few goes each =
      let joined : (before ++ batch ∷ []) ++ batches ≡ before ++ batch ∷ batches = append_assoc before (batch ∷ []) batches in
      let within : length (commands_of ((before ++ batch ∷ []) ++ batches)) ≤ least = omega (arith, few, ap (λ (l : List (List Taken)). length (commands_of l)) joined) in
      let one : length (commands_of (before ++ batch ∷ [])) ≤ least = omega (arith, within, no_more (before ++ batch ∷ []) batches) in (
        goes_on_one least (before ++ batch ∷ []) all moment old new one goes each.0,
        each_goes_on least (before ++ batch ∷ []) batches all moments old new within goes each.1,
      )

  -- one batch more, with its moment
  each_more : (before batches : List (List Taken)) (batch : List Taken) (all : List (List Taken)) (moments : List Moment) (moment : Moment) (now : Store D disk)
      → EachLasts start opened all now before batches moments → IsLasting start opened (before ++ (batches ++ batch ∷ [])) all moment now
      → EachLasts start opened all now before (batches ++ batch ∷ []) (moments ++ moment ∷ [])
  each_more before [] batch all [] moment now each last = (last, tt)
  each_more before [] batch all (one ∷ moments) moment now each last = absurd each
  each_more before (first ∷ batches) batch all [] moment now each last = absurd each
  each_more before (first ∷ batches) batch all (one ∷ moments) moment now each last = (
    each.0,
    each_more (before ++ first ∷ []) batches batch all moments moment now each.1
        (subst (λ (l : List (List Taken)). IsLasting start opened l all moment now) (sym (append_assoc before (first ∷ []) (batches ++ batch ∷ []))) last),
  )

  -- a call that leaves what is published, committed and held
  pub lasts_on : (publisher : Published) (waiting : Option Run) (old new : Store D disk)
      → Goes (IsBeginning (length (commands_of (publisher.told ++ publisher.unpublished))) start (given_in publisher waiting)) old new
      → Lasts start opened publisher waiting old → Lasts start opened publisher waiting new
  lasts_on publisher waiting old new goes was =
      let done = publisher.told ++ publisher.unpublished in
      let all = given_in publisher waiting in
      record {
        goes = goes_on was.goes (goes_map (λ content. fewer (length (commands_of done)) 0 start all content (omega arith)) goes);
        each = each_goes_on (length (commands_of done)) [] done all publisher.moments old new (same_le (length (commands_of done))) goes was.each;
      }

  -- the upkeep of the store is such a call,
  pub goes_kept_up : (publisher : Published) (waiting : Option Run) (old new : Store D disk) → state_of old ≡ fold start (commands_of (publisher.told ++ publisher.unpublished))
      → Goes (λ content. FoundAs content (state_of old)) old new
      → Goes (IsBeginning (length (commands_of (publisher.told ++ publisher.unpublished))) start (given_in publisher waiting)) old new
  goes_kept_up publisher waiting old new kept goes =
      let done = publisher.told ++ publisher.unpublished in
      let held = option_to_list (option_map (λ (r : Run). r.commands) waiting) in
      goes_map
      (λ content. these (length (commands_of done)) start (state_of old) (given_in publisher waiting) done held content (sym (append_assoc publisher.told publisher.unpublished held)) (same_le (length (commands_of done))) kept)
      goes

  -- and so is a commit of the batch that is held, whatever it answers
  pub goes_committing : (publisher : Published) (waiting : Option Run) (old new : Store D disk) → state_of old ≡ fold start (commands_of (publisher.told ++ publisher.unpublished))
      → Goes (IsWithOrWithout (state_of old) (commands_of (option_to_list (option_map (λ r. r.commands) waiting)))) old new
      → Goes (IsBeginning (length (commands_of (publisher.told ++ publisher.unpublished))) start (given_in publisher waiting)) old new
  goes_committing publisher waiting old new kept goes =
      let done = publisher.told ++ publisher.unpublished in
      let held = option_to_list (option_map (λ (r : Run). r.commands) waiting) in
      goes_map
      (λ content. within_write (length (commands_of done)) start (state_of old) (given_in publisher waiting) done held content (sym (append_assoc publisher.told publisher.unpublished held)) (same_le (length (commands_of done))) kept)
      goes

  -- a run is held where none was
  pub lasts_held : (publisher : Published) (run : Run) (now : Store D disk) → Lasts start opened publisher None now → Lasts start opened publisher (Some run) now
  lasts_held publisher run now was =
      let all = given_in publisher None in
      let held = run.commands ∷ [] in
      let same : given_in publisher (Some run) ≡ all ++ held =
      sym (append_assoc publisher.told (publisher.unpublished ++ []) held ∙ ap (λ (l : List (List Taken)). publisher.told ++ l) (append_assoc publisher.unpublished [] held)) in
      record {
        goes = goes_map (λ content. longer 0 start all (given_in publisher (Some run)) held content same) was.goes;
        each = each_longer [] (publisher.told ++ publisher.unpublished) all (given_in publisher (Some run)) held publisher.moments now same was.each;
      }

  -- What a publisher has was moved on: what is published and what is to be are the same batches in all.
  pub lasts_moved : (before after : Published) (waiting : Option Run) (now : Store D disk) → after.told ++ after.unpublished ≡ before.told ++ before.unpublished
      → after.moments ≡ before.moments → Lasts start opened before waiting now → Lasts start opened after waiting now
  lasts_moved before after waiting now same moments was =
      let held = option_to_list (option_map (λ (r : Run). r.commands) waiting) in
      let all : given_in before waiting ≡ given_in after waiting =
      sym (append_assoc before.told before.unpublished held) ∙ ap (λ (l : List (List Taken)). l ++ held) (sym same) ∙ append_assoc after.told after.unpublished held in
      record {
        goes = subst (λ (l : List (List Taken)). Goes (IsBeginning 0 start l) opened now) all was.goes;
        each = subst (λ (l : List (List Taken)). EachLasts start opened l now [] (after.told ++ after.unpublished) after.moments) all
            (subst (λ (l : List (List Taken)). EachLasts start opened (given_in before waiting) now [] l after.moments) (sym same)
            (subst (λ (l : List Moment). EachLasts start opened (given_in before waiting) now [] (before.told ++ before.unpublished) l) (sym moments) was.each));
      }

  -- The batch that was held is committed: it lasts from now on.
  pub lasts_committed : (publisher after : Published) (run : Run) (batch : List Taken) (moment : Moment) (old new : Store D disk)
      → Lasts start opened publisher (Some run) old → state_of old ≡ fold start (commands_of (publisher.told ++ publisher.unpublished)) → publisher.unpublished ≡ []
      → batch ≡ run.commands → after ≡ record { told = publisher.told; unpublished = batch ∷ []; moments = publisher.moments ++ moment ∷ [] }
      → moment ≡ moment_now new → has_failed new ≡ false → state_of new ≡ fold start (commands_of (after.told ++ after.unpublished))
      → Goes (IsWithOrWithout (state_of old) batch) old new → Lasts start opened after None new
  lasts_committed publisher after run batch moment old new was kept none alike is at works state goes =
      let done = publisher.told ++ publisher.unpublished in
      let all = given_in publisher (Some run) in
      let written = subst (λ (c : List Taken). Goes (IsWithOrWithout (state_of old) c) old new) (alike ∙ sym (append-nil run.commands)) goes in
      let on = lasts_on publisher (Some run) old new (goes_committing publisher (Some run) old new kept written) was in
      let same_done : done ++ batch ∷ [] ≡ after.told ++ after.unpublished =
      ap (λ (l : List (List Taken)). (publisher.told ++ l) ++ batch ∷ []) none ∙ ap (λ (l : List (List Taken)). l ++ batch ∷ []) (append-nil publisher.told)
      ∙ sym (ap (λ (p : Published). p.told ++ p.unpublished) is) in
      let same_all : all ≡ given_in after None =
      ap (λ (l : List (List Taken)). publisher.told ++ (l ++ run.commands ∷ [])) none ∙ ap (λ (b : List Taken). publisher.told ++ b ∷ []) (sym alike)
      ∙ sym (ap (λ (p : Published). p.told ++ (p.unpublished ++ [])) is) in
      let whole : all ≡ (done ++ batch ∷ []) ++ [] =
      same_all ∙ sym (append_assoc after.told after.unpublished []) ∙ ap (λ (l : List (List Taken)). l ++ []) (sym same_done) in
      let there : state_of new ≡ fold start (commands_of (done ++ batch ∷ [])) = state ∙ ap (λ (l : List (List Taken)). fold start (commands_of l)) (sym same_done) in
      let last : IsLasting start opened (done ++ batch ∷ []) all moment new = record {
        at = new;
        is = at;
        state = there;
        works = works;
        before = on.goes;
        behind = goes_none new
            (λ is_open.
            these (length (commands_of (done ++ batch ∷ []))) start (state_of new) all (done ++ batch ∷ []) [] (disk.seen (device_of new)) whole (same_le (length (commands_of (done ++ batch ∷ [])))) there
            (found_as _ _ (found_open new is_open)));
      } in
      record {
        goes = subst (λ (l : List (List Taken)). Goes (IsBeginning 0 start l) opened new) same_all on.goes;
        each = subst (λ (l : List (List Taken)). EachLasts start opened l new [] (after.told ++ after.unpublished) after.moments) same_all
            (subst (λ (l : List (List Taken)). EachLasts start opened all new [] l after.moments) same_done
            (subst (λ (l : List Moment). EachLasts start opened all new [] (done ++ batch ∷ []) l) (sym (ap (λ (p : Published). p.moments) is))
            (each_more [] done batch all publisher.moments moment new on.each last)));
      }

  -- The same of what a flusher's type keeps: its store was kept up,
  pub surely_kept_up : (publisher : Published) (waiting : Option Run) (old new : Store D disk) → state_of old ≡ fold start (commands_of (publisher.told ++ publisher.unpublished))
      → Goes (λ content. FoundAs content (state_of old)) old new → Surely (Lasts start opened publisher waiting old) → Surely (Lasts start opened publisher waiting new)
  surely_kept_up publisher waiting old new kept goes was =
      ∥∥₁_map was (lasts_on publisher waiting old new (goes_kept_up publisher waiting old new kept goes))

  -- a run is held where none was,
  pub surely_held : (publisher : Published) (was waiting : Option Run) (run : Run) (now : Store D disk) → was ≡ None → waiting ≡ Some run
      → Surely (Lasts start opened publisher was now) → Surely (Lasts start opened publisher waiting now)
  surely_held publisher was waiting run now none some lasts =
      subst (λ (w : Option Run). Surely (Lasts start opened publisher w now)) (sym some)
      (∥∥₁_map (subst (λ (w : Option Run). Surely (Lasts start opened publisher w now)) none lasts) (lasts_held publisher run now))

  -- what a publisher has was moved on,
  pub surely_moved : (before after : Published) (waiting : Option Run) (now : Store D disk) → after.told ++ after.unpublished ≡ before.told ++ before.unpublished
      → after.moments ≡ before.moments → Surely (Lasts start opened before waiting now) → Surely (Lasts start opened after waiting now)
  surely_moved before after waiting now same moments was = ∥∥₁_map was (lasts_moved before after waiting now same moments)

  -- the commit of the batch that is held was refused, and it is held still,
  pub surely_refused : (publisher : Published) (was waiting : Option Run) (run : Run) (batch : List Taken) (old new : Store D disk) → was ≡ Some run → waiting ≡ Some run → batch ≡ run.commands
      → state_of old ≡ fold start (commands_of (publisher.told ++ publisher.unpublished)) → Goes (IsWithOrWithout (state_of old) batch) old new
      → Surely (Lasts start opened publisher was old) → Surely (Lasts start opened publisher waiting new)
  surely_refused publisher was waiting run batch old new held still alike kept goes lasts =
      let written = subst (λ (c : List Taken). Goes (IsWithOrWithout (state_of old) c) old new) (alike ∙ sym (append-nil run.commands)) goes in
      subst (λ (w : Option Run). Surely (Lasts start opened publisher w new)) (sym still)
      (∥∥₁_map (subst (λ (w : Option Run). Surely (Lasts start opened publisher w old)) held lasts)
      (lasts_on publisher (Some run) old new (goes_committing publisher (Some run) old new kept written)))

  -- or it was committed.
  pub surely_committed : (publisher after : Published) (was waiting : Option Run) (run : Run) (batch receipt : List Taken) (moment : Moment) (old new : Store D disk)
      → was ≡ Some run → waiting ≡ None → batch ≡ run.commands → receipt ≡ batch → state_of old ≡ fold start (commands_of (publisher.told ++ publisher.unpublished))
      → publisher.unpublished ≡ [] → after ≡ record { told = publisher.told; unpublished = receipt ∷ []; moments = publisher.moments ++ moment ∷ [] }
      → moment ≡ moment_now new → has_failed new ≡ false → state_of new ≡ fold start (commands_of (after.told ++ after.unpublished))
      → Goes (IsWithOrWithout (state_of old) batch) old new → Surely (Lasts start opened publisher was old) → Surely (Lasts start opened after waiting new)
  surely_committed publisher after was waiting run batch receipt moment old new held empty alike names kept none is at works state goes lasts =
      let written = subst (λ (c : List Taken). Goes (IsWithOrWithout (state_of old) c) old new) (sym names) goes in
      subst (λ (w : Option Run). Surely (Lasts start opened after w new)) (sym empty)
      (∥∥₁_map (subst (λ (w : Option Run). Surely (Lasts start opened publisher w old)) held lasts)
      (λ before. lasts_committed publisher after run receipt moment old new before kept none (names ∙ alike) is at works state written))

-- a flusher that was just started
pub lasts_begun : {D : Type 0} {disk : Ghosts D} (start : State) (store : Store D disk) (publisher : Published) → publisher ≡ record { told = []; unpublished = []; moments = [] }
    → state_of store ≡ start → Lasts start store publisher None store
lasts_begun {D} {disk} start store publisher nothing begin =
    subst (λ (p : Published). Lasts start store p None store) (sym nothing)
    (let begun : Lasts start store (record { told = []; unpublished = []; moments = [] }) None store = record {
      goes = goes_none store (λ is_open. these 0 start (state_of store) [] [] [] (disk.seen (device_of store)) refl (omega arith) begin (found_as _ _ (found_open store is_open)));
      each = tt;
    } in begun)

pub surely_begun : {D : Type 0} {disk : Ghosts D} (start : State) (opened store : Store D disk) (publisher : Published) → opened ≡ store
    → publisher ≡ record { told = []; unpublished = []; moments = [] } → state_of store ≡ start → Surely (Lasts start opened publisher None store)
surely_begun {D} {disk} start opened store publisher same nothing begin =
    subst (λ (s : Store D disk). Surely (Lasts start s publisher None store)) (sym same) ∣ lasts_begun start store publisher nothing begin ∣₁

-- each lasting moment was one of the run
pub lasting_of : {D : Type 0} {disk : Ghosts D} (start : State) (opened : Store D disk) (all : List (List Taken)) (now : Store D disk) (before first : List (List Taken)) (batch : List Taken)
    (more : List (List Taken)) (moments : List Moment) → EachLasts start opened all now before (first ++ batch ∷ more) moments
    → (earlier : List Moment) × (moment : Moment) × (later : List Moment) × (moments ≡ earlier ++ moment ∷ later) × (length earlier ≡ length first)
    × IsLasting start opened (before ++ (first ++ batch ∷ [])) all moment now
lasting_of start opened all now before [] batch more [] each = absurd each
lasting_of start opened all now before [] batch more (moment ∷ moments) each = ([], moment, moments, refl, refl, each.0)
lasting_of start opened all now before (one ∷ first) batch more [] each = absurd each
lasting_of start opened all now before (one ∷ first) batch more (moment ∷ moments) each =
    let rest = lasting_of start opened all now (before ++ one ∷ []) first batch more moments each.1 in (
      moment ∷ rest.0,
      rest.1,
      rest.2,
      ap (λ (l : List Moment). moment ∷ l) rest.3,
      omega (arith, rest.4),
      subst (λ (l : List (List Taken)). IsLasting start opened l all rest.1 now) (append_assoc before (one ∷ []) (first ++ batch ∷ [])) rest.5,
    )
