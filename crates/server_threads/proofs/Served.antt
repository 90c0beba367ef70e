-- What a flusher's thread writes is what the life of a server leaves.
use Rattle.std.proofs.Common.{◌≡◌, ◌≤◌, ◌⊎◌, ◌↔◌, inl, inr, ℕ, true, false, List, [], ◌∷◌, ◌++◌, length, length-append, append_assoc, append-nil, refl, sym, ◌∙◌, ap, subst, arith, Ok}
use Rattle.std.specs.Prelude.{◌<◌, ◌≢◌, Bool, Result, Err, IfOk, IfErr, OnOk, IsErrOf, is_ok, All, sum_by}
use Rattle.std.proofs.lemmas.Bool.{false≢true, cases_lt}
use Rattle.std.proofs.lemmas.List.Elements.{All-nil, All-cons, All-weaker}
use mathlib.Core.List.{IsPrefix}
use Rattle.disk.specs.declared.device.Disk.{Ghosts}
use Rattle.refusal.specs.declared.Refusal.{Refusal}
use Rattle.refusal.specs.declared.Refusal.TheVariants.{JournalFull, StillNeeded, Fault}
use Rattle.refusal.specs.Refusal.{IsOneOf}
use Rattle.revision.specs.Command.{Taken}
use Rattle.revision.specs.State.{State, fold}
use Rattle.recovery.specs.declared.store.Store.{Store}
use Rattle.recovery.specs.Found.{commands_of, FoundAs}
use Rattle.recovery.specs.Open.{IsOpen, state_of, has_failed}
use Rattle.recovery.specs.Goes.{Goes}
use Rattle.recovery.proofs.CallerLemmas.{goes_none, goes_map, found_as, found_open, found_now}
use Rattle.world.specs.World.{Entry, takens}
use Rattle.published.specs.Batches.{IsShorter}
use Rattle.published.specs.Order.{IsLegal}
use Rattle.published.proofs.CallerLemmas.{prefix_self, prefix_trans, prefix_shorter, prefix_whole, takens_long, takens_begin}
use Rattle.flusher.specs.declared.flusher.Flusher.{Flusher}
use Rattle.flusher.specs.Batches.{IsBeginning}
use Rattle.flusher.specs.Holding.{LastsSince, store_of, told_of, committed_of, waiting_of, moments_of, opened_of, given_to}
use Rattle.flusher.specs.Lasting.{Surely}
use Rattle.flusher.proofs.CallerLemmas.{no_error, same_refusal}
use Rattle.turns.specs.Turning.{HasWritten}
use Rattle.turns.specs.Writing.{IsEndedBy, WasAt, Writes, told_count}
use Rattle.hub.specs.Legal.{IsOfRun}
use Rattle.world.specs.Progress.{Progress}
use Rattle.hub_desk.specs.AtHub.{Desk}
use Rattle.server_threads.specs.Answers.{first_desk}
use Rattle.server_threads.specs.Held.{AreTallied, HasHeld, HaveEnded, IsCounted, IsKept, IsTallied}
use Rattle.server_threads.specs.Served.{AreLasting, IsWritten, IsWhole, KeepsAnswers, WasServed, HasLived, IsStarted}
use Rattle.server_threads.specs.Written.{IsStartedOver, StartedOverWrites}
use Rattle.server_threads.proofs.Answered.{found_whole, keeps_answers}
use Rattle.server_threads.proofs.AtCommits.{all_kept, none_kept}

-- what begins a state's batches begins those of a state that is the same, where no less was asked for
within : (least less : ℕ) (start other : State) (batches : List (List Taken)) (content : List ℕ) → least ≡ less → start ≡ other
    → IsBeginning least start batches content → IsBeginning less other batches content
within least less start other batches content count same found =
    subst (λ (s : State). IsBeginning less s batches content) same (subst (λ (n : ℕ). IsBeginning n start batches content) count found)

-- no batch begins none
none_begins : (first : List (List Taken)) → IsPrefix first [] → first ≡ []
none_begins [] begins = refl
none_begins (batch ∷ others) begins = absurd (cc begins.1)

-- a prefix of the published and the committed batches, where at most one is only committed, is of published ones alone, or all of them
all_or_told : (told committed first : List (List Taken)) → length committed ≤ 1 → IsPrefix first (told ++ committed) → IsPrefix first told ⊎ (first ≡ told ++ committed)
all_or_told told committed first few begins = by_length (cases_lt (length told) (length first))
  where
    by_length : (length told < length first) ⊎ (length first ≤ length told) → IsPrefix first told ⊎ (first ≡ told ++ committed)
    by_length (inl less) = inr (prefix_whole first (told ++ committed) begins (omega (arith, less, few, length-append told committed)))
    by_length (inr le) = inl (prefix_shorter first told (told ++ committed) begins (committed, refl) le)

module _ {D : Type 0} {disk : Ghosts D} where
  -- At the beginning the store held what no batches make.
  was_at_first : (all : List (List Taken)) (old new : Store D disk) → Goes (IsBeginning 0 (state_of old) all) old new → WasAt (state_of old) 0 [] all old new
  was_at_first all old new goes = record {
    between = old;
    state = refl;
    works = λ works. works;
    before = goes_none old (λ is_open. record { first = []; more = all; whole = refl; enough = omega arith; found = found_as _ _ (found_open old is_open) });
    behind = goes;
  }

module _ {D L : Type 0} {disk : Ghosts D} where
  -- what its type keeps of a flusher
  abbrev pub Kept : State → Flusher D L disk → Type 0
  Kept start flusher = state_of (store_of flusher) ≡ fold start (commands_of (told_of flusher ++ committed_of flusher))

  -- at its beginning the store holds the start
  held_start : (start : State) (old : Flusher D L disk) → IsStarted old → Kept start old → state_of (store_of old) ≡ start
  held_start start old started before =
      before
      ∙ ap (λ (l : List (List Taken)). fold start (commands_of l)) (ap (λ (t : List (List Taken)). t ++ committed_of old) started.nothing ∙ started.none)

  -- a moment of a flusher's, from a start when nothing was published, as a moment of its store's
  was_in_store : (start : State) (old new : Flusher D L disk) (first : List (List Taken)) → IsStarted old → state_of (store_of old) ≡ start
      → WasAt start (told_count old) first (given_to new) (store_of old) (store_of new)
      → WasAt (state_of (store_of old)) 0 first ((told_of new ++ committed_of new) ++ waiting_of new) (store_of old) (store_of new)
  was_in_store start old new first started same was =
      subst (λ (l : List (List Taken)). WasAt (state_of (store_of old)) 0 first l (store_of old) (store_of new)) (sym (append_assoc (told_of new) (committed_of new) (waiting_of new)))
      (subst (λ (s : State). WasAt s 0 first (given_to new) (store_of old) (store_of new)) (sym same)
      (subst (λ (n : ℕ). WasAt start n first (given_to new) (store_of old) (store_of new))
      (ap (λ (t : List (List Taken)). length (commands_of t)) started.nothing) was))

  -- a flusher that was just started, what its thread wrote, and an order that begins with all that it was given
  pub written_by : (start : State) (order : List Entry) (old new : Flusher D L disk) → IsStarted old → Kept start old → Kept start new
      → length (committed_of new) ≤ 1 → length (waiting_of new) ≤ 1 → Writes start old new → IsLegal start order
      → IsPrefix (commands_of (told_of new ++ (committed_of new ++ waiting_of new))) (takens order)
      → IsWritten order (told_of new ++ committed_of new) (waiting_of new) (store_of old) (store_of new)
  written_by start order old new started before kept few_committed few_waiting writes legal begins = record {
    legal = subst (λ (s : State). IsLegal s order) (sym same) legal;
    begins = subst (λ (l : List (List Taken)). IsPrefix (commands_of l) (takens order)) (sym (append_assoc (told_of new) (committed_of new) (waiting_of new))) begins;
    state = kept ∙ ap (λ (s : State). fold s (commands_of (told_of new ++ committed_of new))) (sym same);
    few = few_waiting;
    goes = goes;
    each = each_of;
  }
    where
      same : state_of (store_of old) ≡ start
      same = held_start start old started before

      goes : Goes (IsBeginning 0 (state_of (store_of old)) ((told_of new ++ committed_of new) ++ waiting_of new)) (store_of old) (store_of new)
      goes =
          subst (λ (l : List (List Taken)). Goes (IsBeginning 0 (state_of (store_of old)) l) (store_of old) (store_of new))
          (sym (append_assoc (told_of new) (committed_of new) (waiting_of new)))
          (goes_map (λ content found. within (told_count old) 0 start (state_of (store_of old)) (given_to new) content
          (ap (λ (t : List (List Taken)). length (commands_of t)) started.nothing) (sym same) found) writes.goes)

      in_told : (first : List (List Taken)) → IsPrefix first (told_of new)
          → WasAt (state_of (store_of old)) 0 first ((told_of new ++ committed_of new) ++ waiting_of new) (store_of old) (store_of new)
      in_told [] told = was_at_first ((told_of new ++ committed_of new) ++ waiting_of new) (store_of old) (store_of new) goes
      in_told (batch ∷ others) told =
          let further : IsShorter [] (batch ∷ others) = ((batch ∷ others, refl), omega arith) in
          was_in_store start old new (batch ∷ others) started same
          (writes.each (batch ∷ others) (subst (λ (t : List (List Taken)). IsShorter t (batch ∷ others)) (sym started.nothing) further) told)

      by_case : (first : List (List Taken)) → IsPrefix first (told_of new) ⊎ (first ≡ told_of new ++ committed_of new)
          → WasAt (state_of (store_of old)) 0 first ((told_of new ++ committed_of new) ++ waiting_of new) (store_of old) (store_of new)
      by_case first (inl told) = in_told first told
      by_case first (inr all) =
          subst (λ (l : List (List Taken)). WasAt (state_of (store_of old)) 0 l ((told_of new ++ committed_of new) ++ waiting_of new) (store_of old) (store_of new)) (sym all)
          (was_in_store start old new (told_of new ++ committed_of new) started same writes.held)

      each_of : (first : List (List Taken)) → IsPrefix first (told_of new ++ committed_of new)
          → WasAt (state_of (store_of old)) 0 first ((told_of new ++ committed_of new) ++ waiting_of new) (store_of old) (store_of new)
      each_of first begins = by_case first (all_or_told (told_of new) (committed_of new) first few_committed begins)

module _ {D L : Type 0} {disk : Ghosts D} where
  -- how the hub's tokens say that it ended, without the tokens
  pub written_well : {A : Type 0} (start : State) (old new : Flusher D L disk) (token : A) → HasWritten start old new (Ok token) → HasWritten start old new (Ok (tt {0}))
  written_well start old new token wrote = record {
    writes = wrote.writes;
    nothing = wrote.nothing;
    fails = λ works. (λ failed. absurd (no_error token Fault ((wrote.fails works).0 failed)), λ is. absurd (no_error tt Fault is));
    causes = tt;
  }

  pub written_ill : {A B : Type 0} (start : State) (old new : Flusher D L disk) (token refusal : Refusal) → refusal ≡ token → HasWritten {A = A} start old new (Err token)
      → HasWritten {A = B} start old new (Err refusal)
  written_ill {A} {B} start old new token refusal is wrote =
      subst (λ (r : Refusal). HasWritten {A = B} start old new (Err r)) (sym is)
      (record {
        writes = wrote.writes;
        nothing = tt;
        fails = λ works. (λ failed. same_refusal token Fault ((wrote.fails works).0 failed), λ told. (wrote.fails works).1 (same_refusal token Fault told));
        causes = wrote.causes;
      })

  -- of two flushers that were just started over one store the same is written
  same_writes : (start : State) (here old new : Flusher D L disk) → IsStarted here → IsStarted old → store_of here ≡ store_of old
      → Writes start here new → Writes start old new
  same_writes start here old new begun started store writes =
      let told : told_of here ≡ told_of old = begun.nothing ∙ sym started.nothing in
      let given : given_to here ≡ given_to old = none_given here begun ∙ sym (none_given old started) in
      record {
        told = subst (λ (t : List (List Taken)). (l : List (List Taken)) × (told_of new ≡ t ++ l)) told writes.told;
        more = subst (λ (t : List (List Taken)). (l : List (List Taken)) × (given_to new ≡ t ++ l)) given writes.more;
        goes =
            subst (λ (s : Store D disk). Goes (IsBeginning (told_count old) start (given_to new)) s (store_of new)) store
            (subst (λ (t : List (List Taken)). Goes (IsBeginning (length (commands_of t)) start (given_to new)) (store_of here) (store_of new)) told writes.goes);
        each = λ first shorter begins. moment (told_of here) (told_of old) told store first
            (writes.each first (subst (λ (t : List (List Taken)). IsShorter t first) (sym told) shorter) begins);
        held = moment (told_of here) (told_of old) told store (told_of new ++ committed_of new) writes.held;
        lasts = λ works is_open content left.
            writes.lasts (subst (λ (s : Store D disk). has_failed s ≡ false) (sym store) works) (subst (λ (s : Store D disk). IsOpen s) (sym store) is_open) content left;
        opened = writes.opened ∙ begun.opened ∙ store ∙ sym started.opened;
      }
    where
      none_given : (flusher : Flusher D L disk) → IsStarted flusher → given_to flusher ≡ []
      none_given flusher is =
          ap (λ (l : List (List Taken)). l ++ (committed_of flusher ++ waiting_of flusher)) is.nothing
          ∙ ap (λ (l : List (List Taken)). l ++ waiting_of flusher) is.none ∙ is.idle

      moment : (there told : List (List Taken)) → there ≡ told → store_of here ≡ store_of old → (first : List (List Taken))
          → WasAt start (length (commands_of there)) first (given_to new) (store_of here) (store_of new)
          → WasAt start (length (commands_of told)) first (given_to new) (store_of old) (store_of new)
      moment there told same store first was =
          subst (λ (s : Store D disk). WasAt start (length (commands_of told)) first (given_to new) s (store_of new)) store
          (subst (λ (t : List (List Taken)). WasAt start (length (commands_of t)) first (given_to new) (store_of here) (store_of new)) same was)

  -- and the same ended it
  same_causes : {A : Type 0} (start : State) (here old new : Flusher D L disk) (answer : Result A Refusal) → IsStarted here → IsStarted old → store_of here ≡ store_of old
      → IfErr answer (λ e. e ≢ Fault → IsEndedBy start here e new) → IfErr answer (λ e. e ≢ Fault → IsEndedBy start old e new)
  same_causes start here old new (Ok token) begun started store causes = tt
  same_causes start here old new (Err refusal) begun started store causes = λ no_fault.
      let ended = causes no_fault in
      record { last = ended.last; before = same_writes start here old ended.last begun started store ended.before; failed = ended.failed }

  pub any_started : (start : State) (here new : Flusher D L disk) (store : Store D disk) (answer : Result (Unit {0}) Refusal) → IsStarted here
      → store ≡ store_of here → HasWritten start here new answer → StartedOverWrites start store new answer
  any_started start here new store answer begun is wrote old started over =
      let same : store_of here ≡ store_of old = sym is ∙ sym over in
      record {
        writes = same_writes start here old new begun started same wrote.writes;
        nothing = wrote.nothing;
        fails = subst (λ (s : Store D disk). has_failed s ≡ false → (has_failed (store_of new) ≡ true ↔ IsErrOf answer Fault)) same wrote.fails;
        causes = same_causes start here old new answer begun started same wrote.causes;
      }

  -- what a thread gives back that was begun with a flusher that was just started: it wrote, or has it still
  pub any_run : {A B : Type 0} (start : State) (here : Flusher D L disk) (store : Store D disk) (after_of : A → Flusher D L disk) (answer_of : A → Result (Unit {0}) Refusal) (back_of : B → Flusher D L disk)
      → (run : Result A B) → IsStarted here → store ≡ store_of here → IfOk run (λ a. HasWritten start here (after_of a) (answer_of a)) → IfErr run (λ b. back_of b ≡ here)
      → IfOk run (λ a. StartedOverWrites start store (after_of a) (answer_of a)) × IfErr run (λ b. IsStartedOver store (back_of b))
  any_run start here store after_of answer_of back_of (Ok a) begun is wrote back = (any_started start here (after_of a) store (answer_of a) begun is wrote, tt)
  any_run start here store after_of answer_of back_of (Err b) begun is wrote back = (
    tt,
    record { started = subst (λ (f : Flusher D L disk). IsStarted f) (sym back) begun; over = ap store_of back ∙ sym is },
  )

  -- what is written of a flusher that was just started over a store is written of any other one
  pub as_started : (start : State) (here old new : Flusher D L disk) (store : Store D disk) (answer : Result (Unit {0}) Refusal) → IsStartedOver store here → IsStarted old
      → store ≡ store_of old → HasWritten start here new answer → HasWritten start old new answer
  as_started start here old new store answer begun started is wrote = any_started start here new store answer begun.started (sym begun.over) wrote old started (sym is)

-- an order at the end of a life: it is a legal history, and a token has a prefix of it
pub order_legal : (start : State) (board : Progress Entry) → IsOfRun start board → IsLegal start board.order
order_legal start board run = subst (λ (s : State). IsLegal s board.order) run.begun run.history.legal

pub order_begins : (commands : List Taken) (token all : List Entry) → IsPrefix commands (takens token) → IsPrefix token all → IsPrefix commands (takens all)
order_begins commands token all first begins = prefix_trans commands (takens token) (takens all) first (takens_begin token all begins)

-- a life that ended well, by an answer, or not
well_of : {A : Type 0} (answer : Result (Unit {0}) Refusal) → is_ok answer ≡ true → OnOk answer A → A
well_of (Ok answer) well held = held
well_of (Err refusal) well held = absurd (cc well)

module _ {D L : Type 0} {disk : Ghosts D} where
  -- all of the order is written where the writing ended well and the order has no more than is published
  whole_by : (order : List Entry) (old new : Flusher D L disk) → IsWritten order (told_of new ++ committed_of new) (waiting_of new) (store_of old) (store_of new)
      → committed_of new ≡ [] → waiting_of new ≡ [] → length order ≡ length (commands_of (told_of new))
      → IsWhole order (told_of new ++ committed_of new) (waiting_of new) (store_of old) (store_of new)
  whole_by order old new is none idle long = record {
    all = all;
    none = idle;
    lasts = λ works is_open content left.
        let was = is.each (told_of new ++ committed_of new) (prefix_self (told_of new ++ committed_of new)) in
        let begins : IsBeginning (length (commands_of (told_of new ++ committed_of new))) (state_of (store_of old)) ((told_of new ++ committed_of new) ++ waiting_of new) content =
        (was.behind.any_moment (was.works works) (was.before.opens (was.works works) is_open)).last content left in
        subst (FoundAs content) (sym is.state)
        (found_whole (state_of (store_of old)) (told_of new ++ committed_of new) content
        (subst (λ (l : List (List Taken)). IsBeginning (length (commands_of (told_of new ++ committed_of new))) (state_of (store_of old)) l content) only begins));
  }
    where
      shown : told_of new ++ committed_of new ≡ told_of new
      shown = ap (λ (l : List (List Taken)). told_of new ++ l) none ∙ append-nil (told_of new)

      only : (told_of new ++ committed_of new) ++ waiting_of new ≡ told_of new ++ committed_of new
      only = ap (λ (l : List (List Taken)). (told_of new ++ committed_of new) ++ l) idle ∙ append-nil (told_of new ++ committed_of new)

      all : commands_of (told_of new ++ committed_of new) ≡ takens order
      all =
          prefix_whole (commands_of (told_of new ++ committed_of new)) (takens order)
          (subst (λ (l : List (List Taken)). IsPrefix (commands_of l) (takens order)) only is.begins)
          (omega (arith, takens_long order, long, ap (λ (l : List (List Taken)). length (commands_of l)) shown))

  -- a writing that was refused otherwise than by the device found the journal full
  causes_of : (start : State) (old new : Flusher D L disk) (written : Result (Unit {0}) Refusal) → IfErr written (λ e. e ≢ Fault → IsEndedBy start old e new)
      → IfErr written (λ e. e ≢ Fault → IsOneOf e (JournalFull ∷ StillNeeded ∷ []))
  causes_of start old new (Ok answer) causes = tt
  causes_of start old new (Err refusal) causes = λ no_fault. (causes no_fault).failed.0

  -- the whole life
  pub lived_by : (Sessions : List Desk → Type 0) (start : State) (order : List Entry) (desks : List Desk) (old new : Flusher D L disk) (written : Result (Unit {0}) Refusal) (store : Store D disk)
      → store ≡ store_of new → IsStarted old → Kept start old → Kept start new → Surely (LastsSince start (opened_of new) new) → length (committed_of new) ≤ 1 → length (waiting_of new) ≤ 1
      → HasWritten start old new written → IsLegal start order → IsPrefix (commands_of (told_of new ++ (committed_of new ++ waiting_of new))) (takens order)
      → All (λ (desk : Desk). IsPrefix desk.told (told_of new ++ committed_of new)) desks → All (λ (desk : Desk). IsPrefix desk.found order) desks → length order ≡ sum_by (λ (desk : Desk). desk.counted) desks
      → OnOk written (length order ≡ told_count new) → Sessions desks → HasLived Sessions written (store_of old) store
  lived_by Sessions start order desks old new written store is started before kept lasts few_committed few_waiting wrote legal begins told found long all sessions =
      subst (λ (s : Store D disk). HasLived Sessions written (store_of old) s) (sym is)
      (record {
        served = record {
          order = order;
          written = told_of new ++ committed_of new;
          waiting = waiting_of new;
          moments = moments_of new;
          desks = desks;
          is_written = is_written;
          kept = are_kept;
          whole = λ well. whole_by order old new is_written (well_of written well wrote.nothing).0 (well_of written well wrote.nothing).1 (well_of written well all);
          sessions = sessions;
          answers = All-weaker (λ (desk : Desk). IsPrefix desk.told (told_of new ++ committed_of new) × IsPrefix desk.found order)
              (KeepsAnswers order (told_of new ++ committed_of new) (waiting_of new) (moments_of new) (store_of old) (store_of new))
              (λ desk both. keeps_answers order (told_of new ++ committed_of new) (waiting_of new) (moments_of new) (store_of old) (store_of new) desk is_written are_kept both.0 both.1) desks
              (λ k d within. (told k d within, found k d within));
          nothing_else = long;
        };
        fails = wrote.fails;
        causes = causes_of start old new written wrote.causes;
      })
    where
      is_written : IsWritten order (told_of new ++ committed_of new) (waiting_of new) (store_of old) (store_of new)
      is_written = written_by start order old new started before kept few_committed few_waiting wrote.writes legal begins

      are_kept : Surely (AreLasting (told_of new ++ committed_of new) (waiting_of new) (moments_of new) (store_of old) (store_of new))
      are_kept = all_kept start old new started (held_start start old started before) wrote.writes.opened lasts

module _ {D L : Type 0} {disk : Ghosts D} where
  -- what sessions that have ended left, beside a flusher that is the one that was just started
  pub has_held : (Sessions : List Desk → Type 0) (start : State) (old begun last : Flusher D L disk) (longest : List (List Taken)) (found ordered : List Entry)
      (published tallied counted : ℕ) (answer written : Result (Unit {0}) Refusal) (new : Store D disk) → begun ≡ old → IsKept start begun → HasWritten start begun last answer
      → written ≡ answer → ((desks : List Desk) → AreTallied desks longest found tallied → IsTallied start desks last ordered published counted new)
      → HaveEnded Sessions longest found tallied → HasHeld Sessions start old ordered published counted written new
  has_held Sessions start old begun last longest found ordered published tallied counted answer written new same kept wrote told are_tallied ended = record {
    last = last;
    desks = ended.desks;
    before = subst (λ (f : Flusher D L disk). IsKept start f) same kept;
    wrote =
        subst (λ (f : Flusher D L disk). HasWritten start f last written) same
        (subst (λ (w : Result (Unit {0}) Refusal). HasWritten start begun last w) (sym told) wrote);
    tallied = are_tallied ended.desks ended.tallied;
    sessions = ended.sessions;
  }

  -- the life of a flusher that was just started, of the sessions that were held beside it, and of the board that ended
  pub lived_from : (Sessions : List Desk → Type 0) (start : State) (old : Flusher D L disk) (ordered : List Entry) (published counted : ℕ)
      (written : Result (Unit {0}) Refusal) (new store : Store D disk) → store ≡ new → IsStarted old
      → HasHeld Sessions start old ordered published counted written new → IsCounted start ordered published counted written
      → HasLived Sessions written (store_of old) store
  lived_from Sessions start old ordered published counted written new store is started held counts =
      lived_by Sessions start counts.progress.order held.desks old held.last written store (is ∙ held.tallied.store) started held.before.state held.tallied.kept.state held.tallied.lasts
      held.tallied.few_committed held.tallied.few_waiting held.wrote (order_legal start counts.progress counts.run)
      (order_begins (commands_of (told_of held.last ++ (committed_of held.last ++ waiting_of held.last))) ordered counts.progress.order held.tallied.begins counts.begins)
      held.tallied.told
      (All-weaker (λ (desk : Desk). IsPrefix desk.found ordered) (λ (desk : Desk). IsPrefix desk.found counts.progress.order)
      (λ desk first. prefix_trans desk.found ordered counts.progress.order first counts.begins) held.desks held.tallied.found)
      (counts.counts ∙ held.tallied.counts)
      (subst (λ (n : ℕ). OnOk written (length counts.progress.order ≡ n)) held.tallied.so_many counts.all) held.sessions

module _ {D : Type 0} {disk : Ghosts D} where
  -- a store that nothing was written to
  none_written : (store : Store D disk) → IsWritten [] [] [] store store
  none_written store =
      let goes : Goes (IsBeginning 0 (state_of store) []) store store =
      goes_none store (λ is_open. record { first = []; more = []; whole = refl; enough = omega arith; found = found_as _ _ (found_open store is_open) }) in
      record {
        legal = tt;
        begins = ([], refl);
        state = refl;
        few = omega arith;
        goes = goes;
        each = λ first begins. subst (λ (l : List (List Taken)). WasAt (state_of store) 0 l [] store store) (sym (none_begins first begins)) (was_at_first [] store store goes);
      }

  -- nobody was served
  pub none_served : (Sessions : List Desk → Type 0) (store : Store D disk) → Sessions [] → WasServed Sessions false store store
  none_served Sessions store sessions = record {
    order = [];
    written = [];
    waiting = [];
    moments = [];
    desks = [];
    is_written = none_written store;
    kept = none_kept store;
    whole = λ well. absurd (false≢true well);
    sessions = sessions;
    answers = All-nil (KeepsAnswers [] [] [] [] store store);
    nothing_else = refl;
  }

  -- a desk was asked for nothing
  pub one_unserved : (Sessions : List Desk → Type 0) (store : Store D disk) → Sessions (first_desk ∷ []) → WasServed Sessions false store store
  one_unserved Sessions store sessions = record {
    order = [];
    written = [];
    waiting = [];
    moments = [];
    desks = first_desk ∷ [];
    is_written = none_written store;
    kept = none_kept store;
    whole = λ well. absurd (false≢true well);
    sessions = sessions;
    answers = All-cons (KeepsAnswers [] [] [] [] store store) first_desk []
        (keeps_answers [] [] [] [] store store first_desk (none_written store) (none_kept store) ([], refl) ([], refl)) (All-nil (KeepsAnswers [] [] [] [] store store));
    nothing_else = refl;
  }

  -- it says no less of fewer lives that ended well, nor where its desks are said less of
  pub served_as : (Sessions Others : List Desk → Type 0) (well less : Bool) (old new : Store D disk) → ((desks : List Desk) → Sessions desks → Others desks)
      → (less ≡ true → well ≡ true) → WasServed Sessions well old new → WasServed Others less old new
  served_as Sessions Others well less old new others fewer served = record {
    order = served.order;
    written = served.written;
    waiting = served.waiting;
    moments = served.moments;
    desks = served.desks;
    is_written = served.is_written;
    kept = served.kept;
    whole = λ is. served.whole (fewer is);
    sessions = others served.desks served.sessions;
    answers = served.answers;
    nothing_else = served.nothing_else;
  }
