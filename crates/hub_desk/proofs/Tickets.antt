-- Submissions one after another, and what they count.
use Rattle.std.proofs.Common.{◌≡◌, ◌<◌, ◌≤◌, ◌+◌, ℕ, zero, suc, List, [], ◌∷◌, length, take, drop, set, get_or, Result, Err, refl, sym, ap, ap₂, subst, ◌∙◌, inl, add-one, arith}
use Rattle.std.proofs.Math.Seq.{map-set_same}
use Rattle.std.proofs.lemmas.List.{drop_all}
use Rattle.refusal.specs.declared.Refusal.{Refusal}
use Rattle.refusal.specs.declared.Refusal.TheVariants.{NoMemory}
use Rattle.revision.specs.Command.{Command, Taken}
use Rattle.revision.specs.State.{State}
use Rattle.world.specs.Progress.{Ticket}
use Rattle.world.specs.World.{Entry}
use Rattle.session.specs.declared.reply.Reply.{Reply}
use Rattle.session.specs.declared.sent.Sent.{Sent}
use Rattle.session.specs.Exchange.{Exchange}
use Rattle.session.specs.Replies.{Asks}
use Rattle.session.specs.Ahead.{command_of, commands_of, exchanges_of}
use Rattle.session.proofs.CallerLemmas.{asked_more}
use Rattle.hub.specs.declared.submit_error.SubmitError.{SubmitError}
use Rattle.hub_desk.specs.AtHub.{Desk, PassesAtHub}
use Rattle.hub.specs.Found.{AreSubmittedAfter, IsSubmittedAfter}
use Rattle.hub.specs.Submitted.{counted_by, counted_all}
use Rattle.hub_desk.specs.Tickets.{AnswersFor, AnswersForAll, with_seat}

-- the command at a place
pub command_at : (sent : List Sent) (i : ℕ) (one : Sent) → one ≡ get_or sent i one → one.command ≡ get_or (commands_of sent) i one.command
command_at [] i one is = refl
command_at (first ∷ others) zero one is = ap command_of is
command_at (first ∷ others) (suc i) one is = command_at others i one is

pub take_whole : {A : Type 0} (xs : List A) (i : ℕ) → length xs ≤ i → take i xs ≡ xs
take_whole [] zero so = refl
take_whole [] (suc i) so = refl
take_whole (x ∷ xs) zero so = absurd (omega arith)
take_whole (x ∷ xs) (suc i) so = ap (λ l. x ∷ l) (take_whole xs i (omega arith))

-- The next was refused as out of memory.
pub refused_more : (refusal : Refusal) (sent : List Sent) (i : ℕ) (item : Sent) → refusal ≡ NoMemory → i < length sent → item ≡ get_or sent i item
    → ((start : State) (desk : Desk) → Asks (PassesAtHub start) desk (exchanges_of (take i sent)) desk)
    → (start : State) (desk : Desk) → Asks (PassesAtHub start) desk (exchanges_of (take (i + 1) (set sent i (record { command = item.command; answer = Err refusal })))) desk
refused_more refusal sent i item none within is before start desk =
    (asked_more (PassesAtHub start) desk desk desk sent i item item (Err refusal) within is is (before start desk) (inl (refl, none))).1

-- the commands are the same whatever is noted
pub commands_same : (sent : List Sent) (i : ℕ) (item : Sent) (answer : Result Reply Refusal) → item ≡ get_or sent i item
    → commands_of (set sent i (record { command = item.command; answer = answer })) ≡ commands_of sent
commands_same sent i item answer is = map-set_same command_of sent i (record { command = item.command; answer = answer }) item (ap command_of is)

pub commands_long : (sent : List Sent) → length (commands_of sent) ≡ length sent
commands_long [] = refl
commands_long (first ∷ others) = ap (λ n. suc n) (commands_long others)

module _ {L : Type 0} where
  -- the next of those that are left is of the command there
  next_of : (start : State) (told : List (List Taken)) (now : List Entry) (cs : List Command) (ts : List (Result Ticket (SubmitError L))) (last : List Entry) (i : ℕ)
      (c : Command) (t : Result Ticket (SubmitError L)) → i < length cs → i < length ts → c ≡ get_or cs i c → t ≡ get_or ts i t
      → AreSubmittedAfter start told now (drop i cs) (drop i ts) last
      → (next : List Entry) × IsSubmittedAfter start told now c t next × AreSubmittedAfter start told next (drop (suc i) cs) (drop (suc i) ts) last
  next_of start told now [] ts last i c t within ticked command_is is were = absurd (omega arith)
  next_of start told now (command ∷ commands) [] last i c t within ticked command_is is were = absurd (omega arith)
  next_of start told now (command ∷ commands) (first ∷ others) last zero c t within ticked command_is is (next, was, more) = (
    next,
    subst (λ (x : Command). IsSubmittedAfter start told now x t next) (sym command_is) (subst (λ (x : Result Ticket (SubmitError L)). IsSubmittedAfter start told now command x next) (sym is) was),
    more,
  )
  next_of start told now (command ∷ commands) (first ∷ others) last (suc i) c t within ticked command_is is were =
      next_of start told now commands others last i c t (omega arith) (omega arith) command_is is were

  -- what is counted with the next
  counted_suc : (count : ℕ) (ts : List (Result Ticket (SubmitError L))) (i : ℕ) (t : Result Ticket (SubmitError L)) → i < length ts → t ≡ get_or ts i t
      → counted_all count (take (suc i) ts) ≡ counted_by (counted_all count (take i ts)) t
  counted_suc count [] i t within is = absurd (omega arith)
  counted_suc count (first ∷ others) zero t within is = ap (counted_by count) (sym is)
  counted_suc count (first ∷ others) (suc i) t within is = counted_suc (counted_by count first) others i t (omega arith) is

  pub counted_next : (count : ℕ) (ts : List (Result Ticket (SubmitError L))) (i : ℕ) (t : Result Ticket (SubmitError L)) → i < length ts → t ≡ get_or ts i t
      → counted_all count (take (i + 1) ts) ≡ counted_by (counted_all count (take i ts)) t
  counted_next count ts i t within is = rw add-one (counted_suc count ts i t within is)

  -- All were submitted, and then answered: what comes of it is what comes of asking each alone.
  pub asked_all : (start : State) (old mid new : Desk) (cs : List Command) (exchanges : List Exchange) (ts ts' : List (Result Ticket (SubmitError L)))
      → AreSubmittedAfter start old.shown old.found cs ts mid.found → mid ≡ with_seat old (counted_all old.counted ts) mid.found
      → new ≡ record mid { told = new.told; stopped = new.stopped } → ts' ≡ ts → AnswersForAll start mid cs ts' exchanges new
      → Asks (PassesAtHub start) old exchanges new
  asked_all start old mid new cs exchanges ts ts' were counts others same answers =
      let e1 : with_seat mid old.counted old.found ≡ old = ap (λ (d : Desk). with_seat d old.counted old.found) counts in
      let n : new.counted ≡ counted_all old.counted ts = ap (λ (d : Desk). d.counted) others ∙ ap (λ (d : Desk). d.counted) counts in
      let f : new.found ≡ mid.found = ap (λ (d : Desk). d.found) others in
      let e2 : with_seat new (counted_all old.counted ts') mid.found ≡ new = ap₂ (with_seat new) (ap (counted_all old.counted) same ∙ sym n) (sym f) in
      let these : AreSubmittedAfter start mid.shown old.found cs ts' mid.found =
      subst (λ (s : List (List Taken)). AreSubmittedAfter start s old.found cs ts' mid.found) (sym (ap (λ (d : Desk). d.shown) counts))
      (subst (λ (l : List (Result Ticket (SubmitError L))). AreSubmittedAfter start old.shown old.found cs l mid.found) (sym same) were) in
      subst (λ (d : Desk). Asks (PassesAtHub start) d exchanges new) e1
      (subst (λ (d : Desk). Asks (PassesAtHub start) (with_seat mid old.counted old.found) exchanges d) e2 (answers old.counted old.found these))

  -- The first of them were answered, and the others were submitted behind what these found.
  abbrev pub AnswersSoFar : State → Desk → List Command → List (Result Ticket (SubmitError L)) → ℕ → List Exchange → Desk → Type 0
  AnswersSoFar start first cs ts i asked now =
      (count : ℕ) (before : List Entry) → AreSubmittedAfter start first.shown before cs ts first.found
      → (mid : List Entry) × AreSubmittedAfter start first.shown mid (drop i cs) (drop i ts) first.found
      × Asks (PassesAtHub start) (with_seat first count before) asked (with_seat now (counted_all count (take i ts)) mid)

  -- The next was answered by its submission.
  pub answered_more : (start : State) (first now new : Desk) (sent : List Sent) (cs : List Command) (ts : List (Result Ticket (SubmitError L))) (i : ℕ) (asked item : Sent) (t : Result Ticket (SubmitError L)) (answer : Result Reply Refusal)
      → i < length sent → i < length ts → asked ≡ get_or sent i asked → item ≡ get_or sent i item → t ≡ get_or ts i t → commands_of sent ≡ cs
      → now.shown ≡ first.shown → AnswersSoFar start first cs ts i (exchanges_of (take i sent)) now → AnswersFor start now asked.command t answer new
      → AnswersSoFar start first cs ts (i + 1) (exchanges_of (take (i + 1) (set sent i (record { command = item.command; answer = answer })))) new
  answered_more start first now new sent cs ts i asked item t answer within ticked asked_is is t_is commands shown so_far answers count before were =
      let k = counted_all count (take i ts) in
      let there = so_far count before were in
      let mid = there.0 in
      let c_is : asked.command ≡ get_or cs i asked.command = subst (λ (l : List Command). asked.command ≡ get_or l i asked.command) commands (command_at sent i asked asked_is) in
      let long : length cs ≡ length sent = ap (λ (l : List Command). length l) (sym commands) ∙ commands_long sent in
      let one = next_of start first.shown mid cs ts first.found i asked.command t (omega (arith, within, long)) ticked c_is t_is there.1 in
      let this : IsSubmittedAfter start now.shown mid asked.command t one.0 =
      subst (λ (s : List (List Taken)). IsSubmittedAfter start s mid asked.command t one.0) (sym shown) one.1 in (
        one.0,
        rw add-one one.2,
        subst (λ (n : ℕ). Asks (PassesAtHub start) (with_seat first count before) (exchanges_of (take (i + 1) (set sent i (record { command = item.command; answer = answer })))) (with_seat new n one.0))
            (sym (counted_next count ts i t ticked t_is))
            (asked_more (PassesAtHub start) (with_seat first count before) (with_seat now k mid) (with_seat new (counted_by k t) one.0) sent i asked item answer within asked_is is there.2 (answers k mid one.0 this)).1,
      )

  -- All were answered.
  pub answered_whole : (start : State) (first now : Desk) (sent : List Sent) (cs : List Command) (ts : List (Result Ticket (SubmitError L))) (i : ℕ) → length sent ≤ i → length ts ≤ i
      → commands_of sent ≡ cs → AnswersSoFar start first cs ts i (exchanges_of (take i sent)) now → AnswersForAll start first cs ts (exchanges_of sent) now
  answered_whole start first now sent cs ts i all ticked commands so_far count before were =
      let there = so_far count before were in
      let long : length cs ≡ length sent = ap (λ (l : List Command). length l) (sym commands) ∙ commands_long sent in
      let none : AreSubmittedAfter {L = L} start first.shown there.0 [] [] first.found =
      subst (λ (l : List Command). AreSubmittedAfter {L = L} start first.shown there.0 l [] first.found) (drop_all i cs (omega (arith, all, long)))
      (subst (λ (l : List (Result Ticket (SubmitError L))). AreSubmittedAfter start first.shown there.0 (drop i cs) l first.found) (drop_all i ts ticked) there.1) in
      subst (λ (f : List Entry). Asks (PassesAtHub start) (with_seat first count before) (exchanges_of sent) (with_seat now (counted_all count ts) f)) (sym none)
      (subst (λ (l : List Sent). Asks (PassesAtHub start) (with_seat first count before) (exchanges_of l) (with_seat now (counted_all count ts) there.0)) (take_whole sent i all)
      (subst (λ (l : List (Result Ticket (SubmitError L))). Asks (PassesAtHub start) (with_seat first count before) (exchanges_of (take i sent)) (with_seat now (counted_all count l) there.0)) (take_whole ts i ticked) there.2))
