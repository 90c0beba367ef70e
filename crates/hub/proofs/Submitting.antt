-- One submission more, and what comes of one at a board.
use Rattle.std.proofs.Common.{◌≡◌, ◌<◌, ◌+◌, ◌++◌, ℕ, zero, suc, List, [], ◌∷◌, length, take, get_or, map, Result, refl, sym, ap, subst, ◌∙◌, add-one, arith}
use Rattle.std.specs.Borrow.{Bor}
use Rattle.revision.specs.Command.{Taken, Command}
use Rattle.revision.specs.State.{State}
use Rattle.world.specs.Progress.{Ticket}
use Rattle.world.specs.World.{Entry}
use Rattle.hub.specs.declared.submit_error.SubmitError.{SubmitError}
use Rattle.hub.specs.Found.{AreSubmittedAfter, IsSubmittedAfter}
use Rattle.hub.specs.Submitted.{counted_all, counted_by}

-- the commands that are lent
abbrev pub lent : List (Bor Command) → List Command
lent commands = map (λ (command : Bor Command). command.now) commands

lent_suc : (commands : List (Bor Command)) (i : ℕ) (one : Bor Command) → i < length commands → one ≡ get_or commands i one
    → lent (take (suc i) commands) ≡ lent (take i commands) ++ one.now ∷ []
lent_suc [] i one within is = absurd (omega arith)
lent_suc (first ∷ others) zero one within is = ap (λ (c : Bor Command). c.now ∷ []) (sym is)
lent_suc (first ∷ others) (suc i) one within is = ap (λ (l : List Command). first.now ∷ l) (lent_suc others i one (omega arith) is)

module _ {L : Type 0} where
  submitted_last : (start : State) (told : List (List Taken)) (old : List Entry) (cs : List Command) (ts : List (Result Ticket (SubmitError L))) (now : List Entry)
      (c : Command) (t : Result Ticket (SubmitError L)) (new : List Entry) → AreSubmittedAfter start told old cs ts now → IsSubmittedAfter start told now c t new
      → AreSubmittedAfter start told old (cs ++ c ∷ []) (ts ++ t ∷ []) new
  submitted_last start told old [] [] now c t new same one = (new, subst (λ o. IsSubmittedAfter start told o c t new) same one, refl)
  submitted_last start told old [] (first ∷ others) now c t new were one = absurd were
  submitted_last start told old (command ∷ commands) [] now c t new were one = absurd were
  submitted_last start told old (command ∷ commands) (first ∷ others) now c t new (mid, was, were) one =
      (mid, was, submitted_last start told mid commands others now c t new were one)

  counted_more : (count : ℕ) (ts : List (Result Ticket (SubmitError L))) (t : Result Ticket (SubmitError L)) → counted_all count (ts ++ t ∷ []) ≡ counted_by (counted_all count ts) t
  counted_more count [] t = refl
  counted_more count (first ∷ others) t = counted_more (counted_by count first) others t

  pub submitted_more : (start : State) (told : List (List Taken)) (old now new : List Entry) (commands : List (Bor Command)) (i : ℕ) (one : Bor Command)
      (ts ts' : List (Result Ticket (SubmitError L))) (t : Result Ticket (SubmitError L)) → i < length commands → one ≡ get_or commands i one
      → AreSubmittedAfter start told old (lent (take i commands)) ts now → IsSubmittedAfter start told now one.now t new → ts' ≡ ts ++ t ∷ []
      → AreSubmittedAfter start told old (lent (take (i + 1) commands)) ts' new
  submitted_more start told old now new commands i one ts ts' t within is were this more =
      let next : lent (take (i + 1) commands) ≡ lent (take i commands) ++ one.now ∷ [] = rw add-one (lent_suc commands i one within is) in
      subst (λ (l : List Command). AreSubmittedAfter start told old l ts' new) (sym next)
      (subst (λ (l : List (Result Ticket (SubmitError L))). AreSubmittedAfter start told old (lent (take i commands) ++ one.now ∷ []) l new) (sym more)
      (submitted_last start told old (lent (take i commands)) ts now one.now t new were this))

  pub counts_more : (old now new : ℕ) (ts ts' : List (Result Ticket (SubmitError L))) (t : Result Ticket (SubmitError L)) → now ≡ counted_all old ts
      → new ≡ counted_by now t → ts' ≡ ts ++ t ∷ [] → new ≡ counted_all old ts'
  counts_more old now new ts ts' t before counts more =
      counts ∙ ap (λ n. counted_by n t) before ∙ sym (counted_more old ts t) ∙ ap (counted_all old) (sym more)
