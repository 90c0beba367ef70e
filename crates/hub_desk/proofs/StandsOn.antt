-- A command that stands in a state stands in what comes of it, and was taken.
use Rattle.std.proofs.Common.{◌≡◌, ℕ, suc, ◌+◌, ◌≤◌, Bool, true, false, cond, List, [], ◌∷◌, Option, Some, None, refl, sym, ap, ◌∙◌, subst, arith, inl, inr}
use Rattle.std.specs.Prelude.{◌⊎◌, ◌<◌, nat_le, nat_lt, bytes_eq, slice_get, IsSomeAnd, Any}
use Rattle.std.proofs.lemmas.Bool.{and_parts, cases_lt}
use Rattle.std.proofs.lemmas.Bool.Decides.{nat_tests}
use Rattle.std.proofs.lemmas.Slice.Eq.{bytes_eq-Decides}
use Rattle.refusal.specs.declared.Refusal.TheVariants.{Exists, Gap, OldNumber}
use Rattle.delta.specs.Operation.{Operation}
use Rattle.revision.specs.Command.{Action, Create, Edit, Undo, Delete, Command, Taken}
use Rattle.revision.specs.Window.{Window, taken_as, taken_next, revision_in}
use Rattle.revision.specs.Sources.{Sources, window_of}
use Rattle.revision.proofs.CallerLemmas.{shifts, one_revision}
use Rattle.revision.specs.State.{DocumentRecord, State, sources_of, is_live, find, grows, grown, all_grow, fold}
use Rattle.revision.specs.Acceptance.{Answer, Repeats, Refuses, by_retry, by_number, if_live, revive, edit, undo, delete, answer, answer_to}
use Rattle.revision.specs.Agree.{DocumentsAgree, PlacesAgree}
use Rattle.world.specs.Law.{window_found, window_held}
use Rattle.hub_desk.specs.Standing.{Reaches, StandsIn}
use Rattle.hub_desk.specs.Laws.{lives, refusal_of_old, IsNotTakenAgain, StandsLater, StandsAlike, IsTakenOf, WasTakenAmong}
use Rattle.hub_desk.proofs.Finding.{noted, Leaves, grown-leaves}
use Rattle.world.proofs.CallerLemmas.{made_below, number_again}

-- where the document is found
abbrev pub StandsWhere : Command → ℕ → Option (ℕ × DocumentRecord) → Type 0
StandsWhere command revision there = IsSomeAnd there (λ found. Reaches command.number revision (window_of command.source (sources_of found.1)))

reached : (command : Command) (revision : ℕ) (there : Option (ℕ × DocumentRecord)) → StandsWhere command revision there
    → Reaches command.number revision (window_found command.source there)
reached command revision None stands = absurd stands
reached command revision (Some found) stands = stands

some_same : (a b : ℕ) → ◌≡◌ {A = Option ℕ} (Some a) (Some b) → a ≡ b
some_same a b e = cc

pub reaches-below : (number revision : ℕ) (window : Window) → Reaches number revision window → number ≤ window.number
reaches-below number revision window (inl is) = made_below window number revision is
reaches-below number revision window (inr old) = omega (arith, old.1)

-- where a number that reaches made a revision, it is that one
pub reaches-made : (number revision made : ℕ) (window : Window) → Reaches number revision window → revision_in number window ≡ Some made → revision ≡ made
reaches-made number revision made window (inl is) there = some_same revision made (sym is ∙ there)
reaches-made number revision made window (inr old) there = let none = old.0 in absurd (cc)

-- a number reaches on with the source's next one
reaches-shifted : (number revision : ℕ) (window : Window) (next : ℕ) → Reaches number revision window → Reaches number revision (taken_next window next)
reaches-shifted number revision window next reaches = by_made (revision_in number (taken_next window next)) refl
  where
    below : number ≤ window.number
    below = reaches-below number revision window reaches

    by_made : (o : Option ℕ) → revision_in number (taken_next window next) ≡ o → Reaches number revision (taken_next window next)
    by_made (Some made) is =
        let had : revision_in number window ≡ Some made = one_revision window (next ∷ []) number made below is in
        inl (is ∙ ap (λ r. Some r) (sym (reaches-made number revision made window reaches had)))
    by_made None is = inr (is, omega (arith, below))

reaches-next : (number revision : ℕ) (window : Window) (taken : Taken) (b : Bool) → (b ≡ true → taken.number ≡ window.number + 1)
    → Reaches number revision window → Reaches number revision (cond b (noted taken window) window)
reaches-next number revision window taken true next reaches =
    subst (λ n. Reaches number revision (taken_as n taken.revision window)) (sym (next refl)) (reaches-shifted number revision window taken.revision reaches)
reaches-next number revision window taken false next reaches = reaches

-- the next number reaches as its revision
pub reaches-new : (number revision : ℕ) (window : Window) → number ≡ window.number + 1 → Reaches number revision (taken_as number revision window)
reaches-new number revision window next =
    inl (ap (λ n. revision_in n (taken_as n revision window)) next ∙ (shifts window revision).newest)

-- one command more
stands-grown : (state : State) (taken : Taken) (command : Command) (revision : ℕ) → grows state taken ≡ true
    → StandsIn state command revision → StandsIn (grown state taken) command revision
stands-grown state taken command revision grow stands = by_leaves (grown-leaves state taken command.name command.source grow)
  where
    before : Option (ℕ × DocumentRecord)
    before = find command.name 0 state.documents

    by_leaves : Leaves taken command.source before (find command.name 0 (grown state taken).documents) → StandsIn (grown state taken) command revision
    by_leaves (inl same) = subst (StandsWhere command revision) (sym same) stands
    by_leaves (inr left) =
        subst (StandsWhere command revision) (sym left.1)
        (subst (Reaches command.number revision) (sym left.3)
        (reaches-next command.number revision (window_found command.source before) taken (bytes_eq taken.source command.source) left.4 (reached command revision before stands)))

pub stands_later : StandsLater
stands_later state [] command revision grow stands = stands
stands_later state (first ∷ others) command revision grow stands =
    let parts = and_parts (grows state first) (all_grow (grown state first) others) grow in
    stands_later (grown state first) others command revision parts.1 (stands-grown state first command revision parts.0 stands)

-- documents that agree, place by place, are found alike
alike-found : (command : Command) (revision from : ℕ) (there documents : List DocumentRecord)
    → ((number : ℕ) → PlacesAgree (slice_get there number) (slice_get documents number))
    → StandsWhere command revision (find command.name from documents) → StandsWhere command revision (find command.name from there)
alike-found command revision from [] [] each stands = stands
alike-found command revision from [] (b ∷ documents) each stands = absurd (each 0)
alike-found command revision from (a ∷ there) [] each stands = absurd (each 0)
alike-found command revision from (a ∷ there) (b ∷ documents) each stands =
    by_tests (bytes_eq a.name command.name) (bytes_eq b.name command.name) (ap (λ (n : List ℕ). bytes_eq n command.name) first.name)
    (alike-found command revision (from + 1) there documents (λ number. each (suc number))) stands
  where
    first : DocumentsAgree a b
    first = each 0

    by_tests : (p q : Bool) → p ≡ q
        → (StandsWhere command revision (find command.name (from + 1) documents) → StandsWhere command revision (find command.name (from + 1) there))
        → StandsWhere command revision (cond q (Some (from, b)) (find command.name (from + 1) documents))
        → StandsWhere command revision (cond p (Some (from, a)) (find command.name (from + 1) there))
    by_tests true true same further stands = subst (λ (s : Sources). Reaches command.number revision (window_of command.source s)) (sym first.sources) stands
    by_tests true false same further stands = absurd (cc)
    by_tests false true same further stands = absurd (cc)
    by_tests false false same further stands = further stands

pub stands_alike : StandsAlike
stands_alike there state command revision agree stands = alike-found command revision 0 there.documents state.documents agree.documents stands

-- how numbers decide
is_old : (number last : ℕ) → number < last → nat_le number last ≡ true
is_old number last lower = grind (arith, nat_tests)

first_case : (b : Bool) (one other : Answer) → b ≡ true → cond b one other ≡ one
first_case true one other is = refl
first_case false one other is = absurd (cc)

both_cases : (b : Bool) (one other wanted : Answer) → one ≡ wanted → other ≡ wanted → cond b one other ≡ wanted
both_cases true one other wanted first second = first
both_cases false one other wanted first second = second

by_number-old : (window : Window) (number : ℕ) (next : Answer) → revision_in number window ≡ None → number < window.number → by_number window number next ≡ Refuses OldNumber
by_number-old window number next none lower =
    ap (λ o. by_retry o (cond (nat_le number window.number) (Refuses OldNumber) (cond (nat_lt (window.number + 1) number) (Refuses Gap) next))) none
    ∙ first_case _ _ _ (is_old number window.number lower)

-- where its document is found
module _ (state : State) (command : Command) (found : ℕ × DocumentRecord) where
  answered-again : (action : Action) (revision : ℕ) → revision_in command.number (window_of command.source (sources_of found.1)) ≡ Some revision
      → answer_to state command action (Some found) ≡ Repeats revision
  answered-again (Create delta) revision is =
      both_cases (is_live found.1) (by_retry (revision_in command.number (window_of command.source (sources_of found.1))) (Refuses Exists))
      (by_number (window_of command.source (sources_of found.1)) command.number (revive state found.0 found.1 command delta)) (Repeats revision)
      (ap (λ o. by_retry o (Refuses Exists)) is)
      (number_again (window_of command.source (sources_of found.1)) command.number revision (revive state found.0 found.1 command delta) is)
  answered-again (Edit base delta) revision is =
      number_again (window_of command.source (sources_of found.1)) command.number revision (if_live found.1 (edit state found.0 found.1 command base delta)) is
  answered-again Undo revision is =
      number_again (window_of command.source (sources_of found.1)) command.number revision (if_live found.1 (undo state found.0 found.1 command)) is
  answered-again Delete revision is =
      number_again (window_of command.source (sources_of found.1)) command.number revision (if_live found.1 (delete state found.0 found.1 command)) is

  -- a creation, of a document that is live or deleted
  created-old : (delta : List Operation) (live : Bool) → revision_in command.number (window_of command.source (sources_of found.1)) ≡ None
      → command.number < (window_of command.source (sources_of found.1)).number
      → cond live (by_retry (revision_in command.number (window_of command.source (sources_of found.1))) (Refuses Exists))
      (by_number (window_of command.source (sources_of found.1)) command.number (revive state found.0 found.1 command delta))
      ≡ Refuses (refusal_of_old (Create delta) live)
  created-old delta true none lower = ap (λ o. by_retry o (Refuses Exists)) none
  created-old delta false none lower =
      by_number-old (window_of command.source (sources_of found.1)) command.number (revive state found.0 found.1 command delta) none lower

  answered-old : (action : Action) → revision_in command.number (window_of command.source (sources_of found.1)) ≡ None
      → command.number < (window_of command.source (sources_of found.1)).number → answer_to state command action (Some found) ≡ Refuses (refusal_of_old action (is_live found.1))
  answered-old (Create delta) none lower = created-old delta (is_live found.1) none lower
  answered-old (Edit base delta) none lower =
      by_number-old (window_of command.source (sources_of found.1)) command.number (if_live found.1 (edit state found.0 found.1 command base delta)) none lower
  answered-old Undo none lower =
      by_number-old (window_of command.source (sources_of found.1)) command.number (if_live found.1 (undo state found.0 found.1 command)) none lower
  answered-old Delete none lower =
      by_number-old (window_of command.source (sources_of found.1)) command.number (if_live found.1 (delete state found.0 found.1 command)) none lower

-- what is answered to a command that stands
pub stands_answered : (state : State) (command : Command) (revision : ℕ) → StandsIn state command revision
    → ((revision_in command.number (window_held state command) ≡ Some revision) × (answer state command ≡ Repeats revision))
    ⊎ ((revision_in command.number (window_held state command) ≡ None) × (command.number < (window_held state command).number)
    × (answer state command ≡ Refuses (refusal_of_old command.action (lives (find command.name 0 state.documents)))))
stands_answered state command revision stands = by_found (find command.name 0 state.documents) stands
  where
    by_found : (there : Option (ℕ × DocumentRecord)) → StandsWhere command revision there
        → ((revision_in command.number (window_found command.source there) ≡ Some revision) × (answer_to state command command.action there ≡ Repeats revision))
        ⊎ ((revision_in command.number (window_found command.source there) ≡ None) × (command.number < (window_found command.source there).number)
        × (answer_to state command command.action there ≡ Refuses (refusal_of_old command.action (lives there))))
    by_found None stands = absurd stands
    by_found (Some found) (inl made) = inl (made, answered-again state command found command.action revision made)
    by_found (Some found) (inr old) = inr (old.0, old.1, answered-old state command found command.action old.0 old.1)

pub not_taken_again : IsNotTakenAgain
not_taken_again state command revision some stands = stands_answered state command revision stands

-- a document keeps its number
number-stays : (name : List ℕ) (state : State) (commands : List Taken) (number : ℕ) (found : DocumentRecord) → all_grow state commands ≡ true
    → find name 0 state.documents ≡ Some (number, found)
    → (later : DocumentRecord) × (find name 0 (fold state commands).documents ≡ Some (number, later))
number-stays name state [] number found grow is = (found, is)
number-stays name state (first ∷ others) number found grow is =
    let parts = and_parts (grows state first) (all_grow (grown state first) others) grow in
    by_leaves (λ now here. number-stays name (grown state first) others number now parts.1 here) (grown-leaves state first name [] parts.0)
  where
    by_leaves : ((now : DocumentRecord) → find name 0 (grown state first).documents ≡ Some (number, now)
        → (later : DocumentRecord) × (find name 0 (fold (grown state first) others).documents ≡ Some (number, later)))
        → Leaves first [] (find name 0 state.documents) (find name 0 (grown state first).documents)
        → (later : DocumentRecord) × (find name 0 (fold (grown state first) others).documents ≡ Some (number, later))
    by_leaves further (inl same) = further found (same ∙ is)
    by_leaves further (inr left) = further left.0 (left.1 ∙ ap (λ n. Some (n, left.0)) (sym (left.2 number found is)))

any-cons : (P : Taken → Type 0) (first : Taken) (others : List Taken) → Any P others → Any P (first ∷ others)
any-cons P first others there = (suc there.0, there.1, omega (arith, there.2), there.3, there.4)

any-first : (P : Taken → Type 0) (first : Taken) (others : List Taken) → P first → Any P (first ∷ others)
any-first P first others here = (0, first, omega arith, refl, here)

-- the command that brings the source's number up to this one
module _ (state : State) (first : Taken) (others : List Taken) (command : Command) (revision : ℕ) (grow : grows state first ≡ true)
    (more : all_grow (grown state first) others ≡ true) (fresh : (window_held state command).number < command.number)
    (least : command.number ≤ (window_held (grown state first) command).number) (stands : StandsIn (fold (grown state first) others) command revision) where
  by_source : (found : DocumentRecord) (b : Bool) → bytes_eq first.source command.source ≡ b
      → find command.name 0 (grown state first).documents ≡ Some (first.document, found)
      → window_of command.source (sources_of found) ≡ cond b (noted first (window_held state command)) (window_held state command)
      → (bytes_eq first.source command.source ≡ true → first.number ≡ (window_held state command).number + 1)
      → IsTakenOf (fold (grown state first) others) command revision first
  by_source found true e is last next =
      let now : window_held (grown state first) command ≡ noted first (window_held state command) = ap (window_found command.source) is ∙ last in
      let at : (window_held (grown state first) command).number ≡ first.number = ap (λ (w : Window). w.number) now in
      let same : first.number ≡ command.number = omega (arith, next e, fresh, least, at) in
      let here : Reaches command.number first.revision (window_of command.source (sources_of found)) =
      subst (Reaches command.number first.revision) (sym last)
      (subst (λ n. Reaches n first.revision (noted first (window_held state command))) same (reaches-new first.number first.revision (window_held state command) (next e))) in
      let later : StandsIn (fold (grown state first) others) command first.revision =
      stands_later (grown state first) others command first.revision more (subst (StandsWhere command first.revision) (sym is) here) in
      record {
        source = (bytes_eq-Decides first.source command.source).0 e;
        number = same;
        document = number-stays command.name (grown state first) others first.document found more is;
        made = λ there. reaches-made command.number first.revision revision _ (reached command first.revision _ later) there;
      }
  by_source found false e is last next =
      let now : (window_held (grown state first) command).number ≡ (window_held state command).number = ap (λ (w : Window). w.number) (ap (window_found command.source) is ∙ last) in
      absurd (omega (arith, fresh, least, now))

  was-first : Leaves first command.source (find command.name 0 state.documents) (find command.name 0 (grown state first).documents)
      → IsTakenOf (fold (grown state first) others) command revision first
  was-first (inl same) =
      let now : (window_held (grown state first) command).number ≡ (window_held state command).number = ap (λ t. (window_found command.source t).number) same in
      absurd (omega (arith, fresh, least, now))
  was-first (inr left) = by_source left.0 (bytes_eq first.source command.source) refl left.1 left.3 left.4

pub was_taken_among : WasTakenAmong
was_taken_among state [] command revision grow fresh stands =
    absurd (omega (arith, fresh, reaches-below command.number revision (window_held state command) (reached command revision (find command.name 0 state.documents) stands)))
was_taken_among state (first ∷ others) command revision grow fresh stands =
    let parts = and_parts (grows state first) (all_grow (grown state first) others) grow in
    elim (cases_lt (window_held (grown state first) command).number command.number) [
      | inl lower ↦
          any-cons (IsTakenOf (fold (grown state first) others) command revision) first others
          (was_taken_among (grown state first) others command revision parts.1 lower stands)
      | inr least ↦
          any-first (IsTakenOf (fold (grown state first) others) command revision) first others
          (was-first state first others command revision parts.0 parts.1 fresh least stands (grown-leaves state first command.name command.source parts.0))
    ]
