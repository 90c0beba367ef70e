-- States that agree answer a command alike, unless one of them no longer holds the revision that it stands on.
use Rattle.std.proofs.Common.{◌≡◌, ◌⊎◌, inl, inr, ℕ, ◌+◌, ◌-◌, ◌≤◌, ◌<◌, Bool, true, false, cond, List, [], Option, Some, None, refl, sym, ap, subst, ◌∙◌, ⊎_elim, arith}
use Rattle.std.specs.Prelude.{◌==◌, not, nat_lt, nat_le}
use Rattle.std.proofs.lemmas.Bool.{ltb-false, leb-false, le-ltb, lt-leb, cases_lt}
use Rattle.std.proofs.lemmas.List.{drop-map, length-map, drop_all}
use Rattle.refusal.specs.declared.Refusal.TheVariants.{Exists, Gap, OldNumber, TooManySources, Future, TooOld, RevisionsSpent, NothingToUndo, TooManyDocuments, Deleted}
use Rattle.attributes.specs.Map.{empty}
use Rattle.delta.specs.Element.{Element}
use Rattle.delta.specs.Operation.{Operation}
use Rattle.revision.specs.Command.{Action, Create, Edit, Undo, Delete, Command, Edits, Deletes, Revives}
use Rattle.revision.specs.Window.{Window, revision_in, last_revision}
use Rattle.revision.specs.Sources.{Sources, window_of}
use Rattle.revision.specs.Late.{late}
use Rattle.revision.specs.Past.{way_back_late, Content, Change, newest, deltas_of, deltas_above, undo_of}
use Rattle.revision.specs.State.{Limits, DocumentRecord, State, revision_of, sources_of, is_live, last_of_all, has_place}
use Rattle.revision.specs.Acceptance.{Answer, Refuses, take_on, take_within, if_live, create_existing, revive, change, edit, undo, delete, by_retry, by_number, answer_to}
use Rattle.revision.specs.Agree.{DocumentsAgree, Agree, AgreeingAnswer, AgreeingAnswerHeld, StandsOnHeld}
use Rattle.revision.proofs.Agreeing.{FoundAgree, lists-found, lists-length}

-- answers that are equal, unless one is that the revision is no longer held
abbrev Alike : Answer → Answer → Type 0
Alike x y = (x ≡ y) ⊎ ((x ≡ Refuses TooOld) ⊎ (y ≡ Refuses TooOld))

alike-unless : (b : Bool) (other x y : Answer) → Alike x y → Alike (cond b other x) (cond b other y)
alike-unless true other x y alike = inl refl
alike-unless false other x y alike = alike

alike-retry : (found : Option ℕ) (x y : Answer) → Alike x y → Alike (by_retry found x) (by_retry found y)
alike-retry None x y alike = alike
alike-retry (Some revision) x y alike = inl refl

alike-number : (window : Window) (number : ℕ) (x y : Answer) → Alike x y → Alike (by_number window number x) (by_number window number y)
alike-number window number x y alike =
    alike-retry (revision_in number window) _ _
    (alike-unless (nat_le number window.number) (Refuses OldNumber) _ _
    (alike-unless (nat_lt (window.number + 1) number) (Refuses Gap) _ _ alike))

alike-live : (live : Bool) (x y : Answer) → Alike x y → Alike (cond live x (Refuses Deleted)) (cond live y (Refuses Deleted))
alike-live true x y alike = alike
alike-live false x y alike = inl refl

-- where neither has let go of the revision they are equal
alike-held : (old older : Bool) (x y : Answer) → (old ≡ false → older ≡ false → x ≡ y)
    → Alike (cond old (Refuses TooOld) x) (cond older (Refuses TooOld) y)
alike-held true older x y same = inr (inl refl)
alike-held false true x y same = inr (inr refl)
alike-held false false x y same = inl (same refl refl)

same-held : (old older : Bool) (x y : Answer) → old ≡ false → older ≡ false → x ≡ y → cond old (Refuses TooOld) x ≡ cond older (Refuses TooOld) y
same-held old older x y a b same = λ i. cond ((a ∙ sym b) i) (Refuses TooOld) (same i)

-- a change by what it looks at
change_by : Limits → ℕ → ℕ → List Element → Sources → Command → List Operation → Answer
change_by limits number revision units sources command delta =
    cond (revision == last_of_all) (Refuses RevisionsSpent)
    (take_on limits units sources (record { document = number; name = None; revision = revision + 1; source = command.source; number = command.number; step = Edits; delta = delta }))

-- and so a creation again, and a deletion
revive_by : Limits → ℕ → ℕ → Sources → Command → List Operation → Answer
revive_by limits number revision sources command delta =
    cond (not (has_place limits command.source sources)) (Refuses TooManySources)
    (cond (revision == last_of_all) (Refuses RevisionsSpent)
    (take_on limits [] sources (record { document = number; name = None; revision = revision + 1; source = command.source; number = command.number; step = Revives; delta = delta })))

delete_by : Limits → ℕ → ℕ → List Element → Sources → Command → Answer
delete_by limits number revision units sources command =
    cond (not (has_place limits command.source sources)) (Refuses TooManySources)
    (cond (revision == last_of_all) (Refuses RevisionsSpent)
    (take_within limits units sources (record { document = number; name = None; revision = revision + 1; source = command.source; number = command.number; step = Deletes; delta = [] })))

module _ (s t : State) (command : Command) (agree : Agree s t) where
  change-same : (n m : ℕ) (a b : DocumentRecord) (d e : List Operation) → n ≡ m → DocumentsAgree a b → d ≡ e
      → change s n a command d ≡ change t m b command e
  unfolding change_by
  change-same n m a b d e number both same =
      λ i. change_by (agree.limits i) (number i) (both.revision i) (both.content i).units (both.sources i) command (same i)

  module _ (n m : ℕ) (a b : DocumentRecord) (number : n ≡ m) (both : DocumentsAgree a b) where
    -- the edit past what both hold since its base
    since-same : (base : ℕ) → a.past.floor ≤ base → b.past.floor ≤ base → base ≤ revision_of a → deltas_above a.past base ≡ deltas_above b.past base
    since-same base over other within =
        drop-map (λ (c : Change). c.delta) (base - a.past.floor) a.past.changes
        ∙ (ap deltas_of (both.past base over other within) ∙ sym (drop-map (λ (c : Change). c.delta) (base - b.past.floor) b.past.changes))

    -- what comes behind the tests that both answer alike
    edit-rest : (base : ℕ) (delta : List Operation) → a.past.floor ≤ base → b.past.floor ≤ base → base ≤ revision_of a
        → change s n a command (late delta (deltas_above a.past base)) ≡ change t m b command (late delta (deltas_above b.past base))
    edit-rest base delta over other within = change-same n m a b _ _ number both (ap (late delta) (since-same base over other within))

    -- an edit, given the outcome of its last test
    edit-by : (base : ℕ) (delta : List Operation) (place future : Bool) (P : Answer → Answer → Type 0) → ((x : Answer) → P x x)
        → (future ≡ false → P (cond (nat_lt base a.past.floor) (Refuses TooOld) (change s n a command (late delta (deltas_above a.past base))))
        (cond (nat_lt base b.past.floor) (Refuses TooOld) (change t m b command (late delta (deltas_above b.past base)))))
        → P (cond (not place) (Refuses TooManySources) (cond future (Refuses Future) (cond (nat_lt base a.past.floor) (Refuses TooOld) (change s n a command (late delta (deltas_above a.past base))))))
        (cond (not place) (Refuses TooManySources) (cond future (Refuses Future) (cond (nat_lt base b.past.floor) (Refuses TooOld) (change t m b command (late delta (deltas_above b.past base))))))
    edit-by base delta false future P same rest = same (Refuses TooManySources)
    edit-by base delta true true P same rest = same (Refuses Future)
    edit-by base delta true false P same rest = rest refl

    edit-tests : (base : ℕ) (delta : List Operation) (P : Answer → Answer → Type 0) → ((x : Answer) → P x x)
        → (base ≤ revision_of a → P (cond (nat_lt base a.past.floor) (Refuses TooOld) (change s n a command (late delta (deltas_above a.past base))))
        (cond (nat_lt base b.past.floor) (Refuses TooOld) (change t m b command (late delta (deltas_above b.past base)))))
        → P (edit s n a command base delta) (edit t m b command base delta)
    edit-tests base delta P same rest =
        subst (λ (p : Bool × Bool). P (edit s n a command base delta) (cond (not p.0) (Refuses TooManySources) (cond p.1 (Refuses Future)
        (cond (nat_lt base b.past.floor) (Refuses TooOld) (change t m b command (late delta (deltas_above b.past base)))))))
        (λ i. (has_place (agree.limits i) command.source (both.sources i), nat_lt (both.revision i) base))
        (edit-by base delta (has_place s.limits command.source (sources_of a)) (nat_lt (revision_of a) base) P same (λ e. rest (ltb-false (revision_of a) base e)))

    edit-alike : (base : ℕ) (delta : List Operation) → Alike (edit s n a command base delta) (edit t m b command base delta)
    edit-alike base delta = edit-tests base delta Alike (λ x. inl refl) (λ within.
        alike-held (nat_lt base a.past.floor) (nat_lt base b.past.floor) _ _
        (λ e f. edit-rest base delta (ltb-false base a.past.floor e) (ltb-false base b.past.floor f) within))

    edit-same : (base : ℕ) (delta : List Operation) → a.past.floor ≤ base → b.past.floor ≤ base → edit s n a command base delta ≡ edit t m b command base delta
    edit-same base delta over other = edit-tests base delta (λ x y. x ≡ y) (λ x. refl) (λ within.
        same-held (nat_lt base a.past.floor) (nat_lt base b.past.floor) _ _ (le-ltb base a.past.floor over) (le-ltb base b.past.floor other)
        (edit-rest base delta over other within))

    -- what undoes the change of a revision that both hold
    undo-same : (revision : ℕ) → a.past.floor < revision → b.past.floor < revision
        → undo_of a.past.floor a.past.content.units (deltas_of a.past) revision ≡ undo_of b.past.floor b.past.content.units (deltas_of b.past) revision
    undo-same revision over other =
        ⊎_elim
        (λ (within : revision - 1 ≤ revision_of a).
        let low : a.past.floor ≤ revision - 1 = omega (arith, over) in
        let lower : b.past.floor ≤ revision - 1 = omega (arith, other) in
        let from = both.past (revision - 1) low lower within in
        λ i. way_back_late (from i).content.units (since-same (revision - 1) low lower within i))
        (λ (past : revision_of a + 1 ≤ revision - 1).
        ap (way_back_late _) (nothing a (revision - 1) (omega (arith, past))) ∙ sym (ap (way_back_late _) (nothing b (revision - 1) (omega (arith, past, both.revision)))))
        (within-or-past (revision - 1) (revision_of a))
      where
        nothing : (found : DocumentRecord) (at : ℕ) → newest found.past ≤ at → deltas_above found.past at ≡ []
        nothing found at past = drop_all (at - found.past.floor) (deltas_of found.past) (omega (arith, past, length-map found.past.changes (λ (c : Change). c.delta)))

        within-or-past : (x y : ℕ) → (x ≤ y) ⊎ (y + 1 ≤ x)
        within-or-past x y = ⊎_elim (λ (h : x < y + 1). inl (omega (arith, h))) (λ (h : y + 1 ≤ x). inr h) (cases_lt x (y + 1))

    -- an undo, by what the source has
    undo_by : DocumentRecord → State → ℕ → Window → Answer
    undo_by found state place window =
        cond (window.number == 0) (Refuses NothingToUndo) (cond (nat_le (last_revision window) found.past.floor) (Refuses TooOld)
        (change state place found command (undo_of found.past.floor found.past.content.units (deltas_of found.past) (last_revision window))))

    undo-rest : (revision : ℕ) → a.past.floor < revision → b.past.floor < revision
        → change s n a command (undo_of a.past.floor a.past.content.units (deltas_of a.past) revision)
        ≡ change t m b command (undo_of b.past.floor b.past.content.units (deltas_of b.past) revision)
    undo-rest revision over other = change-same n m a b _ _ number both (undo-same revision over other)

    undo-alike : Alike (undo s n a command) (undo t m b command)
    unfolding undo_by
    undo-alike =
        subst (λ window. Alike (undo s n a command) (undo_by b t m window)) (ap (window_of command.source) both.sources)
        (alike-unless ((window_of command.source (sources_of a)).number == 0) (Refuses NothingToUndo) _ _
        (alike-held (nat_le (last_revision (window_of command.source (sources_of a))) a.past.floor) (nat_le (last_revision (window_of command.source (sources_of a))) b.past.floor) _ _
        (λ e f. undo-rest (last_revision (window_of command.source (sources_of a))) (leb-false _ _ e) (leb-false _ _ f))))

    undo-held : a.past.floor < last_revision (window_of command.source (sources_of a)) → b.past.floor < last_revision (window_of command.source (sources_of b))
        → undo s n a command ≡ undo t m b command
    unfolding undo_by
    undo-held over other =
        let window = ap (window_of command.source) both.sources in
        let here : b.past.floor < last_revision (window_of command.source (sources_of a)) = subst (λ (w : Window). b.past.floor < last_revision w) (sym window) other in
        subst (λ window. undo s n a command ≡ undo_by b t m window) window
        (ap (cond ((window_of command.source (sources_of a)).number == 0) (Refuses NothingToUndo))
        (same-held (nat_le (last_revision (window_of command.source (sources_of a))) a.past.floor) (nat_le (last_revision (window_of command.source (sources_of a))) b.past.floor) _ _
        (lt-leb _ _ over) (lt-leb _ _ here) (undo-rest (last_revision (window_of command.source (sources_of a))) over here)))

    -- both are live, or both are deleted
    live-same : is_live a ≡ is_live b
    live-same = ap (λ (c : Content). c.live) both.content

    revive-same : (delta : List Operation) → revive s n a command delta ≡ revive t m b command delta
    unfolding revive_by
    revive-same delta = λ i. revive_by (agree.limits i) (number i) (both.revision i) (both.sources i) command delta

    delete-same : delete s n a command ≡ delete t m b command
    unfolding delete_by
    delete-same = λ i. delete_by (agree.limits i) (number i) (both.revision i) (both.content i).units (both.sources i) command

    -- an action to the document that is found
    existing-same : (delta : List Operation) → create_existing s n a command delta ≡ create_existing t m b command delta
    existing-same delta =
        let window = ap (window_of command.source) both.sources in
        let again = revive-same delta in
        λ i. cond (live-same i) (by_retry (revision_in command.number (window i)) (Refuses Exists)) (by_number (window i) command.number (again i))

    live-alike : (x y : Answer) → Alike x y → Alike (if_live a x) (if_live b y)
    live-alike x y alike = subst (λ live. Alike (if_live a x) (cond live y (Refuses Deleted))) live-same (alike-live (is_live a) x y alike)

    by-window : (x y : Answer) → Alike x y
        → Alike (by_number (window_of command.source (sources_of a)) command.number (if_live a x)) (by_number (window_of command.source (sources_of b)) command.number (if_live b y))
    by-window x y alike =
        subst (λ window. Alike (by_number (window_of command.source (sources_of a)) command.number (if_live a x)) (by_number window command.number (if_live b y))) (ap (window_of command.source) both.sources)
        (alike-number (window_of command.source (sources_of a)) command.number (if_live a x) (if_live b y) (live-alike x y alike))

    found-alike : (action : Action) → Alike (answer_to s command action (Some (n, a))) (answer_to t command action (Some (m, b)))
    found-alike (Create delta) = inl (existing-same delta)
    found-alike (Edit base delta) = by-window _ _ (edit-alike base delta)
    found-alike Undo = by-window _ _ undo-alike
    found-alike Delete = by-window _ _ (inl delete-same)

    by-window-same : (x y : Answer) → x ≡ y
        → by_number (window_of command.source (sources_of a)) command.number (if_live a x) ≡ by_number (window_of command.source (sources_of b)) command.number (if_live b y)
    by-window-same x y same =
        let window = ap (window_of command.source) both.sources in
        λ i. by_number (window i) command.number (cond (live-same i) (same i) (Refuses Deleted))

    found-held : (action : Action) → StandsOnHeld command.source action a b → answer_to s command action (Some (n, a)) ≡ answer_to t command action (Some (m, b))
    found-held (Create delta) held = existing-same delta
    found-held (Edit base delta) held = by-window-same _ _ (edit-same base delta held.0 held.1)
    found-held Undo held = by-window-same _ _ (undo-held held.0 held.1)
    found-held Delete held = by-window-same _ _ delete-same

  -- an action to a document that isn't there
  new-same : (action : Action) → answer_to s command action None ≡ answer_to t command action None
  new-same (Create delta) =
      let count = lists-length s.documents t.documents agree.documents in
      λ i. cond (nat_lt 1 command.number) (Refuses Gap) (cond (nat_le (agree.limits i).docs (count i)) (Refuses TooManyDocuments)
      (take_on (agree.limits i) [] empty (record { document = count i; name = Some command.name; revision = 1; source = command.source; number = 1; step = Edits; delta = delta })))
  new-same (Edit base delta) = refl
  new-same Undo = refl
  new-same Delete = refl

  to-alike : (p q : Option (ℕ × DocumentRecord)) → FoundAgree p q → Alike (answer_to s command command.action p) (answer_to t command command.action q)
  to-alike None None found = inl (new-same command.action)
  to-alike None (Some q) found = absurd found
  to-alike (Some p) None found = absurd found
  to-alike (Some p) (Some q) found = found-alike p.0 q.0 p.1 q.1 found.0 found.1 command.action

  -- one number, and what is held of it
  Held : Option (ℕ × DocumentRecord) → Option (ℕ × DocumentRecord) → Type 0
  Held p q = (number : ℕ) (a b : DocumentRecord) → p ≡ Some (number, a) → q ≡ Some (number, b) → StandsOnHeld command.source command.action a b

  to-held : (p q : Option (ℕ × DocumentRecord)) → FoundAgree p q → Held p q → answer_to s command command.action p ≡ answer_to t command command.action q
  unfolding Held
  to-held None None found held = new-same command.action
  to-held None (Some q) found held = absurd found
  to-held (Some p) None found held = absurd found
  to-held (Some p) (Some q) found held =
      found-held p.0 q.0 p.1 q.1 found.0 found.1 command.action (held p.0 p.1 q.1 refl (ap (λ n. Some (n, q.1)) (sym found.0)))

pub agreeing_answer : AgreeingAnswer
agreeing_answer s t command agree = to-alike s t command agree _ _ (lists-found command.name 0 s.documents t.documents agree.documents)

pub agreeing_answer_held : AgreeingAnswerHeld
unfolding Held
agreeing_answer_held s t command agree held = to-held s t command agree _ _ (lists-found command.name 0 s.documents t.documents agree.documents) held
