-- Along an order of commands that each have their place, a source's numbers rise by one, and each has one revision.
use Rattle.std.proofs.Common.{◌≡◌, ℕ, zero, suc, ◌+◌, ◌≤◌, ◌<◌, Bool, true, false, cond, List, [], ◌∷◌, ◌++◌, length, take, get_or, Option, Some, None, refl, sym, ap, subst, ◌∙◌, arith, inl, inr}
use Rattle.std.specs.Prelude.{◌⊎◌, bytes_eq, All, Any, AllPairs}
use Rattle.std.proofs.lemmas.Bool.{and_parts, and_from, both_ways, cases_lt}
use Rattle.std.proofs.lemmas.List.Elements.{All-nil, All-cons, All-weaker}
use Rattle.revision.specs.Window.{longest, Window, taken_as, taken_next, taken_all, revision_in}
use Rattle.revision.proofs.CallerLemmas.{none_outside, shifts, one_revision, again_for_long}
use Rattle.revision.specs.Command.{Command}
use Rattle.world.specs.World.{Entry, is_of}
use Rattle.world.specs.Shown.{Shown}
use Rattle.world.specs.Law.{IsSent}
pub use Rattle.world.specs.steps.Placing.{AllPlaced, after}
use Rattle.world.proofs.Showing.{grown_shown}
use Rattle.world.proofs.Numbers.{window_in, Placed, window-grown, same_bytes, bytes_same}

pub placed-more : (documents : List Shown) (entries : List Entry) (entry : Entry) → AllPlaced documents entries → Placed (after documents entries) entry
    → AllPlaced documents (entries ++ entry ∷ [])
placed-more documents [] entry placed last = (last, tt)
placed-more documents (first ∷ others) entry placed last = (placed.0, placed-more (grown_shown first.taken documents) others entry placed.1 last)

pub placed-take : (n : ℕ) (documents : List Shown) (entries : List Entry) → AllPlaced documents entries → AllPlaced documents (take n entries)
placed-take zero documents entries placed = tt
placed-take (suc n) documents [] placed = tt
placed-take (suc n) documents (first ∷ others) placed = (placed.0, placed-take n (grown_shown first.taken documents) others placed.1)

-- the command at a place has its place after those before it
pub placed-at : (n : ℕ) (default : Entry) (documents : List Shown) (entries : List Entry) → n < length entries → AllPlaced documents entries
    → Placed (after documents (take n entries)) (get_or entries n default)
placed-at n default documents [] lt placed = absurd (omega arith)
placed-at zero default documents (first ∷ others) lt placed = placed.0
placed-at (suc n) default documents (first ∷ others) lt placed = placed-at n default (grown_shown first.taken documents) others (omega arith) placed.1

-- the end of an order, after its beginning
pub placed-rest : (n : ℕ) (documents : List Shown) (entries : List Entry) → AllPlaced documents entries
    → (rest : List Entry) × (entries ≡ take n entries ++ rest) × AllPlaced (after documents (take n entries)) rest
placed-rest zero documents entries placed = (entries, refl, placed)
placed-rest (suc n) documents [] placed = ([], refl, tt)
placed-rest (suc n) documents (first ∷ others) placed =
    let further = placed-rest n (grown_shown first.taken documents) others placed.1 in
    (further.0, ap (λ l. first ∷ l) further.1, further.2)

-- a number that made a revision in a window isn't above its last one
pub made_below : (window : Window) (number revision : ℕ) → revision_in number window ≡ Some revision → number ≤ window.number
made_below window number revision is = elim (cases_lt window.number number) [
  | inl above ↦
      let none : revision_in number window ≡ None = none_outside window number (λ inside. absurd (omega (arith, above, inside.below))) in
      absurd (cc)
  | inr below ↦ below
]

module _ (name source : List ℕ) where
  -- the revisions that the source's commands made, in order
  abbrev pub own_revisions : List Entry → List ℕ
  own_revisions [] = []
  own_revisions (first ∷ others) = cond (is_of name source first.command) (first.taken.revision ∷ own_revisions others) (own_revisions others)

  -- what a source's window is after a command: that with its next number, or what it was
  pub step-window : (documents : List Shown) (entry : Entry) → Placed documents entry
      → ((is_of name source entry.command ≡ true) × (window_in name source (grown_shown entry.taken documents) ≡ taken_next (window_in name source documents) entry.taken.revision)
      × (entry.taken.number ≡ (window_in name source documents).number + 1))
      ⊎ ((is_of name source entry.command ≡ false) × (window_in name source (grown_shown entry.taken documents) ≡ window_in name source documents))
  step-window documents entry placed = by_test (is_of name source entry.command) refl
    where
      before : Window
      before = window_in name source documents

      by_test : (b : Bool) → is_of name source entry.command ≡ b
          → ((is_of name source entry.command ≡ true) × (window_in name source (grown_shown entry.taken documents) ≡ taken_next (window_in name source documents) entry.taken.revision)
          × (entry.taken.number ≡ (window_in name source documents).number + 1))
          ⊎ ((is_of name source entry.command ≡ false) × (window_in name source (grown_shown entry.taken documents) ≡ window_in name source documents))
      by_test true e =
          let parts = and_parts (bytes_eq entry.command.name name) (bytes_eq entry.command.source source) e in
          let next : entry.taken.number ≡ (window_in name source documents).number + 1 =
          placed.number ∙ (placed.next ∙ ap (λ (w : Window). w.number + 1)
          (ap (λ n. window_in n entry.command.source documents) (same_bytes entry.command.name name parts.0) ∙ ap (λ s. window_in name s documents) (same_bytes entry.command.source source parts.1))) in
          inl (
            e,
            window-grown name source documents entry placed
                ∙ (ap (λ b. cond b (taken_as entry.taken.number entry.taken.revision (window_in name source documents)) (window_in name source documents)) e
                ∙ ap (λ n. taken_as n entry.taken.revision (window_in name source documents)) next),
            next,
          )
      by_test false e =
          inr (e, window-grown name source documents entry placed ∙ ap (λ b. cond b (taken_as entry.taken.number entry.taken.revision (window_in name source documents)) (window_in name source documents)) e)

  -- and after many
  pub window-after : (documents : List Shown) (entries : List Entry) → AllPlaced documents entries
      → window_in name source (after documents entries) ≡ taken_all (window_in name source documents) (own_revisions entries)
  window-after documents [] placed = refl
  window-after documents (first ∷ others) placed = elim (step-window documents first placed.0) [
    | inl h ↦ window-after (grown_shown first.taken documents) others placed.1
        ∙ (ap (λ (w : Window). taken_all w (own_revisions others)) h.1
        ∙ ap (λ b. taken_all (window_in name source documents) (cond b (first.taken.revision ∷ own_revisions others) (own_revisions others))) (sym h.0))
    | inr h ↦ window-after (grown_shown first.taken documents) others placed.1
        ∙ (ap (λ (w : Window). taken_all w (own_revisions others)) h.1
        ∙ ap (λ b. taken_all (window_in name source documents) (cond b (first.taken.revision ∷ own_revisions others) (own_revisions others))) (sym h.0))
  ]

  step_rises : (documents : List Shown) (entry : Entry) → Placed documents entry
      → (window_in name source documents).number ≤ (window_in name source (grown_shown entry.taken documents)).number
  step_rises documents entry placed = elim (step-window documents entry placed) [
    | inl h ↦ let same : (window_in name source (grown_shown entry.taken documents)).number ≡ (window_in name source documents).number + 1 = ap (λ (w : Window). w.number) h.1 in omega arith
    | inr h ↦ let same : (window_in name source (grown_shown entry.taken documents)).number ≡ (window_in name source documents).number = ap (λ (w : Window). w.number) h.1 in omega arith
  ]

  -- a number that the window had has one revision as long as it has it
  pub same_revision : (documents : List Shown) (entries : List Entry) → AllPlaced documents entries → (number before now : ℕ)
      → revision_in number (window_in name source documents) ≡ Some before → revision_in number (window_in name source (after documents entries)) ≡ Some now → before ≡ now
  same_revision documents entries placed number before now was is =
      let later : revision_in number (taken_all (window_in name source documents) (own_revisions entries)) ≡ Some now =
      ap (revision_in number) (sym (window-after documents entries placed)) ∙ is in
      let had : revision_in number (window_in name source documents) ≡ Some now =
      one_revision (window_in name source documents) (own_revisions entries) number now (made_below (window_in name source documents) number before was) later in
      some_same before now (sym was ∙ had)
    where
      some_same : (a b : ℕ) → ◌≡◌ {A = Option ℕ} (Some a) (Some b) → a ≡ b
      some_same a b e = cc

  -- and has it until as many later ones were taken as a window has at most
  pub still_made : (documents : List Shown) (entries : List Entry) → AllPlaced documents entries → (number revision : ℕ)
      → revision_in number (window_in name source documents) ≡ Some revision → (window_in name source (after documents entries)).number < number + longest
      → revision_in number (window_in name source (after documents entries)) ≡ Some revision
  still_made documents entries placed number revision was few =
      let same = window-after documents entries placed in
      ap (revision_in number) same
      ∙ again_for_long (window_in name source documents) (own_revisions entries) number revision was (subst (λ (w : Window). w.number < number + longest) same few)

  -- an entry is the source's command of this number, and made this revision
  abbrev pub Makes : ℕ → ℕ → Entry → Type 0
  Makes number revision entry =
      (is_of name source entry.command ≡ true) × (entry.taken.number ≡ entry.command.number) × (entry.taken.number ≡ number) × (entry.taken.revision ≡ revision)

  any-cons : (P : Entry → Type 0) (first : Entry) (others : List Entry) → Any P others → Any P (first ∷ others)
  any-cons P first others there = (suc there.0, there.1, omega (arith, there.2), there.3, there.4)

  any-first : (P : Entry → Type 0) (first : Entry) (others : List Entry) → P first → Any P (first ∷ others)
  any-first P first others here = (0, first, omega arith, refl, here)

  -- what a number made after a command it made before, or the command made it
  step_made : (documents : List Shown) (entry : Entry) → Placed documents entry → (number revision : ℕ)
      → revision_in number (window_in name source (grown_shown entry.taken documents)) ≡ Some revision
      → Makes number revision entry ⊎ (revision_in number (window_in name source documents) ≡ Some revision)
  step_made documents entry placed number revision is = elim (step-window documents entry placed) [
    | inl h ↦ by_next h.0 h.2 (ap (revision_in number) (sym h.1) ∙ is)
    | inr h ↦ inr (ap (revision_in number) (sym h.1) ∙ is)
  ]
    where
      before : Window
      before = window_in name source documents

      by_next : is_of name source entry.command ≡ true → entry.taken.number ≡ (window_in name source documents).number + 1
          → revision_in number (taken_next (window_in name source documents) entry.taken.revision) ≡ Some revision
          → Makes number revision entry ⊎ (revision_in number (window_in name source documents) ≡ Some revision)
      by_next own next there = elim (cases_lt (window_in name source documents).number number) [
        | inl above ↦
            let most : number ≤ (window_in name source documents).number + 1 = made_below (taken_next (window_in name source documents) entry.taken.revision) number revision there in
            let same : number ≡ (window_in name source documents).number + 1 = omega (arith, above, most) in
            let newest : revision_in number (taken_next (window_in name source documents) entry.taken.revision) ≡ Some entry.taken.revision =
            ap (λ n. revision_in n (taken_next (window_in name source documents) entry.taken.revision)) same ∙ (shifts (window_in name source documents) entry.taken.revision).newest in
            inl (own, placed.number, next ∙ sym same, some_same entry.taken.revision revision (sym newest ∙ there))
        | inr below ↦ inr (one_revision (window_in name source documents) (entry.taken.revision ∷ []) number revision below there)
      ]
        where
          some_same : (a b : ℕ) → ◌≡◌ {A = Option ℕ} (Some a) (Some b) → a ≡ b
          some_same a b e = cc

  -- what a number made an entry made, or it was so before
  pub made_by : (documents : List Shown) (entries : List Entry) → AllPlaced documents entries → (number revision : ℕ)
      → revision_in number (window_in name source (after documents entries)) ≡ Some revision
      → Any (Makes number revision) entries ⊎ (revision_in number (window_in name source documents) ≡ Some revision)
  made_by documents [] placed number revision is = inr is
  made_by documents (first ∷ others) placed number revision is = elim (made_by (grown_shown first.taken documents) others placed.1 number revision is) [
    | inl there ↦ inl (any-cons (Makes number revision) first others there)
    | inr here ↦ elim (step_made documents first placed.0 number revision here) [
      | inl makes ↦ inl (any-first (Makes number revision) first others makes)
      | inr had ↦ inr had
    ]
  ]

  -- an entry is the source's, of this number
  abbrev pub Numbers : ℕ → Entry → Type 0
  Numbers number entry = (is_of name source entry.command ≡ true) × (entry.command.number ≡ number)

  -- the last number is that of an entry, or the window is unchanged
  pub numbered_by : (documents : List Shown) (entries : List Entry) → AllPlaced documents entries
      → Any (Numbers (window_in name source (after documents entries)).number) entries ⊎ (window_in name source (after documents entries) ≡ window_in name source documents)
  numbered_by documents [] placed = inr refl
  numbered_by documents (first ∷ others) placed = elim (numbered_by (grown_shown first.taken documents) others placed.1) [
    | inl there ↦ inl (any-cons (Numbers (window_in name source (after documents (first ∷ others))).number) first others there)
    | inr same ↦ elim (step-window documents first placed.0) [
      | inl h ↦
          let number : (window_in name source (after documents (first ∷ others))).number ≡ (window_in name source documents).number + 1 = ap (λ (w : Window). w.number) (same ∙ h.1) in
          inl (any-first (Numbers (window_in name source (after documents (first ∷ others))).number) first others (h.0, sym placed.0.number ∙ (h.2 ∙ sym number)))
      | inr h ↦ inr (same ∙ h.1)
    ]
  ]

  -- the numbers in an order are above the last one before it
  pub all_above : (documents : List Shown) (entries : List Entry) → AllPlaced documents entries
      → All (λ (e : Entry). is_of name source e.command ≡ true → (window_in name source documents).number < e.command.number) entries
  all_above documents [] placed = All-nil (λ (e : Entry). is_of name source e.command ≡ true → (window_in name source documents).number < e.command.number)
  all_above documents (first ∷ others) placed =
      All-cons (λ (e : Entry). is_of name source e.command ≡ true → (window_in name source documents).number < e.command.number) first others head
      (All-weaker (λ (e : Entry). is_of name source e.command ≡ true → (window_in name source (grown_shown first.taken documents)).number < e.command.number)
      (λ (e : Entry). is_of name source e.command ≡ true → (window_in name source documents).number < e.command.number)
      (λ e above is. let more : (window_in name source (grown_shown first.taken documents)).number < e.command.number = above is in omega (arith, step_rises documents first placed.0)) others
      (all_above (grown_shown first.taken documents) others placed.1))
    where
      head : is_of name source first.command ≡ true → (window_in name source documents).number < first.command.number
      head is = elim (step-window documents first placed.0) [
        | inl h ↦ let next : first.taken.number ≡ (window_in name source documents).number + 1 = h.2 in let same : first.taken.number ≡ first.command.number = placed.0.number in omega arith
        | inr h ↦ absurd (both_ways (is_of name source first.command) h.0 is)
      ]

pub sender_same : (a b : Command) → a.name ≡ b.name → a.source ≡ b.source → is_of a.name a.source b ≡ true
sender_same a b name source = and_from (bytes_eq b.name a.name) (bytes_eq b.source a.source) (bytes_same b.name a.name (sym name)) (bytes_same b.source a.source (sym source))

pairs-cons : {A : Type 0} (R : A → A → Type 0) (first : A) (others : List A) → All (R first) others → AllPairs R others → AllPairs R (first ∷ others)
pairs-cons R first others each pairs zero zero d lt long = absurd (omega arith)
pairs-cons R first others each pairs zero (suc j) d lt long = each j d (omega arith)
pairs-cons R first others each pairs (suc i) zero d lt long = absurd (omega arith)
pairs-cons R first others each pairs (suc i) (suc j) d lt long = pairs i j d (omega arith) (omega arith)

-- so one number of a source in a document has one place in the order
pub once : (documents : List Shown) (entries : List Entry) → AllPlaced documents entries → AllPairs (λ (a b : Entry). IsSent a.command b.command → ⊥) entries
once documents [] placed = λ i j d lt long. absurd (omega arith)
once documents (first ∷ others) placed =
    pairs-cons (λ (a b : Entry). IsSent a.command b.command → ⊥) first others
    (All-weaker (λ (e : Entry). is_of first.command.name first.command.source e.command ≡ true → (window_in first.command.name first.command.source (grown_shown first.taken documents)).number < e.command.number)
    (λ (e : Entry). IsSent first.command e.command → ⊥)
    (λ e above same. let more : (window_in first.command.name first.command.source (grown_shown first.taken documents)).number < e.command.number = above (sender_same first.command e.command same.0 same.1) in omega (arith, now, same.2)) others
    (all_above first.command.name first.command.source (grown_shown first.taken documents) others placed.1))
    (once (grown_shown first.taken documents) others placed.1)
  where
    now : (window_in first.command.name first.command.source (grown_shown first.taken documents)).number ≡ first.command.number
    now =
        ap (λ (w : Window). w.number)
        (window-grown first.command.name first.command.source documents first placed.0
        ∙ ap (λ b. cond b (taken_as first.taken.number first.taken.revision (window_in first.command.name first.command.source documents)) (window_in first.command.name first.command.source documents))
        (sender_same first.command first.command refl refl))
        ∙ placed.0.number
