-- States that agree are continued by the same commands, and agree after them.
use Rattle.std.proofs.Common.{◌≡◌, ℕ, zero, suc, ◌+◌, ◌≤◌, max, Bool, true, false, cond, List, [], ◌∷◌, length, Option, Some, None, refl, sym, ap, subst, ◌∙◌, arith}
use Rattle.std.specs.Prelude.{◌==◌, ◌&&◌, nat_lt, is_none, bytes_eq, slice_get}
use Rattle.delta.specs.Element.{Element}
use Rattle.revision.specs.Command.{Taken, Step, Edits, Deletes, Revives}
use Rattle.revision.specs.Sources.{Sources, with_taken}
use Rattle.revision.specs.Past.{Change, Past, suits, content_after, newest, newest_content, empty_past, from_floor, with_change, rebased, with_step}
use Rattle.revision.specs.State.{Limits, DocumentRecord, State, revision_of, find, keeps, comes_next, follows, begins, continues_by_name, change_of, record_by_name, record_after, has_room, grows, set_document, grown}
use Rattle.revision.specs.Agree.{DocumentsAgree, PlacesAgree, Agree, AgreeSame, AgreeTurned, AgreeThrough, AgreeingContinue, AgreeingGrow, floor_of}
use Rattle.revision.proofs.Floors.{from-from, from-more}
use Rattle.revision.specs.Floors.{longer}
use Rattle.revision.proofs.Changing.{newest-with_change, with_change-from}

-- documents of one name and revision that hold the same agree
pub documents-agree : (a b : DocumentRecord) → a.name ≡ b.name → revision_of a ≡ revision_of b
    → ((floor : ℕ) → a.past.floor ≤ floor → b.past.floor ≤ floor → floor ≤ revision_of a → from_floor a.past floor ≡ from_floor b.past floor)
    → DocumentsAgree a b
documents-agree a b name revision past =
    let there : from_floor a.past (revision_of a) ≡ from_floor b.past (revision_of a) = past (revision_of a) (omega arith) (omega (arith, revision)) (omega arith) in
    let at_newest : from_floor a.past (revision_of a) ≡ from_floor b.past (revision_of b) = there ∙ ap (from_floor b.past) revision in
    record {
      name = name;
      revision = revision;
      content = ap (λ (p : Past). p.content) at_newest;
      sources = ap (λ (p : Past). p.sources) at_newest;
      past = past;
    }

pub document-itself : (a : DocumentRecord) → DocumentsAgree a a
document-itself a = record { name = refl; revision = refl; content = refl; sources = refl; past = λ floor over other within. refl }

pub documents-turned : (a b : DocumentRecord) → DocumentsAgree a b → DocumentsAgree b a
documents-turned a b agree =
    documents-agree b a (sym agree.name) (sym agree.revision) (λ floor over other within. sym (agree.past floor other over (omega (arith, within, agree.revision))))

pub documents-through : (a b c : DocumentRecord) → b.past.floor ≤ max a.past.floor c.past.floor → DocumentsAgree a b → DocumentsAgree b c → DocumentsAgree a c
documents-through a b c low first second =
    documents-agree a c (first.name ∙ second.name) (first.revision ∙ second.revision)
    (λ floor over other within. first.past floor over (omega (arith, low, over, other)) within ∙ second.past floor (omega (arith, low, over, other)) other (omega (arith, within, first.revision)))

places-same : (a : Option DocumentRecord) → PlacesAgree a a
places-same None = tt
places-same (Some a) = document-itself a

places-turned : (a b : Option DocumentRecord) → PlacesAgree a b → PlacesAgree b a
places-turned None None agree = tt
places-turned None (Some b) agree = absurd agree
places-turned (Some a) None agree = absurd agree
places-turned (Some a) (Some b) agree = documents-turned a b agree

places-through : (a b c : Option DocumentRecord) → floor_of b ≤ max (floor_of a) (floor_of c) → PlacesAgree a b → PlacesAgree b c → PlacesAgree a c
places-through None None c low first second = second
places-through None (Some b) c low first second = absurd first
places-through (Some a) None c low first second = absurd first
places-through (Some a) (Some b) None low first second = absurd second
places-through (Some a) (Some b) (Some c) low first second = documents-through a b c low first second

pub agrees : AgreeSame
agrees s = record { limits = refl; documents = λ number. places-same (slice_get s.documents number) }

pub agree_turned : AgreeTurned
agree_turned s t agree = record {
  limits = sym agree.limits;
  documents = λ number. places-turned (slice_get s.documents number) (slice_get t.documents number) (agree.documents number);
}

pub agree_through : AgreeThrough
agree_through s t u low first second = record {
  limits = first.limits ∙ second.limits;
  documents = λ number. places-through (slice_get s.documents number) (slice_get t.documents number) (slice_get u.documents number) (low number)
      (first.documents number) (second.documents number);
}

-- from a floor on, it is what was held from a lower one on, and the change
change-from_both : (keep : ℕ) (past : Past) (change : Change) (low floor : ℕ) → past.floor ≤ low → low ≤ newest past → low ≤ floor
    → (with_change keep past change).floor ≤ floor → from_floor (with_change keep past change) floor ≡ from_floor (longer (from_floor past low) change) floor
change-from_both keep past change low floor above within under risen =
    with_change-from past change keep floor risen
    ∙ (sym (from-from (longer past change) low above floor under)
    ∙ ap (λ (p : Past). from_floor p floor) (sym (from-more past low above (change ∷ []) within)))

module _ (keep : ℕ) (a b : DocumentRecord) (change : Change) (agree : DocumentsAgree a b) where
  pub documents-after : DocumentsAgree (record a { past = with_change keep a.past change }) (record b { past = with_change keep b.past change })
  documents-after =
      documents-agree (record a { past = with_change keep a.past change }) (record b { past = with_change keep b.past change }) agree.name
      (newest-with_change a.past change keep ∙ (ap (λ n. n + 1) agree.revision ∙ sym (newest-with_change b.past change keep)))
      (λ floor over other within.
      let low : ℕ = max a.past.floor b.past.floor in
      let both : from_floor a.past low ≡ from_floor b.past low = agree.past low (omega arith) (omega arith) (omega (arith, agree.revision)) in
      change-from_both keep a.past change low floor (omega arith) (omega (arith, agree.revision)) (omega (arith, over, other)) over
      ∙ (ap (λ (p : Past). from_floor (longer p change) floor) both
      ∙ sym (change-from_both keep b.past change low floor (omega arith) (omega (arith, agree.revision)) (omega (arith, over, other)) other)))

-- documents of one name and one past agree
documents-equal : (a b : DocumentRecord) → a.name ≡ b.name → a.past ≡ b.past → DocumentsAgree a b
documents-equal a b name past = documents-agree a b name (ap newest past) (λ floor over other within. ap (λ (p : Past). from_floor p floor) past)

-- a deletion and a creation again make one past of both
module _ (a b : DocumentRecord) (step : Step) (change : Change) (agree : DocumentsAgree a b) where
  documents-turned-after : DocumentsAgree (record a { past = rebased a.past (content_after (newest_content a.past) step change.delta) change })
      (record b { past = rebased b.past (content_after (newest_content b.past) step change.delta) change })
  documents-turned-after =
      documents-equal (record a { past = rebased a.past (content_after (newest_content a.past) step change.delta) change })
      (record b { past = rebased b.past (content_after (newest_content b.past) step change.delta) change }) agree.name
      (λ i. record {
        floor = agree.revision i + 1;
        content = content_after (agree.content i) step change.delta;
        sources = with_taken change.source change.number (agree.revision i + 1) (agree.sources i);
        changes = [];
      })

pub documents-stepped : (keep : ℕ) (a b : DocumentRecord) (step : Step) (change : Change) → DocumentsAgree a b
    → DocumentsAgree (record a { past = with_step keep a.past step change }) (record b { past = with_step keep b.past step change })
documents-stepped keep a b Edits change agree = documents-after keep a b change agree
documents-stepped keep a b Deletes change agree = documents-turned-after a b Deletes change agree
documents-stepped keep a b Revives change agree = documents-turned-after a b Revives change agree

-- place by place
abbrev pub ListsAgree : List DocumentRecord → List DocumentRecord → Type 0
ListsAgree xs ys = (number : ℕ) → PlacesAgree (slice_get xs number) (slice_get ys number)

pub lists-length : (xs ys : List DocumentRecord) → ListsAgree xs ys → length xs ≡ length ys
lists-length [] [] each = refl
lists-length [] (b ∷ ys) each = absurd (each 0)
lists-length (a ∷ xs) [] each = absurd (each 0)
lists-length (a ∷ xs) (b ∷ ys) each = ap suc (lists-length xs ys (λ number. each (suc number)))

-- what is found by a name: at one number in both, documents that agree
abbrev pub FoundAgree : Option (ℕ × DocumentRecord) → Option (ℕ × DocumentRecord) → Type 0
FoundAgree None None = Unit {0}
FoundAgree None (Some b) = ⊥
FoundAgree (Some a) None = ⊥
FoundAgree (Some a) (Some b) = (a.0 ≡ b.0) × DocumentsAgree a.1 b.1

found-first : (number : ℕ) (a b : DocumentRecord) (further other : Option (ℕ × DocumentRecord)) (p q : Bool) → p ≡ q → DocumentsAgree a b → FoundAgree further other
    → FoundAgree (cond p (Some (number, a)) further) (cond q (Some (number, b)) other)
found-first number a b further other true true same agree later = (refl, agree)
found-first number a b further other true false same agree later = absurd (cc)
found-first number a b further other false true same agree later = absurd (cc)
found-first number a b further other false false same agree later = later

pub lists-found : (name : List ℕ) (number : ℕ) (xs ys : List DocumentRecord) → ListsAgree xs ys → FoundAgree (find name number xs) (find name number ys)
lists-found name number [] [] each = tt
lists-found name number [] (b ∷ ys) each = absurd (each 0)
lists-found name number (a ∷ xs) [] each = absurd (each 0)
lists-found name number (a ∷ xs) (b ∷ ys) each =
    let first : DocumentsAgree a b = each 0 in
    found-first number a b (find name (number + 1) xs) (find name (number + 1) ys) (bytes_eq a.name name) (bytes_eq b.name name)
    (ap (λ n. bytes_eq n name) first.name) first (lists-found name (number + 1) xs ys (λ n. each (suc n)))

found-none : (a b : Option (ℕ × DocumentRecord)) → FoundAgree a b → is_none a ≡ is_none b
found-none None None agree = refl
found-none None (Some b) agree = absurd agree
found-none (Some a) None agree = absurd agree
found-none (Some a) (Some b) agree = refl

lists-set : (number : ℕ) (x y : Option DocumentRecord) (xs ys : List DocumentRecord) → PlacesAgree x y → ListsAgree xs ys
    → ListsAgree (set_document number x xs) (set_document number y ys)
lists-set zero None None xs ys agree each n = each n
lists-set (suc number) None None xs ys agree each n = each n
lists-set number None (Some b) xs ys agree each n = absurd agree
lists-set number (Some a) None xs ys agree each n = absurd agree
lists-set number (Some a) (Some b) [] (second ∷ ys) agree each n = absurd (each 0)
lists-set number (Some a) (Some b) (first ∷ xs) [] agree each n = absurd (each 0)
lists-set zero (Some a) (Some b) [] [] agree each zero = agree
lists-set zero (Some a) (Some b) [] [] agree each (suc n) = tt
lists-set (suc number) (Some a) (Some b) [] [] agree each n = tt
lists-set zero (Some a) (Some b) (first ∷ xs) (second ∷ ys) agree each zero = agree
lists-set zero (Some a) (Some b) (first ∷ xs) (second ∷ ys) agree each (suc n) = each (suc n)
lists-set (suc number) (Some a) (Some b) (first ∷ xs) (second ∷ ys) agree each zero = each zero
lists-set (suc number) (Some a) (Some b) (first ∷ xs) (second ∷ ys) agree each (suc n) =
    lists-set number (Some a) (Some b) xs ys agree (λ m. each (suc m)) n

places-after : (keep : ℕ) (a b : Option DocumentRecord) (taken : Taken) (name : Option (List ℕ)) → PlacesAgree a b
    → PlacesAgree (record_by_name keep a taken name) (record_by_name keep b taken name)
places-after keep None None taken None agree = tt
places-after keep None None taken (Some name) agree = document-itself (record { name = name; past = with_step keep empty_past taken.step (change_of taken) })
places-after keep None (Some b) taken name agree = absurd agree
places-after keep (Some a) None taken name agree = absurd agree
places-after keep (Some a) (Some b) taken None agree = documents-stepped keep a b taken.step (change_of taken) agree
places-after keep (Some a) (Some b) taken (Some name) agree = documents-stepped keep a b taken.step (change_of taken) agree

-- a command follows a document by the limits, its mark, its revision, its units and its sources
follows_by : Limits → Bool → ℕ → List Element → Sources → Taken → Bool
follows_by limits live revision units sources taken =
    suits live taken.step && comes_next limits revision sources taken && keeps limits units sources taken

follows-same : (l m : Limits) (a b : DocumentRecord) (taken : Taken) → l ≡ m → DocumentsAgree a b → follows l a taken ≡ follows m b taken
unfolding follows_by
follows-same l m a b taken limits agree =
    λ i. follows_by (limits i) (agree.content i).live (agree.revision i) (agree.content i).units (agree.sources i) taken

continues-same : (l m : Limits) (a b : Option DocumentRecord) (taken : Taken) (name : Option (List ℕ)) → l ≡ m → PlacesAgree a b
    → continues_by_name l a taken name ≡ continues_by_name m b taken name
continues-same l m None None taken None limits agree = refl
continues-same l m None None taken (Some name) limits agree = ap (λ n. begins n taken) limits
continues-same l m None (Some b) taken name limits agree = absurd agree
continues-same l m (Some a) None taken name limits agree = absurd agree
continues-same l m (Some a) (Some b) taken None limits agree = follows-same l m a b taken limits agree
continues-same l m (Some a) (Some b) taken (Some name) limits agree = refl

room-same : (s t : State) (number : ℕ) (name : Option (List ℕ)) → Agree s t → has_room s number name ≡ has_room t number name
room-same s t number None agree = refl
room-same s t number (Some name) agree =
    let count : length s.documents ≡ length t.documents = lists-length s.documents t.documents agree.documents in
    let free : is_none (find name 0 s.documents) ≡ is_none (find name 0 t.documents) = found-none _ _ (lists-found name 0 s.documents t.documents agree.documents) in
    λ i. (number == count i) && nat_lt (count i) (agree.limits i).docs && free i

grows-same : (s t : State) (taken : Taken) → Agree s t → grows s taken ≡ grows t taken
grows-same s t taken agree =
    let room = room-same s t taken.document taken.name agree in
    let next = continues-same s.limits t.limits _ _ taken taken.name agree.limits (agree.documents taken.document) in
    λ i. room i && next i

grown-agree : (s t : State) (taken : Taken) → Agree s t → Agree (grown s taken) (grown t taken)
grown-agree s t taken agree =
    let kept : ℕ → Option DocumentRecord = λ keep. record_by_name keep (slice_get t.documents taken.document) taken taken.name in
    record {
      limits = agree.limits;
      documents = λ number. subst (λ keep. PlacesAgree (slice_get (grown s taken).documents number) (slice_get (set_document taken.document (kept keep) t.documents) number))
          (ap (λ (l : Limits). l.keep) agree.limits)
          (lists-set taken.document _ _ s.documents t.documents
          (places-after s.limits.keep (slice_get s.documents taken.document) (slice_get t.documents taken.document) taken taken.name (agree.documents taken.document))
          agree.documents number);
    }

pub agreeing_grow : AgreeingGrow
agreeing_grow s t [] agree = (refl, agree)
agreeing_grow s t (first ∷ others) agree =
    let next = agreeing_grow (grown s first) (grown t first) others (grown-agree s t first agree) in
    let same = grows-same s t first agree in
    ((λ i. same i && next.0 i), next.1)

pub agreeing_continue : AgreeingContinue
agreeing_continue limits a b [] agree = (refl, agree)
agreeing_continue limits a b (first ∷ others) agree =
    let next = agreeing_continue limits (record_after limits.keep a first) (record_after limits.keep b first) others (places-after limits.keep a b first first.name agree) in
    let same = continues-same limits limits a b first first.name refl agree in
    ((λ i. same i && next.0 i), next.1)
