-- Commands that are put into the lists of their documents.
use Rattle.std.proofs.Common.{◌≡◌, ℕ, zero, suc, ◌+◌, ◌≤◌, ◌<◌, Bool, true, false, cond, List, [], ◌∷◌, ◌++◌, length, get_or, set, take, map, refl, sym, ap, subst, ◌∙◌, ⊎_elim, arith, append_assoc, length-set}
use Rattle.std.specs.Prelude.{◌&&◌, nat_lt, All}
use Rattle.std.specs.List.{flat_map, filter}
use Rattle.std.proofs.lemmas.Bool.{and_left, and_right, and_from, le-ltb, lt-ltb, cases_eq, eq-eqb, ne_eqb}
use Rattle.std.proofs.lemmas.List.{length-map, get_or-set_same, get_or-set_other, get_or-map, map_push, take_more, append-nil}
use Rattle.std.proofs.lemmas.List.Concat.{flat_map-append}
use Rattle.std.proofs.lemmas.List.Elements.{All-get_or, All-nil, All-push}
use Rattle.revision.specs.Command.{Taken}
use Rattle.history.specs.Entries.{of_document, above}
use Rattle.journal.specs.BatchSpelling.{IsBatch, batch}
use Rattle.journal.proofs.CallerLemmas.{one_spelling}
use Rattle.segments.specs.Slot.{Segment}
use Rattle.recovery.specs.Found.{SpellBatches, commands_of}
use Rattle.recovery.proofs.Folds.{commands_of-push, and_assoc}
use Rattle.recovery.specs.steps.Reading.{are_below, AreByDocument, SpellGroups, commands_in, AreAdded}
use Rattle.history.proofs.CallerLemmas.{of_document-append}

-- those above a revision are what a filter keeps
pub above-filter : (revision : ℕ) (entries : List Taken) → filter (λ (t : Taken). nat_lt revision t.revision) entries ≡ above revision entries
above-filter revision [] = refl
above-filter revision (t ∷ others) = ap (λ (l : List Taken). cond (nat_lt revision t.revision) (t ∷ l) l) (above-filter revision others)

below-append : (docs : ℕ) (a b : List Taken) → are_below docs (a ++ b) ≡ are_below docs a && are_below docs b
below-append docs [] b = refl
below-append docs (t ∷ a) b =
    ap (λ (v : Bool). nat_lt t.document docs && v) (below-append docs a b) ∙ and_assoc (nat_lt t.document docs) (are_below docs a) (are_below docs b)

-- a command of too high a number, wherever it stands
pub not-below : (docs : ℕ) (before : List Taken) (t : Taken) (behind : List Taken) → docs ≤ t.document → are_below docs (before ++ t ∷ behind) ≡ false
not-below docs before t behind high =
    below-append docs before (t ∷ behind)
    ∙ and_right (are_below docs before) (are_below docs (t ∷ behind)) (and_left (nat_lt t.document docs) (are_below docs behind) (le-ltb t.document docs high))

-- and wherever the part stands that has it
pub below-part : {A : Type 0} (docs : ℕ) (f : A → List Taken) (xs : List A) (i : ℕ) (d : A) → i < length xs → are_below docs (f (get_or xs i d)) ≡ false
    → are_below docs (flat_map f xs) ≡ false
below-part docs f [] i d lt fails = absurd (omega (arith, lt))
below-part docs f (x ∷ xs) zero d lt fails = below-append docs (f x) (flat_map f xs) ∙ and_left (are_below docs (f x)) (are_below docs (flat_map f xs)) fails
below-part docs f (x ∷ xs) (suc i) d lt fails =
    below-append docs (f x) (flat_map f xs)
    ∙ and_right (are_below docs (f x)) (are_below docs (flat_map f xs)) (below-part docs f xs i d (omega (arith, lt)) fails)

-- one command more
by-document-one : (entries : List Taken) (lists : List (List Taken)) (t : Taken) → AreByDocument entries lists → t.document < length lists
    → AreByDocument (entries ++ t ∷ []) (set lists t.document (get_or lists t.document [] ++ t ∷ []))
by-document-one entries lists t by lt number =
    ⊎_elim
    (λ (same : t.document ≡ number).
    subst (λ n. get_or (set lists t.document (get_or lists t.document [] ++ t ∷ [])) n [] ≡ of_document n (entries ++ t ∷ [])) same
    (get_or-set_same lists t.document (get_or lists t.document [] ++ t ∷ []) [] lt
    ∙ (ap (λ (l : List Taken). l ++ t ∷ []) (by t.document)
    ∙ sym (of_document-append t.document entries (t ∷ [])
    ∙ ap (λ (v : Bool). of_document t.document entries ++ cond v (t ∷ []) []) (eq-eqb t.document t.document refl)))))
    (λ (differ : t.document ≡ number → ⊥).
    get_or-set_other lists t.document number (get_or lists t.document [] ++ t ∷ []) [] (λ e. differ (sym e))
    ∙ (by number
    ∙ sym (of_document-append number entries (t ∷ [])
    ∙ (ap (λ (v : Bool). of_document number entries ++ cond v (t ∷ []) []) (ne_eqb t.document number differ) ∙ append-nil (of_document number entries)))))
    (cases_eq t.document number)

pub added-none : (lists : List (List Taken)) → AreAdded [] lists lists
added-none lists = record { count = refl; below = refl; added = λ entries by number. by number ∙ ap (of_document number) (sym (append-nil entries)) }

pub added-more : (commands : List Taken) (t : Taken) (old now new : List (List Taken)) → AreAdded commands old now → t.document < length now
    → new ≡ set now t.document (get_or now t.document [] ++ t ∷ []) → AreAdded (commands ++ t ∷ []) old new
added-more commands t old now new so_far lt is = record {
  count = ap length is ∙ (length-set now t.document (get_or now t.document [] ++ t ∷ []) ∙ so_far.count);
  below =
      below-append (length old) commands (t ∷ [])
      ∙ and_from _ _ so_far.below (and_from _ _ (lt-ltb t.document (length old) (omega (arith, lt, so_far.count))) refl);
  added = λ entries by.
      subst (λ (l : List (List Taken)). AreByDocument (entries ++ (commands ++ t ∷ [])) l) (sym is)
      (subst (λ (e : List Taken). AreByDocument e (set now t.document (get_or now t.document [] ++ t ∷ []))) (append_assoc entries commands (t ∷ []))
      (by-document-one (entries ++ commands) now t (so_far.added entries by) lt));
}

pub added-then : (first second : List Taken) (old now new : List (List Taken)) → AreAdded first old now → AreAdded second now new → AreAdded (first ++ second) old new
added-then first second old now new one other = record {
  count = other.count ∙ one.count;
  below = below-append (length old) first second ∙ and_from _ _ one.below (subst (λ n. are_below n second ≡ true) one.count other.below);
  added = λ entries by. subst (λ (e : List Taken). AreByDocument e new) (append_assoc entries first second) (other.added (entries ++ first) (one.added entries by));
}

-- one element more of those that are mapped, and one of them
pub map-take-more : {A B : Type 0} (f : A → B) (xs : List A) (i : ℕ) (x : A) → i < length xs → x ≡ get_or xs i x → map f (take (i + 1) xs) ≡ map f (take i xs) ++ f x ∷ []
map-take-more {A} {B} f xs i x lt is =
    ap (map f) (take_more xs i x lt) ∙ (map_push f (take i xs) (get_or xs i x) ∙ ap (λ (y : A). map f (take i xs) ++ f y ∷ []) (sym is))

pub map-at : {A B : Type 0} (f : A → B) (xs : List A) (i : ℕ) (x : A) (d : B) → i < length xs → x ≡ get_or xs i x → get_or (map f xs) i d ≡ f x
map-at f xs i x d lt is = get_or-map f xs i x d lt ∙ ap f (sym is)

pub map-within : {A B : Type 0} (f : A → B) (xs : List A) (i : ℕ) → i < length xs → i < length (map f xs)
map-within f xs i lt = subst (λ n. i < n) (sym (length-map xs f)) lt

-- no spelling is that of two batches
pub batch-same : (a b : List Taken) → IsBatch a → IsBatch b → batch a ≡ batch b → a ≡ b
batch-same a b is_a is_b same = (one_spelling a b [] [] is_a is_b (ap (λ (l : List ℕ). l ++ []) same)).0

-- Bodies so far, and one more.
abbrev pub AddedBy : List (List ℕ) → List (List Taken) → List (List Taken) → Type 0
AddedBy bodies old new = (batches : List (List Taken)) × SpellBatches bodies batches × AreAdded (commands_of batches) old new

pub by-none : (lists : List (List Taken)) → AddedBy [] lists lists
by-none lists = ([], record { spelled = refl; each = All-nil IsBatch }, added-none lists)

pub by-more : (bodies : List (List ℕ)) (body : List ℕ) (commands : List Taken) (old now new : List (List Taken)) → AddedBy bodies old now → IsBatch commands
    → body ≡ batch commands → AreAdded commands now new → AddedBy (bodies ++ body ∷ []) old new
by-more bodies body commands old now new (batches, spell, so_far) is spelled added = (
  batches ++ commands ∷ [],
  record {
    spelled = ap (λ (l : List (List ℕ)). l ++ body ∷ []) spell.spelled ∙ (ap (λ (b : List ℕ). map batch batches ++ b ∷ []) spelled ∙ sym (map_push batch batches commands));
    each = All-push IsBatch batches commands spell.each is;
  },
  subst (λ (l : List Taken). AreAdded l old new) (sym (commands_of-push batches commands)) (added-then (commands_of batches) commands old now new so_far added),
)

pub by-count : (bodies : List (List ℕ)) (old new : List (List Taken)) → AddedBy bodies old new → length new ≡ length old
by-count bodies old new (batches, spell, added) = added.count

-- the batch that a body spells among others
pub record SpelledAt (body : List ℕ) (batches : List (List Taken)) : Type 0 where
  pub commands : List Taken
  pub is_batch : IsBatch commands
  pub spelled : body ≡ batch commands
  pub part : (docs : ℕ) → are_below docs commands ≡ false → are_below docs (commands_of batches) ≡ false

pub spelled-at : (bodies : List (List ℕ)) (batches : List (List Taken)) (i : ℕ) (body : List ℕ) → SpellBatches bodies batches → i < length bodies → get_or bodies i [] ≡ body
    → SpelledAt body batches
spelled-at bodies batches i body spell lt is =
    let inside : i < length batches = subst (λ n. i < n) (ap length spell.spelled ∙ length-map batches batch) lt in
    record {
      commands = get_or batches i [];
      is_batch = All-get_or IsBatch batches i [] inside spell.each;
      spelled = sym is ∙ (ap (λ (l : List (List ℕ)). get_or l i []) spell.spelled ∙ get_or-map batch batches i [] [] inside);
      part = λ docs fails. below-part docs (λ (c : List Taken). c) batches i [] inside fails;
    }

-- what the bodies of a segment are
abbrev bodies_in : Segment → List (List ℕ)
bodies_in segment = segment.bodies

abbrev spelled_by : List (List Taken) → List (List ℕ)
spelled_by batches = map batch batches

abbrev AreBatches : List (List Taken) → Type 0
AreBatches batches = All IsBatch batches

-- Segments so far, and one more.
abbrev pub GatheredFrom : List Segment → List (List Taken) → Type 0
GatheredFrom segments lists = (groups : List (List (List Taken))) × SpellGroups segments groups × AreByDocument (commands_in groups) lists

pub gathered-none : (lists : List (List Taken)) → AreByDocument [] lists → GatheredFrom [] lists
gathered-none lists by = ([], record { spelled = refl; each = All-nil AreBatches }, by)

pub gathered-more : (segments : List Segment) (segment : Segment) (now new : List (List Taken)) → GatheredFrom segments now → AddedBy segment.bodies now new
    → GatheredFrom (segments ++ segment ∷ []) new
gathered-more segments segment now new (groups, spell, so_far) (batches, spell_own, added) = (
  groups ++ batches ∷ [],
  record {
    spelled =
        map_push bodies_in segments segment
        ∙ (ap (λ (l : List (List (List ℕ))). l ++ segment.bodies ∷ []) spell.spelled
        ∙ (ap (λ (b : List (List ℕ)). map spelled_by groups ++ b ∷ []) spell_own.spelled ∙ sym (map_push spelled_by groups batches)));
    each = All-push AreBatches groups batches spell.each spell_own.each;
  },
  subst (λ (l : List Taken). AreByDocument l new)
      (sym (flat_map-append commands_of groups (batches ∷ []) ∙ ap (λ (l : List Taken). commands_in groups ++ l) (append-nil (commands_of batches))))
      (added.added (commands_in groups) so_far),
)

-- a segment among others
pub record SpelledIn (bodies : List (List ℕ)) (groups : List (List (List Taken))) : Type 0 where
  pub batches : List (List Taken)
  pub spell : SpellBatches bodies batches
  pub part : (docs : ℕ) → are_below docs (commands_of batches) ≡ false → are_below docs (commands_in groups) ≡ false

pub spelled-in : (segments : List Segment) (groups : List (List (List Taken))) (i : ℕ) (segment : Segment) → SpellGroups segments groups → i < length segments
    → get_or segments i segment ≡ segment → SpelledIn segment.bodies groups
spelled-in segments groups i segment spell lt is =
    let inside : i < length groups = omega (arith, lt, ap length spell.spelled, length-map segments bodies_in, length-map groups spelled_by) in
    record {
      batches = get_or groups i [];
      spell = record {
        spelled =
            sym (get_or-map bodies_in segments i segment [] lt ∙ ap bodies_in is)
            ∙ (ap (λ (l : List (List (List ℕ))). get_or l i []) spell.spelled ∙ get_or-map spelled_by groups i [] [] inside);
        each = All-get_or AreBatches groups i [] inside spell.each;
      };
      part = λ docs fails. below-part docs commands_of groups i [] inside fails;
    }
