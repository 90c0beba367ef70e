-- Windows as commands are taken.
use Rattle.std.proofs.Common.{◌≡◌, inl, inr, ℕ, zero, suc, ◌+◌, ◌-◌, ◌≤◌, ◌<◌, Bool, true, false, cond, List, [], ◌∷◌, ◌++◌, length, drop, Option, Some, None, refl, sym, ap, subst, ◌∙◌, length-append, arith}
use Rattle.std.specs.Prelude.{◌&&◌, nat_lt, nat_le, slice_get, unwrap_or, min}
use Rattle.std.proofs.lemmas.Bool.{and_parts, and_from, leb-true, ltb-true, le-leb, lt-ltb, cases_lt}
use Rattle.std.proofs.lemmas.Bool.Decides.{nat_tests}
use Rattle.std.proofs.lemmas.List.{length-drop, drop-drop, drop-append-le, append-nil, append_assoc}
use Rattle.std.proofs.lemmas.Option.{slice_get_within, slice_get_past}
use Rattle.revision.specs.Window.{longest, Window, nothing_taken, latest, taken_next, taken_all, revision_in, last_revision, IsIn, ascend}
use Rattle.revision.specs.State.{last_of_all, is_window}
use Rattle.revision.specs.Retries.{AgainInWindow, NoneOutside, IsShifted, Shifts, StaysWindow, OneRevision, AgainForLong, TakenOrHad, FromNothing}

-- ---- places of a list

get-drop : (n : ℕ) (l : List ℕ) (i : ℕ) → slice_get (drop n l) i ≡ slice_get l (n + i)
get-drop zero l i = ap (slice_get l) (none i)
  where
    none : (i : ℕ) → i ≡ 0 + i
    none i = omega arith
get-drop (suc n) [] i = refl
get-drop (suc n) (x ∷ l) i = get-drop n l i ∙ ap (slice_get (x ∷ l)) (one n i)
  where
    one : (n i : ℕ) → suc (n + i) ≡ suc n + i
    one n i = omega arith

get-front : (xs ys : List ℕ) (i : ℕ) → i < length xs → slice_get (xs ++ ys) i ≡ slice_get xs i
get-front [] ys i lt = absurd (omega (arith, lt))
get-front (x ∷ xs) ys zero lt = refl
get-front (x ∷ xs) ys (suc i) lt = get-front xs ys i (omega (arith, lt))

get-behind : (xs : List ℕ) (y : ℕ) → slice_get (xs ++ y ∷ []) (length xs) ≡ Some y
get-behind [] y = refl
get-behind (x ∷ xs) y = get-behind xs y

get-there : (xs : List ℕ) (i : ℕ) → i < length xs → (x : ℕ) × (slice_get xs i ≡ Some x)
get-there [] i lt = absurd (omega (arith, lt))
get-there (x ∷ xs) zero lt = (x, refl)
get-there (x ∷ xs) (suc i) lt = get-there xs i (omega (arith, lt))

-- ---- a number in a window

not_lt : (a b : ℕ) → b ≤ a → nat_lt a b ≡ false
not_lt a b le = grind (arith, nat_tests)

here : (window : Window) (number : ℕ) → window.number < number + length window.revisions
    → revision_in number window ≡ slice_get window.revisions (number + length window.revisions - (window.number + 1))
here window number lt =
    ap (λ b. cond b (slice_get window.revisions (number + length window.revisions - (window.number + 1))) None) (lt-ltb window.number (number + length window.revisions) lt)

low : (window : Window) (number : ℕ) → number + length window.revisions ≤ window.number → revision_in number window ≡ None
low window number le =
    ap (λ b. cond b (slice_get window.revisions (number + length window.revisions - (window.number + 1))) None) (not_lt window.number (number + length window.revisions) le)

found : (window : Window) (number revision : ℕ) → revision_in number window ≡ Some revision → IsIn number window
found window number revision is = by_test (nat_lt window.number (number + length window.revisions)) refl is
  where
    by_test : (b : Bool) → nat_lt window.number (number + length window.revisions) ≡ b
        → cond b (slice_get window.revisions (number + length window.revisions - (window.number + 1))) None ≡ Some revision → IsIn number window
    by_test true e is =
        let above = ltb-true window.number (number + length window.revisions) e in
        let inside = slice_get_within window.revisions (number + length window.revisions - (window.number + 1)) revision is in
        record { above = above; below = omega (arith, above, inside) }
    by_test false e is = absurd (cc)

pub again_in_window : AgainInWindow
again_in_window window number is =
    let there = get-there window.revisions (number + length window.revisions - (window.number + 1)) (omega (arith, is.above, is.below)) in
    (there.0, here window number is.above ∙ there.1)

pub none_outside : NoneOutside
none_outside window number outside = elim (cases_lt window.number (number + length window.revisions)) [
  | inl above ↦ here window number above ∙ slice_get_past window.revisions (number + length window.revisions - (window.number + 1)) (past above)
  | inr under ↦ low window number under
]
  where
    past : window.number < number + length window.revisions → length window.revisions ≤ number + length window.revisions - (window.number + 1)
    past above = elim (cases_lt window.number number) [
      | inl beyond ↦ omega (arith, beyond)
      | inr below ↦ absurd (outside (record { above = above; below = below }))
    ]

-- ---- a command more

module _ (window : Window) (revision : ℕ) where
  long : length (window.revisions ++ revision ∷ []) ≡ length window.revisions + 1
  long = length-append window.revisions (revision ∷ [])

  kept : length (taken_next window revision).revisions ≡ length (window.revisions ++ revision ∷ []) - (length (window.revisions ++ revision ∷ []) - longest)
  kept = length-drop (length (window.revisions ++ revision ∷ []) - longest) (window.revisions ++ revision ∷ [])

  place : (number : ℕ) → window.number + 1 < number + length (taken_next window revision).revisions
      → revision_in number (taken_next window revision) ≡ slice_get (window.revisions ++ revision ∷ []) (number + length window.revisions - (window.number + 1))
  place number above =
      here (taken_next window revision) number above
      ∙ (get-drop (length (window.revisions ++ revision ∷ []) - longest) (window.revisions ++ revision ∷ [])
      (number + length (taken_next window revision).revisions - (window.number + 1 + 1))
      ∙ ap (slice_get (window.revisions ++ revision ∷ [])) (omega (arith, long, kept, above)))

  shifted : IsShifted window revision (taken_next window revision)
  shifted = record {
    number = refl;
    count = omega (arith, long, kept);
    newest = place (window.number + 1) (omega (arith, long, kept))
        ∙ (ap (slice_get (window.revisions ++ revision ∷ [])) (omega arith) ∙ get-behind window.revisions revision);
    older = λ number is below.
        place number is.above
        ∙ (get-front window.revisions (revision ∷ []) (number + length window.revisions - (window.number + 1)) (omega (arith, below, is.above, long, kept))
        ∙ sym (here window number (omega (arith, is.above, long, kept))));
    dropped = λ number under. low (taken_next window revision) number under;
  }

pub shifts : Shifts
shifts window revision = shifted window revision

-- how many revisions there are once one more was noted
pub latest-length : (revisions : List ℕ) (revision : ℕ) → length (latest (revisions ++ revision ∷ [])) ≡ min longest (length revisions + 1)
latest-length revisions revision =
    omega (
      arith,
      length-drop (length (revisions ++ revision ∷ []) - longest) (revisions ++ revision ∷ []),
      length-append revisions (revision ∷ []),
    )

-- ---- ascending revisions

ascend-lower : (low lower high : ℕ) (xs : List ℕ) → lower ≤ low → ascend low high xs ≡ true → ascend lower high xs ≡ true
ascend-lower low lower high [] le h = refl
ascend-lower low lower high (x ∷ xs) le h =
    let last = and_parts (nat_lt low x && nat_le x high) (ascend x high xs) h in
    let first = and_parts (nat_lt low x) (nat_le x high) last.0 in
    and_from _ _ (and_from _ _ (lt-ltb lower x (omega (arith, le, ltb-true low x first.0))) first.1) last.1

ascend-drop : (n low high : ℕ) (xs : List ℕ) → ascend low high xs ≡ true → ascend low high (drop n xs) ≡ true
ascend-drop zero low high xs h = h
ascend-drop (suc n) low high [] h = refl
ascend-drop (suc n) low high (x ∷ xs) h =
    let last = and_parts (nat_lt low x && nat_le x high) (ascend x high xs) h in
    let first = and_parts (nat_lt low x) (nat_le x high) last.0 in
    ascend-drop n low high xs (ascend-lower x low high xs (omega (arith, ltb-true low x first.0)) last.1)

ascend-more : (low now later : ℕ) (xs : List ℕ) → now < later → low ≤ now → ascend low now xs ≡ true → ascend low later (xs ++ later ∷ []) ≡ true
ascend-more low now later [] lt le h = and_from _ _ (and_from _ _ (lt-ltb low later (omega (arith, lt, le))) (le-leb later later (omega arith))) refl
ascend-more low now later (x ∷ xs) lt le h =
    let last = and_parts (nat_lt low x && nat_le x now) (ascend x now xs) h in
    let first = and_parts (nat_lt low x) (nat_le x now) last.0 in
    let most = leb-true x now first.1 in
    and_from _ _ (and_from _ _ first.0 (le-leb x later (omega (arith, most, lt)))) (ascend-more x now later xs lt most last.1)

ascend-higher : (low high higher : ℕ) (xs : List ℕ) → high ≤ higher → ascend low high xs ≡ true → ascend low higher xs ≡ true
ascend-higher low high higher [] le h = refl
ascend-higher low high higher (x ∷ xs) le h =
    let last = and_parts (nat_lt low x && nat_le x high) (ascend x high xs) h in
    let first = and_parts (nat_lt low x) (nat_le x high) last.0 in
    let most = leb-true x high first.1 in
    and_from _ _ (and_from _ _ first.0 (le-leb x higher (omega (arith, most, le)))) (ascend-higher x high higher xs le last.1)

-- each of them is at most the bound
ascend-get : (low high : ℕ) (xs : List ℕ) (i x : ℕ) → ascend low high xs ≡ true → slice_get xs i ≡ Some x → x ≤ high
ascend-get low high [] i x h is = absurd (cc)
ascend-get low high (y ∷ ys) zero x h is =
    let last = and_parts (nat_lt low y && nat_le y high) (ascend y high ys) h in
    let first = and_parts (nat_lt low y) (nat_le y high) last.0 in
    let same : y ≡ x = cc in
    omega (arith, same, leb-true y high first.1)
ascend-get low high (y ∷ ys) (suc i) x h is =
    let last = and_parts (nat_lt low y && nat_le y high) (ascend y high ys) h in
    ascend-get y high ys i x last.1 is

-- the parts of the test of a window
pub record WindowParts (revision : ℕ) (window : Window) : Type 0 where
  pub some : 1 ≤ length window.revisions
  pub short : length window.revisions ≤ longest
  pub numbers : length window.revisions ≤ window.number
  pub last : window.number ≤ last_of_all
  pub ascend : ascend 0 revision window.revisions ≡ true

pub window-parts : (revision : ℕ) (window : Window) → is_window revision window ≡ true → WindowParts revision window
window-parts revision window h =
    let fifth = and_parts (nat_le 1 (length window.revisions) && nat_le (length window.revisions) longest && nat_le (length window.revisions) window.number && nat_le window.number last_of_all) (ascend 0 revision window.revisions) h in
    let fourth = and_parts (nat_le 1 (length window.revisions) && nat_le (length window.revisions) longest && nat_le (length window.revisions) window.number) (nat_le window.number last_of_all) fifth.0 in
    let third = and_parts (nat_le 1 (length window.revisions) && nat_le (length window.revisions) longest) (nat_le (length window.revisions) window.number) fourth.0 in
    let second = and_parts (nat_le 1 (length window.revisions)) (nat_le (length window.revisions) longest) third.0 in
    record {
      some = leb-true _ _ second.0;
      short = leb-true _ _ second.1;
      numbers = leb-true _ _ third.1;
      last = leb-true _ _ fourth.1;
      ascend = fifth.1;
    }

pub window-from : (revision : ℕ) (window : Window) → WindowParts revision window → is_window revision window ≡ true
window-from revision window parts =
    and_from _ _
    (and_from _ _
    (and_from _ _
    (and_from _ _ (le-leb 1 (length window.revisions) parts.some) (le-leb (length window.revisions) longest parts.short))
    (le-leb (length window.revisions) window.number parts.numbers))
    (le-leb window.number last_of_all parts.last))
    parts.ascend

-- what a source may have at a revision it may have at later ones
pub window-later : (revision later : ℕ) (window : Window) → revision ≤ later → is_window revision window ≡ true → is_window later window ≡ true
window-later revision later window le h =
    let parts = window-parts revision window h in
    window-from later window
    (record { some = parts.some; short = parts.short; numbers = parts.numbers; last = parts.last; ascend = ascend-higher 0 revision later window.revisions le parts.ascend })

-- with one number more it is what a source may have then; nothing before it is as good as what one may have
next-window : (now later : ℕ) (window : Window) → now < later → window.number + 1 ≤ last_of_all → length window.revisions ≤ window.number
    → ascend 0 now window.revisions ≡ true → is_window later (taken_next window later) ≡ true
next-window now later window lt bound numbers up =
    let count = (shifted window later).count in
    window-from later (taken_next window later)
    (record {
      some = omega (arith, count);
      short = omega (arith, count);
      numbers = omega (arith, count, numbers);
      last = bound;
      ascend = ascend-drop (length (window.revisions ++ later ∷ []) - longest) 0 later (window.revisions ++ later ∷ []) (ascend-more 0 now later window.revisions lt (omega arith) up);
    })

pub stays_window : StaysWindow
stays_window now later window lt bound h =
    let parts = window-parts now window h in
    next-window now later window lt bound parts.numbers parts.ascend

pub first-window : (later : ℕ) → 1 ≤ later → is_window later (taken_next nothing_taken later) ≡ true
first-window later some = next-window 0 later nothing_taken some (omega arith) (omega arith) refl

-- the last revision of a window is none that is yet to come
pub last-within : (revision : ℕ) (window : Window) → is_window revision window ≡ true → last_revision window ≤ revision
last-within revision window h = by_found (revision_in window.number window) refl
  where
    by_found : (o : Option ℕ) → revision_in window.number window ≡ o → unwrap_or o 0 ≤ revision
    by_found None is = omega arith
    by_found (Some x) is =
        let above = (found window window.number x is).above in
        ascend-get 0 revision window.revisions (window.number + length window.revisions - (window.number + 1)) x (window-parts revision window h).ascend
        (sym (here window window.number above) ∙ is)

-- nor is it 0
ascend-above : (low high : ℕ) (xs : List ℕ) (i x : ℕ) → ascend low high xs ≡ true → slice_get xs i ≡ Some x → low < x
ascend-above low high [] i x h is = absurd (cc)
ascend-above low high (y ∷ ys) zero x h is =
    let last = and_parts (nat_lt low y && nat_le y high) (ascend y high ys) h in
    let first = and_parts (nat_lt low y) (nat_le y high) last.0 in
    let same : y ≡ x = cc in
    omega (arith, same, ltb-true low y first.0)
ascend-above low high (y ∷ ys) (suc i) x h is =
    let last = and_parts (nat_lt low y && nat_le y high) (ascend y high ys) h in
    let first = and_parts (nat_lt low y) (nat_le y high) last.0 in
    omega (arith, ltb-true low y first.0, ascend-above y high ys i x last.1 is)

pub last-above : (revision : ℕ) (window : Window) → is_window revision window ≡ true → 0 < last_revision window
last-above revision window h =
    let parts = window-parts revision window h in
    let above : window.number < window.number + length window.revisions = omega (arith, parts.some) in
    let there = again_in_window window window.number (record { above = above; below = omega arith }) in
    let positive : 0 < there.0 =
    ascend-above 0 revision window.revisions (window.number + length window.revisions - (window.number + 1)) there.0 parts.ascend
    (sym (here window window.number above) ∙ there.1) in
    subst (λ (o : Option ℕ). 0 < unwrap_or o 0) (sym there.1) positive

-- ---- many commands more

number-all : (window : Window) (taken : List ℕ) → (taken_all window taken).number ≡ window.number + length taken
number-all window [] = omega arith
number-all window (first ∷ others) = omega (arith, number-all (taken_next window first) others)

pub one_revision : OneRevision
one_revision window [] number revision below h = h
one_revision window (first ∷ others) number revision below h =
    let later = one_revision (taken_next window first) others number revision (omega (arith, below)) h in
    sym ((shifted window first).older number (found (taken_next window first) number revision later) below) ∙ later

pub again_for_long : AgainForLong
again_for_long window [] number revision h few = h
again_for_long window (first ∷ others) number revision h few =
    let at = found window number revision h in
    let in_next : IsIn number (taken_next window first) = record {
      above = omega (arith, long window first, kept window first, at.above, few, number-all (taken_next window first) others);
      below = omega (arith, at.below);
    } in
    again_for_long (taken_next window first) others number revision ((shifted window first).older number in_next at.below ∙ h) few

pub taken_or_had : TakenOrHad
taken_or_had window taken number revision h = elim (cases_lt window.number number) [
  | inl above ↦ inl (above, omega (arith, (found (taken_all window taken) number revision h).below, number-all window taken))
  | inr below ↦ inr (one_revision window taken number revision below h)
]

-- ---- from nothing

latest-more : (xs : List ℕ) (r : ℕ) → latest (latest xs ++ r ∷ []) ≡ latest (xs ++ r ∷ [])
latest-more xs r =
    let joined : drop (length xs - longest) (xs ++ r ∷ []) ≡ latest xs ++ r ∷ [] = drop-append-le (length xs - longest) xs (r ∷ []) (omega arith) in
    ap latest (sym joined)
    ∙ (drop-drop (length (drop (length xs - longest) (xs ++ r ∷ [])) - longest) (length xs - longest) (xs ++ r ∷ [])
    ∙ ap (λ n. drop n (xs ++ r ∷ [])) (omega (arith, length-drop (length xs - longest) (xs ++ r ∷ []), length-append xs (r ∷ []))))

all-from : (xs taken : List ℕ) (number : ℕ) → taken_all (record { number = number; revisions = latest xs }) taken
    ≡ record { number = number + length taken; revisions = latest (xs ++ taken) }
all-from xs [] number = λ i. record { number = none i; revisions = latest (sym (append-nil xs) i) }
  where
    none : number ≡ number + 0
    none = omega arith
all-from xs (first ∷ others) number =
    ap (λ l. taken_all (record { number = number + 1; revisions = l }) others) (latest-more xs first)
    ∙ (all-from (xs ++ first ∷ []) others (number + 1)
    ∙ (λ i. record { number = more i; revisions = latest (append_assoc xs (first ∷ []) others i) }))
  where
    more : number + 1 + length others ≡ number + length (first ∷ others)
    more = omega arith

same_test : (a b : Bool) → (a ≡ true → b ≡ true) → (b ≡ true → a ≡ true) → a ≡ b
same_test true b f g = sym (f refl)
same_test false true f g = g refl
same_test false false f g = refl

cond_alike : {A : Type 0} (b : Bool) (x y z : A) → (b ≡ true → x ≡ y) → cond b x z ≡ cond b y z
cond_alike true x y z same = same refl
cond_alike false x y z same = refl

pub from_nothing : FromNothing
from_nothing taken number some =
    ap (revision_in number) (all-from [] taken 0 ∙ (λ i. record { number = none i; revisions = latest taken }))
    ∙ (ap (λ b. cond b (slice_get (latest taken) (number + length (latest taken) - (length taken + 1))) None) tests
    ∙ cond_alike (nat_lt (length taken) (number + longest)) _ _ None (λ few.
    get-drop (length taken - longest) taken (number + length (latest taken) - (length taken + 1))
    ∙ ap (slice_get taken) (omega (arith, short, some, ltb-true (length taken) (number + longest) few))))
  where
    none : 0 + length taken ≡ length taken
    none = omega arith

    short : length (latest taken) ≡ length taken - (length taken - longest)
    short = length-drop (length taken - longest) taken

    tests : nat_lt (length taken) (number + length (latest taken)) ≡ nat_lt (length taken) (number + longest)
    tests = same_test _ _
        (λ h. lt-ltb (length taken) (number + longest) (omega (arith, short, ltb-true (length taken) (number + length (latest taken)) h)))
        (λ h. lt-ltb (length taken) (number + length (latest taken)) (omega (arith, short, some, ltb-true (length taken) (number + longest) h)))
