-- The steps keep the rule.
use Rattle.std.proofs.Common.{◌≡◌, ◌≢◌, ℕ, ◌<◌, ◌==◌, Bool, true, false, List, [], ◌∷◌, ◌++◌, length, set, refl, ap, sym, ◌∙◌, subst, arith, inl, length-append, length-set, None}
use Rattle.std.proofs.lemmas.List.{append-nil}
use Rattle.std.proofs.lemmas.Bool.Decides.{nat_tests}
use mathlib.Core.List.{IsPrefix}
use prog.Atomic.{either}
use Rattle.logbook.specs.Pages.{Cell, cell, keeps, gives, adds, nib, no_nib, may_write, may_make, step, Moves, Goes}
use Rattle.ownlog.specs.declared.link.Link.{Link}
use Rattle.ownlog.specs.Rules.{last_key, AreHome, IsChained, Begins, Grows, Adds, Stays}
use Rattle.ownlog.proofs.Cells.{home_here, first_set, first_here, first_snoc, homes_set, homes_snoc, homes_more, alone, homes_first}

-- the word is 1 where it was 0, and else what it was
abbrev pub once : ℕ → ℕ
once n = either (n == 0) 1 n

once_by : (n : ℕ) (b : Bool) → (n == 0) ≡ b → either b 1 n ≢ 0
once_by n true is none = absurd (omega (arith, none))
once_by n false is none = absurd (grind (is, none, arith, nat_tests))

pub once_more : (n : ℕ) → once n ≢ 0
once_more n = once_by n (n == 0) refl

module _ {T : Type 0} where
  abbrev pub shown : List (Link T) → List (Link T)
  shown log = []

  abbrev pub moved : List (Link T) → List (Link T) → ℕ → Type 0
  moved xs ys n = Unit {0}

  -- the first word changes, and isn't 0
  pub kept_word : (cells : List Cell) (log : List (Link T)) (n : ℕ) → IsChained cells log → n ≢ 0 → IsChained (set cells 0 (n, true)) log
  kept_word cells log n kept some = record {
    some = omega (arith, kept.some, length-set cells 0 (n, true));
    head = ap (λ c. c.1) (first_here cells (n, true) kept.some);
    begun = λ none. absurd (some (sym (ap (λ c. c.0) (first_here cells (n, true) kept.some)) ∙ none));
    homes = homes_set cells 0 n 2 log kept.homes;
  }

  -- a word is added
  pub kept_adds : (cells : List Cell) (log : List (Link T)) (n : ℕ) → IsChained cells log → n ≢ 0 → IsChained (set cells 0 (n, true) ++ (0, false) ∷ []) log
  kept_adds cells log n kept some =
      let now = kept_word cells log n kept some in
      let first : cell (set cells 0 (n, true) ++ (0, false) ∷ []) 0 ≡ (n, true) = first_snoc (set cells 0 (n, true)) (0, false) now.some ∙ first_here cells (n, true) kept.some in
      record {
        some = omega (arith, now.some, length-append (set cells 0 (n, true)) ((0, false) ∷ []));
        head = ap (λ c. c.1) first;
        begun = λ none. absurd (some (sym (ap (λ c. c.0) first) ∙ none));
        homes = homes_snoc (set cells 0 (n, true)) 2 log now.homes;
      }

  -- the word that the last entry names comes home, with one entry more
  pub kept_gives : (cells : List Cell) (log : List (Link T)) (n : ℕ) (entry : Link T) → IsChained cells log → n ≢ 0 → last_key 2 log < length cells
      → (cell cells (last_key 2 log)).1 ≡ false → IsChained (set (set cells 0 (n, true)) (last_key 2 log) (0, true)) (log ++ entry ∷ [])
  kept_gives cells log n entry kept some within away =
      let now = kept_word cells log n kept some in
      let key = last_key 2 log in
      let apart : key ≢ 0 = λ is. absurd (cc (kept.head, ap (λ k. (cell cells k).1) (sym is), away)) in
      let above : 0 < key = omega (arith, apart) in
      let long = length-set cells 0 (n, true) in
      let first : cell (set (set cells 0 (n, true)) key (0, true)) 0 ≡ (n, true) = first_set (set cells 0 (n, true)) key (0, true) above ∙ first_here cells (n, true) kept.some in
      record {
        some = omega (arith, now.some, length-set (set cells 0 (n, true)) key (0, true));
        head = ap (λ c. c.1) first;
        begun = λ none. absurd (some (sym (ap (λ c. c.0) first) ∙ none));
        homes = homes_more (set (set cells 0 (n, true)) key (0, true)) 2 log entry (homes_set (set cells 0 (n, true)) key 0 2 log now.homes)
            (home_here (set cells 0 (n, true)) key 0 (omega (arith, within, long)));
      }

  begins_goes : (cells : List Cell) (log : List (Link T)) (e : Link T) → IsChained cells log → (b : Bool) → ((cell cells 0).0 == 0) ≡ b
      → Goes IsChained shown moved 0 ([], (no_nib, None)) once (Begins (step 0 0 1 e) ([], (no_nib, None))) cells log
  begins_goes cells log e kept true is =
      let found : (cell cells 0).0 ≡ 0 = grind (is, arith, nat_tests) in
      let fresh = kept.begun found in
      let all : log ++ [] ≡ log = append-nil log in (
        adds,
        [],
        None,
        tt,
        subst (λ l. IsChained (set cells 0 (once (cell cells 0).0, true) ++ (0, false) ∷ []) l) (sym all) (kept_adds cells log (once (cell cells 0).0) kept (once_more (cell cells 0).0)),
        inl (refl, refl),
        rw is (ap (λ n. nib may_make n 0) fresh.0, all ∙ fresh.1),
      )
  begins_goes cells log e kept false is =
      let all : log ++ [] ≡ log = append-nil log in (
        keeps,
        [],
        None,
        tt,
        subst (λ l. IsChained (set cells 0 (once (cell cells 0).0, true)) l) (sym all) (kept_word cells log (once (cell cells 0).0) kept (once_more (cell cells 0).0)),
        inl (refl, refl),
        rw is tt,
      )

  pub begins_moves : (e : Link T) → Moves IsChained shown moved 0 ([], (no_nib, None)) once (Begins (step 0 0 1 e) ([], (no_nib, None)))
  begins_moves e cells log kept pre away = (kept.some, kept.head, begins_goes cells log e kept ((cell cells 0).0 == 0) refl)

  grows_goes : (cells : List Cell) (log v : List (Link T)) (e : Link T) → IsChained cells log
      → Goes IsChained shown moved 0 (v, (no_nib, None)) once (Grows (step 0 0 1 e) (v, (no_nib, None))) cells log
  grows_goes cells log v e kept =
      let all : log ++ [] ≡ log = append-nil log in (
        adds,
        [],
        None,
        tt,
        subst (λ l. IsChained (set cells 0 (once (cell cells 0).0, true) ++ (0, false) ∷ []) l) (sym all) (kept_adds cells log (once (cell cells 0).0) kept (once_more (cell cells 0).0)),
        inl (refl, refl),
        (length cells, refl),
      )

  pub grows_moves : (v : List (Link T)) (e : Link T) → Moves IsChained shown moved 0 (v, (no_nib, None)) once (Grows (step 0 0 1 e) (v, (no_nib, None)))
  grows_moves v e cells log kept pre away = (kept.some, kept.head, grows_goes cells log v e kept)

  adds_goes : (cells : List Cell) (log v : List (Link T)) (e : Link T) → IsChained cells log → v ≡ log → last_key 2 log < length cells
      → (cell cells (last_key 2 log)).1 ≡ false
      → Goes IsChained shown moved 0 (v, (nib may_write (last_key 2 v) 0, None)) once (Adds (step 0 0 1 e) (v, (nib may_write (last_key 2 v) 0, None))) cells log
  adds_goes cells log v e kept same within not_home =
      let after = kept_gives cells log (once (cell cells 0).0) e kept (once_more (cell cells 0).0) within not_home in (
        gives,
        e ∷ [],
        None,
        refl,
        subst (λ l. IsChained (set (set cells 0 (once (cell cells 0).0, true)) (last_key 2 l) (0, true)) (log ++ e ∷ [])) (sym same) after,
        inl (refl, refl),
        ap (λ l. l ++ e ∷ []) (sym same),
      )

  -- who has the pen of the word that the last entry names puts one entry more behind all that was seen
  pub adds_moves : (v : List (Link T)) (e : Link T)
      → Moves IsChained shown moved 0 (v, (nib may_write (last_key 2 v) 0, None)) once (Adds (step 0 0 1 e) (v, (nib may_write (last_key 2 v) 0, None)))
  adds_moves v e cells log kept pre away =
      let out = away refl in
      let none : pre.0 ≡ [] = alone cells 2 v pre.0 (subst (AreHome cells 2) (sym pre.1) kept.homes) out.1 in
      let same : v ≡ log = sym (append-nil v) ∙ (ap (λ l. v ++ l) (sym none) ∙ pre.1) in
      let within : last_key 2 log < length cells = subst (λ l. last_key 2 l < length cells) same out.0 in
      let not_home : (cell cells (last_key 2 log)).1 ≡ false = subst (λ l. (cell cells (last_key 2 l)).1 ≡ false) same out.1 in
      (kept.some, kept.head, adds_goes cells log v e kept same within not_home)

  stays_goes : (cells : List Cell) (log v : List (Link T)) (e : Link T) (k : ℕ) → IsChained cells log → IsPrefix v log → (cell cells k).1 ≡ false
      → Goes IsChained shown moved 0 (v, (nib may_write k 0, None)) once (Stays (step 0 0 1 e) (v, (nib may_write k 0, None))) cells log
  stays_goes cells log v e k kept pre not_home =
      let all : log ++ [] ≡ log = append-nil log in (
        keeps,
        [],
        None,
        tt,
        subst (λ l. IsChained (set cells 0 (once (cell cells 0).0, true)) l) (sym all) (kept_word cells log (once (cell cells 0).0) kept (once_more (cell cells 0).0)),
        inl (refl, refl),
        (cells, homes_first cells 2 v pre.0 (subst (AreHome cells 2) (sym pre.1) kept.homes), not_home, refl),
      )

  pub stays_moves : (v : List (Link T)) (e : Link T) (k : ℕ)
      → Moves IsChained shown moved 0 (v, (nib may_write k 0, None)) once (Stays (step 0 0 1 e) (v, (nib may_write k 0, None)))
  stays_moves v e k cells log kept pre away = (kept.some, kept.head, stays_goes cells log v e k kept pre (away refl).1)
