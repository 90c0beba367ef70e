-- Words that come home, and words that are added.
use Rattle.std.proofs.Common.{◌≡◌, ℕ, zero, suc, ◌<◌, true, false, List, [], ◌∷◌, ◌++◌, length, set, refl, ap, sym, ◌∙◌, subst, arith, append_assoc}
use Rattle.std.proofs.lemmas.List.{append-nil}
use mathlib.Core.List.{IsPrefix}
use Rattle.logbook.specs.Pages.{Book}
use Rattle.ownlog.specs.Logs.{Log}
use Rattle.logbook.specs.Pages.{Cell, cell}
use Rattle.ownlog.specs.declared.link.Link.{Link}
use Rattle.ownlog.specs.Rules.{items_of, last_key, AreHome}

pub home_set : (cells : List Cell) (at n key : ℕ) → (cell cells key).1 ≡ true → (cell (set cells at (n, true)) key).1 ≡ true
home_set [] at n key home = home
home_set (c ∷ cells) zero n zero home = refl
home_set (c ∷ cells) zero n (suc key) home = home
home_set (c ∷ cells) (suc at) n zero home = home
home_set (c ∷ cells) (suc at) n (suc key) home = home_set cells at n key home

pub home_here : (cells : List Cell) (at n : ℕ) → at < length cells → (cell (set cells at (n, true)) at).1 ≡ true
home_here [] at n within = absurd (omega arith)
home_here (c ∷ cells) zero n within = refl
home_here (c ∷ cells) (suc at) n within = home_here cells at n (omega arith)

pub home_snoc : (cells : List Cell) (key : ℕ) → (cell cells key).1 ≡ true → (cell (cells ++ (0, false) ∷ []) key).1 ≡ true
home_snoc [] key home = absurd (cc (home))
home_snoc (c ∷ cells) zero home = home
home_snoc (c ∷ cells) (suc key) home = home_snoc cells key home

pub first_set : (cells : List Cell) (at : ℕ) (x : Cell) → 0 < at → cell (set cells at x) 0 ≡ cell cells 0
first_set [] at x above = refl
first_set (c ∷ cells) zero x above = absurd (omega arith)
first_set (c ∷ cells) (suc at) x above = refl

pub first_here : (cells : List Cell) (x : Cell) → 0 < length cells → cell (set cells 0 x) 0 ≡ x
first_here [] x within = absurd (omega arith)
first_here (c ∷ cells) x within = refl

pub first_snoc : (cells : List Cell) (x : Cell) → 0 < length cells → cell (cells ++ x ∷ []) 0 ≡ cell cells 0
first_snoc [] x within = absurd (omega arith)
first_snoc (c ∷ cells) x within = refl

module _ {T : Type 0} where
  pub homes_set : (cells : List Cell) (at n key : ℕ) (log : List (Link T)) → AreHome cells key log → AreHome (set cells at (n, true)) key log
  homes_set cells at n key [] homes = tt
  homes_set cells at n key (first ∷ log) homes = (home_set cells at n key homes.0, homes_set cells at n first.next log homes.1)

  pub homes_snoc : (cells : List Cell) (key : ℕ) (log : List (Link T)) → AreHome cells key log → AreHome (cells ++ (0, false) ∷ []) key log
  homes_snoc cells key [] homes = tt
  homes_snoc cells key (first ∷ log) homes = (home_snoc cells key homes.0, homes_snoc cells first.next log homes.1)

  pub homes_more : (cells : List Cell) (key : ℕ) (log : List (Link T)) (entry : Link T) → AreHome cells key log → (cell cells (last_key key log)).1 ≡ true
      → AreHome cells key (log ++ entry ∷ [])
  homes_more cells key [] entry homes home = (home, tt)
  homes_more cells key (first ∷ log) entry homes home = (homes.0, homes_more cells first.next log entry homes.1 home)

  -- where the word that the last entry names isn't at home, nothing follows in the log
  pub alone : (cells : List Cell) (key : ℕ) (log more : List (Link T)) → AreHome cells key (log ++ more) → (cell cells (last_key key log)).1 ≡ false → more ≡ []
  alone cells key [] [] homes away = refl
  alone cells key [] (first ∷ more) homes away = absurd (cc (homes.0, away))
  alone cells key (first ∷ log) more homes away = alone cells first.next log more homes.1 away

  pub last_more : (key : ℕ) (log : List (Link T)) (entry : Link T) → last_key key (log ++ entry ∷ []) ≡ entry.next
  last_more key [] entry = refl
  last_more key (first ∷ log) entry = last_more first.next log entry

  pub items_more : (log : List (Link T)) (entry : Link T) → items_of (log ++ entry ∷ []) ≡ items_of log ++ entry.items
  items_more [] entry = append-nil entry.items
  items_more (first ∷ log) entry = ap (λ l. first.items ++ l) (items_more log entry) ∙ sym (append_assoc first.items (items_of log) entry.items)

  pub items_join : (log more : List (Link T)) → items_of (log ++ more) ≡ items_of log ++ items_of more
  items_join [] more = refl
  items_join (first ∷ log) more = ap (λ l. first.items ++ l) (items_join log more) ∙ sym (append_assoc first.items (items_of log) (items_of more))

  -- the items of a prefix of the log are a prefix of its items
  pub prefix_items : (log all : List (Link T)) → IsPrefix log all → IsPrefix (items_of log) (items_of all)
  prefix_items log all pre = (items_of pre.0, sym (items_join log pre.0) ∙ ap items_of pre.1)

  abbrev pub log_of : Book → List T → Log T
  log_of book items = record { book = book; items = items }

  pub homes_first : (cells : List Cell) (key : ℕ) (log more : List (Link T)) → AreHome cells key (log ++ more) → AreHome cells key log
  homes_first cells key [] more homes = tt
  homes_first cells key (first ∷ log) more homes = (homes.0, homes_first cells first.next log more homes.1)

  -- where the word that the last entry names isn't at home, the log begins with all that was seen
  pub all_of : (cells : List Cell) (key : ℕ) (log other both : List (Link T)) → AreHome cells key both → (cell cells (last_key key log)).1 ≡ false
      → IsPrefix log both → IsPrefix other both → IsPrefix other log
  all_of cells key log other both homes away first second =
      let none : first.0 ≡ [] = alone cells key log first.0 (subst (AreHome cells key) (sym first.1) homes) away in
      let same : log ≡ both = sym (append-nil log) ∙ (ap (λ l. log ++ l) (sym none) ∙ first.1) in
      subst (λ l. IsPrefix other l) (sym same) second
