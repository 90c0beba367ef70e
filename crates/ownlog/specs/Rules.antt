-- The rule of the log, and what its steps tell.
--
-- Each entry names the word whose coming home makes the next one, by its key; the first entry is made by the word of key 2. A pen is the
-- right to bring such a word home, and who has one knows that the word isn't at home. So who has the pen of the word that the last entry
-- names knows that nothing follows in the log.
use Rattle.std.specs.Prelude.{ℕ, ◌≡◌, ◌<◌, ◌==◌, true, false, List, [], ◌∷◌, ◌++◌, length, MatchBool}
use Rattle.logbook.specs.Pages.{Cell, cell, Step, View, Book, Named, nib, may_make}
use Rattle.ownlog.specs.declared.link.Link.{Link}

-- the word of this log
abbrev pub head_of : Book → Named
head_of book = record { tracked = true; key = 0; book = book }

module _ {T : Type 0} where
  -- all items of entries
  abbrev pub items_of : List (Link T) → List T
  items_of [] = []
  items_of (first ∷ others) = first.items ++ items_of others

  -- the key of the word whose coming home makes the next entry
  abbrev pub last_key : ℕ → List (Link T) → ℕ
  last_key key [] = key
  last_key key (first ∷ others) = last_key first.next others

  -- the words that made these entries are at home
  abbrev pub AreHome : List Cell → ℕ → List (Link T) → Type 0
  AreHome cells key [] = Unit {0}
  AreHome cells key (first ∷ others) = ((cell cells key).1 ≡ true) × AreHome cells first.next others

  -- the first word is 0 until the first step
  pub record IsChained (cells : List Cell) (log : List (Link T)) : Type 0 where
    pub some : 0 < length cells
    pub head : (cell cells 0).1 ≡ true
    pub begun : (cell cells 0).0 ≡ 0 → (length cells ≡ 2) × (log ≡ [])
    pub homes : AreHome cells 2 log

  -- where it is the first step, it gives the pen of the word of key 2, and the log is empty
  abbrev pub Begins : Step (Link T) → View (Link T) ℕ → ℕ → View (Link T) ℕ → Type 0
  Begins step before found after = MatchBool (found == 0) ((after.1.0 ≡ nib may_make 2 0) × (after.0 ≡ [])) (Unit {0})

  -- it gives the pen of a word
  abbrev pub Grows : Step (Link T) → View (Link T) ℕ → ℕ → View (Link T) ℕ → Type 0
  Grows step before found after = (key : ℕ) × (after.1.0 ≡ nib may_make key 0)

  -- the entry was put behind all that had been seen
  abbrev pub Adds : Step (Link T) → View (Link T) ℕ → ℕ → View (Link T) ℕ → Type 0
  Adds step before found after = after.0 ≡ before.0 ++ step.ask ∷ []

  -- the words that made what was seen are at home, and the pen's isn't
  abbrev pub Stays : Step (Link T) → View (Link T) ℕ → ℕ → View (Link T) ℕ → Type 0
  Stays step before found after =
      (cells : List Cell) × AreHome cells 2 before.0 × ((cell cells before.1.0.key).1 ≡ false) × (after.1.0 ≡ before.1.0)
