-- A source's numbers, along the order of what was taken.
use Rattle.std.proofs.Common.{◌≡◌, ℕ, zero, suc, ◌+◌, Bool, true, false, cond, ◌&&◌, List, [], ◌∷◌, length, Option, Some, None, refl, sym, ap, ◌∙◌}
use Rattle.std.specs.Prelude.{bytes_eq, slice_get, unwrap_or}
use Rattle.std.proofs.lemmas.Bool.{both_ways}
use Rattle.std.proofs.lemmas.Bool.Decides.{same_from_decides}
use Rattle.std.proofs.lemmas.Slice.Eq.{bytes_eq-Decides}
use Rattle.std.proofs.lemmas.Map.Text.{is_eq-slice_cmp}
use Rattle.attributes.specs.Map.{get}
use Rattle.attributes.specs.Table.{is_name}
use Rattle.attributes.proofs.CallerLemmas.{get-insert}
use Rattle.revision.specs.Command.{Taken}
use Rattle.revision.specs.Window.{Window, nothing_taken, taken_as}
use Rattle.revision.specs.Sources.{Sources, window_of, with_taken}
use Rattle.world.specs.World.{Entry, is_of}
use Rattle.world.specs.Shown.{Shown}
pub use Rattle.world.specs.steps.Placing.{window_in, IsNew, IsNextAt, HasPlace, Placed}
use Rattle.world.proofs.Showing.{next_shown, blank, shown_by_name, set_shown, grown_shown}
pub use Rattle.revision.proofs.CallerLemmas.{same_name as same_bytes}

pub bytes_same : (a b : List ℕ) → a ≡ b → bytes_eq a b ≡ true
bytes_same a b = (bytes_eq-Decides a b).1

pub bytes_turned : (a b : List ℕ) → bytes_eq a b ≡ bytes_eq b a
bytes_turned a b = same_from_decides (bytes_eq a b) (bytes_eq b a) (bytes_eq-Decides a b) ((λ e. sym (same_bytes b a e)), (λ e. bytes_same b a (sym e)))

-- names that differ from one name are not another
differ : (a b c : List ℕ) → bytes_eq a b ≡ false → bytes_eq a c ≡ true → bytes_eq b c ≡ false
differ a b c other same = elim (bytes_eq b c) as (λ t. bytes_eq b c ≡ t → t ≡ false) [
  | true ↦ λ e. absurd (both_ways (bytes_eq a b) other (bytes_same a b (same_bytes a c same ∙ sym (same_bytes b c e))))
  | false ↦ λ e. refl
] refl

pub window_of-with_taken : (source : List ℕ) (by : List ℕ) (number revision : ℕ) (sources : Sources)
    → window_of source (with_taken by number revision sources) ≡ cond (bytes_eq by source) (taken_as number revision (window_of source sources)) (window_of source sources)
window_of-with_taken source by number revision sources =
    ap (λ o. unwrap_or o nothing_taken) (get-insert sources by (taken_as number revision (window_of by sources)) source)
    ∙ (by_test (is_name source by)
    ∙ (ap (λ b. cond b (taken_as number revision (window_of by sources)) (window_of source sources)) (is_eq-slice_cmp source by ∙ bytes_turned source by)
    ∙ own (bytes_eq by source) refl))
  where
    by_test : (b : Bool) → unwrap_or (cond b (Some (taken_as number revision (window_of by sources))) (get sources source)) nothing_taken
        ≡ cond b (taken_as number revision (window_of by sources)) (window_of source sources)
    by_test true = refl
    by_test false = refl

    own : (b : Bool) → bytes_eq by source ≡ b → cond b (taken_as number revision (window_of by sources)) (window_of source sources)
        ≡ cond b (taken_as number revision (window_of source sources)) (window_of source sources)
    own true same = ap (λ s. taken_as number revision (window_of s sources)) (same_bytes by source same)
    own false other = refl

module _ (name source own : List ℕ) (taken : Taken) where
  abbrev noted : Window → Window
  noted window = taken_as taken.number taken.revision window

  -- the record of the document itself, after the command that makes its next revision
  own_window : (found : Shown) (others : List Shown) → bytes_eq found.name own ≡ true → taken.revision ≡ found.revision + 1
      → window_in name source (next_shown taken found ∷ others)
      ≡ cond (bytes_eq own name && bytes_eq taken.source source) (noted (window_in name source (found ∷ others))) (window_in name source (found ∷ others))
  own_window found others is next =
      ap (λ n. cond (bytes_eq n name) (window_of source (with_taken taken.source taken.number (found.revision + 1) found.sources)) (window_in name source others)) named
      ∙ (by_test (bytes_eq own name)
      ∙ ap (λ n. cond (bytes_eq own name && bytes_eq taken.source source) (noted (cond (bytes_eq n name) (window_of source found.sources) (window_in name source others)))
      (cond (bytes_eq n name) (window_of source found.sources) (window_in name source others))) (sym named))
    where
      named : found.name ≡ own
      named = same_bytes found.name own is

      by_test : (b : Bool) → cond b (window_of source (with_taken taken.source taken.number (found.revision + 1) found.sources)) (window_in name source others)
          ≡ cond (b && bytes_eq taken.source source) (noted (cond b (window_of source found.sources) (window_in name source others))) (cond b (window_of source found.sources) (window_in name source others))
      by_test true =
          window_of-with_taken source taken.source taken.number (found.revision + 1) found.sources
          ∙ ap (λ r. cond (bytes_eq taken.source source) (taken_as taken.number r (window_of source found.sources)) (window_of source found.sources)) (sym next)
      by_test false = refl

  -- the documents before it are as they were
  other_window : (found : Shown) (others after : List Shown) → bytes_eq found.name own ≡ false
      → window_in name source after ≡ cond (bytes_eq own name && bytes_eq taken.source source) (noted (window_in name source others)) (window_in name source others)
      → window_in name source (found ∷ after)
      ≡ cond (bytes_eq own name && bytes_eq taken.source source) (noted (window_in name source (found ∷ others))) (window_in name source (found ∷ others))
  other_window found others after differs further = by_test (bytes_eq found.name name) refl
    where
      by_test : (b : Bool) → bytes_eq found.name name ≡ b → cond b (window_of source found.sources) (window_in name source after)
          ≡ cond (bytes_eq own name && bytes_eq taken.source source) (noted (cond b (window_of source found.sources) (window_in name source others)))
          (cond b (window_of source found.sources) (window_in name source others))
      by_test true e = ap (λ t. cond (t && bytes_eq taken.source source) (noted (window_of source found.sources)) (window_of source found.sources)) (sym (differ found.name own name differs e))
      by_test false e = further

  set_further : (number : ℕ) (document : Option Shown) (first : Shown) (others : List Shown)
      → set_shown (suc number) document (first ∷ others) ≡ first ∷ set_shown number document others
  set_further number None first others = refl
  set_further number (Some document) first others = refl

  window-changed : (number : ℕ) (documents : List Shown) → IsNextAt own taken.revision number documents
      → window_in name source (set_shown number (shown_by_name (slice_get documents number) taken None) documents)
      ≡ cond (bytes_eq own name && bytes_eq taken.source source) (noted (window_in name source documents)) (window_in name source documents)
  window-changed zero [] at = absurd at
  window-changed (suc number) [] at = absurd at
  window-changed zero (first ∷ others) at = own_window first others at.0 at.1
  window-changed (suc number) (first ∷ others) at =
      ap (window_in name source) (set_further number (shown_by_name (slice_get others number) taken None) first others)
      ∙ other_window first others (set_shown number (shown_by_name (slice_get others number) taken None) others) at.0 (window-changed number others at.1)

  window-created : (documents : List Shown) → IsNew own documents → taken.revision ≡ 1
      → window_in name source (set_shown (length documents) (shown_by_name (slice_get documents (length documents)) taken (Some own)) documents)
      ≡ cond (bytes_eq own name && bytes_eq taken.source source) (noted (window_in name source documents)) (window_in name source documents)
  window-created [] new first =
      own_window (blank own) [] (bytes_same own own refl) first
      ∙ ap (λ (w : Window). cond (bytes_eq own name && bytes_eq taken.source source) (noted w) w) (none (bytes_eq own name))
    where
      none : (b : Bool) → cond b nothing_taken nothing_taken ≡ nothing_taken
      none true = refl
      none false = refl
  window-created (found ∷ others) new first =
      ap (window_in name source) (set_further (length others) (shown_by_name (slice_get others (length others)) taken (Some own)) found others)
      ∙ other_window found others (set_shown (length others) (shown_by_name (slice_get others (length others)) taken (Some own)) others) new.0 (window-created others new.1 first)

-- A command that has its place shifts its source's window in its document, and changes no other one.
pub window-grown : (name source : List ℕ) (documents : List Shown) (entry : Entry) → Placed documents entry
    → window_in name source (grown_shown entry.taken documents)
    ≡ cond (is_of name source entry.command) (taken_as entry.taken.number entry.taken.revision (window_in name source documents)) (window_in name source documents)
window-grown name source documents entry placed =
    by_name entry.taken.name placed.place
    ∙ ap (λ s. cond (bytes_eq entry.command.name name && bytes_eq s source) (taken_as entry.taken.number entry.taken.revision (window_in name source documents)) (window_in name source documents)) placed.source
  where
    by_name : (new : Option (List ℕ)) → HasPlace entry.command.name entry.taken documents new
        → window_in name source (set_shown entry.taken.document (shown_by_name (slice_get documents entry.taken.document) entry.taken new) documents)
        ≡ cond (bytes_eq entry.command.name name && bytes_eq entry.taken.source source) (taken_as entry.taken.number entry.taken.revision (window_in name source documents)) (window_in name source documents)
    by_name None place = window-changed name source entry.command.name entry.taken entry.taken.document documents place
    by_name (Some new) place =
        ap (λ n. window_in name source (set_shown n (shown_by_name (slice_get documents n) entry.taken (Some new)) documents)) place.1
        ∙ (ap (λ n. window_in name source (set_shown (length documents) (shown_by_name (slice_get documents (length documents)) entry.taken (Some n)) documents)) place.0
        ∙ window-created name source entry.command.name entry.taken documents place.3 place.2)
