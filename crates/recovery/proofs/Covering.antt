-- What has become of the cells of each document while the oldest segment is freed, and how many calls that takes.
use Rattle.std.proofs.Common.{◌≡◌, ◌≢◌, ◌⊎◌, inl, inr, ℕ, zero, suc, ◌+◌, ◌≤◌, ◌<◌, max, true, false, Bool, Option, List, [], ◌∷◌, ◌++◌, length, take, get_or, sym, ◌∙◌, ap, subst, arith}
use Rattle.std.specs.Prelude.{Result, Ok, Err, OnOk, cond, ◌==◌, ◌&&◌}
use Rattle.std.proofs.lemmas.List.{take_more}
use Rattle.std.proofs.lemmas.List.Filters.{length-filter_more}
use Rattle.disk.specs.declared.device.Disk.{Ghosts}
use Rattle.refusal.specs.declared.Refusal.{Refusal}
use Rattle.history.specs.Cell.{Pair, cells_at}
use Rattle.milestone.specs.Job.{Job}
use Rattle.segments.specs.Slot.{Segment}
use Rattle.segments.specs.Numbers.{IsOldest, open_count}
use Rattle.segments.specs.Table.{numbers_of, IsRetired}
use Rattle.segments.specs.Ring.{known_numbers}
use Rattle.recovery.specs.declared.marks.Mark.{Mark}
use Rattle.recovery.specs.declared.store.Store.{Store}
use Rattle.recovery.specs.Cells.{lowest_known}
use Rattle.recovery.specs.Marks.{marks_of, is_of, within_segment, revision_for, greatest_marked}
use Rattle.recovery.specs.Jobs.{jobs_for}
use Rattle.recovery.specs.Marked.{MayRetire}
use Rattle.recovery.specs.Open.{IsOpen, IsUnchanged, IsRetiredNow, IsFreedNow, HasNone, AreBothNewest, state_of, known_marks, kept_jobs}
use Rattle.recovery.specs.steps.Freeing.{KeepsSegments, AreCovered}
use Rattle.recovery.proofs.Going.{open_unchanged, unchanged_cells, unchanged_table}
use Rattle.recovery.proofs.Marked.{one_oldest}
use Rattle.recovery.proofs.Marking.{marked_push, own, other_document, other_segment}
use Rattle.recovery.proofs.Newest.{newest_lowest}
use Rattle.recovery.proofs.Reaching.{marks_reached}
use Rattle.recovery.proofs.Retirement.{known, oldest_here, may_retire}

pub low_or_above : (a b : ℕ) → (a ≤ b) ⊎ (b < a)
low_or_above zero b = inl (omega arith)
low_or_above (suc a) zero = inr (omega arith)
low_or_above (suc a) (suc b) = elim (low_or_above a b) [
  | inl low ↦ inl (omega (arith, low))
  | inr above ↦ inr (omega (arith, above))
]

-- a mark says of its own document in its own segment what it has
pub own_revision : (segment document : ℕ) (mark : Mark) → mark.segment ≡ segment → mark.document ≡ document → revision_for segment document mark ≡ mark.revision
own_revision segment document mark here is = rw (← here, ← is) (own mark.segment mark.document mark.revision)

-- and nothing of others
pub no_revision : (segment document : ℕ) (mark : Mark) → (mark.segment ≢ segment) ⊎ (mark.document ≢ document) → revision_for segment document mark ≡ 0
no_revision segment document mark (inl away) = other_segment segment document mark (λ same. away (sym same))
no_revision segment document mark (inr away) = other_document segment document mark (λ same. away (sym same))

-- it says no more than it has
pub at_most : (segment document : ℕ) (mark : Mark) → revision_for segment document mark ≤ mark.revision
at_most segment document mark = by_test (is_of segment mark && (mark.document == document))
  where
    by_test : (b : Bool) → cond b mark.revision 0 ≤ mark.revision
    by_test true = omega arith
    by_test false = omega arith

-- the first marks with the one behind them
pub next_mark : (segment document place : ℕ) (marks : List Mark) (mark : Mark) → place < length marks → get_or marks place mark ≡ mark
    → greatest_marked segment document (take (place + 1) marks) ≡ max (revision_for segment document mark) (greatest_marked segment document (take place marks))
next_mark segment document place marks mark inside is =
    ap (greatest_marked segment document) (take_more marks place mark inside ∙ ap (λ (m : Mark). take place marks ++ m ∷ []) is)
    ∙ marked_push segment document (take place marks) mark

-- the marks of a segment, with the one behind them
pub marks_more : (segment place : ℕ) (marks : List Mark) (mark : Mark) → place < length marks → get_or marks place mark ≡ mark
    → length (within_segment segment (take (place + 1) marks)) ≡ length (within_segment segment (take place marks)) + cond (is_of segment mark) 1 0
marks_more segment place marks mark inside is =
    length-filter_more (is_of segment) marks place mark inside ∙ ap (λ (m : Mark). length (within_segment segment (take place marks)) + cond (is_of segment m) 1 0) is

module _ {D : Type 0} {disk : Ghosts D} where
  -- after all marks the oldest segment may be retired
  pub may_go : (old mid : Store D disk) (is_open : IsOpen old) (slot number : ℕ) → KeepsSegments old mid → IsOldest (known_numbers old.ring) slot number
      → 2 ≤ open_count (known_numbers old.ring) → (covered : AreCovered number (known_marks old) old is_open mid) → MayRetire covered.goes_on.table covered.goes_on.cells
  may_go old mid is_open slot number keeps oldest two covered =
      let same : known_numbers old.ring ≡ known_numbers mid.ring = ap known_numbers (sym keeps.ring) in
      may_retire mid covered.goes_on slot number (subst (λ (l : List (Option ℕ)). IsOldest l slot number) same oldest) low
      (subst (λ (l : List (Option ℕ)). 2 ≤ open_count l) same two)
    where
      low : (document : ℕ) → greatest_marked number document (marks_of mid.marks) ≤ lowest_known mid.cells.items document
      low document = elim (low_or_above (greatest_marked number document (known_marks old)) 0) [
        | inl none ↦ omega (arith, none, ap (greatest_marked number document) keeps.marks)
        | inr above ↦
            omega (
              arith,
              ap (greatest_marked number document) keeps.marks,
              known mid covered.goes_on document,
              newest_lowest (state_of old) document (cells_at covered.goes_on.cells document) (covered.raised document above),
              marks_reached old is_open slot number oldest document,
            )
      ]

  -- and what is freed then
  pub freed_by : {A : Type 0} (old mid new : Store D disk) (slot number : ℕ) (result : Result A Refusal) → IsOldest (known_numbers old.ring) slot number
      → ((is_open : IsOpen old) → AreCovered number (known_marks old) old is_open mid)
      → kept_jobs new ≡ kept_jobs mid → OnOk result ((is_open : IsOpen mid) → IsRetiredNow is_open.cells is_open.table new)
      → OnOk result ((is_open : IsOpen old) → IsFreedNow old is_open new)
  freed_by old mid new slot number (Ok answer) oldest covered jobs done = λ is_open.
      freed_one old mid new slot number is_open oldest jobs (covered is_open) (done (covered is_open).goes_on)
    where
      freed_one : (old mid new : Store D disk) (slot number : ℕ) (is_open : IsOpen old) → IsOldest (known_numbers old.ring) slot number
          → kept_jobs new ≡ kept_jobs mid → (over : AreCovered number (known_marks old) old is_open mid) → IsRetiredNow over.goes_on.cells over.goes_on.table new → IsFreedNow old is_open new
      freed_one old mid new slot number is_open oldest jobs over now = record {
        goes_on = now.goes_on;
        retired = retired;
        spared = λ document none. ap (λ (l : List Pair). cells_at l document) now.same_cells ∙ over.spared document (subst (λ n. HasNone n document old) (sym same) none);
        raised = λ document needed.
            subst (λ (l : List Pair). AreBothNewest (state_of old) document (cells_at l document)) (sym now.same_cells) (over.raised document (above document needed));
        dropped = λ document needed. ap (λ (l : List Job). jobs_for document l) jobs ∙ over.dropped document (above document needed);
      }
        where
          retired : IsRetired is_open.table now.goes_on.table
          retired = subst (λ (t : List (Option Segment)). IsRetired t now.goes_on.table) over.same_table now.retired

          same : number ≡ retired.segment.number
          same = one_oldest (numbers_of is_open.table) slot retired.slot number retired.segment.number (oldest_here old is_open slot number oldest) retired.oldest

          above : (document : ℕ) → ¬ HasNone retired.segment.number document old → 1 ≤ greatest_marked number document (known_marks old)
          above document needed = elim (low_or_above (greatest_marked number document (known_marks old)) 0) [
            | inl low ↦ absurd (needed (subst (λ n. HasNone n document old) same (omega (arith, low))))
            | inr some ↦ some
          ]
  freed_by old mid new slot number (Err refusal) oldest covered jobs done = tt

  -- a store that was left unchanged is freed still
  pub freed_still : (old mid new : Store D disk) (is_open : IsOpen old) → IsUnchanged mid new → IsFreedNow old is_open mid → IsFreedNow old is_open new
  freed_still old mid new is_open same freed = record {
    goes_on = now;
    retired = retired;
    spared = λ document low. ap (λ (l : List Pair). cells_at l document) cells ∙ freed.spared document (subst (λ n. HasNone n document old) number low);
    raised = λ document needed.
        subst (λ (l : List Pair). AreBothNewest (state_of old) document (cells_at l document)) (sym cells)
        (freed.raised document (λ low. needed (subst (λ n. HasNone n document old) (sym number) low)));
    dropped = λ document needed.
        ap (λ (l : List Job). jobs_for document l) same.jobs ∙ freed.dropped document (λ low. needed (subst (λ n. HasNone n document old) (sym number) low));
  }
    where
      now : IsOpen new
      now = open_unchanged same freed.goes_on

      cells : now.cells ≡ freed.goes_on.cells
      cells = unchanged_cells same freed.goes_on

      retired : IsRetired is_open.table now.table
      retired = subst (λ (t : List (Option Segment)). IsRetired is_open.table t) (sym (unchanged_table same freed.goes_on)) freed.retired

      number : retired.segment.number ≡ freed.retired.segment.number
      number = one_oldest (numbers_of is_open.table) retired.slot freed.retired.slot retired.segment.number freed.retired.segment.number retired.oldest freed.retired.oldest
