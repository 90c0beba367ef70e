-- What a stop leaves is one of the contents that a crash may leave.
use Rattle.std.proofs.Common.{◌≡◌, ℕ, ◌+◌, ◌-◌, ◌/◌, ◌≤◌, Bool, true, false, ◌&&◌, IsTrue, List, [], ◌∷◌, length, get_or, take, drop, refl, sym, ◌∙◌, subst, arith, reverse, length-append, length-drop}
use Rattle.std.specs.Prelude.{slice_range, nat_le, Vec}
use Rattle.std.specs.List.{list_all}
use Rattle.std.specs.declared.alloc.Global.{Global}
use Rattle.std.proofs.lemmas.Bool.Decides.{nat_tests}
use Rattle.std.proofs.lemmas.List.{length-take-le, length-replicate}
use Rattle.std.proofs.lemmas.List.Folds.{list_all-append}
use Rattle.std.proofs.lemmas.Grind.{reverse_onto}
use Rattle.disk.specs.Device.{IsCovered, MayLeave, overwritten, SameOutside}
use Rattle.disk.specs.Rewound.{unsynced_ranges, is_within}
use Rattle.disk.specs.Left.{left_bytes, left_after}
use Rattle.disk.specs.declared.memory.Call.{Call}
use Rattle.disk.specs.declared.memory.Call.TheVariants.{Read, Write, Sync}
use Rattle.disk.specs.declared.faults.Left.{Left}
use Rattle.disk.specs.declared.faults.Left.TheVariants.{Nothing, All, FirstHalf, Byte}
use Rattle.disk.proofs.Contents.{same_at, overwritten_same_outside, covered_here, covered_there}

-- what is left of a range is as long as the range
pub length-left_bytes : (left : Left) (old new : List ℕ) → length old ≡ length new → length (left_bytes left old new) ≡ length new
length-left_bytes Nothing old new long = long
length-left_bytes All old new long = refl
length-left_bytes FirstHalf old new long =
    omega (arith, length-append (take (length new / 2) new) (drop (length new / 2) old), length-take-le (length new / 2) new (omega arith), length-drop (length new / 2) old)
length-left_bytes (Byte byte) old new long = length-replicate (length new) byte

-- the calls, newest first, lie within a device of this size
abbrev pub AreWithin : ℕ → List Call → Type 0
AreWithin size calls = IsTrue (list_all (is_within size) calls)

both_true : (p q : Bool) → IsTrue (p && q) → IsTrue p × IsTrue q
both_true true q is = (refl, is)
both_true false q is = absurd (cc is)

-- turned round they lie within it too
pub within-reverse : (size : ℕ) (calls : List Call) → AreWithin size calls → AreWithin size (reverse calls)
within-reverse size [] within = refl
within-reverse size (call ∷ calls) within =
    let parts = both_true _ _ within in
    rw (reverse_onto calls call [], list_all-append) (joined _ _ (within-reverse size calls parts.1) (joined _ _ parts.0 refl))
  where
    joined : (p q : Bool) → IsTrue p → IsTrue q → IsTrue (p && q)
    joined true q here there = there
    joined false q here there = here

-- The bytes keep their number, and stay where no range is open.
record Keeps (calls : List Call) (old new : List ℕ) : Type 0 where
  same_length : length new ≡ length old
  outside : (place : ℕ) → ¬ IsCovered (unsynced_ranges calls) place → get_or new place 0 ≡ get_or old place 0

-- a write more, where the older calls keep what is not theirs
keeps_write : (left : Left) (calls : List Call) (at : ℕ) (replaced : Vec ℕ Global) (bytes : List ℕ) → ((now : List ℕ) → AreWithin (length now) calls → Keeps calls now (left_after left calls now)) → AreWithin (length bytes) (Write at replaced ∷ calls)
    → Keeps (Write at replaced ∷ calls) bytes (left_after left (Write at replaced ∷ calls) bytes)
keeps_write left calls at replaced bytes older within = record {
  same_length = rest.same_length ∙ first.same_length;
  outside = λ place closed.
      rest.outside place (λ covered. closed (covered_there (at, length replaced.items) place (unsynced_ranges calls) covered))
      ∙ same_at at (length replaced.items) bytes next first place (λ inside. closed (covered_here at (length replaced.items) place (unsynced_ranges calls) inside));
}
  where
    parts : IsTrue (nat_le (at + length replaced.items) (length bytes)) × AreWithin (length bytes) calls
    parts = both_true _ _ within

    fits : at + length replaced.items ≤ length bytes
    fits = grind (arith, nat_tests, parts.0)

    written : List ℕ
    written = slice_range bytes at (at + length replaced.items)

    long : length replaced.items ≡ length written
    long = sym (length-take-le (at + length replaced.items - at) (drop at bytes) (omega (arith, fits, length-drop at bytes)) ∙ omega arith)

    range : List ℕ
    range = left_bytes left replaced.items written

    size : length range ≡ length replaced.items
    size = length-left_bytes left replaced.items written long ∙ sym long

    next : List ℕ
    next = overwritten bytes at range

    first : SameOutside at (length replaced.items) bytes next
    first = subst (λ n. SameOutside at n bytes next) size (overwritten_same_outside bytes at range (omega (arith, size, fits)))

    rest : Keeps calls next (left_after left calls next)
    rest = older next (subst (λ n. AreWithin n calls) (sym first.same_length) parts.1)

keeps : (left : Left) (calls : List Call) (bytes : List ℕ) → AreWithin (length bytes) calls → Keeps calls bytes (left_after left calls bytes)
keeps left [] bytes within = record { same_length = refl; outside = λ place closed. refl }
keeps left (Read at len ∷ calls) bytes within = let kept = keeps left calls bytes within in record { same_length = kept.same_length; outside = kept.outside }
keeps left (Sync ∷ calls) bytes within = record { same_length = refl; outside = λ place closed. refl }
keeps left (Write at replaced ∷ calls) bytes within = keeps_write left calls at replaced bytes (keeps left calls) within

pub left_possible : (left : Left) (calls : List Call) (bytes : List ℕ) → AreWithin (length bytes) calls → MayLeave record { seen = bytes; unsynced = unsynced_ranges calls } (left_after left calls bytes)
left_possible left calls bytes within = let kept = keeps left calls bytes within in record { same_length = kept.same_length; outside = kept.outside }
