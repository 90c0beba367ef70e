-- The past of a device that keeps what it replaced.
use Rattle.std.proofs.Common.{◌≡◌, ℕ, ◌+◌, ◌-◌, ◌≤◌, List, [], ◌∷◌, ◌++◌, length, take, drop, sym, ◌∙◌, ap, subst, arith, length-drop, reverse}
use Rattle.std.specs.Prelude.{slice_range, Vec}
use Rattle.std.specs.declared.alloc.Global.{Global}
use Rattle.std.proofs.lemmas.List.{reverse-append, take-append-drop, drop-drop, length-take-le}
use Rattle.disk.specs.Device.{History, overwritten, SameOutside, IsWrite, IsAtMostOneStep, OneStep}
use Rattle.disk.specs.Rewound.{unsynced_ranges, states_before}
use Rattle.disk.specs.declared.memory.Call.{Call}
use Rattle.disk.specs.declared.memory.Call.TheVariants.{Write}
use Rattle.disk.proofs.Contents.{overwritten_same_outside, take_overwritten, rest-overwritten}

-- what is replaced is as long as what replaces it
length-replaced : (old : List ℕ) (at : ℕ) (bytes replaced : List ℕ) → at + length bytes ≤ length old → replaced ≡ slice_range old at (at + length bytes) → length replaced ≡ length bytes
length-replaced old at bytes replaced fits is = ap length is ∙ length-take-le (at + length bytes - at) (drop at old) (omega (arith, length-drop at old)) ∙ omega arith

-- putting back what was replaced
pub overwritten_back : (old : List ℕ) (at : ℕ) (bytes replaced : List ℕ) → at + length bytes ≤ length old → replaced ≡ slice_range old at (at + length bytes) → overwritten (overwritten old at bytes) at replaced ≡ old
overwritten_back old at bytes replaced fits is =
    ap (λ (l : List ℕ). l ++ (replaced ++ drop (at + length replaced) (overwritten old at bytes))) (take_overwritten old at bytes (omega arith))
    ∙ ap (λ n. take at old ++ (replaced ++ drop (at + n) (overwritten old at bytes))) (length-replaced old at bytes replaced fits is)
    ∙ ap (λ (l : List ℕ). take at old ++ (replaced ++ l)) (rest-overwritten old at bytes (omega arith))
    ∙ ap (λ (l : List ℕ). take at old ++ (l ++ drop (at + length bytes) old)) (is ∙ ap (λ n. take n (drop at old)) count)
    ∙ ap (λ (l : List ℕ). take at old ++ (take (length bytes) (drop at old) ++ l)) (sym (drop-drop (length bytes) at old))
    ∙ ap (λ (l : List ℕ). take at old ++ l) (take-append-drop (length bytes) (drop at old))
    ∙ take-append-drop at old
  where
    count : at + length bytes - at ≡ length bytes
    count = omega arith

-- the history that a device's bytes and calls tell
abbrev pub told : List ℕ → List Call → History
told bytes calls = record { now = record { seen = bytes; unsynced = unsynced_ranges (reverse calls) }; past = states_before bytes (reverse calls) }

-- a write that keeps what it replaces
pub writes : (at : ℕ) (put old new : List ℕ) (calls later : List Call) (replaced : Vec ℕ Global) → at + length put ≤ length old → replaced.items ≡ slice_range old at (at + length put) → new ≡ overwritten old at put → later ≡ calls ++ Write at replaced ∷ []
    → IsAtMostOneStep (IsWrite at (length put)) (told old calls) (told new later)
writes at put old new calls later replaced fits kept wrote noted = OneStep past opens
  where
    turned : reverse later ≡ Write at replaced ∷ reverse calls
    turned = ap (λ (l : List Call). reverse l) noted ∙ reverse-append calls (Write at replaced ∷ [])

    back : overwritten new at replaced.items ≡ old
    back = ap (λ (l : List ℕ). overwritten l at replaced.items) wrote ∙ overwritten_back old at put replaced.items fits kept

    past : states_before new (reverse later) ≡ record { seen = old; unsynced = unsynced_ranges (reverse calls) } ∷ states_before old (reverse calls)
    past =
        ap (λ (l : List Call). states_before new l) turned
        ∙ ap (λ (l : List ℕ). record { seen = l; unsynced = unsynced_ranges (reverse calls) } ∷ states_before l (reverse calls)) back

    opens : IsWrite at (length put) record { seen = old; unsynced = unsynced_ranges (reverse calls) } record { seen = new; unsynced = unsynced_ranges (reverse later) }
    opens = record {
      seen = subst (λ (l : List ℕ). SameOutside at (length put) old l) (sym wrote) (overwritten_same_outside old at put fits);
      unsynced = ap unsynced_ranges turned ∙ ap (λ n. (at, n) ∷ unsynced_ranges (reverse calls)) (length-replaced old at put replaced.items fits kept);
    }
