-- The width of a batch with one command more.
use Rattle.std.proofs.Common.{◌≡◌, ℕ, zero, suc, ◌+◌, ◌-◌, ◌^◌, ◌<◌, ◌≤◌, List, [], ◌∷◌, length, take, get_or, sym, ap, ◌∙◌, arith}
use Rattle.std.specs.List.{fold}
use Rattle.std.specs.Prelude.{sum_by, min}
use Rattle.revision.specs.Command.{Taken, width_of}
use Rattle.world.specs.World.{Entry, takens}

one_more : (f : Taken → ℕ) (sum : ℕ) (entries : List Entry) (i : ℕ) (e : Entry) → i < length entries → e ≡ get_or entries i e
    → fold (λ a x. a + f x) sum (take (suc i) (takens entries)) ≡ fold (λ a x. a + f x) sum (take i (takens entries)) + f e.taken
one_more f sum [] i e inside is = absurd (omega arith)
one_more f sum (first ∷ others) zero e inside is = ap (λ (x : Entry). sum + f x.taken) (sym is)
one_more f sum (first ∷ others) (suc i) e inside is = one_more f (sum + f first.taken) others i e (omega arith) is

pub width-more : (entries : List Entry) (i : ℕ) (e : Entry) → i < length entries → e ≡ get_or entries i e
    → sum_by width_of (take (i + 1) (takens entries)) ≡ sum_by width_of (take i (takens entries)) + width_of e.taken
width-more entries i e inside is = ap (λ n. sum_by width_of (take n (takens entries))) next ∙ one_more width_of 0 entries i e inside is
  where
    next : i + 1 ≡ suc i
    next = omega arith

-- what is used with a command more, which is counted up to the greatest number there is
pub above : (used sum width more cap : ℕ) → used ≡ 4 + sum → more ≡ min (used + min width (2 ^ 64 - 1)) (2 ^ 64 - 1) → cap < more → cap < 4 + (sum + width)
above used sum width more cap is counted gt = omega (arith, is, counted, gt)

pub within : (used sum width more cap : ℕ) → used ≡ 4 + sum → more ≡ min (used + min width (2 ^ 64 - 1)) (2 ^ 64 - 1) → more ≤ cap → cap < 2 ^ 32
    → more ≡ 4 + (sum + width)
within used sum width more cap is counted le small = omega (arith, is, counted, le, small)
