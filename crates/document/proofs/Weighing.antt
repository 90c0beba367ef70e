-- The weight of parts of a document, and what stays of it below 2^64.
use Rattle.std.proofs.Common.{◌≡◌, ℕ, zero, suc, ◌+◌, ◌*◌, ◌<◌, ◌≤◌, min, List, [], ◌∷◌, ◌++◌, length, take, get_or, sum_by, add-one, sym, ap, ◌∙◌, ⊎_elim, arith}
use Rattle.std.proofs.Math.Nat.{mul-le-mul_left}
use Rattle.std.proofs.lemmas.Bool.{cases_lt}
use Rattle.std.proofs.lemmas.List.{take_more}
use Rattle.std.proofs.lemmas.List.Sums.{sum_by-cons}
use Rattle.attributes.specs.Attributes.{Attributes}
use Rattle.attributes.specs.Scalar.{Scalar}
use Rattle.delta.specs.Element.{Element, letters}
use Rattle.document.specs.declared.run.Content.{Content}
use Rattle.document.specs.declared.run.Content.TheVariants as content
use Rattle.document.specs.Pieces.{content_units, content_weight}
use Rattle.document.specs.Runs.{units_of_runs}
use Rattle.document.specs.Weight.{entries_weight, named_weight, weight_of, attributes_weight}
use Rattle.document.proofs.Joined.{units_of_runs-last}
use Rattle.document.proofs.Letters.{length-letters}

entries_weight-append : (a b : List (List ℕ × Scalar)) → entries_weight (a ++ b) ≡ entries_weight a + entries_weight b
entries_weight-append [] b = omega arith
entries_weight-append (e ∷ a) b = omega (arith, entries_weight-append a b)

pub weight_of-append : (a b : List Element) → weight_of (a ++ b) ≡ weight_of a + weight_of b
weight_of-append [] b = omega arith
weight_of-append (x ∷ a) b = omega (arith, weight_of-append a b)

-- one entry more, and one run more
pub entries_more : (es : List (List ℕ × Scalar)) (i : ℕ) (e : List ℕ × Scalar) → i < length es → e ≡ get_or es i e
    → entries_weight (take (i + 1) es) ≡ entries_weight (take i es) + named_weight e.0 e.1
entries_more es i e within is =
    ap entries_weight (take_more es i e within)
    ∙ (entries_weight-append (take i es) (get_or es i e ∷ [])
    ∙ ap (λ n. entries_weight (take i es) + n) (ap (λ f. entries_weight (f ∷ [])) (sym is) ∙ (let all : named_weight e.0 e.1 + 0 ≡ named_weight e.0 e.1 = omega arith in all)))

pub runs_more : (rs : List (List Element)) (i : ℕ) (r : List Element) → i < length rs → r ≡ get_or rs i r
    → weight_of (units_of_runs (take (i + 1) rs)) ≡ weight_of (units_of_runs (take i rs)) + weight_of r
runs_more rs i r within is =
    ap (λ l. weight_of (units_of_runs l)) (take_more rs i r within)
    ∙ (ap weight_of (units_of_runs-last (take i rs) (get_or rs i r))
    ∙ (weight_of-append (units_of_runs (take i rs)) (get_or rs i r) ∙ ap (λ l. weight_of (units_of_runs (take i rs)) + weight_of l) (sym is)))

-- sums and products that stay below 2^64
pub saturated_sum : (a b m : ℕ) → min (min a m + b) m ≡ min (a + b) m
saturated_sum a b m = omega arith

pub saturated_product : (a n m : ℕ) → 0 < n → min (min a m * n) m ≡ min (a * n) m
saturated_product a n m some =
    ⊎_elim
    (λ small. ap (λ k. min (k * n) m) (let same : min a m ≡ a = omega arith in same))
    (λ large. let least : min a m ≡ m = omega arith in
    let low : m * 1 ≤ m * n = mul-le-mul_left m (let one : 1 ≤ n = omega arith in one) in
    let high : a * 1 ≤ a * n = mul-le-mul_left a (let one : 1 ≤ n = omega arith in one) in
    ap (λ k. min (k * n) m) least ∙ (let same : min (m * n) m ≡ min (a * n) m = omega arith in same))
    (cases_lt a m)

-- the weight of a run
pub letters_weight : (us : List ℕ) (a : Attributes) → weight_of (letters us a) ≡ (12 + attributes_weight a) * length us
letters_weight [] a = omega arith
letters_weight (u ∷ us) a = omega (arith, letters_weight us a)

pub run_weight : (k : Content) (a : Attributes) → weight_of (content_units k a) ≡ (attributes_weight a + (12 + content_weight k)) * length (content_units k a)
run_weight (content.Text text) a =
    letters_weight _ a ∙ (ap (λ n. (12 + attributes_weight a) * n) (sym (length-letters _ a)) ∙ ap (λ n. n * length (content_units (content.Text text) a)) (let same : 12 + attributes_weight a ≡ attributes_weight a + (12 + 0) = omega arith in same))
run_weight (content.Embed key value) a = omega arith

pub weight_of_run : (k : Content) (a : Attributes) (now : List Element) (units attributes item each : ℕ) (m : ℕ)
    → content_units k a ≡ now → (units ≡ length (content_units k a)) × (0 < units) → item ≡ content_weight k
    → attributes ≡ min (attributes_weight a) m → each ≡ min (attributes + (12 + item)) m → min (each * units) m ≡ min (weight_of now) m
weight_of_run k a now units attributes item each m view counted item_is attributes_is each_is =
    let whole : each ≡ min (attributes_weight a + (12 + content_weight k)) m =
    each_is ∙ (ap (λ n. min (n + (12 + item)) m) attributes_is ∙ (saturated_sum (attributes_weight a) (12 + item) m ∙ ap (λ n. min (attributes_weight a + (12 + n)) m) item_is)) in
    ap (λ n. min (n * units) m) whole
    ∙ (saturated_product (attributes_weight a + (12 + content_weight k)) units m counted.1
    ∙ ap (λ n. min n m) (ap (λ n. (attributes_weight a + (12 + content_weight k)) * n) counted.0 ∙ (sym (run_weight k a) ∙ ap weight_of view)))

-- one more of a sum
module _ {X : Type 0} (f : X → ℕ) where
  more : (xs : List X) (i : ℕ) (d : X) → i < length xs → sum_by f (take (suc i) xs) ≡ sum_by f (take i xs) + f (get_or xs i d)
  more [] i d lt = absurd (omega arith)
  more (x ∷ xs) zero d lt = omega (arith, sum_by-cons f x [])
  more (x ∷ xs) (suc i) d lt =
      omega (arith, sum_by-cons f x (take (suc i) xs), sum_by-cons f x (take i xs), more xs i d (omega arith))

  pub sum_by-more : (xs : List X) (i : ℕ) (d : X) → i < length xs → sum_by f (take (i + 1) xs) ≡ sum_by f (take i xs) + f (get_or xs i d)
  sum_by-more xs i d lt = rw add-one (more xs i d lt)
