-- Bodies that spell batches, in two parts.
use Rattle.std.proofs.Common.{◌≡◌, ℕ, List, [], ◌∷◌, ◌++◌, map, refl, ap}
use Rattle.std.specs.Prelude.{All}
use Rattle.std.specs.List.{AllByRecursion}
use Rattle.std.proofs.lemmas.List.Elements.{All-cons, All-nil}
use Rattle.revision.specs.Command.{Taken}
use Rattle.journal.specs.BatchSpelling.{IsBatch, batch}

-- bodies that stand one behind the other spell batches that do
pub record Split (first second : List (List ℕ)) (batches : List (List Taken)) : Type 0 where
  pub gone : List (List Taken)
  pub left : List (List Taken)
  pub both : batches ≡ gone ++ left
  pub gone_spelled : first ≡ map batch gone
  pub gone_each : All IsBatch gone
  pub left_spelled : second ≡ map batch left
  pub left_each : All IsBatch left

pub split : (first second : List (List ℕ)) (batches : List (List Taken)) → first ++ second ≡ map batch batches → AllByRecursion IsBatch batches → Split first second batches
split [] second batches same each = record {
  gone = [];
  left = batches;
  both = refl;
  gone_spelled = refl;
  gone_each = All-nil IsBatch;
  left_spelled = same;
  left_each = all batches each;
}
  where
    all : (l : List (List Taken)) → AllByRecursion IsBatch l → All IsBatch l
    all [] each = All-nil IsBatch
    all (x ∷ l) each = All-cons IsBatch x l each.0 (all l each.1)
split (body ∷ first) second [] same each = absurd cc
split (body ∷ first) second (commands ∷ others) same each =
    let here : body ≡ batch commands = cc in
    let rest : first ++ second ≡ map batch others = cc in
    let r = split first second others rest each.1 in
    record {
      gone = commands ∷ r.gone;
      left = r.left;
      both = ap (λ (l : List (List Taken)). commands ∷ l) r.both;
      gone_spelled = both here r.gone_spelled;
      gone_each = All-cons IsBatch commands r.gone each.0 r.gone_each;
      left_spelled = r.left_spelled;
      left_each = r.left_each;
    }
  where
    both : {a b : List ℕ} {x y : List (List ℕ)} → a ≡ b → x ≡ y → a ∷ x ≡ b ∷ y
    both p q i = p i ∷ q i
