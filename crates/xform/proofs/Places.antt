-- Where a place goes, operation by operation.
use Rattle.std.proofs.Common.{◌≡◌, ℕ, zero, suc, ◌+◌, ◌-◌, ◌<◌, ◌≤◌, ◌^◌, ◌⊎◌, ⊎_elim, Bool, true, false, List, [], ◌∷◌, length, min, refl, sym, ap, ◌∙◌, arith}
use Rattle.std.proofs.lemmas.List.{length-append, length-map}
use Rattle.delta.specs.Element.{Element, letters, lettered, embedded}
use Rattle.delta.specs.Operation.{Operation, insert_text, insert_embed, retain, delete, is_insert, op_out, out_of}
use Rattle.delta.specs.Gaps.{Gaps, End, Gap, Del, Keep, front, run, counted}
use Rattle.attributes.specs.Attributes.{Changes}
use Rattle.xform.specs.Place.{moved_by, place}
pub use Rattle.attributes.proofs.CallerLemmas.{drop-here as drop-op}

-- what is inserted before a place, and just there
front-before : (xs : List Element) (g : Gaps) (i : ℕ) (priority : Bool) → 0 < i → place (front xs g) i priority ≡ length xs + place g i priority
front-before xs g zero priority some = absurd (omega arith)
front-before xs (End ys) (suc i) priority some = omega (arith, length-append xs ys)
front-before xs (Gap ys f g) (suc i) priority some = omega (arith, length-append xs ys)

front-there : (xs : List Element) (g : Gaps) (i : ℕ) → place (front xs g) i false ≡ length xs + place g i false
front-there xs (End ys) zero = length-append xs ys
front-there xs (Gap ys f g) zero = length-append xs ys
front-there xs g (suc i) = front-before xs g (suc i) false (omega arith)

front-not_there : (xs : List Element) (g : Gaps) → place (front xs g) 0 true ≡ place g 0 true
front-not_there xs (End ys) = refl
front-not_there xs (Gap ys f g) = refl

pub place-insert_before : (op : Operation) (ops : List Operation) (i : ℕ) (priority : Bool) → is_insert op ≡ true → 0 < i
    → place (counted (op ∷ ops)) i priority ≡ op_out op + place (counted ops) i priority
place-insert_before (insert_text us a) ops i priority is some =
    omega (arith, front-before (letters us a) (counted ops) i priority some, length-map us (λ u. lettered u a))
place-insert_before (insert_embed key value a) ops i priority is some = front-before (embedded key value a ∷ []) (counted ops) i priority some
place-insert_before (retain n c) ops i priority is some = absurd (cc)
place-insert_before (delete n) ops i priority is some = absurd (cc)

pub place-insert_there : (op : Operation) (ops : List Operation) (i : ℕ) → is_insert op ≡ true → place (counted (op ∷ ops)) i false ≡ op_out op + place (counted ops) i false
place-insert_there (insert_text us a) ops i is = omega (arith, front-there (letters us a) (counted ops) i, length-map us (λ u. lettered u a))
place-insert_there (insert_embed key value a) ops i is = front-there (embedded key value a ∷ []) (counted ops) i
place-insert_there (retain n c) ops i is = absurd (cc)
place-insert_there (delete n) ops i is = absurd (cc)

pub place-insert_after : (op : Operation) (ops : List Operation) → is_insert op ≡ true → place (counted (op ∷ ops)) 0 true ≡ place (counted ops) 0 true
place-insert_after (insert_text us a) ops is = front-not_there (letters us a) (counted ops)
place-insert_after (insert_embed key value a) ops is = front-not_there (embedded key value a ∷ []) (counted ops)
place-insert_after (retain n c) ops is = absurd (cc)
place-insert_after (delete n) ops is = absurd (cc)

-- units kept before it, and around it
pub place-retained : (n : ℕ) (c : Changes) (g : Gaps) (i : ℕ) (priority : Bool) → n ≤ i → place (run n (Keep c) g) i priority ≡ n + place g (i - n) priority
place-retained zero c g i priority h = omega (arith, ap (λ k. place g k priority) (sub-zero i))
  where
    sub-zero : (k : ℕ) → k - 0 ≡ k
    sub-zero k = omega arith
place-retained (suc n) c g zero priority h = absurd (omega arith)
place-retained (suc n) c g (suc i) priority h =
    let less : i - n ≡ suc i - suc n = omega arith in
    omega (arith, place-retained n c g i priority (omega arith), ap (λ k. place g k priority) less)

moved-nothing : (priority : Bool) → moved_by [] priority ≡ 0
moved-nothing true = refl
moved-nothing false = refl

pub place-within_retained : (n : ℕ) (c : Changes) (g : Gaps) (i : ℕ) (priority : Bool) → i < n → place (run n (Keep c) g) i priority ≡ i
place-within_retained zero c g i priority h = absurd (omega arith)
place-within_retained (suc n) c g zero priority h = moved-nothing priority
place-within_retained (suc n) c g (suc i) priority h = omega (arith, place-within_retained n c g i priority (omega arith))

-- and deleted
pub place-deleted : (n : ℕ) (g : Gaps) (i : ℕ) (priority : Bool) → n ≤ i → place (run n Del g) i priority ≡ place g (i - n) priority
place-deleted zero g i priority h = ap (λ k. place g k priority) (sub-zero i)
  where
    sub-zero : (k : ℕ) → k ≡ k - 0
    sub-zero k = omega arith
place-deleted (suc n) g zero priority h = absurd (omega arith)
place-deleted (suc n) g (suc i) priority h =
    let less : i - n ≡ suc i - suc n = omega arith in
    omega (arith, place-deleted n g i priority (omega arith), ap (λ k. place g k priority) less)

pub place-within_deleted : (n : ℕ) (g : Gaps) (i : ℕ) (priority : Bool) → i < n → place (run n Del g) i priority ≡ 0
place-within_deleted zero g i priority h = absurd (omega arith)
place-within_deleted (suc n) g zero priority h = moved-nothing priority
place-within_deleted (suc n) g (suc i) priority h = omega (arith, place-within_deleted n g i priority (omega arith))

-- where a walk over the operations stands: the place so far, the operations left, and how much of what they stand on is before
-- the place
pub record Stands (so_far before : ℕ) (ops : List Operation) (priority : Bool) (total : ℕ) : Type 0 where
  pub placed : so_far + place (counted ops) before priority ≡ total
  pub bounded : so_far + out_of ops ≤ 2 ^ 48
  pub within : before ≤ 2 ^ 48

module _ {so_far before : ℕ} {all ops : List Operation} {op : Operation} {priority : Bool} {total : ℕ} (parts : all ≡ op ∷ ops) (stands : Stands so_far before all priority total) where
  placed-at : so_far + place (counted (op ∷ ops)) before priority ≡ total
  placed-at = ap (λ l. so_far + place (counted l) before priority) (sym parts) ∙ stands.placed

  bounded-at : so_far + (op_out op + out_of ops) ≤ 2 ^ 48
  bounded-at = omega (arith, stands.bounded, ap out_of parts)

  pub stands-insert : is_insert op ≡ true → 0 < before ⊎ (priority ≡ false) → Stands (so_far + op_out op) before ops priority total
  stands-insert is moves = record {
    placed =
        ⊎_elim
        (λ some. omega (arith, placed-at, place-insert_before op ops before priority is some))
        (λ (there : priority ≡ false). omega (
          arith,
          placed-at,
          ap (λ p. place (counted (op ∷ ops)) before p) there,
          place-insert_there op ops before is,
          ap (λ p. place (counted ops) before p) there,
        ))
        moves;
    bounded = omega (arith, bounded-at);
    within = stands.within;
  }

  pub stands-insert_after : is_insert op ≡ true → before ≤ 0 → priority ≡ true → Stands so_far before ops priority total
  stands-insert_after is none first =
      let at : before ≡ 0 = omega (arith, none) in record {
        placed = omega (
          arith,
          placed-at,
          ap (λ p. place (counted (op ∷ ops)) before p) first,
          ap (λ i. place (counted (op ∷ ops)) i true) at,
          place-insert_after op ops is,
          ap (λ p. place (counted ops) before p) first,
          ap (λ i. place (counted ops) i true) at,
        );
        bounded = omega (arith, bounded-at);
        within = stands.within;
      }

  -- so many of the units that it stands on are before the place
  pub stands-retained : (n k : ℕ) (c : Changes) → retain n c ≡ op → k ≡ min n before → n ≤ k → Stands (so_far + k) (before - k) ops priority total
  stands-retained n k c is least all =
      let same : k ≡ n = omega arith in
      let within : n ≤ before = omega arith in
      rw same (record {
        placed = omega (arith, placed-at, ap (λ o. place (counted (o ∷ ops)) before priority) is, place-retained n c (counted ops) before priority within);
        bounded = omega (arith, bounded-at, ap op_out is);
        within = omega (arith, stands.within);
      })

  pub stands-deleted : (n k : ℕ) → delete n ≡ op → k ≡ min n before → n ≤ k → Stands so_far (before - k) ops priority total
  stands-deleted n k is least all =
      let same : k ≡ n = omega arith in
      let within : n ≤ before = omega arith in
      rw same (record {
        placed = omega (arith, placed-at, ap (λ o. place (counted (o ∷ ops)) before priority) is, place-deleted n (counted ops) before priority within);
        bounded = omega (arith, bounded-at);
        within = omega (arith, stands.within);
      })

  pub within_retained : (n k : ℕ) (c : Changes) → retain n c ≡ op → k ≡ min n before → k < n → so_far + k ≡ total
  within_retained n k c is least some =
      let behind : before < n = omega arith in
      let same : k ≡ before = omega arith in
      omega (arith, same, placed-at, ap (λ o. place (counted (o ∷ ops)) before priority) is, place-within_retained n c (counted ops) before priority behind)

  pub within_deleted : (n k : ℕ) → delete n ≡ op → k ≡ min n before → k < n → so_far ≡ total
  within_deleted n k is least some =
      let behind : before < n = omega arith in
      omega (arith, placed-at, ap (λ o. place (counted (o ∷ ops)) before priority) is, place-within_deleted n (counted ops) before priority behind)
