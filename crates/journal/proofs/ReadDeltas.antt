-- Reading from the front of bytes: deltas.
use Rattle.std.proofs.Common.{◌≡◌, ℕ, ◌^◌, true, Some, List, [], ◌++◌, length, refl, sym, ap, subst, ◌∙◌, append_assoc, arith}
use Rattle.std.specs.Prelude.{◌&&◌, All}
use Rattle.std.specs.Int.{w32}
use Rattle.std.specs.List.{flat_map}
use Rattle.std.proofs.lemmas.Bool.{and_parts}
use Rattle.std.proofs.lemmas.List.Elements.{All-from_recursion, recursion_from_All}
use Rattle.std.proofs.lemmas.Option.{cond_some, option_and_then_some, same_Some, some_pair_parts}
use Rattle.delta.specs.Operation.{Operation, is_bounded, is_bounded-Decides}
use Rattle.journal.specs.Spelling.{number}
use Rattle.journal.specs.DeltaSpelling.{operation, delta}
use Rattle.revision.specs.Spellable.{IsOperation, IsSpellable}
use Rattle.journal.specs.steps.Reading.{number_at}
use Rattle.journal.specs.steps.DeltaReading.{operations_at, is_normal, delta_of, delta_at}
use Rattle.journal.proofs.Numbers.{IsBytes, Takes, Takes-then, number32, number_takes, number_again}
use Rattle.journal.proofs.ReadOperations.{operations_take, operations_again}

-- a delta that is read is spelled so
pub delta_takes : (bytes : List ℕ) (x : List Operation × List ℕ) → IsBytes bytes → delta_at bytes ≡ Some x → Takes bytes (delta x.0) x.1 × IsSpellable x.0
unfolding delta_at delta_of delta
delta_takes bytes x fit e =
    option_and_then_some _ (number_at w32 bytes) x e (λ count e1 k1.
    option_and_then_some _ (operations_at count.0 [] count.1) x k1 (λ read e2 k2.
    option_and_then_some (λ (ops : List Operation). Some (ops, read.1)) (delta_of read.0) x k2 (λ ops e3 made.
    let t = number_takes w32 (2 ^ 32) number32 bytes count fit e1 in
    let u = operations_take count.0 [] count.1 read t.0.rest_fits e2 in
    let g = cond_some (is_normal read.0 && is_bounded read.0) read.0 ops e3 in
    let tests = and_parts (is_normal read.0) (is_bounded read.0) g.0 in
    let whole : Takes bytes (number w32 (length u.more) ++ flat_map operation u.more) read.1 = rw u.counted (Takes-then t.0 u.parts) in
    let is : IsSpellable read.0 = record {
      normal = tests.0;
      bounded = (is_bounded-Decides read.0).0 tests.1;
      count = omega (arith, u.counted, t.1, ap length u.all);
      each = subst (λ (all : List Operation). All IsOperation all) (sym u.all) (All-from_recursion IsOperation u.more u.each);
    } in
    subst (λ (y : List Operation × List ℕ). Takes bytes (number w32 (length y.0) ++ flat_map operation y.0) y.1 × IsSpellable y.0) (same_Some _ _ made)
    (subst (λ (all : List Operation). Takes bytes (number w32 (length all) ++ flat_map operation all) read.1 × IsSpellable all) g.1
    (subst (λ (all : List Operation). Takes bytes (number w32 (length all) ++ flat_map operation all) read.1) (sym u.all) whole, is)))))

-- the spelling of a delta is read as that delta
pub delta_again : (ops : List Operation) (rest : List ℕ) → IsSpellable ops → delta_at (delta ops ++ rest) ≡ Some (ops, rest)
unfolding delta_at delta_of delta
delta_again ops rest is =
    let within : is_bounded ops ≡ true = (is_bounded-Decides ops).1 is.bounded in
    let normal : is_normal ops ≡ true = is.normal in
    rw (append_assoc (number w32 (length ops)) (flat_map operation ops) rest, number_again w32 (2 ^ 32) number32 (length ops) (flat_map operation ops ++ rest) is.count, operations_again ops [] rest (recursion_from_All IsOperation ops is.each), normal, within) refl

-- spellings that begin one list are of one delta
pub delta-append_same : (a b : List Operation) (x y : List ℕ) → IsSpellable a → IsSpellable b → delta a ++ x ≡ delta b ++ y → (a ≡ b) × (x ≡ y)
delta-append_same a b x y is_a is_b same = some_pair_parts a b x y (sym (delta_again a x is_a) ∙ ap delta_at same ∙ delta_again b y is_b)
