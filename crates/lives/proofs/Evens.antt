-- The parts of an order: what is settled of it, and what is taken off beyond that.
use Rattle.std.proofs.Common.{◌≡◌, ◌≤◌, ℕ, ◌+◌, ◌-◌, List, [], ◌∷◌, ◌++◌, length, take, drop, sym, ◌∙◌, ap, arith, append-nil, length-take, length-drop}
use Rattle.std.proofs.lemmas.List.{take-append-le, drop-append-le, length-take-le, take-map, drop-map}
use Rattle.std.proofs.Math.Seq.{take-add}
use Rattle.revision.specs.Command.{Taken}
use Rattle.recovery.specs.Found.{commands_of}
use Rattle.world.specs.World.{Entry, takens}
use Rattle.flusher.specs.Batches.{AreParts}
use Rattle.flusher.proofs.CallerLemmas.{commands-append}
pub use Rattle.published.proofs.CallerLemmas.{takens_long as takens_length}

module _ (order : List Taken) (settled taken : ℕ) (ordered : settled ≤ taken) (within : taken ≤ length order) where
  -- as many commands were published as are settled
  pub told_length : (told rest : List (List Taken)) → AreParts order settled taken told rest → length (commands_of told) ≡ settled
  told_length told rest parts = ap length parts.published ∙ length-take-le settled order (omega arith)

  -- where nothing is left to publish, all that was taken off is settled
  pub all_settled : (told : List (List Taken)) → AreParts order settled taken told [] → settled ≡ taken
  all_settled told parts = omega (arith, ap length parts.unpublished, length-take {A = Taken} (taken - settled) (drop settled order), length-drop {A = Taken} settled order)

  -- all batches are the order as far as it is taken off
  pub all_batches : (told rest : List (List Taken)) → AreParts order settled taken told rest → commands_of (told ++ rest) ≡ take taken order
  all_batches told rest parts =
      commands-append told rest ∙ ap (λ (l : List Taken). l ++ commands_of rest) parts.published ∙ ap (λ (l : List Taken). take settled order ++ l) parts.unpublished
      ∙ sym (take-add settled (taken - settled) order) ∙ ap (λ (n : ℕ). take n order) (omega arith)

  -- commands behind the order change nothing
  pub parts_longer : (more : List Taken) (told rest : List (List Taken)) → AreParts order settled taken told rest → AreParts (order ++ more) settled taken told rest
  parts_longer more told rest parts = record {
    published = parts.published ∙ sym (take-append-le settled order more (omega arith));
    unpublished = parts.unpublished ∙ sym (ap (take (taken - settled)) (drop-append-le settled order more (omega arith))
        ∙ take-append-le (taken - settled) (drop settled order) more (omega (arith, length-drop {A = Taken} settled order)));
  }

  -- a run that is taken off is what is left to publish
  pub parts_taken : (run : List Taken) (count : ℕ) (told : List (List Taken)) → run ≡ take count (drop taken order) → AreParts order settled taken told []
      → AreParts order settled (taken + count) told (run ∷ [])
  parts_taken run count told is parts =
      let same = all_settled told parts in
      record {
        published = parts.published;
        unpublished = append-nil run ∙ is ∙ ap (λ (n : ℕ). take count (drop n order)) (sym same) ∙ ap (λ (n : ℕ). take n (drop settled order)) (omega (arith, same));
      }

  -- once it is published and settled, nothing is
  pub parts_settled : (run : List Taken) (count : ℕ) (told : List (List Taken)) → run ≡ take count (drop taken order) → AreParts order settled taken told []
      → AreParts order (settled + count) (taken + count) (told ++ run ∷ []) []
  parts_settled run count told is parts =
      let same = all_settled told parts in
      let none : (taken + count) - (settled + count) ≡ 0 = omega (arith, same) in
      record {
        published = commands-append told (run ∷ []) ∙ ap (λ (l : List Taken). commands_of told ++ l) (append-nil run) ∙ ap (λ (l : List Taken). l ++ run) parts.published
            ∙ ap (λ (l : List Taken). take settled order ++ l) (is ∙ ap (λ (n : ℕ). take count (drop n order)) (sym same)) ∙ sym (take-add settled count order);
        unpublished = sym (ap (λ (n : ℕ). take n (drop (settled + count) order)) none);
      }

-- the run that comes next, as what was taken of its entries
pub run_taken : (entries : List Entry) (taken count : ℕ) → takens (take count (drop taken entries)) ≡ take count (drop taken (takens entries))
run_taken entries taken count = sym (take-map (λ (e : Entry). e.taken) count (drop taken entries)) ∙ ap (take count) (sym (drop-map (λ (e : Entry). e.taken) taken entries))
