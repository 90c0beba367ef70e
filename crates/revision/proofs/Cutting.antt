-- Sources with their last numbers alone.
use Rattle.std.proofs.Common.{◌≡◌, ℕ, ◌+◌, ◌-◌, ◌*◌, true, List, [], ◌∷◌, length, map, T, refl, sym, ◌∙◌, ap, ap₂, subst, arith}
use Rattle.std.specs.Prelude.{◌&&◌}
use Rattle.std.specs.Ordering.{is_lt}
use Rattle.std.specs.FinMap.Entries.{is_sorted, below_all}
use Rattle.std.proofs.lemmas.Bool.{and_parts, and_from, le-leb, lt-ltb}
use Rattle.attributes.specs.Map.{by_bytes}
use Rattle.revision.specs.Name.{is_source_name}
use Rattle.revision.specs.Window.{Window, last_revision}
use Rattle.revision.specs.Sources.{are_named, cut}
use Rattle.revision.specs.State.{is_window, are_sources, window_weight}
use Rattle.revision.specs.Retries.{CutStays, CutWeighs}
use Rattle.revision.proofs.Windows.{window-parts, window-from, last-within, last-above}

pub named-cut : (es : List (List ℕ × Window)) → are_named (map cut es) ≡ are_named es
named-cut [] = refl
named-cut (e ∷ es) = ap (λ b. is_source_name e.0 && b) (named-cut es)

below-cut : (name : List ℕ) (es : List (List ℕ × Window)) → below_all by_bytes name (map cut es) ≡ below_all by_bytes name es
below-cut name [] = refl
below-cut name (e ∷ es) = ap (λ b. is_lt (by_bytes name e.0) && b) (below-cut name es)

sorted-cut : (es : List (List ℕ × Window)) → is_sorted by_bytes (map cut es) ≡ is_sorted by_bytes es
sorted-cut [] = refl
sorted-cut (e ∷ es) = ap₂ (λ a b. a && b) (below-cut e.0 es) (sorted-cut es)

-- they are in order still
pub ascending-cut : (es list : List (List ℕ × Window)) → list ≡ map cut es → T (is_sorted by_bytes es) → T (is_sorted by_bytes list)
ascending-cut es list is sorted = subst (λ l. T (is_sorted by_bytes l)) (sym is) (subst (λ b. T b) (sym (sorted-cut es)) sorted)

-- the last number is one that a source may have still
window-cut : (revision : ℕ) (source : List ℕ × Window) → is_window revision source.1 ≡ true → is_window revision (cut source).1 ≡ true
window-cut revision source is =
    let parts = window-parts revision source.1 is in
    let last = last_revision source.1 in
    window-from revision (cut source).1
    (record {
      some = omega arith;
      short = omega arith;
      numbers = omega (arith, parts.some, parts.numbers);
      last = parts.last;
      ascend = and_from _ _ (and_from _ _ (lt-ltb 0 last (last-above revision source.1 is)) (le-leb last revision (last-within revision source.1 is))) refl;
    })

pub cut_stays : CutStays
cut_stays revision [] is = refl
cut_stays revision (first ∷ others) is =
    let parts = and_parts (is_window revision first.1) (are_sources revision others) is in
    and_from _ _ (window-cut revision first parts.0) (cut_stays revision others parts.1)

pub cut_weighs : CutWeighs
cut_weighs limits free [] low none = refl
cut_weighs limits free (first ∷ others) low none =
    let one : window_weight limits (cut first).1 ≡ 64 = omega (arith, low) in
    let nothing : 64 - 0 + 0 * length first.1.revisions ≡ 64 = omega arith in
    let all : window_weight free first.1 ≡ 64 = ap (λ r. 64 - r + r * length first.1.revisions) none ∙ nothing in
    ap₂ (λ a b. a + b) (one ∙ sym all) (cut_weighs limits free others low none)
