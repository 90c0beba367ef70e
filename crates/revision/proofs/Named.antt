-- The names of sources, once one was noted or dropped.
use Rattle.std.proofs.Common.{◌≡◌, ℕ, Bool, true, false, cond, List, [], ◌∷◌, Some, refl, sym, subst}
use Rattle.std.specs.declared.cmp.Ordering.TheVariants.{Less, Equal, Greater}
use Rattle.std.specs.Ordering.{eq_by_cmp}
use Rattle.std.specs.FinMap.Entries.{find, put, by_order, where_key}
use Rattle.std.proofs.lemmas.Bool.{and_parts, and_from}
use Rattle.attributes.specs.Map.{by_bytes, insert, remove, retain}
use Rattle.attributes.proofs.CallerLemmas.{same_name_from}
use Rattle.revision.specs.Name.{is_source_name}
use Rattle.revision.specs.Window.{Window}
use Rattle.revision.specs.Sources.{Sources, are_named}

named-put : (source : List ℕ) (window : Window) (entries : List (List ℕ × Window)) → is_source_name source ≡ true → are_named entries ≡ true
    → are_named (put by_bytes source window entries) ≡ true
named-put source window [] is h = and_from _ _ is refl
named-put source window (first ∷ others) is h =
    let parts = and_parts (is_source_name first.0) (are_named others) h in
    elim (by_bytes source first.0) as (λ o. are_named (by_order o ((source, window) ∷ first ∷ others) ((first.0, window) ∷ others) (first ∷ put by_bytes source window others)) ≡ true) [
      | Less ↦ and_from _ _ is h
      | Equal ↦ and_from _ _ parts.0 parts.1
      | Greater ↦ and_from _ _ parts.0 (named-put source window others is parts.1)
    ]

pub named-insert : (source : List ℕ) (window : Window) (sources : Sources) → is_source_name source ≡ true → are_named sources.entries ≡ true
    → are_named (insert sources source window).entries ≡ true
unfolding insert
named-insert source window sources is h = named-put source window sources.entries is h

named-kept : (test : List ℕ → Bool) (entries : List (List ℕ × Window)) → are_named entries ≡ true → are_named (where_key by_bytes test entries) ≡ true
named-kept test [] h = refl
named-kept test (first ∷ others) h =
    let parts = and_parts (is_source_name first.0) (are_named others) h in
    elim (test first.0) as (λ b. are_named (cond b (first ∷ where_key by_bytes test others) (where_key by_bytes test others)) ≡ true) [
      | true ↦ and_from _ _ parts.0 (named-kept test others parts.1)
      | false ↦ named-kept test others parts.1
    ]

pub named-remove : (source : List ℕ) (sources : Sources) → are_named sources.entries ≡ true → are_named (remove sources source).entries ≡ true
unfolding retain
named-remove source sources h = named-kept _ sources.entries h

-- of one that is there
pub named-found : (source : List ℕ) (window : Window) (entries : List (List ℕ × Window)) → are_named entries ≡ true
    → find by_bytes source entries ≡ Some window → is_source_name source ≡ true
named-found source window [] h found = absurd (cc)
named-found source window (first ∷ others) h found =
    let parts = and_parts (is_source_name first.0) (are_named others) h in
    elim (eq_by_cmp by_bytes source first.0) as (λ b. eq_by_cmp by_bytes source first.0 ≡ b → cond b (Some first.1) (find by_bytes source others) ≡ Some window → is_source_name source ≡ true) [
      | true ↦ λ same _. subst (λ n. is_source_name n ≡ true) (sym (same_name_from source first.0 same)) parts.0
      | false ↦ λ _ rest. named-found source window others parts.1 rest
    ] refl found
