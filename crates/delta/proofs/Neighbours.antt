-- Merged and ordered lists of operations: which may stand before which, and that spelling makes and keeps such lists.
use Rattle.std.proofs.Common.{◌≡◌, ℕ, zero, suc, ◌+◌, ◌<◌, Bool, true, false, cond, List, [], ◌∷◌, ◌++◌, refl, ap, ◌∙◌}
use Rattle.std.specs.Prelude.{IsTrue, not, ◌&&◌, is_none, Some, None, nat_lt}
use Rattle.std.proofs.lemmas.Bool.{and_parts, and_from, ltb-true, lt-ltb, false≢true}
use Rattle.attributes.specs.Attributes.{Attributes, Changes, same_attributes, same_changes}
use Rattle.delta.specs.Element.{letters}
use Rattle.delta.specs.Operation.{Operation, insert_text, insert_embed, retain, delete, op_len}
use Rattle.delta.specs.Gaps.{Gaps, Del, Keep, run}
pub use Rattle.delta.specs.Normal.{may_lead, is_apart_text, is_apart_retain, is_apart_delete}
use Rattle.delta.specs.Normal.{may_precede, is_built, spell_unit, spell_inserts, spell_fate, spelled}
pub use Rattle.delta.proofs.Folding.{spell_keep-retain as spell_keep-same, spell_unit-text as spell_unit-same}

chosen_none : {X : Type 0} (t : Bool) (x : X) → (is_none (cond t (Some x) None) && true) ≡ not t
chosen_none true x = refl
chosen_none false x = refl

pub may_lead-text : (us : List ℕ) (a : Attributes) (ops : List Operation) → may_lead (insert_text us a) ops ≡ is_apart_text a ops
may_lead-text us a [] = refl
may_lead-text us a (insert_text vs b ∷ ops) = chosen_none (same_attributes a b) (insert_text (us ++ vs) a)
may_lead-text us a (insert_embed key value b ∷ ops) = refl
may_lead-text us a (retain n c ∷ ops) = refl
may_lead-text us a (delete n ∷ ops) = refl

pub may_lead-embed : (key : List ℕ) (value : Rattle.attributes.specs.Scalar.Scalar) (a : Attributes) (ops : List Operation) → may_lead (insert_embed key value a) ops ≡ true
may_lead-embed key value a [] = refl
may_lead-embed key value a (insert_text vs b ∷ ops) = refl
may_lead-embed key value a (insert_embed other w b ∷ ops) = refl
may_lead-embed key value a (retain n c ∷ ops) = refl
may_lead-embed key value a (delete n ∷ ops) = refl

pub may_lead-retain : (m : ℕ) (c : Changes) (ops : List Operation) → may_lead (retain m c) ops ≡ is_apart_retain c ops
may_lead-retain m c [] = refl
may_lead-retain m c (insert_text vs b ∷ ops) = refl
may_lead-retain m c (insert_embed key value b ∷ ops) = refl
may_lead-retain m c (retain n d ∷ ops) = chosen_none (same_changes c d) (retain (m + n) c)
may_lead-retain m c (delete n ∷ ops) = refl

pub may_lead-delete : (m : ℕ) (ops : List Operation) → may_lead (delete m) ops ≡ is_apart_delete ops
may_lead-delete m [] = refl
may_lead-delete m (insert_text vs b ∷ ops) = refl
may_lead-delete m (insert_embed key value b ∷ ops) = refl
may_lead-delete m (retain n d ∷ ops) = refl
may_lead-delete m (delete n ∷ ops) = refl

-- the parts of being built
pub built-parts : (op : Operation) (ops : List Operation) → IsTrue (is_built (op ∷ ops)) → (0 < op_len op) × IsTrue (may_lead op ops) × IsTrue (is_built ops)
built-parts op [] h = (ltb-true 0 (op_len op) h, refl, refl)
built-parts op (next ∷ ops) h =
    let parts = and_parts (nat_lt 0 (op_len op)) _ h in
    let rest = and_parts (may_precede op next) _ parts.1 in
    (ltb-true 0 (op_len op) parts.0, rest.0, rest.1)

pub built-from : (op : Operation) (ops : List Operation) → 0 < op_len op → IsTrue (may_lead op ops) → IsTrue (is_built ops) → IsTrue (is_built (op ∷ ops))
built-from op [] long lead rest = lt-ltb 0 (op_len op) long
built-from op (next ∷ ops) long lead rest =
    and_from (nat_lt 0 (op_len op)) _ (lt-ltb 0 (op_len op) long) (and_from (may_precede op next) _ lead rest)

-- spelling one more unit of text, where it fits and where not
pub spell_unit-apart : (u : ℕ) (a : Attributes) (ops : List Operation) → IsTrue (is_apart_text a ops) → spell_unit u a ops ≡ insert_text (u ∷ []) a ∷ ops
spell_unit-apart u a [] h = refl
spell_unit-apart u a (insert_text vs b ∷ ops) h =
    elim (same_attributes a b) as (λ t. IsTrue (not t)
    → cond t (insert_text (u ∷ vs) b ∷ ops) (insert_text (u ∷ []) a ∷ insert_text vs b ∷ ops) ≡ insert_text (u ∷ []) a ∷ insert_text vs b ∷ ops) [
      | true ↦ λ e. absurd (false≢true e)
      | false ↦ λ e. refl
    ] h
spell_unit-apart u a (insert_embed key value b ∷ ops) h = refl
spell_unit-apart u a (retain n c ∷ ops) h = refl
spell_unit-apart u a (delete n ∷ ops) h = refl

-- a text is spelled in one where nothing after it fits
pub spell-letters : (u : ℕ) (us : List ℕ) (a : Attributes) (ops : List Operation) → IsTrue (is_apart_text a ops) → spell_inserts (letters (u ∷ us) a) ops ≡ insert_text (u ∷ us) a ∷ ops
spell-letters u [] a ops h = spell_unit-apart u a ops h
spell-letters u (v ∷ us) a ops h = ap (spell_unit u a) (spell-letters v us a ops h) ∙ spell_unit-same u (v ∷ us) a ops

-- spelling one more kept unit, and one more deleted one
pub spell_keep-apart : (c : Changes) (ops : List Operation) → IsTrue (is_apart_retain c ops) → spell_fate (Keep c) ops ≡ retain 1 c ∷ ops
spell_keep-apart c [] h = refl
spell_keep-apart c (insert_text vs b ∷ ops) h = refl
spell_keep-apart c (insert_embed key value b ∷ ops) h = refl
spell_keep-apart c (retain n d ∷ ops) h =
    elim (same_changes c d) as (λ t. IsTrue (not t) → cond t (retain (suc n) d ∷ ops) (retain 1 c ∷ retain n d ∷ ops) ≡ retain 1 c ∷ retain n d ∷ ops) [
      | true ↦ λ e. absurd (false≢true e)
      | false ↦ λ e. refl
    ] h
spell_keep-apart c (delete n ∷ ops) h = refl

pub spell_delete-apart : (ops : List Operation) → IsTrue (is_apart_delete ops) → spell_fate Del ops ≡ delete 1 ∷ ops
spell_delete-apart [] h = refl
spell_delete-apart (insert_text vs b ∷ ops) h = refl
spell_delete-apart (insert_embed key value b ∷ ops) h = refl
spell_delete-apart (retain n d ∷ ops) h = refl
spell_delete-apart (delete n ∷ ops) h = absurd (false≢true h)

-- a run is spelled in one where nothing after it fits
pub spelled-keeps : (n : ℕ) (c : Changes) (g : Gaps) → IsTrue (is_apart_retain c (spelled g)) → spelled (run (suc n) (Keep c) g) ≡ retain (suc n) c ∷ spelled g
spelled-keeps zero c g h = spell_keep-apart c (spelled g) h
spelled-keeps (suc n) c g h = ap (spell_fate (Keep c)) (spelled-keeps n c g h) ∙ spell_keep-same (suc n) c (spelled g)

pub spelled-deletes : (n : ℕ) (g : Gaps) → IsTrue (is_apart_delete (spelled g)) → spelled (run (suc n) Del g) ≡ delete (suc n) ∷ spelled g
spelled-deletes zero g h = spell_delete-apart (spelled g) h
spelled-deletes (suc n) g h = ap (spell_fate Del) (spelled-deletes n g h)
