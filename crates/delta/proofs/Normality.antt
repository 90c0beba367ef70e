-- Spelling makes merged and ordered lists, which end with a plain retain where the gap form ends with a kept unit without a change.
use Rattle.std.proofs.Common.{◌≡◌, ℕ, suc, Bool, true, false, cond, List, [], ◌∷◌, refl, sym, ◌∙◌, arith}
use Rattle.std.specs.Prelude.{IsTrue}
use Rattle.std.proofs.lemmas.Bool.{and_from, true≢false, not_from_false}
use Rattle.attributes.specs.Attributes.{Attributes, Changes, same_attributes, same_changes}
use Rattle.delta.specs.Element.{Element, Item, code_unit, embed}
use Rattle.delta.specs.Operation.{Operation, insert_text, insert_embed, retain, delete, is_insert, is_plain}
use Rattle.delta.specs.Gaps.{Gaps, End, Gap, Fate, Del, Keep}
use Rattle.delta.specs.Normal.{is_built, ends_plain, IsNormal, spell_unit, spell_item, spell_inserts, spell_fate, spelled, settled, trimmed, nf}
use Rattle.delta.proofs.Settling.{IsBare, IsSettled, ends_kept, IsSettled-settled, IsSettled-trimmed, ends_kept-trimmed}
use Rattle.delta.proofs.Neighbours.{may_lead-text, may_lead-embed, may_lead-retain, may_lead-delete, built-parts, built-from}

-- one more unit before a merged list
built-spell_unit : (u : ℕ) (a : Attributes) (ops : List Operation) → IsTrue (is_built ops) → IsTrue (is_built (spell_unit u a ops))
built-spell_unit u a [] h = refl
built-spell_unit u a (insert_text us b ∷ ops) h =
    let parts = built-parts (insert_text us b) ops h in
    elim (same_attributes a b) as (λ t. same_attributes a b ≡ t → IsTrue (is_built (cond t (insert_text (u ∷ us) b ∷ ops) (insert_text (u ∷ []) a ∷ insert_text us b ∷ ops)))) [
      | true ↦ λ e. built-from (insert_text (u ∷ us) b) ops (omega arith) (may_lead-text (u ∷ us) b ops ∙ (sym (may_lead-text us b ops) ∙ parts.1)) parts.2
      | false ↦ λ e. built-from (insert_text (u ∷ []) a) (insert_text us b ∷ ops) (omega arith) (may_lead-text (u ∷ []) a (insert_text us b ∷ ops) ∙ not_from_false (same_attributes a b) e) h
    ] refl
built-spell_unit u a (insert_embed key value b ∷ ops) h = built-from (insert_text (u ∷ []) a) (insert_embed key value b ∷ ops) (omega arith) refl h
built-spell_unit u a (retain n c ∷ ops) h = built-from (insert_text (u ∷ []) a) (retain n c ∷ ops) (omega arith) refl h
built-spell_unit u a (delete n ∷ ops) h = built-from (insert_text (u ∷ []) a) (delete n ∷ ops) (omega arith) refl h

built-spell_item : (i : Item) (a : Attributes) (ops : List Operation) → IsTrue (is_built ops) → IsTrue (is_built (spell_item i a ops))
built-spell_item (code_unit u) a ops h = built-spell_unit u a ops h
built-spell_item (embed key value) a ops h = built-from (insert_embed key value a) ops (omega arith) (may_lead-embed key value a ops) h

pub built-spell_inserts : (xs : List Element) (ops : List Operation) → IsTrue (is_built ops) → IsTrue (is_built (spell_inserts xs ops))
built-spell_inserts [] ops h = h
built-spell_inserts (x ∷ xs) ops h = built-spell_item x.item x.attributes (spell_inserts xs ops) (built-spell_inserts xs ops h)

pub built-spell_keep : (c : Changes) (ops : List Operation) → IsTrue (is_built ops) → IsTrue (is_built (spell_fate (Keep c) ops))
built-spell_keep c [] h = refl
built-spell_keep c (retain n d ∷ ops) h =
    let parts = built-parts (retain n d) ops h in
    elim (same_changes c d) as (λ t. same_changes c d ≡ t → IsTrue (is_built (cond t (retain (suc n) d ∷ ops) (retain 1 c ∷ retain n d ∷ ops)))) [
      | true ↦ λ e. built-from (retain (suc n) d) ops (omega arith) (may_lead-retain (suc n) d ops ∙ (sym (may_lead-retain n d ops) ∙ parts.1)) parts.2
      | false ↦ λ e. built-from (retain 1 c) (retain n d ∷ ops) (omega arith) (may_lead-retain 1 c (retain n d ∷ ops) ∙ not_from_false (same_changes c d) e) h
    ] refl
built-spell_keep c (insert_text us a ∷ ops) h = built-from (retain 1 c) (insert_text us a ∷ ops) (omega arith) refl h
built-spell_keep c (insert_embed key value a ∷ ops) h = built-from (retain 1 c) (insert_embed key value a ∷ ops) (omega arith) refl h
built-spell_keep c (delete n ∷ ops) h = built-from (retain 1 c) (delete n ∷ ops) (omega arith) refl h

-- the first operation is an insert
abbrev pub opens_insert : List Operation → Bool
opens_insert [] = false
opens_insert (op ∷ ops) = is_insert op

pub built-spell_delete : (ops : List Operation) → IsTrue (is_built ops) → opens_insert ops ≡ false → IsTrue (is_built (spell_fate Del ops))
built-spell_delete [] h closed = refl
built-spell_delete (delete n ∷ ops) h closed =
    let parts = built-parts (delete n) ops h in
    built-from (delete (suc n)) ops (omega arith) (may_lead-delete (suc n) ops ∙ (sym (may_lead-delete n ops) ∙ parts.1)) parts.2
built-spell_delete (insert_text us a ∷ ops) h closed = absurd (true≢false closed)
built-spell_delete (insert_embed key value a ∷ ops) h closed = absurd (true≢false closed)
built-spell_delete (retain n c ∷ ops) h closed = built-from (delete 1) (retain n c ∷ ops) (omega arith) refl h

opens_insert-spell_fate : (f : Fate) (ops : List Operation) → opens_insert (spell_fate f ops) ≡ false
opens_insert-spell_fate (Keep c) [] = refl
opens_insert-spell_fate (Keep c) (retain n d ∷ ops) =
    elim (same_changes c d) as (λ t. opens_insert (cond t (retain (suc n) d ∷ ops) (retain 1 c ∷ retain n d ∷ ops)) ≡ false) [ true ↦ refl | false ↦ refl ]
opens_insert-spell_fate (Keep c) (insert_text us a ∷ ops) = refl
opens_insert-spell_fate (Keep c) (insert_embed key value a ∷ ops) = refl
opens_insert-spell_fate (Keep c) (delete n ∷ ops) = refl
opens_insert-spell_fate Del [] = refl
opens_insert-spell_fate Del (delete n ∷ ops) = refl
opens_insert-spell_fate Del (insert_text us a ∷ ops) = refl
opens_insert-spell_fate Del (insert_embed key value a ∷ ops) = refl
opens_insert-spell_fate Del (retain n c ∷ ops) = refl

pub opens_insert-spelled : (g : Gaps) → IsBare g → opens_insert (spelled g) ≡ false
opens_insert-spelled (End []) h = refl
opens_insert-spelled (End (x ∷ xs)) h = absurd h
opens_insert-spelled (Gap [] f g) h = opens_insert-spell_fate f (spelled g)
opens_insert-spelled (Gap (x ∷ xs) f g) h = absurd h

-- a settled gap form is spelled by a merged and ordered list
pub built-spelled : (g : Gaps) → IsSettled g → IsTrue (is_built (spelled g))
built-spelled (End xs) h = built-spell_inserts xs [] refl
built-spelled (Gap xs (Keep c) g) h = built-spell_inserts xs (spell_fate (Keep c) (spelled g)) (built-spell_keep c (spelled g) (built-spelled g h))
built-spelled (Gap xs Del g) h =
    built-spell_inserts xs (spell_fate Del (spelled g)) (built-spell_delete (spelled g) (built-spelled g h.1) (opens_insert-spelled g h.0))

-- how it ends
ends-plain_alike : (op other : Operation) (ops : List Operation) → is_plain op ≡ is_plain other → ends_plain (op ∷ ops) ≡ ends_plain (other ∷ ops)
ends-plain_alike op other [] same = same
ends-plain_alike op other (next ∷ ops) same = refl

ends-insert : (op : Operation) (ops : List Operation) → is_plain op ≡ false → ends_plain (op ∷ ops) ≡ ends_plain ops
ends-insert op [] other = other
ends-insert op (next ∷ ops) other = refl

ends-spell_unit : (u : ℕ) (a : Attributes) (ops : List Operation) → ends_plain (spell_unit u a ops) ≡ ends_plain ops
ends-spell_unit u a [] = refl
ends-spell_unit u a (insert_text us b ∷ ops) =
    elim (same_attributes a b) as (λ t. ends_plain (cond t (insert_text (u ∷ us) b ∷ ops) (insert_text (u ∷ []) a ∷ insert_text us b ∷ ops)) ≡ ends_plain (insert_text us b ∷ ops)) [
      | true ↦ ends-plain_alike (insert_text (u ∷ us) b) (insert_text us b) ops refl
      | false ↦ refl
    ]
ends-spell_unit u a (insert_embed key value b ∷ ops) = refl
ends-spell_unit u a (retain n c ∷ ops) = refl
ends-spell_unit u a (delete n ∷ ops) = refl

ends-spell_item : (i : Item) (a : Attributes) (ops : List Operation) → ends_plain (spell_item i a ops) ≡ ends_plain ops
ends-spell_item (code_unit u) a ops = ends-spell_unit u a ops
ends-spell_item (embed key value) a ops = ends-insert (insert_embed key value a) ops refl

ends-spell_inserts : (xs : List Element) (ops : List Operation) → ends_plain (spell_inserts xs ops) ≡ ends_plain ops
ends-spell_inserts [] ops = refl
ends-spell_inserts (x ∷ xs) ops = ends-spell_item x.item x.attributes (spell_inserts xs ops) ∙ ends-spell_inserts xs ops

ends-spell_delete : (ops : List Operation) → ends_plain (spell_fate Del ops) ≡ ends_plain ops
ends-spell_delete [] = refl
ends-spell_delete (delete n ∷ ops) = ends-plain_alike (delete (suc n)) (delete n) ops refl
ends-spell_delete (insert_text us a ∷ ops) = refl
ends-spell_delete (insert_embed key value a ∷ ops) = refl
ends-spell_delete (retain n c ∷ ops) = refl

-- there is an operation
abbrev IsFull : List Operation → Type 0
IsFull [] = ⊥
IsFull (op ∷ ops) = Unit {0}

ends-spell_keep : (c : Changes) (ops : List Operation) → IsFull ops → ends_plain (spell_fate (Keep c) ops) ≡ ends_plain ops
ends-spell_keep c [] full = absurd full
ends-spell_keep c (retain n d ∷ ops) full =
    elim (same_changes c d) as (λ t. ends_plain (cond t (retain (suc n) d ∷ ops) (retain 1 c ∷ retain n d ∷ ops)) ≡ ends_plain (retain n d ∷ ops)) [
      | true ↦ ends-plain_alike (retain (suc n) d) (retain n d) ops refl
      | false ↦ refl
    ]
ends-spell_keep c (insert_text us a ∷ ops) full = refl
ends-spell_keep c (insert_embed key value a ∷ ops) full = refl
ends-spell_keep c (delete n ∷ ops) full = refl

full-spell_unit : (u : ℕ) (a : Attributes) (ops : List Operation) → IsFull (spell_unit u a ops)
full-spell_unit u a [] = tt
full-spell_unit u a (insert_text us b ∷ ops) =
    elim (same_attributes a b) as (λ t. IsFull (cond t (insert_text (u ∷ us) b ∷ ops) (insert_text (u ∷ []) a ∷ insert_text us b ∷ ops))) [ true ↦ tt | false ↦ tt ]
full-spell_unit u a (insert_embed key value b ∷ ops) = tt
full-spell_unit u a (retain n c ∷ ops) = tt
full-spell_unit u a (delete n ∷ ops) = tt

full-spell_item : (i : Item) (a : Attributes) (ops : List Operation) → IsFull (spell_item i a ops)
full-spell_item (code_unit u) a ops = full-spell_unit u a ops
full-spell_item (embed key value) a ops = tt

full-spell_fate : (f : Fate) (ops : List Operation) → IsFull (spell_fate f ops)
full-spell_fate (Keep c) [] = tt
full-spell_fate (Keep c) (retain n d ∷ ops) =
    elim (same_changes c d) as (λ t. IsFull (cond t (retain (suc n) d ∷ ops) (retain 1 c ∷ retain n d ∷ ops))) [ true ↦ tt | false ↦ tt ]
full-spell_fate (Keep c) (insert_text us a ∷ ops) = tt
full-spell_fate (Keep c) (insert_embed key value a ∷ ops) = tt
full-spell_fate (Keep c) (delete n ∷ ops) = tt
full-spell_fate Del [] = tt
full-spell_fate Del (delete n ∷ ops) = tt
full-spell_fate Del (insert_text us a ∷ ops) = tt
full-spell_fate Del (insert_embed key value a ∷ ops) = tt
full-spell_fate Del (retain n c ∷ ops) = tt

full-spell_inserts : (xs : List Element) (f : Fate) (ops : List Operation) → IsFull (spell_inserts xs (spell_fate f ops))
full-spell_inserts [] f ops = full-spell_fate f ops
full-spell_inserts (x ∷ xs) f ops = full-spell_item x.item x.attributes (spell_inserts xs (spell_fate f ops))

ends-spelled_fate : (xs : List Element) (f : Fate) (g : Gaps) → ends_plain (spelled g) ≡ ends_kept g → ends_plain (spell_fate f (spelled g)) ≡ ends_kept (Gap xs f g)
ends-spelled_fate xs Del g rest = ends-spell_delete (spelled g) ∙ rest
ends-spelled_fate xs (Keep c) (End []) rest = refl
ends-spelled_fate xs (Keep c) (End (y ∷ ys)) rest =
    ends-spell_keep c (spelled (End (y ∷ ys))) (full-spell_item y.item y.attributes (spell_inserts ys [])) ∙ rest
ends-spelled_fate xs (Keep c) (Gap ys f g) rest =
    ends-spell_keep c (spelled (Gap ys f g)) (full-spell_inserts ys f (spelled g)) ∙ rest

pub ends-spelled : (g : Gaps) → ends_plain (spelled g) ≡ ends_kept g
ends-spelled (End xs) = ends-spell_inserts xs []
ends-spelled (Gap xs f g) = ends-spell_inserts xs (spell_fate f (spelled g)) ∙ ends-spelled_fate xs f g (ends-spelled g)

-- the built form is built, and the normal form is normal
pub built-spelled_settled : (g : Gaps) → IsTrue (is_built (spelled (settled g)))
built-spelled_settled g = built-spelled (settled g) (IsSettled-settled g)

pub IsNormal-nf : (g : Gaps) → IsNormal (nf g)
IsNormal-nf g =
    and_from (is_built (nf g)) _ (built-spelled (trimmed (settled g)) (IsSettled-trimmed (settled g) (IsSettled-settled g)))
    (not_from_false (ends_plain (nf g)) (ends-spelled (trimmed (settled g)) ∙ ends_kept-trimmed (settled g)))
