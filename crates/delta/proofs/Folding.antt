-- Built lists, one operation after another from the front.
use Rattle.std.proofs.Common.{◌≡◌, ℕ, zero, suc, ◌+◌, ◌<◌, true, false, ◌&&◌, cond, List, [], ◌∷◌, ◌++◌, Some, None, refl, sym, ap, ◌∙◌, arith}
use Rattle.std.proofs.Math.Numerals.{one-add}
use Rattle.std.specs.Prelude.{if◌then◌else◌}
use Rattle.attributes.specs.Attributes.{Attributes, Changes, same_attributes, same_changes, same_attributes-Decides, same_changes-Decides}
use Rattle.attributes.specs.Scalar.{Scalar}
use Rattle.delta.specs.Element.{Element, Item, code_unit, embed, letters, embedded}
use Rattle.delta.specs.Operation.{Operation, insert_text, insert_embed, retain, delete, is_insert, is_delete, merged, op_len}
use Rattle.delta.specs.Gaps.{Gaps, End, Gap, Fate, Del, Keep, front, counted}
use Rattle.delta.specs.Normal.{past, settled, spell_unit, spell_item, spell_inserts, spell_fate, spelled, built}
use Rattle.delta.specs.steps.Building.{neighbours}
use Rattle.delta.proofs.Settling.{settled-front}
use Rattle.delta.proofs.Spellings.{spelled-front}

-- an operation before others, in its place, merged where it can be
abbrev pub consed : Operation → List Operation → List Operation
consed a [] = a ∷ []
consed a (b ∷ r) = if is_delete a && is_insert b then b ∷ consed a r else neighbours (merged a b) a b r

pub same_attributes-refl : (a : Attributes) → same_attributes a a ≡ true
same_attributes-refl a = (same_attributes-Decides a a).1 refl

pub same_changes-refl : (c : Changes) → same_changes c c ≡ true
same_changes-refl c = (same_changes-Decides c c).1 refl

-- texts
pub spell_unit-text : (u : ℕ) (us : List ℕ) (a : Attributes) (r : List Operation) → spell_unit u a (insert_text us a ∷ r) ≡ insert_text (u ∷ us) a ∷ r
spell_unit-text u us a r = rw (same_attributes-refl a)

spell_unit-consed : (u v : ℕ) (us : List ℕ) (a : Attributes) (r : List Operation) → spell_unit u a (consed (insert_text (v ∷ us) a) r) ≡ consed (insert_text (u ∷ v ∷ us) a) r
spell_unit-consed u v us a [] = spell_unit-text u (v ∷ us) a []
spell_unit-consed u v us a (insert_text vs b ∷ r) =
    elim (same_attributes a b) as (λ t. spell_unit u a (neighbours (cond t (Some (insert_text ((v ∷ us) ++ vs) a)) None) (insert_text (v ∷ us) a) (insert_text vs b) r)
    ≡ neighbours (cond t (Some (insert_text ((u ∷ v ∷ us) ++ vs) a)) None) (insert_text (u ∷ v ∷ us) a) (insert_text vs b) r) [
      | true ↦ spell_unit-text u ((v ∷ us) ++ vs) a r
      | false ↦ spell_unit-text u (v ∷ us) a (insert_text vs b ∷ r)
    ]
spell_unit-consed u v us a (insert_embed key value b ∷ r) = spell_unit-text u (v ∷ us) a (insert_embed key value b ∷ r)
spell_unit-consed u v us a (retain n c ∷ r) = spell_unit-text u (v ∷ us) a (retain n c ∷ r)
spell_unit-consed u v us a (delete n ∷ r) = spell_unit-text u (v ∷ us) a (delete n ∷ r)

spell_unit-one : (u : ℕ) (a : Attributes) (r : List Operation) → spell_unit u a r ≡ consed (insert_text (u ∷ []) a) r
spell_unit-one u a [] = refl
spell_unit-one u a (insert_text vs b ∷ r) =
    elim (same_attributes a b) as (λ t. same_attributes a b ≡ t
    → cond t (insert_text (u ∷ vs) b ∷ r) (insert_text (u ∷ []) a ∷ insert_text vs b ∷ r)
    ≡ neighbours (cond t (Some (insert_text ((u ∷ []) ++ vs) a)) None) (insert_text (u ∷ []) a) (insert_text vs b) r) [
      | true ↦ λ e. ap (λ t. insert_text (u ∷ vs) t ∷ r) (sym ((same_attributes-Decides a b).0 e))
      | false ↦ λ e. refl
    ] refl
spell_unit-one u a (insert_embed key value b ∷ r) = refl
spell_unit-one u a (retain n c ∷ r) = refl
spell_unit-one u a (delete n ∷ r) = refl

spell_letters : (u : ℕ) (us : List ℕ) (a : Attributes) (r : List Operation) → spell_inserts (letters (u ∷ us) a) r ≡ consed (insert_text (u ∷ us) a) r
spell_letters u [] a r = spell_unit-one u a r
spell_letters u (v ∷ us) a r = ap (spell_unit u a) (spell_letters v us a r) ∙ spell_unit-consed u v us a r

-- embeds
spell_embed : (key : List ℕ) (value : Scalar) (a : Attributes) (r : List Operation) → insert_embed key value a ∷ r ≡ consed (insert_embed key value a) r
spell_embed key value a [] = refl
spell_embed key value a (insert_text us b ∷ r) = refl
spell_embed key value a (insert_embed key' value' b ∷ r) = refl
spell_embed key value a (retain n c ∷ r) = refl
spell_embed key value a (delete n ∷ r) = refl

-- retains
pub spell_keep-retain : (n : ℕ) (c : Changes) (r : List Operation) → spell_fate (Keep c) (retain n c ∷ r) ≡ retain (suc n) c ∷ r
spell_keep-retain n c r = rw (same_changes-refl c)

spell_keep-one : (c : Changes) (r : List Operation) → spell_fate (Keep c) r ≡ consed (retain 1 c) r
spell_keep-one c [] = refl
spell_keep-one c (retain n d ∷ r) =
    elim (same_changes c d) as (λ t. same_changes c d ≡ t
    → cond t (retain (suc n) d ∷ r) (retain 1 c ∷ retain n d ∷ r) ≡ neighbours (cond t (Some (retain (1 + n) c)) None) (retain 1 c) (retain n d) r) [
      | true ↦ λ e. ap (λ t. retain (suc n) t ∷ r) (sym ((same_changes-Decides c d).0 e)) ∙ ap (λ m. retain m c ∷ r) (sym (one-add n))
      | false ↦ λ e. refl
    ] refl
spell_keep-one c (insert_text us a ∷ r) = refl
spell_keep-one c (insert_embed key value a ∷ r) = refl
spell_keep-one c (delete n ∷ r) = refl

spell_keep-consed : (m : ℕ) (c : Changes) (r : List Operation) → spell_fate (Keep c) (consed (retain m c) r) ≡ consed (retain (suc m) c) r
spell_keep-consed m c [] = spell_keep-retain m c []
spell_keep-consed m c (retain n d ∷ r) =
    elim (same_changes c d) as (λ t. spell_fate (Keep c) (neighbours (cond t (Some (retain (m + n) c)) None) (retain m c) (retain n d) r)
    ≡ neighbours (cond t (Some (retain (suc m + n) c)) None) (retain (suc m) c) (retain n d) r) [
      | true ↦ spell_keep-retain (m + n) c r ∙ ap (λ k. retain k c ∷ r) (omega arith)
      | false ↦ spell_keep-retain m c (retain n d ∷ r)
    ]
spell_keep-consed m c (insert_text us a ∷ r) = spell_keep-retain m c (insert_text us a ∷ r)
spell_keep-consed m c (insert_embed key value a ∷ r) = spell_keep-retain m c (insert_embed key value a ∷ r)
spell_keep-consed m c (delete n ∷ r) = spell_keep-retain m c (delete n ∷ r)

built-retain : (n : ℕ) (c : Changes) (ops : List Operation) → built (retain (suc n) c ∷ ops) ≡ consed (retain (suc n) c) (built ops)
built-retain zero c ops = spell_keep-one c (built ops)
built-retain (suc n) c ops = ap (spell_fate (Keep c)) (built-retain n c ops) ∙ spell_keep-consed (suc n) c (built ops)

-- deletes: one unit more, past the inserts that stand first
deleted : List Operation → List Operation
deleted [] = delete 1 ∷ []
deleted (insert_text us a ∷ r) = insert_text us a ∷ deleted r
deleted (insert_embed key value a ∷ r) = insert_embed key value a ∷ deleted r
deleted (retain n c ∷ r) = delete 1 ∷ retain n c ∷ r
deleted (delete n ∷ r) = delete (suc n) ∷ r

deleted-spell_unit : (u : ℕ) (a : Attributes) (r : List Operation) → deleted (spell_unit u a r) ≡ spell_unit u a (deleted r)
unfolding deleted
deleted-spell_unit u a [] = refl
deleted-spell_unit u a (insert_text us b ∷ r) =
    elim (same_attributes a b) as (λ t. deleted (cond t (insert_text (u ∷ us) b ∷ r) (insert_text (u ∷ []) a ∷ insert_text us b ∷ r))
    ≡ cond t (insert_text (u ∷ us) b ∷ deleted r) (insert_text (u ∷ []) a ∷ insert_text us b ∷ deleted r)) [ true ↦ refl | false ↦ refl ]
deleted-spell_unit u a (insert_embed key value b ∷ r) = refl
deleted-spell_unit u a (retain n c ∷ r) = refl
deleted-spell_unit u a (delete n ∷ r) = refl

deleted-spell_item : (i : Item) (a : Attributes) (r : List Operation) → deleted (spell_item i a r) ≡ spell_item i a (deleted r)
unfolding deleted
deleted-spell_item (code_unit u) a r = deleted-spell_unit u a r
deleted-spell_item (embed key value) a r = refl

deleted-spell_inserts : (xs : List Element) (r : List Operation) → deleted (spell_inserts xs r) ≡ spell_inserts xs (deleted r)
deleted-spell_inserts [] r = refl
deleted-spell_inserts (x ∷ xs) r =
    deleted-spell_item x.item x.attributes (spell_inserts xs r) ∙ ap (spell_item x.item x.attributes) (deleted-spell_inserts xs r)

deleted-spell_fate : (f : Fate) (r : List Operation) → deleted (spell_fate f r) ≡ spell_fate Del (spell_fate f r)
unfolding deleted
deleted-spell_fate Del [] = refl
deleted-spell_fate Del (insert_text us a ∷ r) = refl
deleted-spell_fate Del (insert_embed key value a ∷ r) = refl
deleted-spell_fate Del (retain n c ∷ r) = refl
deleted-spell_fate Del (delete n ∷ r) = refl
deleted-spell_fate (Keep c) [] = refl
deleted-spell_fate (Keep c) (insert_text us a ∷ r) = refl
deleted-spell_fate (Keep c) (insert_embed key value a ∷ r) = refl
deleted-spell_fate (Keep c) (retain n d ∷ r) =
    elim (same_changes c d) as (λ t. deleted (cond t (retain (suc n) d ∷ r) (retain 1 c ∷ retain n d ∷ r))
    ≡ spell_fate Del (cond t (retain (suc n) d ∷ r) (retain 1 c ∷ retain n d ∷ r))) [ true ↦ refl | false ↦ refl ]
deleted-spell_fate (Keep c) (delete n ∷ r) = refl

spelled-past : (g : Gaps) → spelled (past Del g) ≡ deleted (spelled g)
unfolding deleted
spelled-past (End ys) = sym (deleted-spell_inserts ys [])
spelled-past (Gap ys f g) = sym (deleted-spell_inserts ys (spell_fate f (spelled g)) ∙ ap (spell_inserts ys) (deleted-spell_fate f (spelled g)))

deleted-one : (r : List Operation) → deleted r ≡ consed (delete 1) r
unfolding deleted
deleted-one [] = refl
deleted-one (insert_text us a ∷ r) = ap (λ l. insert_text us a ∷ l) (deleted-one r)
deleted-one (insert_embed key value a ∷ r) = ap (λ l. insert_embed key value a ∷ l) (deleted-one r)
deleted-one (retain n c ∷ r) = refl
deleted-one (delete n ∷ r) = ap (λ m. delete m ∷ r) (sym (one-add n))

deleted-consed : (m : ℕ) (r : List Operation) → deleted (consed (delete m) r) ≡ consed (delete (suc m)) r
unfolding deleted
deleted-consed m [] = refl
deleted-consed m (insert_text us a ∷ r) = ap (λ l. insert_text us a ∷ l) (deleted-consed m r)
deleted-consed m (insert_embed key value a ∷ r) = ap (λ l. insert_embed key value a ∷ l) (deleted-consed m r)
deleted-consed m (retain n c ∷ r) = refl
deleted-consed m (delete n ∷ r) = ap (λ k. delete k ∷ r) (omega arith)

built-delete-suc : (n : ℕ) (ops : List Operation) → built (delete (suc n) ∷ ops) ≡ deleted (built (delete n ∷ ops))
built-delete-suc n ops = let g : Gaps = settled (counted (delete n ∷ ops)) in spelled-front [] (past Del g) ∙ spelled-past g

built-delete : (n : ℕ) (ops : List Operation) → built (delete (suc n) ∷ ops) ≡ consed (delete (suc n)) (built ops)
built-delete zero ops = built-delete-suc zero ops ∙ deleted-one (built ops)
built-delete (suc n) ops = built-delete-suc (suc n) ops ∙ (ap deleted (built-delete n ops) ∙ deleted-consed (suc n) (built ops))

built-inserts : (xs : List Element) (g : Gaps) → spelled (settled (front xs g)) ≡ spell_inserts xs (spelled (settled g))
built-inserts xs g = ap spelled (settled-front xs g) ∙ spelled-front xs (settled g)

-- an operation that isn't empty stands before what the others make
pub built-cons : (op : Operation) (ops : List Operation) → 0 < op_len op → built (op ∷ ops) ≡ consed op (built ops)
built-cons (insert_text [] a) ops some = absurd (omega arith)
built-cons (insert_text (u ∷ us) a) ops some = built-inserts (letters (u ∷ us) a) (counted ops) ∙ spell_letters u us a (built ops)
built-cons (insert_embed key value a) ops some = built-inserts (embedded key value a ∷ []) (counted ops) ∙ spell_embed key value a (built ops)
built-cons (retain zero c) ops some = absurd (omega arith)
built-cons (retain (suc n) c) ops some = built-retain n c ops
built-cons (delete zero) ops some = absurd (omega arith)
built-cons (delete (suc n)) ops some = built-delete n ops

-- and an empty one is nothing
pub built-empty : (op : Operation) (ops : List Operation) → op_len op ≡ 0 → built (op ∷ ops) ≡ built ops
built-empty (insert_text [] a) ops none = built-inserts [] (counted ops)
built-empty (insert_text (u ∷ us) a) ops none = absurd (omega arith)
built-empty (insert_embed key value a) ops none = absurd (omega arith)
built-empty (retain zero c) ops none = refl
built-empty (retain (suc n) c) ops none = absurd (omega arith)
built-empty (delete zero) ops none = refl
built-empty (delete (suc n)) ops none = absurd (omega arith)
