-- Built and normal lists are their own built and normal forms, and stand for all that was pushed.
use Rattle.std.proofs.Common.{◌≡◌, ℕ, zero, suc, false, List, [], ◌∷◌, ◌++◌, refl, sym, ap, ◌∙◌, arith}
use Rattle.std.specs.Prelude.{IsTrue}
use Rattle.std.proofs.lemmas.Bool.{and_parts, not-true, false≢true}
use Rattle.attributes.specs.Attributes.{Changes}
use Rattle.delta.specs.Element.{embedded, letters}
use Rattle.delta.specs.Operation.{Operation, insert_text, insert_embed, retain, delete}
use Rattle.delta.specs.Gaps.{Gaps, Del, Keep, run, counted, joined}
use Rattle.delta.specs.Normal.{is_built, ends_plain, IsNormal, spell_inserts, spelled, settled, trimmed, nf, built}
use Rattle.delta.proofs.Joins.{counted-append}
use Rattle.delta.proofs.Settling.{IsBare, IsSettled, ends_kept, IsSettled-front, settled-same, settled-settled, settled-joined, settled-joined_settled, trimmed-same}
use Rattle.delta.proofs.Spellings.{counted-spelled, spelled-front}
use Rattle.delta.proofs.Neighbours.{may_lead-text, may_lead-retain, may_lead-delete, is_apart_retain, is_apart_delete, built-parts, spell-letters, spelled-keeps, spelled-deletes}
use Rattle.delta.proofs.Normality.{ends-spelled}

-- a built list is what its own counting out is spelled by
pub spelled-counted : (ops : List Operation) → IsTrue (is_built ops) → spelled (counted ops) ≡ ops
spelled-counted [] h = refl
spelled-counted (insert_text [] a ∷ ops) h = let parts = built-parts (insert_text [] a) ops h in absurd (omega (arith, parts.0))
spelled-counted (insert_text (u ∷ us) a ∷ ops) h =
    let parts = built-parts (insert_text (u ∷ us) a) ops h in
    spelled-front (letters (u ∷ us) a) (counted ops)
    ∙ (ap (spell_inserts (letters (u ∷ us) a)) (spelled-counted ops parts.2)
    ∙ spell-letters u us a ops (sym (may_lead-text (u ∷ us) a ops) ∙ parts.1))
spelled-counted (insert_embed key value a ∷ ops) h =
    let parts = built-parts (insert_embed key value a) ops h in
    spelled-front (embedded key value a ∷ []) (counted ops) ∙ ap (λ l. insert_embed key value a ∷ l) (spelled-counted ops parts.2)
spelled-counted (retain zero c ∷ ops) h = let parts = built-parts (retain zero c) ops h in absurd (omega (arith, parts.0))
spelled-counted (retain (suc n) c ∷ ops) h =
    let parts = built-parts (retain (suc n) c) ops h in
    let rest = spelled-counted ops parts.2 in
    spelled-keeps n c (counted ops) (ap (is_apart_retain c) rest ∙ (sym (may_lead-retain (suc n) c ops) ∙ parts.1)) ∙ ap (λ l. retain (suc n) c ∷ l) rest
spelled-counted (delete zero ∷ ops) h = let parts = built-parts (delete zero) ops h in absurd (omega (arith, parts.0))
spelled-counted (delete (suc n) ∷ ops) h =
    let parts = built-parts (delete (suc n)) ops h in
    let rest = spelled-counted ops parts.2 in
    spelled-deletes n (counted ops) (ap is_apart_delete rest ∙ (sym (may_lead-delete (suc n) ops) ∙ parts.1)) ∙ ap (λ l. delete (suc n) ∷ l) rest

-- and its counting out is settled
IsBare-counted : (ops : List Operation) → IsTrue (is_built ops) → IsTrue (is_apart_delete ops) → IsBare (counted ops)
IsBare-counted [] h apart = tt
IsBare-counted (retain zero c ∷ ops) h apart = let parts = built-parts (retain zero c) ops h in absurd (omega (arith, parts.0))
IsBare-counted (retain (suc n) c ∷ ops) h apart = tt
IsBare-counted (insert_text us a ∷ ops) h apart = absurd (false≢true apart)
IsBare-counted (insert_embed key value a ∷ ops) h apart = absurd (false≢true apart)
IsBare-counted (delete n ∷ ops) h apart = absurd (false≢true apart)

IsSettled-keeps : (n : ℕ) (c : Changes) (g : Gaps) → IsSettled g → IsSettled (run n (Keep c) g)
IsSettled-keeps zero c g h = h
IsSettled-keeps (suc n) c g h = IsSettled-keeps n c g h

IsBare-deletes : (n : ℕ) (g : Gaps) → IsBare g → IsBare (run n Del g)
IsBare-deletes zero g h = h
IsBare-deletes (suc n) g h = tt

IsSettled-deletes : (n : ℕ) (g : Gaps) → IsBare g → IsSettled g → IsSettled (run n Del g)
IsSettled-deletes zero g bare h = h
IsSettled-deletes (suc n) g bare h = (IsBare-deletes n g bare, IsSettled-deletes n g bare h)

pub IsSettled-counted : (ops : List Operation) → IsTrue (is_built ops) → IsSettled (counted ops)
IsSettled-counted [] h = tt
IsSettled-counted (insert_text us a ∷ ops) h = IsSettled-front (letters us a) (counted ops) (IsSettled-counted ops (built-parts (insert_text us a) ops h).2)
IsSettled-counted (insert_embed key value a ∷ ops) h =
    IsSettled-front (embedded key value a ∷ []) (counted ops) (IsSettled-counted ops (built-parts (insert_embed key value a) ops h).2)
IsSettled-counted (retain n c ∷ ops) h = IsSettled-keeps n c (counted ops) (IsSettled-counted ops (built-parts (retain n c) ops h).2)
IsSettled-counted (delete n ∷ ops) h =
    let parts = built-parts (delete n) ops h in
    IsSettled-deletes n (counted ops) (IsBare-counted ops parts.2 (sym (may_lead-delete n ops) ∙ parts.1)) (IsSettled-counted ops parts.2)

-- a built list is its own built form
pub built-same : (ops : List Operation) → IsTrue (is_built ops) → built ops ≡ ops
built-same ops h = ap spelled (settled-same (counted ops) (IsSettled-counted ops h)) ∙ spelled-counted ops h

-- a list in normal form is its own normal form
pub nf-same : (ops : List Operation) → IsNormal ops → nf (counted ops) ≡ ops
nf-same ops h =
    let parts = and_parts (is_built ops) _ h in
    let same = spelled-counted ops parts.0 in
    let ends : ends_kept (counted ops) ≡ false = sym (ends-spelled (counted ops)) ∙ (ap ends_plain same ∙ not-true (ends_plain ops) parts.1) in
    ap (λ g. spelled (trimmed g)) (settled-same (counted ops) (IsSettled-counted ops parts.0)) ∙ (ap spelled (trimmed-same (counted ops) ends) ∙ same)

-- what is kept represents all that was given
pub built-append : (a b : List Operation) → built (built a ++ b) ≡ built (a ++ b)
built-append a b =
    ap (λ g. spelled (settled g)) (counted-append (built a) b ∙ ap (λ g. joined g (counted b)) (counted-spelled (settled (counted a))))
    ∙ (ap spelled (settled-joined (counted a) (counted b)) ∙ ap (λ g. spelled (settled g)) (sym (counted-append a b)))

pub nf-built : (a : List Operation) → nf (counted (built a)) ≡ nf (counted a)
nf-built a = ap nf (counted-spelled (settled (counted a))) ∙ ap (λ g. spelled (trimmed g)) (settled-settled (counted a))

pub built-append_built : (a b : List Operation) → built (a ++ built b) ≡ built (a ++ b)
built-append_built a b =
    ap (λ g. spelled (settled g)) (counted-append a (built b) ∙ ap (joined (counted a)) (counted-spelled (settled (counted b))))
    ∙ (ap spelled (settled-joined_settled (counted a) (counted b)) ∙ ap (λ g. spelled (settled g)) (sym (counted-append a b)))
