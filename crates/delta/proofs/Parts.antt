-- The effect of gap forms and of operations, part by part of the document.
use Rattle.std.proofs.Common.{◌≡◌, ℕ, zero, suc, ◌≤◌, List, [], ◌∷◌, ◌++◌, length, replicate, refl, sym, ap, subst, ◌∙◌, arith}
use Rattle.std.proofs.lemmas.List.{append-nil, append_assoc, append_cancel_right, length-append, length-replicate}
use Rattle.attributes.specs.Attributes.{changed}
use Rattle.attributes.specs.Map.{empty}
use Rattle.delta.specs.Element.{Element, code_unit, letters, embedded}
use Rattle.delta.specs.Gaps.{Gaps, End, Gap, fated, apply, counted, joined, units_below}
use Rattle.delta.specs.Laws.{EffectOfParts, EffectOfNothing, EffectOfText, EffectOfEmbed, EffectOfRetain, EffectOfDelete, EffectPastEnd}
use Rattle.delta.proofs.Joins.{counted-append, units_below-counted}
use Rattle.delta.proofs.Effects.{apply-front}

-- two gap forms, one after the other, on two parts of a document
pub apply-joined : (d e : List Element) (g h : Gaps) → units_below g ≡ length d → apply (d ++ e) (joined g h) ≡ apply d g ++ apply e h
apply-joined [] e (End xs) h same = apply-front e xs h ∙ ap (λ l. l ++ apply e h) (sym (append-nil xs))
apply-joined (x ∷ d) e (End xs) h same = absurd (omega (arith, same))
apply-joined [] e (Gap xs f g) h same = absurd (omega (arith, same))
apply-joined (x ∷ d) e (Gap xs f g) h same =
    ap (λ l. xs ++ (fated f x ++ l)) (apply-joined d e g h (omega (arith, same)))
    ∙ (ap (λ l. xs ++ l) (sym (append_assoc (fated f x) (apply d g) (apply e h))) ∙ sym (append_assoc xs (fated f x ++ apply d g) (apply e h)))

-- what stands after the last unit that a gap form speaks of stays
pub apply-past_end : (d e : List Element) (g : Gaps) → units_below g ≤ length d → apply (d ++ e) g ≡ apply d g ++ e
apply-past_end d e (End xs) long = sym (append_assoc xs d e)
apply-past_end [] e (Gap xs f g) long = absurd (omega (arith, long))
apply-past_end (x ∷ d) e (Gap xs f g) long =
    ap (λ l. xs ++ (fated f x ++ l)) (apply-past_end d e g (omega (arith, long)))
    ∙ (ap (λ l. xs ++ l) (sym (append_assoc (fated f x) (apply d g) e)) ∙ sym (append_assoc xs (fated f x ++ apply d g) e))

pub effect_of_parts : EffectOfParts
effect_of_parts d e a b same =
    ap (apply (d ++ e)) (counted-append a b) ∙ apply-joined d e (counted a) (counted b) (units_below-counted a ∙ same)

pub effect_past_end : EffectPastEnd
effect_past_end d e ops long = apply-past_end d e (counted ops) (subst (λ n. n ≤ length d) (sym (units_below-counted ops)) long)

-- operation by operation
pub effect_of_nothing : EffectOfNothing
effect_of_nothing d = refl

pub effect_of_text : EffectOfText
effect_of_text d us a ops = apply-front d (letters us a) (counted ops)

pub effect_of_embed : EffectOfEmbed
effect_of_embed d key value a ops = apply-front d (embedded key value a ∷ []) (counted ops)

pub effect_of_retain : EffectOfRetain
effect_of_retain [] e zero c ops same = refl
effect_of_retain [] e (suc n) c ops same = absurd (omega (arith, same))
effect_of_retain (x ∷ d) e zero c ops same = absurd (omega (arith, same))
effect_of_retain (x ∷ d) e (suc n) c ops same =
    ap (λ l. record x { attributes = changed x.attributes c } ∷ l) (effect_of_retain d e n c ops (omega (arith, same)))

pub effect_of_delete : EffectOfDelete
effect_of_delete [] e zero ops same = refl
effect_of_delete [] e (suc n) ops same = absurd (omega (arith, same))
effect_of_delete (x ∷ d) e zero ops same = absurd (omega (arith, same))
effect_of_delete (x ∷ d) e (suc n) ops same = effect_of_delete d e n ops (omega (arith, same))

-- the same effect on longer documents is the same effect
filling : Element
filling = record { item = code_unit 0; attributes = empty }

pub same_from : (m : ℕ) (g h : Gaps) → ((d : List Element) → m ≤ length d → apply d g ≡ apply d h)
    → (d : List Element) → units_below g ≤ length d → units_below h ≤ length d → apply d g ≡ apply d h
same_from m g h same d long_g long_h =
    let e = replicate m filling in
    append_cancel_right (apply d g) (apply d h) e
    (sym (apply-past_end d e g long_g) ∙ (same (d ++ e) (omega (arith, length-append d e, length-replicate m filling)) ∙ apply-past_end d e h long_h))
