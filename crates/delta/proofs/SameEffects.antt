-- Settled and trimmed gap forms with the same effect are equal, and so are lists in normal form.
use Rattle.std.proofs.Common.{◌≡◌, ◌+◌, ◌≤◌, false, List, [], ◌∷◌, ◌++◌, length, replicate, refl, sym, ap, subst, ◌∙◌, arith}
use Rattle.std.proofs.lemmas.List.{append-nil, length-replicate}
use Rattle.std.proofs.lemmas.Bool.{true≢false}
use Rattle.attributes.specs.Map.{empty}
use Rattle.attributes.specs.Attributes.{Changes, same_changes-Decides}
use Rattle.delta.specs.Element.{Element}
use Rattle.delta.specs.Operation.{Operation, base_of}
use Rattle.delta.specs.Gaps.{Gaps, End, Gap, Del, Keep, apply, counted, units_below}
use Rattle.delta.specs.Laws.{SameEffect, SameEffectFrom, NormalOfSameEffect}
use Rattle.delta.specs.Normal.{IsNormal, settled, trimmed, spelled}
use Rattle.delta.proofs.Joins.{units_below-counted}
use Rattle.delta.proofs.BuiltLists.{nf-same}
use Rattle.delta.proofs.Lengths.{base_of-spelled}
use Rattle.delta.proofs.Settling.{IsSettled, ends_kept, ends_kept-rest, IsSettled-settled, IsSettled-trimmed, ends_kept-trimmed}
use Rattle.delta.proofs.Effects.{changed-empty, apply-settled, apply-trimmed, apply-nf, same_form}
use Rattle.delta.proofs.Parts.{same_from}
use Rattle.delta.proofs.Telling.{HaveSame, told_changes, keep_keep, keep_delete, delete_delete, same_rest, plain}

-- kept units without a change, and nothing more, do nothing
kept_end : (xs ys : List Element) (c : Changes) (h : Gaps) → HaveSame (End xs) (Gap ys (Keep c) h) → HaveSame (Gap xs (Keep empty) (End [])) (Gap ys (Keep c) h)
kept_end xs ys c h same [] long_g long_h = absurd (omega (arith, long_g))
kept_end xs ys c h same (x ∷ d) long_g long_h =
    ap (λ a. xs ++ record x { attributes = a } ∷ d) (changed-empty x.attributes) ∙ same (x ∷ d) (omega arith) long_h

deleted_end : (xs ys : List Element) (h : Gaps) → HaveSame (End xs) (Gap ys Del h) → HaveSame (Gap xs (Keep empty) (End [])) (Gap ys Del h)
deleted_end xs ys h same [] long_g long_h = absurd (omega (arith, long_g))
deleted_end xs ys h same (x ∷ d) long_g long_h =
    ap (λ a. xs ++ record x { attributes = a } ∷ d) (changed-empty x.attributes) ∙ same (x ∷ d) (omega arith) long_h

-- the first units that are kept are kept alike, and the rest has the same effect
same_inserts : (xs ys : List Element) (c e : Changes) (g h : Gaps) → HaveSame (Gap xs (Keep c) g) (Gap ys (Keep e) h) → xs ≡ ys
same_inserts xs ys c e g h same =
    let n = units_below g + units_below h in
    let long = length-replicate n plain in
    (keep_keep xs ys c e g h same empty (replicate n plain) (omega (arith, long)) (omega (arith, long))).0

same_changes_kept : (xs ys : List Element) (c e : Changes) (g h : Gaps) → HaveSame (Gap xs (Keep c) g) (Gap ys (Keep e) h) → c ≡ e
same_changes_kept xs ys c e g h same =
    let n = units_below g + units_below h in
    let long = length-replicate n plain in
    told_changes c e (λ a. (keep_keep xs ys c e g h same a (replicate n plain) (omega (arith, long)) (omega (arith, long))).1)

same_after : (xs ys : List Element) (c e : Changes) (g h : Gaps) → HaveSame (Gap xs (Keep c) g) (Gap ys (Keep e) h) → HaveSame g h
same_after xs ys c e g h same d long_g long_h = (keep_keep xs ys c e g h same empty d long_g long_h).2

-- nothing but the end has the effect of an end
told_end : (xs : List Element) (h : Gaps) → IsSettled h → ends_kept h ≡ false → HaveSame (End xs) h → End xs ≡ h
told_end xs (End ys) settled ends same =
    ap End (sym (append-nil xs) ∙ (same [] (omega arith) (omega arith) ∙ append-nil ys))
told_end xs (Gap ys Del h) settled ends same = absurd (keep_delete xs ys empty (End []) h (deleted_end xs ys h same))
told_end xs (Gap ys (Keep c) h) settled ends same =
    let kept = kept_end xs ys c h same in
    let rest : End [] ≡ h = told_end [] h settled (ends_kept-rest ys (Keep c) h ends) (same_after xs ys empty c (End []) h kept) in
    let change : empty ≡ c = same_changes_kept xs ys empty c (End []) h kept in
    absurd (true≢false
    (sym ((same_changes-Decides empty empty).1 refl)
    ∙ (ap (λ e. ends_kept (Gap ys (Keep e) (End []))) change ∙ (ap (λ k. ends_kept (Gap ys (Keep c) k)) rest ∙ ends))))

turned : (g h : Gaps) → HaveSame g h → HaveSame h g
turned g h same d long_h long_g = sym (same d long_g long_h)

-- settled and trimmed gap forms are told apart by their effects
pub told : (g h : Gaps) → IsSettled g → IsSettled h → ends_kept g ≡ false → ends_kept h ≡ false → HaveSame g h → g ≡ h
told (End xs) h settled_g settled_h ends_g ends_h same = told_end xs h settled_h ends_h same
told (Gap xs f g) (End ys) settled_g settled_h ends_g ends_h same =
    sym (told_end ys (Gap xs f g) settled_g ends_g (turned (Gap xs f g) (End ys) same))
told (Gap xs (Keep c) g) (Gap ys (Keep e) h) settled_g settled_h ends_g ends_h same =
    let rest : g ≡ h = told g h settled_g settled_h (ends_kept-rest xs (Keep c) g ends_g) (ends_kept-rest ys (Keep e) h ends_h) (same_after xs ys c e g h same) in
    let inserts = same_inserts xs ys c e g h same in
    let change = same_changes_kept xs ys c e g h same in
    λ i. Gap (inserts i) (Keep (change i)) (rest i)
told (Gap xs (Keep c) g) (Gap ys Del h) settled_g settled_h ends_g ends_h same = absurd (keep_delete xs ys c g h same)
told (Gap xs Del g) (Gap ys (Keep e) h) settled_g settled_h ends_g ends_h same =
    absurd (keep_delete ys xs e h g (turned (Gap xs Del g) (Gap ys (Keep e) h) same))
told (Gap xs Del g) (Gap ys Del h) settled_g settled_h ends_g ends_h same =
    let inserts = delete_delete xs ys g h settled_g.0 settled_g.1 settled_h.0 settled_h.1 same in
    let rest : g ≡ h = told g h settled_g.1 settled_h.1 (ends_kept-rest xs Del g ends_g) (ends_kept-rest ys Del h ends_h) (same_rest xs ys g h inserts same) in
    λ i. Gap (inserts i) Del (rest i)

-- and so are lists in normal form
shortest : List Operation → Gaps
shortest ops = trimmed (settled (counted ops))

base-shortest : (ops : List Operation) → IsNormal ops → units_below (shortest ops) ≡ base_of ops
unfolding shortest
base-shortest ops normal = sym (base_of-spelled (trimmed (settled (counted ops)))) ∙ ap base_of (nf-same ops normal)

apply-shortest : (d : List Element) (ops : List Operation) → apply d (shortest ops) ≡ apply d (counted ops)
unfolding shortest
apply-shortest d ops = apply-trimmed d (settled (counted ops)) ∙ apply-settled d (counted ops)

pub same_effect : SameEffect
unfolding shortest
same_effect a b normal_a normal_b same =
    same_form a b normal_a normal_b
    (told (shortest a) (shortest b)
    (IsSettled-trimmed (settled (counted a)) (IsSettled-settled (counted a)))
    (IsSettled-trimmed (settled (counted b)) (IsSettled-settled (counted b)))
    (ends_kept-trimmed (settled (counted a)))
    (ends_kept-trimmed (settled (counted b)))
    (λ d long_a long_b.
    apply-shortest d a
    ∙ (same d (subst (λ n. n ≤ length d) (base-shortest a normal_a) long_a) (subst (λ n. n ≤ length d) (base-shortest b normal_b) long_b) ∙ sym (apply-shortest d b))))

pub same_effect_from : SameEffectFrom
same_effect_from m a b normal_a normal_b same =
    same_effect a b normal_a normal_b (λ d long_a long_b.
    same_from m (counted a) (counted b) same d
    (subst (λ n. n ≤ length d) (sym (units_below-counted a)) long_a)
    (subst (λ n. n ≤ length d) (sym (units_below-counted b)) long_b))

-- any lists have the same effect exactly where they have one normal form
pub normal_of_same_effect : NormalOfSameEffect
unfolding shortest
normal_of_same_effect a b = (
  λ same.
      ap spelled (told (shortest a) (shortest b)
      (IsSettled-trimmed (settled (counted a)) (IsSettled-settled (counted a)))
      (IsSettled-trimmed (settled (counted b)) (IsSettled-settled (counted b)))
      (ends_kept-trimmed (settled (counted a)))
      (ends_kept-trimmed (settled (counted b)))
      (same_from (base_of a + base_of b) (shortest a) (shortest b)
      (λ d long. apply-shortest d a ∙ (same d (omega (arith, long)) (omega (arith, long)) ∙ sym (apply-shortest d b))))),
  λ one d long_a long_b. sym (apply-nf d (counted a)) ∙ (ap (λ ops. apply d (counted ops)) one ∙ apply-nf d (counted b)),
)
