-- Two gap forms side by side, as they begin: what their composition begins with.
use Rattle.std.proofs.Common.{◌≡◌, ℕ, zero, suc, List, [], ◌∷◌, ◌++◌, length, refl, sym, ap, ◌∙◌}
use Rattle.std.proofs.lemmas.List.{append_assoc, append-nil}
use Rattle.attributes.specs.Map.{empty, insert_all}
use Rattle.attributes.specs.Attributes.{Attributes, Changes, changed, composed as change_composed}
use Rattle.delta.specs.Element.{Element, letters}
use Rattle.delta.specs.Gaps.{Gaps, End, Gap, Fate, Del, Keep, front, run, fated}
use Rattle.delta.specs.Normal.{past, settled}
use Rattle.delta.proofs.CallerLemmas.{changed-empty, front-nil, front-front, settled-front, past-front}
use Rattle.compose.specs.Places.{inserts, fate, tail}
use Rattle.compose.specs.Composed.{units_after, beyond, kept_then, composed}

-- nothing over inserted units, and over any gap form
laid-nothing : (xs : List Element) → units_after xs (End []) ≡ xs
laid-nothing [] = refl
laid-nothing (x ∷ xs) =
    ap (λ a. record x { attributes = a } ∷ units_after xs (End [])) (changed-empty x.attributes) ∙ ap (λ l. x ∷ l) (laid-nothing xs)

pub beyond-nothing : (xs : List Element) → beyond xs (End []) ≡ End []
beyond-nothing [] = refl
beyond-nothing (x ∷ xs) = beyond-nothing xs

pub composed-empty : (c : Changes) → change_composed c empty ≡ c
unfolding insert_all
composed-empty c = refl

kept-nothing : (c : Changes) → kept_then c (Keep empty) ≡ Keep c
unfolding insert_all
kept-nothing c = refl

pub composed-nothing : (g : Gaps) → composed g (End []) ≡ g
composed-nothing (End xs) =
    ap (λ l. front l (beyond xs (End []))) (laid-nothing xs) ∙ (ap (front xs) (beyond-nothing xs) ∙ ap End (append-nil xs))
composed-nothing (Gap xs Del g) =
    ap (λ l. front l (Gap [] Del (composed g (beyond xs (End []))))) (laid-nothing xs)
    ∙ (ap (λ b. Gap (xs ++ []) Del (composed g b)) (beyond-nothing xs)
    ∙ (ap (λ l. Gap l Del (composed g (End []))) (append-nil xs) ∙ ap (Gap xs Del) (composed-nothing g)))
composed-nothing (Gap xs (Keep c) g) =
    ap (λ l. front l (Gap (inserts (beyond xs (End []))) (kept_then c (fate (beyond xs (End [])))) (composed g (tail (beyond xs (End [])))))) (laid-nothing xs)
    ∙ (ap (λ b. Gap (xs ++ inserts b) (kept_then c (fate b)) (composed g (tail b))) (beyond-nothing xs)
    ∙ (ap (λ l. Gap l (kept_then c (Keep empty)) (composed g (End []))) (append-nil xs)
    ∙ (ap (λ f. Gap xs f (composed g (End []))) (kept-nothing c) ∙ ap (Gap xs (Keep c)) (composed-nothing g))))

-- units inserted before the first gap form
laid-append : (xs ys : List Element) (b : Gaps) → units_after (xs ++ ys) b ≡ units_after xs b ++ units_after ys (beyond xs b)
laid-append [] ys b = refl
laid-append (x ∷ xs) ys b =
    ap (λ l. inserts b ++ (fated (fate b) x ++ l)) (laid-append xs ys (tail b)) ∙ simp append_assoc

pub beyond-append : (xs ys : List Element) (b : Gaps) → beyond (xs ++ ys) b ≡ beyond ys (beyond xs b)
beyond-append [] ys b = refl
beyond-append (x ∷ xs) ys b = beyond-append xs ys (tail b)

pub composed-front : (xs : List Element) (g b : Gaps) → composed (front xs g) b ≡ front (units_after xs b) (composed g (beyond xs b))
composed-front xs (End ys) b =
    ap (λ l. front l (beyond (xs ++ ys) b)) (laid-append xs ys b)
    ∙ (ap (front (units_after xs b ++ units_after ys (beyond xs b))) (beyond-append xs ys b)
    ∙ sym (front-front (units_after xs b) (units_after ys (beyond xs b)) (beyond ys (beyond xs b))))
composed-front xs (Gap ys Del g) b =
    ap (λ l. front l (Gap [] Del (composed g (beyond (xs ++ ys) b)))) (laid-append xs ys b)
    ∙ (ap (λ r. front (units_after xs b ++ units_after ys (beyond xs b)) (Gap [] Del (composed g r))) (beyond-append xs ys b)
    ∙ sym (front-front (units_after xs b) (units_after ys (beyond xs b)) (Gap [] Del (composed g (beyond ys (beyond xs b))))))
composed-front xs (Gap ys (Keep c) g) b =
    let over : Gaps → Gaps = λ r. Gap (inserts r) (kept_then c (fate r)) (composed g (tail r)) in
    ap (λ l. front l (over (beyond (xs ++ ys) b))) (laid-append xs ys b)
    ∙ (ap (λ r. front (units_after xs b ++ units_after ys (beyond xs b)) (over r)) (beyond-append xs ys b)
    ∙ sym (front-front (units_after xs b) (units_after ys (beyond xs b)) (over (beyond ys (beyond xs b)))))

-- units that the second inserts first
laid-front : (x : Element) (xs ys : List Element) (h : Gaps) → units_after (x ∷ xs) (front ys h) ≡ ys ++ units_after (x ∷ xs) h
laid-front x xs ys (End zs) = append_assoc ys zs (fated (Keep empty) x ++ units_after xs (End []))
laid-front x xs ys (Gap zs f h) = append_assoc ys zs (fated f x ++ units_after xs h)

pub beyond-front : (x : Element) (xs ys : List Element) (h : Gaps) → beyond (x ∷ xs) (front ys h) ≡ beyond (x ∷ xs) h
beyond-front x xs ys (End zs) = refl
beyond-front x xs ys (Gap zs f h) = refl

pub composed-insert : (g : Gaps) (ys : List Element) (h : Gaps) → settled (composed g (front ys h)) ≡ settled (front ys (composed g h))
composed-insert (End []) ys h = ap settled (front-nil (front ys h) ∙ ap (front ys) (sym (front-nil h)))
composed-insert (End (x ∷ xs)) ys h =
    ap settled
    (ap (λ l. front l (beyond (x ∷ xs) (front ys h))) (laid-front x xs ys h)
    ∙ (ap (front (ys ++ units_after (x ∷ xs) h)) (beyond-front x xs ys h) ∙ sym (front-front ys (units_after (x ∷ xs) h) (beyond (x ∷ xs) h))))
composed-insert (Gap [] Del g) ys h =
    ap (λ s. front [] (past Del s)) (composed-insert g ys h ∙ settled-front ys (composed g h))
    ∙ (ap (front []) (past-front ys (settled (composed g h)))
    ∙ (front-nil (front ys (past Del (settled (composed g h))))
    ∙ (ap (front ys) (sym (front-nil (past Del (settled (composed g h)))))
    ∙ sym (settled-front ys (Gap [] Del (composed g h))))))
composed-insert (Gap (x ∷ xs) Del g) ys h =
    ap settled
    (ap (λ l. front l (Gap [] Del (composed g (beyond (x ∷ xs) (front ys h))))) (laid-front x xs ys h)
    ∙ (ap (λ r. front (ys ++ units_after (x ∷ xs) h) (Gap [] Del (composed g r))) (beyond-front x xs ys h)
    ∙ sym (front-front ys (units_after (x ∷ xs) h) (Gap [] Del (composed g (beyond (x ∷ xs) h))))))
composed-insert (Gap [] (Keep c) g) ys (End zs) = refl
composed-insert (Gap [] (Keep c) g) ys (Gap zs f h) = refl
composed-insert (Gap (x ∷ xs) (Keep c) g) ys h =
    let over : Gaps → Gaps = λ r. Gap (inserts r) (kept_then c (fate r)) (composed g (tail r)) in
    ap settled
    (ap (λ l. front l (over (beyond (x ∷ xs) (front ys h)))) (laid-front x xs ys h)
    ∙ (ap (λ r. front (ys ++ units_after (x ∷ xs) h) (over r)) (beyond-front x xs ys h)
    ∙ sym (front-front ys (units_after (x ∷ xs) h) (over (beyond (x ∷ xs) h)))))

-- runs of units
pub composed-deleted : (n : ℕ) (g b : Gaps) → composed (run n Del g) b ≡ run n Del (composed g b)
composed-deleted zero g b = refl
composed-deleted (suc n) g b = ap (Gap [] Del) (composed-deleted n g b)

pub composed-kept : (n : ℕ) (c : Changes) (f : Fate) (g h : Gaps) → composed (run n (Keep c) g) (run n f h) ≡ run n (kept_then c f) (composed g h)
composed-kept zero c f g h = refl
composed-kept (suc n) c f g h = ap (Gap [] (kept_then c f)) (composed-kept n c f g h)

-- inserted letters under a run
laid-kept : (us : List ℕ) (a : Attributes) (d : Changes) (h : Gaps) → units_after (letters us a) (run (length us) (Keep d) h) ≡ letters us (changed a d)
laid-kept [] a d h = refl
laid-kept (u ∷ us) a d h = ap (λ l. Rattle.delta.specs.Element.lettered u (changed a d) ∷ l) (laid-kept us a d h)

laid-deleted : (us : List ℕ) (a : Attributes) (h : Gaps) → units_after (letters us a) (run (length us) Del h) ≡ []
laid-deleted [] a h = refl
laid-deleted (u ∷ us) a h = laid-deleted us a h

beyond-run : (us : List ℕ) (a : Attributes) (f : Fate) (h : Gaps) → beyond (letters us a) (run (length us) f h) ≡ h
beyond-run [] a f h = refl
beyond-run (u ∷ us) a f h = beyond-run us a f h

pub composed-letters_kept : (us : List ℕ) (a : Attributes) (d : Changes) (g h : Gaps)
    → composed (front (letters us a) g) (run (length us) (Keep d) h) ≡ front (letters us (changed a d)) (composed g h)
composed-letters_kept us a d g h =
    composed-front (letters us a) g (run (length us) (Keep d) h)
    ∙ (ap (λ l. front l (composed g (beyond (letters us a) (run (length us) (Keep d) h)))) (laid-kept us a d h)
    ∙ ap (λ r. front (letters us (changed a d)) (composed g r)) (beyond-run us a (Keep d) h))

pub composed-letters_deleted : (us : List ℕ) (a : Attributes) (g h : Gaps) → composed (front (letters us a) g) (run (length us) Del h) ≡ composed g h
composed-letters_deleted us a g h =
    composed-front (letters us a) g (run (length us) Del h)
    ∙ (ap (λ l. front l (composed g (beyond (letters us a) (run (length us) Del h)))) (laid-deleted us a h)
    ∙ (front-nil (composed g (beyond (letters us a) (run (length us) Del h))) ∙ ap (composed g) (beyond-run us a Del h)))
