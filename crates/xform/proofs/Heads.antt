-- The first of a delta after another: inserts, and units that neither inserts.
use Rattle.std.proofs.Common.{◌≡◌, ℕ, zero, suc, ◌+◌, ◌⊎◌, ⊎_elim, inl, inr, Bool, true, false, List, [], ◌∷◌, ◌++◌, length, refl, sym, ap, ◌∙◌}
use Rattle.std.proofs.lemmas.List.{append-nil, length-append}
use Rattle.attributes.specs.Attributes.{Changes}
use Rattle.attributes.specs.Map.{empty}
use Rattle.delta.specs.Element.{Element}
use Rattle.delta.specs.Gaps.{Gaps, End, Gap, Fate, Del, Keep, front, run}
use Rattle.delta.proofs.CallerLemmas.{front-nil, front-front, run-parts}
use Rattle.delta.specs.Places.{IsBare}
use Rattle.xform.specs.After.{beside, fate_after, left_of, after}
pub use Rattle.delta.proofs.CallerLemmas.{front-Gap}

-- at a place where one of them inserts nothing
beside-nothing : (priority : Bool) (g : Gaps) → beside [] [] priority g ≡ g
beside-nothing true g = front-nil g
beside-nothing false g = front-nil g

beside-only : (ys : List Element) (priority : Bool) (g : Gaps) → beside [] ys priority g ≡ front ys g
beside-only ys true g = refl
beside-only ys false g = refl

-- the first inserts before the rest: its units are kept
kept-append : (xs zs : List Element) (g : Gaps) → run (length (xs ++ zs)) (Keep empty) g ≡ run (length xs) (Keep empty) (run (length zs) (Keep empty) g)
kept-append xs zs g = ap (λ n. run n (Keep empty) g) (length-append xs zs) ∙ run-parts (length xs + length zs) (length xs) (length zs) (Keep empty) g refl

-- the first goes first, or the other inserts nothing there
abbrev pub MayGoFirst : Bool → Gaps → Type 0
MayGoFirst priority h = (priority ≡ true) ⊎ IsBare h

beside-first : (xs zs ys : List Element) (priority : Bool) (g : Gaps) → (priority ≡ true) ⊎ (ys ≡ []) → beside (xs ++ zs) ys priority g ≡ run (length xs) (Keep empty) (beside zs ys priority g)
beside-first xs zs ys true g may = kept-append xs zs (front ys g)
beside-first xs zs ys false g (inl e) = absurd (cc)
beside-first xs zs ys false g (inr e) =
    ap (λ l. front l (run (length (xs ++ zs)) (Keep empty) g)) e
    ∙ (front-nil (run (length (xs ++ zs)) (Keep empty) g)
    ∙ (kept-append xs zs g
    ∙ ap (run (length xs) (Keep empty)) (sym (ap (λ l. front l (run (length zs) (Keep empty) g)) e ∙ front-nil (run (length zs) (Keep empty) g)))))

bare-End : (ys : List Element) → IsBare (End ys) → ys ≡ []
bare-End [] h = refl
bare-End (y ∷ ys) h = absurd h

bare-Gap : (ys : List Element) (f : Fate) (g : Gaps) → IsBare (Gap ys f g) → ys ≡ []
bare-Gap [] f g h = refl
bare-Gap (y ∷ ys) f g h = absurd h

pub after-first : (xs : List Element) (g h : Gaps) (priority : Bool) → MayGoFirst priority h → after (front xs g) h priority ≡ run (length xs) (Keep empty) (after g h priority)
after-first xs (End zs) (End ys) priority may = beside-first xs zs ys priority (End []) (⊎_elim inl (λ b. inr (bare-End ys b)) may)
after-first xs (End zs) (Gap ys e h) priority may = beside-first xs zs ys priority (Gap [] e h) (⊎_elim inl (λ b. inr (bare-Gap ys e h b)) may)
after-first xs (Gap zs f g) (End ys) priority may = beside-first xs zs ys priority (End []) (⊎_elim inl (λ b. inr (bare-End ys b)) may)
after-first xs (Gap zs f g) (Gap ys e h) priority may =
    beside-first xs zs ys priority (left_of f e priority (after g h priority)) (⊎_elim inl (λ b. inr (bare-Gap ys e h b)) may)

-- the second inserts before the rest: it goes first, or the other inserts nothing there
abbrev pub MayGoSecond : Bool → Gaps → Type 0
MayGoSecond priority g = (priority ≡ false) ⊎ IsBare g

beside-second : (xs ys zs : List Element) (priority : Bool) (g : Gaps) → (priority ≡ false) ⊎ (xs ≡ []) → beside xs (ys ++ zs) priority g ≡ front ys (beside xs zs priority g)
beside-second xs ys zs false g may = sym (front-front ys zs (run (length xs) (Keep empty) g))
beside-second xs ys zs true g (inl e) = absurd (cc)
beside-second xs ys zs true g (inr e) =
    ap (λ l. run (length l) (Keep empty) (front (ys ++ zs) g)) e
    ∙ (sym (front-front ys zs g) ∙ ap (λ l. front ys (run (length l) (Keep empty) (front zs g))) (sym e))

pub after-second : (ys : List Element) (g h : Gaps) (priority : Bool) → MayGoSecond priority g → after g (front ys h) priority ≡ front ys (after g h priority)
after-second ys (End xs) (End zs) priority may = beside-second xs ys zs priority (End []) (⊎_elim inl (λ b. inr (bare-End xs b)) may)
after-second ys (End xs) (Gap zs e h) priority may = beside-second xs ys zs priority (Gap [] e h) (⊎_elim inl (λ b. inr (bare-End xs b)) may)
after-second ys (Gap xs f g) (End zs) priority may = beside-second xs ys zs priority (End []) (⊎_elim inl (λ b. inr (bare-Gap xs f g b)) may)
after-second ys (Gap xs f g) (Gap zs e h) priority may =
    beside-second xs ys zs priority (left_of f e priority (after g h priority)) (⊎_elim inl (λ b. inr (bare-Gap xs f g b)) may)

-- units that neither inserts
pub after-deleted : (k : ℕ) (e : Fate) (g h : Gaps) (priority : Bool) → after (run k Del g) (run k e h) priority ≡ after g h priority
after-deleted zero e g h priority = refl
after-deleted (suc k) e g h priority = beside-nothing priority (after (run k Del g) (run k e h) priority) ∙ after-deleted k e g h priority

pub after-kept : (k : ℕ) (c : Changes) (e : Fate) (g h : Gaps) (priority : Bool) → after (run k (Keep c) g) (run k e h) priority ≡ run k (fate_after c e priority) (after g h priority)
after-kept zero c e g h priority = refl
after-kept (suc k) c e g h priority =
    beside-nothing priority (Gap [] (fate_after c e priority) (after (run k (Keep c) g) (run k e h) priority))
    ∙ ap (Gap [] (fate_after c e priority)) (after-kept k c e g h priority)

-- after nothing
pub front-End : (ys : List Element) → front ys (End []) ≡ End ys
front-End ys = ap End (append-nil ys)

pub after-nothing : (h : Gaps) (priority : Bool) → after (End []) h priority ≡ h
after-nothing (End ys) priority = beside-only ys priority (End []) ∙ front-End ys
after-nothing (Gap ys e h) priority = beside-only ys priority (Gap [] e h) ∙ front-Gap ys e h

-- and nothing after the first: what it inserts there is kept
pub nothing_after : (g : Gaps) (priority : Bool) → (n : ℕ) × (after g (End []) priority ≡ run n (Keep empty) (End []))
nothing_after (End xs) true = (length xs, refl)
nothing_after (End xs) false = (length xs, front-nil (run (length xs) (Keep empty) (End [])))
nothing_after (Gap xs f g) true = (length xs, refl)
nothing_after (Gap xs f g) false = (length xs, front-nil (run (length xs) (Keep empty) (End [])))
