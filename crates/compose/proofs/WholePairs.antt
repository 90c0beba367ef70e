-- What parts no pair in turn parts none as one.
use Rattle.std.proofs.Common.{◌≡◌, ℕ, ◌≤◌, Bool, true, false, cond, List, [], ◌∷◌, ◌++◌, length, refl, sym, ap, subst, ◌∙◌, arith}
use Rattle.std.specs.Prelude.{Option, Some, None}
use Rattle.std.specs.Prelude.{not, ◌&&◌, ◌||◌}
use Rattle.attributes.specs.Map.{empty, get}
use Rattle.attributes.specs.Laws.{first_of}
use Rattle.attributes.proofs.CallerLemmas.{same_changes_map, get-composed}
use Rattle.attributes.specs.Attributes.{Changes, changed, composed as change_composed, same_changes, same_changes-Decides}
use Rattle.delta.specs.Element.{Element}
use Rattle.delta.specs.Operation.{Operation}
use Rattle.delta.specs.Gaps.{Gaps, End, Gap, Fate, Del, Keep, front, apply, counted, units_below}
use Rattle.delta.specs.Normal.{past, settled, trim, trimmed, nf}
use Rattle.delta.specs.Places.{IsDefined}
use Rattle.delta.proofs.CallerLemmas.{changed-empty, front-nil, counted-spelled}
use Rattle.document.specs.Places.{Cuts}
use Rattle.compose.specs.Composed.{units_after, beyond, kept_then, composed, one_for}
use Rattle.compose.specs.Cuts.{CutsText}
use Rattle.compose.specs.Places.{inserts, fate, tail}
use Rattle.compose.specs.steps.PairTest.{is_pair, same_fate, is_nothing, parts, is_parted, cuts_units, cuts}
use Rattle.compose.proofs.DocumentCuts.{pair-fact, fact-pair, fate-itself, fate-fact, nothing-fact, cut-there, units-cut, text-cut}
use Rattle.compose.proofs.Pairs.{cuts_units-nothing, cuts_units-front}
use Rattle.std.proofs.lemmas.Bool.{or_from}

-- tests that fail
or-false : (s t : Bool) → (s || t) ≡ false → (s ≡ false) × (t ≡ false)
or-false true t e = absurd (cc)
or-false false t e = (refl, e)

and-later : (b s t : Bool) → (s ≡ false → t ≡ false) → (b && s) ≡ false → (b && t) ≡ false
and-later true s t f e = f e
and-later false s t f e = refl

and-here : (b s : Bool) → b ≡ true → (b && s) ≡ false → s ≡ false
and-here true s e f = f
and-here false s e f = absurd (cc)

not-and : (s t : Bool) → not (s && t) ≡ false → (s ≡ true) × (t ≡ true)
not-and true true e = (refl, refl)
not-and true false e = absurd (cc)
not-and false t e = absurd (cc)

parts-false : (f : Fate) (g : Gaps) → parts f g ≡ false → (f ≡ fate g) × (inserts g ≡ [])
parts-false f g e =
    let p = not-and (same_fate f (fate g)) (is_nothing (inserts g)) e in (fate-fact f (fate g) p.0, nothing-fact (inserts g) p.1)

parts-none : (f : Fate) (g : Gaps) → f ≡ fate g → inserts g ≡ [] → parts f g ≡ false
parts-none f g same none =
    ap (λ h. not (same_fate f h && is_nothing (inserts g))) (sym same)
    ∙ (ap (λ l. not (same_fate f f && is_nothing l)) none ∙ ap (λ t. not (t && true)) (fate-itself f))

-- the last unit and the next one, before two gap forms
parted-from : (x : Element) (d : List Element) (g h : Gaps) → (parts (fate g) (tail g) ≡ false → parts (fate h) (tail h) ≡ false) → is_parted x d g ≡ false → is_parted x d h ≡ false
parted-from x [] g h from e = refl
parted-from x (y ∷ d) g h from e = and-later (is_pair x y) (parts (fate g) (tail g)) (parts (fate h) (tail h)) from e

-- what is inserted before the first unit cuts nothing
cuts-inserts : (d xs ys : List Element) (f : Fate) (g : Gaps) → cuts_units d (Gap xs f g) ≡ cuts_units d (Gap ys f g)
cuts-inserts [] xs ys f g = refl
cuts-inserts (x ∷ []) xs ys f g = refl
cuts-inserts (x ∷ y ∷ d) xs ys f g = refl

-- the units behind some, and those before
cuts-beyond : (xs d : List Element) (b : Gaps) → cuts_units (xs ++ d) b ≡ false → cuts_units d (beyond xs b) ≡ false
cuts-beyond [] d b e = e
cuts-beyond (x ∷ xs) d b e = cuts-beyond xs d (tail b) (or-false (is_parted x (xs ++ d) b) (cuts_units (xs ++ d) (tail b)) e).1

cuts-begin : (xs d : List Element) (b : Gaps) → cuts_units (xs ++ d) b ≡ false → cuts_units xs b ≡ false
cuts-begin [] d b e = refl
cuts-begin (x ∷ []) d b e = refl
cuts-begin (x ∷ y ∷ xs) d b e =
    let p = or-false (is_pair x y && parts (fate b) (tail b)) (cuts_units (y ∷ (xs ++ d)) (tail b)) e in
    or_from (is_pair x y && parts (fate b) (tail b)) (cuts_units (y ∷ xs) (tail b)) p.0 (cuts-begin (y ∷ xs) d (tail b) p.1)

-- a unit that is kept with a change
abbrev changed_unit : Changes → Element → Element
changed_unit c x = record x { attributes = changed x.attributes c }

-- what parts no pair of a document after the first parts none of what the first inserts
inserted-whole : (d : List Element) (a b : Gaps) → units_below a ≤ length d → cuts_units (apply d a) b ≡ false → cuts a b ≡ false
inserted-whole d (End xs) b le e = cuts-begin xs d b e
inserted-whole [] (Gap xs f g) b le e = absurd (omega (arith, le))
inserted-whole (x ∷ d) (Gap xs Del g) b le e =
    or_from (cuts_units xs b) (cuts g (beyond xs b)) (cuts-begin xs (apply d g) b e)
    (inserted-whole d g (beyond xs b) (omega (arith, le)) (cuts-beyond xs (apply d g) b e))
inserted-whole (x ∷ d) (Gap xs (Keep c) g) b le e =
    let rest = cuts-beyond xs (changed_unit c x ∷ apply d g) b e in
    or_from (cuts_units xs b) (cuts g (tail (beyond xs b))) (cuts-begin xs (changed_unit c x ∷ apply d g) b e)
    (inserted-whole d g (tail (beyond xs b)) (omega (arith, le))
    (or-false (is_parted (changed_unit c x) (apply d g) (beyond xs b)) (cuts_units (apply d g) (tail (beyond xs b))) rest).1)

-- a pair that the first deletes
deleted-pair : (g b : Gaps) → parts Del g ≡ false → parts Del (composed g b) ≡ false
deleted-pair (End xs) b e = absurd (cc)
deleted-pair (Gap [] Del g) b e = refl
deleted-pair (Gap (x ∷ xs) Del g) b e = absurd (cc)
deleted-pair (Gap xs (Keep c) g) b e = absurd (cc)

-- one that it keeps
abbrev kept-inside : Fate → Changes
kept-inside Del = empty
kept-inside (Keep c) = c

first_alone : {X : Type 0} (o : Option X) → first_of o None ≡ o
first_alone (Some x) = refl
first_alone None = refl

composed-first : (d : Changes) → change_composed empty d ≡ d
composed-first d =
    same_changes_map (change_composed empty d) d (λ (name : List ℕ). get-composed empty d name ∙ first_alone (get d name))

then-first : (f : Fate) → kept_then empty f ≡ f
then-first Del = refl
then-first (Keep d) = ap Keep (composed-first d)

still-pair : (c : Changes) (x y : Element) → is_pair x y ≡ true → is_pair (changed_unit c x) (changed_unit c y) ≡ true
still-pair c x y e =
    let p = pair-fact x y e in fact-pair (changed_unit c x) (changed_unit c y) (p.0, p.1, ap (λ a. changed a c) p.2)

unchanged-unit : (x : Element) → changed_unit empty x ≡ x
unchanged-unit x = ap (λ a. record x { attributes = a }) (changed-empty x.attributes)

kept-gap : (c : Changes) (x y : Element) (d : List Element) (g b : Gaps) → is_pair x y ≡ true
    → is_parted (changed_unit c x) (changed_unit c y ∷ apply d g) b ≡ false → parts (kept_then c (fate b)) (composed (Gap [] (Keep c) g) (tail b)) ≡ false
kept-gap c x y d g b pair after =
    let p = parts-false (fate b) (tail b) (and-here (is_pair (changed_unit c x) (changed_unit c y)) (parts (fate b) (tail b)) (still-pair c x y pair) after) in
    parts-none (kept_then c (fate b)) (composed (Gap [] (Keep c) g) (tail b)) (ap (kept_then c) p.0) p.1

kept-end : (x y : Element) (d : List Element) (b : Gaps) → is_pair x y ≡ true
    → is_parted (changed_unit empty x) (y ∷ d) b ≡ false → parts (kept_then empty (fate b)) (composed (End []) (tail b)) ≡ false
kept-end x y d b pair after =
    let still : is_pair (changed_unit empty x) y ≡ true = ap (λ u. is_pair u y) (unchanged-unit x) ∙ pair in
    let here = and-here (is_pair (changed_unit empty x) y) (parts (fate b) (tail b)) still after in
    ap (λ f. parts f (front [] (tail b))) (then-first (fate b)) ∙ (ap (parts (fate b)) (front-nil (tail b)) ∙ here)

keeps-none : (c : Changes) → Keep c ≡ Keep empty → c ≡ empty
keeps-none c same = ap kept-inside same

kept-pair : (c : Changes) (x y : Element) (d : List Element) (g b : Gaps) → is_pair x y ≡ true → parts (Keep c) g ≡ false
    → is_parted (changed_unit c x) (apply (y ∷ d) g) b ≡ false → parts (kept_then c (fate b)) (composed g (tail b)) ≡ false
kept-pair c x y d (End []) b pair same after =
    let none = keeps-none c (parts-false (Keep c) (End []) same).0 in
    subst (λ k. is_parted (changed_unit k x) (y ∷ d) b ≡ false → parts (kept_then k (fate b)) (composed (End []) (tail b)) ≡ false) (sym none)
    (kept-end x y d b pair) after
kept-pair c x y d (End (z ∷ zs)) b pair same after = let none = (parts-false (Keep c) (End (z ∷ zs)) same).1 in absurd (cc)
kept-pair c x y d (Gap [] f g) b pair same after =
    let is : Keep c ≡ f = (parts-false (Keep c) (Gap [] f g) same).0 in
    subst (λ h. is_parted (changed_unit c x) (apply (y ∷ d) (Gap [] h g)) b ≡ false → parts (kept_then c (fate b)) (composed (Gap [] h g) (tail b)) ≡ false) is
    (kept-gap c x y d g b pair) after
kept-pair c x y d (Gap (z ∷ zs) f g) b pair same after = let none = (parts-false (Keep c) (Gap (z ∷ zs) f g) same).1 in absurd (cc)

kept-next : (c : Changes) (x : Element) (d xs ys : List Element) (g b : Gaps) → is_parted x d (Gap xs (Keep c) g) ≡ false
    → is_parted (changed_unit c x) (apply d g) b ≡ false → is_parted x d (Gap ys (kept_then c (fate b)) (composed g (tail b))) ≡ false
kept-next c x [] xs ys g b before after = refl
kept-next c x (y ∷ d) xs ys g b before after =
    elim (is_pair x y) as (λ t. is_pair x y ≡ t → (t && parts (Keep c) g) ≡ false → (t && parts (kept_then c (fate b)) (composed g (tail b))) ≡ false) [
      | true ↦ λ pair same. kept-pair c x y d g b pair same after
      | false ↦ λ pair same. refl
    ] refl before

-- so one gap form for two parts no pair
composed-whole : (d : List Element) (a b : Gaps) → units_below a ≤ length d → cuts_units d a ≡ false → cuts_units (apply d a) b ≡ false
    → cuts_units d (composed a b) ≡ false
composed-whole [] a b le before after = refl
composed-whole (x ∷ d) (End xs) b le before after = cuts_units-front (x ∷ d) (units_after xs b) (beyond xs b) ∙ cuts-beyond xs (x ∷ d) b after
composed-whole (x ∷ d) (Gap xs Del g) b le before after =
    let p = or-false (is_parted x d (Gap xs Del g)) (cuts_units d g) before in
    let more = composed g (beyond xs b) in
    cuts_units-front (x ∷ d) (units_after xs b) (Gap [] Del more)
    ∙ or_from (is_parted x d (Gap [] Del more)) (cuts_units d more)
    (parted-from x d (Gap xs Del g) (Gap [] Del more) (deleted-pair g (beyond xs b)) p.0)
    (composed-whole d g (beyond xs b) (omega (arith, le)) p.1 (cuts-beyond xs (apply d g) b after))
composed-whole (x ∷ d) (Gap xs (Keep c) g) b le before after =
    let p = or-false (is_parted x d (Gap xs (Keep c) g)) (cuts_units d g) before in
    let over = beyond xs b in
    let rest = cuts-beyond xs (changed_unit c x ∷ apply d g) b after in
    let q = or-false (is_parted (changed_unit c x) (apply d g) over) (cuts_units (apply d g) (tail over)) rest in
    let more = composed g (tail over) in
    cuts_units-front (x ∷ d) (units_after xs b) (Gap (inserts over) (kept_then c (fate over)) more)
    ∙ or_from (is_parted x d (Gap (inserts over) (kept_then c (fate over)) more)) (cuts_units d more)
    (kept-next c x d xs (inserts over) g over p.0 q.0)
    (composed-whole d g (tail over) (omega (arith, le)) p.1 q.1)

-- and its normal form parts none: settling moves what is inserted only to before a run of deleted units
kept-settled : (c : Changes) (g : Gaps) → parts (Keep c) g ≡ false → parts (Keep c) (settled g) ≡ false
kept-settled c (End xs) e = e
kept-settled c (Gap [] (Keep d) g) e = e
kept-settled c (Gap (x ∷ xs) (Keep d) g) e = let none = (parts-false (Keep c) (Gap (x ∷ xs) (Keep d) g) e).1 in absurd (cc)
kept-settled c (Gap xs Del g) e = absurd (cc)

fate-past : (xs : List Element) (g : Gaps) → fate (front xs (past Del g)) ≡ Del
fate-past xs (End ys) = refl
fate-past xs (Gap ys f g) = refl

deleted-settled : (g : Gaps) → parts Del g ≡ false → Del ≡ fate (settled g)
deleted-settled (End xs) e = absurd (cc)
deleted-settled (Gap xs Del g) e = sym (fate-past xs (settled g))
deleted-settled (Gap xs (Keep c) g) e = absurd (cc)

past-deleted : (x : Element) (d xs : List Element) (g s : Gaps) → (parts Del g ≡ false → Del ≡ fate s) → is_parted x d (Gap xs Del g) ≡ false
    → cuts_units d s ≡ false → cuts_units (x ∷ d) (past Del s) ≡ false
past-deleted x d xs g (End ys) same here rest =
    or_from (is_parted x d (Gap ys Del (End []))) (cuts_units d (End []))
    (parted-from x d (Gap xs Del g) (Gap ys Del (End [])) (λ e. let apart = same e in absurd (cc)) here) (cuts_units-nothing d)
past-deleted x d xs g (Gap ys f h) same here rest =
    or_from (is_parted x d (Gap ys Del (Gap [] f h))) (cuts_units d (Gap [] f h))
    (parted-from x d (Gap xs Del g) (Gap ys Del (Gap [] f h)) (λ e. parts-none Del (Gap [] f h) (same e) refl) here)
    (cuts-inserts d [] ys f h ∙ rest)

settled-whole : (d : List Element) (g : Gaps) → cuts_units d g ≡ false → cuts_units d (settled g) ≡ false
settled-whole [] g e = refl
settled-whole (x ∷ d) (End xs) e = e
settled-whole (x ∷ d) (Gap xs Del g) e =
    let p = or-false (is_parted x d (Gap xs Del g)) (cuts_units d g) e in
    cuts_units-front (x ∷ d) xs (past Del (settled g)) ∙ past-deleted x d xs g (settled g) (deleted-settled g) p.0 (settled-whole d g p.1)
settled-whole (x ∷ d) (Gap xs (Keep c) g) e =
    let p = or-false (is_parted x d (Gap xs (Keep c) g)) (cuts_units d g) e in
    cuts_units-front (x ∷ d) xs (Gap [] (Keep c) (settled g))
    ∙ or_from (is_parted x d (Gap [] (Keep c) (settled g))) (cuts_units d (settled g))
    (parted-from x d (Gap xs (Keep c) g) (Gap [] (Keep c) (settled g)) (kept-settled c g) p.0) (settled-whole d g p.1)

fate-trim : (xs : List Element) (f : Fate) (g : Gaps) → fate (trim xs f g) ≡ f
fate-trim xs (Keep c) (End []) =
    elim (same_changes c empty) as (λ t. same_changes c empty ≡ t → fate (cond t (End xs) (Gap xs (Keep c) (End []))) ≡ Keep c) [
      | true ↦ λ e. ap Keep (sym ((same_changes-Decides c empty).0 e))
      | false ↦ λ e. refl
    ] refl
fate-trim xs (Keep c) (End (y ∷ ys)) = refl
fate-trim xs (Keep c) (Gap ys f g) = refl
fate-trim xs Del g = refl

inserts-trim : (xs : List Element) (f : Fate) (g : Gaps) → inserts (trim xs f g) ≡ xs
inserts-trim xs (Keep c) (End []) =
    elim (same_changes c empty) as (λ t. inserts (cond t (End xs) (Gap xs (Keep c) (End []))) ≡ xs) [ true ↦ refl | false ↦ refl ]
inserts-trim xs (Keep c) (End (y ∷ ys)) = refl
inserts-trim xs (Keep c) (Gap ys f g) = refl
inserts-trim xs Del g = refl

parts-trimmed : (f : Fate) (g : Gaps) → parts f (trimmed g) ≡ parts f g
parts-trimmed f (End xs) = refl
parts-trimmed f (Gap xs h g) =
    ap (λ k. not (same_fate f k && is_nothing (inserts (trim xs h (trimmed g))))) (fate-trim xs h (trimmed g))
    ∙ ap (λ l. not (same_fate f h && is_nothing l)) (inserts-trim xs h (trimmed g))

parted-trimmed : (x : Element) (d xs : List Element) (f : Fate) (g : Gaps) → is_parted x d (Gap xs f (trimmed g)) ≡ is_parted x d (Gap xs f g)
parted-trimmed x [] xs f g = refl
parted-trimmed x (y ∷ d) xs f g = ap (λ t. is_pair x y && t) (parts-trimmed f g)

cuts-kept : (x : Element) (d xs : List Element) → cuts_units (x ∷ d) (End xs) ≡ cuts_units (x ∷ d) (Gap xs (Keep empty) (End []))
cuts-kept x [] xs = refl
cuts-kept x (y ∷ d) xs = refl

cuts-trim : (x : Element) (d xs : List Element) (f : Fate) (g : Gaps) → cuts_units (x ∷ d) (trim xs f g) ≡ cuts_units (x ∷ d) (Gap xs f g)
cuts-trim x d xs (Keep c) (End []) =
    elim (same_changes c empty) as (λ t. same_changes c empty ≡ t
    → cuts_units (x ∷ d) (cond t (End xs) (Gap xs (Keep c) (End []))) ≡ cuts_units (x ∷ d) (Gap xs (Keep c) (End []))) [
      | true ↦ λ e. cuts-kept x d xs ∙ ap (λ k. cuts_units (x ∷ d) (Gap xs (Keep k) (End []))) (sym ((same_changes-Decides c empty).0 e))
      | false ↦ λ e. refl
    ] refl
cuts-trim x d xs (Keep c) (End (y ∷ ys)) = refl
cuts-trim x d xs (Keep c) (Gap ys f g) = refl
cuts-trim x d xs Del g = refl

cuts-trimmed : (d : List Element) (g : Gaps) → cuts_units d (trimmed g) ≡ cuts_units d g
cuts-trimmed [] g = refl
cuts-trimmed (x ∷ d) (End xs) = refl
cuts-trimmed (x ∷ d) (Gap xs f g) =
    cuts-trim x d xs f (trimmed g)
    ∙ (ap (λ t. t || cuts_units d (trimmed g)) (parted-trimmed x d xs f g) ∙ ap (λ t. is_parted x d (Gap xs f g) || t) (cuts-trimmed d g))

nf-whole : (d : List Element) (g : Gaps) → cuts_units d g ≡ false → cuts_units d (counted (nf g)) ≡ false
nf-whole d g e =
    ap (cuts_units d) (counted-spelled (trimmed (settled g))) ∙ (cuts-trimmed d (settled g) ∙ settled-whole d g e)

-- by the facts that the tests stand for
whole-test : (d : List Element) (g : Gaps) → ¬ (Cuts d g) → cuts_units d g ≡ false
whole-test d g whole =
    elim (cuts_units d g) as (λ t. cuts_units d g ≡ t → t ≡ false) [ true ↦ λ e. absurd (whole (cut-there d g e)) | false ↦ λ e. refl ] refl

pub test-whole : (d : List Element) (g : Gaps) → cuts_units d g ≡ false → ¬ (Cuts d g)
test-whole d g e cut = let told = units-cut d g cut in absurd (cc)

pub whole-nothing : (d : List Element) → ¬ (Cuts d (counted []))
whole-nothing d = test-whole d (End []) (cuts_units-nothing d)

pub whole-one : (d : List Element) (a b : List Operation) → IsDefined d (counted a) → ¬ (Cuts d (counted a)) → ¬ (Cuts (apply d (counted a)) (counted b))
    → ¬ (Cuts d (counted (one_for a b)))
whole-one d a b defined first second =
    test-whole d (counted (one_for a b)) (nf-whole d (composed (counted a) (counted b))
    (composed-whole d (counted a) (counted b) defined (whole-test d (counted a) first) (whole-test (apply d (counted a)) (counted b) second)))

pub whole-text : (d : List Element) (a b : List Operation) → IsDefined d (counted a) → ¬ (Cuts (apply d (counted a)) (counted b)) → ¬ (CutsText a b)
whole-text d a b defined second cut =
    let whole = inserted-whole d (counted a) (counted b) defined (whole-test (apply d (counted a)) (counted b) second) in
    let told = text-cut a b cut in
    absurd (cc)
