-- A place between two parts of a document.
use Rattle.std.proofs.Common.{◌≡◌, Bool, true, false, List, [], ◌∷◌, ◌++◌, length, refl, sym, ap, ◌∙◌, arith}
use Rattle.std.proofs.lemmas.List.{append-nil, append_assoc, length-append}
use Rattle.delta.specs.Element.{Element}
use Rattle.delta.specs.Gaps.{Gaps, End, Gap, fated, apply}
use Rattle.xform.specs.Place.{place, up_to, onward}
use Rattle.xform.specs.Laws.{PlaceBetween}
use Rattle.delta.proofs.CallerLemmas.{length-fated}

-- what is inserted just there
parted : (xs rest : List Element) → xs ++ rest ≡ (xs ++ []) ++ ([] ++ rest)
parted xs rest = ap (λ l. l ++ rest) (sym (append-nil xs))

parts : (d e : List Element) (g : Gaps) (priority : Bool) → apply (d ++ e) g ≡ apply d (up_to g (length d) priority) ++ apply e (onward g (length d) priority)
parts [] e (End xs) true = refl
parts [] e (End xs) false = parted xs e
parts [] [] (Gap xs f g) true = refl
parts [] [] (Gap xs f g) false = parted xs (apply [] g)
parts [] (y ∷ e) (Gap xs f g) true = refl
parts [] (y ∷ e) (Gap xs f g) false = parted xs (fated f y ++ apply e g)
parts (x ∷ d) e (End xs) priority = sym (append_assoc xs (x ∷ d) e)
parts (x ∷ d) e (Gap xs f g) priority =
    let before = apply d (up_to g (length d) priority) in
    let behind = apply e (onward g (length d) priority) in
    ap (λ l. xs ++ (fated f x ++ l)) (parts d e g priority)
    ∙ (ap (λ l. xs ++ l) (sym (append_assoc (fated f x) before behind)) ∙ sym (append_assoc xs (fated f x ++ before) behind))

stands : (d : List Element) (g : Gaps) (priority : Bool) → length (apply d (up_to g (length d) priority)) ≡ place g (length d) priority
stands [] (End xs) true = refl
stands [] (End xs) false = ap length (append-nil xs)
stands [] (Gap xs f g) true = refl
stands [] (Gap xs f g) false = ap length (append-nil xs)
stands (x ∷ d) (End xs) priority = length-append xs (x ∷ d)
stands (x ∷ d) (Gap xs f g) priority =
    let before = apply d (up_to g (length d) priority) in
    omega (arith, stands d g priority, length-append xs (fated f x ++ before), length-append (fated f x) before, length-fated f x)

pub place_between : PlaceBetween
place_between d e g priority = (parts d e g priority, stands d g priority)
