-- What settling and trimming leave of a gap form, and when they leave it as it is.
use Rattle.std.proofs.Common.{◌≡◌, Bool, true, false, cond, List, [], ◌∷◌, refl, sym, ap, ◌∙◌}
use Rattle.std.proofs.lemmas.List.{append-nil}
use Rattle.attributes.specs.Map.{empty}
use Rattle.attributes.specs.Attributes.{Changes, same_changes}
use Rattle.delta.specs.Element.{Element}
use Rattle.delta.specs.Gaps.{Gaps, End, Gap, Fate, Del, Keep, front, joined}
pub use Rattle.delta.specs.Places.{IsBare}
use Rattle.delta.specs.Normal.{past, settled, trim, trimmed}
use Rattle.delta.proofs.Joins.{front-nil, front-front, joined-front}

-- nothing is inserted directly after a deleted unit
abbrev pub IsSettled : Gaps → Type 0
IsSettled (End xs) = Unit {0}
IsSettled (Gap xs (Keep c) g) = IsSettled g
IsSettled (Gap xs Del g) = IsBare g × IsSettled g

-- its last unit is kept without a change, and nothing is inserted after it
abbrev pub ends_kept : Gaps → Bool
ends_kept (End xs) = false
ends_kept (Gap xs (Keep c) (End [])) = same_changes c empty
ends_kept (Gap xs f g) = ends_kept g

pub IsSettled-front : (xs : List Element) (g : Gaps) → IsSettled g → IsSettled (front xs g)
IsSettled-front xs (End ys) h = tt
IsSettled-front xs (Gap ys (Keep c) g) h = h
IsSettled-front xs (Gap ys Del g) h = h

pub IsSettled-past : (f : Fate) (g : Gaps) → IsSettled g → IsSettled (past f g)
IsSettled-past (Keep c) g h = h
IsSettled-past Del (End ys) h = (tt, tt)
IsSettled-past Del (Gap ys (Keep c) g) h = (tt, h)
IsSettled-past Del (Gap ys Del g) h = (tt, h)

pub IsSettled-settled : (g : Gaps) → IsSettled (settled g)
IsSettled-settled (End xs) = tt
IsSettled-settled (Gap xs f g) = IsSettled-front xs (past f (settled g)) (IsSettled-past f (settled g) (IsSettled-settled g))

past-bare : (g : Gaps) → IsBare g → past Del g ≡ Gap [] Del g
past-bare (End []) h = refl
past-bare (End (x ∷ xs)) h = absurd h
past-bare (Gap [] f g) h = refl
past-bare (Gap (x ∷ xs) f g) h = absurd h

pub front-Gap : (xs : List Element) (f : Fate) (g : Gaps) → front xs (Gap [] f g) ≡ Gap xs f g
front-Gap xs f g = ap (λ l. Gap l f g) (append-nil xs)

-- settling leaves what is settled
pub settled-same : (g : Gaps) → IsSettled g → settled g ≡ g
settled-same (End xs) h = refl
settled-same (Gap xs (Keep c) g) h = ap (λ k. front xs (Gap [] (Keep c) k)) (settled-same g h) ∙ front-Gap xs (Keep c) g
settled-same (Gap xs Del g) h = ap (λ k. front xs (past Del k)) (settled-same g h.1) ∙ (ap (front xs) (past-bare g h.0) ∙ front-Gap xs Del g)

pub settled-settled : (g : Gaps) → settled (settled g) ≡ settled g
settled-settled g = settled-same (settled g) (IsSettled-settled g)

pub settled-front : (xs : List Element) (g : Gaps) → settled (front xs g) ≡ front xs (settled g)
settled-front xs (End ys) = refl
settled-front xs (Gap ys f g) = sym (front-front xs ys (past f (settled g)))

-- what is inserted after a deleted unit moves before it
pub past-front : (xs : List Element) (g : Gaps) → past Del (front xs g) ≡ front xs (past Del g)
past-front xs (End ys) = refl
past-front xs (Gap ys f g) = refl

-- what settles in the first of two settles in both, one after the other
pub settled-joined : (g h : Gaps) → settled (joined (settled g) h) ≡ settled (joined g h)
settled-joined (End xs) h = refl
settled-joined (Gap xs f g) h =
    ap settled (joined-front xs (past f (settled g)) h)
    ∙ (settled-front xs (joined (past f (settled g)) h) ∙ ap (front xs) (after f (settled g) ∙ ap (past f) (settled-joined g h)))
  where
    after : (f : Fate) (k : Gaps) → settled (joined (past f k) h) ≡ past f (settled (joined k h))
    after (Keep c) k = refl
    after Del (End ys) =
        ap (λ k. front ys (past Del (settled k))) (front-nil h) ∙ (sym (past-front ys (settled h)) ∙ ap (past Del) (sym (settled-front ys h)))
    after Del (Gap ys e k) =
        ap (λ m. front ys (past Del m)) (front-nil (past e (settled (joined k h)))) ∙ sym (past-front ys (past e (settled (joined k h))))

-- and what settles in the second
pub settled-joined_settled : (g h : Gaps) → settled (joined g (settled h)) ≡ settled (joined g h)
settled-joined_settled (End xs) h =
    settled-front xs (settled h) ∙ (ap (front xs) (settled-settled h) ∙ sym (settled-front xs h))
settled-joined_settled (Gap xs f g) h = ap (λ k. front xs (past f k)) (settled-joined_settled g h)

-- trimming keeps what is settled settled
IsBare-trim : (f : Fate) (g : Gaps) → IsBare (trim [] f g)
IsBare-trim (Keep c) (End []) =
    elim (same_changes c empty) as (λ t. IsBare (cond t (End []) (Gap [] (Keep c) (End [])))) [ true ↦ tt | false ↦ tt ]
IsBare-trim (Keep c) (End (x ∷ xs)) = tt
IsBare-trim (Keep c) (Gap xs e g) = tt
IsBare-trim Del g = tt

IsBare-trimmed : (g : Gaps) → IsBare g → IsBare (trimmed g)
IsBare-trimmed (End []) h = tt
IsBare-trimmed (End (x ∷ xs)) h = absurd h
IsBare-trimmed (Gap [] f g) h = IsBare-trim f (trimmed g)
IsBare-trimmed (Gap (x ∷ xs) f g) h = absurd h

IsSettled-trim : (xs : List Element) (c : Changes) (g : Gaps) → IsSettled g → IsSettled (trim xs (Keep c) g)
IsSettled-trim xs c (End []) h =
    elim (same_changes c empty) as (λ t. IsSettled (cond t (End xs) (Gap xs (Keep c) (End [])))) [ true ↦ tt | false ↦ tt ]
IsSettled-trim xs c (End (y ∷ ys)) h = tt
IsSettled-trim xs c (Gap ys f g) h = h

pub IsSettled-trimmed : (g : Gaps) → IsSettled g → IsSettled (trimmed g)
IsSettled-trimmed (End xs) h = tt
IsSettled-trimmed (Gap xs (Keep c) g) h = IsSettled-trim xs c (trimmed g) (IsSettled-trimmed g h)
IsSettled-trimmed (Gap xs Del g) h = (IsBare-trimmed g h.0, IsSettled-trimmed g h.1)

-- no kept unit without a change is left last
ends_kept-trim : (xs : List Element) (f : Fate) (g : Gaps) → ends_kept g ≡ false → ends_kept (trim xs f g) ≡ false
ends_kept-trim xs (Keep c) (End []) h =
    elim (same_changes c empty) as (λ t. same_changes c empty ≡ t → ends_kept (cond t (End xs) (Gap xs (Keep c) (End []))) ≡ false) [
      | true ↦ λ e. refl
      | false ↦ λ e. e
    ] refl
ends_kept-trim xs (Keep c) (End (y ∷ ys)) h = refl
ends_kept-trim xs (Keep c) (Gap ys f g) h = h
ends_kept-trim xs Del (End ys) h = refl
ends_kept-trim xs Del (Gap ys f g) h = h

pub ends_kept-trimmed : (g : Gaps) → ends_kept (trimmed g) ≡ false
ends_kept-trimmed (End xs) = refl
ends_kept-trimmed (Gap xs f g) = ends_kept-trim xs f (trimmed g) (ends_kept-trimmed g)

-- trimming leaves what ends otherwise
trim-same : (xs : List Element) (f : Fate) (g : Gaps) → ends_kept (Gap xs f g) ≡ false → trim xs f g ≡ Gap xs f g
trim-same xs (Keep c) (End []) h = rw h
trim-same xs (Keep c) (End (y ∷ ys)) h = refl
trim-same xs (Keep c) (Gap ys f g) h = refl
trim-same xs Del g h = refl

pub ends_kept-rest : (xs : List Element) (f : Fate) (g : Gaps) → ends_kept (Gap xs f g) ≡ false → ends_kept g ≡ false
ends_kept-rest xs f (End ys) h = refl
ends_kept-rest xs (Keep c) (Gap ys e g) h = h
ends_kept-rest xs Del (Gap ys e g) h = h

pub trimmed-same : (g : Gaps) → ends_kept g ≡ false → trimmed g ≡ g
trimmed-same (End xs) h = refl
trimmed-same (Gap xs f g) h = ap (trim xs f) (trimmed-same g (ends_kept-rest xs f g h)) ∙ trim-same xs f g h

pub trimmed-trimmed : (g : Gaps) → trimmed (trimmed g) ≡ trimmed g
trimmed-trimmed g = trimmed-same (trimmed g) (ends_kept-trimmed g)
