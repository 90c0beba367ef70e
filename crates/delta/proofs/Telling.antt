-- Documents that tell gap forms apart: units whose item stands in none of the inserts, with any attributes.
use Rattle.std.proofs.Common.{◌≡◌, ℕ, zero, suc, ◌+◌, ◌<◌, ◌≤◌, true, cond, List, [], ◌∷◌, ◌++◌, length, replicate, Option, Some, None, refl, sym, ap, subst, ◌∙◌, arith}
use Rattle.std.proofs.lemmas.List.{append_cancel_left, length-replicate}
use Rattle.std.specs.Cmp.Lexicographic.{nat_list_cmp_total}
use Rattle.std.specs.Cmp.{eq_by_cmp_equiv}
use Rattle.attributes.specs.Map.{empty, get, insert}
use Rattle.attributes.specs.Attributes.{Attributes, Changes, changed}
use Rattle.attributes.specs.Laws.{value_after}
use Rattle.attributes.specs.Scalar.{Scalar, text_scalar, whole_scalar, flag_scalar}
use Rattle.attributes.proofs.CallerLemmas.{get-changed, same_changes_map, get-insert}
use Rattle.delta.specs.Element.{Element, Item, code_unit, embed}
use Rattle.delta.specs.Gaps.{Gaps, End, Gap, Del, Keep, fated, apply, units_below}
use Rattle.delta.proofs.Settling.{IsBare, IsSettled}

-- a change is told from others by what it makes of attributes without the name and with it
value_told : (p q : Option (Option Scalar)) (x : Scalar) → value_after p None ≡ value_after q None → value_after p (Some x) ≡ value_after q (Some x) → p ≡ q
value_told None None x without with_it = refl
value_told None (Some v) x without with_it = absurd (cc)
value_told (Some v) None x without with_it = absurd (cc)
value_told (Some v) (Some w) x without with_it = ap Some without

pub told_changes : (c d : Changes) → ((a : Attributes) → changed a c ≡ changed a d) → c ≡ d
told_changes c d same =
    same_changes_map c d (λ name.
    let at_name : (a : Attributes) → value_after (get c name) (get a name) ≡ value_after (get d name) (get a name)
    = λ a. sym (get-changed a c name) ∙ (ap (λ (b : Attributes). get b name) (same a) ∙ get-changed a d name) in
    let there : get (insert (empty {X = Scalar}) name (flag_scalar true)) name ≡ Some (flag_scalar true)
    = get-insert (empty {X = Scalar}) name (flag_scalar true) name ∙ ap (λ b. cond b (Some (flag_scalar true)) None) ((eq_by_cmp_equiv nat_list_cmp_total).refl name) in
    value_told (get c name) (get d name) (flag_scalar true) (at_name empty)
    (subst (λ o. value_after (get c name) o ≡ value_after (get d name) o) there (at_name (insert empty name (flag_scalar true)))))

-- how long the text of an embed is
size : Item → ℕ
size (embed key (text_scalar t)) = length t
size (embed key (whole_scalar n)) = 0
size (embed key (flag_scalar b)) = 0
size (code_unit u) = 0

size_of : Element → ℕ
unfolding size
size_of x = size x.item

-- an embed of the name "x" with a text of n letters
abbrev marked : ℕ → Attributes → Element
marked n a = record { item = embed (120 ∷ []) (text_scalar (replicate n 97)); attributes = a }

size-marked : (n : ℕ) (a : Attributes) → size_of (marked n a) ≡ n
unfolding size size_of
size-marked n a = length-replicate n 97

-- none is larger
abbrev IsBelow : ℕ → List Element → Type 0
IsBelow m [] = Unit {0}
IsBelow m (x ∷ xs) = (size_of x ≤ m) × IsBelow m xs

-- each is larger
abbrev IsAbove : ℕ → List Element → Type 0
IsAbove m [] = Unit {0}
IsAbove m (x ∷ xs) = (m < size_of x) × IsAbove m xs

IsBelow-append : (m : ℕ) (xs ys : List Element) → IsBelow m xs → IsBelow m ys → IsBelow m (xs ++ ys)
IsBelow-append m [] ys h k = k
IsBelow-append m (x ∷ xs) ys h k = (h.0, IsBelow-append m xs ys h.1 k)

-- where the first larger unit stands
seam : (m : ℕ) (xs ys : List Element) (x y : Element) (p q : List Element) → IsBelow m xs → IsBelow m ys → m < size_of x → m < size_of y → xs ++ x ∷ p ≡ ys ++ y ∷ q
    → (xs ≡ ys) × (x ≡ y) × (p ≡ q)
seam m [] [] x y p q hx hy lx ly e = (refl, cc, cc)
seam m [] (b ∷ ys) x y p q hx hy lx ly e = let same : x ≡ b = cc in absurd (omega (arith, ap size_of same, lx, hy.0))
seam m (a ∷ xs) [] x y p q hx hy lx ly e = let same : a ≡ y = cc in absurd (omega (arith, ap size_of same, ly, hx.0))
seam m (a ∷ xs) (b ∷ ys) x y p q hx hy lx ly e =
    let rest = seam m xs ys x y p q hx.1 hy.1 lx ly (cc) in
    let same : a ≡ b = cc in
    let tails = rest.0 in
    (cc, rest.1, rest.2)

-- nothing larger stands in a list of none larger
absent : (m : ℕ) (xs : List Element) (x : Element) (p : List Element) → IsBelow m (xs ++ x ∷ p) → m < size_of x → ⊥
absent m [] x p h l = absurd (omega (arith, h.0, l))
absent m (a ∷ xs) x p h l = absent m xs x p h.1 l

-- the sizes of inserted units
total : List Element → ℕ
total [] = 0
total (x ∷ xs) = size_of x + total xs

total_of : Gaps → ℕ
total_of (End xs) = total xs
total_of (Gap xs f g) = total xs + total_of g

IsBelow-total : (m : ℕ) (xs : List Element) → total xs ≤ m → IsBelow m xs
unfolding total
IsBelow-total m [] h = tt
IsBelow-total m (x ∷ xs) h = (omega (arith, h), IsBelow-total m xs (omega (arith, h)))

IsBelow-apply : (m : ℕ) (d : List Element) (g : Gaps) → IsBelow m d → total_of g ≤ m → IsBelow m (apply d g)
unfolding total_of size size_of
IsBelow-apply m d (End xs) h l = IsBelow-append m xs d (IsBelow-total m xs l) h
IsBelow-apply m [] (Gap xs f g) h l = IsBelow-append m xs (apply [] g) (IsBelow-total m xs (omega (arith, l))) (IsBelow-apply m [] g tt (omega (arith, l)))
IsBelow-apply m (x ∷ d) (Gap xs Del g) h l =
    IsBelow-append m xs (apply d g) (IsBelow-total m xs (omega (arith, l))) (IsBelow-apply m d g h.1 (omega (arith, l)))
IsBelow-apply m (x ∷ d) (Gap xs (Keep c) g) h l =
    IsBelow-append m xs (fated (Keep c) x ++ apply d g) (IsBelow-total m xs (omega (arith, l))) (h.0, IsBelow-apply m d g h.1 (omega (arith, l)))

-- gap forms have the same effect on every document that is long enough for both
abbrev pub HaveSame : Gaps → Gaps → Type 0
HaveSame g h = (d : List Element) → units_below g ≤ length d → units_below h ≤ length d → apply d g ≡ apply d h

-- both keep the first unit
pub keep_keep : (xs ys : List Element) (c e : Changes) (g h : Gaps) → HaveSame (Gap xs (Keep c) g) (Gap ys (Keep e) h) → (a : Attributes) (d : List Element)
    → units_below g ≤ length d → units_below h ≤ length d → (xs ≡ ys) × (changed a c ≡ changed a e) × (apply d g ≡ apply d h)
keep_keep xs ys c e g h same a d long_g long_h =
    let m = total xs + total ys in
    let parts = seam m xs ys (marked (suc m) (changed a c)) (marked (suc m) (changed a e)) (apply d g) (apply d h) (IsBelow-total m xs (omega arith)) (IsBelow-total m ys (omega arith))
    (omega (arith, size-marked (suc m) (changed a c))) (omega (arith, size-marked (suc m) (changed a e))) (same (marked (suc m) a ∷ d) (omega (arith, long_g)) (omega (arith, long_h))) in
    (parts.0, ap (λ (x : Element). x.attributes) parts.1, parts.2)

-- one keeps the first unit and the other deletes it
pub plain : Element
plain = record { item = code_unit 0; attributes = empty }

IsBelow-plain : (m n : ℕ) → IsBelow m (replicate n plain)
unfolding plain size size_of
IsBelow-plain m zero = tt
IsBelow-plain m (suc n) = (omega arith, IsBelow-plain m n)

pub keep_delete : (xs ys : List Element) (c : Changes) (g h : Gaps) → HaveSame (Gap xs (Keep c) g) (Gap ys Del h) → ⊥
keep_delete xs ys c g h same =
    let m = total ys + total_of h in
    let n = units_below g + units_below h in
    let d = replicate n plain in
    let long = length-replicate n plain in
    absent m xs (marked (suc m) (changed empty c)) (apply d g)
    (subst (IsBelow m) (sym (same (marked (suc m) empty ∷ d) (omega (arith, long)) (omega (arith, long))))
    (IsBelow-append m ys (apply d h) (IsBelow-total m ys (omega arith)) (IsBelow-apply m d h (IsBelow-plain m n) (omega arith))))
    (omega (arith, size-marked (suc m) (changed empty c)))

-- both delete it: the next unit that is left stands directly after what is inserted
record Opens (m : ℕ) (units : List Element) : Type 0 where
  first : Element
  rest : List Element
  is : units ≡ first ∷ rest
  large : m < size_of first

opens : (m : ℕ) (d : List Element) (g : Gaps) → IsBare g → IsSettled g → IsAbove m d → units_below g < length d → Opens m (apply d g)
unfolding size_of
opens m [] g bare settled large long = absurd (omega (arith, long))
opens m (x ∷ d) (End []) bare settled large long = record { first = x; rest = d; is = refl; large = large.0 }
opens m (x ∷ d) (End (y ∷ ys)) bare settled large long = absurd bare
opens m (x ∷ d) (Gap (y ∷ ys) f g) bare settled large long = absurd bare
opens m (x ∷ d) (Gap [] (Keep c) g) bare settled large long =
    record { first = record x { attributes = changed x.attributes c }; rest = apply d g; is = refl; large = large.0 }
opens m (x ∷ d) (Gap [] Del g) bare settled large long = opens m d g settled.0 settled.1 large.1 (omega (arith, long))

IsAbove-marked : (m n : ℕ) → IsAbove m (replicate n (marked (suc m) empty))
IsAbove-marked m zero = tt
IsAbove-marked m (suc n) = (omega (arith, size-marked (suc m) empty), IsAbove-marked m n)

pub delete_delete : (xs ys : List Element) (g h : Gaps) → IsBare g → IsSettled g → IsBare h → IsSettled h → HaveSame (Gap xs Del g) (Gap ys Del h) → xs ≡ ys
delete_delete xs ys g h bare_g settled_g bare_h settled_h same =
    let m = total xs + total ys in
    let n = suc (units_below g + units_below h) in
    let d = replicate n (marked (suc m) empty) in
    let long = length-replicate n (marked (suc m) empty) in
    let left = opens m d g bare_g settled_g (IsAbove-marked m n) (omega (arith, long)) in
    let right = opens m d h bare_h settled_h (IsAbove-marked m n) (omega (arith, long)) in
    (seam m xs ys left.first right.first left.rest right.rest (IsBelow-total m xs (omega arith)) (IsBelow-total m ys (omega arith)) left.large right.large
    (ap (λ l. xs ++ l) (sym left.is) ∙ (same (marked (suc m) empty ∷ d) (omega (arith, long)) (omega (arith, long)) ∙ ap (λ l. ys ++ l) right.is))).0

pub same_rest : (xs ys : List Element) (g h : Gaps) → xs ≡ ys → HaveSame (Gap xs Del g) (Gap ys Del h) → HaveSame g h
same_rest xs ys g h inserts same d long_g long_h =
    append_cancel_left xs (apply d g) (apply d h) (same (plain ∷ d) (omega (arith, long_g)) (omega (arith, long_h)) ∙ ap (λ l. l ++ apply d h) (sym inserts))
