-- Writes to a stream whose bytes may be known.
use Rattle.std.proofs.Common.{◌≡◌, ◌++◌, ◌+◌, ◌≤◌, List, ℕ, [], ◌∷◌, suc, length, take, drop, true, false, cond, refl, subst, arith, Option, Some, None, Result, Ok, Err, OnOk, OnErr, sym, ap, ◌∙◌, append_assoc, true≢false}
use Rattle.std.specs.Result.{is_ok, is_err}
use Rattle.std.proofs.lemmas.List.{take_at, take-append-drop, take-append-le, length-append}
use Rattle.std.specs.Io.KnownBytes.{Appends, Keeps}
use Rattle.session.specs.Output.{AppendsFront}
pub use Rattle.std.proofs.KnownBytes.{Appends-nil as appends-nothing, Appends-kept as appends-kept}

-- what holds of a call that succeeds holds where it did not fail
pub on_ok : {T E : Type 0} {P : Type 0} (r : Result T E) → is_err r ≡ false → OnOk r P → P
on_ok (Ok x) succeeded h = h
on_ok (Err e) failed h = absurd (true≢false failed)

-- what was, where a call failed
pub on_failed : {T E X : Type 0} (r : Result T E) (x after before : X) → x ≡ cond (is_ok r) after before → is_err r ≡ true → x ≡ before
on_failed (Ok t) x after before is failed = absurd (true≢false (sym failed))
on_failed (Err e) x after before is failed = is

-- what holds anyhow holds of a call that fails
pub on_err : {T E : Type 0} {P : Type 0} (r : Result T E) → P → OnErr r P
on_err (Ok x) h = tt
on_err (Err e) h = h

-- one write after another
pub appends-both : (a b c : Option (List ℕ)) (front back : List ℕ) → Appends a b front → Appends b c back → Appends a c (front ++ back)
appends-both None b c front back first second = tt
appends-both (Some x) None c front back first second = absurd first
appends-both (Some x) (Some y) None front back first second = absurd second
appends-both (Some x) (Some y) (Some z) front back first second = second ∙ ap (λ l. l ++ back) first ∙ append_assoc x front back

-- a prefix of a text, and of one text behind another
pub front-of : (a b : Option (List ℕ)) (done rest text : List ℕ) → done ++ rest ≡ text → Appends a b done → AppendsFront a b text
front-of a b done rest text whole written = (
  length done,
  subst (λ (l : List ℕ). length done ≤ length l) whole (let len = length-append done rest in omega arith),
  subst (Appends a b) (sym (ap (take (length done)) (sym whole) ∙ take_at done rest (length done) refl)) written,
)

-- and where the last write took nothing
pub front-kept : (a b c : Option (List ℕ)) (done rest text : List ℕ) → done ++ rest ≡ text → Appends a b done → Keeps b c → AppendsFront a c text
front-kept a b c done rest text whole written kept = front-of a c done rest text whole (appends-kept a b c done written kept)

pub take-behind : (front back : List ℕ) (n : ℕ) → take (length front + n) (front ++ back) ≡ front ++ take n back
take-behind [] back n = ap (λ k. take k back) (omega arith)
take-behind (x ∷ xs) back n =
    ap (λ k. take k (x ∷ (xs ++ back))) (let one : length (x ∷ xs) + n ≡ suc (length xs + n) = omega arith in one)
    ∙ ap (λ (l : List ℕ). x ∷ l) (take-behind xs back n)

pub front-behind : (a b c : Option (List ℕ)) (front back : List ℕ) → Appends a b front → AppendsFront b c back → AppendsFront a c (front ++ back)
front-behind a b c front back first (n, within, second) = (
  length front + n,
  (let len = length-append front back in omega arith),
  subst (Appends a c) (sym (take-behind front back n)) (appends-both a b c front (take n back) first second),
)

-- one more write of a part of what is left
pub moved : (a b c : Option (List ℕ)) (done rest left text : List ℕ) (n : ℕ) → left ≡ drop n rest → done ++ rest ≡ text
    → Appends a b done → Appends b c (take n rest) → (more : List ℕ) × (more ++ left ≡ text) × Appends a c more
moved a b c done rest left text n is whole first second = (
  done ++ take n rest,
  ap (λ (l : List ℕ). (done ++ take n rest) ++ l) is ∙ append_assoc done (take n rest) (drop n rest) ∙ ap (λ (l : List ℕ). done ++ l) (take-append-drop n rest) ∙ whole,
  appends-both a b c done (take n rest) first second,
)

-- a prefix of a text is one of a longer text
pub front-longer : (a b : Option (List ℕ)) (front back : List ℕ) → AppendsFront a b front → AppendsFront a b (front ++ back)
front-longer a b front back (n, within, written) = (
  n,
  (let len = length-append front back in omega arith),
  subst (Appends a b) (sym (take-append-le n front back within)) written,
)
