-- A delta after another that it doesn't overlap: one ends before the other begins.
use Rattle.std.proofs.Common.{◌≡◌, ℕ, zero, suc, ◌+◌, ◌-◌, ◌<◌, ◌≤◌, ◌^◌, inl, Bool, true, false, cond, List, [], ◌∷◌, length, Some, None, refl, sym, ap, subst, ◌∙◌, arith}
use Rattle.std.specs.Prelude.{◌==◌}
use Rattle.std.proofs.lemmas.Bool.{eqb-true}
use Rattle.attributes.specs.Attributes.{Changes, transformed, same_changes, same_changes-Decides}
use Rattle.attributes.specs.Map.{empty, contains}
use Rattle.attributes.proofs.CallerLemmas.{same_changes_map, get-transformed, cond_same}
use Rattle.delta.specs.Operation.{Operation, insert_text, insert_embed, retain, delete, base_of, out_of}
use Rattle.delta.specs.Lead.{lead_of}
use Rattle.delta.specs.Gaps.{Gaps, End, Gap, Fate, Del, Keep, run, counted, units_below, units_kept, units_made}
use Rattle.delta.specs.Normal.{IsNormal, nf}
use Rattle.delta.proofs.CallerLemmas.{front-nil, run-parts, units_below-counted, units_made-counted, nf-same}
use Rattle.xform.specs.After.{fate_after, left_of, after, second_past}
use Rattle.xform.specs.steps.Moving.{IsMovedLead}
use Rattle.xform.proofs.Heads.{after-first, after-nothing, front-End, front-Gap}

-- no change takes none of a change's names, and of no change none is left
transformed-nothing : (c : Changes) → transformed empty c true ≡ c
transformed-nothing c = same_changes_map (transformed empty c true) c (get-transformed empty c)

nothing-transformed : (c : Changes) → transformed c empty true ≡ empty
nothing-transformed c =
    same_changes_map (transformed c empty true) empty (λ name. get-transformed c empty name ∙ cond_same (contains c name) None)

fate-stays : (e : Fate) → fate_after empty e true ≡ e
fate-stays Del = refl
fate-stays (Keep c) = ap Keep (transformed-nothing c)

-- the second ends before the first does anything
pub after-before : (n : ℕ) (g h : Gaps) → units_below h < n → after (run n (Keep empty) g) h true ≡ h
after-before zero g h short = absurd (omega (arith, short))
after-before (suc n) g (End ys) short = front-End ys
after-before (suc n) g (Gap ys e h) short =
    let fate = fate-stays e in
    let rest = after-before n g h (omega (arith, short)) in
    front-Gap ys (fate_after empty e true) (after (run n (Keep empty) g) h true) ∙ (λ i. Gap ys (fate i) (rest i))

-- units kept, in two parts
kept-parts : (m n k : ℕ) (g : Gaps) → m ≡ n + k → run n (Keep empty) (run k (Keep empty) g) ≡ run m (Keep empty) g
kept-parts m n k g sum = sym (run-parts m n k (Keep empty) g sum)

-- a unit that the first speaks of and the second keeps
left-kept : (f : Fate) (g : Gaps) → left_of f (Keep empty) true g ≡ run (units_kept f) (Keep empty) g
left-kept Del g = refl
left-kept (Keep c) g = ap (λ e. Gap [] (Keep e) g) (nothing-transformed c)

-- the second keeps all that the first speaks of, and some units more
pub after-behind : (g h : Gaps) (kept more moved : ℕ) → kept ≡ units_below g + more → moved ≡ units_made g + more
    → after g (run kept (Keep empty) h) true ≡ run moved (Keep empty) h
after-behind (End xs) h kept more moved is moved_is =
    ap (λ g. after g (run kept (Keep empty) h) true) (sym (front-End xs))
    ∙ (after-first xs (End []) (run kept (Keep empty) h) true (inl refl)
    ∙ (ap (run (length xs) (Keep empty)) (after-nothing (run kept (Keep empty) h) true)
    ∙ kept-parts moved (length xs) kept h (omega (arith, is, moved_is))))
after-behind (Gap xs f g) h zero more moved is moved_is = absurd (omega (arith, is))
after-behind (Gap xs f g) h (suc kept) more moved is moved_is =
    let rest = after-behind g h kept more (units_made g + more) (omega (arith, is)) refl in
    ap (run (length xs) (Keep empty))
    (front-nil (left_of f (Keep empty) true (after g (run kept (Keep empty) h) true))
    ∙ (left-kept f (after g (run kept (Keep empty) h) true)
    ∙ (ap (run (units_kept f) (Keep empty)) rest
    ∙ kept-parts (units_kept f + (units_made g + more)) (units_kept f) (units_made g + more) h refl)))
    ∙ kept-parts moved (length xs) (units_kept f + (units_made g + more)) h (omega (arith, moved_is))

pub none-from : (ops : List Operation) → (length ops == 0) ≡ true → ops ≡ []
none-from [] e = refl
none-from (op ∷ ops) e = absurd (omega (arith, eqb-true (length (op ∷ ops)) 0 e))

-- operations that begin with a retain without attributes, of this length
lead-parts : (kept n : ℕ) (c : Changes) (ops : List Operation) → cond (same_changes c empty) (Some n) None ≡ Some kept
    → (rest : List Operation) × (retain n c ∷ ops ≡ retain kept empty ∷ rest)
lead-parts kept n c ops is = parts (same_changes c empty) refl is
  where
    parts : (b : Bool) → same_changes c empty ≡ b → cond b (Some n) None ≡ Some kept
        → (rest : List Operation) × (retain n c ∷ ops ≡ retain kept empty ∷ rest)
    parts true same is =
        let len : n ≡ kept = cc in
        (ops, λ i. retain (len i) ((same_changes-Decides c empty).0 same i) ∷ ops)
    parts false same is = absurd (cc)

pub begins-lead : (kept : ℕ) (ops : List Operation) → lead_of ops ≡ Some kept
    → (rest : List Operation) × (ops ≡ retain kept empty ∷ rest)
begins-lead kept [] is = absurd (cc)
begins-lead kept (retain n c ∷ ops) is = lead-parts kept n c ops is
begins-lead kept (insert_text us a ∷ ops) is = absurd (cc)
begins-lead kept (insert_embed key value a ∷ ops) is = absurd (cc)
begins-lead kept (delete n ∷ ops) is = absurd (cc)

-- so it is with lists of operations in normal form
pub past-nothing : (second : List Operation) → IsNormal second → second_past [] second true ≡ second
past-nothing second normal = ap nf (after-nothing (counted second) true) ∙ nf-same second normal

pub past-before : (kept : ℕ) (first second : List Operation) → IsNormal second → base_of second < kept
    → second_past (retain kept empty ∷ first) second true ≡ second
past-before kept first second normal short =
    ap nf (after-before kept (counted first) (counted second) (omega (arith, short, units_below-counted second)))
    ∙ nf-same second normal

pub past-behind : (first second : List Operation) (kept moved : ℕ) → base_of first ≤ kept
    → moved ≡ kept - base_of first + out_of first
    → second_past first (retain kept empty ∷ second) true ≡ nf (counted (retain moved empty ∷ second))
past-behind first second kept moved behind is =
    let base = units_below-counted first in
    let out = units_made-counted first in
    ap nf (after-behind (counted first) (counted second) kept (kept - base_of first) moved
    (omega (arith, base, behind)) (omega (arith, out, is)))

-- the retain that the second begins with gets another length, within the bound
pub moved-lead : (first second rest : List Operation) (kept moved : ℕ) → second ≡ retain kept empty ∷ rest → base_of first ≤ kept
    → 0 < moved → moved ≡ kept - base_of first + out_of first
    → base_of second + out_of first ≤ 2 ^ 48 → out_of second + out_of first ≤ 2 ^ 48 → IsMovedLead first second moved
moved-lead first second rest kept moved begins behind some is base out =
    subst (λ l. IsMovedLead first l moved) (sym begins) (record {
      some = some;
      bounded = record { base = omega (arith, ap base_of begins, is, base); out = omega (arith, ap out_of begins, is, out) };
      same = sym (past-behind first rest kept moved behind is);
    })
