-- Runs of a document as the operations that insert them.
use Rattle.std.proofs.Common.{◌≡◌, ◌++◌, ◌<◌, List, ℕ, [], ◌∷◌, Bool, true, false, cond, length, Option, Some, refl, sym, ap, subst, ◌∙◌, arith}
use Rattle.std.specs.Prelude.{not}
use Rattle.attributes.specs.Attributes.{Attributes, same_attributes, same_attributes-Decides}
use Rattle.attributes.specs.Scalar.{Scalar}
use Rattle.delta.specs.Element.{Element, Item, code_unit, embed, letters, embedded}
use Rattle.delta.specs.Normal.{is_apart_text, spell_unit, spell_item, spell_inserts}
use Rattle.delta.specs.Operation.{Operation, insert_text, insert_embed, retain, delete}
use Rattle.document.specs.Runs.{units_of_runs, item_attributes, text_attributes, IsApart, IsRun, AreRuns}
use Rattle.std.proofs.lemmas.Bool.{false_from_ne_true, not-true}
use Rattle.delta.proofs.CallerLemmas.{spell_inserts-append}

-- a unit before operations that don't take it in
unit_first : (u : ℕ) (a : Attributes) (ops : List Operation) → is_apart_text a ops ≡ true → spell_unit u a ops ≡ insert_text (u ∷ []) a ∷ ops
unit_first u a [] apart = refl
unit_first u a (insert_text us b ∷ ops) apart =
    ap (λ t. cond t (insert_text (u ∷ us) b ∷ ops) (insert_text (u ∷ []) a ∷ insert_text us b ∷ ops)) (not-true (same_attributes a b) apart)
unit_first u a (insert_embed key value b ∷ ops) apart = refl
unit_first u a (retain n c ∷ ops) apart = refl
unit_first u a (delete n ∷ ops) apart = refl

letters_first : (u : ℕ) (us : List ℕ) (a : Attributes) (ops : List Operation) → is_apart_text a ops ≡ true
    → spell_inserts (letters (u ∷ us) a) ops ≡ insert_text (u ∷ us) a ∷ ops
letters_first u [] a ops apart = unit_first u a ops apart
letters_first u (v ∷ vs) a ops apart =
    ap (spell_unit u a) (letters_first v vs a ops apart)
    ∙ ap (λ t. cond t (insert_text (u ∷ v ∷ vs) a ∷ ops) (insert_text (u ∷ []) a ∷ insert_text (v ∷ vs) a ∷ ops)) ((same_attributes-Decides a a).1 refl)

-- a unit of other attributes stands apart
unit_apart : (a b : Attributes) (u : ℕ) (ops : List Operation) → same_attributes a b ≡ false → is_apart_text a (spell_unit u b ops) ≡ true
unit_apart a b u [] differ = ap (λ t. not t) differ
unit_apart a b u (insert_text us c ∷ ops) differ = by_same (same_attributes b c) refl where
  by_same : (t : Bool) → same_attributes b c ≡ t
      → is_apart_text a (cond t (insert_text (u ∷ us) c ∷ ops) (insert_text (u ∷ []) b ∷ insert_text us c ∷ ops)) ≡ true
  by_same true same = ap (λ (x : Attributes). not (same_attributes a x)) (sym ((same_attributes-Decides b c).0 same)) ∙ ap (λ t. not t) differ
  by_same false same = ap (λ t. not t) differ
unit_apart a b u (insert_embed key value c ∷ ops) differ = ap (λ t. not t) differ
unit_apart a b u (retain n c ∷ ops) differ = ap (λ t. not t) differ
unit_apart a b u (delete n ∷ ops) differ = ap (λ t. not t) differ

item_apart : (item : Item) (a b : Attributes) (ops : List Operation) → IsApart (Some a) (item_attributes item b) → is_apart_text a (spell_item item b ops) ≡ true
item_apart (code_unit u) a b ops apart = unit_apart a b u ops (false_from_ne_true (same_attributes a b) (λ same. apart ((same_attributes-Decides a b).0 same)))
item_apart (embed key value) a b ops apart = refl

-- and so does the next run
run_apart : (a : Attributes) (run rest : List Element) → 0 < length run → IsApart (Some a) (text_attributes run)
    → is_apart_text a (spell_inserts (run ++ rest) []) ≡ true
run_apart a [] rest some apart = absurd (omega (arith, some))
run_apart a (x ∷ run) rest some apart = item_apart x.item a x.attributes (spell_inserts (run ++ rest) []) apart

first_run : (run : List Element) (behind : List (List Element)) → AreRuns (run ∷ behind) → IsRun run
first_run run [] runs = runs
first_run run (next ∷ others) runs = runs.0

runs_apart : (a : Attributes) (run : List Element) (behind : List (List Element)) → text_attributes run ≡ Some a → AreRuns (run ∷ behind)
    → is_apart_text a (spell_inserts (units_of_runs behind) []) ≡ true
runs_apart a run [] is runs = refl
runs_apart a run (next ∷ others) is runs =
    run_apart a next (units_of_runs others) (first_run next others runs.1.1).0
    (subst (λ (t : Option Attributes). IsApart t (text_attributes next)) is runs.1.0)

-- a run of text, and an embed
pub text_run : (units : List ℕ) (a : Attributes) (run : List Element) (behind : List (List Element)) → letters units a ≡ run → 0 < length units
    → AreRuns (run ∷ behind) → spell_inserts (units_of_runs (run ∷ behind)) [] ≡ insert_text units a ∷ spell_inserts (units_of_runs behind) []
text_run [] a run behind is some runs = absurd (omega (arith, some))
text_run (u ∷ us) a run behind is some runs =
    spell_inserts-append run (units_of_runs behind) []
    ∙ ap (λ (r : List Element). spell_inserts r (spell_inserts (units_of_runs behind) [])) (sym is)
    ∙ letters_first u us a (spell_inserts (units_of_runs behind) []) (runs_apart a run behind (ap text_attributes (sym is)) runs)

pub embed_run : (key : List ℕ) (value : Scalar) (a : Attributes) (run : List Element) (behind : List (List Element)) → embedded key value a ∷ [] ≡ run
    → spell_inserts (units_of_runs (run ∷ behind)) [] ≡ insert_embed key value a ∷ spell_inserts (units_of_runs behind) []
embed_run key value a run behind is = ap (λ (r : List Element). spell_inserts (r ++ units_of_runs behind) []) (sym is)

-- the runs behind the first
pub other_runs : (run : List Element) (behind : List (List Element)) → AreRuns (run ∷ behind) → AreRuns behind
other_runs run [] runs = tt
other_runs run (next ∷ others) runs = runs.1.1
