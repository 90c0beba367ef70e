-- Reading from the front of bytes: names with what stands at each.
use Rattle.std.proofs.Common.{◌≡◌, ℕ, zero, suc, ◌^◌, ◌≤◌, Bool, true, false, Option, Some, List, [], ◌∷◌, ◌++◌, length, refl, sym, ap, subst, ◌∙◌, append_assoc, append-nil, arith, T, Ordering, Less, Equal, Greater}
use Rattle.std.specs.Prelude.{◌&&◌}
use Rattle.std.specs.Int.{w16, w32}
use Rattle.std.specs.List.{flat_map, AllByRecursion}
use Rattle.std.specs.Ordering.{is_lt, ordering_reverse}
use Rattle.std.specs.Cmp.Lexicographic.{nat_list_cmp_total}
use Rattle.std.specs.FinMap.Entries.{put, is_sorted, below_all}
use Rattle.std.proofs.lemmas.Bool.{and_parts, and_from}
use Rattle.std.proofs.lemmas.List.Elements.{All-from_recursion, recursion_from_All}
use Rattle.std.proofs.lemmas.Option.{cond_some, option_and_then_some, same_Some}
use Rattle.attributes.specs.Map.{Map, empty, insert, by_bytes, same_entries_map}
use Rattle.attributes.specs.Attributes.{Attributes, Changes, is_key, is_key-Decides}
use Rattle.journal.specs.Spelling.{number, text16}
use Rattle.journal.specs.DeltaSpelling.{value, new_value, pair, pairs}
use Rattle.revision.specs.Spellable.{IsValue, IsNewValue, IsName, IsPair, IsPairs}
use Rattle.journal.specs.steps.Reading.{◌>>=◌, number_at, text_at, name_at}
use Rattle.journal.specs.steps.DeltaReading.{key_at, key_above, pair_at, pairs_at, value_at, new_value_at, attributes_at, change_at}
use Rattle.journal.proofs.Numbers.{IsBytes, Takes, Takes-then, number16, number32, number_takes, number_again}
use Rattle.journal.proofs.Texts.{text_takes, text_again}
use Rattle.journal.proofs.ReadValues.{value_takes, value_again, new_value_takes, new_value_again}

-- ---- names

pub key_takes : (bytes : List ℕ) (x : List ℕ × List ℕ) → IsBytes bytes → key_at bytes ≡ Some x → Takes bytes (text16 x.0) x.1 × IsName x.0
unfolding key_at name_at text16
key_takes bytes x fit e =
    option_and_then_some _ (text_at w16 bytes) x e (λ text found made.
    let t = text_takes w16 (2 ^ 16) number16 bytes text fit found in
    let g = cond_some (is_key text.0) text x made in
    subst (λ (y : List ℕ × List ℕ). Takes bytes (number w16 (length y.0) ++ y.0) y.1 × IsName y.0) g.1
    (t.0, record { key = (is_key-Decides text.0).0 g.0; valid = t.2 }))

pub key_again : (name rest : List ℕ) → IsName name → key_at (text16 name ++ rest) ≡ Some (name, rest)
unfolding key_at name_at text16
key_again name rest is =
    let test : is_key name ≡ true = (is_key-Decides name).1 is.key in
    rw (text_again w16 (2 ^ 16) number16 name rest (omega (arith, is.key.1)) is.valid, test) refl

above_takes : (last bytes : List ℕ) (x : List ℕ × List ℕ) → IsBytes bytes → key_above last bytes ≡ Some x → Takes bytes (text16 x.0) x.1 × IsName x.0 × (is_lt (by_bytes last x.0) ≡ true)
unfolding key_above
above_takes last bytes x fit e =
    option_and_then_some _ (key_at bytes) x e (λ name found made.
    let t = key_takes bytes name fit found in
    let g = cond_some (is_lt (by_bytes last name.0)) name x made in
    subst (λ (y : List ℕ × List ℕ). Takes bytes (text16 y.0) y.1 × IsName y.0 × (is_lt (by_bytes last y.0) ≡ true)) g.1 (t.0, t.1, g.0))

-- ---- order

pub less : (o : Ordering) → is_lt o ≡ true → o ≡ Less
less Less h = refl
less Equal h = absurd cc
less Greater h = absurd cc

pub from_T : (b : Bool) → T b → b ≡ true
from_T true h = refl
from_T false h = absurd h

pub lower : (a b c : List ℕ) → is_lt (by_bytes a b) ≡ true → is_lt (by_bytes b c) ≡ true → is_lt (by_bytes a c) ≡ true
lower a b c p q = ap is_lt (nat_list_cmp_total.trans a b c (less _ p) (less _ q))

module _ {X : Type 0} where
  -- the name is above all that stand there
  above : List (List ℕ × X) → List ℕ → Bool
  above [] name = true
  above (e ∷ es) name = is_lt (by_bytes e.0 name) && above es name

  above-append : (es : List (List ℕ × X)) (e : List ℕ × X) (name : List ℕ) → above es name ≡ true → is_lt (by_bytes e.0 name) ≡ true → above (es ++ e ∷ []) name ≡ true
  unfolding above
  above-append [] e name all here = and_from _ _ here refl
  above-append (f ∷ es) e name all here =
      let parts = and_parts (is_lt (by_bytes f.0 name)) (above es name) all in
      and_from _ _ parts.0 (above-append es e name parts.1 here)

  -- whatever is above the last is above all
  IsLast : List (List ℕ × X) → List ℕ → Type 0
  IsLast es last = (name : List ℕ) → is_lt (by_bytes last name) ≡ true → above es name ≡ true

  IsLast-append : (es : List (List ℕ × X)) (last : List ℕ) (e : List ℕ × X) → IsLast es last → is_lt (by_bytes last e.0) ≡ true → IsLast (es ++ e ∷ []) e.0
  unfolding IsLast
  IsLast-append es last e is here name h = above-append es e name (is name (lower last e.0 name here h)) h

  -- a name above all is put behind them
  put-last : (es : List (List ℕ × X)) (name : List ℕ) (x : X) → above es name ≡ true → put by_bytes name x es ≡ es ++ (name, x) ∷ []
  unfolding above
  put-last [] name x h = refl
  put-last (e ∷ es) name x h =
      let parts = and_parts (is_lt (by_bytes e.0 name)) (above es name) h in
      let greater : by_bytes name e.0 ≡ Greater = nat_list_cmp_total.antisymm name e.0 ∙ ap ordering_reverse (less _ parts.0) in
      rw greater (ap (λ (r : List (List ℕ × X)). e ∷ r) (put-last es name x parts.1))

  entries-insert : (m : Map X) (last name : List ℕ) (x : X) → IsLast m.entries last → is_lt (by_bytes last name) ≡ true → (insert m name x).entries ≡ m.entries ++ (name, x) ∷ []
  unfolding insert IsLast
  entries-insert m last name x is here = put-last m.entries name x (is name here)

IsLast-empty : (X : Type 0) (last : List ℕ) → IsLast {X = X} [] last
unfolding above IsLast
IsLast-empty X last name h = refl

-- ---- pairs

module _ {X : Type 0} (spell : X → List ℕ) (IsX : X → Type 0) (read : List ℕ → Option (X × List ℕ))
    (takes : (bytes : List ℕ) (x : X × List ℕ) → IsBytes bytes → read bytes ≡ Some x → Takes bytes (spell x.0) x.1 × IsX x.0)
    (again : (x : X) (rest : List ℕ) → IsX x → read (spell x ++ rest) ≡ Some (x, rest)) where
  pair_takes : (last bytes : List ℕ) (x : (List ℕ × X) × List ℕ) → IsBytes bytes → pair_at read last bytes ≡ Some x → Takes bytes (pair spell x.0) x.1 × IsPair IsX x.0 × (is_lt (by_bytes last x.0.0) ≡ true)
  unfolding pair_at pair
  pair_takes last bytes x fit e =
      option_and_then_some _ (key_above last bytes) x e (λ name e1 k1.
      option_and_then_some (λ (v : X × List ℕ). Some ((name.0, v.0), v.1)) (read name.1) x k1 (λ v e2 made.
      let t1 = above_takes last bytes name fit e1 in
      let t2 = takes name.1 v t1.0.rest_fits e2 in
      subst (λ (y : (List ℕ × X) × List ℕ). Takes bytes (text16 y.0.0 ++ spell y.0.1) y.1 × IsPair IsX y.0 × (is_lt (by_bytes last y.0.0) ≡ true)) (same_Some _ _ made)
      (Takes-then t1.0 t2.0, record { name = t1.1; value = t2.1 }, t1.2)))

  pair_again : (last : List ℕ) (p : List ℕ × X) (rest : List ℕ) → IsPair IsX p → is_lt (by_bytes last p.0) ≡ true → pair_at read last (pair spell p ++ rest) ≡ Some (p, rest)
  unfolding pair_at pair key_above
  pair_again last p rest is here =
      rw (append_assoc (text16 p.0) (spell p.1) rest, key_again p.0 (spell p.1 ++ rest) is.name, here, again p.1 rest is.value) refl

  -- what was read is spelled so, and was put behind what was there
  record Taken (front : Map X) (count : ℕ) (bytes : List ℕ) (x : Map X × List ℕ) : Type 0 where
    pub more : List (List ℕ × X)
    pub all : x.0.entries ≡ front.entries ++ more
    pub parts : Takes bytes (flat_map (pair spell) more) x.1
    pub counted : length more ≡ count
    pub each : AllByRecursion (IsPair IsX) more

  pairs_take : (count : ℕ) (last : List ℕ) (front : Map X) (bytes : List ℕ) (x : Map X × List ℕ) → IsBytes bytes → IsLast front.entries last → pairs_at read count last front bytes ≡ Some x → Taken front count bytes x
  unfolding pairs_at
  pairs_take zero last front bytes x fit is e =
      subst (λ (y : Map X × List ℕ). Taken front 0 bytes y) (same_Some _ _ e)
      (record { more = []; all = sym (append-nil front.entries); parts = record { parts = refl; rest_fits = fit }; counted = refl; each = tt })
  pairs_take (suc n) last front bytes x fit is e =
      option_and_then_some _ (pair_at read last bytes) x e (λ p e1 k1.
      let t = pair_takes last bytes p fit e1 in
      let behind = entries-insert front last p.0.0 p.0.1 is t.2 in
      let is_last : IsLast (insert front p.0.0 p.0.1).entries p.0.0 = subst (λ (es : List (List ℕ × X)). IsLast es p.0.0) (sym behind) (IsLast-append front.entries last p.0 is t.2) in
      let u = pairs_take n p.0.0 (insert front p.0.0 p.0.1) p.1 x t.0.rest_fits is_last k1 in
      record {
        more = p.0 ∷ u.more;
        all = u.all ∙ ap (λ (es : List (List ℕ × X)). es ++ u.more) behind ∙ append_assoc front.entries (p.0 ∷ []) u.more;
        parts = Takes-then t.0 u.parts;
        counted = ap suc u.counted;
        each = (t.1, u.each);
      })

  pairs_again : (es : List (List ℕ × X)) (last : List ℕ) (front m : Map X) (rest : List ℕ) → front.entries ++ es ≡ m.entries → IsLast front.entries last → below_all by_bytes last es ≡ true → is_sorted by_bytes es ≡ true
      → AllByRecursion (IsPair IsX) es → pairs_at read (length es) last front (flat_map (pair spell) es ++ rest) ≡ Some (m, rest)
  unfolding pairs_at
  pairs_again [] last front m rest all is below sorted each =
      ap (λ (k : Map X). Some (k, rest)) (same_entries_map front m (sym (append-nil front.entries) ∙ all))
  pairs_again (p ∷ es) last front m rest all is below sorted each =
      let here = (and_parts (is_lt (by_bytes last p.0)) (below_all by_bytes last es) below).0 in
      let order = and_parts (below_all by_bytes p.0 es) (is_sorted by_bytes es) sorted in
      let behind = entries-insert front last p.0 p.1 is here in
      let is_last : IsLast (insert front p.0 p.1).entries p.0 = subst (λ (fs : List (List ℕ × X)). IsLast fs p.0) (sym behind) (IsLast-append front.entries last p is here) in
      let all_then : (insert front p.0 p.1).entries ++ es ≡ m.entries = ap (λ (fs : List (List ℕ × X)). fs ++ es) behind ∙ append_assoc front.entries (p ∷ []) es ∙ all in
      rw (append_assoc (pair spell p) (flat_map (pair spell) es) rest, pair_again last p (flat_map (pair spell) es ++ rest) each.0 here)
      (pairs_again es p.0 (insert front p.0 p.1) m rest all_then is_last order.0 order.1 each.1)

  below_first : (es : List (List ℕ × X)) → AllByRecursion (IsPair IsX) es → below_all by_bytes [] es ≡ true
  below_first [] each = refl
  below_first (p ∷ es) each = and_from _ _ (nothing_is_lower p.0 each.0.name.key.0) (below_first es each.1)
    where
      nothing_is_lower : (name : List ℕ) → 1 ≤ length name → is_lt (by_bytes [] name) ≡ true
      nothing_is_lower [] some = absurd (omega arith)
      nothing_is_lower (b ∷ name) some = refl

  -- so many pairs behind their count
  counted_at : List ℕ → Option (Map X × List ℕ)
  counted_at bytes = do
    count ← number_at w32 bytes
    pairs_at read count.0 [] empty count.1

  counted_takes : (bytes : List ℕ) (x : Map X × List ℕ) → IsBytes bytes → counted_at bytes ≡ Some x → Takes bytes (pairs spell x.0.entries) x.1 × IsPairs IsX x.0.entries
  unfolding pairs counted_at
  counted_takes bytes x fit e =
      option_and_then_some _ (number_at w32 bytes) x e (λ count e1 k1.
      let t = number_takes w32 (2 ^ 32) number32 bytes count fit e1 in
      let u = pairs_take count.0 [] empty count.1 x t.0.rest_fits (IsLast-empty X []) k1 in
      subst (λ (es : List (List ℕ × X)). Takes bytes (number w32 (length es) ++ flat_map (pair spell) es) x.1 × IsPairs IsX es) (sym u.all)
      (rw u.counted (Takes-then t.0 u.parts), record { count = omega (arith, u.counted, t.1); each = All-from_recursion (IsPair IsX) u.more u.each }))

  counted_again : (m : Map X) (rest : List ℕ) → IsPairs IsX m.entries → counted_at (pairs spell m.entries ++ rest) ≡ Some (m, rest)
  unfolding pairs counted_at
  counted_again m rest is =
      let each = recursion_from_All (IsPair IsX) m.entries is.each in
      rw (append_assoc (number w32 (length m.entries)) (flat_map (pair spell) m.entries) rest, number_again w32 (2 ^ 32) number32 (length m.entries) (flat_map (pair spell) m.entries ++ rest) is.count)
      (pairs_again m.entries [] empty m rest refl (IsLast-empty X []) (below_first m.entries each) (from_T _ m.ascending) each)

-- ---- attributes and changes

pub attributes_take : (bytes : List ℕ) (x : Attributes × List ℕ) → IsBytes bytes → attributes_at bytes ≡ Some x → Takes bytes (pairs value x.0.entries) x.1 × IsPairs IsValue x.0.entries
unfolding attributes_at counted_at
attributes_take = counted_takes value IsValue value_at value_takes value_again

pub attributes_again : (a : Attributes) (rest : List ℕ) → IsPairs IsValue a.entries → attributes_at (pairs value a.entries ++ rest) ≡ Some (a, rest)
unfolding attributes_at counted_at
attributes_again = counted_again value IsValue value_at value_takes value_again

pub change_takes : (bytes : List ℕ) (x : Changes × List ℕ) → IsBytes bytes → change_at bytes ≡ Some x → Takes bytes (pairs new_value x.0.entries) x.1 × IsPairs IsNewValue x.0.entries
unfolding change_at counted_at
change_takes = counted_takes new_value IsNewValue new_value_at new_value_takes new_value_again

pub change_again : (c : Changes) (rest : List ℕ) → IsPairs IsNewValue c.entries → change_at (pairs new_value c.entries ++ rest) ≡ Some (c, rest)
unfolding change_at counted_at
change_again = counted_again new_value IsNewValue new_value_at new_value_takes new_value_again
