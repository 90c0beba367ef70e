-- The members that print entries, one after another.
use Rattle.std.proofs.Common.{◌≡◌, ◌+◌, ◌<◌, ℕ, List, [], ◌∷◌, ◌++◌, length, take, get_or, refl, sym, ap, subst, ◌∙◌, Greater, String}
use Rattle.std.proofs.lemmas.List.{take_more}
use Rattle.std.specs.Prelude.{T, codes}
use Rattle.std.specs.Cmp.Lexicographic.{nat_list_cmp_total}
use Rattle.std.specs.FinMap.Entries.{is_sorted, below_all}
use Rattle.std.specs.Ordering.{ordering_reverse}
use Rattle.std.specs.declared.alloc.Global.{Global}
use Rattle.attributes.specs.Map.{by_bytes}
use Rattle.serde_json.specs.Data.{Data, object, Members, no_members, member, put}
use Rattle.serde_json.specs.View.{members_view}
use Rattle.serde_json.specs.declared.value.Value.{Value}
use Rattle.optext.specs.Printed.{printed_entries, attributes_member}
use Rattle.attributes.proofs.CallerLemmas.{T_parts, below_last}

-- a name above all others goes last
put_last : {X : Type 0} (p : X → Data) (done : List (List ℕ × X)) (e : List ℕ × X) → T (is_sorted by_bytes (done ++ e ∷ []))
    → put e.0 (p e.1) (printed_entries p done) ≡ printed_entries p (done ++ e ∷ [])
put_last p [] e sorted = refl
put_last p (f ∷ done) e sorted =
    let parts = T_parts (below_all by_bytes f.0 (done ++ e ∷ [])) (is_sorted by_bytes (done ++ e ∷ [])) sorted in
    let above : by_bytes e.0 f.0 ≡ Greater = nat_list_cmp_total.antisymm e.0 f.0 ∙ ap ordering_reverse (below_last f.0 done e parts.0) in
    rw above (ap (member f.0 (p f.1)) (put_last p done e parts.1))

-- one entry more
pub printed-more : {X : Type 0} (p : X → Data) (es : List (List ℕ × X)) (i : ℕ) (e : List ℕ × X) → T (is_sorted by_bytes (take (i + 1) es)) → i < length es → e ≡ get_or es i e
    → (name : List ℕ) (value : Data) (done : Members) → name ≡ e.0 → value ≡ p e.1 → done ≡ printed_entries p (take i es)
    → put name value done ≡ printed_entries p (take (i + 1) es)
printed-more {X = X} p es i e ascending inside is name value done name_is value_is done_is =
    let one_more : take (i + 1) es ≡ take i es ++ e ∷ [] = take_more es i e inside ∙ ap (λ (y : List ℕ × X). take i es ++ y ∷ []) (sym is) in
    let sorted : T (is_sorted by_bytes (take i es ++ e ∷ [])) = subst (λ (l : List (List ℕ × X)). T (is_sorted by_bytes l)) one_more ascending in
    rw (name_is, value_is, done_is) (put_last p (take i es) e sorted ∙ ap (printed_entries p) (sym one_more))

-- attributes, where there are any
abbrev Entry : Type 0
Entry = String Global × Value

pub begun-some : (es : List Entry) → (length es ≡ 0 → ⊥) → member (codes "attributes") (object (members_view es)) no_members ≡ attributes_member (members_view es)
begun-some [] some = absurd (some refl)
begun-some (e ∷ es) some = refl
