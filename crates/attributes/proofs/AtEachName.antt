-- What changes of attributes do at each name, one after another, in either order, and back.
use Rattle.std.proofs.Common.{◌≡◌, ℕ, Bool, true, false, cond, subst, List, [], ◌∷◌, Option, Some, None, refl, sym, ap, ◌∙◌}
use Rattle.std.specs.Prelude.{T}
use Rattle.std.specs.Bool.{Decides}
use Rattle.std.specs.FinMap.Entries.{find, is_sorted}
use Rattle.attributes.specs.Map.{by_bytes, get, insert}
use Rattle.attributes.specs.Attributes.{Attributes, changed, changed_by, put_or_remove, composed, transformed, reverted, reverted_by, same_option, same_option-Decides}
use Rattle.attributes.specs.Laws.{first_of, value_after, value_back, SameAttributes, SameChanges, GetChanged, GetComposed, GetTransformed, GetReverted, ChangedTwice, ChangedEitherWay, ChangedBack}
use Rattle.attributes.specs.Scalar.{Scalar}
use Rattle.attributes.proofs.Maps.{is_name, same_map, get-insert, get-remove, get-overwritten, get-without, same_name_from, find_once}

pub same_attributes_map : SameAttributes
same_attributes_map = same_map

pub same_changes_map : SameChanges
same_changes_map = same_map

pub get-put_or_remove : (a : Attributes) (k : List ℕ) (x : Option Scalar) (name : List ℕ) → get (put_or_remove a k x) name ≡ cond (is_name name k) x (get a name)
get-put_or_remove a k (Some x) name = get-insert a k x name
get-put_or_remove a k None name = get-remove a k name

pub after_cond : (b : Bool) (x : Option Scalar) (c : Option (Option Scalar)) (old : Option Scalar) → cond b x (value_after c old) ≡ value_after (cond b (Some x) c) old
after_cond true x c old = refl
after_cond false x c old = refl

pub get-changed_by : (a : Attributes) (es : List (List ℕ × Option Scalar)) (name : List ℕ) → get (changed_by a es) name ≡ value_after (find by_bytes name es) (get a name)
unfolding changed_by
get-changed_by a [] name = refl
get-changed_by a (e ∷ es) name =
    get-put_or_remove (changed_by a es) e.0 e.1 name
    ∙ (ap (cond (is_name name e.0) e.1) (get-changed_by a es name) ∙ after_cond (is_name name e.0) e.1 (find by_bytes name es) (get a name))

pub get-changed : GetChanged
get-changed a c name = get-changed_by a c.entries name

pub get-composed : GetComposed
get-composed c d name = get-overwritten c d name

pub get-transformed : GetTransformed
get-transformed c d name = get-without d c name

value_twice : (c d : Option (Option Scalar)) (old : Option Scalar) → value_after d (value_after c old) ≡ value_after (first_of d c) old
value_twice c None old = refl
value_twice c (Some x) old = refl

pub changed-changed : ChangedTwice
changed-changed a c d =
    same_map _ _ (λ name.
    get-changed (changed a c) d name
    ∙ (ap (value_after (get d name)) (get-changed a c name)
    ∙ (value_twice (get c name) (get d name) (get a name)
    ∙ (ap (λ x. value_after x (get a name)) (sym (get-composed c d name)) ∙ sym (get-changed a (composed c d) name)))))

either_way : (c d : Option (Option Scalar)) (old : Option Scalar) → value_after (cond (Rattle.std.specs.Prelude.is_some c) None d) (value_after c old) ≡ value_after c (value_after d old)
either_way None d old = refl
either_way (Some x) d old = refl

pub changed-transformed : ChangedEitherWay
changed-transformed a c d =
    same_map _ _ (λ name.
    get-changed (changed a c) (transformed c d true) name
    ∙ (ap (value_after (get (transformed c d true) name)) (get-changed a c name)
    ∙ (ap (λ x. value_after x (value_after (get c name) (get a name))) (get-transformed c d name)
    ∙ (either_way (get c name) (get d name) (get a name)
    ∙ (ap (value_after (get c name)) (sym (get-changed a d name)) ∙ sym (get-changed (changed a d) c name))))))

get-reverted_by : (a : Attributes) (es : List (List ℕ × Option Scalar)) (name : List ℕ) → T (is_sorted by_bytes es) → get (reverted_by a es) name ≡ value_back (find by_bytes name es) (get a name)
unfolding reverted_by
get-reverted_by a [] name sorted = refl
get-reverted_by a (e ∷ es) name sorted =
    let once = find_once e es sorted in
    let rest = get-reverted_by a es name once.1 in
    elim (is_name name e.0) as (λ b. is_name name e.0 ≡ b → get (reverted_by a (e ∷ es)) name ≡ value_back (cond b (Some e.1) (find by_bytes name es)) (get a name)) [
      | true ↦ λ here.
          let is : name ≡ e.0 = same_name_from name e.0 here in
          subst (λ n. get (reverted_by a (e ∷ es)) name ≡ value_back (Some e.1) (get a n)) (sym is)
          (elim (same_option e.1 (get a e.0)) as (λ t. get (cond t (reverted_by a es) (insert (reverted_by a es) e.0 (get a e.0))) name ≡ cond t None (Some (get a e.0))) [
            | true ↦ rest ∙ (ap (λ n. value_back (find by_bytes n es) (get a name)) is ∙ ap (λ o. value_back o (get a name)) once.0)
            | false ↦ get-insert (reverted_by a es) e.0 (get a e.0) name ∙ ap (λ b. cond b (Some (get a e.0)) (get (reverted_by a es) name)) here
          ])
      | false ↦ λ other.
          elim (same_option e.1 (get a e.0)) as (λ t. get (cond t (reverted_by a es) (insert (reverted_by a es) e.0 (get a e.0))) name ≡ value_back (find by_bytes name es) (get a name)) [
            | true ↦ rest
            | false ↦ get-insert (reverted_by a es) e.0 (get a e.0) name ∙ (ap (λ b. cond b (Some (get a e.0)) (get (reverted_by a es) name)) other ∙ rest)
          ]
    ] refl

pub get-reverted : GetReverted
get-reverted c a name = get-reverted_by a c.entries name c.ascending

there_and_back : (c : Option (Option Scalar)) (old : Option Scalar) → value_after (value_back c old) (value_after c old) ≡ old
there_and_back None old = refl
there_and_back (Some new) old =
    elim (same_option new old) as (λ t. same_option new old ≡ t → value_after (cond t None (Some old)) new ≡ old) [
      | true ↦ λ t. (same_option-Decides new old).0 t
      | false ↦ λ t. refl
    ] refl

pub changed-reverted : ChangedBack
changed-reverted a c =
    same_map _ _ (λ name.
    get-changed (changed a c) (reverted c a) name
    ∙ (ap (λ o. value_after o (get (changed a c) name)) (get-reverted c a name)
    ∙ (ap (value_after (value_back (get c name) (get a name))) (get-changed a c name)
    ∙ there_and_back (get c name) (get a name))))
