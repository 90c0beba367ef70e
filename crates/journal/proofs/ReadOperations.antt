-- Reading from the front of bytes: operations.
use Rattle.std.proofs.Common.{◌≡◌, ℕ, zero, suc, ◌^◌, inl, inr, eqb, Some, None, List, [], ◌∷◌, ◌++◌, length, refl, sym, ap, subst, ◌∙◌, append_assoc, append-nil}
use Rattle.std.specs.Int.{w32, w64}
use Rattle.std.specs.List.{flat_map, AllByRecursion}
use Rattle.std.proofs.lemmas.Bool.{eqb-true}
use Rattle.std.proofs.lemmas.Option.{option_and_then_some, same_Some}
use Rattle.std.proofs.lemmas.Str.{IsUtf8-from_is_utf8}
use Rattle.utf16.specs.Units.{units_of, utf8_of}
use Rattle.utf16.proofs.CallerLemmas.{utf8_of-units_of}
use Rattle.attributes.specs.Attributes.{Attributes, Changes}
use Rattle.delta.specs.Operation.{Operation, insert_text, insert_embed, retain, delete}
use Rattle.journal.specs.Spelling.{number, text16, text32}
use Rattle.journal.specs.DeltaSpelling.{value, new_value, pairs, operation}
use Rattle.revision.specs.Spellable.{IsOperation}
use Rattle.journal.specs.steps.Reading.{number_at, text_at, byte_at}
use Rattle.journal.specs.steps.DeltaReading.{key_at, value_at, attributes_at, change_at, text_insert_at, embed_insert_at, retain_at, delete_at, operation_behind, operation_at, operations_at}
use Rattle.revision.proofs.CallerLemmas.{IsText-units_of}
use Rattle.journal.proofs.Numbers.{IsBytes, Takes, Takes-then, number32, number64, number_takes, number_again}
use Rattle.journal.proofs.Texts.{text_takes, text_again}
use Rattle.journal.proofs.ReadValues.{ReadBehind, either_way, with_tag, byte_takes, value_takes, value_again}
use Rattle.journal.proofs.ReadPairs.{key_takes, key_again, attributes_take, attributes_again, change_takes, change_again}

-- what each kind of operation is read from
abbrev Behind : ℕ → List ℕ → Operation × List ℕ → Type 0
Behind tag bytes x = ReadBehind operation IsOperation tag bytes x

text_insert_behind : (bytes : List ℕ) (x : Operation × List ℕ) → IsBytes bytes → text_insert_at bytes ≡ Some x → Behind 1 bytes x
unfolding text_insert_at operation text32
text_insert_behind bytes x fit e =
    option_and_then_some _ (text_at w32 bytes) x e (λ text e1 k1.
    option_and_then_some (λ (a : Attributes × List ℕ). Some (insert_text (units_of text.0) a.0, a.1)) (attributes_at text.1) x k1 (λ a e2 made.
    let t1 = text_takes w32 (2 ^ 32) number32 bytes text fit e1 in
    let t2 = attributes_take text.1 a t1.0.rest_fits e2 in
    let same : utf8_of (units_of text.0) ≡ text.0 = utf8_of-units_of text.0 (IsUtf8-from_is_utf8 text.0 t1.2) in
    subst (λ (y : Operation × List ℕ). Behind 1 bytes y) (same_Some _ _ made)
    (record {
      text = (number w32 (length text.0) ++ text.0) ++ pairs value a.0.entries;
      spelled = ap (λ (t : List ℕ). 1 ∷ (number w32 (length t) ++ t) ++ pairs value a.0.entries) same;
      takes = Takes-then t1.0 t2.0;
      is = (IsText-units_of text.0 t1.1 t1.2, t2.1);
    })))

embed_insert_behind : (bytes : List ℕ) (x : Operation × List ℕ) → IsBytes bytes → embed_insert_at bytes ≡ Some x → Behind 2 bytes x
unfolding embed_insert_at operation
embed_insert_behind bytes x fit e =
    option_and_then_some _ (key_at bytes) x e (λ name e1 k1.
    option_and_then_some _ (value_at name.1) x k1 (λ v e2 k2.
    option_and_then_some (λ (a : Attributes × List ℕ). Some (insert_embed name.0 v.0 a.0, a.1)) (attributes_at v.1) x k2 (λ a e3 made.
    let t1 = key_takes bytes name fit e1 in
    let t2 = value_takes name.1 v t1.0.rest_fits e2 in
    let t3 = attributes_take v.1 a t2.0.rest_fits e3 in
    subst (λ (y : Operation × List ℕ). Behind 2 bytes y) (same_Some _ _ made)
    (record {
      text = text16 name.0 ++ value v.0 ++ pairs value a.0.entries;
      spelled = refl;
      takes = Takes-then (Takes-then t1.0 t2.0) t3.0;
      is = (t1.1, t2.1, t3.1);
    }))))

retain_behind : (bytes : List ℕ) (x : Operation × List ℕ) → IsBytes bytes → retain_at bytes ≡ Some x → Behind 3 bytes x
unfolding retain_at operation
retain_behind bytes x fit e =
    option_and_then_some _ (number_at w64 bytes) x e (λ n e1 k1.
    option_and_then_some (λ (c : Changes × List ℕ). Some (retain n.0 c.0, c.1)) (change_at n.1) x k1 (λ c e2 made.
    let t1 = number_takes w64 (2 ^ 64) number64 bytes n fit e1 in
    let t2 = change_takes n.1 c t1.0.rest_fits e2 in
    subst (λ (y : Operation × List ℕ). Behind 3 bytes y) (same_Some _ _ made)
    (record { text = number w64 n.0 ++ pairs new_value c.0.entries; spelled = refl; takes = Takes-then t1.0 t2.0; is = (t1.1, t2.1) })))

delete_behind : (bytes : List ℕ) (x : Operation × List ℕ) → IsBytes bytes → delete_at bytes ≡ Some x → Behind 4 bytes x
unfolding delete_at operation
delete_behind bytes x fit e =
    option_and_then_some (λ (n : ℕ × List ℕ). Some (delete n.0, n.1)) (number_at w64 bytes) x e (λ n e1 made.
    let t1 = number_takes w64 (2 ^ 64) number64 bytes n fit e1 in
    subst (λ (y : Operation × List ℕ). Behind 4 bytes y) (same_Some _ _ made)
    (record { text = number w64 n.0; spelled = refl; takes = t1.0; is = t1.1 }))

behind_takes : (tag : ℕ) (bytes : List ℕ) (x : Operation × List ℕ) → IsBytes bytes → operation_behind tag bytes ≡ Some x → Behind tag bytes x
unfolding operation_behind
behind_takes tag bytes x fit e =
    elim (either_way (eqb tag 1) (text_insert_at bytes) _ x e) [
      | inl h ↦ subst (λ n. Behind n bytes x) (sym (eqb-true tag 1 h.0)) (text_insert_behind bytes x fit h.1)
      | inr e1 ↦ elim (either_way (eqb tag 2) (embed_insert_at bytes) _ x e1) [
        | inl h ↦ subst (λ n. Behind n bytes x) (sym (eqb-true tag 2 h.0)) (embed_insert_behind bytes x fit h.1)
        | inr e2 ↦ elim (either_way (eqb tag 3) (retain_at bytes) _ x e2) [
          | inl h ↦ subst (λ n. Behind n bytes x) (sym (eqb-true tag 3 h.0)) (retain_behind bytes x fit h.1)
          | inr e3 ↦ elim (either_way (eqb tag 4) (delete_at bytes) None x e3) [
            | inl h ↦ subst (λ n. Behind n bytes x) (sym (eqb-true tag 4 h.0)) (delete_behind bytes x fit h.1)
            | inr none ↦ absurd cc
          ]
        ]
      ]
    ]

operation_takes : (bytes : List ℕ) (x : Operation × List ℕ) → IsBytes bytes → operation_at bytes ≡ Some x → Takes bytes (operation x.0) x.1 × IsOperation x.0
unfolding operation_at
operation_takes bytes x fit e =
    option_and_then_some _ (byte_at bytes) x e (λ tag e1 e2.
    let t = byte_takes bytes tag fit e1 in
    with_tag operation IsOperation tag.0 bytes tag.1 x t (behind_takes tag.0 tag.1 x t.rest_fits e2))

operation_again : (op : Operation) (rest : List ℕ) → IsOperation op → operation_at (operation op ++ rest) ≡ Some (op, rest)
unfolding operation_at byte_at operation_behind operation text_insert_at embed_insert_at retain_at delete_at text32
operation_again (insert_text us a) rest is =
    let text : List ℕ = utf8_of us in
    let front : List ℕ = number w32 (length text) ++ text in
    let attributes : List ℕ = pairs value a.entries in
    rw (append_assoc front attributes rest, text_again w32 (2 ^ 32) number32 text (attributes ++ rest) is.0.short is.0.valid, attributes_again a rest is.1, is.0.back) refl
operation_again (insert_embed name v a) rest is =
    let attributes : List ℕ = pairs value a.entries in
    rw (append_assoc (text16 name ++ value v) attributes rest, append_assoc (text16 name) (value v) (attributes ++ rest), key_again name (value v ++ (attributes ++ rest)) is.0, value_again v (attributes ++ rest) is.1, attributes_again a rest is.2) refl
operation_again (retain n c) rest is =
    rw (append_assoc (number w64 n) (pairs new_value c.entries) rest, number_again w64 (2 ^ 64) number64 n (pairs new_value c.entries ++ rest) is.0, change_again c rest is.1) refl
operation_again (delete n) rest is = rw (number_again w64 (2 ^ 64) number64 n rest is) refl

-- what was read is spelled so, and is put behind what was there
pub record Taken (front : List Operation) (count : ℕ) (bytes : List ℕ) (x : List Operation × List ℕ) : Type 0 where
  pub more : List Operation
  pub all : x.0 ≡ front ++ more
  pub parts : Takes bytes (flat_map operation more) x.1
  pub counted : length more ≡ count
  pub each : AllByRecursion IsOperation more

pub operations_take : (count : ℕ) (front : List Operation) (bytes : List ℕ) (x : List Operation × List ℕ) → IsBytes bytes → operations_at count front bytes ≡ Some x → Taken front count bytes x
unfolding operations_at
operations_take zero front bytes x fit e =
    subst (λ (y : List Operation × List ℕ). Taken front 0 bytes y) (same_Some _ _ e)
    (record { more = []; all = sym (append-nil front); parts = record { parts = refl; rest_fits = fit }; counted = refl; each = tt })
operations_take (suc n) front bytes x fit e =
    option_and_then_some _ (operation_at bytes) x e (λ first e1 k1.
    let t = operation_takes bytes first fit e1 in
    let u = operations_take n (front ++ first.0 ∷ []) first.1 x t.0.rest_fits k1 in
    record {
      more = first.0 ∷ u.more;
      all = u.all ∙ append_assoc front (first.0 ∷ []) u.more;
      parts = Takes-then t.0 u.parts;
      counted = ap suc u.counted;
      each = (t.1, u.each);
    })

pub operations_again : (ops front : List Operation) (rest : List ℕ) → AllByRecursion IsOperation ops → operations_at (length ops) front (flat_map operation ops ++ rest) ≡ Some (front ++ ops, rest)
unfolding operations_at
operations_again [] front rest each = ap (λ (all : List Operation). Some (all, rest)) (sym (append-nil front))
operations_again (op ∷ ops) front rest each =
    rw (append_assoc (operation op) (flat_map operation ops) rest, operation_again op (flat_map operation ops ++ rest) each.0)
    (operations_again ops (front ++ op ∷ []) rest each.1 ∙ ap (λ (all : List Operation). Some (all, rest)) (append_assoc front (op ∷ []) ops))
