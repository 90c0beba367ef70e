-- Reading from the front of bytes: entries and batches.
use Rattle.std.proofs.Common.{◌≡◌, inl, inr, ℕ, zero, suc, ◌^◌, nat_le, nat_lt, Bool, true, false, ◌&&◌, cond, ltb, eqb, Option, Some, None, List, [], ◌∷◌, ◌++◌, length, refl, sym, ap, subst, ◌∙◌, append_assoc, true≢false, arith}
use Rattle.std.specs.Int.{w32, w64}
use Rattle.std.specs.List.{flat_map, AllByRecursion}
use Rattle.std.proofs.lemmas.Bool.{and_parts, le-leb, ltb-true, lt-ltb, eqb-true}
use Rattle.std.proofs.lemmas.List.{append-nil, nil_from_length}
use Rattle.std.proofs.lemmas.List.Elements.{All-from_recursion, recursion_from_All}
use Rattle.std.proofs.lemmas.Option.{cond_some, option_and_then_some, same_Some, some_pair_parts}
use Rattle.delta.specs.Operation.{Operation}
use Rattle.revision.specs.Name.{is_document_name, is_source_name}
use Rattle.revision.specs.Command.{Taken, IsTaken, first_of, is_kind}
use Rattle.revision.specs.declared.step.Step.{Step}
use Rattle.revision.specs.declared.step.Step.TheVariants.{Edits, Deletes, Revives}
use Rattle.journal.specs.Spelling.{number, text16}
use Rattle.journal.specs.DeltaSpelling.{delta}
use Rattle.journal.specs.BatchSpelling.{created_name, step_delta, entry, batch, IsBatch}
use Rattle.journal.specs.steps.Reading.{number_at, fixed_at, within_at, byte_at, name_at}
use Rattle.journal.specs.steps.BatchReading.{creation_at, edit_at, deletion_at, revival_at, entry_behind, entry_at, entries_at, batch_at, whole_at}
use Rattle.journal.specs.steps.DeltaReading.{delta_at}
use Rattle.journal.proofs.Numbers.{IsBytes, Takes, Takes-then, number32, number64, number_takes, number_again, fixed_takes, fixed_again, within_takes, within_again}
use Rattle.journal.proofs.ReadValues.{ReadBehind, either_way, with_tag, byte_takes}
use Rattle.journal.proofs.Texts.{name_takes, name_again}
use Rattle.journal.proofs.ReadDeltas.{delta_takes, delta_again}

-- ---- entries

abbrev creation : ℕ → List ℕ → List ℕ → List Operation → Taken
creation document name source operations = record { document = document; name = Some name; revision = 1; source = source; number = 1; step = Edits; delta = operations }

abbrev change : Step → ℕ → ℕ → List ℕ → ℕ → List Operation → Taken
change step document revision source n operations =
    record { document = document; name = None; revision = revision; source = source; number = n; step = step; delta = operations }

-- what each kind of entry is read from
abbrev Behind : ℕ → List ℕ → Taken × List ℕ → Type 0
Behind tag bytes x = ReadBehind entry IsTaken tag bytes x

creation_behind : (bytes : List ℕ) (x : Taken × List ℕ) → IsBytes bytes → creation_at bytes ≡ Some x → Behind 1 bytes x
unfolding creation_at entry created_name step_delta
creation_behind bytes x fit e =
    option_and_then_some _ (number_at w32 bytes) x e (λ document e2 k2.
    option_and_then_some _ (fixed_at w64 1 document.1) x k2 (λ revised e3 k3.
    option_and_then_some _ (name_at is_source_name revised) x k3 (λ source e4 k4.
    option_and_then_some _ (fixed_at w64 1 source.1) x k4 (λ numbered e5 k5.
    option_and_then_some _ (name_at is_document_name numbered) x k5 (λ name e6 k6.
    option_and_then_some (λ (d : List Operation × List ℕ). Some (creation document.0 name.0 source.0 d.0, d.1)) (delta_at name.1) x k6 (λ d e7 made.
    let t2 = number_takes w32 (2 ^ 32) number32 bytes document fit e2 in
    let t3 = fixed_takes w64 (2 ^ 64) number64 1 document.1 revised t2.0.rest_fits e3 in
    let t4 = name_takes is_source_name revised source t3.rest_fits e4 in
    let t5 = fixed_takes w64 (2 ^ 64) number64 1 source.1 numbered t4.0.rest_fits e5 in
    let t6 = name_takes is_document_name numbered name t5.rest_fits e6 in
    let t7 = delta_takes name.1 d t6.0.rest_fits e7 in
    let kind : is_kind (Some name.0) Edits 1 1 ≡ true = rw t6.1 refl in
    subst (λ (y : Taken × List ℕ). Behind 1 bytes y) (same_Some _ _ made)
    (record {
      text = number w32 document.0 ++ number w64 1 ++ text16 source.0 ++ number w64 1 ++ text16 name.0 ++ delta d.0;
      spelled = refl;
      takes = Takes-then (Takes-then (Takes-then (Takes-then (Takes-then t2.0 t3) t4.0) t5) t6.0) t7.0;
      is = record { document = t2.1; source = t4.1; kind = kind; delta = t7.1 };
    })))))))

edit_behind : (bytes : List ℕ) (x : Taken × List ℕ) → IsBytes bytes → edit_at bytes ≡ Some x → Behind 2 bytes x
unfolding edit_at entry created_name step_delta
edit_behind bytes x fit e =
    option_and_then_some _ (number_at w32 bytes) x e (λ document e2 k2.
    option_and_then_some _ (within_at w64 2 (2 ^ 53) document.1) x k2 (λ revision e3 k3.
    option_and_then_some _ (name_at is_source_name revision.1) x k3 (λ source e4 k4.
    option_and_then_some _ (within_at w64 0 (2 ^ 53) source.1) x k4 (λ n e5 k5.
    option_and_then_some (λ (d : List Operation × List ℕ). Some (change Edits document.0 revision.0 source.0 n.0 d.0, d.1)) (delta_at n.1) x k5 (λ d e6 made.
    let t2 = number_takes w32 (2 ^ 32) number32 bytes document fit e2 in
    let t3 = within_takes 2 (2 ^ 53) document.1 revision t2.0.rest_fits e3 in
    let t4 = name_takes is_source_name revision.1 source t3.0.rest_fits e4 in
    let t5 = within_takes 0 (2 ^ 53) source.1 n t4.0.rest_fits e5 in
    let t6 = delta_takes n.1 d t5.0.rest_fits e6 in
    let kind : is_kind None Edits revision.0 n.0 ≡ true = rw (t3.1.0, t3.1.1, t5.1.1) refl in
    let front : List ℕ = number w32 document.0 ++ number w64 revision.0 ++ text16 source.0 ++ number w64 n.0 in
    subst (λ (y : Taken × List ℕ). Behind 2 bytes y) (same_Some _ _ made)
    (record {
      text = front ++ delta d.0;
      spelled = ap (λ (l : List ℕ). 2 ∷ (l ++ delta d.0)) (append-nil front);
      takes = Takes-then (Takes-then (Takes-then (Takes-then t2.0 t3.0) t4.0) t5.0) t6.0;
      is = record { document = t2.1; source = t4.1; kind = kind; delta = t6.1 };
    }))))))

deletion_behind : (bytes : List ℕ) (x : Taken × List ℕ) → IsBytes bytes → deletion_at bytes ≡ Some x → Behind 3 bytes x
unfolding deletion_at entry created_name step_delta
deletion_behind bytes x fit e =
    option_and_then_some _ (number_at w32 bytes) x e (λ document e2 k2.
    option_and_then_some _ (within_at w64 2 (2 ^ 53) document.1) x k2 (λ revision e3 k3.
    option_and_then_some _ (name_at is_source_name revision.1) x k3 (λ source e4 k4.
    option_and_then_some (λ (n : ℕ × List ℕ). Some (change Deletes document.0 revision.0 source.0 n.0 [], n.1)) (within_at w64 0 (2 ^ 53) source.1) x k4 (λ n e5 made.
    let t2 = number_takes w32 (2 ^ 32) number32 bytes document fit e2 in
    let t3 = within_takes 2 (2 ^ 53) document.1 revision t2.0.rest_fits e3 in
    let t4 = name_takes is_source_name revision.1 source t3.0.rest_fits e4 in
    let t5 = within_takes 0 (2 ^ 53) source.1 n t4.0.rest_fits e5 in
    let kind : is_kind None Deletes revision.0 n.0 ≡ true = rw (t3.1.0, t3.1.1, t5.1.1) refl in
    let front : List ℕ = number w32 document.0 ++ number w64 revision.0 ++ text16 source.0 ++ number w64 n.0 in
    subst (λ (y : Taken × List ℕ). Behind 3 bytes y) (same_Some _ _ made)
    (record {
      text = front;
      spelled = ap (λ (l : List ℕ). 3 ∷ l) (append-nil (front ++ []) ∙ append-nil front);
      takes = Takes-then (Takes-then (Takes-then t2.0 t3.0) t4.0) t5.0;
      is = record { document = t2.1; source = t4.1; kind = kind; delta = refl };
    })))))

revival_behind : (bytes : List ℕ) (x : Taken × List ℕ) → IsBytes bytes → revival_at bytes ≡ Some x → Behind 4 bytes x
unfolding revival_at entry created_name step_delta
revival_behind bytes x fit e =
    option_and_then_some _ (number_at w32 bytes) x e (λ document e2 k2.
    option_and_then_some _ (within_at w64 3 (2 ^ 53) document.1) x k2 (λ revision e3 k3.
    option_and_then_some _ (name_at is_source_name revision.1) x k3 (λ source e4 k4.
    option_and_then_some _ (within_at w64 0 (2 ^ 53) source.1) x k4 (λ n e5 k5.
    option_and_then_some (λ (d : List Operation × List ℕ). Some (change Revives document.0 revision.0 source.0 n.0 d.0, d.1)) (delta_at n.1) x k5 (λ d e6 made.
    let t2 = number_takes w32 (2 ^ 32) number32 bytes document fit e2 in
    let t3 = within_takes 3 (2 ^ 53) document.1 revision t2.0.rest_fits e3 in
    let t4 = name_takes is_source_name revision.1 source t3.0.rest_fits e4 in
    let t5 = within_takes 0 (2 ^ 53) source.1 n t4.0.rest_fits e5 in
    let t6 = delta_takes n.1 d t5.0.rest_fits e6 in
    let kind : is_kind None Revives revision.0 n.0 ≡ true = rw (t3.1.0, t3.1.1, t5.1.1) refl in
    let front : List ℕ = number w32 document.0 ++ number w64 revision.0 ++ text16 source.0 ++ number w64 n.0 in
    subst (λ (y : Taken × List ℕ). Behind 4 bytes y) (same_Some _ _ made)
    (record {
      text = front ++ delta d.0;
      spelled = ap (λ (l : List ℕ). 4 ∷ (l ++ delta d.0)) (append-nil front);
      takes = Takes-then (Takes-then (Takes-then (Takes-then t2.0 t3.0) t4.0) t5.0) t6.0;
      is = record { document = t2.1; source = t4.1; kind = kind; delta = t6.1 };
    }))))))

behind_takes : (tag : ℕ) (bytes : List ℕ) (x : Taken × List ℕ) → IsBytes bytes → entry_behind tag bytes ≡ Some x → Behind tag bytes x
unfolding entry_behind
behind_takes tag bytes x fit e =
    elim (either_way (eqb tag 1) (creation_at bytes) _ x e) [
      | inl h ↦ subst (λ n. Behind n bytes x) (sym (eqb-true tag 1 h.0)) (creation_behind bytes x fit h.1)
      | inr e1 ↦ elim (either_way (eqb tag 2) (edit_at bytes) _ x e1) [
        | inl h ↦ subst (λ n. Behind n bytes x) (sym (eqb-true tag 2 h.0)) (edit_behind bytes x fit h.1)
        | inr e2 ↦ elim (either_way (eqb tag 3) (deletion_at bytes) _ x e2) [
          | inl h ↦ subst (λ n. Behind n bytes x) (sym (eqb-true tag 3 h.0)) (deletion_behind bytes x fit h.1)
          | inr e3 ↦ elim (either_way (eqb tag 4) (revival_at bytes) None x e3) [
            | inl h ↦ subst (λ n. Behind n bytes x) (sym (eqb-true tag 4 h.0)) (revival_behind bytes x fit h.1)
            | inr none ↦ absurd cc
          ]
        ]
      ]
    ]

entry_takes : (bytes : List ℕ) (x : Taken × List ℕ) → IsBytes bytes → entry_at bytes ≡ Some x → Takes bytes (entry x.0) x.1 × IsTaken x.0
unfolding entry_at
entry_takes bytes x fit e =
    option_and_then_some _ (byte_at bytes) x e (λ tag e1 e2.
    let t = byte_takes bytes tag fit e1 in
    with_tag entry IsTaken tag.0 bytes tag.1 x t (behind_takes tag.0 tag.1 x t.rest_fits e2))

creation_again : (document : ℕ) (name source : List ℕ) (operations : List Operation) (rest : List ℕ) → IsTaken (creation document name source operations) → is_document_name name ≡ true
    → entry_at (entry (creation document name source operations) ++ rest) ≡ Some (creation document name source operations, rest)
unfolding entry_at byte_at entry_behind creation_at entry created_name step_delta
creation_again document name source operations rest taken named =
    let behind_name : List ℕ = delta operations ++ rest in
    let behind_number : List ℕ = text16 name ++ behind_name in
    let behind_source : List ℕ = number w64 1 ++ behind_number in
    let behind_revision : List ℕ = text16 source ++ behind_source in
    let behind_document : List ℕ = number w64 1 ++ behind_revision in
    let behind_tag : List ℕ = number w32 document ++ behind_document in
    let regrouped : entry (creation document name source operations) ++ rest ≡ 1 ∷ behind_tag = simp append_assoc in
    ap entry_at regrouped
    ∙ rw (
      number_again w32 (2 ^ 32) number32 document behind_document taken.document,
      fixed_again w64 (2 ^ 64) number64 1 behind_revision (omega arith),
      name_again 32 source behind_source (omega arith) taken.source,
      fixed_again w64 (2 ^ 64) number64 1 behind_number (omega arith),
      name_again 64 name behind_name (omega arith) named,
      delta_again operations rest taken.delta,
    ) refl

edit_again : (document revision : ℕ) (source : List ℕ) (n : ℕ) (operations : List Operation) (rest : List ℕ) → IsTaken (change Edits document revision source n operations)
    → nat_le 2 revision ≡ true → nat_lt revision (2 ^ 53) ≡ true → nat_lt n (2 ^ 53) ≡ true
    → entry_at (entry (change Edits document revision source n operations) ++ rest) ≡ Some (change Edits document revision source n operations, rest)
unfolding entry_at byte_at entry_behind edit_at entry created_name step_delta
edit_again document revision source n operations rest taken above below number_below =
    let behind_number : List ℕ = delta operations ++ rest in
    let behind_source : List ℕ = number w64 n ++ behind_number in
    let behind_revision : List ℕ = text16 source ++ behind_source in
    let behind_document : List ℕ = number w64 revision ++ behind_revision in
    let behind_tag : List ℕ = number w32 document ++ behind_document in
    let regrouped : entry (change Edits document revision source n operations) ++ rest ≡ 2 ∷ behind_tag = simp append_assoc in
    ap entry_at regrouped
    ∙ rw (
      number_again w32 (2 ^ 32) number32 document behind_document taken.document,
      within_again 2 (2 ^ 53) revision behind_revision (omega (arith, ltb-true _ _ below)) above below,
      name_again 32 source behind_source (omega arith) taken.source,
      within_again 0 (2 ^ 53) n behind_number (omega (arith, ltb-true _ _ number_below)) (le-leb 0 n (omega arith)) number_below,
      delta_again operations rest taken.delta,
    ) refl

deletion_again : (document revision : ℕ) (source : List ℕ) (n : ℕ) (rest : List ℕ) → IsTaken (change Deletes document revision source n [])
    → nat_le 2 revision ≡ true → nat_lt revision (2 ^ 53) ≡ true → nat_lt n (2 ^ 53) ≡ true
    → entry_at (entry (change Deletes document revision source n []) ++ rest) ≡ Some (change Deletes document revision source n [], rest)
unfolding entry_at byte_at entry_behind deletion_at entry created_name step_delta
deletion_again document revision source n rest taken above below number_below =
    let behind_source : List ℕ = number w64 n ++ rest in
    let behind_revision : List ℕ = text16 source ++ behind_source in
    let behind_document : List ℕ = number w64 revision ++ behind_revision in
    let behind_tag : List ℕ = number w32 document ++ behind_document in
    let regrouped : entry (change Deletes document revision source n []) ++ rest ≡ 3 ∷ behind_tag = simp append_assoc in
    ap entry_at regrouped
    ∙ rw (
      number_again w32 (2 ^ 32) number32 document behind_document taken.document,
      within_again 2 (2 ^ 53) revision behind_revision (omega (arith, ltb-true _ _ below)) above below,
      name_again 32 source behind_source (omega arith) taken.source,
      within_again 0 (2 ^ 53) n rest (omega (arith, ltb-true _ _ number_below)) (le-leb 0 n (omega arith)) number_below,
    ) refl

revival_again : (document revision : ℕ) (source : List ℕ) (n : ℕ) (operations : List Operation) (rest : List ℕ) → IsTaken (change Revives document revision source n operations)
    → nat_le 3 revision ≡ true → nat_lt revision (2 ^ 53) ≡ true → nat_lt n (2 ^ 53) ≡ true
    → entry_at (entry (change Revives document revision source n operations) ++ rest) ≡ Some (change Revives document revision source n operations, rest)
unfolding entry_at byte_at entry_behind revival_at entry created_name step_delta
revival_again document revision source n operations rest taken above below number_below =
    let behind_number : List ℕ = delta operations ++ rest in
    let behind_source : List ℕ = number w64 n ++ behind_number in
    let behind_revision : List ℕ = text16 source ++ behind_source in
    let behind_document : List ℕ = number w64 revision ++ behind_revision in
    let behind_tag : List ℕ = number w32 document ++ behind_document in
    let regrouped : entry (change Revives document revision source n operations) ++ rest ≡ 4 ∷ behind_tag = simp append_assoc in
    ap entry_at regrouped
    ∙ rw (
      number_again w32 (2 ^ 32) number32 document behind_document taken.document,
      within_again 3 (2 ^ 53) revision behind_revision (omega (arith, ltb-true _ _ below)) above below,
      name_again 32 source behind_source (omega arith) taken.source,
      within_again 0 (2 ^ 53) n behind_number (omega (arith, ltb-true _ _ number_below)) (le-leb 0 n (omega arith)) number_below,
      delta_again operations rest taken.delta,
    ) refl

-- the bounds of a command without a name
bounds : (step : Step) (revision n : ℕ) → is_kind None step revision n ≡ true
    → (nat_le (first_of step) revision ≡ true) × (nat_lt revision (2 ^ 53) ≡ true) × (nat_lt n (2 ^ 53) ≡ true)
bounds step revision n kind =
    let parts = and_parts (nat_le (first_of step) revision && nat_lt revision (2 ^ 53)) (nat_lt n (2 ^ 53)) kind in
    let both = and_parts (nat_le (first_of step) revision) (nat_lt revision (2 ^ 53)) parts.0 in
    (both.0, both.1, parts.1)

again_by_name : (document : ℕ) (name : Option (List ℕ)) (revision : ℕ) (source : List ℕ) (n : ℕ) (step : Step) (operations : List Operation) (rest : List ℕ)
    → IsTaken (record { document = document; name = name; revision = revision; source = source; number = n; step = step; delta = operations })
    → entry_at (entry (record { document = document; name = name; revision = revision; source = source; number = n; step = step; delta = operations }) ++ rest)
    ≡ Some (record { document = document; name = name; revision = revision; source = source; number = n; step = step; delta = operations }, rest)
again_by_name document None revision source n Edits operations rest is =
    let within = bounds Edits revision n is.kind in
    edit_again document revision source n operations rest is within.0 within.1 within.2
again_by_name document None revision source n Deletes operations rest is =
    let within = bounds Deletes revision n is.kind in
    let same : change Deletes document revision source n [] ≡ change Deletes document revision source n operations = ap (change Deletes document revision source n) (sym is.delta) in
    subst (λ (t : Taken). entry_at (entry t ++ rest) ≡ Some (t, rest)) same
    (deletion_again document revision source n rest (subst IsTaken (sym same) is) within.0 within.1 within.2)
again_by_name document None revision source n Revives operations rest is =
    let within = bounds Revives revision n is.kind in
    revival_again document revision source n operations rest is within.0 within.1 within.2
again_by_name document (Some name) revision source n Edits operations rest is =
    let parts = and_parts (is_document_name name && eqb revision 1) (eqb n 1) is.kind in
    let named = and_parts (is_document_name name) (eqb revision 1) parts.0 in
    let same : ◌≡◌ {A = Taken} (creation document name source operations)
    (record { document = document; name = Some name; revision = revision; source = source; number = n; step = Edits; delta = operations }) =
    rw (eqb-true revision 1 named.1, eqb-true n 1 parts.1) refl in
    subst (λ (t : Taken). entry_at (entry t ++ rest) ≡ Some (t, rest)) same
    (creation_again document name source operations rest (subst IsTaken (sym same) is) named.0)
again_by_name document (Some name) revision source n Deletes operations rest is = absurd (true≢false (sym is.kind))
again_by_name document (Some name) revision source n Revives operations rest is = absurd (true≢false (sym is.kind))

entry_again : (taken : Taken) (rest : List ℕ) → IsTaken taken → entry_at (entry taken ++ rest) ≡ Some (taken, rest)
entry_again taken rest is = again_by_name taken.document taken.name taken.revision taken.source taken.number taken.step taken.delta rest is

entries_take : (count : ℕ) (bytes : List ℕ) (x : List Taken × List ℕ) → IsBytes bytes → entries_at count bytes ≡ Some x → Takes bytes (flat_map entry x.0) x.1 × (length x.0 ≡ count) × AllByRecursion IsTaken x.0
unfolding entries_at
entries_take zero bytes x fit e =
    subst (λ (y : List Taken × List ℕ). Takes bytes (flat_map entry y.0) y.1 × (length y.0 ≡ 0) × AllByRecursion IsTaken y.0) (same_Some _ _ e) (record { parts = refl; rest_fits = fit }, refl, tt)
entries_take (suc n) bytes x fit e =
    option_and_then_some _ (entry_at bytes) x e (λ first e1 k1.
    option_and_then_some (λ (others : List Taken × List ℕ). Some (first.0 ∷ others.0, others.1)) (entries_at n first.1) x k1 (λ others e2 made.
    let t1 = entry_takes bytes first fit e1 in
    let t2 = entries_take n first.1 others t1.0.rest_fits e2 in
    subst (λ (y : List Taken × List ℕ). Takes bytes (flat_map entry y.0) y.1 × (length y.0 ≡ suc n) × AllByRecursion IsTaken y.0) (same_Some _ _ made)
    (Takes-then t1.0 t2.0, ap suc t2.1, (t1.1, t2.2))))

entries_again : (commands : List Taken) (rest : List ℕ) → AllByRecursion IsTaken commands → entries_at (length commands) (flat_map entry commands ++ rest) ≡ Some (commands, rest)
unfolding entries_at
entries_again [] rest all = refl
entries_again (first ∷ others) rest all =
    rw (append_assoc (entry first) (flat_map entry others) rest, entry_again first (flat_map entry others ++ rest) all.0, entries_again others rest all.1) refl

-- ---- batches

batch_takes : (bytes : List ℕ) (x : List Taken × List ℕ) → IsBytes bytes → batch_at bytes ≡ Some x → Takes bytes (batch x.0) x.1 × IsBatch x.0
unfolding batch_at batch
batch_takes bytes x fit e =
    option_and_then_some (λ (count : ℕ × List ℕ). cond (ltb 0 count.0) (entries_at count.0 count.1) None) (number_at w32 bytes) x e (λ count e1 k1.
    let g = some_counted (ltb 0 count.0) (entries_at count.0 count.1) x k1 in
    let t1 = number_takes w32 (2 ^ 32) number32 bytes count fit e1 in
    let t2 = entries_take count.0 count.1 x t1.0.rest_fits g.1 in
    let some = ltb-true _ _ g.0 in
    (rw t2.1 (Takes-then t1.0 t2.0), record { some = omega (arith, t2.1); short = omega (arith, t2.1, t1.1); taken = All-from_recursion IsTaken x.0 t2.2 }))
  where
    some_counted : (b : Bool) (o : Option (List Taken × List ℕ)) (y : List Taken × List ℕ) → cond b o None ≡ Some y → (b ≡ true) × (o ≡ Some y)
    some_counted true o y h = (refl, h)
    some_counted false o y h = absurd cc

batch_again : (commands : List Taken) (rest : List ℕ) → IsBatch commands → batch_at (batch commands ++ rest) ≡ Some (commands, rest)
unfolding batch_at batch
batch_again commands rest is =
    let some : ltb 0 (length commands) ≡ true = lt-ltb _ _ (omega (arith, is.some)) in
    rw (append_assoc (number w32 (length commands)) (flat_map entry commands) rest, number_again w32 (2 ^ 32) number32 (length commands) (flat_map entry commands ++ rest) is.short, some)
    (entries_again commands rest (recursion_from_All IsTaken commands is.taken))

-- what is read as a whole is a batch, spelled so
pub whole_takes : (bytes : List ℕ) (commands : List Taken) → IsBytes bytes → whole_at bytes ≡ Some commands → IsBatch commands × (bytes ≡ batch commands)
unfolding whole_at
whole_takes bytes commands fit e =
    option_and_then_some (λ (x : List Taken × List ℕ). cond (eqb (length x.1) 0) (Some x.0) None) (batch_at bytes) commands e (λ x found made.
    let t = batch_takes bytes x fit found in
    let g = cond_some (eqb (length x.1) 0) x.0 commands made in
    let nothing : x.1 ≡ [] = nil_from_length x.1 (eqb-true _ _ g.0) in
    subst (λ (y : List Taken). IsBatch y × (bytes ≡ batch y)) g.1
    (t.1, t.0.parts ∙ ap (λ (rest : List ℕ). batch x.0 ++ rest) nothing ∙ append-nil (batch x.0)))

-- the spelling of a batch is read as that batch
pub whole_again : (commands : List Taken) → IsBatch commands → whole_at (batch commands) ≡ Some commands
unfolding whole_at
whole_again commands is = ap whole_at (sym (append-nil (batch commands))) ∙ rw (batch_again commands [] is) refl

-- spellings that begin one list are of one batch
pub one_spelling : (a b : List Taken) (x y : List ℕ) → IsBatch a → IsBatch b → batch a ++ x ≡ batch b ++ y → (a ≡ b) × (x ≡ y)
one_spelling a b x y is_a is_b same = some_pair_parts a b x y (sym (batch_again a x is_a) ∙ ap batch_at same ∙ batch_again b y is_b)
