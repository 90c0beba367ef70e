-- Lines of documents.
use Rattle.std.proofs.Common.{◌≡◌, ◌++◌, ◌+◌, ◌<◌, List, ℕ, [], ◌∷◌, Option, length, map, take, drop, get_or, sym, ap, subst, ◌∙◌, append-nil}
use Rattle.std.specs.List.{flat_map}
use Rattle.std.proofs.lemmas.Grind.{flat_map-append}
use Rattle.std.proofs.lemmas.List.{map-append, map_push, take-append-drop, take_more}
use Rattle.std.specs.Io.KnownBytes.{Appends}
use Rattle.session.specs.Output.{AppendsFront}
use Rattle.session.proofs.CallerLemmas.{appends-both}
use Rattle.revision.specs.State.{DocumentRecord}
use Rattle.revision.specs.Pending.{PendingDocument, record_of}
use Rattle.inspection.proofs.Fronts.{front-of, front-behind, front-longer}
pub use Rattle.revision.proofs.CallerLemmas.{record_at_place}

module _ (line : DocumentRecord → List ℕ) where
  lines-last : (documents : List DocumentRecord) (last : DocumentRecord) → flat_map line (documents ++ last ∷ []) ≡ flat_map line documents ++ line last
  lines-last documents last =
      flat_map-append line documents (last ∷ []) ∙ ap (λ (l : List ℕ). flat_map line documents ++ l) (append-nil (line last))

  -- the lines of a prefix of the documents and the next one
  pub lines-more : (documents : List PendingDocument) (i : ℕ) (next : PendingDocument) → i < length documents → next ≡ get_or documents i next
      → flat_map line (map record_of (take (i + 1) documents)) ≡ flat_map line (map record_of (take i documents)) ++ line (record_of next)
  lines-more documents i next within is =
      ap (λ (ds : List PendingDocument). flat_map line (map record_of ds)) (take_more documents i next within ∙ ap (λ (d : PendingDocument). take i documents ++ d ∷ []) (sym is))
      ∙ ap (λ (ds : List DocumentRecord). flat_map line ds) (map_push record_of (take i documents) next) ∙ lines-last (map record_of (take i documents)) (record_of next)

  -- the lines of a prefix of the documents and of the others
  lines-parts : (documents : List PendingDocument) (i : ℕ)
      → flat_map line (map record_of (take i documents)) ++ flat_map line (map record_of (drop i documents)) ≡ flat_map line (map record_of documents)
  lines-parts documents i =
      sym (flat_map-append line (map record_of (take i documents)) (map record_of (drop i documents)))
      ∙ ap (λ (ds : List DocumentRecord). flat_map line ds) (sym (map-append record_of (take i documents) (drop i documents)))
      ∙ ap (λ (ds : List PendingDocument). flat_map line (map record_of ds)) (take-append-drop i documents)

  -- the lines of a prefix of the documents are a prefix of all lines
  pub front-told : (documents : List PendingDocument) (records : List DocumentRecord) (i : ℕ) (a b : Option (List ℕ)) → map record_of documents ≡ records
      → Appends a b (flat_map line (map record_of (take i documents))) → AppendsFront a b (flat_map line records)
  front-told documents records i a b are written =
      front-of a b (flat_map line (map record_of (take i documents))) (flat_map line (map record_of (drop i documents))) (flat_map line records)
      (lines-parts documents i ∙ ap (λ (ds : List DocumentRecord). flat_map line ds) are) written

  -- and so they are with a prefix of the next line
  pub front-within : (documents : List PendingDocument) (records : List DocumentRecord) (i : ℕ) (next : PendingDocument) (text : List ℕ) (a b c : Option (List ℕ))
      → map record_of documents ≡ records → i < length documents → next ≡ get_or documents i next → text ≡ line (record_of next)
      → Appends a b (flat_map line (map record_of (take i documents))) → AppendsFront b c text → AppendsFront a c (flat_map line records)
  front-within documents records i next text a b c are within is text_is written front =
      let done = flat_map line (map record_of (take i documents)) in
      let others = flat_map line (map record_of (drop (i + 1) documents)) in
      subst (AppendsFront a c) (lines-parts documents (i + 1) ∙ ap (λ (ds : List DocumentRecord). flat_map line ds) are)
      (subst (λ (l : List ℕ). AppendsFront a c (l ++ others)) (sym (lines-more documents i next within is))
      (front-longer a c (done ++ line (record_of next)) others
      (front-behind a b c done (line (record_of next)) written (subst (AppendsFront b c) text_is front))))

  -- the next line behind them
  pub told-next : (documents : List PendingDocument) (i : ℕ) (next : PendingDocument) (text : List ℕ) (a b c : Option (List ℕ))
      → i < length documents → next ≡ get_or documents i next → text ≡ line (record_of next)
      → Appends a b (flat_map line (map record_of (take i documents))) → Appends b c text → Appends a c (flat_map line (map record_of (take (i + 1) documents)))
  told-next documents i next text a b c within is text_is written more =
      subst (Appends a c) (sym (lines-more documents i next within is))
      (appends-both a b c (flat_map line (map record_of (take i documents))) (line (record_of next)) written (subst (Appends b c) text_is more))
