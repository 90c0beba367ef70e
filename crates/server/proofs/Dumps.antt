-- Lines of documents.
use Rattle.std.proofs.Common.{◌≡◌, ◌++◌, ◌+◌, ◌<◌, List, ℕ, [], ◌∷◌, Option, length, map, take, drop, get_or, sym, ap, subst, ◌∙◌, append-nil}
use Rattle.std.proofs.lemmas.Grind.{flat_map-append}
use Rattle.std.proofs.lemmas.List.{map-append, map_push, take-append-drop, take_more}
use Rattle.std.specs.Io.KnownBytes.{Appends}
use Rattle.session.specs.Output.{AppendsFront}
use Rattle.session.proofs.CallerLemmas.{appends-both}
use Rattle.revision.specs.State.{DocumentRecord}
use Rattle.revision.specs.Pending.{PendingDocument, record_of}
use Rattle.server.specs.Dump.{document_line, dump_of}
use Rattle.server.proofs.Fronts.{front-of, front-behind, front-longer}

dump_of-last : (documents : List DocumentRecord) (last : DocumentRecord) → dump_of (documents ++ last ∷ []) ≡ dump_of documents ++ document_line last
dump_of-last documents last =
    flat_map-append document_line documents (last ∷ []) ∙ ap (λ (line : List ℕ). dump_of documents ++ line) (append-nil (document_line last))

-- the lines of a prefix of the documents and the next one
pub dump_of-more : (documents : List PendingDocument) (i : ℕ) (next : PendingDocument) → i < length documents → next ≡ get_or documents i next
    → dump_of (map record_of (take (i + 1) documents)) ≡ dump_of (map record_of (take i documents)) ++ document_line (record_of next)
dump_of-more documents i next within is =
    ap (λ (ds : List PendingDocument). dump_of (map record_of ds)) (take_more documents i next within ∙ ap (λ (d : PendingDocument). take i documents ++ d ∷ []) (sym is))
    ∙ ap dump_of (map_push record_of (take i documents) next) ∙ dump_of-last (map record_of (take i documents)) (record_of next)

-- the lines of a prefix of the documents and of the others
dump_of-parts : (documents : List PendingDocument) (i : ℕ)
    → dump_of (map record_of (take i documents)) ++ dump_of (map record_of (drop i documents)) ≡ dump_of (map record_of documents)
dump_of-parts documents i =
    sym (flat_map-append document_line (map record_of (take i documents)) (map record_of (drop i documents)))
    ∙ ap dump_of (sym (map-append record_of (take i documents) (drop i documents)))
    ∙ ap (λ (ds : List PendingDocument). dump_of (map record_of ds)) (take-append-drop i documents)

-- the lines of a prefix of the documents are a prefix of all lines
pub front-dumped : (documents : List PendingDocument) (records : List DocumentRecord) (i : ℕ) (a b : Option (List ℕ)) → map record_of documents ≡ records
    → Appends a b (dump_of (map record_of (take i documents))) → AppendsFront a b (dump_of records)
front-dumped documents records i a b are written =
    front-of a b (dump_of (map record_of (take i documents))) (dump_of (map record_of (drop i documents))) (dump_of records)
    (dump_of-parts documents i ∙ ap dump_of are) written

-- and so they are with a prefix of the next line
pub front-within : (documents : List PendingDocument) (records : List DocumentRecord) (i : ℕ) (next : PendingDocument) (line : List ℕ) (a b c : Option (List ℕ))
    → map record_of documents ≡ records → i < length documents → next ≡ get_or documents i next → line ≡ document_line (record_of next)
    → Appends a b (dump_of (map record_of (take i documents))) → AppendsFront b c line → AppendsFront a c (dump_of records)
front-within documents records i next line a b c are within is line_is written front =
    let done = dump_of (map record_of (take i documents)) in
    let others = dump_of (map record_of (drop (i + 1) documents)) in
    subst (AppendsFront a c) (dump_of-parts documents (i + 1) ∙ ap dump_of are)
    (subst (λ (l : List ℕ). AppendsFront a c (l ++ others)) (sym (dump_of-more documents i next within is))
    (front-longer a c (done ++ document_line (record_of next)) others
    (front-behind a b c done (document_line (record_of next)) written (subst (AppendsFront b c) line_is front))))

-- the next line behind them
pub dumped-next : (documents : List PendingDocument) (i : ℕ) (next : PendingDocument) (line : List ℕ) (a b c : Option (List ℕ))
    → i < length documents → next ≡ get_or documents i next → line ≡ document_line (record_of next)
    → Appends a b (dump_of (map record_of (take i documents))) → Appends b c line → Appends a c (dump_of (map record_of (take (i + 1) documents)))
dumped-next documents i next line a b c within is line_is written more =
    subst (Appends a c) (sym (dump_of-more documents i next within is))
    (appends-both a b c (dump_of (map record_of (take i documents))) (document_line (record_of next)) written (subst (Appends b c) line_is more))
