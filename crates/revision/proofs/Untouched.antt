-- Documents with nothing prepared.
use Rattle.std.proofs.Common.{◌≡◌, ◌≢◌, ℕ, zero, suc, ◌⊎◌, inl, inr, List, [], ◌∷◌, ◌++◌, length, map, take, Some, refl, sym, ap, ap₂, subst, ◌∙◌}
use Rattle.std.specs.Prelude.{slice_get}
use Rattle.std.proofs.lemmas.Option.{none-some, same_Some}
use Rattle.revision.specs.steps.ChangedAt.{changed_at, changed_at_all, IsAmong}
use Rattle.revision.specs.Past.{Next, with_steps}
use Rattle.revision.specs.Pending.{PendingDocument, record_of, with_prepared}
use Rattle.revision.specs.State.{DocumentRecord}
use Rattle.revision.specs.steps.DocumentsView.{UntouchedRest}
use Rattle.revision.proofs.ChangedAt.{ReadOfChanged, read_of_changed, among-more, among-last}

-- nothing is prepared of any document
abbrev pub NothingPrepared : List PendingDocument → Type 0
NothingPrepared documents = (i : ℕ) (d : PendingDocument) → slice_get documents i ≡ Some d → d.past.next ≡ []

-- a change that leaves nothing prepared
abbrev pub Empties : (PendingDocument → PendingDocument) → Type 0
Empties change = (d : PendingDocument) → (change d).past.next ≡ []

rest-step : (change : PendingDocument → PendingDocument) → Empties change → (i : ℕ) (is : List ℕ) (documents : List PendingDocument)
    → UntouchedRest (i ∷ is) documents → UntouchedRest is (changed_at change i documents)
rest-step change empties i is documents rest j d read = by_place (read_of_changed change i documents j d read) where
  of_others : j ≢ i → IsAmong j (i ∷ is) ⊎ (d.past.next ≡ []) → IsAmong j is ⊎ (d.past.next ≡ [])
  of_others apart (inl (inl e)) = absurd (apart e)
  of_others apart (inl (inr among)) = inl among
  of_others apart (inr none) = inr none

  by_place : ReadOfChanged change i documents j d → IsAmong j is ⊎ (d.past.next ≡ [])
  by_place (inl here) = inr (ap (λ (e : PendingDocument). e.past.next) (sym here.1.2) ∙ empties here.1.0)
  by_place (inr there) = of_others there.0 (rest j d there.1)

none_among : (d : PendingDocument) (i : ℕ) → IsAmong i [] ⊎ (d.past.next ≡ []) → d.past.next ≡ []
none_among d i (inl among) = absurd among
none_among d i (inr e) = e

-- where all that is touched is emptied, nothing is prepared
pub nothing_left : (change : PendingDocument → PendingDocument) → Empties change → (is : List ℕ) (documents : List PendingDocument)
    → UntouchedRest is documents → NothingPrepared (changed_at_all change is documents)
nothing_left change empties [] documents rest = λ i d read. none_among d i (rest i d read)
nothing_left change empties (i ∷ is) documents rest =
    nothing_left change empties is (changed_at change i documents) (rest-step change empties i is documents rest)

-- then nothing needs to be touched
pub rest-none : (documents : List PendingDocument) → NothingPrepared documents → UntouchedRest [] documents
rest-none documents none i d read = inr (none i d read)

pub rest-touch : (is : List ℕ) (i : ℕ) (documents : List PendingDocument) → UntouchedRest is documents → UntouchedRest (is ++ i ∷ []) documents
rest-touch is i documents rest j d read = more (rest j d read) where
  more : IsAmong j is ⊎ (d.past.next ≡ []) → IsAmong j (is ++ i ∷ []) ⊎ (d.past.next ≡ [])
  more (inl among) = inl (among-more j is i among)
  more (inr e) = inr e

-- a document that is touched may be changed
pub rest-changed : (change : PendingDocument → PendingDocument) (is : List ℕ) (i : ℕ) (documents : List PendingDocument) → IsAmong i is
    → UntouchedRest is documents → UntouchedRest is (changed_at change i documents)
rest-changed change is i documents touched rest j d read = by_place (read_of_changed change i documents j d read) where
  by_place : ReadOfChanged change i documents j d → IsAmong j is ⊎ (d.past.next ≡ [])
  by_place (inl here) = inl (rw here.0 touched)
  by_place (inr there) = rest j d there.1

-- what is held is what becomes of it, where nothing is prepared
pub record_of-with_prepared : (keep : ℕ) (documents : List PendingDocument) → NothingPrepared documents
    → map record_of documents ≡ map (with_prepared keep) documents
record_of-with_prepared keep [] none = refl
record_of-with_prepared keep (d ∷ others) none =
    ap₂ (λ (e : DocumentRecord) es. e ∷ es)
    (ap (λ (next : List Next). record { name = d.name; past = with_steps keep d.past.past next }) (sym (none 0 d refl)))
    (record_of-with_prepared keep others (λ i e read. none (suc i) e read))

slice_get-take : {X : Type 0} (n : ℕ) (xs : List X) (i : ℕ) (x : X) → slice_get (take n xs) i ≡ Some x → slice_get xs i ≡ Some x
slice_get-take zero xs i x read = absurd (none-some x read)
slice_get-take (suc n) [] i x read = absurd (none-some x read)
slice_get-take (suc n) (y ∷ ys) zero x read = read
slice_get-take (suc n) (y ∷ ys) (suc i) x read = slice_get-take n ys i x read

pub rest-take : (count : ℕ) (is : List ℕ) (documents : List PendingDocument) → UntouchedRest is documents → UntouchedRest is (take count documents)
rest-take count is documents rest i d read = rest i d (slice_get-take count documents i d read)

-- a document more, which is touched
read_of_more : {X : Type 0} (xs : List X) (x : X) (i : ℕ) (y : X) → slice_get (xs ++ x ∷ []) i ≡ Some y → (slice_get xs i ≡ Some y) ⊎ (i ≡ length xs)
read_of_more [] x zero y read = inr refl
read_of_more [] x (suc i) y read = absurd (none-some y read)
read_of_more (z ∷ zs) x zero y read = inl read
read_of_more (z ∷ zs) x (suc i) y read = further (read_of_more zs x i y read) where
  further : (slice_get zs i ≡ Some y) ⊎ (i ≡ length zs) → (slice_get zs i ≡ Some y) ⊎ (suc i ≡ suc (length zs))
  further (inl there) = inl there
  further (inr last) = inr (ap suc last)

pub rest-more : (is : List ℕ) (number : ℕ) (documents : List PendingDocument) (d : PendingDocument) → number ≡ length documents
    → UntouchedRest is documents → UntouchedRest (is ++ number ∷ []) (documents ++ d ∷ [])
rest-more is number documents d last rest i e read = by_place (read_of_more documents d i e read) where
  by_place : (slice_get documents i ≡ Some e) ⊎ (i ≡ length documents) → IsAmong i (is ++ number ∷ []) ⊎ (e.past.next ≡ [])
  by_place (inl there) = rest-touch is number documents rest i e there
  by_place (inr here) = inl (rw (here ∙ sym last) (among-last is number))

last_read : {X : Type 0} (xs : List X) (x y : X) → slice_get (xs ++ x ∷ []) (length xs) ≡ Some y → x ≡ y
last_read [] x y read = same_Some x y read
last_read (z ∷ zs) x y read = last_read zs x y read

-- one more document, with nothing prepared
pub rest-one : (is : List ℕ) (documents : List PendingDocument) (d : PendingDocument) → d.past.next ≡ []
    → UntouchedRest is documents → UntouchedRest is (documents ++ d ∷ [])
rest-one is documents d none rest i e read = by_place (read_of_more documents d i e read) where
  by_place : (slice_get documents i ≡ Some e) ⊎ (i ≡ length documents) → IsAmong i is ⊎ (e.past.next ≡ [])
  by_place (inl there) = rest i e there
  by_place (inr here) =
      inr (subst (λ (x : PendingDocument). x.past.next ≡ []) (last_read documents d e (subst (λ n. slice_get (documents ++ d ∷ []) n ≡ Some e) here read)) none)
