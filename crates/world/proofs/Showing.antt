-- What a state shows after a command comes of the command and of what it showed before, so floors play no part in it.
use Rattle.std.proofs.Common.{◌≡◌, ℕ, zero, suc, ◌+◌, List, [], ◌∷◌, ◌++◌, map, Option, Some, None, refl, sym, ap, ◌∙◌}
use Rattle.std.specs.Prelude.{slice_get, option_map}
use Rattle.std.proofs.lemmas.Option.{slice_get-map}
use Rattle.revision.specs.Command.{Taken}
use Rattle.revision.specs.Past.{empty_past, with_step}
use Rattle.revision.specs.State.{change_of, DocumentRecord, State, record_by_name, record_after, set_document, grown, fold}
use Rattle.world.specs.Shown.{Shown, shown, all_shown}
pub use Rattle.world.specs.steps.Showing.{next_shown, blank, shown_by_name, set_shown, grown_shown, fold_shown}
use Rattle.world.proofs.Pasts.{newest-with_step, content-with_step, sources-with_step}

pub shown-next : (keep : ℕ) (found : DocumentRecord) (taken : Taken)
    → shown (record found { past = with_step keep found.past taken.step (change_of taken) }) ≡ next_shown taken (shown found)
shown-next keep found taken = λ i. record {
  name = found.name;
  content = content-with_step keep found.past taken.step (change_of taken) i;
  revision = newest-with_step keep found.past taken.step (change_of taken) i;
  sources = sources-with_step keep found.past taken.step (change_of taken) i;
}

shown-created : (keep : ℕ) (name : List ℕ) (taken : Taken)
    → shown (record { name = name; past = with_step keep empty_past taken.step (change_of taken) }) ≡ next_shown taken (blank name)
shown-created keep name taken = shown-next keep (record { name = name; past = empty_past }) taken

shown-by_name : (keep : ℕ) (found : Option DocumentRecord) (taken : Taken) (name : Option (List ℕ))
    → option_map shown (record_by_name keep found taken name) ≡ shown_by_name (option_map shown found) taken name
shown-by_name keep None taken None = refl
shown-by_name keep None taken (Some name) = ap Some (shown-created keep name taken)
shown-by_name keep (Some found) taken None = ap Some (shown-next keep found taken)
shown-by_name keep (Some found) taken (Some name) = ap Some (shown-next keep found taken)

shown-set : (number : ℕ) (document : Option DocumentRecord) (documents : List DocumentRecord)
    → map shown (set_document number document documents) ≡ set_shown number (option_map shown document) (map shown documents)
shown-set zero None documents = refl
shown-set (suc number) None documents = refl
shown-set zero (Some document) [] = refl
shown-set (suc number) (Some document) [] = refl
shown-set zero (Some document) (first ∷ others) = refl
shown-set (suc number) (Some document) (first ∷ others) = ap (λ l. shown first ∷ l) (shown-set number (Some document) others)

pub shown-grown : (state : State) (taken : Taken) → all_shown (grown state taken) ≡ grown_shown taken (all_shown state)
shown-grown state taken =
    shown-set taken.document (record_after state.limits.keep (slice_get state.documents taken.document) taken) state.documents
    ∙ ap (λ o. set_shown taken.document o (all_shown state))
    (shown-by_name state.limits.keep (slice_get state.documents taken.document) taken taken.name
    ∙ ap (λ o. shown_by_name o taken taken.name) (sym (slice_get-map shown state.documents taken.document)))

pub shown-fold : (state : State) (commands : List Taken) → all_shown (fold state commands) ≡ fold_shown (all_shown state) commands
shown-fold state [] = refl
shown-fold state (first ∷ others) = shown-fold (grown state first) others ∙ ap (λ d. fold_shown d others) (shown-grown state first)

pub fold_shown-append : (documents : List Shown) (first others : List Taken) → fold_shown documents (first ++ others) ≡ fold_shown (fold_shown documents first) others
fold_shown-append documents [] others = refl
fold_shown-append documents (taken ∷ more) others = fold_shown-append (grown_shown taken documents) more others
