-- A job that is handed out, or why there is none.
use Rattle.std.proofs.Common.{◌≡◌, ◌≢◌, ℕ, zero, suc, ◌≤◌, true, Option, Some, None, List, [], ◌∷◌, map, sym, ◌∙◌, ap, subst, arith}
use Rattle.std.specs.Prelude.{Result, Ok, Err, IfErr, IsErrAnd, OnOk, OnErr, slice_get}
use Rattle.std.proofs.lemmas.Bool.Decides.{nat_tests}
use Rattle.std.proofs.lemmas.Option.{slice_get_within}
use Rattle.std.proofs.lemmas.List.Elements.{All-push}
use Rattle.refusal.specs.declared.Refusal.{Refusal}
use Rattle.refusal.specs.declared.Refusal.TheVariants.{NoMemory}
use Rattle.delta.specs.Element.{Element}
use Rattle.delta.specs.Operation.{Operation}
use Rattle.delta.specs.Gaps.{End}
use Rattle.delta.specs.Normal.{nf}
use Rattle.revision.specs.Past.{is_content, content_at, sources_at}
use Rattle.revision.specs.Pending.{PendingDocument, record_of}
use Rattle.revision.specs.State.{Limits, DocumentRecord, State, revision_of, are_sources}
use Rattle.revision.specs.Invariants.{IsState}
use Rattle.revision.specs.Replay.{IsReplay}
use Rattle.history.specs.Cell.{CellKeeps, cell_of}
use Rattle.milestone.specs.Job.{Job, KeepLengths, cell_of_job}
use Rattle.milestone.proofs.CallerLemmas.{pasts_keep_lengths}
use Rattle.recovery.specs.Jobs.{no_job_of, no_job_for, IsJobTo, KeepsLimits, AllKeep, without_job, with_job}
use Rattle.recovery.proofs.KeptJobs.{all_passing}
use Rattle.std.specs.Prelude.{◌==◌, not}

-- the document at a place
pub document_there : (list : List PendingDocument) (documents : List DocumentRecord) (place : ℕ) (document : PendingDocument)
    → map record_of list ≡ documents → slice_get list place ≡ Some document → slice_get documents place ≡ Some (record_of document)
document_there list documents place document same there =
    subst (λ (l : List DocumentRecord). slice_get l place ≡ Some (record_of document)) same (in_map list place there)
  where
    in_map : (l : List PendingDocument) (n : ℕ) → slice_get l n ≡ Some document → slice_get (map record_of l) n ≡ Some (record_of document)
    in_map [] n is = absurd cc
    in_map (first ∷ others) zero is = let same : first ≡ document = cc in ap (λ (d : PendingDocument). Some (record_of d)) same
    in_map (first ∷ others) (suc n) is = in_map others n is

-- where nothing speaks against it, the document holds the revision
pub held_here : (found : DocumentRecord) (highest revision : ℕ) → no_job_of found highest revision ≡ None
    → (1 ≤ revision) × (found.past.floor ≤ revision) × (revision ≤ revision_of found) × (highest ≤ revision)
held_here found highest revision none = (grind (arith, nat_tests), grind (arith, nat_tests), grind (arith, nat_tests), grind (arith, nat_tests))

pub none≢some : {A : Type 0} {x : A} → ◌≡◌ {A = Option A} None (Some x) → ⊥
none≢some is = cc

pub same_some : {A : Type 0} (x y : A) → ◌≡◌ {A = Option A} (Some x) (Some y) → x ≡ y
same_some x y is = cc

pub memory_told : {A : Type 0} (P : Refusal → Type 0) (result : Result A Refusal) → IsErrAnd result (λ e. e ≡ NoMemory) → IfErr result (λ e. e ≢ NoMemory → P e)
memory_told P (Ok answer) told = absurd told
memory_told P (Err refusal) told = λ other. absurd (other told)

pub same_error : {A : Type 0} (result : Result A Refusal) (x y : Refusal) → result ≡ Err x → result ≡ Err y → x ≡ y
same_error result x y one other = cc

-- what leads to a revision of a document has lengths that a job may have
pub lengths_here : (state : State) (is_state : IsState state) (document : ℕ) (found : DocumentRecord) → slice_get state.documents document ≡ Some found
    → (revision : ℕ) → revision ≤ revision_of found → (units : List Element) (deltas : List (List Operation)) → IsReplay found.past revision units deltas
    → KeepLengths (nf (End units)) deltas
lengths_here state is_state document found there revision reached units deltas is =
    pasts_keep_lengths state.limits found.past revision units deltas is_state.limits (is_state.each document found there) reached is

module _ (state : State) (is_state : IsState state) (document revision highest : ℕ) (found : DocumentRecord) (there : slice_get state.documents document ≡ Some found)
    (none : no_job_of found highest revision ≡ None) where
  pub no_reason : no_job_for (slice_get state.documents document) highest revision ≡ None
  no_reason = ap (λ (d : Option DocumentRecord). no_job_for d highest revision) there ∙ none

  pub sources_here : are_sources revision (sources_at found.past revision).entries ≡ true
  sources_here = let here = held_here found highest revision none in ((is_state.each document found there).each revision here.1 here.2).sources

  pub content_here : is_content (content_at found.past revision) ≡ true
  content_here = let here = held_here found highest revision none in ((is_state.each document found there).each revision here.1 here.2).content

  pub one_job : (job : Job) → job.document ≡ document → cell_of_job job ≡ cell_of found revision → IsJobTo state.documents document revision job
  one_job job number is = let here = held_here found highest revision none in record {
    number = number;
    found = found;
    there = there;
    first = here.0;
    held = here.1;
    reached = here.2;
    is = is;
  }

  pub one_keeps : (job : Job) → job.document ≡ document → cell_of_job job ≡ cell_of found revision → KeepsLimits state.limits job
  one_keeps job number is =
      let here = held_here found highest revision none in
      let past = is_state.each document found there in
      let at = past.each revision here.1 here.2 in
      record {
        inside = omega (arith, number, slice_get_within state.documents document found there, is_state.count);
        keeps = subst (CellKeeps state.limits) (sym is) (record {
          first = here.0;
          last = omega (arith, here.2, past.last);
          count = at.count;
          sources = at.sources;
          content = at.content;
          mark = at.mark;
          weight = at.weight;
        });
      }

-- jobs that keep the limits, with one more
pub all_keep_with : (limits : Limits) (job : Job) (jobs : List Job) → KeepsLimits limits job → AllKeep limits jobs → AllKeep limits (with_job job jobs)
all_keep_with limits job jobs one all =
    All-push (KeepsLimits limits) (without_job job.document jobs) job (all_passing (KeepsLimits limits) (λ other. not (other.document == job.document)) jobs all) one

pub keep_after : {A E : Type 0} (result : Result A E) (limits : Limits) (job : Job) (jobs now : List Job) → OnOk result (now ≡ with_job job jobs) → OnErr result (now ≡ jobs)
    → KeepsLimits limits job → AllKeep limits jobs → AllKeep limits now
keep_after (Ok answer) limits job jobs now ok err one all = subst (AllKeep limits) (sym ok) (all_keep_with limits job jobs one all)
keep_after (Err no_memory) limits job jobs now ok err one all = subst (AllKeep limits) (sym err) all
