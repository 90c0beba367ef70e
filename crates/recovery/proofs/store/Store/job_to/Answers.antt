use Rattle.std.proofs.Common.{◌≡◌, ◌∙◌, Option, Some, None, Err, refl, sym, ap, List, length}
use Rattle.std.specs.Prelude.{slice_get}
use Rattle.std.proofs.lemmas.Option.{slice_get_read}
use Rattle.milestone.specs.declared.cells.Cells.{Cells}
use Rattle.revision.specs.Pending.{record_of}
use Rattle.revision.specs.State.{DocumentRecord}
use Rattle.refusal.specs.declared.Refusal.{Refusal}
use Rattle.recovery.specs.Cells.{highest_known}
use Rattle.recovery.specs.Jobs.{no_job_of, no_job_for}
use Rattle.recovery.proofs.HandedOut.{document_there, held_here, none≢some, same_some, memory_told, no_reason, lengths_here, sources_here, content_here, one_job, one_keeps}
use Rattle.recovery.proofs.Unwritten.{made_of}
use Rattle.recovery.proofs.store.Store.job_to.Goals as goal

pub job_of-requires-clause-sources : goal.job_of-requires-clause-sources
job_of-requires-clause-sources g c =
    let store = c.args.self.now in
    let found = c.in-Some.found.now in
    let there : slice_get c.documents.result.now c.args.document ≡ Some found = slice_get_read c.documents.result.now (length c.documents.result.now) c.args.document found refl c.in-Some.ensures.lookup.3.0 c.in-Some.ensures.lookup.1 in
    let none : no_job_of (record_of found) c.highest_of.result c.args.revision ≡ None = sym c.why_none.ensures.is ∙ c.in_default-why_none.is in
    sources_here store.state c.facts.ensures.state c.args.document c.args.revision c.highest_of.result (record_of found)
    (document_there c.documents.result.now store.state.documents c.args.document found c.documents.ensures.documents there) none

pub job_of-requires-clause-content : goal.job_of-requires-clause-content
job_of-requires-clause-content g c =
    let store = c.args.self.now in
    let found = c.in-Some.found.now in
    let there : slice_get c.documents.result.now c.args.document ≡ Some found = slice_get_read c.documents.result.now (length c.documents.result.now) c.args.document found refl c.in-Some.ensures.lookup.3.0 c.in-Some.ensures.lookup.1 in
    let none : no_job_of (record_of found) c.highest_of.result c.args.revision ≡ None = sym c.why_none.ensures.is ∙ c.in_default-why_none.is in
    content_here store.state c.facts.ensures.state c.args.document c.args.revision c.highest_of.result (record_of found)
    (document_there c.documents.result.now store.state.documents c.args.document found c.documents.ensures.documents there) none

pub job_of-requires-clause-lengths : goal.job_of-requires-clause-lengths
job_of-requires-clause-lengths g c =
    let store = c.args.self.now in
    let found = c.in-Some.found.now in
    let there : slice_get c.documents.result.now c.args.document ≡ Some found = slice_get_read c.documents.result.now (length c.documents.result.now) c.args.document found refl c.in-Some.ensures.lookup.3.0 c.in-Some.ensures.lookup.1 in
    let none : no_job_of (record_of found) c.highest_of.result c.args.revision ≡ None = sym c.why_none.ensures.is ∙ c.in_default-why_none.is in
    lengths_here store.state c.facts.ensures.state c.args.document (record_of found)
    (document_there c.documents.result.now store.state.documents c.args.document found c.documents.ensures.documents there) c.args.revision
    (held_here (record_of found) c.highest_of.result c.args.revision none).2

pub returns-clause-job : goal.returns-clause-job
returns-clause-job g c =
    let store = c.args.self.now in
    let found = c.in-Some.found.now in
    let there : slice_get c.documents.result.now c.args.document ≡ Some found = slice_get_read c.documents.result.now (length c.documents.result.now) c.args.document found refl c.in-Some.ensures.lookup.3.0 c.in-Some.ensures.lookup.1 in
    let none : no_job_of (record_of found) c.highest_of.result c.args.revision ≡ None = sym c.why_none.ensures.is ∙ c.in_default-why_none.is in
    one_job store.state c.facts.ensures.state c.args.document c.args.revision c.highest_of.result (record_of found)
    (document_there c.documents.result.now store.state.documents c.args.document found c.documents.ensures.documents there) none
    c.in_ok-job.job c.in_ok-job.ensures.document c.in_ok-job.ensures.is

pub returns-clause-keeps : goal.returns-clause-keeps
returns-clause-keeps g c =
    let store = c.args.self.now in
    let found = c.in-Some.found.now in
    let there : slice_get c.documents.result.now c.args.document ≡ Some found = slice_get_read c.documents.result.now (length c.documents.result.now) c.args.document found refl c.in-Some.ensures.lookup.3.0 c.in-Some.ensures.lookup.1 in
    let none : no_job_of (record_of found) c.highest_of.result c.args.revision ≡ None = sym c.why_none.ensures.is ∙ c.in_default-why_none.is in
    one_keeps store.state c.facts.ensures.state c.args.document c.args.revision c.highest_of.result (record_of found)
    (document_there c.documents.result.now store.state.documents c.args.document found c.documents.ensures.documents there) none
    c.in_ok-job.job c.in_ok-job.ensures.document c.in_ok-job.ensures.is

pub returns-clause-given : goal.returns-clause-given
returns-clause-given g c =
    let store = c.args.self.now in
    let found = c.in-Some.found.now in
    let there : slice_get c.documents.result.now c.args.document ≡ Some found = slice_get_read c.documents.result.now (length c.documents.result.now) c.args.document found refl c.in-Some.ensures.lookup.3.0 c.in-Some.ensures.lookup.1 in
    let highest : c.highest_of.result ≡ highest_known store.cells.items c.args.document = c.highest_of.ensures ∙ ap (λ (l : List Cells). highest_known l c.args.document) c.deref.ensures.value in
    let none : no_job_of (record_of found) (highest_known store.cells.items c.args.document) c.args.revision ≡ None =
    ap (λ n. no_job_of (record_of found) n c.args.revision) (sym highest) ∙ sym c.why_none.ensures.is ∙ c.in_default-why_none.is in
    no_reason store.state c.facts.ensures.state c.args.document c.args.revision (highest_known store.cells.items c.args.document) (record_of found)
    (document_there c.documents.result.now store.state.documents c.args.document found c.documents.ensures.documents there) none

pub returns-clause-refused : goal.returns-clause-refused
returns-clause-refused g c why is =
    let store = c.args.self.now in
    let found = c.in-Some.found.now in
    let there : slice_get c.documents.result.now c.args.document ≡ Some found = slice_get_read c.documents.result.now (length c.documents.result.now) c.args.document found refl c.in-Some.ensures.lookup.3.0 c.in-Some.ensures.lookup.1 in
    let highest : c.highest_of.result ≡ highest_known store.cells.items c.args.document = c.highest_of.ensures ∙ ap (λ (l : List Cells). highest_known l c.args.document) c.deref.ensures.value in
    let none : no_job_of (record_of found) (highest_known store.cells.items c.args.document) c.args.revision ≡ None =
    ap (λ n. no_job_of (record_of found) n c.args.revision) (sym highest) ∙ sym c.why_none.ensures.is ∙ c.in_default-why_none.is in
    let no_one : None ≡ Some why = sym (no_reason store.state c.facts.ensures.state c.args.document c.args.revision (highest_known store.cells.items c.args.document) (record_of found)
    (document_there c.documents.result.now store.state.documents c.args.document found c.documents.ensures.documents there) none) ∙ is in
    absurd (none≢some no_one)

pub returns-in_err-job-clause-refused : goal.returns-in_err-job-clause-refused
returns-in_err-job-clause-refused g c why is =
    let store = c.args.self.now in
    let found = c.in-Some.found.now in
    let there : slice_get c.documents.result.now c.args.document ≡ Some found = slice_get_read c.documents.result.now (length c.documents.result.now) c.args.document found refl c.in-Some.ensures.lookup.3.0 c.in-Some.ensures.lookup.1 in
    let highest : c.highest_of.result ≡ highest_known store.cells.items c.args.document = c.highest_of.ensures ∙ ap (λ (l : List Cells). highest_known l c.args.document) c.deref.ensures.value in
    let none : no_job_of (record_of found) (highest_known store.cells.items c.args.document) c.args.revision ≡ None =
    ap (λ n. no_job_of (record_of found) n c.args.revision) (sym highest) ∙ sym c.why_none.ensures.is ∙ c.in_default-why_none.is in
    let no_one : None ≡ Some why = sym (no_reason store.state c.facts.ensures.state c.args.document c.args.revision (highest_known store.cells.items c.args.document) (record_of found)
    (document_there c.documents.result.now store.state.documents c.args.document found c.documents.ensures.documents there) none) ∙ is in
    absurd (none≢some no_one)

pub returns-in_err-job-clause-refusal : goal.returns-in_err-job-clause-refusal
returns-in_err-job-clause-refusal g c = memory_told _ c.from_residual.result c.from_residual.ensures.1

pub returns-in-Some-why_none-clause-refusal : goal.returns-in-Some-why_none-clause-refusal
returns-in-Some-why_none-clause-refusal g c other =
    let store = c.args.self.now in
    let found = c.in-Some.found.now in
    let there : slice_get c.documents.result.now c.args.document ≡ Some found = slice_get_read c.documents.result.now (length c.documents.result.now) c.args.document found refl c.in-Some.ensures.lookup.3.0 c.in-Some.ensures.lookup.1 in
    let highest : c.highest_of.result ≡ highest_known store.cells.items c.args.document = c.highest_of.ensures ∙ ap (λ (l : List Cells). highest_known l c.args.document) c.deref.ensures.value in
    ap (λ (d : Option DocumentRecord). no_job_for d (highest_known store.cells.items c.args.document) c.args.revision)
    (document_there c.documents.result.now store.state.documents c.args.document found c.documents.ensures.documents there)
    ∙ ap (λ n. no_job_of (record_of found) n c.args.revision) (sym highest) ∙ sym c.why_none.ensures.is ∙ c.in-Some-why_none.is

pub returns-in-Some-why_none-clause-refused : goal.returns-in-Some-why_none-clause-refused
returns-in-Some-why_none-clause-refused g c why is =
    let store = c.args.self.now in
    let found = c.in-Some.found.now in
    let there : slice_get c.documents.result.now c.args.document ≡ Some found = slice_get_read c.documents.result.now (length c.documents.result.now) c.args.document found refl c.in-Some.ensures.lookup.3.0 c.in-Some.ensures.lookup.1 in
    let highest : c.highest_of.result ≡ highest_known store.cells.items c.args.document = c.highest_of.ensures ∙ ap (λ (l : List Cells). highest_known l c.args.document) c.deref.ensures.value in
    let reason : no_job_for (slice_get store.state.documents c.args.document) (highest_known store.cells.items c.args.document) c.args.revision ≡ Some c.in-Some-why_none.refusal =
    ap (λ (d : Option DocumentRecord). no_job_for d (highest_known store.cells.items c.args.document) c.args.revision)
    (document_there c.documents.result.now store.state.documents c.args.document found c.documents.ensures.documents there)
    ∙ ap (λ n. no_job_of (record_of found) n c.args.revision) (sym highest) ∙ sym c.why_none.ensures.is ∙ c.in-Some-why_none.is in
    ap (λ (r : Refusal). Err r) (same_some c.in-Some-why_none.refusal why (sym reason ∙ is))

-- what it is made of
pub returns-clause-made : goal.returns-clause-made
returns-clause-made g c =
    let store = c.args.self.now in
    let found = c.in-Some.found.now in
    let there : slice_get c.documents.result.now c.args.document ≡ Some found = slice_get_read c.documents.result.now (length c.documents.result.now) c.args.document found refl c.in-Some.ensures.lookup.3.0 c.in-Some.ensures.lookup.1 in
    made_of store.state.documents c.args.document c.args.revision (record_of found)
    (document_there c.documents.result.now store.state.documents c.args.document found c.documents.ensures.documents there) c.in_ok-job.job c.in_ok-job.ensures.made
