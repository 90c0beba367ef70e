use Rattle.std.proofs.Common.{◌≡◌, ◌∙◌, ◌<◌, ℕ, zero, suc, Bool, false, List, [], refl, sym, ap, subst, arith, rules}
use Rattle.std.specs.Prelude.{◌==◌}
use Rattle.std.proofs.lemmas.Bool.{eqb-false}
use Rattle.std.proofs.lemmas.List.{nil_from_length}
use Rattle.std.proofs.lemmas.Result.{err_from_is_err_and}
use Rattle.delta.specs.Element.{Element}
use Rattle.history.specs.Cell.{Cell}
use Rattle.milestone.specs.CellSpelling.{cell_body_in, IsCellIn}
use Rattle.milestone.proofs.Bodies.{all_last, at_name, at_revision, at_mark, at_content, at_marked, at_sources, at_end, all_found}
use Rattle.milestone.proofs.reading.whole.Goals as goal

pub returns-in_err-name-clause-none : goal.returns-in_err-name-clause-none
returns-in_err-name-clause-none c =
    let why = err_from_is_err_and c.from_residual-in_err-name.result c.from_residual-in_err-name.ensures.1 in
    rw why.1 (λ is.
    at_name c.args.format c.args.number (omega arith) c.args.bytes.now _ c.in_ok-rest.ensures.found
    (c.in_err-name.ensures.none (sym why.2 ∙ is)))

pub returns-in_err-revision-clause-none : goal.returns-in_err-revision-clause-none
returns-in_err-revision-clause-none c =
    let why = err_from_is_err_and c.from_residual-in_err-revision.result c.from_residual-in_err-revision.ensures.1 in
    rw why.1 (λ is.
    at_revision c.args.format c.args.number (omega arith) c.args.bytes.now _ c.in_ok-rest.ensures.found
    c.in_ok-name.name c.in_ok-name.rest.now c.in_ok-name.ensures.found.0 c.in_ok-name.ensures.found.1
    (c.in_err-revision.ensures.none (sym why.2 ∙ is)))

pub returns-in_err-live-clause-none : goal.returns-in_err-live-clause-none
returns-in_err-live-clause-none c =
    let why = err_from_is_err_and c.from_residual-in_err-live.result c.from_residual-in_err-live.ensures.1 in
    rw why.1 (λ is.
    at_mark c.args.format c.args.number (omega arith) c.args.bytes.now _ c.in_ok-rest.ensures.found
    c.in_ok-name.name c.in_ok-name.rest.now c.in_ok-name.ensures.found.0 c.in_ok-name.ensures.found.1
    c.in_ok-revision.revision c.in_ok-revision.rest.now c.in_ok-revision.ensures.found.0 c.in_ok-revision.ensures.found.1
    (c.in_err-live.ensures.none (sym why.2 ∙ is)))

pub returns-in_err-document-clause-none : goal.returns-in_err-document-clause-none
returns-in_err-document-clause-none c =
    let why = err_from_is_err_and c.from_residual-in_err-document.result c.from_residual-in_err-document.ensures.1 in
    rw why.1 (λ is.
    at_content c.args.format c.args.number (omega arith) c.args.bytes.now _ c.in_ok-rest.ensures.found
    c.in_ok-name.name c.in_ok-name.rest.now c.in_ok-name.ensures.found.0 c.in_ok-name.ensures.found.1
    c.in_ok-revision.revision c.in_ok-revision.rest.now c.in_ok-revision.ensures.found.0 c.in_ok-revision.ensures.found.1
    c.in_ok-live.live c.in_ok-live.rest.now c.in_ok-live.ensures.found.0 c.in_ok-live.ensures.found.1
    (c.in_err-document.ensures.none (sym why.2 ∙ is)))

pub returns-in_err-document-2-clause-none : goal.returns-in_err-document-2-clause-none
returns-in_err-document-2-clause-none c =
    let why = err_from_is_err_and c.from_residual-in_err-document-2.result c.from_residual-in_err-document-2.ensures.1 in
    rw why.1 (λ is.
    at_marked c.args.format c.args.number (omega arith) c.args.bytes.now _ c.in_ok-rest.ensures.found
    c.in_ok-name.name c.in_ok-name.rest.now c.in_ok-name.ensures.found.0 c.in_ok-name.ensures.found.1
    c.in_ok-revision.revision c.in_ok-revision.rest.now c.in_ok-revision.ensures.found.0 c.in_ok-revision.ensures.found.1
    c.in_ok-live.live c.in_ok-live.rest.now c.in_ok-live.ensures.found.0 c.in_ok-live.ensures.found.1
    c.in_ok-document.document c.in_ok-document.rest.now c.in_ok-document.ensures.found.0 c.in_ok-document.ensures.found.1
    c.in_err-document-2.ensures.none)

pub returns-in_err-sources-clause-none : goal.returns-in_err-sources-clause-none
returns-in_err-sources-clause-none c =
    let why = err_from_is_err_and c.from_residual-in_err-sources.result c.from_residual-in_err-sources.ensures.1 in
    rw why.1 (λ is.
    at_sources c.args.format c.args.number (omega arith) c.args.bytes.now _ c.in_ok-rest.ensures.found
    c.in_ok-name.name c.in_ok-name.rest.now c.in_ok-name.ensures.found.0 c.in_ok-name.ensures.found.1
    c.in_ok-revision.revision c.in_ok-revision.rest.now c.in_ok-revision.ensures.found.0 c.in_ok-revision.ensures.found.1
    c.in_ok-live.live c.in_ok-live.rest.now c.in_ok-live.ensures.found.0 c.in_ok-live.ensures.found.1
    c.in_ok-document.document c.in_ok-document.rest.now c.in_ok-document.ensures.found.0 c.in_ok-document.ensures.found.1
    (c.in_err-sources.ensures.none (sym why.2 ∙ is)))

some_left : (n : ℕ) → (n == 0) ≡ false → 0 < n
some_left zero none = absurd (eqb-false 0 0 none refl)
some_left (suc n) none = omega arith

pub returns-then-not-is_empty-clause-none : goal.returns-then-not-is_empty-clause-none
returns-then-not-is_empty-clause-none c = λ is.
    at_end c.args.format c.args.number (omega arith) c.args.bytes.now _ c.in_ok-rest.ensures.found
    c.in_ok-name.name c.in_ok-name.rest.now c.in_ok-name.ensures.found.0 c.in_ok-name.ensures.found.1
    c.in_ok-revision.revision c.in_ok-revision.rest.now c.in_ok-revision.ensures.found.0 c.in_ok-revision.ensures.found.1
    c.in_ok-live.live c.in_ok-live.rest.now c.in_ok-live.ensures.found.0 c.in_ok-live.ensures.found.1
    c.in_ok-document.document c.in_ok-document.rest.now c.in_ok-document.ensures.found.0 c.in_ok-document.ensures.found.1
    c.in_ok-sources.sources c.in_ok-sources.rest.now c.in_ok-sources.ensures.found.0 c.in_ok-sources.ensures.found.1
    (some_left _ (sym c.is_empty.ensures ∙ c.if-not-is_empty.true))

pub new-requires-clause-sources : goal.new-requires-clause-sources
new-requires-clause-sources c = all_last c.args.format c.in_ok-revision.revision c.in_ok-sources.sources c.in_ok-sources.ensures.found.0

pub returns-clause-found : goal.returns-clause-found
returns-clause-found c =
    let nothing : c.in_ok-sources.rest.now ≡ [] = nil_from_length c.in_ok-sources.rest.now (search rules) in
    let is = all_found c.args.format c.args.number (omega arith) c.args.bytes.now _ c.in_ok-rest.ensures.found
    c.in_ok-name.name c.in_ok-name.rest.now c.in_ok-name.ensures.found.0 c.in_ok-name.ensures.found.1
    c.in_ok-revision.revision c.in_ok-revision.rest.now c.in_ok-revision.ensures.found.0 c.in_ok-revision.ensures.found.1
    c.in_ok-live.live c.in_ok-live.rest.now c.in_ok-live.ensures.found.0 c.in_ok-live.ensures.found.1
    c.in_ok-document.document c.in_ok-document.rest.now c.in_ok-document.ensures.found.0 c.in_ok-document.ensures.found.1
    c.in_ok-sources.sources c.in_ok-sources.rest.now c.in_ok-sources.ensures.found.0 c.in_ok-sources.ensures.found.1 c.in_ok-document-2.ensures.content nothing in
    subst (λ (m : Cell). IsCellIn c.args.format c.args.number m × (c.args.bytes.now ≡ cell_body_in c.args.format c.args.number m))
    (sym (c.new.ensures ∙ ap (λ (p : List Element × Bool). record {
      name = c.in_ok-name.name;
      revision = c.in_ok-revision.revision;
      content = record { units = p.0; live = p.1 };
      sources = c.in_ok-sources.sources;
    }) c.in_ok-document-2.ensures.same)) is
