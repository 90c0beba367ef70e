use Rattle.std.proofs.Common.{◌≡◌, ◌<◌, ◌^◌, [], ◌∷◌, ℕ, refl, sym, ◌∙◌, ap, subst, arith}
use Rattle.history.specs.Cell.{Cell}
use Rattle.revision.specs.Sources.{count_of}
use Rattle.milestone.specs.CellSpelling.{IsCell}
use Rattle.milestone.specs.declared.cells.Cells.{Cells}
use Rattle.milestone.specs.Cells.{number_of}
use Rattle.milestone.specs.Job.{Job, cell_of_job}
use Rattle.milestone.specs.Together.{HasRoom, framed_body}
use Rattle.recovery.proofs.KeptMembers.{kept_room, kept_spells}
use Rattle.recovery.proofs.Putting.{inside_items, is_cell}
use Rattle.recovery.proofs.store.Store.spell_composed.Goals as goal

pub index-requires : goal.index-requires
index-requires g c =
    let store = c.args.self.now in
    let job : Job = c.args.composed.now in
    omega (arith, inside_items store job c.requires.kept c.document_number-document.result (c.document_number-document.ensures ∙ ap (λ (j : Job). j.document) c.job-job.ensures), store.cells.ok.0)

pub spelled-requires : goal.spelled-requires
spelled-requires g c =
    let store = c.args.self.now in
    let job : Job = c.args.composed.now in
    let document = c.document_number-document.result in
    let is : document ≡ job.document = c.document_number-document.ensures ∙ ap (λ (j : Job). j.document) c.job-job.ensures in
    let one : Cells = c.index.result.now in
    let read = c.index.ensures in
    let milestone : c.milestone-milestone.result.now ≡ cell_of_job job = c.milestone-milestone.ensures in
    let cell : IsCell (number_of one) (cell_of_job job) =
    is_cell store job c.requires.kept document is one read
    (subst (λ (m : Cell). (number : ℕ) → number < 2 ^ 32 → count_of m.sources < 2 ^ 32 → IsCell number m) milestone c.in-Ok.ensures.is_cell) in
    record { room = subst (HasRoom one) (sym milestone) (kept_room store (job ∷ []) job c.requires.kept document is one read cell) }

pub returns-clause-made : goal.returns-clause-made
returns-clause-made g c =
    let store = c.args.self.now in
    let job : Job = c.args.composed.now in
    let document = c.document_number-document.result in
    let is : document ≡ job.document = c.document_number-document.ensures ∙ ap (λ (j : Job). j.document) c.job-job.ensures in
    let one : Cells = c.index.result.now in
    let read = c.index.ensures in
    let milestone : c.milestone-milestone.result.now ≡ cell_of_job job = c.milestone-milestone.ensures in
    let cell : IsCell (number_of one) (cell_of_job job) =
    is_cell store job c.requires.kept document is one read
    (subst (λ (m : Cell). (number : ℕ) → number < 2 ^ 32 → count_of m.sources < 2 ^ 32 → IsCell number m) milestone c.in-Ok.ensures.is_cell) in
    record {
      job = job;
      among = (0, omega arith, refl);
      kept = c.requires.kept;
      of = is;
      spells = kept_spells store (job ∷ []) job c.requires.kept document is one read cell
          (record { document = document; revision = c.revision.result; bytes = c.in-Ok-spelled.bytes }) refl
          (c.revision.ensures.revision ∙ ap (λ (m : Cell). m.revision) milestone) (c.in-Ok-spelled.ensures.bytes ∙ ap (framed_body one) milestone);
    }
