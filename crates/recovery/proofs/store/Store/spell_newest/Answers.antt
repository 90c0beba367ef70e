use Rattle.std.proofs.Common.{◌≡◌, ◌≢◌, ◌∙◌, ℕ, length, refl, subst, sym, ap, arith}
use Rattle.std.specs.Prelude.{slice_get, Some}
use Rattle.std.proofs.lemmas.Option.{slice_get_read}
use Rattle.refusal.specs.declared.Refusal.TheVariants.{StillNeeded, NoMemory}
use Rattle.history.specs.Cell.{Cell}
use Rattle.milestone.specs.CellSpelling.{IsCell}
use Rattle.milestone.specs.declared.cells.Cells.{Cells}
use Rattle.milestone.specs.Job.{Job, cell_of_job}
use Rattle.milestone.specs.Together.{HasRoom, framed_body}
use Rattle.revision.specs.Sources.{count_of}
use Rattle.std.specs.Prelude.{◌<◌, ◌^◌}
use Rattle.recovery.specs.Open.{known_cells}
use Rattle.recovery.proofs.Gathered.{memory_or_needed}
use Rattle.recovery.proofs.Spelled.{none_refused, inside_cells, spelled_cell, has_room, newest_member}
use Rattle.recovery.proofs.store.Store.spell_newest.Goals as goal

pub returns-in-Err-clause-needed : goal.returns-in-Err-clause-needed
returns-in-Err-clause-needed g c told is_open =
    let other : c.in-Err.refusal ≢ NoMemory = λ is. let same : NoMemory ≡ StillNeeded = sym (c.or_needed.ensures.memory is) ∙ memory_or_needed c.or_needed.result told in cc in
    absurd (none_refused c.args.self.now c.args.document c.newest_of-newest.result is_open c.newest_of-newest.ensures (omega (arith, c.requires.some, c.if-newest-revision.false))
    c.in-Err.refusal (c.in-Err.ensures.refusal other))

pub spelled-requires : goal.spelled-requires
spelled-requires g c =
    let store = c.args.self.now in
    let newest = c.newest_of-newest.result in
    let job : Job = c.in-Ok.job in
    let one : Cells = c.index.result.now in
    let inside = inside_cells store c.args.document newest job c.in-Ok.ensures.job c.in-Ok.ensures.keeps c.newest_of-newest.ensures c.in-Ok.ensures.given in
    let at : slice_get (known_cells store) c.args.document ≡ Some one = slice_get_read (known_cells store) (length (known_cells store)) c.args.document one refl inside c.index.ensures in
    let is : c.milestone-milestone.result.now ≡ cell_of_job job = c.milestone-milestone.ensures ∙ ap cell_of_job c.in-Ok-compose_job.ensures.done in
    let cell : IsCell c.args.document (cell_of_job job) =
    spelled_cell store c.args.document newest job c.in-Ok.ensures.job c.in-Ok.ensures.keeps c.newest_of-newest.ensures c.in-Ok.ensures.given
    (subst (λ (m : Cell). (number : ℕ) → number < 2 ^ 32 → count_of m.sources < 2 ^ 32 → IsCell number m) is c.in-Ok-content.ensures.is_cell) in
    record {
      room = subst (HasRoom one) (sym is)
          (has_room store c.args.document newest job c.in-Ok.ensures.job c.in-Ok.ensures.keeps c.newest_of-newest.ensures c.in-Ok.ensures.given one at cell);
    }

pub returns-clause-newest : goal.returns-clause-newest
returns-clause-newest g c =
    let store = c.args.self.now in
    let newest = c.newest_of-newest.result in
    let job : Job = c.in-Ok.job in
    let one : Cells = c.index.result.now in
    let inside = inside_cells store c.args.document newest job c.in-Ok.ensures.job c.in-Ok.ensures.keeps c.newest_of-newest.ensures c.in-Ok.ensures.given in
    let at : slice_get (known_cells store) c.args.document ≡ Some one = slice_get_read (known_cells store) (length (known_cells store)) c.args.document one refl inside c.index.ensures in
    let is : c.milestone-milestone.result.now ≡ cell_of_job job = c.milestone-milestone.ensures ∙ ap cell_of_job c.in-Ok-compose_job.ensures.done in
    let cell : IsCell c.args.document (cell_of_job job) =
    spelled_cell store c.args.document newest job c.in-Ok.ensures.job c.in-Ok.ensures.keeps c.newest_of-newest.ensures c.in-Ok.ensures.given
    (subst (λ (m : Cell). (number : ℕ) → number < 2 ^ 32 → count_of m.sources < 2 ^ 32 → IsCell number m) is c.in-Ok-content.ensures.is_cell) in
    newest_member store c.args.document newest job c.in-Ok.ensures.job c.in-Ok.ensures.keeps c.newest_of-newest.ensures c.in-Ok.ensures.given one at cell
    (record { document = c.args.document; revision = newest; bytes = c.in-Ok-spelled.bytes }) refl refl (c.in-Ok-spelled.ensures.bytes ∙ ap (framed_body one) is)
