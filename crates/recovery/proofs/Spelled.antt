-- The newest milestone of a document, as its cells spell it.
use Rattle.std.proofs.Common.{◌≡◌, ◌≢◌, ℕ, ◌+◌, ◌≤◌, ◌<◌, Option, Some, None, length, refl, sym, ◌∙◌, ap, subst, arith}
use Rattle.std.specs.Prelude.{slice_get, ◌^◌}
use Rattle.disk.specs.declared.device.Disk.{Ghosts}
use Rattle.journal.specs.Area.{frame}
use Rattle.refusal.specs.declared.Refusal.{Refusal}
use Rattle.revision.specs.Sources.{count_of}
use Rattle.revision.specs.State.{Limits, DocumentRecord, newest_revision, revision_of}
use Rattle.revision.specs.Width.{delta_width}
use Rattle.history.specs.Cell.{Cell, cell_of}
use Rattle.milestone.specs.CellSpelling.{IsCell, cell_body, inserts_of}
use Rattle.milestone.specs.declared.cells.Cells.{Cells}
use Rattle.milestone.specs.Job.{Job, cell_of_job}
use Rattle.milestone.specs.Together.{HasRoom, framed_body}
use Rattle.milestone.proofs.CallerLemmas.{cell_fits, light_content}
use Rattle.recovery.specs.declared.group.Member.{Member}
use Rattle.recovery.specs.declared.store.Store.{Store}
use Rattle.recovery.specs.Cells.{highest_known}
use Rattle.recovery.specs.Found.{limits_of}
use Rattle.recovery.specs.Jobs.{IsJobTo, KeepsLimits, no_job_for}
use Rattle.recovery.specs.Open.{IsOpen, newest_cell, state_of, known_cells}
use Rattle.recovery.specs.steps.Freeing.{reached_in}
use Rattle.recovery.specs.steps.Group.{IsNewestOf}
use Rattle.recovery.proofs.HandedOut.{held_here, none≢some}
use Rattle.recovery.proofs.Raising.{none_against}
use Rattle.recovery.proofs.Reaching.{cells_reached}
use Rattle.recovery.proofs.Superblocks.{Ranges, ranges_of}

module _ {D : Type 0} {disk : Ghosts D} (store : Store D disk) (document newest : ℕ) where
  -- in an open store nothing speaks against a milestone there
  pub none_refused : IsOpen store → newest ≡ reached_in (state_of store) document → 1 ≤ newest → (why : Refusal)
      → no_job_for (slice_get (state_of store).documents document) (highest_known (known_cells store) document) newest ≡ Some why → ⊥
  none_refused is_open is first why told =
      none≢some (sym (none_against (slice_get (state_of store).documents document) newest (highest_known (known_cells store) document) is
      (omega (arith, is, cells_reached store is_open document)) first) ∙ told)

  module _ (job : Job) (to : IsJobTo (state_of store).documents document newest job) (keeps : KeepsLimits (state_of store).limits job)
      (is : newest ≡ reached_in (state_of store) document)
      (given : no_job_for (slice_get (state_of store).documents document) (highest_known (known_cells store) document) newest ≡ None) where
    kept : KeepsLimits (limits_of store.shape) job
    kept = subst (λ (l : Limits). KeepsLimits l job) store.bounded keeps

    ranges : Ranges store.shape
    ranges = ranges_of store.shape store.in_range

    is_found : newest ≡ revision_of to.found
    is_found = is ∙ ap newest_revision to.there

    cell_is : cell_of_job job ≡ newest_cell to.found
    cell_is = to.is ∙ ap (λ n. cell_of to.found n) is_found

    pub inside_cells : document < length (known_cells store)
    inside_cells = omega (arith, kept.inside, to.number, store.placed.count)

    not_heavy : ¬ (2 ^ 32 ≤ delta_width (inserts_of (cell_of_job job).content.units))
    not_heavy heavy = omega (arith, heavy, light_content (cell_of_job job).content.units, kept.keeps.weight, ranges.cell)

    pub spelled_cell : ((number : ℕ) → number < 2 ^ 32 → count_of (cell_of_job job).sources < 2 ^ 32 → IsCell number (cell_of_job job)) → IsCell document (cell_of_job job)
    spelled_cell spelled = spelled document (omega (arith, kept.inside, to.number, ranges.docs)) (omega (arith, kept.keeps.count, ranges.sources))

    fits_there : IsCell document (cell_of_job job) → 5 + length (cell_body document (cell_of_job job)) ≤ store.shape.cell
    fits_there is_one = omega (arith, cell_fits document (limits_of store.shape) (cell_of_job job) refl is_one kept.keeps, ranges.cell_low)

    pub has_room : (one : Cells) → slice_get (known_cells store) document ≡ Some one → IsCell document (cell_of_job job) → HasRoom one (cell_of_job job)
    has_room one at is_one =
        let its = store.placed.each document one at in
        record {
          is = subst (λ n. IsCell n (cell_of_job job)) (sym its.of) is_one;
          fits = omega (arith, fits_there is_one, its.size, ap (λ n. length (cell_body n (cell_of_job job))) its.of);
        }

    pub newest_member : (one : Cells) → slice_get (known_cells store) document ≡ Some one → IsCell document (cell_of_job job) → (member : Member) → member.document ≡ document
        → member.revision ≡ newest → member.bytes.items ≡ framed_body one (cell_of_job job) → IsNewestOf store member
    newest_member one at is_one member is_document is_revision bytes = record {
      found = to.found;
      there = ap (λ n. slice_get (state_of store).documents n) is_document ∙ to.there;
      first = omega (arith, to.first, is_found);
      inside = omega (arith, inside_cells, is_document);
      not_below = omega (
        arith,
        (held_here to.found (highest_known (known_cells store) document) newest
            (sym (ap (λ (o : Option DocumentRecord). no_job_for o (highest_known (known_cells store) document) newest) to.there) ∙ given)).3,
        is_found,
        ap (λ n. highest_known (known_cells store) n) is_document,
      );
      spells = record {
        is = subst (λ (c : Cell). IsCell member.document c) cell_is (subst (λ n. IsCell n (cell_of_job job)) (sym is_document) is_one);
        fits = subst (λ (c : Cell). 5 + length (cell_body member.document c) ≤ store.shape.cell) cell_is
            (subst (λ n. 5 + length (cell_body n (cell_of_job job)) ≤ store.shape.cell) (sym is_document) (fits_there is_one));
        bytes = bytes ∙ ap (λ n. frame (cell_body n (cell_of_job job))) ((store.placed.each document one at).of ∙ sym is_document)
            ∙ ap (λ (c : Cell). frame (cell_body member.document c)) cell_is;
        revision = sym is_found ∙ sym is_revision;
      };
    }
