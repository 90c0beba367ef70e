use Rattle.std.proofs.Common.{refl, sym, ap, subst, rules}
use Rattle.std.proofs.lemmas.Result.{err_from_is_err_and, on_ok_weaker}
use Rattle.revision.specs.State.{Limits}
use Rattle.recovery.specs.declared.shape.Shape.{Shape}
use Rattle.recovery.specs.Formatting.{MayBegin, IsBegunStore}
use Rattle.migration.specs.Copied.{AreCopied, HasRoom, IsCopied}
use Rattle.migration.proofs.Copies.{may_begin_copied}
use Rattle.migration.proofs.Moments.{copied, never_begun, spares_as, untouched}
use Rattle.migration.proofs.Refused.{made_by, refused_by, no_memory_made}
use Rattle.migration.proofs.copying.begin_with.Goals as goal

-- nothing was done to the device
pub returns-in_err-documents-clause-any_moment : goal.returns-in_err-documents-clause-any_moment
returns-in_err-documents-clause-any_moment g c = untouched g.B.Disk (IsCopied c.args.shape c.args.state.now) c.args.disk.now

pub returns-in_err-documents-clause-refused : goal.returns-in_err-documents-clause-refused
returns-in_err-documents-clause-refused g c =
    let p = err_from_is_err_and c.from_residual.result c.from_residual.ensures.1 in
    rw p.1 (no_memory_made g.B.Disk _ p.0 c.args.disk.now p.2)

pub format_with-requires : goal.format_with-requires
format_with-requires g c in_range =
    let made = c.in_ok-documents.ensures in
    let here : HasRoom c.limits.result c.args.shape = search rules in
    subst (MayBegin c.args.shape) (sym c.as_slice.ensures.value)
    (may_begin_copied c.args.shape c.args.state.now c.in_ok-documents.documents.items made.state (ap (λ (l : Limits). l.retry) c.requires.2)
    (subst (λ (l : Limits). HasRoom l c.args.shape) c.limits.ensures.limits here) in_range made.copied made.spelled)

pub returns-then-has_room-clause-made : goal.returns-then-has_room-clause-made
returns-then-has_room-clause-made g c =
    let copies = subst (AreCopied c.args.state.now) (sym c.as_slice.ensures.value) c.in_ok-documents.ensures.copied in
    made_by g.B.Disk (IsCopied c.args.shape c.args.state.now) c.args.disk.now c.format_with.new.disk c.format_with.result
    (on_ok_weaker c.format_with.result (copied c.args.shape c.args.state.now c.as_slice.result.now (g.B.Disk.seen c.format_with.new.disk) copies) c.format_with.ensures.done)
    c.format_with.ensures.synced c.format_with.ensures.formatted

pub returns-then-has_room-clause-any_moment : goal.returns-then-has_room-clause-any_moment
returns-then-has_room-clause-any_moment g c =
    let copies = subst (AreCopied c.args.state.now) (sym c.as_slice.ensures.value) c.in_ok-documents.ensures.copied in
    spares_as (λ content. copied c.args.shape c.args.state.now c.as_slice.result.now content copies)
    (record { kept = c.format_with.ensures.kept; from_sync = c.format_with.ensures.from_sync; length = c.format_with.ensures.length })

pub returns-then-has_room-clause-refused : goal.returns-then-has_room-clause-refused
returns-then-has_room-clause-refused g c =
    refused_by g.B.Disk _ c.args.disk.now c.format_with.new.disk c.format_with.result c.format_with.ensures.formatted c.format_with.ensures.already_formatted
    (λ is fits. absurd (c.format_with.ensures.bad_shape is fits)) c.format_with.ensures.refused c.format_with.ensures.memory

-- no store has no numbers
pub returns-clause-made : goal.returns-clause-made
returns-clause-made g c =
    let format = c.format_with-else-has_room in
    let none : Shape = record { slots = 0; slot = 0; docs = 0; cell = 0; sources = 0; keep = 0 } in
    on_ok_weaker format.result (λ begun. absurd (never_begun none c.as_slice-else-has_room.result.now (g.B.Disk.seen format.new.disk) refl begun)) format.ensures.done

pub returns-clause-suits : goal.returns-clause-suits
returns-clause-suits g c =
    let format = c.format_with-else-has_room in
    let none : Shape = record { slots = 0; slot = 0; docs = 0; cell = 0; sources = 0; keep = 0 } in
    on_ok_weaker format.result (λ begun. absurd (never_begun none c.as_slice-else-has_room.result.now (g.B.Disk.seen format.new.disk) refl begun)) format.ensures.done

pub returns-clause-any_moment : goal.returns-clause-any_moment
returns-clause-any_moment g c =
    let format = c.format_with-else-has_room.ensures in
    let none : Shape = record { slots = 0; slot = 0; docs = 0; cell = 0; sources = 0; keep = 0 } in
    spares_as {P = IsBegunStore none c.as_slice-else-has_room.result.now}
    (λ content begun. absurd (never_begun none c.as_slice-else-has_room.result.now content refl begun))
    (record { kept = format.kept; from_sync = format.from_sync; length = format.length })

pub returns-clause-refused : goal.returns-clause-refused
returns-clause-refused g c =
    let format = c.format_with-else-has_room in
    let no_room : ¬ HasRoom c.args.state.now.limits c.args.shape = search rules in
    refused_by g.B.Disk _ c.args.disk.now format.new.disk format.result format.ensures.formatted format.ensures.already_formatted (λ is fits. no_room)
    format.ensures.refused format.ensures.memory
