use Rattle.std.proofs.Common.{sym, subst}
use Rattle.std.specs.Prelude.{is_ok}
use Rattle.revision.specs.declared.past.kept_document.Kept.{Kept}
use Rattle.revision.specs.Past.{IsKept, AreKept, AreNoted}
use Rattle.revision.proofs.KeptDocuments.{kept-pushed, noted-pushed}
use Rattle.revision.proofs.past.keeping.push_kept.Goals as goal

pub returns-clause-kept : goal.returns-clause-kept
returns-clause-kept c =
    λ start count units deltas are is.
    let k : Kept = record { revision = c.args.revision; document = c.in-Ok.document; sources = c.args.sources } in
    let k_is : IsKept start count units deltas k = subst (λ d. IsKept start count units deltas (record { revision = c.args.revision; document = d; sources = c.args.sources })) (sym c.in-Ok.ensures.same) is in
    subst (AreKept start count units deltas) (sym c.push.ensures.items) (kept-pushed start count units deltas c.args.kept.now.items k (is_ok c.push.result) are k_is)

pub returns-clause-noted : goal.returns-clause-noted
returns-clause-noted c =
    λ start first changes are is.
    let k : Kept = record { revision = c.args.revision; document = c.in-Ok.document; sources = c.args.sources } in
    subst (AreNoted start first changes) (sym c.push.ensures.items) (noted-pushed start first changes c.args.kept.now.items k (is_ok c.push.result) are is)
