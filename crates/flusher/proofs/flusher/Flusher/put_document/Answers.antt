use Rattle.std.proofs.Common.{refl, sym, subst, ◌∙◌}
use Rattle.flusher.specs.Flushers.{MayCommit}
use Rattle.flusher.proofs.Holdings.{keeps_by}
use Rattle.flusher.proofs.Lasting.{surely_kept_up}
use Rattle.flusher.proofs.flusher.Flusher.put_document.Goals as goal

pub returns-clause-keeps : goal.returns-clause-keeps
returns-clause-keeps g c =
    keeps_by c.put_document.ensures.goes c.put_document.ensures.stays.state refl refl refl refl

pub returns-clause-put : goal.returns-clause-put
returns-clause-put g c = c.put_document.ensures.taken

pub returns-clause-left : goal.returns-clause-left
returns-clause-left g c = c.put_document.ensures.left

pub invariant_of-self : goal.invariant_of-self
invariant_of-self g c =
    let same = c.put_document.ensures.stays.state in
    record {
      kept = same ∙ c.args.self.now.kept;
      few = c.args.self.now.few;
      fits = λ run is. subst (λ s. MayCommit s run.commands c.args.self.now.publisher.unpublished) (sym same) (c.args.self.now.fits run is);
      placed = c.args.self.now.placed;
      lasts = surely_kept_up c.args.self.now.begun c.args.self.now.opened.value c.args.self.now.publisher c.args.self.now.waiting c.args.self.now.store c.put_document.new.self
          c.args.self.now.kept c.put_document.ensures.goes c.args.self.now.lasts;
    }
