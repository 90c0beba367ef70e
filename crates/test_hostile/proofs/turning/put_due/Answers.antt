use Rattle.flusher.proofs.CallerLemmas.{keeps_all, keeps_on}
use Rattle.test_hostile.proofs.turning.put_due.Goals as goal

pub returns-in_default : goal.returns-in_default
returns-in_default g c = keeps_all c.args.flusher.now

pub returns-then-not-matches : goal.returns-then-not-matches
returns-then-not-matches g c = c.put_document-put.ensures.keeps.batches

pub returns : goal.returns
returns g c =
    keeps_on c.args.flusher.now c.put_document-put.new.self c.put_document.new.self c.put_document-put.ensures.keeps.batches c.put_document.ensures.keeps.batches
