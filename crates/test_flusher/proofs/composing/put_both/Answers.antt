use Rattle.flusher.proofs.CallerLemmas.{keeps_all, keeps_on}
use Rattle.test_flusher.proofs.composing.put_both.Goals as goal

pub returns-then-number-ne2 : goal.returns-then-number-ne2
returns-then-number-ne2 g c = keeps_all c.args.flusher.now

pub returns : goal.returns
returns g c =
    keeps_on c.args.flusher.now c.put_document.new.self c.put_document-2.new.self c.put_document.ensures.keeps.batches c.put_document-2.ensures.keeps.batches
