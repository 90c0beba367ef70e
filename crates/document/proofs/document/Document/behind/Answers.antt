use Rattle.std.proofs.Common.{arith}
use Rattle.delta.proofs.CallerLemmas.{length-apply_counted}
use Rattle.document.proofs.document.Document.behind.Goals as goal

pub returns-then-behind-out_len-gt-MAX_LEN-clause-refused : goal.returns-then-behind-out_len-gt-MAX_LEN-clause-refused
returns-then-behind-out_len-gt-MAX_LEN-clause-refused c = (
  c.in_ok-len.ensures.defined,
  c.in_ok-len.ensures.whole,
  omega (arith, length-apply_counted c.args.self.now c.args.delta.now c.in_ok-len.ensures.there, c.base_len.ensures, c.out_len.ensures, c.in_ok-len.ensures.len),
)

pub returns-clause-accepted : goal.returns-clause-accepted
returns-clause-accepted c = (
  c.in_ok-len.ensures.defined,
  c.in_ok-len.ensures.whole,
  omega (arith, length-apply_counted c.args.self.now c.args.delta.now c.in_ok-len.ensures.there, c.base_len.ensures, c.out_len.ensures, c.in_ok-len.ensures.len),
)
