use Rattle.std.proofs.Common.{◌≡◌, ◌++◌, Some, None, take, rules}
use Rattle.session.proofs.Lines.{text_dropped, text_within}
use Rattle.session.proofs.line.Line.take_text.Goals as goal

pub returns-then-self : goal.returns-then-self
returns-then-self c =
    let count = c.text_length-length in
    let is : c.args.self.now ≡ None = search rules in
    rw (is, c.split_at.ensures.back) (text_dropped c.args.piece.now count.result count.ensures.within count.ensures.inner count.ensures.end)

pub returns : goal.returns
returns c =
    let count = c.text_length-length in
    let bytes = c.self.inside.bytes.items in
    let is : c.args.self.now ≡ Some bytes = search rules in
    let new_is : c.extend_from_slice.new.self.items ≡ bytes ++ take c.min.result c.args.piece.now = search rules in
    rw (is, new_is, c.if-self.false, c.split_at-2.ensures.back)
    (text_within c.args.piece.now count.result count.ensures.within count.ensures.inner count.ensures.end bytes c.min.result c.self.invariant.0 (search rules))
