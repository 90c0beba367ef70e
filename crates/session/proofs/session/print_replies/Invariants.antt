use Rattle.std.proofs.Common.{◌≡◌, ◌++◌, List, ℕ, length}
use Rattle.session.specs.declared.sent.Sent.{Sent}
use Rattle.session.specs.Ahead.{AreReplies}
use Rattle.session.specs.Page.{Spells}
use Rattle.session.proofs.session.print_replies.Given as goal

-- the replies to those before the rest are spelled
abbrev pub invariant-loop-one : goal.invariant-loop-one
invariant-loop-one g l =
    (front : List Sent) × (text : List ℕ) × (front ++ l.rest ≡ l.sent) × AreReplies front text
    × Spells g.O.Output.contents g.O.Output.has_failed l.fn.out l.fn.page l.out l.page text

abbrev pub decreases-loop-one : goal.decreases-loop-one
decreases-loop-one g l = length l.rest
