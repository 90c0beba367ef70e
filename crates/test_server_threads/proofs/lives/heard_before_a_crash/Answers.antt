use Rattle.std.proofs.Common.{◌≡◌, [], ◌∷◌, refl, arith, Ok}
use Rattle.std.proofs.Math.Logic.{∥∥₁_elim}
use Rattle.std.proofs.lemmas.List.Elements.{All-nil, All-cons}
use mathlib.Core.Sum.{⊎_set}
use native.Mathlib.Nat.{ℕ_set}
use Rattle.recovery.specs.Open.{state_of}
use Rattle.session.specs.declared.reply.Reply.TheVariants.{Again}
use Rattle.server_threads.specs.Lives.{WasHeard, First, Next, lived}
use Rattle.test_server_threads.proofs.lives.heard_before_a_crash.Goals as goal

-- the first life leaves all that was heard of, the second begins with that, and so it answers what comes again
pub returns : goal.returns
returns g c = λ old after next last visits others one two content ack reply works is_open left heard opened answers.
    let same : IsProp (reply ≡ Again ack.revision) = hlevel (ℕ_set, ⊎_set) in
    ∥∥₁_elim
    (c.lives.ensures.crash old after (lived one) (ack ∷ []) content works is_open left
    (All-cons (WasHeard old after (lived one) content) ack [] heard (All-nil (WasHeard old after (lived one) content)))) same (λ there.
    let lives = Next [] [] old after next (lived one) there.0 (ack ∷ []) content (First old refl) there.1 opened in
    let kept = (c.lives.ensures.opened (state_of old) there.0 (ack ∷ []) next lives).kept 0 ack (omega arith) in
    c.lives.ensures.again (state_of old) there.0 (ack ∷ []) next last (lived two) ack.command ack.revision (Ok reply) lives kept answers)
