-- Calls of a session, one after another.
use Rattle.std.proofs.Common.{◌++◌, ℕ, List, [], ◌∷◌, refl, sym, ap, subst, ◌∙◌, append_assoc, append-nil}
use Rattle.session.specs.Session.{Session}
use Rattle.session.specs.Exchange.{Exchange}
use Rattle.session.specs.Calls.{Call, ComesOf, Calls}

-- what comes of calls, and then of others, comes of them all
pub calls-joined : (front back : List Call) (old mid new : Session) (a b : List Exchange) (t u : List ℕ)
    → Calls old front a mid t → Calls mid back b new u → Calls old (front ++ back) (a ++ b) new (t ++ u)
calls-joined [] back old mid new a b t u (asked, is, text) second =
    subst (λ (s : Session). Calls s back (a ++ b) new (t ++ u)) is
    (subst (λ (l : List Exchange). Calls mid back (l ++ b) new (t ++ u)) (sym asked)
    (subst (λ (l : List ℕ). Calls mid back ([] ++ b) new (l ++ u)) (sym text) second))
calls-joined (call ∷ calls) back old mid new a b t u (next, first, others, f, g, comes, rest, asked, text) second = (
  next,
  first,
  others ++ b,
  f,
  g ++ u,
  comes,
  calls-joined calls back next mid new others b g u rest second,
  ap (λ (l : List Exchange). l ++ b) asked ∙ append_assoc first others b,
  ap (λ (l : List ℕ). l ++ u) text ∙ append_assoc f g u,
)

-- what comes of one
pub calls-one : (old new : Session) (call : Call) (asked : List Exchange) (text : List ℕ) → ComesOf old call asked new text → Calls old (call ∷ []) asked new text
calls-one old new call asked text comes = (new, asked, [], text, [], comes, (refl, refl, refl), sym (append-nil asked), sym (append-nil text))
