-- The order, and what begins it.
use Rattle.std.proofs.Common.{◌≡◌, suc, ◌≤◌, ◌&&◌, true, List, [], ◌∷◌, ◌++◌, length, refl, ap, ap₂, sym, subst, ◌∙◌, arith}
use Rattle.std.proofs.lemmas.Bool.{and_parts}
use Rattle.std.proofs.lemmas.List.{map-append}
use mathlib.Core.List.{IsPrefix}
use Rattle.revision.specs.Command.{Taken}
use Rattle.revision.specs.State.{State, grows, grown, all_grow, fold}
use Rattle.revision.proofs.CallerLemmas.{taken_grows}
use Rattle.world.specs.World.{Entry, takens}
use Rattle.published.specs.Order.{WasTaken, IsLegal}
use Rattle.published.proofs.Beginnings.{prefix_trans, prefix_shorter}
pub use Rattle.recovery.proofs.CallerLemmas.{commands_of-push as commands_more}

-- a command more leaves the order a legal history
pub legal_more : (state : State) (entries : List Entry) (entry : Entry) → IsLegal state entries
    → WasTaken (fold state (takens entries)) entry → IsLegal state (entries ++ entry ∷ [])
legal_more state [] entry legal is = (is, tt)
legal_more state (first ∷ others) entry legal is = (legal.0, legal_more (grown state first.taken) others entry legal.1 is)

-- each command of a legal history continues what those before it make
pub legal_grows : (state : State) (entries : List Entry) → IsLegal state entries → all_grow state (takens entries) ≡ true
legal_grows state [] legal = refl
legal_grows state (first ∷ others) legal =
    ap₂ (λ a b. a && b) (taken_grows state first.command first.taken legal.0.0.0 legal.0.0.1 legal.0.1) (legal_grows (grown state first.taken) others legal.1)

pub grow_first : (state : State) (xs ys : List Taken) → all_grow state (xs ++ ys) ≡ true → all_grow state xs ≡ true
grow_first state [] ys grow = refl
grow_first state (x ∷ xs) ys grow =
    let parts : (grows state x ≡ true) × (all_grow (grown state x) (xs ++ ys) ≡ true) = search (and_parts, grow) in
    ap₂ (λ a b. a && b) parts.0 (grow_first (grown state x) xs ys parts.1)

-- so do the commands that begin it
pub begun_grows : (state : State) (commands : List Taken) (entries : List Entry) → IsLegal state entries → IsPrefix commands (takens entries)
    → all_grow state commands ≡ true
begun_grows state commands entries legal begin =
    grow_first state commands begin.0 (subst (λ l. all_grow state l ≡ true) (sym begin.1) (legal_grows state entries legal))

-- the commands of a prefix are a prefix of the commands of all
pub takens_begin : (entries all : List Entry) → IsPrefix entries all → IsPrefix (takens entries) (takens all)
takens_begin entries all begin = (takens begin.0, sym (map-append (λ (e : Entry). e.taken) entries begin.0) ∙ ap takens begin.1)

pub takens_long : (entries : List Entry) → length (takens entries) ≡ length entries
takens_long [] = refl
takens_long (first ∷ others) = ap (λ n. suc n) (takens_long others)

-- of two prefixes of one order the shorter begins the longer
pub covered : (commands : List Taken) (here there all : List Entry) → IsPrefix commands (takens here) → IsPrefix here all → IsPrefix there all
    → length there ≤ length commands → IsPrefix (takens there) commands
covered commands here there all begin first second le =
    prefix_shorter (takens there) commands (takens all) (takens_begin there all second)
    (prefix_trans commands (takens here) (takens all) begin (takens_begin here all first)) (omega (arith, le, takens_long there))

pub begun : (commands : List Taken) (here there all : List Entry) → IsPrefix commands (takens here) → IsPrefix here all → IsPrefix there all
    → length commands ≤ length there → IsPrefix commands (takens there)
begun commands here there all begin first second le =
    prefix_shorter commands (takens there) (takens all) (prefix_trans commands (takens here) (takens all) begin (takens_begin here all first))
    (takens_begin there all second) (omega (arith, le, takens_long there))

-- and what begins a token of the order begins the order
pub begun_through : (commands : List Taken) (entries all : List Entry) → IsPrefix commands (takens entries) → IsPrefix entries all
    → IsPrefix commands (takens all)
begun_through commands entries all begin first = prefix_trans commands (takens entries) (takens all) begin (takens_begin entries all first)
