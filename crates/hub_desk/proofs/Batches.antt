-- Published batches, where some begin others, and what they make of a state.
use Rattle.std.proofs.Common.{◌≡◌, ◌++◌, ◌&&◌, Bool, true, false, List, [], ◌∷◌, refl, sym, ap, subst, ◌∙◌}
use mathlib.Core.List.{IsPrefix}
use Rattle.revision.specs.Command.{Taken}
use Rattle.revision.specs.State.{State, grows, grown, all_grow, fold}
use Rattle.recovery.specs.Found.{commands_of}
use Rattle.recovery.proofs.CallerLemmas.{commands-append}
use Rattle.published.proofs.CallerLemmas.{prefix_self}
use Rattle.session.specs.Shelf.{IsLater}

-- what hasn't changed begins with what it was
pub same_begins : (old new : List (List Taken)) → new ≡ old → IsPrefix old new
same_begins old new is = subst (λ (l : List (List Taken)). IsPrefix old l) (sym is) (prefix_self old)

-- the commands of what begins others begin theirs
pub commands_begin : (old new : List (List Taken)) → IsPrefix old new → IsPrefix (commands_of old) (commands_of new)
commands_begin old new (back, is) = (commands_of back, sym (commands-append old back) ∙ ap commands_of is)

and_right : (a b : Bool) → (a && b) ≡ true → b ≡ true
and_right true b h = h
and_right false b h = cc

-- the commands behind others grow what those make
pub grow_behind : (front back : List Taken) (state : State) → all_grow state (front ++ back) ≡ true
    → (all_grow (fold state front) back ≡ true) × (fold state (front ++ back) ≡ fold (fold state front) back)
grow_behind [] back state grow = (grow, refl)
grow_behind (first ∷ others) back state grow = grow_behind others back (grown state first) (and_right (grows state first) (all_grow (grown state first) (others ++ back)) grow)

-- so what longer batches make of a start is later than what a prefix of them makes
pub later_batches : (start : State) (old new : List (List Taken)) → IsPrefix old new → all_grow start (commands_of new) ≡ true
    → IsLater (fold start (commands_of old)) (fold start (commands_of new))
later_batches start old new (back, is) grow =
    let whole : commands_of new ≡ commands_of old ++ commands_of back = ap commands_of (sym is) ∙ commands-append old back in
    let behind = grow_behind (commands_of old) (commands_of back) start (subst (λ (l : List Taken). all_grow start l ≡ true) whole grow) in
    (commands_of back, behind.0, ap (fold start) whole ∙ behind.1)
