-- Those who were turned away, and one more of them.
use Rattle.std.proofs.Common.{◌≡◌, ◌++◌, List, [], ◌∷◌, true, length, refl, ap}
use Rattle.std.specs.Prelude.{◌==◌}
use Rattle.std.proofs.lemmas.Bool.{and_parts, and_from, eq-eqb}
use Rattle.sockets.specs.declared.raw.Visit.{Visit}
use Rattle.sockets.specs.Host.{reads_in, writes_in, is_unasked, are_unasked}

unasked : (visit : Visit) → (reads_in visit ≡ []) × (writes_in visit ≡ []) → is_unasked visit ≡ true
unasked visit (reads, writes) =
    and_from (length (reads_in visit) == 0) (length (writes_in visit) == 0) (eq-eqb (length (reads_in visit)) 0 (ap length reads))
    (eq-eqb (length (writes_in visit)) 0 (ap length writes))

pub one_more_unasked : (visits : List Visit) (visit : Visit) → are_unasked visits ≡ true → (reads_in visit ≡ []) × (writes_in visit ≡ [])
    → are_unasked (visits ++ visit ∷ []) ≡ true
one_more_unasked [] visit are none = and_from (is_unasked visit) true (unasked visit none) refl
one_more_unasked (first ∷ visits) visit are none =
    let parts = and_parts (is_unasked first) (are_unasked visits) are in
    and_from (is_unasked first) (are_unasked (visits ++ visit ∷ [])) parts.0 (one_more_unasked visits visit parts.1 none)
