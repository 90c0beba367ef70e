-- Two deltas of one document, computed.
use Rattle.std.specs.Prelude.{◌≡◌, ℕ, true, false, List, [], ◌∷◌, Some, None, refl, codes}
use Rattle.attributes.specs.Map.{empty, insert, retain as retained}
use Rattle.attributes.specs.Attributes.{Changes, changed_by}
use Rattle.attributes.specs.Scalar.{text_scalar, flag_scalar}
use Rattle.delta.specs.Element.{Element, letters}
use Rattle.delta.specs.Lead.{with_lead}
use Rattle.delta.specs.Operation.{Operation, insert_text, retain, delete}
use Rattle.delta.specs.Gaps.{counted, apply}
use Rattle.delta.specs.Normal.{nf}
use Rattle.xform.specs.Both.{both_at_once}
use Rattle.xform.specs.After.{after}
use Rattle.xform.specs.Place.{place}

abbrev ins : List ℕ → Operation
ins us = insert_text us empty

abbrev ret : ℕ → Operation
ret n = retain n empty

abbrev text : List ℕ → List Element
text us = letters us empty

-- ins "a" and ins "b", ret 5, ins "c"
abbrev one : List Operation
one = ins (codes "a") ∷ []

abbrev other : List Operation
other = ins (codes "b") ∷ ret 5 ∷ ins (codes "c") ∷ []

-- the first's insert at the same place comes first with priority, else last
inserts_first : nf (after (counted one) (counted other) true) ≡ ret 1 ∷ ins (codes "b") ∷ ret 5 ∷ ins (codes "c") ∷ []
inserts_first = refl

inserts_last : nf (after (counted one) (counted other) false) ≡ ins (codes "b") ∷ ret 6 ∷ ins (codes "c") ∷ []
inserts_last = refl

-- del 3 and ret 1, ins "x", del 4
abbrev cutting : List Operation
cutting = delete 3 ∷ []

abbrev across : List Operation
across = ret 1 ∷ ins (codes "x") ∷ delete 4 ∷ []

-- what the first deleted the second neither deletes nor retains
deleted_once : nf (after (counted cutting) (counted across) true) ≡ ins (codes "x") ∷ delete 2 ∷ []
deleted_once = refl

deleted_other_way : nf (after (counted across) (counted cutting) false) ≡ delete 1 ∷ []
deleted_other_way = refl

-- and both ways "abcdef" becomes "xf"
cut_then_across : apply (apply (text (codes "abcdef")) (counted cutting)) (after (counted cutting) (counted across) true) ≡ text (codes "xf")
cut_then_across = refl

across_then_cut : apply (apply (text (codes "abcdef")) (counted across)) (after (counted across) (counted cutting) false) ≡ text (codes "xf")
unfolding changed_by
across_then_cut = refl

cut_and_across : apply (text (codes "abcdef")) (both_at_once (counted cutting) (counted across) true) ≡ text (codes "xf")
cut_and_across = refl

-- ret 5, ins "a" moves what stands after it, and a place just there without priority
before_insert : place (counted (ret 5 ∷ one)) 4 false ≡ 4
before_insert = refl

at_insert : place (counted (ret 5 ∷ one)) 5 false ≡ 6
at_insert = refl

at_insert_first : place (counted (ret 5 ∷ one)) 5 true ≡ 5
at_insert_first = refl

-- quill-delta's tests of `transform`: two retains of one unit
abbrev colored : Changes
colored = insert (insert empty (codes "bold") (Some (flag_scalar true))) (codes "color") (Some (text_scalar (codes "red")))

abbrev dyed : Changes
dyed = insert empty (codes "color") (Some (text_scalar (codes "blue")))

-- the incoming delta loses the names that the first has, where the first has priority
color_lost : nf (after (counted (retain 1 dyed ∷ [])) (counted (retain 1 colored ∷ [])) true) ≡ retain 1 (insert empty (codes "bold") (Some (flag_scalar true))) ∷ []
unfolding insert retained
color_lost = refl

color_kept : nf (after (counted (retain 1 dyed ∷ [])) (counted (retain 1 colored ∷ [])) false) ≡ retain 1 colored ∷ []
unfolding insert
color_kept = refl

-- a name that the first removes counts
uncolored : nf (after (counted (retain 1 (insert empty (codes "color") None) ∷ [])) (counted (retain 1 dyed ∷ [])) true) ≡ []
unfolding insert retained
uncolored = refl

-- what ends before the first begins stays: ret 4, ins "x" and ret 2, del 2 after ret 5, ins "a", del 1
abbrev behind : List Operation
behind = ret 5 ∷ ins (codes "a") ∷ delete 1 ∷ []

insert_stays : nf (after (counted behind) (counted (ret 4 ∷ ins (codes "x") ∷ [])) true) ≡ ret 4 ∷ ins (codes "x") ∷ []
unfolding retained
insert_stays = refl

delete_stays : nf (after (counted behind) (counted (ret 2 ∷ delete 2 ∷ [])) true) ≡ ret 2 ∷ delete 2 ∷ []
unfolding retained
delete_stays = refl

-- and not where it ends just there: ret 5, ins "x" goes behind "a"
insert_at_border : nf (after (counted behind) (counted (ret 5 ∷ ins (codes "x") ∷ [])) true) ≡ ret 6 ∷ ins (codes "x") ∷ []
unfolding retained
insert_at_border = refl

-- what begins behind the first is moved by as much as the first lengthens the document: del 3 and ins "a", del 2 move
-- ret 3, ins "x" and ret 4, del 1
moved_back : nf (after (counted cutting) (counted (ret 4 ∷ delete 1 ∷ [])) true) ≡ with_lead 1 (ret 4 ∷ delete 1 ∷ [])
moved_back = refl

moved_on : nf (after (counted (ins (codes "abc") ∷ delete 2 ∷ [])) (counted (ret 2 ∷ ins (codes "x") ∷ [])) true)
    ≡ with_lead 3 (ret 2 ∷ ins (codes "x") ∷ [])
moved_on = refl

-- and where nothing is left before it, it begins the document
moved_to_start : nf (after (counted cutting) (counted (ret 3 ∷ ins (codes "x") ∷ [])) true) ≡ ins (codes "x") ∷ []
moved_to_start = refl
