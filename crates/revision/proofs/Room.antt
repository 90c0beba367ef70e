-- How long a late edit gets: each delta that it passes lengthens it by what that delta inserts, at most.
use Rattle.std.proofs.Common.{◌≡◌, ℕ, zero, suc, ◌+◌, ◌*◌, ◌≤◌, ◌^◌, Bool, true, false, List, [], ◌∷◌, length, length-append, refl, ap, ◌∙◌, arith}
use Rattle.std.specs.Prelude.{All}
use Rattle.std.proofs.lemmas.List.{length-map}
use Rattle.std.proofs.lemmas.List.Elements.{All-head, All-tail}
use Rattle.refusal.specs.declared.Refusal.{Refusal}
use Rattle.refusal.specs.declared.Refusal.TheVariants.{BadOps, NoMemory}
use Rattle.attributes.specs.Map.{empty}
use Rattle.delta.specs.Element.{Element, letters, lettered, embedded}
use Rattle.delta.specs.Operation.{Operation, insert_text, insert_embed, retain, delete, base_of, out_of}
use Rattle.delta.specs.Gaps.{Gaps, End, Gap, Fate, Del, Keep, front, run, counted, apply, units_below, units_kept, units_made}
use Rattle.delta.specs.Normal.{nf, spelled}
use Rattle.delta.proofs.CallerLemmas.{units_below-front, units_below-run, units_below-counted, counted-spelled, units_made-counted, base_of-nf, lengths-nf, out_of-spelled, length-apply_counted, units_made-front, units_made-keeps, units_made-deletes}
use Rattle.document.specs.Weight.{weight_of}
use Rattle.compose.specs.Inverse.{unit_back, inverse}
use Rattle.xform.specs.After.{beside, left_of, after, second_past}
use Rattle.xform.specs.Outcome.{CanTransform, CanPassAll, IsPassRefused}
use Rattle.xform.proofs.CallerLemmas.{units_below-beside}
use Rattle.revision.specs.Past.{way_back}
use Rattle.revision.specs.Late.{inserted_of, all_inserted, HasRoom, InsertedStay, RoomForCommands, RoomForUndo, LightInserts}

-- how many units a gap form inserts
abbrev inserts_of : Gaps → ℕ
inserts_of (End xs) = length xs
inserts_of (Gap xs f g) = length xs + inserts_of g

inserts_of-front : (xs : List Element) (g : Gaps) → inserts_of (front xs g) ≡ length xs + inserts_of g
inserts_of-front xs (End ys) = length-append xs ys
inserts_of-front xs (Gap ys f g) = omega (arith, length-append xs ys)

inserts_of-run : (n : ℕ) (f : Fate) (g : Gaps) → inserts_of (run n f g) ≡ inserts_of g
inserts_of-run zero f g = refl
inserts_of-run (suc n) f g = omega (arith, inserts_of-run n f g)

inserts_of-counted : (ops : List Operation) → inserts_of (counted ops) ≡ inserted_of ops
inserts_of-counted [] = refl
inserts_of-counted (insert_text us a ∷ ops) =
    omega (arith, inserts_of-front (letters us a) (counted ops), length-map us (λ u. lettered u a), inserts_of-counted ops)
inserts_of-counted (insert_embed key value a ∷ ops) =
    omega (arith, inserts_of-front (embedded key value a ∷ []) (counted ops), inserts_of-counted ops)
inserts_of-counted (retain n c ∷ ops) = inserts_of-run n (Keep c) (counted ops) ∙ omega (arith, inserts_of-counted ops)
inserts_of-counted (delete n ∷ ops) = inserts_of-run n Del (counted ops) ∙ omega (arith, inserts_of-counted ops)

-- how many units of the document a gap form stands on after another
below-left_of : (f e : Fate) (priority : Bool) (g : Gaps) → units_below (left_of f e priority g) ≤ 1 + units_below g
below-left_of Del e priority g = omega arith
below-left_of (Keep c) e priority g = omega arith

below-after : (a b : Gaps) (priority : Bool) → units_below (after a b priority) ≤ units_below b + inserts_of a
below-after (End xs) (End ys) priority = omega (arith, units_below-beside xs ys priority (End []))
below-after (End xs) (Gap ys e h) priority = omega (arith, units_below-beside xs ys priority (Gap [] e h))
below-after (Gap xs f g) (End ys) priority = omega (arith, units_below-beside xs ys priority (End []))
below-after (Gap xs f g) (Gap ys e h) priority =
    omega (arith, units_below-beside xs ys priority (left_of f e priority (after g h priority)), below-left_of f e priority (after g h priority), below-after g h priority)

made-beside : (xs ys : List Element) (priority : Bool) (g : Gaps) → units_made (beside xs ys priority g) ≡ length xs + length ys + units_made g
made-beside xs ys true g = omega (arith, units_made-keeps (length xs) empty (front ys g), units_made-front ys g)
made-beside xs ys false g = omega (arith, units_made-front ys (run (length xs) (Keep empty) g), units_made-keeps (length xs) empty g)

made-left_of : (f e : Fate) (priority : Bool) (g : Gaps) → units_made (left_of f e priority g) ≤ units_kept e + units_made g
made-left_of Del e priority g = omega arith
made-left_of (Keep c) Del priority g = omega arith
made-left_of (Keep c) (Keep e) priority g = omega arith

made-after : (a b : Gaps) (priority : Bool) → units_made (after a b priority) ≤ units_made b + inserts_of a
made-after (End xs) (End ys) priority = omega (arith, made-beside xs ys priority (End []))
made-after (End xs) (Gap ys e h) priority = omega (arith, made-beside xs ys priority (Gap [] e h))
made-after (Gap xs f g) (End ys) priority = omega (arith, made-beside xs ys priority (End []))
made-after (Gap xs f g) (Gap ys e h) priority =
    omega (arith, made-beside xs ys priority (left_of f e priority (after g h priority)), made-left_of f e priority (after g h priority), made-after g h priority)

-- the normal form makes no more
pub made-nf : (g : Gaps) → out_of (nf g) ≤ units_made g
made-nf g =
    let less = lengths-nf (spelled g) in
    let same : out_of (nf (counted (spelled g))) ≡ out_of (nf g) = ap (λ h. out_of (nf h)) (counted-spelled g) in
    let same_base : base_of (nf (counted (spelled g))) ≡ base_of (nf g) = ap (λ h. base_of (nf h)) (counted-spelled g) in
    omega (arith, less.0, less.1, same, same_base, out_of-spelled g)

base-past : (taken edit : List Operation) (priority : Bool) → base_of (nf (after (counted taken) (counted edit) priority)) ≤ base_of edit + inserted_of taken
base-past taken edit priority =
    omega (arith, base_of-nf (after (counted taken) (counted edit) priority), below-after (counted taken) (counted edit) priority, units_below-counted edit, inserts_of-counted taken)

out-past : (taken edit : List Operation) (priority : Bool) → out_of (nf (after (counted taken) (counted edit) priority)) ≤ out_of edit + inserted_of taken
out-past taken edit priority =
    omega (arith, made-nf (after (counted taken) (counted edit) priority), made-after (counted taken) (counted edit) priority, units_made-counted edit, inserts_of-counted taken)

-- so there is room past the others, and what comes of it is within the bound
pub room-past : (taken edit : List Operation) (others : List (List Operation)) → HasRoom edit (taken ∷ others) → HasRoom (second_past taken edit true) others
room-past taken edit others room = record {
  base = omega (arith, room.base, base-past taken edit true);
  out = omega (arith, room.out, out-past taken edit true);
}

bounded-after : (taken edit : List Operation) (others : List (List Operation)) → HasRoom edit (taken ∷ others) → CanTransform taken edit true
bounded-after taken edit others room = record {
  base = omega (arith, room.base, base-past taken edit true);
  out = omega (arith, room.out, out-past taken edit true);
}

can-pass : (edit : List Operation) (since : List (List Operation)) → HasRoom edit since → CanPassAll since edit
can-pass edit [] room = tt
can-pass edit (taken ∷ others) room =
    (bounded-after taken edit others room, can-pass (second_past taken edit true) others (room-past taken edit others room))

-- with room for it, out of memory is the only refusal
pub only_memory : (edit : List Operation) (since : List (List Operation)) (refusal : Refusal) → HasRoom edit since
    → IsPassRefused since edit refusal → refusal ≡ NoMemory
only_memory edit since BadOps room refused = absurd (refused (can-pass edit since room))
only_memory edit since NoMemory room memory = refl
only_memory edit since _ room refused = absurd refused

below-unit_back : (f : Fate) (x : Element) (g : Gaps) → units_below (unit_back f x g) ≤ 1 + units_below g
below-unit_back Del x g = omega (arith, units_below-front (x ∷ []) g)
below-unit_back (Keep c) x g = omega arith

below-inverse : (g : Gaps) (d : List Element) → units_below (inverse g d) ≤ length d + inserts_of g
below-inverse (End xs) d = omega (arith, units_below-run (length xs) Del (End []))
below-inverse (Gap xs f g) [] = omega (arith, units_below-run (length xs) Del (inverse g []), below-inverse g [])
below-inverse (Gap xs f g) (x ∷ d) =
    omega (arith, units_below-run (length xs) Del (unit_back f x (inverse g d)), below-unit_back f x (inverse g d), below-inverse g d)

made-unit_back : (f : Fate) (x : Element) (g : Gaps) → units_made (unit_back f x g) ≡ 1 + units_made g
made-unit_back Del x g = omega (arith, units_made-front (x ∷ []) g)
made-unit_back (Keep c) x g = omega arith

made-inverse : (g : Gaps) (d : List Element) → units_made (inverse g d) ≤ length d
made-inverse (End xs) d = omega (arith, units_made-deletes (length xs) (End []))
made-inverse (Gap xs f g) [] = omega (arith, units_made-deletes (length xs) (inverse g []), made-inverse g [])
made-inverse (Gap xs f g) (x ∷ d) =
    omega (arith, units_made-deletes (length xs) (unit_back f x (inverse g d)), made-unit_back f x (inverse g d), made-inverse g d)

pub room-back : (units : List Element) (taken : List Operation) (others : List (List Operation)) → length units + all_inserted (taken ∷ others) ≤ 2 ^ 48
    → HasRoom (way_back units taken) others
room-back units taken others room =
    let back : Gaps = inverse (counted taken) units in
    record {
      base = omega (arith, room, base_of-nf back, below-inverse (counted taken) units, inserts_of-counted taken);
      out = omega (arith, room, made-nf back, made-inverse (counted taken) units);
    }

-- what is inserted stays in the document
pub inserted-out : (taken : List Operation) → inserted_of taken ≤ out_of taken
inserted-out [] = omega arith
inserted-out (insert_text us a ∷ ops) = omega (arith, inserted-out ops)
inserted-out (insert_embed key value a ∷ ops) = omega (arith, inserted-out ops)
inserted-out (retain n c ∷ ops) = omega (arith, inserted-out ops)
inserted-out (delete n ∷ ops) = omega (arith, inserted-out ops)

inserted-and-base : (taken : List Operation) → out_of taken ≤ inserted_of taken + base_of taken
inserted-and-base [] = omega arith
inserted-and-base (insert_text us a ∷ ops) = omega (arith, inserted-and-base ops)
inserted-and-base (insert_embed key value a ∷ ops) = omega (arith, inserted-and-base ops)
inserted-and-base (retain n c ∷ ops) = omega (arith, inserted-and-base ops)
inserted-and-base (delete n ∷ ops) = omega (arith, inserted-and-base ops)

-- and it is all by which the document gets longer
pub longer-by : (units : List Element) (taken : List Operation) → units_below (counted taken) ≤ length units → length (apply units (counted taken)) ≤ length units + inserted_of taken
longer-by units taken defined =
    let long : base_of taken ≤ length units = omega (arith, defined, units_below-counted taken) in
    omega (arith, length-apply_counted units taken long, inserted-and-base taken)

pub inserted_stay : InsertedStay
inserted_stay units taken long = omega (arith, length-apply_counted units taken long, inserted-out taken)

inserted-all : (since : List (List Operation)) → All (λ taken. inserted_of taken ≤ 2 ^ 29) since → all_inserted since ≤ length since * 2 ^ 29
inserted-all [] each = omega arith
inserted-all (taken ∷ others) each =
    let one : inserted_of taken ≤ 2 ^ 29 = All-head (λ (t : List Operation). inserted_of t ≤ 2 ^ 29) taken others each in
    omega (arith, one, inserted-all others (All-tail (λ (t : List Operation). inserted_of t ≤ 2 ^ 29) taken others each))

pub room_for_commands : RoomForCommands
room_for_commands edit since base out count each =
    let all = inserted-all since each in
    record { base = omega (arith, base, count, all); out = omega (arith, out, count, all) }

pub room_for_undo : RoomForUndo
room_for_undo units deltas short count each = omega (arith, short, count, inserted-all deltas each)

-- each unit weighs 12 at least
pub weight-some : (units : List Element) → 12 * length units ≤ weight_of units
weight-some [] = omega arith
weight-some (x ∷ d) = omega (arith, weight-some d)

pub light_inserts : LightInserts
light_inserts units taken long light = omega (arith, inserted_stay units taken long, weight-some (apply units (counted taken)), light)
