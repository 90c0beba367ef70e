use Rattle.std.proofs.Common.{◌≡◌, ◌∷◌, ◌+◌, ◌-◌, ◌≤◌, ◌^◌, length, take, drop, sym, ap, subst, arith}
use Rattle.std.proofs.lemmas.List.{take_all, length-drop}
use Rattle.delta.specs.Gaps.{counted}
use Rattle.document.specs.Outcome.{IsAccepted}
use Rattle.compose.specs.Many.{applied}
use Rattle.revision.specs.Late.{HasRoom, all_inserted}
use Rattle.revision.specs.Past.{StandInTurn}
use Rattle.revision.proofs.Room.{room-back}
use Rattle.revision.proofs.Replays.{drop-here, stand-drop}
use Rattle.revision.proofs.past.undoing.undo_one.Goals as goal

pub taken_back-requires : goal.taken_back-requires
taken_back-requires c =
    let taken = c.index-deltas-place.result in
    let base = c.args.base.now in
    let deltas = c.args.deltas.now in
    let place = c.args.place in
    let cut = drop-here deltas place taken c.requires.held c.index-deltas-place.is in
    let stand = subst (StandInTurn (applied base (take place deltas))) cut (stand-drop place base deltas c.requires.stand) in
    subst (λ d. IsAccepted d (counted taken)) (sym c.in_ok-before.ensures.document) stand.0

pub past_all-requires : goal.past_all-requires
past_all-requires c =
    let taken = c.index-deltas-place.result in
    let base = c.args.base.now in
    let deltas = c.args.deltas.now in
    let place = c.args.place in
    let cut = drop-here deltas place taken c.requires.held c.index-deltas-place.is in
    let all : take (length deltas - (place + 1)) (drop (place + 1) deltas) ≡ drop (place + 1) deltas = take_all (length deltas - (place + 1)) (drop (place + 1) deltas) (omega (arith, length-drop (place + 1) deltas)) in
    let room : length c.in_ok-before.before + all_inserted (taken ∷ drop (place + 1) deltas) ≤ 2 ^ 48 =
    omega (arith, c.requires.room, ap length c.in_ok-before.ensures.document, ap all_inserted cut) in
    subst (λ b. HasRoom b (take (length deltas - (place + 1)) (drop (place + 1) deltas))) (sym c.in_ok-back.ensures.back)
    (subst (HasRoom _) (sym all) (room-back c.in_ok-before.before taken (drop (place + 1) deltas) room))
