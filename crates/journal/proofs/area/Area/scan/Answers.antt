use Rattle.std.proofs.Common.{◌≡◌, ◌∙◌, ◌+◌, ◌-◌, ◌∷◌, ◌++◌, [], List, ℕ, length, take, drop, sym, ap, subst, arith, rules, length-drop, length-append}
use Rattle.std.proofs.lemmas.List.{drop-drop}
use Rattle.std.proofs.lemmas.Result.{err_from_is_err_and}
use Rattle.disk.specs.Device.{History}
use Rattle.journal.specs.Area.{Place, Stands, IsBody, open_record, open_records}
use Rattle.journal.specs.Scan.{items_of}
use Rattle.journal.specs.declared.scan.Front.TheVariants.{Record}
use Rattle.journal.specs.steps.Scanning.{IsFront, IsNoFront, BeginsClosed}
use Rattle.journal.proofs.Areas.{AllByRecursion-push, open_records-push, length-frame}
use Rattle.journal.proofs.Scanning as scanning
use Rattle.journal.proofs.area.Area.scan.Goals as goal

pub returns-in_err-body-clause-damaged : goal.returns-in_err-body-clause-damaged
returns-in_err-body-clause-damaged g c =
    let p = err_from_is_err_and c.from_residual.result c.from_residual.ensures.1 in
    rw p.1 (λ is honest.
    let at = c.loop-bodies in
    let area : List ℕ = drop c.args.at (g.D.Disk.seen c.args.disk.now) in
    let none : IsNoFront at.pending (c.args.size - at.next) = subst (λ (l : List ℕ). IsNoFront l (c.args.size - at.next)) c.bytes.ensures c.in_err-body.ensures.damaged.1 in
    scanning.damaged area (items_of at.bodies.items) at.pending at.next (at.invariant.split honest) c.args.size at.invariant.within at.invariant.each
    (omega (arith, c.requires.within, length-drop c.args.at (g.D.Disk.seen c.args.disk.now))) (omega (arith, at.invariant.within)) none)

pub returns-in-Closed-clause-found : goal.returns-in-Closed-clause-found
returns-in-Closed-clause-found g c honest =
    let at = c.loop-bodies in
    let seen : List ℕ = g.D.Disk.seen c.args.disk.now in
    let front : BeginsClosed at.pending = search rules in
    subst (λ (p : Place). Stands seen p (items_of at.bodies.items)) (sym c.at_record-area.ensures)
    (record {
      holds = scanning.closed (drop c.args.at seen) (items_of at.bodies.items) at.pending at.next (at.invariant.split honest) c.args.size at.invariant.within at.invariant.each front;
      next = at.invariant.next;
    })

pub loop-bodies-preserved-in-Record : goal.loop-bodies-preserved-in-Record
loop-bodies-preserved-in-Record g c =
    let at = c.loop-bodies in
    let body : List ℕ = c.in-Record.body.now in
    let front : IsFront c.bytes.result.now (c.args.size - at.next) (Record c.in-Record.body) = search rules in
    let split : at.pending ≡ open_record body ++ drop (5 + length body) at.pending =
    subst (λ (l : List ℕ). l ≡ open_record body ++ drop (5 + length body) l) c.bytes.ensures front.1 in
    let passed : c.pass.new.self ≡ drop (5 + length body) at.pending = c.pass.ensures in
    let items : items_of c.push_body.new.bodies.items ≡ items_of at.bodies.items ++ body ∷ [] = c.in_ok-push_body-in-Record.ensures.pushed in
    record {
      split = λ honest. rw (items, passed) (scanning.parted (drop c.args.at (g.D.Disk.seen c.args.disk.now)) (items_of at.bodies.items) at.pending at.next (at.invariant.split honest) body split);
      next = rw (items, open_records-push (items_of at.bodies.items) body)
          (omega (arith, at.invariant.next, length-append (open_records (items_of at.bodies.items)) (open_record body), length-frame body));
      each = rw items (AllByRecursion-push IsBody (items_of at.bodies.items) body at.invariant.each front.0);
      room = omega (arith, front.2);
      within = rw passed (omega (arith, at.invariant.within, length-drop (5 + length body) at.pending, ap length split, length-append (open_record body) (drop (5 + length body) at.pending), length-frame body));
      stays = at.invariant.stays;
      honest = at.invariant.honest;
      good = at.invariant.good;
    }

pub read_on-requires-clause-within : goal.read_on-requires-clause-within
read_on-requires-clause-within g c =
    let same : g.D.Disk.seen c.loop-bodies.disk ≡ g.D.Disk.seen c.args.disk.now = ap (λ (h : History). h.now.seen) c.loop-bodies.invariant.stays in
    omega (arith, ap length same, ap length c.bytes-in-Short.ensures, c.requires.within, c.loop-bodies.invariant.within, c.piece_of.ensures.within)

pub loop-bodies-preserved : goal.loop-bodies-preserved
loop-bodies-preserved g c =
    let at = c.loop-bodies in
    let seen : List ℕ = g.D.Disk.seen c.args.disk.now in
    let same : g.D.Disk.seen at.disk ≡ seen = ap (λ (h : History). h.now.seen) at.invariant.stays in
    let place : c.args.at + (at.next + length c.bytes-in-Short.result.now) ≡ c.args.at + (at.next + length at.pending) =
    ap (λ (l : List ℕ). c.args.at + (at.next + length l)) c.bytes-in-Short.ensures in
    record {
      split = λ honest.
          let read : c.read_on.new.self ≡ at.pending ++ take c.piece_of.result (drop (at.next + length at.pending) (drop c.args.at seen)) =
          c.in_ok-read_on-in-Short.ensures.bytes honest
          ∙ ap (λ (l : List ℕ). at.pending ++ take c.piece_of.result (drop (c.args.at + (at.next + length c.bytes-in-Short.result.now)) l)) same
          ∙ ap (λ k. at.pending ++ take c.piece_of.result (drop k seen)) place
          ∙ ap (λ (l : List ℕ). at.pending ++ take c.piece_of.result l) (sym (drop-drop (at.next + length at.pending) c.args.at seen)) in
          scanning.read_on (drop c.args.at seen) (items_of at.bodies.items) at.pending at.next (at.invariant.split (c.read_on.ensures.only_read.honest honest)) c.piece_of.result
          c.read_on.new.self c.in_ok-read_on-in-Short.ensures.length read;
      next = at.invariant.next;
      each = at.invariant.each;
      room = at.invariant.room;
      within = omega (arith, at.invariant.within, c.in_ok-read_on-in-Short.ensures.length, c.piece_of.ensures.within, ap length c.bytes-in-Short.ensures);
      stays = c.read_on.ensures.only_read.history ∙ at.invariant.stays;
      honest = λ honest. at.invariant.honest (c.read_on.ensures.only_read.honest honest);
      good = c.in_ok-read_on-in-Short.ensures.faults.good ∙ at.invariant.good;
    }
