use Rattle.std.proofs.Common.{◌≡◌, ◌++◌, ◌∷◌, [], List, ℕ, subst, sym}
use Rattle.session.specs.Exchange.{Exchange}
use Rattle.sockets.specs.declared.raw.Visit.{Visit}
use Rattle.sockets.specs.Desks.{Talks, ServesVisits}
use Rattle.sockets.proofs.Served.{served_nobody, served_more}
use Rattle.sockets.proofs.threads.serve_desk.Goals as goal

module _ {D : Type 0} (does : D → Exchange → D → Type 0) (hall : ℕ) where
  nobody_yet : (visits : List Visit) (d : D) → visits ≡ [] → ServesVisits does hall visits d d
  nobody_yet visits d none = subst (λ l. ServesVisits does hall l d d) (sym none) (served_nobody does hall d)

  one_visit_more : (visits more : List Visit) (visit : Visit) (d e f : D) → more ≡ visits ++ visit ∷ [] → ServesVisits does hall visits d e
      → Talks does hall visit e f → ServesVisits does hall more d f
  one_visit_more visits more visit d e f added serves talks =
      subst (λ l. ServesVisits does hall l d f) (sym added) (served_more does hall visits visit d e f serves talks)

pub returns-then-not-has_thread : goal.returns-then-not-has_thread
returns-then-not-has_thread g c = nobody_yet g.K.Desk.does c.args.hall.now.ended.id c.nobody-guests.result.visits.list c.args.desk c.nobody-guests.ensures

pub peers-init : goal.peers-init
peers-init g c = nobody_yet g.K.Desk.does c.args.hall.now.ended.id c.nobody-guests.result.visits.list c.args.desk c.nobody-guests.ensures

pub peers-preserved : goal.peers-preserved
peers-preserved g c =
    one_visit_more g.K.Desk.does c.args.hall.now.ended.id c.peers.guests.visits.list c.add.new.self.visits.list c.serve_peer-parting.result.1 c.args.desk
    c.peers.desk c.serve_peer-parting.new.desk c.add.ensures c.peers.invariant c.serve_peer-parting.ensures

pub peers-preserved-in-Some-next : goal.peers-preserved-in-Some-next
peers-preserved-in-Some-next g c =
    one_visit_more g.K.Desk.does c.args.hall.now.ended.id c.peers.guests.visits.list c.add.new.self.visits.list c.serve_peer-parting.result.1 c.args.desk
    c.peers.desk c.serve_peer-parting.new.desk c.add.ensures c.peers.invariant c.serve_peer-parting.ensures
