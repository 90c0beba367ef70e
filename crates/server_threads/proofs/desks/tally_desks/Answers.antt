use Rattle.std.proofs.Common.{◌≡◌, ◌∙◌, ◌+◌, ◌++◌, [], ◌∷◌, sym, ap, subst, append_assoc, rules}
use Rattle.std.proofs.lemmas.List.{nil_from_length}
use Rattle.std.proofs.lemmas.List.Elements.{All-nil}
use Rattle.std.specs.Vec.Iter.{into_iter_items}
use mathlib.Core.List.{IsPrefix}
use Rattle.hub_desk.specs.AtHub.{Desk}
use Rattle.server_threads.proofs.Tallied.{one_seat_more, one_count_more, one_told_more, one_found_more, all_yielded}
use Rattle.server_threads.proofs.desks.tally_desks.Goals as goal

pub loop-desk-init : goal.loop-desk-init
loop-desk-init g c = record {
  others = search rules;
  seats = search rules;
  counted = search rules;
  told = All-nil (λ (desk : Desk). IsPrefix desk.told c.args.told.now);
  found = All-nil (λ (desk : Desk). IsPrefix desk.found c.args.ordered.now);
}

pub loop-desk-preserved : goal.loop-desk-preserved
loop-desk-preserved g c =
    let at = c.loop-desk in
    let i = at.invariant in
    let desk = c.in-Some.desk in
    let rest : into_iter_items at.desk-iterator ≡ desk ∷ into_iter_items c.next.new.self = c.in-Some.ensures.steps.0 in
    let told : c.told.result ≡ desk.told = c.told.ensures ∙ c.into_parts-seat.ensures.viewer in
    record {
      others = append_assoc at.yielded (desk ∷ []) (into_iter_items c.next.new.self) ∙ (ap (λ l. at.yielded ++ l) (sym rest) ∙ i.others);
      seats = one_seat_more c.args.tally.now.seats at.tally.seats c.add.new.self.seats at.yielded desk i.seats (ap (λ t. t.seats) c.add.ensures);
      counted = one_count_more c.args.tally.now.counted at.tally.counted c.add.new.self.counted at.yielded desk i.counted
          (ap (λ t. t.counted) c.add.ensures ∙ ap (λ n. at.tally.counted + n) c.into_parts-seat.ensures.seat);
      told = one_told_more at.told c.learn-in-loop-desk.new.self at.yielded desk i.told c.learn-in-loop-desk.ensures.this (subst (λ t. IsPrefix t c.learn-in-loop-desk.new.self) told c.learn-in-loop-desk.ensures.that);
      found = one_found_more at.ordered c.join.new.ordered at.yielded desk i.found c.join.ensures.before c.join.ensures.found;
    }

pub returns-clause-told : goal.returns-clause-told
returns-clause-told g c =
    let at = c.loop-desk in
    let none : into_iter_items at.desk-iterator ≡ [] =
    nil_from_length (into_iter_items at.desk-iterator) (sym at.desk-iterator.rest.ok.0 ∙ c.in-None.ensures.steps.0) in
    all_yielded (λ desk. IsPrefix desk.told at.told) at.yielded (into_iter_items at.desk-iterator) c.args.desks.items at.invariant.others none at.invariant.told

pub returns-clause-found : goal.returns-clause-found
returns-clause-found g c =
    let at = c.loop-desk in
    let none : into_iter_items at.desk-iterator ≡ [] =
    nil_from_length (into_iter_items at.desk-iterator) (sym at.desk-iterator.rest.ok.0 ∙ c.in-None.ensures.steps.0) in
    all_yielded (λ desk. IsPrefix desk.found at.ordered) at.yielded (into_iter_items at.desk-iterator) c.args.desks.items at.invariant.others none at.invariant.found
