use Rattle.std.proofs.Common.{◌≡◌, ◌∙◌, ◌+◌, ◌<◌, ℕ, Vec, List, [], ◌∷◌, ◌++◌, length, get_or, refl, ap, sym, subst, arith, rules, append_assoc, append-nil, length-append}
use Rattle.std.specs.declared.alloc.Global.{Global}
use Rattle.std.specs.Vec.Iter.{into_iter_items}
use Rattle.std.proofs.lemmas.List.{nil_from_length, length-map}
use Rattle.std.proofs.lemmas.Result.{err_from_is_err_and}
use Rattle.disk.specs.Device.{History}
use Rattle.revision.specs.Command.{Taken}
use Rattle.revision.specs.State.{Limits, State}
use Rattle.milestone.specs.OneCell.{HoldsPairIn}
use Rattle.milestone.specs.declared.cells.Cells.{Cells}
use Rattle.recovery.specs.Shape.{cells_place}
use Rattle.recovery.specs.Found.{limits_in}
use Rattle.recovery.specs.steps.Reading.{lists_of, IsNext}
use Rattle.recovery.proofs.Documents.{SoFar, begins, one_more, none_stand, all_read, own-at, length-behind}
use Rattle.recovery.proofs.reading.documents.read_documents.Goals as goal

abbrev commands_in : Vec Taken Global → List Taken
commands_in v = v.items

abbrev state_within : Limits → State
state_within limits = record { limits = limits; documents = [] }

-- the list that is read next
own-is : (before rest all : List (Vec Taken Global)) (own : Vec Taken Global) (count : ℕ) → before ++ own ∷ rest ≡ all → count ≡ length before → own.items ≡ get_or (lists_of all) count []
own-is before rest all own count is here =
    sym (ap (λ n. get_or (lists_of all) n []) here ∙ (ap (λ l. get_or (lists_of l) (length before) []) (sym is) ∙ own-at commands_in before own rest []))

pub loop-own-init : goal.loop-own-init
loop-own-init g c =
    let honest = g.D.Disk.honest c.args.disk.now in
    let content = g.D.Disk.seen c.args.disk.now in
    let lists = lists_of c.args.entries.items in
    let state : c.new.result ≡ state_within (limits_in c.args.format c.args.shape.now) = c.new.ensures ∙ ap state_within c.limits_in.ensures in
    record {
      so_far =
          subst (λ (k : List Cells). SoFar c.args.format honest content c.args.shape.now c.args.pick lists k c.new.result) (sym c.new-2.ensures.items)
          (subst (λ (s : State). SoFar c.args.format honest content c.args.shape.now c.args.pick lists [] s) (sym state)
          (begins c.args.format honest content c.args.shape.now c.args.pick lists c.requires.in_range));
      number = ap length c.new-2.ensures.items;
      others = search rules;
      count = search rules;
      stays = refl;
      honest = λ h. h;
      good = refl;
    }

pub loop-own-preserved : goal.loop-own-preserved
loop-own-preserved g c =
    let at = c.loop-own in
    let so = at.invariant in
    let steps = c.in-Some.ensures.steps in
    let rest : into_iter_items at.own-iterator ≡ c.in-Some.own ∷ into_iter_items c.next.new.self = steps.0 in
    let all : at.yielded ++ c.in-Some.own ∷ into_iter_items c.next.new.self ≡ c.args.entries.items = ap (λ (l : List (Vec Taken Global)). at.yielded ++ l) (sym rest) ∙ so.others in
    let same : g.D.Disk.seen at.disk ≡ g.D.Disk.seen c.args.disk.now = ap (λ (h : History). h.now.seen) so.stays in
    let done = c.in_ok-read_next.ensures in
    let own = own-is at.yielded (into_iter_items c.next.new.self) c.args.entries.items c.in-Some.own (length at.read.cells.items) all so.number in
    let next : IsNext c.args.format (g.D.Disk.honest c.read_next.new.disk) (g.D.Disk.seen c.args.disk.now) c.args.shape.now c.args.pick c.in-Some.own.items at.read.cells.items at.read.state
    c.read_next.new.self.cells.items c.read_next.new.self.state =
    subst (λ (l : List ℕ). IsNext c.args.format (g.D.Disk.honest c.read_next.new.disk) l c.args.shape.now c.args.pick c.in-Some.own.items at.read.cells.items at.read.state
    c.read_next.new.self.cells.items c.read_next.new.self.state) same done.next in
    record {
      so_far = one_more c.args.format (g.D.Disk.honest at.disk) (g.D.Disk.honest c.read_next.new.disk) (g.D.Disk.seen c.args.disk.now) c.args.shape.now c.args.pick (lists_of c.args.entries.items)
          c.in-Some.own.items at.read.cells.items c.read_next.new.self.cells.items at.read.state c.read_next.new.self.state so.so_far done.only_read.honest own next;
      number =
          ap length next.is ∙ (length-append at.read.cells.items (next.cells ∷ []) ∙ (ap (λ n. n + 1) so.number ∙ sym (length-append at.yielded (c.in-Some.own ∷ []))));
      others = append_assoc at.yielded (c.in-Some.own ∷ []) (into_iter_items c.next.new.self) ∙ all;
      count = grind arith;
      stays = done.only_read.history ∙ so.stays;
      honest = λ h. so.honest (done.only_read.honest h);
      good = search rules;
    }

pub returns-in_err-read_next-clause-damaged : goal.returns-in_err-read_next-clause-damaged
returns-in_err-read_next-clause-damaged g c =
    let p = err_from_is_err_and c.from_residual.result c.from_residual.ensures.1 in
    let at = c.loop-own in
    let so = at.invariant in
    let shape = c.args.shape.now in
    let known = at.read.cells.items in
    let left = into_iter_items c.next.new.self in
    let steps = c.in-Some.ensures.steps in
    let rest : into_iter_items at.own-iterator ≡ c.in-Some.own ∷ left = steps.0 in
    let all : at.yielded ++ c.in-Some.own ∷ left ≡ c.args.entries.items = ap (λ (l : List (Vec Taken Global)). at.yielded ++ l) (sym rest) ∙ so.others in
    let same : g.D.Disk.seen at.disk ≡ g.D.Disk.seen c.args.disk.now = ap (λ (h : History). h.now.seen) so.stays in
    let own = own-is at.yielded left c.args.entries.items c.in-Some.own (length known) all so.number in
    let below : length known < shape.docs = omega (arith, so.number, ap length all, length-behind at.yielded c.in-Some.own left, c.requires.count) in
    rw p.1 (λ is honest.
    none_stand c.args.format (g.D.Disk.honest at.disk) (g.D.Disk.seen c.args.disk.now) shape c.args.pick (lists_of c.args.entries.items) known at.read.state c.in-Some.own.items so.so_far
    (c.read_next.ensures.only_read.honest honest) below own
    (λ pair holds after.
    c.in_err-read_next.ensures.damaged (sym p.2 ∙ is) honest pair
    (subst (λ (l : List ℕ). HoldsPairIn c.args.format (cells_place shape (length known)) shape.cell (length known) l pair) (sym same) holds) after))

pub returns-clause-found : goal.returns-clause-found
returns-clause-found g c =
    let at = c.loop-own in
    let so = at.invariant in
    let none = c.in-None.ensures.steps in
    let nothing : into_iter_items at.own-iterator ≡ [] = nil_from_length _ (sym so.count ∙ none.0) in
    let all : at.yielded ≡ c.args.entries.items = sym (append-nil at.yielded) ∙ rw nothing at so.others in
    let count : length at.read.cells.items ≡ c.args.shape.now.docs = so.number ∙ (ap length all ∙ c.requires.count) in
    λ honest.
    all_read c.args.format (g.D.Disk.honest at.disk) (g.D.Disk.seen c.args.disk.now) c.args.shape.now c.args.pick (lists_of c.args.entries.items) at.read.cells.items at.read.state so.so_far
    count (length-map c.args.entries.items commands_in ∙ c.requires.count) honest
