use Rattle.std.proofs.Common.{◌≡◌, ◌∙◌, List, ℕ, map, ap, sym, subst, rules}
use Rattle.std.proofs.lemmas.Result.{err_from_is_err_and}
use Rattle.std.proofs.lemmas.Bool.{both_ways}
use Rattle.disk.specs.Device.{History}
use Rattle.revision.specs.Command.{Taken}
use Rattle.history.specs.Found.{StandFor}
use Rattle.segments.specs.Slot.{Segment}
use Rattle.segments.specs.Order.{segments_of}
use Rattle.segments.specs.Recovered.{segment_in}
use Rattle.segments.specs.Ring.{Fits}
use Rattle.recovery.specs.Layout.{HoldsCellsIn, HoldsSlots}
use Rattle.recovery.specs.Cells.{FitEachIn}
use Rattle.recovery.specs.Found.{AreEntriesIn, limits_in}
use Rattle.recovery.specs.steps.Reading.{lists_of, are_below, AreByDocument, SpellGroups, commands_in}
use Rattle.recovery.proofs.Layouts.{slots_of}
use Rattle.recovery.proofs.Parts.{all_in, spell-all, commands-all, in-groups, not-slots, groups-same, gathered}
use Rattle.recovery.proofs.reading.read_content.Goals as goal

pub returns-in_err-ring-clause-refused : goal.returns-in_err-ring-clause-refused
returns-in_err-ring-clause-refused g c = record {
  not_formatted = search rules;
  formatted = search rules;
  damaged =
      let p = err_from_is_err_and c.from_residual-in_err-ring.result c.from_residual-in_err-ring.ensures.1 in
      let content = g.D.Disk.seen c.args.disk.now in
      let shape = c.in_ok-shape.shape in
      let before : g.D.Disk.seen c.read_shape.new.disk ≡ content = ap (λ (h : History). h.now.seen) c.read_shape.ensures.only_read.history in
      rw p.1 (λ is honest found.
      not-slots c.args.format content shape c.args.pick found (c.in_ok-shape.ensures.named (c.read_slots.ensures.only_read.honest honest))
      (λ table holds. c.in_err-ring.ensures.damaged (sym p.2 ∙ is) honest table (subst (λ (l : List ℕ). HoldsSlots l shape table) (sym before) holds)));
  only = search rules;
}

pub returns-in_err-lists-clause-refused : goal.returns-in_err-lists-clause-refused
returns-in_err-lists-clause-refused g c = record {
  not_formatted = search rules;
  formatted = search rules;
  damaged =
      let p = err_from_is_err_and c.from_residual-in_err-lists.result c.from_residual-in_err-lists.ensures.1 in
      let content = g.D.Disk.seen c.args.disk.now in
      let shape = c.in_ok-shape.shape in
      let ring = c.in_ok-ring.field-0.ring in
      let before : g.D.Disk.seen c.read_shape.new.disk ≡ content = ap (λ (h : History). h.now.seen) c.read_shape.ensures.only_read.history in
      rw p.1 (λ is honest found holds.
      let names = c.in_ok-shape.ensures.named (c.read_slots.ensures.only_read.honest honest) in
      let read = c.in_ok-ring.ensures.found honest in
      let fits : Fits content ring read.table = subst (λ (l : List ℕ). Fits l ring read.table) before read.fits in
      let segments : map segment_in c.deref.result.now ≡ segments_of read.table = ap (map segment_in) c.deref.ensures.value ∙ read.segments in
      let there = in-groups c.args.format content shape c.args.pick read.table found names (slots_of content shape ring read.table c.in_ok-ring.ensures.place fits) holds in
      both_ways (are_below shape.docs (commands_in there.groups))
      (c.in_err-lists.ensures.damaged (sym p.2 ∙ is) there.groups (subst (λ (s : List Segment). SpellGroups s there.groups) (sym segments) there.spell)) there.below);
  only = search rules;
}

pub returns-then-not-are_entries_in-clause-refused : goal.returns-then-not-are_entries_in-clause-refused
returns-then-not-are_entries_in-clause-refused g c = record {
  not_formatted = search rules;
  formatted = search rules;
  damaged =
      let content = g.D.Disk.seen c.args.disk.now in
      let shape = c.in_ok-shape.shape in
      let ring = c.in_ok-ring.field-0.ring in
      let lists = lists_of c.in_ok-lists.field-0.lists.items in
      let before : g.D.Disk.seen c.read_shape.new.disk ≡ content = ap (λ (h : History). h.now.seen) c.read_shape.ensures.only_read.history in
      λ is honest found holds.
      let names = c.in_ok-shape.ensures.named (c.read_slots.ensures.only_read.honest honest) in
      let read = c.in_ok-ring.ensures.found honest in
      let fits : Fits content ring read.table = subst (λ (l : List ℕ). Fits l ring read.table) before read.fits in
      let segments : map segment_in c.deref.result.now ≡ segments_of read.table = ap (map segment_in) c.deref.ensures.value ∙ read.segments in
      let there = in-groups c.args.format content shape c.args.pick read.table found names (slots_of content shape ring read.table c.in_ok-ring.ensures.place fits) holds in
      let own = gathered (map segment_in c.deref.result.now) lists c.in_ok-lists.ensures.found in
      let commands = groups-same read.table own.groups there.groups (subst (λ (s : List Segment). SpellGroups s own.groups) segments own.spell) there.spell in
      both_ways c.are_entries_in.result c.if-not-are_entries_in.true
      ((c.are_entries_in.ensures (commands_in there.groups)
      (subst (AreByDocument (commands_in there.groups)) (sym (ap lists_of c.as_slice.ensures.value)) (subst (λ (e : List Taken). AreByDocument e lists) commands own.by))).1 there.entries);
  only = search rules;
}

pub returns-in_err-state-clause-refused : goal.returns-in_err-state-clause-refused
returns-in_err-state-clause-refused g c = record {
  not_formatted = search rules;
  formatted = search rules;
  damaged =
      let p = err_from_is_err_and c.from_residual-in_err-state.result c.from_residual-in_err-state.ensures.1 in
      let content = g.D.Disk.seen c.args.disk.now in
      let shape = c.in_ok-shape.shape in
      let ring = c.in_ok-ring.field-0.ring in
      let lists = lists_of c.in_ok-lists.field-0.lists.items in
      let before : g.D.Disk.seen c.read_shape.new.disk ≡ content = ap (λ (h : History). h.now.seen) c.read_shape.ensures.only_read.history in
      let same : g.D.Disk.seen c.read_slots.new.disk ≡ content = ap (λ (h : History). h.now.seen) (c.read_slots.ensures.only_read.history ∙ c.read_shape.ensures.only_read.history) in
      rw p.1 (λ is honest found holds.
      let honest_slots = c.read_documents.ensures.only_read.honest honest in
      let names = c.in_ok-shape.ensures.named (c.read_slots.ensures.only_read.honest honest_slots) in
      let read = c.in_ok-ring.ensures.found honest_slots in
      let fits : Fits content ring read.table = subst (λ (l : List ℕ). Fits l ring read.table) before read.fits in
      let segments : map segment_in c.deref.result.now ≡ segments_of read.table = ap (map segment_in) c.deref.ensures.value ∙ read.segments in
      let there = in-groups c.args.format content shape c.args.pick read.table found names (slots_of content shape ring read.table c.in_ok-ring.ensures.place fits) holds in
      let own = gathered (map segment_in c.deref.result.now) lists c.in_ok-lists.ensures.found in
      let commands = groups-same read.table own.groups there.groups (subst (λ (s : List Segment). SpellGroups s own.groups) segments own.spell) there.spell in
      c.in_err-state.ensures.damaged (sym p.2 ∙ is) honest there.cells (subst (λ (l : List ℕ). HoldsCellsIn c.args.format l shape there.cells) (sym same) there.in_cells)
      (commands_in there.groups) (subst (λ (e : List Taken). AreByDocument e lists) commands own.by) found there.stand);
  only = search rules;
}

pub returns-clause-read : goal.returns-clause-read
returns-clause-read g c honest =
    let content = g.D.Disk.seen c.args.disk.now in
    let shape = c.in_ok-shape.shape in
    let ring = c.in_ok-ring.field-0.ring in
    let documents = c.in_ok-state.field-0 in
    let lists = lists_of c.in_ok-lists.field-0.lists.items in
    let before : g.D.Disk.seen c.read_shape.new.disk ≡ content = ap (λ (h : History). h.now.seen) c.read_shape.ensures.only_read.history in
    let same : g.D.Disk.seen c.read_slots.new.disk ≡ content = ap (λ (h : History). h.now.seen) (c.read_slots.ensures.only_read.history ∙ c.read_shape.ensures.only_read.history) in
    let honest_slots = c.read_documents.ensures.only_read.honest honest in
    let names = c.in_ok-shape.ensures.named (c.read_slots.ensures.only_read.honest honest_slots) in
    let read = c.in_ok-ring.ensures.found honest_slots in
    let fits : Fits content ring read.table = subst (λ (l : List ℕ). Fits l ring read.table) before read.fits in
    let segments : map segment_in c.deref.result.now ≡ segments_of read.table = ap (map segment_in) c.deref.ensures.value ∙ read.segments in
    let own = gathered (map segment_in c.deref.result.now) lists c.in_ok-lists.ensures.found in
    let there = c.in_ok-state.ensures.found honest (commands_in own.groups) own.by in
    record {
      cells = there.pairs;
      table = read.table;
      batches = all_in own.groups;
      holds = record {
        laid_out = record {
          names = names;
          in_cells = subst (λ (l : List ℕ). HoldsCellsIn c.args.format l shape there.pairs) same there.holds;
          in_slots = slots_of content shape ring read.table c.in_ok-ring.ensures.place fits;
        };
        spell = spell-all read.table own.groups (subst (λ (s : List Segment). SpellGroups s own.groups) segments own.spell);
        entries = subst (AreEntriesIn c.args.format) (sym (commands-all own.groups))
            ((c.are_entries_in.ensures (commands_in own.groups) (subst (AreByDocument (commands_in own.groups)) (sym (ap lists_of c.as_slice.ensures.value)) own.by)).0 c.if-not-are_entries_in.false);
      };
      fits = fits;
      place = c.in_ok-ring.ensures.place;
      cells_are = c.in_ok-state.ensures.cells;
      cells_fit = subst (λ (l : List ℕ). FitEachIn c.args.format l documents.cells.items there.pairs) same there.fit;
      marked = c.in_ok-lists.ensures.marked read.table fits.holds.differ segments;
      stand = subst (λ (e : List Taken). StandFor (limits_in c.args.format shape) there.pairs e c.args.pick documents.state) (sym (commands-all own.groups)) there.stand;
    }
