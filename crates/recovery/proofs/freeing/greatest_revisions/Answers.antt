use Rattle.std.proofs.Common.{◌≡◌, ◌∙◌, ◌+◌, ℕ, get_or, take, subst, sym, Vec, Global, replicate}
use Rattle.std.proofs.lemmas.List.{with_items_is}
use Rattle.recovery.specs.declared.marks.Mark.{Mark}
use Rattle.recovery.proofs.Gathered.{IsTable, table_none, table_pass, table_more}
use Rattle.recovery.proofs.Marking.{read_again}
use Rattle.recovery.proofs.freeing.greatest_revisions.Goals as goal
use Rattle.recovery.proofs.freeing.greatest_revisions.Goals.{then-mark-segment, else-mark-segment}

abbrev no_mark : Mark
no_mark = record { segment = 0; document = 0; revision = 0 }

pub loop-mark-init : goal.loop-mark-init
loop-mark-init c =
    let zeros : c.in_ok-marked.marked.items ≡ replicate c.args.count 0 = c.in_ok-marked.ensures.items_if_clones_equal (λ y h. h) in
    table_none c.args.segment c.args.count c.in_ok-marked.marked.items zeros

pub loop-mark-preserved : goal.loop-mark-preserved
loop-mark-preserved c =
    let marks = c.args.marks.now in
    let k = c.loop-mark.mark-index in
    let mark : Mark = get_or marks k no_mark in
    let is = read_again marks k no_mark c.loop-mark-test.true in
    elim c.if-mark-segment.branch [
      | then-mark-segment w ↦
          let from = w.deref_mut.ensures.value in
          let before : IsTable c.args.segment c.args.count (take k marks) w.deref_mut.result.now =
          subst (IsTable c.args.segment c.args.count (take k marks)) (sym from) c.loop-mark.invariant in
          subst (λ (v : Vec ℕ Global). IsTable c.args.segment c.args.count (take (k + 1) marks) v.items) (sym w.marked-is)
          (subst (IsTable c.args.segment c.args.count (take (k + 1) marks))
          (sym (with_items_is c.loop-mark.marked w.raise_at.new.marked (w.raise_at.ensures.same ∙ w.deref_mut.ensures.len)))
          (table_more c.args.segment c.args.count k marks mark c.loop-mark-test.true is w.deref_mut.result.now before w.raise_at.new.marked w.if-mark-segment.true w.raise_at.ensures.same
          w.raise_at.ensures.own w.raise_at.ensures.others w.raise_at.ensures.few))
      | else-mark-segment w ↦
          subst (λ (v : Vec ℕ Global). IsTable c.args.segment c.args.count (take (k + 1) marks) v.items) (sym w.marked-is)
          (table_pass c.args.segment c.args.count k marks mark c.loop-mark-test.true is c.loop-mark.marked.items c.loop-mark.invariant w.if-mark-segment.false)
    ]
