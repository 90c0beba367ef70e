use Rattle.std.proofs.Common.{◌≡◌, ℕ, ◌+◌, ◌<◌, ◌≤◌, Bool, true, false, List, map, length, drop, get_or, sym, ap, ◌∙◌, arith}
use Rattle.std.specs.Prelude.{◌&&◌, nat_le, max}
use Rattle.std.proofs.lemmas.Bool.{le-leb, lt-leb}
use Rattle.std.proofs.lemmas.List.{length-map, get_or-map}
use Rattle.revision.specs.Pending.{PendingDocument, record_of}
use Rattle.world.specs.World.{last_composed}
use Rattle.world.specs.Stepping.{are_reached}
use Rattle.world.proofs.Milestones.{reached-step, reached-end}
use Rattle.world.proofs.stepping.are_reached.Goals as goal

-- the records of documents have that of each one
there : (documents : List PendingDocument) (number : ℕ) (d : PendingDocument) → number < length documents → d ≡ get_or documents number d
    → record_of d ≡ get_or (map record_of documents) number (record_of d)
there documents number d within is = ap record_of is ∙ sym (get_or-map record_of documents number d (record_of d) within)

-- the test at the documents of a number
module _ (composed : List (ℕ × ℕ)) (number : ℕ) (made held : List PendingDocument) (m h : PendingDocument)
    (in_made : number < length made) (in_held : number < length held) (m_is : m ≡ get_or made number m) (h_is : h ≡ get_or held number h) where
  abbrev here : Bool
  here = are_reached composed number (drop number (map record_of made)) (drop number (map record_of held))

  abbrev on : Bool
  on = are_reached composed (number + 1) (drop (number + 1) (map record_of made)) (drop (number + 1) (map record_of held))

  abbrev most : ℕ
  most = max m.past.past.floor (last_composed number composed)

  goes : here ≡ (nat_le h.past.past.floor most && on)
  goes =
      reached-step composed number (map record_of made) (map record_of held) (record_of m) (record_of h)
      (omega (arith, length-map made record_of, in_made)) (omega (arith, length-map held record_of, in_held))
      (there made number m in_made m_is) (there held number h in_held h_is)

  stops : most < h.past.past.floor → here ≡ false
  stops above = goes ∙ ap (λ b. b && on) (lt-leb h.past.past.floor most above)

  passes : h.past.past.floor ≤ most → here ≡ on
  passes within = goes ∙ ap (λ b. b && on) (le-leb h.past.past.floor most within)

pub returns-then-floor-max : goal.returns-then-floor-max
returns-then-floor-max c =
    sym (stops c.args.composed.now c.loop-number.number c.args.made.now c.args.held.now c.index-made-number.result c.index-held-number.result
    (omega (arith, c.loop-number-test.true, c.min-number-end.ensures)) (omega (arith, c.loop-number-test.true, c.min-number-end.ensures)) c.index-made-number.is c.index-held-number.is
    (omega (arith, c.if-floor-max.true, c.floor.ensures, c.floor-in-loop-number.ensures, c.last_composed.ensures, c.max.ensures)))
    ∙ c.loop-number.invariant

pub loop-number-preserved : goal.loop-number-preserved
loop-number-preserved c =
    sym (passes c.args.composed.now c.loop-number.number c.args.made.now c.args.held.now c.index-made-number.result c.index-held-number.result
    (omega (arith, c.loop-number-test.true, c.min-number-end.ensures)) (omega (arith, c.loop-number-test.true, c.min-number-end.ensures)) c.index-made-number.is c.index-held-number.is
    (omega (arith, c.if-floor-max.false, c.floor.ensures, c.floor-in-loop-number.ensures, c.last_composed.ensures, c.max.ensures)))
    ∙ c.loop-number.invariant

pub returns : goal.returns
returns c =
    sym (reached-end c.args.composed.now c.loop-number.number c.loop-number.number (map record_of c.args.made.now) (map record_of c.args.held.now)
    (omega (arith, c.loop-number-test.false, c.min-number-end.ensures, length-map c.args.made.now record_of, length-map c.args.held.now record_of)))
    ∙ c.loop-number.invariant
