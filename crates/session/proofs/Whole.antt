-- Whole lines.
use Rattle.std.specs.Prelude.{◌==◌}
use Rattle.std.proofs.Common.{Bool, true, false, length, ◌≡◌, ◌≤◌, ◌<◌, ◌+◌, ◌++◌, ℕ, List, [], ◌∷◌, Some, None, refl, sym, ap, subst, ◌∙◌, append_assoc, append-nil, length-append, arith}
use Rattle.std.proofs.lemmas.Bool.Decides.{nat_tests}
use Rattle.refusal.specs.declared.Refusal.TheVariants.{LineTooLong}
use Rattle.session.specs.declared.line.Event.{Event}
use Rattle.session.specs.declared.line.Event.TheVariants.{More, TooLong, Complete}
use Rattle.session.specs.Line.{Partial, with_byte, HasNoEnd}
use Rattle.session.specs.Session.{Session}
use Rattle.session.specs.Exchange.{Exchange}
use Rattle.session.specs.Reply.{refusal_line}
use Rattle.session.specs.Replies.{IsLine, IsReplied, TakesByte, LineContinues, LineOverflows, LineEnds, Replies}
use Rattle.session.proofs.Lines.{more_of, full_of, dropped_of}

event_of : Event × Partial → Event
event_of p = p.0

line_of : Event × Partial → Partial
line_of p = p.1

-- what comes of a byte, by its event
takes-more : (old next : Session) (byte : ℕ) (line : Partial) (asked : List Exchange) (text : List ℕ) → with_byte old.line byte ≡ (More, line)
    → TakesByte old byte asked next text → (asked ≡ []) × (next ≡ record old { line = line }) × (text ≡ [])
takes-more old next byte line asked text event (LineContinues found is) =
    (refl, ap (λ (l : Partial). record old { line = l }) (ap (λ (p : Event × Partial). p.1) (sym is ∙ event)), refl)
takes-more old next byte line asked text event (LineOverflows found t is reply) =
    let e : TooLong ≡ More = ap (λ (p : Event × Partial). p.0) (sym is ∙ event) in cc
takes-more old next byte line asked text event (LineEnds found a peer t is reply) =
    let e : Complete ≡ More = ap (λ (p : Event × Partial). p.0) (sym is ∙ event) in cc

takes-full : (old next : Session) (byte : ℕ) (asked : List Exchange) (text : List ℕ) → with_byte old.line byte ≡ (TooLong, None)
    → TakesByte old byte asked next text → (asked ≡ []) × (next ≡ record old { line = None }) × IsLine (refusal_line LineTooLong) text
takes-full old next byte asked text event (LineContinues found is) =
    let e : More ≡ TooLong = ap (λ (p : Event × Partial). p.0) (sym is ∙ event) in cc
takes-full old next byte asked text event (LineOverflows found t is reply) =
    (refl, ap (λ (l : Partial). record old { line = l }) (ap (λ (p : Event × Partial). p.1) (sym is ∙ event)), reply)
takes-full old next byte asked text event (LineEnds found a peer t is reply) =
    let e : Complete ≡ TooLong = ap (λ (p : Event × Partial). p.0) (sym is ∙ event) in cc

takes-end : (old next : Session) (byte : ℕ) (line : List ℕ) (asked : List Exchange) (text : List ℕ) → with_byte old.line byte ≡ (Complete, Some line)
    → TakesByte old byte asked next text → (next ≡ record old { line = Some []; peer = next.peer }) × IsReplied old.peer line asked next.peer text
takes-end old next byte line asked text event (LineContinues found is) =
    let e : More ≡ Complete = ap (λ (p : Event × Partial). p.0) (sym is ∙ event) in cc
takes-end old next byte line asked text event (LineOverflows found t is reply) =
    let e : TooLong ≡ Complete = ap (λ (p : Event × Partial). p.0) (sym is ∙ event) in cc
takes-end old next byte line asked text event (LineEnds found a peer t is reply) =
    let e : Some found ≡ Some line = ap (λ (p : Event × Partial). p.1) (sym is ∙ event) in
    let same : found ≡ line = cc in
    (refl, subst (λ (l : List ℕ). IsReplied old.peer l a peer t) same reply)

-- the rest of a line, up to its end
whole_from : (line front : List ℕ) (old new : Session) (asked : List Exchange) (text : List ℕ) → old.line ≡ Some front → HasNoEnd line
    → length front + length line ≤ 65536 → Replies old (line ++ 10 ∷ []) asked new text
    → (new ≡ record old { line = Some []; peer = new.peer }) × IsReplied old.peer (front ++ line) asked new.peer text
whole_from [] front old new asked text at ends short (next, first, others, f, b, takes, (no_more, is, nothing), all, whole) =
    let t = takes-end old next 10 front first f (ap (λ (l : Partial). with_byte l 10) at) takes in
    let asked_is : asked ≡ first = all ∙ ap (λ (l : List Exchange). first ++ l) no_more ∙ append-nil first in
    let text_is : text ≡ f = whole ∙ ap (λ (l : List ℕ). f ++ l) nothing ∙ append-nil f in (
      is ∙ t.0 ∙ ap (λ (s : Session). record old { line = Some []; peer = s.peer }) (sym is),
      rw (asked_is, text_is, is, append-nil front) t.1,
    )
whole_from (byte ∷ bytes) front old new asked text at ends short (next, first, others, f, b, takes, rest, all, whole) =
    let t = takes-more old next byte (Some (front ++ byte ∷ [])) first f
    (ap (λ (l : Partial). with_byte l byte) at ∙ more_of front byte ends.0 (omega arith)) takes in
    let longer : length (front ++ byte ∷ []) + length bytes ≤ 65536 = omega (arith, length-append front (byte ∷ [])) in
    let r = whole_from bytes (front ++ byte ∷ []) next new others b (ap (λ (s : Session). s.line) t.1) ends.1 longer rest in
    let asked_is : asked ≡ others = all ∙ ap (λ (l : List Exchange). l ++ others) t.0 in
    let text_is : text ≡ b = whole ∙ ap (λ (l : List ℕ). l ++ b) t.2 in
    let line_is : (front ++ byte ∷ []) ++ bytes ≡ front ++ byte ∷ bytes = append_assoc front (byte ∷ []) bytes in (
      r.0 ∙ ap (λ (s : Session). record s { line = Some []; peer = new.peer }) t.1,
      rw (asked_is, text_is)
          (subst (λ (l : List ℕ). IsReplied old.peer l others new.peer b) line_is
          (subst (λ (s : Session). IsReplied s.peer ((front ++ byte ∷ []) ++ bytes) others new.peer b) t.1 r.1)),
    )

pub whole_line : (line : List ℕ) (old new : Session) (asked : List Exchange) (text : List ℕ) → old.line ≡ Some [] → HasNoEnd line
    → length line ≤ 65536 → Replies old (line ++ 10 ∷ []) asked new text
    → (new ≡ record old { line = Some []; peer = new.peer }) × IsReplied old.peer line asked new.peer text
whole_line line old new asked text at ends short replies = whole_from line [] old new asked text at ends (omega arith) replies

-- the rest of a line that is dropped
dropped_rest : (line : List ℕ) (old new : Session) (asked : List Exchange) (text : List ℕ) → old.line ≡ None → HasNoEnd line
    → Replies old (line ++ 10 ∷ []) asked new text → (asked ≡ []) × (new ≡ record old { line = Some [] }) × (text ≡ [])
dropped_rest [] old new asked text at ends (next, first, others, f, b, takes, (no_more, is, nothing), all, whole) =
    let t = takes-more old next 10 (Some []) first f (ap (λ (l : Partial). with_byte l 10) at) takes in
    (all ∙ ap (λ (l : List Exchange). l ++ others) t.0 ∙ no_more, is ∙ t.1, whole ∙ ap (λ (l : List ℕ). l ++ b) t.2 ∙ nothing)
dropped_rest (byte ∷ bytes) old new asked text at ends (next, first, others, f, b, takes, rest, all, whole) =
    let t = takes-more old next byte None first f (ap (λ (l : Partial). with_byte l byte) at ∙ dropped_of byte ends.0) takes in
    let r = dropped_rest bytes next new others b (ap (λ (s : Session). s.line) t.1) ends.1 rest in (
      all ∙ ap (λ (l : List Exchange). l ++ others) t.0 ∙ r.0,
      r.1 ∙ ap (λ (s : Session). record s { line = Some [] }) t.1,
      whole ∙ ap (λ (l : List ℕ). l ++ b) t.2 ∙ r.2,
    )

long_from : (line front : List ℕ) (old new : Session) (asked : List Exchange) (text : List ℕ) → old.line ≡ Some front → HasNoEnd line
    → length front ≤ 65536 → 65536 < length front + length line → Replies old (line ++ 10 ∷ []) asked new text
    → (asked ≡ []) × (new ≡ record old { line = Some [] }) × IsLine (refusal_line LineTooLong) text
long_from [] front old new asked text at ends short long replies = absurd (omega arith)
long_from (byte ∷ bytes) front old new asked text at ends short long (next, first, others, f, b, takes, rest, all, whole) =
    let longer : 65536 < length (front ++ byte ∷ []) + length bytes = omega (arith, length-append front (byte ∷ [])) in
    by_room (length front == 65536) refl (λ from room. long_from bytes (front ++ byte ∷ []) next new others b from ends.1 room longer rest) where
      by_room : (b' : Bool) → (length front == 65536) ≡ b'
          → (next.line ≡ Some (front ++ byte ∷ []) → length (front ++ byte ∷ []) ≤ 65536
          → (others ≡ []) × (new ≡ record next { line = Some [] }) × IsLine (refusal_line LineTooLong) b)
          → (asked ≡ []) × (new ≡ record old { line = Some [] }) × IsLine (refusal_line LineTooLong) text
      by_room true full again =
          let is_full : length front ≡ 65536 = grind (arith, nat_tests) in
          let t = takes-full old next byte first f (ap (λ (l : Partial). with_byte l byte) at ∙ full_of front byte ends.0 is_full) takes in
          let r = dropped_rest bytes next new others b (ap (λ (s : Session). s.line) t.1) ends.1 rest in
          let text_is : text ≡ f = whole ∙ ap (λ (l : List ℕ). f ++ l) r.2 ∙ append-nil f in (
            all ∙ ap (λ (l : List Exchange). l ++ others) t.0 ∙ r.0,
            r.1 ∙ ap (λ (s : Session). record s { line = Some [] }) t.1,
            rw text_is t.2,
          )
      by_room false room again =
          let is_short : length front < 65536 = grind (arith, nat_tests) in
          let t = takes-more old next byte (Some (front ++ byte ∷ [])) first f (ap (λ (l : Partial). with_byte l byte) at ∙ more_of front byte ends.0 is_short) takes in
          let len = length-append front (byte ∷ []) in
          let r = again (ap (λ (s : Session). s.line) t.1) (omega arith) in
          let text_is : text ≡ b = whole ∙ ap (λ (l : List ℕ). l ++ b) t.2 in (
            all ∙ ap (λ (l : List Exchange). l ++ others) t.0 ∙ r.0,
            r.1 ∙ ap (λ (s : Session). record s { line = Some [] }) t.1,
            rw text_is r.2,
          )

pub long_line : (line : List ℕ) (old new : Session) (asked : List Exchange) (text : List ℕ) → old.line ≡ Some [] → HasNoEnd line
    → 65536 < length line → Replies old (line ++ 10 ∷ []) asked new text
    → (asked ≡ []) × (new ≡ old) × IsLine (refusal_line LineTooLong) text
long_line line old new asked text at ends long replies =
    let r = long_from line [] old new asked text at ends (omega arith) (omega arith) replies in
    (r.0, r.1 ∙ ap (λ (l : Partial). record old { line = l }) (sym at), r.2)
