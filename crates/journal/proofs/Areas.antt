-- What an area holds after a write behind the gate of its next record.
use Rattle.std.proofs.Common.{◌≡◌, ◌≢◌, ◌⊎◌, inl, inr, ℕ, suc, ◌+◌, ◌-◌, ◌^◌, ◌≤◌, ◌<◌, List, [], ◌∷◌, ◌++◌, length, take, drop, get_or, refl, sym, ◌∙◌, ap, subst, arith, append_assoc, take-append-drop, length-append}
use Rattle.std.specs.List.{AllByRecursion}
use Rattle.std.proofs.lemmas.Bool.{cases_eq}
use Rattle.std.proofs.lemmas.List.{drop_more, take-take, take_at, drop_at, drop-take, drop-drop, get_or-take, get_or-drop, append-nil}
use Rattle.std.proofs.lemmas.List.Concat.{flat_map-append}
use Rattle.std.proofs.Math.Seq.{take-append-add}
use Rattle.disk.specs.Device.{overwritten, SameOutside}
use Rattle.disk.proofs.CallerLemmas.{length_overwritten, take_overwritten, drop_overwritten, overwritten_same_outside, same_outside_wider, same_outside_then}
use Rattle.journal.specs.Area.{open_gate, frame, open_record, open_records, IsBody, HoldsBodies, Place, area_bytes, Stands, IsGated, IsLeftByAppend, IsAppended}

pub AllByRecursion-push : {X : Type 0} (P : X → Type 0) (xs : List X) (x : X) → AllByRecursion P xs → P x → AllByRecursion P (xs ++ x ∷ [])
AllByRecursion-push P [] x all has = (has, tt)
AllByRecursion-push P (y ∷ xs) x all has = (all.0, AllByRecursion-push P xs x all.1 has)

pub open_records-push : (bodies : List (List ℕ)) (body : List ℕ) → open_records (bodies ++ body ∷ []) ≡ open_records bodies ++ open_record body
open_records-push bodies body = flat_map-append open_record bodies (body ∷ []) ∙ ap (λ (l : List ℕ). open_records bodies ++ l) (append-nil (open_record body))

pub length-frame : (body : List ℕ) → length (frame body) ≡ 4 + length body
length-frame body = omega arith

module _ (old : List ℕ) (place : Place) (bodies : List (List ℕ)) (stands : Stands old place bodies) (inside : place.next < place.size) (within : place.at + place.size ≤ length old) where
  -- the gate of the next record, on the device
  abbrev gate : ℕ
  gate = place.at + place.next

  long : length (open_records bodies) ≡ place.next
  long = sym stands.next

  front : take place.next (drop place.at old) ≡ open_records bodies
  front =
      sym (take-take place.next place.size (drop place.at old) (omega arith))
      ∙ ap (λ (l : List ℕ). take place.next l) stands.holds.split
      ∙ take_at (open_records bodies) (stands.holds.gate ∷ stands.holds.behind) place.next long

  -- up to the gate all is unchanged: the open records, and then what stands from the gate on
  pub area_from : (content : List ℕ) → take gate content ≡ take gate old → area_bytes place content ≡ open_records bodies ++ take (place.size - place.next) (drop gate content)
  area_from content same =
      let bytes = drop place.at content in
      let whole : place.next + (place.size - place.next) ≡ place.size = omega arith in
      let first : take place.next (take place.size bytes) ≡ open_records bodies =
      take-take place.next place.size bytes (omega arith) ∙ sym (drop-take place.at place.next content)
      ∙ ap (λ (l : List ℕ). drop place.at l) same ∙ drop-take place.at place.next old ∙ front in
      let second : drop place.next (take place.size bytes) ≡ take (place.size - place.next) (drop gate content) =
      ap (λ k. drop place.next (take k bytes)) (sym whole) ∙ drop-take place.next (place.size - place.next) bytes
      ∙ ap (λ (l : List ℕ). take (place.size - place.next) l) (drop-drop place.next place.at content) in
      sym (take-append-drop place.next (take place.size bytes))
      ∙ ap (λ (l : List ℕ). l ++ drop place.next (take place.size bytes)) first
      ∙ ap (λ (l : List ℕ). open_records bodies ++ l) second

  -- the gate is closed before
  pub gate_closed : get_or old gate 0 ≢ open_gate
  gate_closed =
      let rest : take (place.size - place.next) (drop gate old) ≡ stands.holds.gate ∷ stands.holds.behind =
      sym (drop_at (open_records bodies) (take (place.size - place.next) (drop gate old)) place.next long)
      ∙ ap (λ (l : List ℕ). drop place.next l) (sym (area_from old refl) ∙ stands.holds.split)
      ∙ drop_at (open_records bodies) (stands.holds.gate ∷ stands.holds.behind) place.next long in
      let is : get_or old (gate + 0) 0 ≡ stands.holds.gate =
      sym (get_or-drop gate old 0 0) ∙ sym (get_or-take (place.size - place.next) (drop gate old) 0 0 (omega arith)) ∙ ap (λ (l : List ℕ). get_or l 0 0) rest in
      λ open_there. stands.holds.closed (sym is ∙ ap (λ k. get_or old k 0) (omega arith) ∙ open_there)

  -- a closed gate ends the bodies, whatever stands behind it
  pub holds_closed : (content : List ℕ) → take gate content ≡ take gate old → length content ≡ length old → get_or content gate 0 ≢ open_gate → HoldsBodies bodies (area_bytes place content)
  holds_closed content same len shut =
      let more : place.size - place.next ≡ suc (place.size - place.next - 1) = omega arith in
      record {
        gate = get_or content gate 0;
        behind = take (place.size - place.next - 1) (drop (gate + 1) content);
        split =
            area_from content same
            ∙ ap (λ (l : List ℕ). open_records bodies ++ take (place.size - place.next) l) (drop_more content gate 0 (omega (arith, len)))
            ∙ ap (λ k. open_records bodies ++ take k (get_or content gate 0 ∷ drop (gate + 1) content)) more;
        closed = shut;
        each = stands.holds.each;
      }

  module _ (body : List ℕ) (some : 0 < length body) (short : length body < 2 ^ 32) (room : place.next + 6 + length body ≤ place.size) where
    -- what is written behind the gate
    abbrev record_bytes : List ℕ
    record_bytes = frame body ++ 0 ∷ []

    record_long : length record_bytes ≡ length body + 5
    record_long = omega (arith, length-append (frame body) (0 ∷ []), length-frame body)

    fits : gate + 1 + length record_bytes ≤ length old
    fits = omega (arith, record_long)

    -- the bytes behind the gate, whatever the gate is
    abbrev staged : List ℕ
    staged = overwritten old (gate + 1) record_bytes

    abbrev gated : ℕ → List ℕ
    gated value = overwritten staged gate (value ∷ [])

    staged_long : length staged ≡ length old
    staged_long = length_overwritten old (gate + 1) record_bytes fits

    gated_long : (value : ℕ) → length (gated value) ≡ length old
    gated_long value = length_overwritten staged gate (value ∷ []) (omega (arith, staged_long, fits)) ∙ staged_long

    gated_front : (value : ℕ) → take gate (gated value) ≡ take gate old
    gated_front value =
        take_overwritten staged gate (value ∷ []) (omega (arith, staged_long, fits))
        ∙ sym (take-take gate (gate + 1) staged (omega arith))
        ∙ ap (λ (l : List ℕ). take gate l) (take_overwritten old (gate + 1) record_bytes (omega (arith, fits)))
        ∙ take-take gate (gate + 1) old (omega arith)

    gated_back : (value : ℕ) → drop gate (gated value) ≡ value ∷ (record_bytes ++ drop (gate + 1 + length record_bytes) old)
    gated_back value =
        drop_overwritten staged gate (value ∷ []) (omega (arith, staged_long, fits))
        ∙ ap (λ (l : List ℕ). value ∷ l) (drop_overwritten old (gate + 1) record_bytes (omega (arith, fits)))

    pub gated_outside : (value : ℕ) → SameOutside place.at place.size old (gated value)
    gated_outside value = same_outside_then place.at place.size old staged (gated value)
        (same_outside_wider place.at place.size (gate + 1) (length record_bytes) old staged (omega arith) (omega (arith, record_long)) (overwritten_same_outside old (gate + 1) record_bytes fits))
        (same_outside_wider place.at place.size gate 1 staged (gated value) (omega arith) (omega arith) (overwritten_same_outside staged gate (value ∷ []) (omega (arith, staged_long, fits))))

    -- the record stands open behind the others
    pub holds_open : HoldsBodies (bodies ++ body ∷ []) (area_bytes place (gated open_gate))
    holds_open =
        let rest = drop (gate + 1 + length record_bytes) old in
        let left = place.size - place.next in
        let parts : open_gate ∷ (record_bytes ++ rest) ≡ (open_record body ++ 0 ∷ []) ++ rest = refl in
        let len : length (open_record body ++ 0 ∷ []) ≡ length body + 6 = omega (arith, record_long) in
        let cut : take left ((open_record body ++ 0 ∷ []) ++ rest) ≡ (open_record body ++ 0 ∷ []) ++ take (left - (length body + 6)) rest =
        let sum : left ≡ length (open_record body ++ 0 ∷ []) + (left - (length body + 6)) = omega (arith, len) in
        ap (λ k. take k ((open_record body ++ 0 ∷ []) ++ rest)) sum ∙ take-append-add (open_record body ++ 0 ∷ []) rest (left - (length body + 6)) in
        record {
          gate = 0;
          behind = take (left - (length body + 6)) rest;
          split =
              area_from (gated open_gate) (gated_front open_gate)
              ∙ ap (λ (l : List ℕ). open_records bodies ++ take left l) (gated_back open_gate ∙ parts)
              ∙ ap (λ (l : List ℕ). open_records bodies ++ l) (cut ∙ append_assoc (open_record body) (0 ∷ []) (take (left - (length body + 6)) rest))
              ∙ sym (append_assoc (open_records bodies) (open_record body) (0 ∷ take (left - (length body + 6)) rest))
              ∙ ap (λ (l : List ℕ). l ++ 0 ∷ take (left - (length body + 6)) rest) (sym (open_records-push bodies body));
          closed = λ is. absurd (omega arith);
          each = AllByRecursion-push IsBody bodies body stands.holds.each (record { some = some; short = short });
        }

    -- a gate of any value: with the new body, or without
    pub holds_gated : (value : ℕ) → HoldsBodies bodies (area_bytes place (gated value)) ⊎ HoldsBodies (bodies ++ body ∷ []) (area_bytes place (gated value))
    holds_gated value = elim (cases_eq value open_gate) [
      | inl is ↦ inr (subst (λ v. HoldsBodies (bodies ++ body ∷ []) (area_bytes place (gated v))) (sym is) holds_open)
      | inr shut ↦ inl (holds_closed (gated value) (gated_front value) (gated_long value) (λ is. shut (sym (here value) ∙ is)))
    ]
      where
        here : (v : ℕ) → get_or (gated v) gate 0 ≡ v
        here v =
            ap (λ k. get_or (gated v) k 0) (omega arith) ∙ sym (get_or-drop gate (gated v) 0 0) ∙ ap (λ (l : List ℕ). get_or l 0 0) (gated_back v)

    -- before the first call
    pub before : IsLeftByAppend old place bodies body old
    before = record { outside = record { same_length = refl; before = refl; after = refl }; holds = inl stands.holds }

    -- a crash within the write behind the gate, or within the gate's own
    pub before_or_after : (content : List ℕ) → IsGated gate record_bytes old content → IsLeftByAppend old place bodies body content
    before_or_after content (inl same) = record {
      outside = same_outside_wider place.at place.size (gate + 1) (length record_bytes) old content (omega arith) (omega (arith, record_long)) same;
      holds =
          let fronts : take gate content ≡ take gate old =
          sym (take-take gate (gate + 1) content (omega arith)) ∙ ap (λ (l : List ℕ). take gate l) same.before ∙ take-take gate (gate + 1) old (omega arith) in
          let gates : get_or content gate 0 ≡ get_or old gate 0 =
          sym (get_or-take (gate + 1) content gate 0 (omega arith)) ∙ ap (λ (l : List ℕ). get_or l gate 0) same.before ∙ get_or-take (gate + 1) old gate 0 (omega arith) in
          inl (holds_closed content fronts same.same_length (λ is. gate_closed (sym gates ∙ is)));
    }
    before_or_after content (inr (value, is)) = subst (IsLeftByAppend old place bodies body) (sym is) (record { outside = gated_outside value; holds = holds_gated value })

    -- an append that is done
    pub after : (new : List ℕ) (next : ℕ) → new ≡ gated open_gate → next ≡ place.next + 5 + length body → IsAppended old place bodies body new (record place { next = next })
    after new next is moved = subst (λ (l : List ℕ). IsAppended old place bodies body l (record place { next = next })) (sym is) (record {
      outside = gated_outside open_gate;
      stands = record {
        holds = holds_open;
        next = omega (arith, moved, stands.next, ap length (open_records-push bodies body), length-append (open_records bodies) (open_record body), length-frame body);
      };
    })
