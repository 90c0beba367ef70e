-- What an append to the newest segment's area makes of the table.
use Rattle.std.proofs.Common.{◌≡◌, ◌⊎◌, inl, inr, ⊎_elim, ℕ, ◌+◌, ◌-◌, ◌*◌, ◌≤◌, ◌<◌, false, Option, Some, None, List, [], ◌∷◌, ◌++◌, length, set, take, drop, refl, sym, ◌∙◌, ap, subst, arith}
use Rattle.std.proofs.lemmas.List.{get_or-set_same}
use Rattle.disk.specs.Device.{SameOutside}
use Rattle.disk.proofs.CallerLemmas.{same_outside_wider, same_outside_then}
use Rattle.journal.specs.Area.{HoldsBodies, Place, area_bytes, Stands, IsLeftByAppend as IsAreaLeft, IsAppended as IsAreaDone}
use Rattle.segments.specs.Slot.{Segment, HoldsSegment, HoldsSlot}
use Rattle.segments.specs.Numbers.{NumbersDiffer, IsNewest}
use Rattle.segments.specs.Table.{slot_place, slot_bytes, numbers_of, HoldsTable, IsAppended}
use Rattle.segments.specs.declared.ring.Ring.{Ring}
use Rattle.segments.specs.Ring.{known_numbers, ring_size, IsNewestArea, KnowsNewest, Fits, FitsNow, SamePlaces, HoldsInRing, IsReady, IsLeftReady, IsLeftByOpening, IsLeftByAppend, fits_newest}
use Rattle.segments.proofs.Slots.{area_part, area_written}
use Rattle.segments.proofs.Numbering.{same_number}
use Rattle.segments.proofs.Tables.{numbers_set, numbers_long, slot_there, kept, changed, within_ring}
use Rattle.segments.proofs.Rings.{fits_later}

module _ (old : List ℕ) (ring : Ring) (table : List (Option Segment)) (fits : Fits old ring table) (area : Place) (is : ring.newest ≡ Some area) where
  -- the area is the newest segment's
  pub known : IsNewestArea ring.at ring.size table area
  known = subst (λ (o : Option Place). KnowsNewest ring.at ring.size table o) is fits.newest

  place : ℕ
  place = slot_place ring.at ring.size known.slot

  abbrev pub bodies_there : List (List ℕ)
  bodies_there = known.segment.bodies

  there : known.slot < length table
  there = slot_there table known.slot known.segment known.has

  among : known.slot < length (known_numbers ring)
  among = omega (arith, there, ap length fits.numbers, numbers_long table)

  large : 256 ≤ ring.size
  large = ring.size_low

  held : HoldsSegment (slot_bytes ring.at ring.size old known.slot) known.segment
  held = subst (λ (o : Option Segment). HoldsSlot (slot_bytes ring.at ring.size old known.slot) o) known.has (fits.holds.each known.slot there)

  bytes : (content : List ℕ) → area_bytes area content ≡ take (ring.size - 9) (drop (slot_place ring.at ring.size known.slot + 9) content)
  bytes content = ap (λ n. take n (drop area.at content)) known.long ∙ ap (λ n. take (ring.size - 9) (drop n content)) known.begins

  -- it represents the segment's bodies
  pub stands : Stands old area known.segment.bodies
  stands = record {
    holds = subst (HoldsBodies known.segment.bodies) (sym (bytes old ∙ area_part (slot_place ring.at ring.size known.slot) ring.size old large)) held.bodies;
    next = known.next;
  }

  module _ (body content : List ℕ) (same : SameOutside area.at area.size old content) where
    behind_head : SameOutside (slot_place ring.at ring.size known.slot + 9) (ring.size - 9) old content
    behind_head = subst (λ n. SameOutside n (ring.size - 9) old content) known.begins (subst (λ n. SameOutside area.at n old content) known.long same)

    in_slot : SameOutside (slot_place ring.at ring.size known.slot) ring.size old content
    in_slot = same_outside_wider (slot_place ring.at ring.size known.slot) ring.size (slot_place ring.at ring.size known.slot + 9) (ring.size - 9) old content (omega arith) (omega (arith, large)) behind_head

    in_ring : SameOutside ring.at (ring_size ring) old content
    in_ring = within_ring ring.at ring.size known.slot (length (known_numbers ring)) old content among in_slot

    segment_now : (bodies : List (List ℕ)) → HoldsBodies bodies (area_bytes area content) → HoldsSegment (slot_bytes ring.at ring.size content known.slot) (record known.segment { bodies = bodies })
    segment_now bodies holds = area_written (slot_place ring.at ring.size known.slot) ring.size old content known.segment bodies large behind_head held (subst (HoldsBodies bodies) (bytes content) holds)

    -- without the body
    without_body : HoldsBodies known.segment.bodies (area_bytes area content) → HoldsInRing old ring table content
    without_body holds = record {
      outside = in_ring;
      holds = kept ring.at ring.size known.slot old content table fits.holds in_slot
          (subst (λ (o : Option Segment). HoldsSlot (slot_bytes ring.at ring.size content known.slot) o) (sym known.has) (segment_now known.segment.bodies holds));
    }

    abbrev longer : Segment
    longer = record known.segment { bodies = known.segment.bodies ++ body ∷ [] }

    abbrev table_now : List (Option Segment)
    table_now = set table known.slot (Some longer)

    same_numbers : numbers_of table_now ≡ numbers_of table
    same_numbers = numbers_set table known.slot (Some longer) ∙ same_number (numbers_of table) known.slot (Some known.segment.number) known.newest.has

    is_appended : IsAppended table body table_now
    is_appended = record { slot = known.slot; segment = known.segment; has = known.has; newest = known.newest; is = refl }

    -- with it
    with_body : HoldsBodies (known.segment.bodies ++ body ∷ []) (area_bytes area content) → HoldsTable ring.at ring.size content table_now
    with_body holds = changed ring.at ring.size known.slot old content table fits.holds in_slot (Some longer) there (segment_now (known.segment.bodies ++ body ∷ []) holds)
        (subst NumbersDiffer (sym same_numbers) fits.holds.differ)

  -- a crash within the area's append
  pub appending : (body content : List ℕ) → IsAreaLeft old area known.segment.bodies body content
      → HoldsInRing old ring table content ⊎ ((after : List (Option Segment)) × IsAppended table body after × HoldsInRing old ring after content)
  appending body content left = ⊎_elim
      (λ holds. inl (without_body body content left.outside holds))
      (λ holds. inr (table_now body content left.outside, is_appended body content left.outside, record { outside = in_ring body content left.outside; holds = with_body body content left.outside holds }))
      left.holds

  -- an append that is done
  pub appended_ring : (body new : List ℕ) (later : Ring) (after : Place) → IsAreaDone old area known.segment.bodies body new after → after.at ≡ area.at → after.size ≡ area.size
      → later.at ≡ ring.at → later.size ≡ ring.size → known_numbers later ≡ known_numbers ring → later.newest ≡ Some after
      → (table_after : List (Option Segment)) × IsAppended table body table_after × FitsNow old ring new later table_after
  appended_ring body new later after done same_at same_size at size numbers newest =
      let holds : HoldsBodies (known.segment.bodies ++ body ∷ []) (area_bytes area new) =
      subst (λ n. HoldsBodies (known.segment.bodies ++ body ∷ []) (take n (drop area.at new))) same_size (subst (λ n. HoldsBodies (known.segment.bodies ++ body ∷ []) (take after.size (drop n new))) same_at done.stands.holds) in
      let now = table_now body new done.outside in
      let same = same_numbers body new done.outside in (
        now,
        is_appended body new done.outside,
        record {
          outside = in_ring body new done.outside;
          fits = fits_later ring.at ring.size new later now (Some after) at size newest (with_body body new done.outside holds) (numbers ∙ fits.numbers ∙ sym same) (record {
            slot = known.slot;
            segment = longer body new done.outside;
            has = get_or-set_same table known.slot (Some (longer body new done.outside)) None there;
            newest = subst (λ (l : List (Option ℕ)). IsNewest l known.slot known.segment.number) (sym same) known.newest;
            begins = same_at ∙ known.begins;
            long = same_size ∙ known.long;
            next = done.stands.next;
          });
        },
      )

-- a change among the slots, and one more among them
module _ (old mid new : List ℕ) (before ring : Ring) (places : SamePlaces before ring) (first : SameOutside before.at (ring_size before) old mid) where
  same_size : ring_size ring ≡ ring_size before
  same_size = ap (λ n. n * ring.size) places.count ∙ ap (λ n. length (known_numbers before) * n) places.size

  outside_both : SameOutside ring.at (ring_size ring) mid new → SameOutside before.at (ring_size before) old new
  outside_both then = same_outside_then before.at (ring_size before) old mid new first
      (subst (λ n. SameOutside n (ring_size before) mid new) places.at (subst (λ n. SameOutside ring.at n mid new) same_size then))

  pub carried : (table : List (Option Segment)) → HoldsInRing mid ring table new → HoldsInRing old before table new
  carried table left = record {
    outside = outside_both left.outside;
    holds = subst (λ n. HoldsTable n before.size new table) places.at (subst (λ n. HoldsTable ring.at n new table) places.size left.holds);
  }

  pub fits_since : (later : Ring) (table : List (Option Segment)) → FitsNow mid ring new later table → FitsNow old before new later table
  fits_since later table now = record { outside = outside_both now.outside; fits = now.fits }

-- a crash before the append itself, or in it
pub left_ready : (old : List ℕ) (ring : Ring) (table : List (Option Segment)) (body content : List ℕ) → IsLeftReady old ring (length body) table content → IsLeftByAppend old ring table body content
left_ready old ring table body content (inl before) = inl before
left_ready old ring table body content (inr (ready, is, holds)) = inr (ready, is, inl holds)

pub left_appending : (old mid : List ℕ) (before ring : Ring) (table ready : List (Option Segment)) (body content : List ℕ) → IsReady before (length body) table ready → SamePlaces before ring
    → SameOutside before.at (ring_size before) old mid
    → (HoldsInRing mid ring ready content ⊎ ((after : List (Option Segment)) × IsAppended ready body after × HoldsInRing mid ring after content))
    → IsLeftByAppend old before table body content
left_appending old mid before ring table ready body content is places first (inl holds) = inr (ready, is, inl (carried old mid content before ring places first ready holds))
left_appending old mid before ring table ready body content is places first (inr (after, appended, holds)) =
    inr (ready, is, inr (after, appended, carried old mid content before ring places first after holds))

-- a crash while a slot is opened for the body
pub opening_ready : (old : List ℕ) (ring : Ring) (len : ℕ) (table : List (Option Segment)) → fits_newest ring len ≡ false → (content : List ℕ) → IsLeftByOpening old ring table content → IsLeftReady old ring len table content
opening_ready old ring len table full content (inl before) = inl before
opening_ready old ring len table full content (inr (after, opened, holds)) = inr (after, inr (full, opened), holds)
