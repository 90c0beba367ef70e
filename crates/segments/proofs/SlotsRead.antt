-- What is read of a slot: its head, and the bodies behind it.
use Rattle.std.proofs.Common.{◌≡◌, ◌≢◌, ℕ, ◌+◌, ◌-◌, ◌≤◌, ◌<◌, ◌^◌, Option, Some, None, List, take, drop, get_or, refl, sym, ◌∙◌, ap, subst, arith}
use Rattle.std.specs.Int.{w64, to_le_bytes, from_le_bytes}
use Rattle.std.proofs.lemmas.Nat.{from_le_bytes-to_le_bytes_8}
use Rattle.std.proofs.lemmas.List.{take-take, drop-take, get_or-take}
use Rattle.journal.specs.Area.{open_gate, HoldsBodies, Place, Stands}
use Rattle.journal.specs.declared.scan.ScanError.{ScanError}
use Rattle.journal.specs.declared.scan.ScanError.TheVariants as scan
use Rattle.journal.specs.Refusals.{refusal_of_scan}
use Rattle.refusal.specs.declared.Refusal.TheVariants.{Damaged}
use Rattle.segments.specs.Slot.{Segment, HoldsSegment, HoldsSlot}
use Rattle.segments.proofs.Slots.{area_part}

-- a scan that is refused as damaged found damage
pub damaged_of : (e : ScanError) → refusal_of_scan e ≡ Damaged → e ≡ scan.Damaged
damaged_of scan.Damaged told = refl
damaged_of scan.NoMemory told = absurd cc
damaged_of scan.Fault told = absurd cc

module _ (q size : ℕ) (content head : List ℕ) (large : 256 ≤ size) (read : head ≡ take 9 (drop q content)) where
  heads : take 9 (take size (drop q content)) ≡ head
  heads = take-take 9 size (drop q content) (omega (arith, large)) ∙ sym read

  pub gate_read : get_or (take size (drop q content)) 0 0 ≡ get_or head 0 0
  gate_read = sym (get_or-take 9 (take size (drop q content)) 0 0 (omega arith)) ∙ ap (λ (l : List ℕ). get_or l 0 0) heads

  number_read : take 8 (drop 1 (take size (drop q content))) ≡ take 8 (drop 1 head)
  number_read =
      let behind : take 8 (drop 1 (take size (drop q content))) ≡ drop 1 head = sym (drop-take 1 8 (take size (drop q content))) ∙ ap (λ (l : List ℕ). drop 1 l) heads in
      sym (take-take 8 8 (drop 1 (take size (drop q content))) (omega arith)) ∙ ap (λ (l : List ℕ). take 8 l) behind

  -- a slot whose gate isn't open holds nothing
  pub closed_read : get_or head 0 0 ≢ open_gate → HoldsSlot (take size (drop q content)) None
  closed_read shut = λ is. shut (sym gate_read ∙ is)

  module _ (number : ℕ) (gate : get_or head 0 0 ≡ open_gate) (spelled : take 8 (drop 1 head) ≡ to_le_bytes w64 number) where
    -- a number from 1 on, and an area that represents these bodies
    pub segment_read : (place : Place) (bodies : List (List ℕ)) → 1 ≤ number → number < 2 ^ 64 → Stands content place bodies → place.at ≡ q + 9 → place.size ≡ size - 9
        → HoldsSegment (take size (drop q content)) (record { number = number; bodies = bodies })
    segment_read place bodies from_one in_range stands begins long = record {
      gate = gate_read ∙ gate;
      number = number_read ∙ spelled;
      from_one = from_one;
      in_range = in_range;
      bodies = subst (HoldsBodies bodies)
          (ap (λ n. take n (drop place.at content)) long ∙ ap (λ n. take (size - 9) (drop n content)) begins ∙ area_part q size content large) stands.holds;
    }

    -- an open slot holds nothing where it holds no segment
    open_slot : ((segment : Segment) → ¬ HoldsSegment (take size (drop q content)) segment) → (x : Option Segment) → ¬ HoldsSlot (take size (drop q content)) x
    open_slot no_segment None holds = holds (gate_read ∙ gate)
    open_slot no_segment (Some segment) holds = no_segment segment holds

    -- a number 0
    pub number_damaged : number ≡ 0 → (x : Option Segment) → ¬ HoldsSlot (take size (drop q content)) x
    number_damaged is = open_slot (λ segment holds.
        let same : to_le_bytes w64 segment.number ≡ to_le_bytes w64 0 = sym holds.number ∙ number_read ∙ spelled ∙ ap (to_le_bytes w64) is in
        let zero_there : segment.number ≡ 0 =
        sym (from_le_bytes-to_le_bytes_8 segment.number holds.in_range) ∙ ap (λ (l : List ℕ). from_le_bytes w64 l) same ∙ from_le_bytes-to_le_bytes_8 0 (omega arith) in
        absurd (omega (arith, zero_there, holds.from_one)))

    -- an area that holds no bodies
    pub area_damaged : ((bodies : List (List ℕ)) → ¬ HoldsBodies bodies (take (size - 9) (drop (q + 9) content))) → (x : Option Segment) → ¬ HoldsSlot (take size (drop q content)) x
    area_damaged no_bodies = open_slot (λ segment holds. no_bodies segment.bodies (subst (HoldsBodies segment.bodies) (sym (area_part q size content large)) holds.bodies))
