-- What a byte makes of a line, and what text does that is taken at once.
use Rattle.std.specs.Prelude.{◌⊎◌, ◌==◌, min}
use Rattle.std.proofs.Common.{Bool, true, false, nat_lt, length, take, drop, slice_index, ◌≡◌, ◌≢◌, ◌≤◌, ◌<◌, ◌+◌, ◌-◌, ◌++◌, ℕ, zero, suc, List, [], ◌∷◌, Some, None, refl, sym, ap, subst, ◌∙◌, inl, inr, append_assoc, append-nil, length-append, arith}
use Rattle.std.proofs.lemmas.Bool.Decides.{nat_tests}
use Rattle.std.proofs.Math.Nat.{min-le_left, min-le_right}
use Rattle.std.proofs.lemmas.List.{take-append-drop, length-take-le}
use Rattle.session.specs.declared.line.Event.TheVariants.{More, TooLong}
use Rattle.session.specs.Line.{Partial, with_byte, HasNoEnd, RunsThrough, StopsAt, TakesText}

-- a line with room takes a byte of text
pub more_of : (front : List ℕ) (byte : ℕ) → byte ≢ 10 → length front < 65536 → with_byte (Some front) byte ≡ (More, Some (front ++ byte ∷ []))
more_of front byte inner short =
    let not_end : (byte == 10) ≡ false = grind (arith, nat_tests) in
    let not_full : (length front == 65536) ≡ false = grind (arith, nat_tests) in
    rw (not_end, not_full) refl

-- a full one gets too long by it
pub full_of : (front : List ℕ) (byte : ℕ) → byte ≢ 10 → length front ≡ 65536 → with_byte (Some front) byte ≡ (TooLong, None)
full_of front byte inner full =
    let not_end : (byte == 10) ≡ false = grind (arith, nat_tests) in
    let is_full : (length front == 65536) ≡ true = grind (arith, nat_tests) in
    rw (not_end, is_full) refl

-- and one that is dropped drops it
pub dropped_of : (byte : ℕ) → byte ≢ 10 → with_byte None byte ≡ (More, None)
dropped_of byte inner = let not_end : (byte == 10) ≡ false = grind (arith, nat_tests) in rw not_end refl

-- so is text
goes_on_dropped : (text : List ℕ) → HasNoEnd text → RunsThrough None text None
goes_on_dropped [] inner = refl
goes_on_dropped (byte ∷ bytes) inner = (None, dropped_of byte inner.0, goes_on_dropped bytes inner.1)

goes_on_within : (text front : List ℕ) → HasNoEnd text → length front + length text ≤ 65536 → RunsThrough (Some front) text (Some (front ++ text))
goes_on_within [] front inner room = ap (λ (l : List ℕ). Some l) (append-nil front)
goes_on_within (byte ∷ bytes) front inner room =
    let longer : length (front ++ byte ∷ []) + length bytes ≤ 65536 = omega (arith, length-append front (byte ∷ [])) in (
      Some (front ++ byte ∷ []),
      more_of front byte inner.0 (omega arith),
      subst (λ (l : List ℕ). RunsThrough (Some (front ++ byte ∷ [])) bytes (Some l)) (append_assoc front (byte ∷ []) bytes)
          (goes_on_within bytes (front ++ byte ∷ []) inner.1 longer),
    )

-- the bytes in front of the first line end are text
pub text_of : (piece : List ℕ) (count : ℕ) → ((i : ℕ) → i < count → slice_index piece i ≢ 10) → HasNoEnd (take count piece)
text_of [] zero inner = tt
text_of [] (suc count) inner = tt
text_of (byte ∷ bytes) zero inner = tt
text_of (byte ∷ bytes) (suc count) inner = (inner 0 (omega arith), text_of bytes count (λ i below. inner (suc i) (omega arith)))

-- what stands behind them
stops_at : (line : Partial) (piece : List ℕ) (count : ℕ)
    → (count < length piece → (slice_index piece count ≡ 10) ⊎ (with_byte line (slice_index piece count) ≡ (TooLong, None))) → StopsAt line (drop count piece)
stops_at line [] zero stops = tt
stops_at line [] (suc count) stops = tt
stops_at line (byte ∷ bytes) zero stops = stops (omega arith)
stops_at line (byte ∷ bytes) (suc count) stops = stops_at line bytes count (λ below. stops (omega arith))

module _ (piece : List ℕ) (count : ℕ) (within : count ≤ length piece) (inner : (i : ℕ) → i < count → slice_index piece i ≢ 10)
    (end : count < length piece → slice_index piece count ≡ 10) where
  -- text of a line that is dropped
  pub text_dropped : TakesText None piece None (drop count piece)
  text_dropped = record {
    text = take count piece;
    whole = sym (take-append-drop count piece);
    inner = text_of piece count inner;
    goes_on = goes_on_dropped (take count piece) (text_of piece count inner);
    stops = stops_at None piece count (λ below. inl (end below));
  }

  -- and as much of it as a line has room for
  module _ (bytes : List ℕ) (taken : ℕ) (short : length bytes ≤ 65536) (is : taken ≡ min count (65536 - length bytes)) where
    below_count : taken ≤ count
    below_count = omega (arith, is, min-le_left count (65536 - length bytes))

    room : length bytes + taken ≤ 65536
    room = omega (arith, is, min-le_right count (65536 - length bytes))

    inner_taken : (i : ℕ) → i < taken → slice_index piece i ≢ 10
    inner_taken i below = inner i (omega (arith, below_count))

    -- behind it the line ends, or is full
    stop : taken < length piece → (slice_index piece taken ≡ 10) ⊎ (with_byte (Some (bytes ++ take taken piece)) (slice_index piece taken) ≡ (TooLong, None))
    stop below = by_room (nat_lt taken count) refl where
      by_room : (b : Bool) → nat_lt taken count ≡ b → (slice_index piece taken ≡ 10) ⊎ (with_byte (Some (bytes ++ take taken piece)) (slice_index piece taken) ≡ (TooLong, None))
      by_room true less =
          let inside : taken < count = grind (arith, nat_tests) in
          let len = length-append bytes (take taken piece) in
          let front = length-take-le taken piece (omega arith) in
          let full : length bytes + taken ≡ 65536 = grind (arith, is) in
          inr (full_of (bytes ++ take taken piece) (slice_index piece taken) (inner taken inside) (omega (arith, len, front, full)))
      by_room false whole =
          let all : taken ≡ count = grind (arith, nat_tests, below_count) in
          inl (ap (slice_index piece) all ∙ end (subst (λ (n : ℕ). n < length piece) all below))

    pub text_within : TakesText (Some bytes) piece (Some (bytes ++ take taken piece)) (drop taken piece)
    text_within = record {
      text = take taken piece;
      whole = sym (take-append-drop taken piece);
      inner = text_of piece taken inner_taken;
      goes_on = goes_on_within (take taken piece) bytes (text_of piece taken inner_taken)
          (omega (arith, room, length-take-le taken piece (omega (arith, below_count))));
      stops = stops_at (Some (bytes ++ take taken piece)) piece taken stop;
    }
