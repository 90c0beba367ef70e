-- The first record of bytes that hold bodies.
use Rattle.std.proofs.Common.{◌≡◌, ◌⊎◌, ⊎_elim, ℕ, ◌≤◌, ◌<◌, List, [], ◌∷◌, ◌++◌, length, take, drop, get_or, refl, sym, ◌∙◌, ap, subst, arith, append_assoc, length-append}
use Rattle.std.specs.List.{AllByRecursion}
use Rattle.std.specs.Int.{w32, from_le_bytes}
use Rattle.std.proofs.lemmas.Nat.{from_le_bytes-to_le_bytes_4}
use Rattle.std.proofs.lemmas.List.{take_at, drop_at}
use Rattle.journal.specs.Area.{open_gate, open_record, open_records, IsBody, HoldsBodies}
use Rattle.journal.proofs.Areas.{length-frame}

-- the first body, and bytes that hold the others
pub record HoldsFirst (body : List ℕ) (others : List (List ℕ)) (bytes : List ℕ) : Type 0 where
  pub is_body : IsBody body
  pub rest : List ℕ
  pub split : bytes ≡ open_record body ++ rest
  pub holds : HoldsBodies others rest

pub holds_first : (body : List ℕ) (others : List (List ℕ)) (bytes : List ℕ) → HoldsBodies (body ∷ others) bytes → HoldsFirst body others bytes
holds_first body others bytes holds = record {
  is_body = holds.each.0;
  rest = open_records others ++ holds.gate ∷ holds.behind;
  split = holds.split ∙ append_assoc (open_record body) (open_records others) (holds.gate ∷ holds.behind);
  holds = record { gate = holds.gate; behind = holds.behind; split = refl; closed = holds.closed; each = holds.each.1 };
}

-- some byte has to be there, for the gate
pub holds_some : (bodies : List (List ℕ)) (bytes : List ℕ) → HoldsBodies bodies bytes → 0 < length bytes
holds_some bodies bytes holds = omega (arith, ap length holds.split, length-append (open_records bodies) (holds.gate ∷ holds.behind))

-- where the gate is open there is a first body
pub holds_none : (bytes : List ℕ) → get_or bytes 0 0 ≡ open_gate → ¬ HoldsBodies [] bytes
holds_none bytes is_open holds = holds.closed (sym (ap (λ (l : List ℕ). get_or l 0 0) holds.split) ∙ is_open)

-- the four bytes behind the gate are the length of the first body, and then it comes
length_read : (body rest : List ℕ) (n : ℕ) → IsBody body
    → n ≡ from_le_bytes w32 (get_or (open_record body ++ rest) 1 0 ∷ get_or (open_record body ++ rest) 2 0 ∷ get_or (open_record body ++ rest) 3 0 ∷ get_or (open_record body ++ rest) 4 0 ∷ []) → n ≡ length body
length_read body rest n is_body read = read ∙ from_le_bytes-to_le_bytes_4 (length body) is_body.short

module _ (bytes : List ℕ) (is_open : get_or bytes 0 0 ≡ open_gate) where
  -- no length that is 0 or passes the end
  pub not_damaged : (n : ℕ) → n ≡ from_le_bytes w32 (get_or bytes 1 0 ∷ get_or bytes 2 0 ∷ get_or bytes 3 0 ∷ get_or bytes 4 0 ∷ [])
      → (n ≡ 0) ⊎ (length (drop 5 bytes) ≤ n) → (bodies : List (List ℕ)) → ¬ HoldsBodies bodies bytes
  not_damaged n read bad [] holds = holds_none bytes is_open holds
  not_damaged n read bad (body ∷ others) holds =
      let first = holds_first body others bytes holds in
      let is : n ≡ length body = length_read body first.rest n first.is_body (read ∙ ap (λ (l : List ℕ). from_le_bytes w32 (get_or l 1 0 ∷ get_or l 2 0 ∷ get_or l 3 0 ∷ get_or l 4 0 ∷ [])) first.split) in
      let behind : drop 5 bytes ≡ body ++ first.rest = ap (λ (l : List ℕ). drop 5 l) first.split in
      let some = first.is_body.some in
      let more = holds_some others first.rest first.holds in
      ⊎_elim (λ zero. omega (arith, is, zero, some)) (λ long. omega (arith, is, long, more, ap length behind, length-append body first.rest)) bad

  -- nor fewer bytes than a length has
  pub not_short : length bytes < 5 → (bodies : List (List ℕ)) → ¬ HoldsBodies bodies bytes
  not_short short [] holds = holds_none bytes is_open holds
  not_short short (body ∷ others) holds =
      let first = holds_first body others bytes holds in
      absurd (omega (arith, short, ap length first.split, length-append (open_record body) first.rest, length-frame body))

-- No record begins another.
pub entry_same : (p b x y : List ℕ) → IsBody p → IsBody b → open_record p ++ x ≡ open_record b ++ y → (p ≡ b) × (x ≡ y)
entry_same p b x y is_p is_b same =
    let lens : length p ≡ length b =
    sym (from_le_bytes-to_le_bytes_4 (length p) is_p.short)
    ∙ ap (λ (l : List ℕ). from_le_bytes w32 (get_or l 1 0 ∷ get_or l 2 0 ∷ get_or l 3 0 ∷ get_or l 4 0 ∷ [])) same
    ∙ from_le_bytes-to_le_bytes_4 (length b) is_b.short in
    let tails : p ++ x ≡ b ++ y = ap (λ (l : List ℕ). drop 5 l) same in (
      sym (take_at p x (length p) refl) ∙ ap (λ (l : List ℕ). take (length p) l) tails ∙ take_at b y (length p) (sym lens),
      sym (drop_at p x (length p) refl) ∙ ap (λ (l : List ℕ). drop (length p) l) tails ∙ drop_at b y (length p) (sym lens),
    )

-- bytes that hold bodies hold, behind records that stand at their front, bodies too
pub holds_behind : (front bodies : List (List ℕ)) (rest : List ℕ) → AllByRecursion IsBody front → HoldsBodies bodies (open_records front ++ rest) → (others : List (List ℕ)) × HoldsBodies others rest
holds_behind [] bodies rest each holds = (bodies, holds)
holds_behind (p ∷ front) [] rest each holds = absurd (holds_none _ refl holds)
holds_behind (p ∷ front) (b ∷ bodies) rest each holds =
    let first = holds_first b bodies _ holds in
    let same = entry_same p b (open_records front ++ rest) first.rest each.0 first.is_body (sym (append_assoc (open_record p) (open_records front) rest) ∙ first.split) in
    holds_behind front bodies rest each.1 (subst (HoldsBodies bodies) (sym same.1) first.holds)

-- Bytes hold one list of bodies at most.
pub one_list : (a b : List (List ℕ)) (bytes : List ℕ) → HoldsBodies a bytes → HoldsBodies b bytes → a ≡ b
one_list [] [] bytes x y = refl
one_list [] (b ∷ bs) bytes x y =
    let first = holds_first b bs bytes y in
    absurd (holds_none bytes (ap (λ (l : List ℕ). get_or l 0 0) first.split) x)
one_list (a ∷ more) [] bytes x y =
    let first = holds_first a more bytes x in
    absurd (holds_none bytes (ap (λ (l : List ℕ). get_or l 0 0) first.split) y)
one_list (a ∷ more) (b ∷ bs) bytes x y =
    let first = holds_first a more bytes x in
    let second = holds_first b bs bytes y in
    let same = entry_same a b first.rest second.rest first.is_body second.is_body (sym first.split ∙ second.split) in
    let others : more ≡ bs = one_list more bs first.rest first.holds (subst (HoldsBodies bs) (sym same.1) second.holds) in
    cc
