-- An area that is read in pieces: what is known of it while a part is read.
use Rattle.std.proofs.Common.{◌≡◌, ◌⊎◌, ⊎_elim, inl, inr, ℕ, ◌+◌, ◌-◌, ◌≤◌, ◌<◌, List, [], ◌∷◌, ◌++◌, length, take, drop, get_or, sym, ◌∙◌, ap, subst, arith, append_assoc, length-append, length-drop}
use Rattle.std.specs.List.{AllByRecursion}
use Rattle.std.specs.Int.{w32, from_le_bytes}
use Rattle.std.proofs.lemmas.List.{get_or_append_left, length-take-le}
use Rattle.std.proofs.Math.Seq.{take-add}
use Rattle.journal.specs.Area.{open_gate, open_record, open_records, IsBody, HoldsBodies}
use Rattle.journal.specs.steps.Scanning.{BeginsClosed, IsNoFront}
use Rattle.journal.proofs.Areas.{open_records-push, length-frame}
use Rattle.journal.proofs.Records.{holds_behind, not_damaged, not_short}

-- an open record whose length is 0 or passes the end of the area
pub wrong_length : (bytes : List ℕ) (left n : ℕ) → 5 ≤ length bytes → get_or bytes 0 0 ≡ open_gate
    → n ≡ from_le_bytes w32 (get_or bytes 1 0 ∷ get_or bytes 2 0 ∷ get_or bytes 3 0 ∷ get_or bytes 4 0 ∷ [])
    → (n ≡ 0) ⊎ (left < 6 + n) → IsNoFront bytes left
wrong_length bytes left n long is_open read bad more total bodies =
    let all : List ℕ = bytes ++ more in
    let at : (i : ℕ) → i < length bytes → get_or all i 0 ≡ get_or bytes i 0 = λ i lt. get_or_append_left bytes more 0 i lt in
    let read_of_all : n ≡ from_le_bytes w32 (get_or all 1 0 ∷ get_or all 2 0 ∷ get_or all 3 0 ∷ get_or all 4 0 ∷ []) =
    rw (at 1 (omega arith), at 2 (omega arith), at 3 (omega arith), at 4 (omega arith)) read in
    let wrong : (n ≡ 0) ⊎ (length (drop 5 all) ≤ n) =
    ⊎_elim (λ zero. inl zero) (λ past. inr (omega (arith, past, total, length-drop 5 all, length-append bytes more))) bad in
    not_damaged all (at 0 (omega arith) ∙ is_open) n read_of_all wrong bodies

-- an open gate behind which no length fits
pub ends_early : (bytes : List ℕ) (left : ℕ) → 0 < length bytes → get_or bytes 0 0 ≡ open_gate → left < 5 → IsNoFront bytes left
ends_early bytes left some is_open short more total bodies holds =
    not_short (bytes ++ more) (get_or_append_left bytes more 0 0 some ∙ is_open) (omega (arith, short, total, length-append bytes more)) bodies holds

-- Bytes from an area's first one on were read up to some place: records of these bodies, and then these bytes, which are pending.
module _ (bytes : List ℕ) (bodies : List (List ℕ)) (pending : List ℕ) (next : ℕ) (split : take (next + length pending) bytes ≡ open_records bodies ++ pending) where
  -- a record at the front of what is pending is parted
  pub parted : (body : List ℕ) → pending ≡ open_record body ++ drop (5 + length body) pending
      → take (next + (5 + length body) + length (drop (5 + length body) pending)) bytes ≡ open_records (bodies ++ body ∷ []) ++ drop (5 + length body) pending
  parted body front =
      let rest : List ℕ = drop (5 + length body) pending in
      let long : length pending ≡ 5 + length body + length rest = omega (arith, ap length front, length-append (open_record body) rest, length-frame body) in
      let same : next + (5 + length body) + length rest ≡ next + length pending = omega (arith, long) in
      ap (λ k. take k bytes) same ∙ split ∙ ap (λ (l : List ℕ). open_records bodies ++ l) front
      ∙ sym (append_assoc (open_records bodies) (open_record body) rest) ∙ ap (λ (l : List ℕ). l ++ rest) (sym (open_records-push bodies body))

  -- further bytes are read
  pub read_on : (count : ℕ) (more : List ℕ) → length more ≡ length pending + count → more ≡ pending ++ take count (drop (next + length pending) bytes)
      → take (next + length more) bytes ≡ open_records bodies ++ more
  read_on count more long is =
      let read : ℕ = next + length pending in
      let piece : List ℕ = take count (drop read bytes) in
      let same : next + length more ≡ read + count = omega (arith, long) in
      ap (λ k. take k bytes) same ∙ take-add read count bytes ∙ ap (λ (l : List ℕ). l ++ piece) split
      ∙ append_assoc (open_records bodies) pending piece ∙ ap (λ (l : List ℕ). open_records bodies ++ l) (sym is)

  module _ (size : ℕ) (within : next + length pending ≤ size) (each : AllByRecursion IsBody bodies) where
    -- what isn't read yet
    abbrev unread : List ℕ
    unread = take (size - (next + length pending)) (drop (next + length pending) bytes)

    whole : take size bytes ≡ open_records bodies ++ (pending ++ unread)
    whole =
        let read : ℕ = next + length pending in
        let all : size ≡ read + (size - read) = omega (arith, within) in
        ap (λ k. take k bytes) all ∙ take-add read (size - read) bytes ∙ ap (λ (l : List ℕ). l ++ unread) split ∙ append_assoc (open_records bodies) pending unread

    -- a closed gate stands at the front
    pub closed : BeginsClosed pending → HoldsBodies bodies (take size bytes)
    closed front = record {
      gate = front.gate;
      behind = front.behind ++ unread;
      split = whole ∙ ap (λ (l : List ℕ). open_records bodies ++ (l ++ unread)) front.split;
      closed = front.closed;
      each = each;
    }

    -- nothing that may stand there does
    pub damaged : size ≤ length bytes → next ≤ size → IsNoFront pending (size - next) → (others : List (List ℕ)) → ¬ HoldsBodies others (take size bytes)
    damaged long inside no_front others holds =
        let behind = holds_behind bodies others (pending ++ unread) each (subst (HoldsBodies others) whole holds) in
        let read : ℕ = next + length pending in
        let left : length unread ≡ size - read = omega (arith, long, within, length-drop read bytes, length-take-le (size - read) (drop read bytes) (omega (arith, long, within, length-drop read bytes))) in
        no_front unread (omega (arith, left, within, inside)) behind.0 behind.1
