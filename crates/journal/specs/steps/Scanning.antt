-- What stands at the front of bytes of an area, as the loop over its pieces sees them.
use Rattle.std.specs.Prelude.{◌≡◌, ◌≢◌, ℕ, ◌+◌, ◌<◌, List, ◌∷◌, ◌++◌, length, drop}
use Rattle.journal.specs.Area.{open_gate, open_record, IsBody, HoldsBodies}
use Rattle.journal.specs.declared.scan.Front.{Front}
use Rattle.journal.specs.declared.scan.Front.TheVariants as front

-- a closed gate comes first
pub record BeginsClosed (bytes : List ℕ) : Type 0 where
  pub gate : ℕ
  pub behind : List ℕ
  pub split : bytes ≡ gate ∷ behind
  pub closed : gate ≢ open_gate

-- What was told of the front is there. The area has so many bytes from the front on, and all of them are read before it is told that
-- one is missing.
abbrev pub IsFront : List ℕ → ℕ → Front → Type 0
IsFront bytes left (front.Record body) =
    IsBody body.now × (bytes ≡ open_record body.now ++ drop (5 + length body.now) bytes) × (5 + length body.now < left)
IsFront bytes left front.Closed = BeginsClosed bytes
IsFront bytes left front.Short = length bytes < left

-- However the area continues behind the bytes, it holds no list of records.
abbrev pub IsNoFront : List ℕ → ℕ → Type 0
IsNoFront bytes left = (more : List ℕ) → length bytes + length more ≡ left → (bodies : List (List ℕ)) → ¬ HoldsBodies bodies (bytes ++ more)
