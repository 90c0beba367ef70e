-- The four calls of a write behind a gate, one after another.
use Rattle.std.proofs.Common.{◌≡◌, inl, inr, ℕ, ◌+◌, ◌≤◌, ◌<◌, List, [], ◌∷◌, ◌++◌, length, take, drop, get_or, refl, sym, ◌∙◌, ap, subst, arith, take-append-drop}
use Rattle.std.proofs.lemmas.List.{drop_more}
use Rattle.disk.specs.Device.{History, overwritten, SameOutside, IsWrite, IsSync, IsAtMostOneStep}
use Rattle.disk.specs.Crash.{Leaves}
use Rattle.disk.proofs.CallerLemmas.{length_overwritten, begins, goes_on_first_write, goes_on_sync}
use Rattle.journal.specs.Area.{IsGated}
pub use Rattle.disk.proofs.CallerLemmas.{one_told as one_more}

-- A run that has come to rest: a crash at any moment of it left P, a read gives these bytes, and no range is unsynced.
pub record Rests (P : List ℕ → Type 0) (old new : History) (bytes : List ℕ) : Type 0 where
  pub leaves : Leaves P old new
  pub seen : new.now.seen ≡ bytes
  pub synced : new.now.unsynced ≡ []

rests_first : {P : List ℕ → Type 0} (at_start : History) → at_start.now.unsynced ≡ [] → P at_start.now.seen → Rests P at_start at_start at_start.now.seen
rests_first at_start synced has = record { leaves = begins at_start synced has; seen = refl; synced = synced }

-- A write on what rests, good or not.
rests_write : {P : List ℕ → Type 0} {old mid new : History} {bytes : List ℕ} {at count : ℕ} → Rests P old mid bytes → IsAtMostOneStep (IsWrite at count) mid new → at + count ≤ length bytes
    → ((content : List ℕ) → SameOutside at count bytes content → P content) → Leaves P old new
rests_write {P} {old} {mid} {new} {bytes} {at} {count} rests time fits has =
    goes_on_first_write rests.leaves rests.synced time (omega (arith, fits, ap (length {A = ℕ}) rests.seen)) (λ content same.
    has content (subst (λ (l : List ℕ). SameOutside at count l content) rests.seen same))

-- A good sync after writes that were good.
rests_sync : {P : List ℕ → Type 0} {old written new : History} (bytes : List ℕ) → Leaves P old written → written.now.seen ≡ bytes
    → IsAtMostOneStep IsSync written new → new.now.seen ≡ written.now.seen → new.now.unsynced ≡ [] → Rests P old new bytes
rests_sync bytes leaves wrote time seen synced = record { leaves = goes_on_sync leaves time; seen = seen ∙ wrote; synced = synced }

-- A good write on what rests, and a good sync.
rests_next : {P : List ℕ → Type 0} {old mid written new : History} {bytes : List ℕ} (at : ℕ) (put : List ℕ) → Rests P old mid bytes → Leaves P old written → written.now.seen ≡ overwritten mid.now.seen at put
    → IsAtMostOneStep IsSync written new → new.now.seen ≡ written.now.seen → new.now.unsynced ≡ [] → Rests P old new (overwritten bytes at put)
rests_next {bytes = bytes} at put rests leaves wrote time seen synced = rests_sync (overwritten bytes at put) leaves (wrote ∙ ap (λ (l : List ℕ). overwritten l at put) rests.seen) time seen synced

-- bytes that agree but for one place are the old ones with a byte put there
pub one_byte : (at : ℕ) (old new : List ℕ) → at < length old → SameOutside at 1 old new → new ≡ overwritten old at (get_or new at 0 ∷ [])
one_byte at old new inside same =
    sym (take-append-drop at new)
    ∙ ap (λ (l : List ℕ). l ++ drop at new) same.before
    ∙ ap (λ (l : List ℕ). take at old ++ l) (drop_more new at 0 (omega (arith, same.same_length)) ∙ ap (λ (l : List ℕ). get_or new at 0 ∷ l) same.after)

module _ (gate : ℕ) (bytes old : List ℕ) (fits : gate + 1 + length bytes ≤ length old) where
  abbrev P : List ℕ → Type 0
  P = IsGated gate bytes old

  -- the bytes with those behind the gate
  abbrev staged : List ℕ
  staged = overwritten old (gate + 1) bytes

  -- before the first call
  pub at_first : (begin : History) → begin.now.seen ≡ old → begin.now.unsynced ≡ [] → Rests P begin begin old
  at_first begin seen synced =
      let same : P begin.now.seen = subst P (sym seen) (inl (record { same_length = refl; before = refl; after = refl })) in
      subst (λ (l : List ℕ). Rests P begin begin l) seen (rests_first begin synced same)

  -- the write behind the gate
  pub behind : (begin written : History) → begin.now.seen ≡ old → begin.now.unsynced ≡ [] → IsAtMostOneStep (IsWrite (gate + 1) (length bytes)) begin written → Leaves P begin written
  behind begin written seen synced time = rests_write (at_first begin seen synced) time fits (λ content same. inl same)

  -- and synced
  pub kept : (begin written synced : History) → begin.now.seen ≡ old → begin.now.unsynced ≡ [] → IsAtMostOneStep (IsWrite (gate + 1) (length bytes)) begin written
      → written.now.seen ≡ overwritten begin.now.seen (gate + 1) bytes → IsAtMostOneStep IsSync written synced → synced.now.seen ≡ written.now.seen → synced.now.unsynced ≡ [] → Rests P begin synced staged
  kept begin written synced seen rest time wrote syncs same closed =
      rests_next (gate + 1) bytes (at_first begin seen rest) (behind begin written seen rest time) wrote syncs same closed

  -- the gate's write
  pub opened : (begin synced written : History) → Rests P begin synced staged → IsAtMostOneStep (IsWrite gate 1) synced written → Leaves P begin written
  opened begin synced written rests time =
      let long : length staged ≡ length old = length_overwritten old (gate + 1) bytes fits in
      rests_write rests time (omega (arith, fits, long)) (λ content same.
      inr (get_or content gate 0, one_byte gate staged content (omega (arith, fits, long)) same))
