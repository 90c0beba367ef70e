-- How a promise about a crash at any moment continues over the calls of a device.
use Rattle.std.proofs.Common.{◌≡◌, ℕ, ◌+◌, ◌-◌, ◌≤◌, ◌<◌, List, [], ◌∷◌, ◌++◌, length, take, get_or, refl, sym, ◌∙◌, ap, subst, arith, append_assoc, length-append}
use Rattle.std.proofs.lemmas.List.Elements.{All-nil, All-cons, All-append}
use Rattle.std.proofs.lemmas.List.{take_at}
use Rattle.disk.specs.Device.{State, History, MayLeave, SameOutside, IsWrite, IsSync, IsAtMostOneStep, NoStep, OneStep}
use Rattle.disk.specs.Crash.{LeavesIn, Leaves, LeftSince}
use Rattle.disk.proofs.Contents.{leaves_seen, synced_leaves, leaves_opened}

-- A run begins in a synced state whose bytes have P.
pub begins : {P : List ℕ → Type 0} (at_start : History) → at_start.now.unsynced ≡ [] → P at_start.now.seen → Leaves P at_start at_start
begins {P} at_start synced has = record {
  passed = [];
  since = refl;
  each = All-nil (LeavesIn P);
  last = λ content left. subst P (sym (synced_leaves at_start.now content synced left)) has;
}

-- Or in any state, if each content that a crash may leave there has P.
pub begins_anywhere : {P : List ℕ → Type 0} (at_start : History) → LeavesIn P at_start.now → Leaves P at_start at_start
begins_anywhere {P} at_start has = record { passed = []; since = refl; each = All-nil (LeavesIn P); last = has }

-- a call more: nothing changed, or the state that it leaves keeps P
goes_on : {P : List ℕ → Type 0} {Step : State → State → Type 0} {old mid new : History} → Leaves P old mid → IsAtMostOneStep Step mid new → (Step mid.now new.now → LeavesIn P new.now) → Leaves P old new
goes_on {P} {Step} {old} {mid} {new} so_far (NoStep same) keeps = subst (λ (h : History). Leaves P old h) (sym same) so_far
goes_on {P} {Step} {old} {mid} {new} so_far (OneStep moved step) keeps = record {
  passed = mid.now ∷ so_far.passed;
  since = moved ∙ ap (λ (states : List State). mid.now ∷ states) so_far.since;
  each = All-cons (LeavesIn P) mid.now so_far.passed so_far.last so_far.each;
  last = keeps step;
}

-- A write, good or not: what might be left before it, with any bytes in its range, has P.
pub goes_on_write : {P : List ℕ → Type 0} {old mid new : History} {at count : ℕ} → Leaves P old mid → IsAtMostOneStep (IsWrite at count) mid new → at + count ≤ length mid.now.seen
    → ((before content : List ℕ) → MayLeave mid.now before → SameOutside at count before content → P content) → Leaves P old new
goes_on_write {P} {old} {mid} {new} {at} {count} so_far time fits has = goes_on so_far time (λ opens content left.
    let was = leaves_opened at count mid.now new.now content fits opens left in
    has was.0 content was.1 was.2)

-- A write elsewhere: what has the property keeps it, whatever stands in the range.
pub goes_on_write_elsewhere : {P : List ℕ → Type 0} {old mid new : History} {at count : ℕ} → Leaves P old mid → IsAtMostOneStep (IsWrite at count) mid new → at + count ≤ length mid.now.seen
    → ((before content : List ℕ) → P before → SameOutside at count before content → P content) → Leaves P old new
goes_on_write_elsewhere {P} {old} {mid} {new} {at} {count} so_far time fits keeps = goes_on_write so_far time fits (λ before content left. keeps before content (so_far.last before left))

-- The same from a synced state: there the bytes before the write are those that a read gives.
pub goes_on_first_write : {P : List ℕ → Type 0} {old mid new : History} {at count : ℕ} → Leaves P old mid → mid.now.unsynced ≡ [] → IsAtMostOneStep (IsWrite at count) mid new → at + count ≤ length mid.now.seen
    → ((content : List ℕ) → SameOutside at count mid.now.seen content → P content) → Leaves P old new
goes_on_first_write {P} {old} {mid} {new} {at} {count} so_far synced time fits has =
    goes_on_write so_far time fits (λ before content left same.
    has content (subst (λ (bytes : List ℕ). SameOutside at count bytes content) (synced_leaves mid.now before synced left) same))

-- A sync, good or not.
pub goes_on_sync : {P : List ℕ → Type 0} {old mid new : History} → Leaves P old mid → IsAtMostOneStep IsSync mid new → Leaves P old new
goes_on_sync {P} {old} {mid} {new} so_far time = goes_on so_far time (λ closes content left.
    subst P (sym (synced_leaves new.now content closes.unsynced left ∙ closes.seen)) (so_far.last mid.now.seen (leaves_seen mid.now)))

-- A read.
pub goes_on_read : {P : List ℕ → Type 0} {old mid new : History} → Leaves P old mid → new.now.seen ≡ mid.now.seen → new.now.unsynced ≡ mid.now.unsynced → new.past ≡ mid.past → Leaves P old new
goes_on_read {P} {old} {mid} {new} so_far seen unsynced past =
    let same : mid ≡ new = λ i. record { now = record { seen = sym seen i; unsynced = sym unsynced i }; past = sym past i } in
    subst (λ (h : History). Leaves P old h) same so_far

-- One run after another.
pub goes_on_run : {P : List ℕ → Type 0} {old mid new : History} → Leaves P old mid → Leaves P mid new → Leaves P old new
goes_on_run {P} {old} {mid} {new} first second = record {
  passed = second.passed ++ first.passed;
  since = second.since ∙ ap (λ (states : List State). second.passed ++ states) first.since ∙ sym (append_assoc second.passed first.passed old.past);
  each = All-append (LeavesIn P) second.passed first.passed second.each first.each;
  last = second.last;
}

-- What has P has Q.
pub leaves_map : {P Q : List ℕ → Type 0} {old new : History} → ((content : List ℕ) → P content → Q content) → Leaves P old new → Leaves Q old new
leaves_map {P} {Q} {old} {new} implies run = record {
  passed = run.passed;
  since = run.since;
  each = λ k d inside content left. implies content (run.each k d inside content left);
  last = λ content left. implies content (run.last content left);
}

-- By the clock: what a crash at the moment of the old device or later might have left.
pub leaves_since : {P : List ℕ → Type 0} {old new : History} → Leaves P old new → (content : List ℕ) → LeftSince new (length old.past) content → P content
leaves_since {P} {old} {new} run content left = each-state left.0 left.1 left.2 left.3 left.4
  where
    states : take (length new.past + 1 - length old.past) (new.now ∷ new.past) ≡ new.now ∷ run.passed
    states =
        ap (λ (l : List State). take (length new.past + 1 - length old.past) (new.now ∷ l)) run.since
        ∙ take_at (new.now ∷ run.passed) old.past (length new.past + 1 - length old.past) (omega (arith, ap length run.since, length-append run.passed old.past))

    all : (k : ℕ) (d : State) → k < length (new.now ∷ run.passed) → LeavesIn P (get_or (new.now ∷ run.passed) k d)
    all = All-cons (LeavesIn P) new.now run.passed run.last run.each

    each-state : (k : ℕ) (state : State) → k < length (take (length new.past + 1 - length old.past) (new.now ∷ new.past)) → get_or (take (length new.past + 1 - length old.past) (new.now ∷ new.past)) k state ≡ state → MayLeave state content → P content
    each-state k state inside is may =
        let in_passed : k < length (new.now ∷ run.passed) = omega (arith, ap length states) in
        let same : get_or (new.now ∷ run.passed) k state ≡ state = sym (ap (λ (l : List State). get_or l k state) states) ∙ is in
        all k state in_passed content (subst (λ (s : State). MayLeave s content) (sym same) may)
