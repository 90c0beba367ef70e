-- A board that keeps of each command only what was taken moves as one that keeps the commands too.
use Rattle.std.proofs.Common.{◌≡◌, ℕ, zero, suc, ◌+◌, List, [], ◌∷◌, ◌++◌, take, drop, Some, refl, sym, ap, ◌∙◌, arith}
use Rattle.std.specs.Prelude.{◌&&◌, nat_lt, nat_le}
use Rattle.std.proofs.lemmas.List.{length-map, map-append, take-map, drop-map}
use Rattle.revision.specs.Command.{Taken, Command}
use Rattle.revision.specs.State.{State, grown, fold}
use Rattle.revision.specs.Acceptance.{Answer, Takes, Repeats, Refuses, TakenAt, AgainAt, answer}
use Rattle.world.specs.Progress.{Progress, submitted_by, ticket_by}
use Rattle.world.specs.World.{Entry, entry_of}
use Rattle.world.specs.Alike.{progress_of, SameProgress, BatchGoesOn}

answered : (board : Progress Entry) (command : Command) (answer : Answer) → submitted_by (λ (t : Taken). t) (progress_of board) answer ≡ progress_of (submitted_by (entry_of command) board answer)
answered board command (Takes taken) = λ i. record {
  start = board.start;
  order = sym (map-append (λ (e : Entry). e.taken) board.order (entry_of command taken ∷ [])) i;
  state = grown board.state taken;
  taken = board.taken;
  settled = board.settled;
}
answered board command (Repeats revision) = refl
answered board command (Refuses refusal) = refl

ticketed : (board : Progress Entry) (command : Command) (answer : Answer) → ticket_by (progress_of board) command answer ≡ ticket_by board command answer
ticketed board command (Takes taken) = λ i. Some (record { command = command; reply = TakenAt taken.revision; length = length-map board.order (λ (e : Entry). e.taken) i + 1 })
ticketed board command (Repeats revision) = λ i. Some (record { command = command; reply = AgainAt revision; length = length-map board.order (λ (e : Entry). e.taken) i })
ticketed board command (Refuses refusal) = refl

pub same_progress : SameProgress
same_progress board = record {
  command = λ c. answered board c (answer board.state c);
  ticket = λ c. ticketed board c (answer board.state c);
  may_take = λ count. ap (λ n. nat_lt 0 count && nat_le (board.taken + count) n) (length-map board.order (λ (e : Entry). e.taken));
  batch = λ count. ap (take count) (drop-map (λ (e : Entry). e.taken) board.taken board.order) ∙ take-map (λ (e : Entry). e.taken) count (drop board.taken board.order);
  taking = λ count. refl;
  may_settle = λ count told. refl;
  settling = λ count. refl;
  publishing = λ seen. ap (drop seen) (take-map (λ (e : Entry). e.taken) board.taken board.order) ∙ drop-map (λ (e : Entry). e.taken) seen (take board.taken board.order);
  acknowledging = λ t. refl;
}

fold-taken : (state : State) (n count : ℕ) (commands : List Taken) → fold state (take (n + count) commands) ≡ fold (fold state (take n commands)) (take count (drop n commands))
fold-taken state zero count commands = ap (λ k. fold state (take k commands)) none
  where
    none : 0 + count ≡ count
    none = omega arith
fold-taken state (suc n) count [] = ap (fold state) (nothing (suc n + count)) ∙ sym (ap (fold state) (nothing count))
  where
    nothing : (k : ℕ) → take k [] ≡ ◌++◌ {A = Taken} [] []
    nothing zero = refl
    nothing (suc k) = refl
fold-taken state (suc n) count (first ∷ others) = ap (λ k. fold state (take k (first ∷ others))) one ∙ fold-taken (grown state first) n count others
  where
    one : suc n + count ≡ suc (n + count)
    one = omega arith

pub batch_goes_on : BatchGoesOn
batch_goes_on board count = fold-taken board.start board.taken count board.order
