-- Which of a source's last numbers are answered as retries, computed: what comes of them is worked out by hand.
use Rattle.std.specs.Prelude.{◌≡◌, ℕ, true, None, [], ◌∷◌, refl}
use Rattle.refusal.specs.declared.Refusal.TheVariants.{OldNumber}
use Rattle.revision.specs.Command.{Delete, Command}
use Rattle.revision.specs.declared.step.Step.TheVariants.{Deletes}
use Rattle.revision.specs.State.{State}
use Rattle.revision.specs.Acceptance.{Repeats, Refuses, answer}
use Rattle.world.specs.World.{Entry}
use Rattle.server_threads.specs.Lives.{last_taken}

-- A store with one empty document, at revision 17. All of that was one source's, and its window has the numbers 2 to 17.
abbrev state : State
state = record {
  limits = record { docs = 2; sources = 4; weight = 10000; width = 237; keep = 2; retry = 8 };
  documents = record {
    name = 100 ∷ [];
    past = record {
      floor = 17;
      content = record { units = []; live = true };
      sources = record {
        entries = (97 ∷ [], record { number = 17; revisions = 2 ∷ 3 ∷ 4 ∷ 5 ∷ 6 ∷ 7 ∷ 8 ∷ 9 ∷ 10 ∷ 11 ∷ 12 ∷ 13 ∷ 14 ∷ 15 ∷ 16 ∷ 17 ∷ [] }) ∷ [];
        ascending = tt;
      };
      changes = [];
    };
  } ∷ [];
}

-- the source's command of a number
abbrev numbered : ℕ → Command
numbered number = record { name = 100 ∷ []; source = 97 ∷ []; number = number; action = Delete }

-- the last one that was taken
abbrev last : Entry
last = record {
  command = numbered 17;
  taken = record { document = 0; name = None; revision = 17; source = 97 ∷ []; number = 17; step = Deletes; delta = [] };
}

its_last : last_taken (numbered 2) (last ∷ []) ≡ 17
its_last = refl

-- Number 2 is among the last 16, since 17 is below 2 + 16: it is answered as the retry that it is.
among_the_last : answer state (numbered 2) ≡ Repeats 2
among_the_last = refl

-- Number 1 is the first that isn't.
behind_them : answer state (numbered 1) ≡ Refuses OldNumber
behind_them = refl
