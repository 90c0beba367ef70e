use Rattle.std.proofs.Common.{◌≡◌, ◌+◌, drop}
use Rattle.revision.specs.Past.{sources_after, changes_by}
use Rattle.revision.proofs.past.replaying.noted_all.Given as goal

-- what is noted comes to the same after those that are left
abbrev pub invariant-loop-i : goal.invariant-loop-i
invariant-loop-i l =
    sources_after (l.start + l.i) l.noted (drop l.i (changes_by l.takers l.deltas)) ≡ sources_after l.start l.sources (changes_by l.takers l.deltas)
