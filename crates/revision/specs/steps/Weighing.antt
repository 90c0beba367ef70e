-- What a number more adds to the weight of a document's sources.
use Rattle.std.specs.Prelude.{ℕ, ◌≤◌, nat_lt, if◌then◌else◌, Option, Some, None, length}
use Rattle.revision.specs.Window.{longest, Window}
use Rattle.revision.specs.State.{Limits}

-- by the window that its source has: a source that is new, a number by which the window is longer, or nothing where its lowest number goes
abbrev pub more_weight : Limits → Option Window → ℕ
more_weight limits None = 64
more_weight limits (Some window) = if nat_lt (length window.revisions) longest then limits.retry else 0

-- a window that was found is no longer than it may be
abbrev pub Fits : Option Window → Type 0
Fits None = Unit {0}
Fits (Some window) = length window.revisions ≤ longest
