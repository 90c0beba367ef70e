-- How long a peer is idle.
use Rattle.std.specs.Prelude.{ℕ, ◌+◌, Bool, false, List, [], ◌∷◌, ◌==◌, ◌||◌, ◌&&◌, not, is_some, nat_lt, length, if◌then◌else◌}
use Rattle.session.specs.Session.{Session}

-- whether a line ends in these bytes
abbrev pub has_end : List ℕ → Bool
has_end [] = false
has_end (byte ∷ bytes) = (byte == 10) || has_end bytes

-- A session's peer isn't idle while it follows a document, nor where it has presented itself and these bytes of it end a line.
abbrev pub is_active : Session → List ℕ → Bool
is_active session bytes = not (length session.peer.subscriptions == 0) || (is_some session.peer.source && has_end bytes)

-- For how many waits, up to a limit, a peer has been idle after a read that brought these bytes to its session: none where it isn't, one more
-- where nothing came.
abbrev pub waited_after : Session → List ℕ → (limit waited : ℕ) → ℕ
waited_after session bytes limit waited =
    if is_active session bytes then 0
    else if (length bytes == 0) && nat_lt waited limit then waited + 1
    else waited
