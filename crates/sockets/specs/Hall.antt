-- Which hall a guestbook is of.
use Rattle.std.specs.Prelude.{◌≡◌}
use Rattle.sockets.specs.declared.hall.Hall.{Hall}
use Rattle.sockets.specs.declared.hall.Guestbook.{Guestbook}

-- the guests of this hall are counted by the ledger of this guestbook
abbrev pub IsGuestbookOf : {G : Type 0} → Hall → Guestbook G → Type 0
IsGuestbookOf hall guestbook = guestbook.hall.value.ended.id ≡ hall.ended.id
