-- Schedules, computed. What comes of each is worked out by hand.
use Rattle.std.specs.Prelude.{◌≡◌, ℕ, zero, suc, ◌+◌, true, false, List, [], ◌∷◌, ◌++◌, length, map, refl, codes}
use Rattle.std.specs.Char.{encode_utf8}
use Rattle.std.specs.Char.Utf16.{utf16_chars}
use Rattle.refusal.specs.declared.Refusal.TheVariants.{TooOld, Deleted}
use Rattle.attributes.specs.Map.{empty, insert}
use Rattle.attributes.specs.Attributes.{changed_by}
use Rattle.delta.specs.Operation.{insert_text}
use Rattle.revision.specs.Command.{Action, Create, Edit, Delete, Command}
use Rattle.revision.specs.State.{State}
use Rattle.revision.specs.Acceptance.{Refuses, Reply, TakenAt, AgainAt, answer}
use Rattle.world.specs.Progress.{Ticket}
use Rattle.world.specs.Event.{Done, Failed, Stopped, Event, Submit, Take, Device, Publish, Settle, Ack, Compose, Crash, Open, Resend}
use Rattle.world.specs.World.{World, begun}
use Rattle.world.specs.Step.{may_leave, run}

-- a store without documents, where each would hold two revisions below its newest one
abbrev empty_store : State
empty_store = record { limits = record { docs = 2; sources = 4; weight = 1000; width = 237; keep = 2; retry = 8 }; documents = [] }

-- source a's commands to document d
abbrev ask : ℕ → Action → Command
ask number action = record { name = 100 ∷ []; source = 97 ∷ []; number = number; action = action }

abbrev create : Command
create = ask 1 (Create (insert_text (codes "z") empty ∷ []))

abbrev edit : ℕ → ℕ → Command
edit number base = ask number (Edit base (insert_text (codes "x") empty ∷ []))

abbrev after : List Event → World
after events = run (begun empty_store) events

-- what a ticket says: its reply, and the length that has to be settled
abbrev said : Ticket → Reply × ℕ
said ticket = (ticket.reply, ticket.length)

abbrev tickets_after : List Event → List (Reply × ℕ)
tickets_after events = map said (after events).tickets

abbrev acks_after : List Event → List (Reply × ℕ)
acks_after events = map said (after events).acks

-- the counts of a world: taken off, settled, shown, and the two lengths that a crash may leave
abbrev counts_after : List Event → List ℕ
counts_after events =
    let world = after events in
    world.board.taken ∷ world.board.settled ∷ length world.published ∷ world.without ∷ world.with_batch ∷ []

-- one command's way to its acknowledgement
abbrev written_once : List Event
written_once = Take 1 ∷ Device Done ∷ Publish ∷ Settle ∷ Ack 0 ∷ []

-- A retry of an edit that isn't settled waits for it: its ticket has length 1, and its acknowledgement is not possible yet.
abbrev retried : List Event
retried = Submit create ∷ Take 1 ∷ Resend create ∷ []

retry_waits : tickets_after retried ≡ (TakenAt 1, 1) ∷ (AgainAt 1, 1) ∷ []
unfolding utf16_chars encode_utf8 insert
retry_waits = refl

retry_is_not_acknowledged : acks_after (retried ++ Ack 1 ∷ []) ≡ []
unfolding utf16_chars encode_utf8 insert
retry_is_not_acknowledged = refl

-- A crash may lose the edit: then it is taken anew. Or it may leave it: then it is a retry.
lost_is_taken_anew : tickets_after (retried ++ Crash 0 ∷ Open 0 [] ∷ Resend create ∷ []) ≡ (TakenAt 1, 1) ∷ []
unfolding utf16_chars encode_utf8 insert
lost_is_taken_anew = refl

left_is_a_retry : tickets_after (retried ++ Crash 1 ∷ Open 1 (0 ∷ []) ∷ Resend create ∷ []) ≡ (AgainAt 1, 1) ∷ []
unfolding utf16_chars encode_utf8 insert
left_is_a_retry = refl

-- What was acknowledged stays: the only length that a crash may leave is 1.
acknowledged_stays : acks_after (Submit create ∷ written_once) ≡ (TakenAt 1, 1) ∷ []
unfolding utf16_chars encode_utf8 insert
acknowledged_stays = refl

nothing_is_lost : counts_after (Submit create ∷ written_once ++ Crash 0 ∷ []) ≡ 1 ∷ 1 ∷ 1 ∷ 1 ∷ 1 ∷ []
unfolding utf16_chars encode_utf8 insert
nothing_is_lost = refl

may_lose_nothing : may_leave (after (Submit create ∷ written_once)) 0 ≡ false
unfolding utf16_chars encode_utf8 insert
may_lose_nothing = refl

-- And the acknowledgement stays after a crash and an opening, with that of the retry behind it.
acknowledgements_outlive_a_crash : acks_after (Submit create ∷ written_once ++ Crash 1 ∷ Open 1 (0 ∷ []) ∷ []) ≡ (TakenAt 1, 1) ∷ []
unfolding utf16_chars encode_utf8 insert
acknowledgements_outlive_a_crash = refl

retry_is_acknowledged_after_a_crash :
    acks_after (Submit create ∷ written_once ++ Crash 1 ∷ Open 1 (0 ∷ []) ∷ Resend create ∷ Ack 0 ∷ []) ≡ (TakenAt 1, 1) ∷ (AgainAt 1, 1) ∷ []
unfolding utf16_chars encode_utf8 insert
retry_is_acknowledged_after_a_crash = refl

settled_is_a_retry : tickets_after (Submit create ∷ written_once ++ Crash 1 ∷ Open 1 (0 ∷ []) ∷ Resend create ∷ []) ≡ (AgainAt 1, 1) ∷ []
unfolding utf16_chars encode_utf8 insert
settled_is_a_retry = refl

-- Revisions 1 to 3 are acknowledged, and 3 is composed. An edit of base 1 is taken as revision 4, and its batch given up; the crash
-- leaves three commands. Opened with floor 3 its base is too old, and it was never acknowledged.
abbrev three_settled : List Event
three_settled = Submit create ∷ Submit (edit 2 1) ∷ Submit (edit 3 2) ∷ Take 3 ∷ Device Done ∷ Publish ∷ Settle ∷ Ack 0 ∷ Ack 1 ∷ Ack 2 ∷ Compose 0 3 ∷ []

abbrev fourth_given_up : List Event
fourth_given_up = three_settled ++ Submit (edit 4 1) ∷ Take 1 ∷ Device Stopped ∷ []

fourth_is_taken : tickets_after fourth_given_up ≡ (TakenAt 1, 1) ∷ (TakenAt 2, 2) ∷ (TakenAt 3, 3) ∷ (TakenAt 4, 4) ∷ []
unfolding utf16_chars encode_utf8 insert changed_by
fourth_is_taken = refl

fourth_is_not_acknowledged : acks_after (fourth_given_up ++ Ack 3 ∷ []) ≡ (TakenAt 1, 1) ∷ (TakenAt 2, 2) ∷ (TakenAt 3, 3) ∷ []
unfolding utf16_chars encode_utf8 insert changed_by
fourth_is_not_acknowledged = refl

fourth_is_too_old : answer (after (fourth_given_up ++ Crash 3 ∷ Open 3 (3 ∷ []) ∷ [])).board.state (edit 4 1) ≡ Refuses TooOld
unfolding utf16_chars encode_utf8 insert changed_by
fourth_is_too_old = refl

fourth_has_no_ticket : tickets_after (fourth_given_up ++ Crash 3 ∷ Open 3 (3 ∷ []) ∷ Resend (edit 4 1) ∷ []) ≡ []
unfolding utf16_chars encode_utf8 insert changed_by
fourth_has_no_ticket = refl

-- with a lower floor it is taken again, as the same revision
fourth_is_taken_again : tickets_after (fourth_given_up ++ Crash 3 ∷ Open 3 (1 ∷ []) ∷ Resend (edit 4 1) ∷ []) ≡ (TakenAt 4, 4) ∷ []
unfolding utf16_chars encode_utf8 insert changed_by
fourth_is_taken_again = refl

-- An event that isn't possible changes nothing: a settling before the batch is shown, a showing before it is written, a second batch
-- while one is being written, a composing of a revision that isn't written, an opening of a store that works, a floor that no
-- opening may give, and whatever comes between a crash and an opening.
settles_nothing : counts_after (Submit create ∷ Take 1 ∷ Device Done ∷ Settle ∷ []) ≡ 1 ∷ 0 ∷ 0 ∷ 1 ∷ 1 ∷ []
unfolding utf16_chars encode_utf8 insert
settles_nothing = refl

shows_nothing : counts_after (Submit create ∷ Take 1 ∷ Publish ∷ []) ≡ 1 ∷ 0 ∷ 0 ∷ 0 ∷ 1 ∷ []
unfolding utf16_chars encode_utf8 insert
shows_nothing = refl

takes_no_second : counts_after (Submit create ∷ Take 1 ∷ Submit (edit 2 1) ∷ Take 1 ∷ []) ≡ 1 ∷ 0 ∷ 0 ∷ 0 ∷ 1 ∷ []
unfolding utf16_chars encode_utf8 insert
takes_no_second = refl

composes_nothing : (after (Submit create ∷ Take 1 ∷ Compose 0 1 ∷ [])).composed ≡ []
unfolding utf16_chars encode_utf8 insert
composes_nothing = refl

opens_nothing : counts_after (Submit create ∷ Take 1 ∷ Device Done ∷ Open 1 (0 ∷ []) ∷ []) ≡ 1 ∷ 0 ∷ 0 ∷ 1 ∷ 1 ∷ []
unfolding utf16_chars encode_utf8 insert
opens_nothing = refl

opens_at_no_such_floor : (after (retried ++ Crash 1 ∷ Open 1 (1 ∷ []) ∷ [])).crashed ≡ true
unfolding utf16_chars encode_utf8 insert
opens_at_no_such_floor = refl

sends_nothing_while_stopped : tickets_after (retried ++ Crash 0 ∷ Submit create ∷ []) ≡ []
unfolding utf16_chars encode_utf8 insert
sends_nothing_while_stopped = refl

-- Any number of the sender's window is sent again, the one before its last one too; a number below that isn't.
sends_an_older_one : tickets_after (Submit create ∷ Submit (edit 2 1) ∷ Resend create ∷ []) ≡ (TakenAt 1, 1) ∷ (TakenAt 2, 2) ∷ (AgainAt 1, 2) ∷ []
unfolding utf16_chars encode_utf8 insert
sends_an_older_one = refl

-- so many edits, the first with the number above this one
abbrev edits : ℕ → ℕ → List Event
edits number zero = []
edits number (suc others) = Submit (edit (number + 1) number) ∷ edits (number + 1) others

sends_the_lowest : length (tickets_after (Submit create ∷ edits 1 15 ++ Resend create ∷ [])) ≡ 17
unfolding utf16_chars encode_utf8 insert
sends_the_lowest = refl

sends_none_below : length (tickets_after (Submit create ∷ edits 1 16 ++ Resend create ∷ [])) ≡ 17
unfolding utf16_chars encode_utf8 insert
sends_none_below = refl

-- After a failed batch the store is opened again, with or without it; tickets of before are gone.
tickets_are_gone : acks_after (Submit create ∷ Take 1 ∷ Device Failed ∷ Open 1 (0 ∷ []) ∷ Ack 0 ∷ []) ≡ []
unfolding utf16_chars encode_utf8 insert
tickets_are_gone = refl

failed_is_left : tickets_after (Submit create ∷ Take 1 ∷ Device Failed ∷ Open 1 (0 ∷ []) ∷ Resend create ∷ []) ≡ (AgainAt 1, 1) ∷ []
unfolding utf16_chars encode_utf8 insert
failed_is_left = refl

-- So it is after a batch that was given up, with no crash: the store is opened with its command, or without.
given_up_is_left : counts_after (Submit create ∷ Take 1 ∷ Device Stopped ∷ Open 1 (0 ∷ []) ∷ []) ≡ 1 ∷ 1 ∷ 1 ∷ 1 ∷ 1 ∷ []
unfolding utf16_chars encode_utf8 insert
given_up_is_left = refl

given_up_is_lost : counts_after (Submit create ∷ Take 1 ∷ Device Stopped ∷ Open 0 [] ∷ []) ≡ 0 ∷ 0 ∷ 0 ∷ 0 ∷ 0 ∷ []
unfolding utf16_chars encode_utf8 insert
given_up_is_lost = refl

given_up_is_taken_anew : tickets_after (Submit create ∷ Take 1 ∷ Device Stopped ∷ Open 0 [] ∷ Resend create ∷ []) ≡ (TakenAt 1, 1) ∷ []
unfolding utf16_chars encode_utf8 insert
given_up_is_taken_anew = refl

-- Two revisions are settled, and the second is composed. The document is deleted then, and the batch given up: a crash may lose the
-- deletion, which is taken anew then, or leave it, and then it is a retry.
abbrev deleted_given_up : List Event
deleted_given_up =
    Submit create ∷ Submit (edit 2 1) ∷ Take 2 ∷ Device Done ∷ Publish ∷ Settle ∷ Compose 0 2 ∷ Submit (ask 3 Delete) ∷ Take 1 ∷ Device Stopped ∷ []

deletion_is_lost : tickets_after (deleted_given_up ++ Crash 2 ∷ Open 2 (2 ∷ []) ∷ Resend (ask 3 Delete) ∷ []) ≡ (TakenAt 3, 3) ∷ []
unfolding utf16_chars encode_utf8 insert changed_by
deletion_is_lost = refl

deletion_is_left : tickets_after (deleted_given_up ++ Crash 3 ∷ Open 3 (3 ∷ []) ∷ Resend (ask 3 Delete) ∷ []) ≡ (AgainAt 3, 3) ∷ []
unfolding utf16_chars encode_utf8 insert changed_by
deletion_is_left = refl

-- no opening gives a floor below the deletion
opens_at_no_floor_below : (after (deleted_given_up ++ Crash 3 ∷ Open 3 (2 ∷ []) ∷ [])).crashed ≡ true
unfolding utf16_chars encode_utf8 insert changed_by
opens_at_no_floor_below = refl

edit_of_a_deleted_one : answer (after deleted_given_up).board.state (edit 4 2) ≡ Refuses Deleted
unfolding utf16_chars encode_utf8 insert changed_by
edit_of_a_deleted_one = refl

-- Created again it is the next revision, from which on it is held: an edit of one below is too old, at once and after an opening.
abbrev again : Command
again = ask 4 (Create (insert_text (codes "n") empty ∷ []))

abbrev created_again : List Event
created_again = Submit create ∷ Submit (edit 2 1) ∷ Submit (ask 3 Delete) ∷ Submit again ∷ Take 4 ∷ Device Done ∷ Publish ∷ Settle ∷ []

creation_again : tickets_after (created_again ++ Submit (edit 5 4) ∷ []) ≡ (TakenAt 1, 1) ∷ (TakenAt 2, 2) ∷ (TakenAt 3, 3) ∷ (TakenAt 4, 4) ∷ (TakenAt 5, 5) ∷ []
unfolding utf16_chars encode_utf8 insert changed_by
creation_again = refl

older_is_too_old : answer (after created_again).board.state (edit 5 2) ≡ Refuses TooOld
unfolding utf16_chars encode_utf8 insert changed_by
older_is_too_old = refl

older_is_too_old_after_a_crash : answer (after (created_again ++ Crash 4 ∷ Open 4 (4 ∷ []) ∷ [])).board.state (edit 5 2) ≡ Refuses TooOld
unfolding utf16_chars encode_utf8 insert changed_by
older_is_too_old_after_a_crash = refl

-- Source b edits document d, and source a creates document e: each source has numbers of its own in each document, and all commands
-- stand in one order. The first two are written in one batch. A retry of the first one waits for the third, which isn't.
abbrev edit_by_b : Command
edit_by_b = record { name = 100 ∷ []; source = 98 ∷ []; number = 1; action = Edit 1 (insert_text (codes "y") empty ∷ []) }

abbrev create_e : Command
create_e = record { name = 101 ∷ []; source = 97 ∷ []; number = 1; action = Create (insert_text (codes "z") empty ∷ []) }

abbrev two_of_three : List Event
two_of_three = Submit create ∷ Submit edit_by_b ∷ Submit create_e ∷ Take 2 ∷ Device Done ∷ Publish ∷ Settle ∷ Ack 0 ∷ Ack 1 ∷ Ack 2 ∷ []

one_order : tickets_after (two_of_three ++ Resend create ∷ []) ≡ (TakenAt 1, 1) ∷ (TakenAt 2, 2) ∷ (TakenAt 1, 3) ∷ (AgainAt 1, 3) ∷ []
unfolding utf16_chars encode_utf8 insert changed_by
one_order = refl

third_is_not_acknowledged : acks_after (two_of_three ++ Resend create ∷ Ack 3 ∷ []) ≡ (TakenAt 1, 1) ∷ (TakenAt 2, 2) ∷ []
unfolding utf16_chars encode_utf8 insert changed_by
third_is_not_acknowledged = refl

-- A crash while the third is being written may lose it. Then it is taken anew, and the second stays as acknowledged.
third_is_lost : tickets_after (two_of_three ++ Take 1 ∷ Crash 2 ∷ Open 2 (0 ∷ []) ∷ Resend create_e ∷ Resend edit_by_b ∷ []) ≡ (TakenAt 1, 3) ∷ (AgainAt 2, 3) ∷ []
unfolding utf16_chars encode_utf8 insert changed_by
third_is_lost = refl

third_is_left : tickets_after (two_of_three ++ Take 1 ∷ Crash 3 ∷ Open 3 (0 ∷ 0 ∷ []) ∷ Resend create_e ∷ Resend edit_by_b ∷ []) ≡ (AgainAt 1, 3) ∷ (AgainAt 2, 3) ∷ []
unfolding utf16_chars encode_utf8 insert changed_by
third_is_left = refl
