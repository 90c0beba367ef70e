use Rattle.revision.proofs.Room.{room_for_commands, room_for_undo}
use Rattle.revision.proofs.laws.late_room.Goals as goal

pub returns-clause-commands : goal.returns-clause-commands
returns-clause-commands c = room_for_commands

pub returns-clause-undo : goal.returns-clause-undo
returns-clause-undo c = room_for_undo
