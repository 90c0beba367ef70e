-- An action of the program as what it asks for.
use Rattle.revision.specs.declared.rule.command.Action as program
use Rattle.revision.specs.declared.rule.command.Action.TheVariants as variants
use Rattle.revision.specs.Command.{Action, Create, Edit, Undo, Delete}

abbrev pub action_of : program.Action → Action
action_of (variants.Create delta) = Create delta
action_of (variants.Edit base delta) = Edit base delta
action_of variants.Undo = Undo
action_of variants.Delete = Delete
