-- A message of the program as what it asks for.
use Rattle.serde_json.specs.View.{items_view}
use Rattle.session.specs.declared.message.Message as program
use Rattle.session.specs.declared.message.Message.TheVariants as variants
use Rattle.session.specs.Message.{Message, Hello, Create, Edit, Undo, Delete, Read, Subscribe, Unsubscribe}

abbrev pub message_view : program.Message → Message
message_view (variants.Hello source) = Hello source.now
message_view (variants.Create doc number operations) = Create doc.now number (items_view operations.now)
message_view (variants.Edit doc number base operations) = Edit doc.now number base (items_view operations.now)
message_view (variants.Undo doc number) = Undo doc.now number
message_view (variants.Delete doc number) = Delete doc.now number
message_view (variants.Read doc question) = Read doc.now question
message_view (variants.Subscribe doc rev) = Subscribe doc.now rev
message_view (variants.Unsubscribe doc) = Unsubscribe doc.now
