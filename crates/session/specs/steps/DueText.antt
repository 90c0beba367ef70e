-- The text of lines that are due.
use Rattle.std.specs.Prelude.{ℕ, List}
use Rattle.std.specs.String.{string_bytes}
use Rattle.session.specs.News.{lines_of}
use Rattle.session.specs.Reply.{document_reply, since_reply, line_of}
use Rattle.session.specs.declared.due.Due as program
use Rattle.session.specs.declared.due.Due.TheVariants as variants

abbrev pub due_text : program.Due → List ℕ
due_text (variants.Line text) = string_bytes text
due_text (variants.Since name deltas rev) = line_of (since_reply name deltas.items rev)
due_text (variants.Fetched name document rev) = line_of (document_reply name document rev)
due_text (variants.News changes) = lines_of changes.name changes.last changes.deltas
