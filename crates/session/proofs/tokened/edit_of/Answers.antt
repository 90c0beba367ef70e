use Rattle.std.proofs.Common.{◌≡◌, ℕ, List, [], Bor, Some, Ok, ap, ◌∙◌, arith}
use Rattle.std.specs.Str.{IsUtf8}
use Rattle.json.specs.Token.{Token}
use Rattle.json.specs.Lex.{tokens}
use Rattle.serde_json.specs.Data.{Data}
use Rattle.revision.specs.Command.{Command}
use Rattle.session.specs.declared.request.Request.TheVariants.{Ask}
use Rattle.session.specs.Request.{of_value}
use Rattle.session.specs.steps.Tokened.{Reads, IsEdit}
use Rattle.attributes.proofs.CallerLemmas.{IfSome-map}
use Rattle.session.proofs.ScalarTokens.{kept, matched_ok}
use Rattle.session.proofs.WholeLine.{line_read}
use Rattle.session.proofs.tokened.edit_of.Goals as goal

pub returns : goal.returns
returns c =
    let line = c.args.line.now in
    let text = c.in_ok-text.text.now in
    let both : (text ≡ line) × IsUtf8 line = kept (λ (s : Bor (List ℕ)). (s.now ≡ line) × IsUtf8 line) c.from_utf8.result c.in_ok-text.text c.in_ok-text.ensures.value (matched_ok _ _ c.from_utf8.result c.from_utf8.ensures.cases) in
    let opened : c.in_ok-reader.reader ≡ tokens text = kept (λ (ts : List Token). ts ≡ tokens text) c.new.result c.in_ok-reader.reader c.in_ok-reader.ensures.value c.new.ensures.ok in
    let over : c.read.new.reader ≡ [] = grind arith in
    let spells = c.in_ok-fields.ensures in
    let reads : Reads 4 (tokens text) spells.0 [] = rw (← opened, ← over) spells.2 in
    IfSome-map (λ (command : Command). (value : Data) → IsEdit c.in_ok-fields.fields value → of_value (Some c.args.source.now) (Some value) ≡ Ok (Ask command)) _ c.command.result
    (λ command due. ap (of_value (Some c.args.source.now)) (line_read line text spells.0 both.1 both.0 reads) ∙ due spells.0 spells.1)
    c.command.ensures
