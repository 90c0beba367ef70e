use Rattle.std.proofs.Common.{◌≡◌, List, ℕ, String, Global, string_bytes, subst, sym}
use Rattle.serde_json.specs.Data.{string}
use Rattle.session.specs.steps.Tokened.{Reads}
use Rattle.session.proofs.Operators.{spells_insert}
use Rattle.session.proofs.ScalarTokens.{kept}
use Rattle.session.proofs.tokened.operations.insertion.Goals as goal

pub returns : goal.returns
returns c =
    let copied : string_bytes c.in_ok-text.text ≡ c.in_ok-read.read.now = kept (λ (s : String Global). string_bytes s ≡ c.in_ok-read.read.now) c.from_str.result c.in_ok-text.text c.in_ok-text.ensures.value c.from_str.ensures.ok in
    let reads = subst (λ (s : List ℕ). Reads 0 c.args.reader.now (string s) c.text.new.reader) (sym copied) c.in_ok-read.ensures in
    rw c.text-2.ensures (spells_insert (string_bytes c.in_ok-text.text) c.in_ok-attrs.attrs c.args.reader.now c.text.new.reader c.last_attributes.new.reader reads c.in_ok-attrs.ensures)
