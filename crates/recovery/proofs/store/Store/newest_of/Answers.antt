use Rattle.std.proofs.Common.{◌≡◌, ◌≤◌, Some, length, refl, rules}
use Rattle.std.specs.Prelude.{slice_get}
use Rattle.std.proofs.lemmas.Option.{slice_get_read}
use Rattle.recovery.proofs.HandedOut.{document_there}
use Rattle.recovery.proofs.Raising.{none_there}
use Rattle.recovery.proofs.store.Store.newest_of.Goals as goal

pub returns-in-Some : goal.returns-in-Some
returns-in-Some g c =
    let store = c.args.self.now in
    let found = c.in-Some.found.now in
    let there : slice_get c.documents.result.now c.args.document ≡ Some found = slice_get_read c.documents.result.now (length c.documents.result.now) c.args.document found refl c.in-Some.ensures.lookup.3.0 c.in-Some.ensures.lookup.1 in
    rw (document_there c.documents.result.now store.state.documents c.args.document found c.documents.ensures.documents there) (search rules)

pub returns-in-None : goal.returns-in-None
returns-in-None g c =
    let store = c.args.self.now in
    let past : length c.documents.result.now ≤ c.args.document = search rules in
    rw (none_there c.documents.result.now store.state.documents c.args.document c.documents.ensures.documents past) refl
