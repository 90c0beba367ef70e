use Rattle.std.proofs.Common.{sym, subst}
use Rattle.std.specs.Prelude.{IfSome, Option}
use Rattle.session.specs.Shelf.{Kept, Fits, IsGiven}
use Rattle.session.proofs.Shelved.{made_given, looked_up-fits}
use Rattle.session.proofs.shelf.Shelf.note.Goals as goal

pub returns-in-Some : goal.returns-in-Some
returns-in-Some c = λ state fits given.
    c.keep.ensures state fits (made_given state c.look.inside.key c.look.inside.made c.in-Some.document c.in-Some.is (subst (λ (l : Option Kept). IfSome l (IsGiven state)) (sym c.look.view_is) given))

pub returns-in-None : goal.returns-in-None
returns-in-None c = λ state fits given.
    looked_up-fits state c.self.inside.documents c.promote.new.self c.look.inside.key (subst (Fits state) (sym c.self.view_is) fits) c.promote.ensures.entries
