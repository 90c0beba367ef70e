-- News that are told, or missed.
use Rattle.std.proofs.Common.{◌≡◌, true, List, ℕ, [], ◌∷◌, Option, refl, sym, ap, subst, ◌∙◌}
use Rattle.std.specs.Io.KnownBytes.{Appends}
use Rattle.revision.specs.State.{State}
use Rattle.session.specs.Exchange.{Exchange, Shown}
use Rattle.session.specs.News.{news_shown, subscriptions_shown, MayBeMissed, AreNone}
use Rattle.session.specs.Session.{Session}
use Rattle.session.specs.Output.{AppendsFront}
use Rattle.session.specs.Subscriptions.{Subscriptions}
use Rattle.session.specs.Calls.{Told, Missed, ComesOf, OfNews, OfMissed, Passes, StopsNews, with_subscriptions}
use Rattle.session.proofs.Writes.{appends-nothing}

module _ {D : Type 0} (does : D → Exchange → D → Type 0) where
  pub missed_pass : (old : Session) (desk desk' : D) (out : Option (List ℕ)) (shown : Option State) → does desk (Shown shown) desk'
      → MayBeMissed old.peer.subscriptions shown → Passes does old Missed old desk desk' out out
  missed_pass old desk desk' out shown shows wanted =
      record { asked = Shown shown ∷ []; text = []; comes = OfMissed shown wanted; asks = (desk', shows, refl); written = appends-nothing out }

  pub told_pass : (old new : Session) (desk desk' : D) (out out' : Option (List ℕ)) (text : List ℕ) (left : Subscriptions) (shown : Option State)
      → does desk (Shown shown) desk' → text ≡ news_shown old.peer.subscriptions shown → left ≡ subscriptions_shown old.peer.subscriptions shown
      → Appends out out' text → new ≡ with_subscriptions old left → Passes does old Told new desk desk' out out'
  told_pass old new desk desk' out out' text left shown shows text_is left_is written noted =
      let is : new ≡ with_subscriptions old (subscriptions_shown old.peer.subscriptions shown) = noted ∙ ap (with_subscriptions old) left_is in
      record {
        asked = Shown shown ∷ [];
        text = news_shown old.peer.subscriptions shown;
        comes = subst (λ (s : Session). ComesOf old Told (Shown shown ∷ []) s (news_shown old.peer.subscriptions shown)) (sym is) (OfNews shown);
        asks = (desk', shows, refl);
        written = subst (Appends out out') text_is written;
      }

  -- there was nothing to tell
  pub none_pass : (old : Session) (desk desk' : D) (out : Option (List ℕ)) (shown : Option State) → does desk (Shown shown) desk'
      → AreNone old.peer.subscriptions shown → Passes does old Told old desk desk' out out
  none_pass old desk desk' out shown shows none =
      told_pass old old desk desk' out out [] old.peer.subscriptions shown shows (sym none.lines) (sym none.left) (appends-nothing out) refl

  pub stopped : (old new : Session) (desk desk' : D) (out out' : Option (List ℕ)) (text : List ℕ) (shown : Option State)
      → does desk (Shown shown) desk' → text ≡ news_shown old.peer.subscriptions shown → AppendsFront out out' text → new ≡ record old { ended = true }
      → StopsNews does old new desk desk' out out'
  stopped old new desk desk' out out' text shown shows text_is written is =
      record { shown = shown; shows = shows; written = subst (AppendsFront out out') text_is written; ended = is }
