use Rattle.std.specs.List.{flat_map}
use Rattle.std.proofs.Common.{◌≡◌, Option, Ok, IfSome, refl, sym, ap, subst, ◌∙◌, inl, inr}
use Rattle.session.specs.steps.DueText.{due_text}
use Rattle.session.specs.declared.news.News.{News}
use Rattle.session.specs.News.{going_on, news_shown, subscriptions_shown, AreNews, AreNone, MayBeMissed}
use Rattle.session.specs.Subscriptions.{Subscriptions}
use Rattle.session.specs.Calls.{Told, Missed}
use Rattle.session.specs.Session.{Session}
use Rattle.session.proofs.Telling.{missed_pass, none_pass, told_pass}
use Rattle.session.proofs.session.Session.on_news.Goals as goal

pub returns-in_ok-tell-in-Ok-Some-clause-heard : goal.returns-in_ok-tell-in-Ok-Some-clause-heard
returns-in_ok-tell-in-Ok-Some-clause-heard g c =
    let shown = c.in-Ok-Some.ensures.told in
    let same : c.self.inside.subscriptions ≡ c.args.self.now.peer.subscriptions = ap (λ (s : Session). s.peer.subscriptions) c.self.view_is in
    let news : AreNews c.self.inside.subscriptions shown.0 (flat_map due_text c.in-Ok-Some.news.lines.items) c.in-Ok-Some.news.last.items =
    subst (λ (f : Option News). IfSome f (λ news. AreNews c.self.inside.subscriptions shown.0 (flat_map due_text news.lines.items) news.last.items)) c.in-Ok-Some.field-0-is shown.2 in
    let done = c.in_ok-tell-in-Ok-Some.ensures in
    told_pass g.D.Desk.does c.args.self.now c.tell.new.self c.args.desk.now c.show_news.new.desk (g.O.Output.contents c.args.out.now) (g.O.Output.contents c.tell.new.out)
    _ (going_on c.args.self.now.peer.subscriptions c.in-Ok-Some.news.last.items) shown.0 shown.1
    (news.lines ∙ ap (λ l. news_shown l shown.0) same)
    (ap (λ l. going_on l c.in-Ok-Some.news.last.items) (sym same) ∙ news.left ∙ ap (λ l. subscriptions_shown l shown.0) same)
    done.written done.noted

pub returns-in_ok-tell-in-Ok-Some-clause-told : goal.returns-in_ok-tell-in-Ok-Some-clause-told
returns-in_ok-tell-in-Ok-Some-clause-told g c = (Told, inl refl, returns-in_ok-tell-in-Ok-Some-clause-heard g c)

pub returns-in-Ok-None-clause-heard : goal.returns-in-Ok-None-clause-heard
returns-in-Ok-None-clause-heard g c =
    let shown = c.in-Ok-None.ensures.told in
    let same : c.self.inside.subscriptions ≡ c.args.self.now.peer.subscriptions = ap (λ (s : Session). s.peer.subscriptions) c.self.view_is in
    none_pass g.D.Desk.does c.args.self.now c.args.desk.now c.show_news.new.desk (g.O.Output.contents c.args.out.now) shown.0 shown.1
    (subst (λ (l : Subscriptions). AreNone l shown.0) same (shown.3 (ap Ok c.in-Ok-None.field-0-is)))

pub returns-in-Ok-None-clause-told : goal.returns-in-Ok-None-clause-told
returns-in-Ok-None-clause-told g c = (Told, inl refl, returns-in-Ok-None-clause-heard g c)

pub returns-in-Err-clause-heard : goal.returns-in-Err-clause-heard
returns-in-Err-clause-heard g c =
    let shown = c.in-Err.ensures.told in
    let same : c.self.inside.subscriptions ≡ c.args.self.now.peer.subscriptions = ap (λ (s : Session). s.peer.subscriptions) c.self.view_is in
    missed_pass g.D.Desk.does c.args.self.now c.args.desk.now c.show_news.new.desk (g.O.Output.contents c.args.out.now) shown.0 shown.1
    (subst (λ (l : Subscriptions). MayBeMissed l shown.0) same shown.4)

pub returns-in-Err-clause-told : goal.returns-in-Err-clause-told
returns-in-Err-clause-told g c = (Missed, inr refl, returns-in-Err-clause-heard g c)
