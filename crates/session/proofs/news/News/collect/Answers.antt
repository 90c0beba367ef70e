use Rattle.std.proofs.Common.{◌≡◌, ◌++◌, ◌∷◌, [], length, map, take, ap, ap₂, ◌∙◌, rules, arith}
use Rattle.std.specs.List.{flat_map}
use Rattle.session.specs.steps.DueText.{due_text}
use Rattle.session.proofs.Kept.{read_at}
use Rattle.std.proofs.lemmas.List.{take_all, length-map}
use Rattle.session.specs.News.{lines_in, last_in, news, going_on}
use Rattle.session.proofs.Newsworthy.{news-next, last-next, goes_on}
use Rattle.session.proofs.news.News.collect.Goals as goal

pub loop-entry-preserved : goal.loop-entry-preserved
loop-entry-preserved c =
    let subscriptions = c.args.subscriptions.now in
    let state = c.args.state.now in
    let so_far = c.loop-entry.invariant in
    let one = c.entry-item.result in
    let read = read_at _ subscriptions c.loop-entry.entry-index one c.entries-entries.ensures c.loop-entry-test.true c.entry-item.is in
    let text : flat_map due_text c.tell.new.lines.items ≡ flat_map due_text c.loop-entry.lines.items ++ lines_in state one.0 one.1 = search rules in
    let next : c.in_ok-next.next ≡ last_in state one.0 one.1 = search rules in
    let pushed : c.push.new.self.items ≡ c.loop-entry.last.items ++ c.in_ok-next.next ∷ [] = search rules in
    record {
      text = text ∙ ap (λ l. l ++ lines_in state one.0 one.1) so_far.text ∙ news-next subscriptions c.loop-entry.entry-index one state read.0 read.1;
      last = pushed ∙ ap₂ (λ l n. l ++ n ∷ []) so_far.last next ∙ last-next subscriptions c.loop-entry.entry-index one state read.0 read.1;
    }

pub returns : goal.returns
returns c =
    let subscriptions = c.args.subscriptions.now in
    let state = c.args.state.now in
    let so_far = c.loop-entry.invariant in
    let all : take c.loop-entry.entry-index subscriptions ≡ subscriptions =
    take_all c.loop-entry.entry-index subscriptions (let past = c.loop-entry-test.false in let same = ap length c.entries-entries.ensures in omega (arith, past, same)) in
    let last : c.loop-entry.last.items ≡ map (λ one. last_in state one.0 one.1) subscriptions =
    so_far.last ∙ ap (map (λ one. last_in state one.0 one.1)) all in
    record {
      lines = so_far.text ∙ ap (λ l. news l state) all;
      left = ap (going_on subscriptions) last ∙ goes_on subscriptions state;
      each = ap length last ∙ length-map subscriptions (λ one. last_in state one.0 one.1);
    }
