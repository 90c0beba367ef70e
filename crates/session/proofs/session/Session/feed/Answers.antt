use Rattle.std.proofs.Common.{◌≡◌, ◌++◌, List, ℕ, [], ◌∷◌, refl, sym, subst, ◌∙◌, append-nil, rules}
use Rattle.std.specs.Io.KnownBytes.{Appends}
use Rattle.session.specs.declared.sent.Sent.{Sent}
use Rattle.session.specs.Output.{AppendsFront}
use Rattle.session.specs.Replies.{Feeds, Stops}
use Rattle.session.specs.Ahead.{commands_of, Ahead}
use Rattle.session.proofs.Later.{fits_later}
use Rattle.session.proofs.Writes.{on_err}
use Rattle.session.proofs.Feeding.{stops-longer, piece_parted, piece_taken}
use Rattle.session.proofs.Sending.{ahead_of_nothing, ahead_through, answers_map, answered_all, stops_answering}
use Rattle.session.proofs.session.Session.feed.Goals as goal

pub loop-byte-init : goal.loop-byte-init
loop-byte-init g c =
    let out = g.O.Output.contents c.args.out.now in
    record {
      works = search rules;
      fits = c.requires.fits;
      ahead = (
        [],
        refl,
        subst (λ (l : List Sent). Ahead g.D.Desk.does c.args.self.now [] (commands_of l) c.args.self.now c.args.desk.now c.args.desk.now out out) (sym c.new-pending.ensures.items)
            (ahead_of_nothing g.D.Desk.does c.args.self.now c.args.desk.now out),
      );
    }

pub loop-byte-preserved : goal.loop-byte-preserved
loop-byte-preserved g c =
    let contents = g.O.Output.contents in
    let so_far = c.loop-byte.invariant in
    let front = so_far.ahead.0 in
    let taken = c.take_text.ensures.text in
    let on = ahead_through g.D.Desk.does c.args.self.now c.loop-byte.self front _ c.args.desk.now c.loop-byte.desk (contents c.args.out.now) (contents c.loop-byte.out) so_far.ahead.2
    c.take_text.new.self _ _ taken c.take_text.ensures.others in
    record {
      works = c.in_ok-take.ensures.ok;
      fits = c.take.ensures.fits;
      ahead = (
        (front ++ taken.text) ++ _ ∷ [],
        piece_parted c.args.piece.now front _ taken.text _ _ _ so_far.ahead.1 taken.whole c.in-Some.ensures.cases.0,
        c.in_ok-take.ensures.taken c.args.self.now (front ++ taken.text) c.args.desk.now (contents c.args.out.now) on,
      );
    }

pub returns-in_err-take-clause-stopped : goal.returns-in_err-take-clause-stopped
returns-in_err-take-clause-stopped g c =
    let contents = g.O.Output.contents in
    let so_far = c.loop-byte.invariant in
    let front = so_far.ahead.0 in
    let taken = c.take_text.ensures.text in
    let on = ahead_through g.D.Desk.does c.args.self.now c.loop-byte.self front _ c.args.desk.now c.loop-byte.desk (contents c.args.out.now) (contents c.loop-byte.out) so_far.ahead.2
    c.take_text.new.self _ _ taken c.take_text.ensures.others in
    on_err c.from_residual.result (λ works.
    stops-longer g.D.Desk.does ((front ++ taken.text) ++ _ ∷ []) _ c.args.piece.now _ _ _ _ _ _
    (piece_parted c.args.piece.now front _ taken.text _ _ _ so_far.ahead.1 taken.whole c.in-Some.ensures.cases.0)
    (c.in_err-take.ensures.stopped c.args.self.now (front ++ taken.text) c.args.desk.now (contents c.args.out.now) on))

pub returns-in_err-answer_pending-clause-fits : goal.returns-in_err-answer_pending-clause-fits
returns-in_err-answer_pending-clause-fits g c =
    fits_later (g.D.Desk.reached c.loop-byte.desk) (g.D.Desk.reached c.answer_pending.new.desk) c.loop-byte.shelf c.answer_pending.ensures.later c.loop-byte.invariant.fits

pub returns-clause-fits : goal.returns-clause-fits
returns-clause-fits g c =
    fits_later (g.D.Desk.reached c.loop-byte.desk) (g.D.Desk.reached c.answer_pending.new.desk) c.loop-byte.shelf c.answer_pending.ensures.later c.loop-byte.invariant.fits

pub returns-in_err-answer_pending-clause-stopped : goal.returns-in_err-answer_pending-clause-stopped
returns-in_err-answer_pending-clause-stopped g c =
    let contents = g.O.Output.contents in
    let so_far = c.loop-byte.invariant in
    let front = so_far.ahead.0 in
    let taken = c.take_text.ensures.text in
    let on = ahead_through g.D.Desk.does c.args.self.now c.loop-byte.self front _ c.args.desk.now c.loop-byte.desk (contents c.args.out.now) (contents c.loop-byte.out) so_far.ahead.2
    c.take_text.new.self _ _ taken c.take_text.ensures.others in
    let whole : (front ++ taken.text) ++ [] ≡ c.args.piece.now = append-nil (front ++ taken.text)
    ∙ piece_taken c.args.piece.now front _ taken.text _ so_far.ahead.1 taken.whole (search rules) in
    on_err c.from_residual-in_err-answer_pending.result (λ works.
    subst (λ (l : List ℕ). Stops g.D.Desk.does c.args.self.now l c.answer_pending.new.self c.args.desk.now c.answer_pending.new.desk (contents c.args.out.now) (contents c.answer_pending.new.out)) whole
    (stops_answering g.D.Desk.does c.args.self.now c.take_text.new.self (front ++ taken.text) _ c.args.desk.now c.loop-byte.desk (contents c.args.out.now) (contents c.loop-byte.out) on
    c.answer_pending.new.self c.answer_pending.new.desk (contents c.answer_pending.new.out) []
    (answers_map g.D.Desk.does _ _ _ _ (AppendsFront (contents c.loop-byte.out) (contents c.answer_pending.new.out)) (λ t h. h.1) c.in_err-answer_pending.ensures.answered) c.in_err-answer_pending.ensures.err))

pub returns-clause-fed : goal.returns-clause-fed
returns-clause-fed g c =
    let contents = g.O.Output.contents in
    let so_far = c.loop-byte.invariant in
    let front = so_far.ahead.0 in
    let taken = c.take_text.ensures.text in
    let on = ahead_through g.D.Desk.does c.args.self.now c.loop-byte.self front _ c.args.desk.now c.loop-byte.desk (contents c.args.out.now) (contents c.loop-byte.out) so_far.ahead.2
    c.take_text.new.self _ _ taken c.take_text.ensures.others in
    let fed = answered_all g.D.Desk.does c.args.self.now c.take_text.new.self (front ++ taken.text) _ c.args.desk.now c.loop-byte.desk (contents c.args.out.now) (contents c.loop-byte.out) on
    c.answer_pending.new.desk (contents c.answer_pending.new.out)
    (answers_map g.D.Desk.does _ _ _ _ (Appends (contents c.loop-byte.out) (contents c.answer_pending.new.out)) (λ t h. h.0) c.in_ok-answer_pending.ensures.answered) in
    subst (λ (l : List ℕ). Feeds g.D.Desk.does c.args.self.now l c.answer_pending.new.self c.args.desk.now c.answer_pending.new.desk (contents c.args.out.now) (contents c.answer_pending.new.out))
    (piece_taken c.args.piece.now front _ taken.text _ so_far.ahead.1 taken.whole (search rules))
    (subst (λ s. Feeds g.D.Desk.does c.args.self.now (front ++ taken.text) s c.args.desk.now c.answer_pending.new.desk (contents c.args.out.now) (contents c.answer_pending.new.out))
    (sym c.in_ok-answer_pending.ensures.ok) fed)
