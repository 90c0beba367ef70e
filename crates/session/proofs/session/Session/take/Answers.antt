use Rattle.std.proofs.Common.{◌≡◌, ◌++◌, List, [], ◌∷◌, Some, true, refl, sym, ap, subst, ◌∙◌, inl, Ok}
use Rattle.session.specs.steps.DueText.{due_text}
use Rattle.std.specs.Io.KnownBytes.{Appends}
use Rattle.refusal.specs.declared.Refusal.TheVariants.{LineTooLong}
use Rattle.revision.specs.Command.{Command}
use Rattle.session.specs.declared.request.Request.TheVariants.{Ask}
use Rattle.session.specs.declared.sent.Sent.{Sent}
use Rattle.session.specs.Output.{AppendsFront}
use Rattle.session.specs.Reply.{refusal_line}
use Rattle.session.specs.Session.{Session}
use Rattle.session.specs.Replies.{text_told, Replies}
use Rattle.session.specs.Ahead.{commands_of, Ahead, AnswersPending}
use Rattle.session.proofs.Later.{fits_later}
use Rattle.session.proofs.Writes.{on_err}
use Rattle.session.proofs.Replying.{told_line, due_of, goes_on, overflows, same_session, read_after, ends}
use Rattle.session.proofs.Sending.{answers_map, ahead_on, ahead_more, answered_all, stops_answering, stops_overflowing, ahead_behind, stops_behind}
use Rattle.session.proofs.session.Session.take.Goals as goal

pub returns-in_err-answer_pending-in-TooLong-clause-fits : goal.returns-in_err-answer_pending-in-TooLong-clause-fits
returns-in_err-answer_pending-in-TooLong-clause-fits g c =
    fits_later (g.D.Desk.reached c.args.desk.now) (g.D.Desk.reached c.answer_pending.new.desk) c.args.shelf.now c.answer_pending.ensures.later c.requires.fits

pub returns-in_err-send-in-TooLong-clause-fits : goal.returns-in_err-send-in-TooLong-clause-fits
returns-in_err-send-in-TooLong-clause-fits g c =
    fits_later (g.D.Desk.reached c.args.desk.now) (g.D.Desk.reached c.answer_pending.new.desk) c.args.shelf.now c.answer_pending.ensures.later c.requires.fits

pub returns-in_ok-send-in-TooLong-clause-fits : goal.returns-in_ok-send-in-TooLong-clause-fits
returns-in_ok-send-in-TooLong-clause-fits g c =
    fits_later (g.D.Desk.reached c.args.desk.now) (g.D.Desk.reached c.answer_pending.new.desk) c.args.shelf.now c.answer_pending.ensures.later c.requires.fits

pub returns-in_err-answer_pending-in-Some-clause-fits : goal.returns-in_err-answer_pending-in-Some-clause-fits
returns-in_err-answer_pending-in-Some-clause-fits g c =
    fits_later (g.D.Desk.reached c.args.desk.now) (g.D.Desk.reached c.answer_pending-in-Some.new.desk) c.args.shelf.now c.answer_pending-in-Some.ensures.later c.requires.fits

pub respond-reply-requires-clause-fits : goal.respond-reply-requires-clause-fits
respond-reply-requires-clause-fits g c =
    fits_later (g.D.Desk.reached c.args.desk.now) (g.D.Desk.reached c.answer_pending-in-Some.new.desk) c.args.shelf.now c.answer_pending-in-Some.ensures.later c.requires.fits

pub returns-in-More-clause-taken : goal.returns-in-More-clause-taken
returns-in-More-clause-taken g c first piece begun clean ahead =
    ahead_on g.D.Desk.does first c.args.self.now piece _ begun c.args.desk.now clean (g.O.Output.contents c.args.out.now) ahead c.event_of.new.self (c.args.byte ∷ [])
    (goes_on c.args.self.now c.event_of.new.self c.args.byte (sym c.in-More.ensures.event) c.in-More.ensures.others)

pub returns-in_ok-send-in-TooLong-clause-taken : goal.returns-in_ok-send-in-TooLong-clause-taken
returns-in_ok-send-in-TooLong-clause-taken g c first piece begun clean ahead =
    let does = g.D.Desk.does in
    let contents = g.O.Output.contents in
    let old = c.args.self.now in
    let answer_pending = c.in_ok-answer_pending-in-TooLong.ensures in
    let text = text_told (λ t. due_text t) c.refusal_reply.result in
    let over = overflows old c.event_of.new.self c.args.byte text (sym c.in-TooLong.ensures.event) c.in-TooLong.ensures.others
    (told_line (λ t. due_text t) c.refusal_reply.result (refusal_line LineTooLong) c.refusal_reply.ensures) in
    let same : c.send.new.self ≡ c.event_of.new.self = c.in_ok-send-in-TooLong.ensures.ok ∙ answer_pending.ok in
    let fed = answered_all does first old piece _ begun c.args.desk.now clean (contents c.args.out.now) ahead c.answer_pending.new.desk (contents c.answer_pending.new.out)
    (answers_map does _ _ _ _ (Appends (contents c.args.out.now) (contents c.answer_pending.new.out)) (λ t h. h.0) answer_pending.answered) in
    subst (λ (l : List Sent). Ahead does first (piece ++ c.args.byte ∷ []) (commands_of l) c.send.new.self begun c.answer_pending.new.desk clean (contents c.send.new.out)) (sym answer_pending.none_left)
    (ahead_behind does first old c.send.new.self piece c.args.byte begun c.answer_pending.new.desk c.answer_pending.new.desk clean (contents c.answer_pending.new.out) (contents c.send.new.out) [] text fed
    (subst (λ (s : Session). Replies old (c.args.byte ∷ []) [] s text) (sym same) over) refl c.in_ok-send-in-TooLong.ensures.written)

pub returns-in_err-answer_pending-in-TooLong-clause-stopped : goal.returns-in_err-answer_pending-in-TooLong-clause-stopped
returns-in_err-answer_pending-in-TooLong-clause-stopped g c =
    let does = g.D.Desk.does in
    let contents = g.O.Output.contents in
    let old = c.args.self.now in
    let answer_pending = c.in_err-answer_pending-in-TooLong.ensures in
    let over = overflows old c.event_of.new.self c.args.byte (refusal_line LineTooLong) (sym c.in-TooLong.ensures.event) c.in-TooLong.ensures.others (inl refl) in
    on_err c.from_residual.result (λ first piece begun clean ahead.
    stops_overflowing does first old piece _ begun c.args.desk.now clean (contents c.args.out.now) ahead c.event_of.new.self c.answer_pending.new.self c.args.byte (refusal_line LineTooLong)
    c.answer_pending.new.desk (contents c.answer_pending.new.out)
    (answers_map does _ _ _ _ (AppendsFront (contents c.args.out.now) (contents c.answer_pending.new.out)) (λ t h. h.1) answer_pending.answered) over answer_pending.err)

pub returns-in_err-send-in-TooLong-clause-stopped : goal.returns-in_err-send-in-TooLong-clause-stopped
returns-in_err-send-in-TooLong-clause-stopped g c =
    let does = g.D.Desk.does in
    let contents = g.O.Output.contents in
    let old = c.args.self.now in
    let answer_pending = c.in_ok-answer_pending-in-TooLong.ensures in
    let text = text_told (λ t. due_text t) c.refusal_reply.result in
    let over = overflows old c.event_of.new.self c.args.byte text (sym c.in-TooLong.ensures.event) c.in-TooLong.ensures.others
    (told_line (λ t. due_text t) c.refusal_reply.result (refusal_line LineTooLong) c.refusal_reply.ensures) in
    on_err c.from_residual-in_err-send-in-TooLong.result (λ first piece begun clean ahead.
    let fed = answered_all does first old piece _ begun c.args.desk.now clean (contents c.args.out.now) ahead c.answer_pending.new.desk (contents c.answer_pending.new.out)
    (answers_map does _ _ _ _ (Appends (contents c.args.out.now) (contents c.answer_pending.new.out)) (λ t h. h.0) answer_pending.answered) in
    stops_behind does first old c.answer_pending.new.self c.send.new.self piece c.args.byte begun c.answer_pending.new.desk c.answer_pending.new.desk clean (contents c.answer_pending.new.out) (contents c.send.new.out) [] text fed
    (subst (λ (s : Session). Replies old (c.args.byte ∷ []) [] s text) (sym answer_pending.ok) over) refl (inl tt) c.in_err-send-in-TooLong.ensures.front c.in_err-send-in-TooLong.ensures.err)

pub returns-in-None-clause-taken : goal.returns-in-None-clause-taken
returns-in-None-clause-taken g c first piece begun clean ahead =
    let does = g.D.Desk.does in
    let contents = g.O.Output.contents in
    let read = c.event_of.new.self in
    let sent = c.in-None.ensures in
    let next = c.next_line-in-None.ensures ∙ ap (λ (s : Session). record s { line = Some [] }) c.request-request.ensures.unchanged in
    subst (λ (l : List Command). Ahead does first (piece ++ c.args.byte ∷ []) l c.next_line-in-None.new.self begun c.args.desk.now clean (contents c.args.out.now)) (sym sent.2)
    (ahead_more does first c.args.self.now piece _ begun c.args.desk.now clean (contents c.args.out.now) ahead read c.next_line-in-None.new.self c.args.byte sent.0
    (sym c.in-Complete.ensures.event) c.in-Complete.ensures.others next (due_of read.line read.peer.source _ (Ok (Ask sent.0)) sent.1 c.request-request.ensures.due))

pub returns-in_err-answer_pending-in-Some-clause-stopped : goal.returns-in_err-answer_pending-in-Some-clause-stopped
returns-in_err-answer_pending-in-Some-clause-stopped g c =
    let does = g.D.Desk.does in
    let contents = g.O.Output.contents in
    let old = c.args.self.now in
    let answer_pending = c.in_err-answer_pending-in-Some.ensures in
    let same = same_session old c.event_of.new.self c.args.byte (sym c.in-Complete.ensures.event) c.in-Complete.ensures.others in
    on_err c.from_residual-in_err-answer_pending-in-Some.result (λ first piece begun clean ahead.
    stops_answering does first old piece _ begun c.args.desk.now clean (contents c.args.out.now) ahead c.answer_pending-in-Some.new.self c.answer_pending-in-Some.new.desk (contents c.answer_pending-in-Some.new.out) (c.args.byte ∷ [])
    (subst (λ (l : List Command). AnswersPending does l c.args.desk.now c.answer_pending-in-Some.new.desk (AppendsFront (contents c.args.out.now) (contents c.answer_pending-in-Some.new.out))) c.in-Some.ensures.1
    (answers_map does _ _ _ _ (AppendsFront (contents c.args.out.now) (contents c.answer_pending-in-Some.new.out)) (λ t h. h.1) answer_pending.answered))
    (answer_pending.err ∙ ap (λ (s : Session). record s { ended = true }) (c.request-request.ensures.unchanged ∙ same)))

pub returns-in_ok-send-in-Some-clause-taken : goal.returns-in_ok-send-in-Some-clause-taken
returns-in_ok-send-in-Some-clause-taken g c first piece begun clean ahead =
    let does = g.D.Desk.does in
    let contents = g.O.Output.contents in
    let old = c.args.self.now in
    let answer_pending = c.in_ok-answer_pending-in-Some.ensures in
    let after = read_after old c.event_of.new.self c.answer_pending-in-Some.new.self c.args.byte (answer_pending.ok ∙ c.request-request.ensures.unchanged) (sym c.in-Complete.ensures.event) c.in-Complete.ensures.others in
    let text = text_told (λ t. due_text t) c.respond-reply.result in
    let answered = c.respond-reply.ensures in
    let e = ends does old c.answer_pending-in-Some.new.self c.respond-reply.new.self c.next_line.new.self c.args.byte text c.answer_pending-in-Some.new.desk c.respond-reply.new.desk
    after.0 after.1 answered.others c.next_line.ensures answered.replied in
    let fed = answered_all does first old piece _ begun c.args.desk.now clean (contents c.args.out.now) ahead c.answer_pending-in-Some.new.desk (contents c.answer_pending-in-Some.new.out)
    (subst (λ (l : List Command). AnswersPending does l c.args.desk.now c.answer_pending-in-Some.new.desk (Appends (contents c.args.out.now) (contents c.answer_pending-in-Some.new.out))) c.in-Some.ensures.1
    (answers_map does _ _ _ _ (Appends (contents c.args.out.now) (contents c.answer_pending-in-Some.new.out)) (λ t h. h.0) answer_pending.answered)) in
    subst (λ (l : List Sent). Ahead does first (piece ++ c.args.byte ∷ []) (commands_of l) c.send-in-Some.new.self begun c.respond-reply.new.desk clean (contents c.send-in-Some.new.out)) (sym answer_pending.none_left)
    (ahead_behind does first old c.send-in-Some.new.self piece c.args.byte begun c.answer_pending-in-Some.new.desk c.respond-reply.new.desk clean (contents c.answer_pending-in-Some.new.out) (contents c.send-in-Some.new.out) e.0 text fed
    (subst (λ (s : Session). Replies old (c.args.byte ∷ []) e.0 s text) (sym c.in_ok-send-in-Some.ensures.ok) e.1) e.2 c.in_ok-send-in-Some.ensures.written)

pub returns-in_err-send-in-Some-clause-stopped : goal.returns-in_err-send-in-Some-clause-stopped
returns-in_err-send-in-Some-clause-stopped g c =
    let does = g.D.Desk.does in
    let contents = g.O.Output.contents in
    let old = c.args.self.now in
    let answer_pending = c.in_ok-answer_pending-in-Some.ensures in
    let after = read_after old c.event_of.new.self c.answer_pending-in-Some.new.self c.args.byte (answer_pending.ok ∙ c.request-request.ensures.unchanged) (sym c.in-Complete.ensures.event) c.in-Complete.ensures.others in
    let text = text_told (λ t. due_text t) c.respond-reply.result in
    let answered = c.respond-reply.ensures in
    let e = ends does old c.answer_pending-in-Some.new.self c.respond-reply.new.self c.next_line.new.self c.args.byte text c.answer_pending-in-Some.new.desk c.respond-reply.new.desk
    after.0 after.1 answered.others c.next_line.ensures answered.replied in
    on_err c.from_residual-in_err-send-in-Some.result (λ first piece begun clean ahead.
    let fed = answered_all does first old piece _ begun c.args.desk.now clean (contents c.args.out.now) ahead c.answer_pending-in-Some.new.desk (contents c.answer_pending-in-Some.new.out)
    (subst (λ (l : List Command). AnswersPending does l c.args.desk.now c.answer_pending-in-Some.new.desk (Appends (contents c.args.out.now) (contents c.answer_pending-in-Some.new.out))) c.in-Some.ensures.1
    (answers_map does _ _ _ _ (Appends (contents c.args.out.now) (contents c.answer_pending-in-Some.new.out)) (λ t h. h.0) answer_pending.answered)) in
    stops_behind does first old c.next_line.new.self c.send-in-Some.new.self piece c.args.byte begun c.answer_pending-in-Some.new.desk c.respond-reply.new.desk clean (contents c.answer_pending-in-Some.new.out) (contents c.send-in-Some.new.out) e.0 text fed
    e.1 e.2 e.3 c.in_err-send-in-Some.ensures.front c.in_err-send-in-Some.ensures.err)
