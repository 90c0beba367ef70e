use Rattle.std.proofs.Common.{◌≡◌, ◌++◌, ◌∷◌, [], List, refl, sym, ap, subst, ◌∙◌, append_assoc, append-nil, rules}
use Rattle.std.proofs.lemmas.List.{nil_from_length}
use Rattle.session.specs.declared.sent.Sent.{Sent}
use Rattle.session.specs.Ahead.{AreReplies}
use Rattle.session.proofs.Pages.{spells-nothing, spells-both}
use Rattle.session.proofs.Sending.{replies_more}
use Rattle.session.proofs.session.print_replies.Goals as goal

pub loop-one-init : goal.loop-one-init
loop-one-init g c = ([], [], refl, refl, spells-nothing c.args.out.now c.args.page.now)

pub loop-one-preserved : goal.loop-one-preserved
loop-one-preserved g c =
    let so_far = c.loop-one.invariant in
    let one = c.in-Some.one.now in
    let others = c.in-Some.others.now in (
      so_far.0 ++ one ∷ [],
      _,
      append_assoc so_far.0 (one ∷ []) others ∙ ap (λ (l : List Sent). so_far.0 ++ l) (sym c.in-Some.ensures.cases.0) ∙ so_far.2,
      replies_more so_far.0 one so_far.1 _ so_far.3 c.reply_of-reply.ensures,
      spells-both so_far.4 c.print_reply.ensures,
    )

pub returns : goal.returns
returns g c =
    let so_far = c.loop-one.invariant in
    let none : c.loop-one.rest.now ≡ [] = nil_from_length c.loop-one.rest.now (search rules) in
    let all : so_far.0 ≡ c.args.sent.now = sym (append-nil so_far.0) ∙ ap (λ (l : List Sent). so_far.0 ++ l) (sym none) ∙ so_far.2 in
    (so_far.1, subst (λ (l : List Sent). AreReplies l so_far.1) all so_far.3, so_far.4)
