use Rattle.std.proofs.Common.{◌≡◌, ◌++◌, ◌∷◌, [], List, ℕ, take, drop, sym, ap, ap₂, ◌∙◌, append_assoc, append-nil, take-append-drop, rules}
use Rattle.json.specs.Print.{escape_byte}
use Rattle.session.proofs.Pages.{spells-as, spells-both}
use Rattle.session.proofs.OperationTexts.{escape-append}
use Rattle.session.proofs.quoting.push_some.Goals as goal

pub returns-in-Some-clause-spelled : goal.returns-in-Some-clause-spelled
returns-in-Some-clause-spelled g c =
    let text = c.args.text.now in
    let n = c.plain_length.result in
    let plain : c.split_at.result.0.now ≡ take n text = search rules in
    let rest : drop n text ≡ c.in-Some.byte.now ∷ c.in-Some.others.now = sym c.split_at.ensures.back ∙ c.in-Some.ensures.cases.0 in (
      take n text ++ c.in-Some.byte.now ∷ [],
      sym (append_assoc (take n text) (c.in-Some.byte.now ∷ []) c.in-Some.others.now ∙ ap (λ (l : List ℕ). take n text ++ l) (sym rest) ∙ take-append-drop n text),
      spells-as
          (ap₂ ◌++◌ (plain ∙ sym c.plain_length.ensures.plain) (sym (append-nil (escape_byte c.in-Some.byte.now))) ∙ sym (escape-append (take n text) (c.in-Some.byte.now ∷ [])))
          (spells-both c.push.ensures c.push_escape.ensures),
    )

pub returns-in-None-clause-spelled : goal.returns-in-None-clause-spelled
returns-in-None-clause-spelled g c =
    let text = c.args.text.now in
    let n = c.plain_length.result in
    let plain : c.split_at.result.0.now ≡ take n text = search rules in (
      take n text,
      sym (ap (λ (l : List ℕ). take n text ++ l) c.split_at.ensures.back ∙ take-append-drop n text),
      spells-as (plain ∙ sym c.plain_length.ensures.plain) c.push.ensures,
    )
