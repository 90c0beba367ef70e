use Rattle.std.proofs.Common.{◌≡◌, ◌-◌, ◌∙◌, ◌++◌, [], ◌∷◌, take, get_or, Some, ap, sym, arith}
use Rattle.std.specs.Option.{option_to_list}
use Rattle.delta.proofs.Ends.{taken, not_taken, taken-lengths}
use Rattle.delta.proofs.builder.take_plain.Goals as goal
use Rattle.delta.proofs.builder.take_plain.Goals.{Joined-pop}

pub returns-in-Some-clause-rest : goal.returns-in-Some-clause-rest
returns-in-Some-clause-rest c =
    taken c.args.ops.now.items c.pop.new.self.items c.index.result.now c.in-Some.plain (omega (arith, c.args.ops.now.ok.0))
    (c.index.ensures ∙ ap (λ n. get_or c.args.ops.now.items (n - 1) c.index.result.now) (c.len-len.ensures ∙ c.args.ops.now.ok.0))
    c.in-Some.ensures
    (c.pop.ensures.rest ∙ ap (λ n. take (n - 1) c.args.ops.now.items) c.args.ops.now.ok.0)

parts : (c : Joined-pop) → c.args.ops.now.items ≡ c.pop.new.self.items ++ c.index.result.now ∷ []
parts c =
    let last : c.index.result.now ≡ get_or c.args.ops.now.items (c.args.ops.now.len - 1) c.index.result.now =
    c.index.ensures ∙ ap (λ n. get_or c.args.ops.now.items (n - 1) c.index.result.now) c.len-len.ensures in
    c.pop.ensures.items ∙ ap (λ o. c.pop.new.self.items ++ option_to_list o) (c.pop.ensures.value c.index.result.now (omega arith) ∙ ap Some (sym last))

pub returns-in-Some-clause-base : goal.returns-in-Some-clause-base
returns-in-Some-clause-base c = (taken-lengths c.args.ops.now.items c.pop.new.self.items c.index.result.now c.in-Some.plain (parts c) c.in-Some.ensures).0

pub returns-in-Some-clause-out : goal.returns-in-Some-clause-out
returns-in-Some-clause-out c = (taken-lengths c.args.ops.now.items c.pop.new.self.items c.index.result.now c.in-Some.plain (parts c) c.in-Some.ensures).1

pub returns-in-None-clause-rest : goal.returns-in-None-clause-rest
returns-in-None-clause-rest c =
    not_taken c.args.ops.now.items c.index.result.now (omega (arith, c.args.ops.now.ok.0))
    (c.index.ensures ∙ ap (λ n. get_or c.args.ops.now.items (n - 1) c.index.result.now) (c.len-len.ensures ∙ c.args.ops.now.ok.0))
    c.in-None.ensures
