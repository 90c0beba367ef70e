use Rattle.std.proofs.Common.{rules, ◌≡◌, ◌∙◌, [], ◌∷◌, ◌++◌, List, ap}
use Rattle.std.proofs.lemmas.Fn.{filter_same}
use Rattle.milestone.specs.Job.{Job}
use Rattle.recovery.specs.Jobs.{jobs_of, without_job}
use Rattle.recovery.proofs.jobs.Jobs.keep.Goals as goal

pub returns-clause-ok : goal.returns-clause-ok
returns-clause-ok c =
    let document = c.document_number-document.result in
    let same : document ≡ c.args.job.document = search rules in
    let room : c.reserve.new.self.items ≡ jobs_of c.args.self.now = search rules in
    let left : c.retain.new.self.items ≡ without_job document c.reserve.new.self.items = filter_same _ _ _ (λ x b f' k. search rules) _ _ c.retain.ensures.filtered in
    let pushed : c.push.new.self.items ≡ c.retain.new.self.items ++ c.args.job ∷ [] = search rules in
    pushed ∙ ap (λ (l : List Job). l ++ c.args.job ∷ []) (left ∙ ap (without_job document) room ∙ ap (λ n. without_job n (jobs_of c.args.self.now)) same)
