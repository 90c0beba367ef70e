use Rattle.test_session.proofs.tests.Conversation.on_news.Goals as goal

-- what fits the desk's state fits the later one
pub invariant_of-self : goal.invariant_of-self
invariant_of-self g c =
    c.kept_documents_stay.ensures c.self.inside.desk c.on_news.new.self c.self.inside.shelf c.on_news.ensures.later c.self.invariant
