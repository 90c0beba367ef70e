use Rattle.session.proofs.Worked as worked
use Rattle.session.proofs.laws.worked_lines.Goals as goal

pub returns : goal.returns
returns c = record { hello = worked.hello; taken = worked.taken; again = worked.again; exists = worked.exists; fetched = worked.fetched; since = worked.since; subscribed = worked.subscribed; unsubscribed = worked.unsubscribed; told = worked.told; ended = worked.ended }
