use Rattle.session.proofs.Later.{fits_later}
use Rattle.session.proofs.laws.kept_documents_stay.Goals as goal

pub returns : goal.returns
returns c = fits_later
