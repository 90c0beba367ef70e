use Rattle.milestone.proofs.Light.{light_content}
use Rattle.milestone.proofs.laws.light_content.Goals as goal

pub returns : goal.returns
returns c = light_content
