use Rattle.restoration.proofs.Completing.{data_law_lem}
use Rattle.restoration.proofs.soundness.data_law.Goals as goal

pub returns : goal.returns
returns c = data_law_lem
