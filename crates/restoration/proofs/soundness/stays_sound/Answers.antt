use Rattle.restoration.proofs.Staying.{stays_sound_lem}
use Rattle.restoration.proofs.soundness.stays_sound.Goals as goal

pub returns : goal.returns
returns c = stays_sound_lem
