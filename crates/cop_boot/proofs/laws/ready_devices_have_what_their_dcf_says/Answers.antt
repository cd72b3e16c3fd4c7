use Rattle.cop_boot.proofs.PdoLemmas.{dcf_said}
use Rattle.cop_boot.proofs.laws.ready_devices_have_what_their_dcf_says.Goals as goal

pub returns : goal.returns
returns c = λ m later after built net files ids rate node row made is again ready. dcf_said m built later after net files ids rate node row made is again ready
