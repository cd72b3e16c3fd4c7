use Rattle.cop_dcf.proofs.SettingsLemmas.{all_fit, all_fit_in}
use Rattle.cop_dcf.proofs.laws.settings_fit.Goals as goal

pub returns : goal.returns
returns c = record { dictionary = all_fit; network = all_fit_in }
