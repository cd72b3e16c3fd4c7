use Rattle.cop_dcf.proofs.SettingsLemmas.{all_have_objects, all_have_objects_in}
use Rattle.cop_dcf.proofs.laws.settings_have_objects.Goals as goal

pub returns : goal.returns
returns c = record { dictionary = all_have_objects; network = all_have_objects_in }
