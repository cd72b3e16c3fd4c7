use Rattle.cop_scan.proofs.ScanLemmas.{all_read}
use Rattle.cop_scan.proofs.laws.scans_read_alone.Goals as goal

pub returns : goal.returns
returns c = all_read
