use Rattle.cop_errors.proofs.SetRuns.{of_set}
use Rattle.cop_errors.proofs.laws.runs_through_errors.Goals as goal

pub returns-clause-legal : goal.returns-clause-legal
returns-clause-legal c rate streams until run hits events distinct r = (of_set rate until run hits events streams distinct r).legal

pub returns-clause-obeying : goal.returns-clause-obeying
returns-clause-obeying c rate streams until run hits events distinct r = (of_set rate until run hits events streams distinct r).obeying
