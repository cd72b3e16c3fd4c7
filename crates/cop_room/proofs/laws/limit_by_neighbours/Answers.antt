use Rattle.cop_room.proofs.LimitLemmas.{greatest_kept}
use Rattle.cop_room.proofs.LimitLemmas.{least_kept}
use Rattle.cop_room.proofs.LimitLemmas.{greatest_anew}
use Rattle.cop_room.proofs.LimitLemmas.{least_anew}
use Rattle.cop_room.proofs.laws.limit_by_neighbours.Goals as goal

pub returns-clause-greatest : goal.returns-clause-greatest
returns-clause-greatest c = greatest_kept

pub returns-clause-least : goal.returns-clause-least
returns-clause-least c = least_kept

pub returns-clause-greatest_anew : goal.returns-clause-greatest_anew
returns-clause-greatest_anew c = greatest_anew

pub returns-clause-least_anew : goal.returns-clause-least_anew
returns-clause-least_anew c = least_anew
