use Rattle.cop_room.proofs.ChangeLemmas.{period_harder}
use Rattle.cop_room.proofs.ChangeLemmas.{jitter_longer}
use Rattle.cop_room.proofs.ChangeLemmas.{bytes_more}
use Rattle.cop_room.proofs.ChangeLemmas.{deadline_sooner}
use Rattle.cop_room.proofs.ChangeLemmas.{pace_faster}
use Rattle.cop_room.proofs.ChangeLemmas.{sync_faster}
use Rattle.cop_room.proofs.ChangeLemmas.{periods_harder}
use Rattle.cop_room.proofs.ChangeLemmas.{times_harder}
use Rattle.cop_room.proofs.laws.changes_get_harder.Goals as goal

pub returns-clause-period : goal.returns-clause-period
returns-clause-period c = period_harder

pub returns-clause-jitter : goal.returns-clause-jitter
returns-clause-jitter c = jitter_longer

pub returns-clause-bytes : goal.returns-clause-bytes
returns-clause-bytes c = bytes_more

pub returns-clause-deadline : goal.returns-clause-deadline
returns-clause-deadline c = deadline_sooner

pub returns-clause-pace : goal.returns-clause-pace
returns-clause-pace c = pace_faster

pub returns-clause-sync : goal.returns-clause-sync
returns-clause-sync c = sync_faster

pub returns-clause-periods : goal.returns-clause-periods
returns-clause-periods c = periods_harder

pub returns-clause-times : goal.returns-clause-times
returns-clause-times c = times_harder
