-- `fidhaqooban::locking::job` meets its contract. Assumes nothing.
use Rattle.fidhaqooban.specs.Numbers.{number_at}
use Rattle.fidhaqooban.specs.Locking.{given_job}
use Rattle.fidhaqooban.proofs.locking.job.Goals as goal

pub returns : goal.returns
unfolding given_job number_at
returns c = cc
