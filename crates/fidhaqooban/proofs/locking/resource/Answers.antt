-- `fidhaqooban::locking::resource` meets its contract. Assumes nothing.
use Rattle.fidhaqooban.specs.Numbers.{number_at}
use Rattle.fidhaqooban.specs.Locking.{given_resource}
use Rattle.fidhaqooban.proofs.locking.resource.Goals as goal

pub returns : goal.returns
unfolding given_resource number_at
returns c = cc
