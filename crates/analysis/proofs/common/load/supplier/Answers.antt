-- `analysis::common::load::supplier` meets its contract. Assumes nothing.
use Rattle.analysis.specs.Common.Supplier.{supplier_of}
use Rattle.analysis.proofs.common.load.supplier.Goals as goal

pub returns : goal.returns
unfolding supplier_of
returns c = record {
  same = c.times.ensures.same;
  small = c.times.ensures.small;
}
