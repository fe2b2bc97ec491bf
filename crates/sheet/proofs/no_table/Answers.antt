-- `sheet::no_table_lem` meets its contract. Assumes nothing.
use mathlib.Core.Path.{ap}
use lib.ListN.{replicate}
use Rattle.sheet.specs.declared.Record.{Record}
use Rattle.sheet.proofs.no_table.Goals as goal

pub returns : goal.returns
returns c = ap (λ (r : Record). record { count = 0; interval = 0; round = 0; share = 0; records = replicate 8 r }) c.no_record.ensures
