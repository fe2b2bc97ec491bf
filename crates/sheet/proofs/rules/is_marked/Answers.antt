-- `sheet::rules::is_marked` meets its contract. Assumes nothing.
use mathlib.Core.Path.{sym}
use mathlib.Core.Bool.{false}
use native.Mathlib.Omega.{arith}
use lib.ListN.{get_or-eq_default}
use Rattle.sheet.proofs.rules.is_marked.Goals as goal

pub returns-else-value-lt16 : goal.returns-else-value-lt16
returns-else-value-lt16 c =
    sym (get_or-eq_default c.args.marks.now false {n = c.args.priority} (omega (arith, c.requires)))
