-- `analysis::bounding::weighed::Topped::is_elsewhere_below` meets its contract: what is below the limit for all is so for some. Assumes nothing.
use Prim.Native.Nat.{ℕ}
use mathlib.Core.Path.{sym, ap, ◌∙◌}
use native.Mathlib.Omega.{arith}
use borrow.Author.Tests.{lt-ltb}
use lib.Dec.{ltb}
use Rattle.analysis.specs.Common.Backups.{others}
use Rattle.analysis.proofs.Laws.Bounds.Borne.{some-fewer}
use Rattle.analysis.proofs.bounding.weighed.Topped.is_elsewhere_below.Goals as goal

pub returns-then-from-limit : goal.returns-then-from-limit
returns-then-from-limit c =
    let args = c.args in
    let top = c.from.ensures ∙ args.self.now.topped args.priority (omega arith) in
    sym (lt-ltb _ args.limit (omega (arith, top, some-fewer args.self.now.weighed.backups.now args.self.now.weighed.choice.now (others args.place) args.priority args.self.now.weighed.count)))

pub returns : goal.returns
returns c = ap (λ (n : ℕ). ltb n c.args.limit) (c.from-2.ensures ∙ c.largest_other.ensures)
