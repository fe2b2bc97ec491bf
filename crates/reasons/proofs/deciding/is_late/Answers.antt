-- `reasons::deciding::is_late` meets its contract. Assumes nothing.
use native.Mathlib.Omega.{arith}
use mathlib.Core.Path.{refl}
use borrow.Author.Tests.{ne_eqb}
use Rattle.analysis.specs.Common.Entries.{is_late}
use Rattle.reasons.proofs.deciding.is_late.Goals as goal

pub returns-in-Some : goal.returns-in-Some
unfolding is_late
returns-in-Some c =
    let some = rw c.in-Some.is at c.requires in
    rw c.in-Some.is (simp (ne_eqb c.in-Some.time 0 (λ zero. omega (arith, some, zero))))

pub returns-in-None : goal.returns-in-None
unfolding is_late
returns-in-None c = rw c.in-None.is refl
