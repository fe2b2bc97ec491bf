-- `reasons::deciding::length_of` meets its contract. Assumes nothing.
use native.Mathlib.Omega.{arith}
use mathlib.Core.Path.{refl}
use borrow.Author.Tests.{ne_eqb}
use Rattle.reasons.specs.Deciding.{length_of}
use Rattle.reasons.proofs.deciding.length_of.Goals as goal

pub returns-in-Some : goal.returns-in-Some
unfolding length_of
returns-in-Some c =
    let some = rw c.in-Some.is at c.requires in
    record {
      same = rw c.in-Some.is (simp (ne_eqb c.in-Some.time 0 (λ zero. omega (arith, some, zero))));
      some = some;
      small = omega arith;
    }

pub returns-in-None : goal.returns-in-None
unfolding length_of
returns-in-None c = record {
  same = rw c.in-None.is refl;
  some = omega arith;
  small = omega arith;
}
