-- `reasons::deciding::is_longer` meets its contract. Assumes nothing.
use native.Mathlib.Omega.{arith}
use mathlib.Core.Path.{refl}
use borrow.Author.Tests.{ne_eqb}
use Rattle.reasons.specs.Deciding.{is_longer}
use Rattle.reasons.proofs.deciding.is_longer.Goals as goal

pub returns-in-Some-Some : goal.returns-in-Some-Some
unfolding is_longer
returns-in-Some-Some c =
    let both = c.in-Some-Some in
    let first = rw both.is-0 at c.requires.first in
    let second = rw both.is-1 at c.requires.second in
    rw (both.is-0, both.is-1) (simp (ne_eqb both.first 0 (λ zero. omega (arith, first, zero)), ne_eqb both.second 0 (λ zero. omega (arith, second, zero))))

pub returns-in-Some-None : goal.returns-in-Some-None
unfolding is_longer
returns-in-Some-None c =
    let one = c.in-Some-None in
    let first = rw one.is-0 at c.requires.first in
    rw (one.is-0, one.is-1) (simp (ne_eqb one.field-0-0 0 (λ zero. omega (arith, first, zero))))

pub returns-in-None-default : goal.returns-in-None-default
unfolding is_longer
returns-in-None-default c = rw c.in-None-default.is-0 refl
