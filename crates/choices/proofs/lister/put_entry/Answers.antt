-- `choices::lister::put_entry` meets its contract: four stores, one after the other. Assumes nothing.
use native.Mathlib.Numerals.{towards_suc}
use native.Mathlib.Omega.{arith}
use lib.ListN.{length-set}
use Rattle.choices.specs.Stepping.{IsSmall}
use Rattle.choices.proofs.Entries.{entries-small, entry-spelled}
use borrow.Author.Rules.{rules}
use Rattle.choices.proofs.lister.put_entry.Goals as goal

pub overflow_mul-out : goal.overflow_mul-out
unfolding IsSmall
overflow_mul-out c = omega (arith, entries-small c.args.choice c.requires.narrow)

pub overflow_add-out : goal.overflow_add-out
unfolding IsSmall
overflow_add-out c = omega (arith, entries-small c.args.choice c.requires.narrow)

pub overflow_mul-out-2 : goal.overflow_mul-out-2
unfolding IsSmall
overflow_mul-out-2 c = omega (arith, entries-small c.args.choice c.requires.narrow)

pub overflow_add-out-2 : goal.overflow_add-out-2
unfolding IsSmall
overflow_add-out-2 c = omega (arith, entries-small c.args.choice c.requires.narrow)

pub bounds-out-at-2 : goal.bounds-out-at-2
bounds-out-at-2 c = simp length-set (omega arith)

pub overflow_mul-out-3 : goal.overflow_mul-out-3
unfolding IsSmall
overflow_mul-out-3 c = omega (arith, entries-small c.args.choice c.requires.narrow)

pub overflow_add-out-4 : goal.overflow_add-out-4
unfolding IsSmall
overflow_add-out-4 c = omega (arith, entries-small c.args.choice c.requires.narrow)

pub bounds-out-at-3 : goal.bounds-out-at-3
bounds-out-at-3 c = simp length-set (omega arith)

pub overflow_mul-out-4 : goal.overflow_mul-out-4
unfolding IsSmall
overflow_mul-out-4 c = omega (arith, entries-small c.args.choice c.requires.narrow)

pub overflow_add-out-6 : goal.overflow_add-out-6
unfolding IsSmall
overflow_add-out-6 c = omega (arith, entries-small c.args.choice c.requires.narrow)

pub bounds-out-at-4 : goal.bounds-out-at-4
bounds-out-at-4 c = simp length-set (omega arith)

pub shape_of-out : goal.shape_of-out
shape_of-out c = simp length-set

pub returns : goal.returns
unfolding IsSmall
returns c = rw (entry-spelled c.args.choice (search rules) c.requires.narrow) (simp towards_suc)
