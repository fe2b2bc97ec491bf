-- `cells::labels::is_named` meets its contract: the slices' own equality is the one of their bytes. Assumes nothing.
use Rattle.std.proofs.Common.{rules, ◌≡◌, min}
use Rattle.std.proofs.lemmas.Bool.{eq-eqb}
use borrow.Author.Tests.{ne_eqb}
use Rattle.cells.specs.Names.{is_named, is_word}
use Rattle.cells.proofs.Turns.{same_pointwise}
use Rattle.cells.proofs.labels.is_named.Goals as goal

pub returns-then-label-eq1 : goal.returns-then-label-eq1
unfolding is_named
returns-then-label-eq1 c = simp (eq-eqb _ 1 c.if-label-eq1.true)

pub returns : goal.returns
unfolding is_named is_word
returns c =
    let count : c.min-letters.result ≡ min c.args.label.length 16 = search rules in
    simp (ne_eqb _ 1 c.if-label-eq1.false, same_pointwise, ← count) c.eq.ensures
