-- `cells::naming::spelled_quote` meets its contract. Assumes nothing.
use Rattle.cells.specs.Names.{spelled_quote}
use borrow.Author.Tests.{not-true, not-false}
use mathlib.Core.Path.{ap}
use mathlib.Core.Bool.{not}
use Rattle.cells.proofs.naming.spelled_quote.Goals as goal

pub returns-then-not-quoted : goal.returns-then-not-quoted
unfolding spelled_quote
returns-then-not-quoted c = simp (not-true c.args.quoted (ap not c.if-not-quoted.true)) c.misspelt.ensures

pub returns-then-not-spelling : goal.returns-then-not-spelling
unfolding spelled_quote
returns-then-not-spelling c = simp (not-false c.args.quoted (ap not c.if-not-quoted.false), not-true c.args.spelling.odd c.if-not-spelling.true) c.spelled_with.ensures

pub returns : goal.returns
unfolding spelled_quote
returns c = simp (not-false c.args.quoted (ap not c.if-not-quoted.false), not-false c.args.spelling.odd c.if-not-spelling.false)
