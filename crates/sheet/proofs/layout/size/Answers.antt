-- `sheet::layout::size` meets its contract. Assumes nothing.
use Rattle.sheet.specs.Layout.{size_of}
use borrow.Author.Rules.{rules}
use Rattle.sheet.proofs.layout.size.Goals as goal

pub returns : goal.returns
unfolding size_of
returns c = search rules
