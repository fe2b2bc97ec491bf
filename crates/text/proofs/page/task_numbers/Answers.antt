-- `text::page::task_numbers` meets its contract. Assumes nothing.
use Rattle.text.specs.Shown.{task_numbers}
use borrow.Author.Rules.{rules}
use Rattle.text.proofs.page.task_numbers.Goals as goal

pub returns : goal.returns
unfolding task_numbers
returns c = search rules
