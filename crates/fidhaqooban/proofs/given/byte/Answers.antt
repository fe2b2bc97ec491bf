-- `fidhaqooban::given::byte` meets its contract. Assumes nothing.
use Rattle.fidhaqooban.specs.Numbers.{byte_of}
use borrow.Author.Rules.{rules}
use Rattle.fidhaqooban.proofs.given.byte.Goals as goal

pub returns-then-number-lt255 : goal.returns-then-number-lt255
unfolding byte_of
returns-then-number-lt255 c = search rules

pub returns-else-number-lt255 : goal.returns-else-number-lt255
unfolding byte_of
returns-else-number-lt255 c = search rules
