-- `rows::list::hexadecimal` meets its contract: the space and the two digits. Assumes nothing.
use Rattle.rows.specs.Answers.{hex_text}
use Rattle.rows.proofs.list.hexadecimal.Goals as goal

pub returns : goal.returns
unfolding hex_text
returns c = simp (c.digit.ensures, c.digit-2.ensures)
