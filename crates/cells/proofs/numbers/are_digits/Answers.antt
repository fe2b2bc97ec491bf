-- `cells::numbers::are_digits` meets its contract: each byte passes the test, or one does not. Assumes nothing.
use Rattle.std.proofs.Common.{rules, tests, ◌∙◌, sym}
use Rattle.std.proofs.lemmas.Iterator.{YieldsList-from_slice}
use Rattle.std.proofs.lemmas.Iterator.Search.{all_from_yields_List}
use Rattle.cells.proofs.Turns.{digits_all}
use Rattle.cells.proofs.numbers.are_digits.Goals as goal

pub returns : goal.returns
returns c =
    all_from_yields_List _ _ _ _ c.all.ensures.ran (YieldsList-from_slice c.args.bytes.now cc) (λ x b q k. search (rules, tests)) ∙ sym (digits_all c.args.points c.args.bytes.now)
