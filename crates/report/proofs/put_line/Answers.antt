-- `report::put_line` meets its contract: with room the text is put, and without it nothing. Assumes nothing.
use Prim.Native.Nat.{◌+◌}
use mathlib.Core.Path.{◌≡◌, sym, ◌∙◌}
use mathlib.Core.Bool.{true, false}
use lib.Dec.{leb}
use lib.ListN.{length}
use Rattle.report.proofs.Pages.{put-fits, put-nothing}
use borrow.Author.Rules.{rules}
use Rattle.report.proofs.put_line.Goals as goal

pub returns-then-fits : goal.returns-then-fits
returns-then-fits c =
    let given = c.args in
    let long : length given.line.bytes ≡ 88 = search rules in
    let room : leb (given.at + c.min-size.result) (length given.out.now) ≡ true = sym c.fits.ensures ∙ c.if-fits.true in
    let put = put-fits given.line 88 _ long c.min-size.ensures given.out.now given.at room in
    record {
      answer = put.0;
      left = c.copy.ensures ∙ put.1;
    }

pub returns : goal.returns
returns c =
    let given = c.args in
    let long : length given.line.bytes ≡ 88 = search rules in
    let short : leb (given.at + c.min-size.result) (length given.out.now) ≡ false = sym c.fits.ensures ∙ c.if-fits.false in
    let whole = put-nothing given.line 88 _ long c.min-size.ensures given.out.now given.at short in
    record { answer = whole.0; left = whole.1 }
