-- `text::scaling::share_scale` meets its contract. Assumes nothing.
use native.Mathlib.Omega.{arith}
use Rattle.sheet.specs.Layout.{is_whole}
use Rattle.text.specs.Scaling.{share_scale}
use borrow.Author.Rules.{rules}
use Rattle.text.proofs.scaling.share_scale.Goals as goal

pub returns-then-figures : goal.returns-then-figures
unfolding share_scale is_whole
returns-then-figures c = record {
  value = simp c.if-figures.true;
  above = omega arith;
}

pub returns : goal.returns
unfolding share_scale is_whole
returns c = record {
  value = simp c.if-figures.false;
  above = search rules;
}
