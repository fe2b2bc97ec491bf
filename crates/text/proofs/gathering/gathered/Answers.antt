-- `text::gathering::gathered` meets its contract. Assumes nothing.
use Rattle.text.specs.Texts.{gathered}
use Rattle.text.proofs.gathering.gathered.Goals as goal

pub returns-then-scan : goal.returns-then-scan
unfolding gathered
returns-then-scan c = simp c.if-scan.true

pub returns-then-byte-scan : goal.returns-then-byte-scan
unfolding gathered
returns-then-byte-scan c = simp (c.if-scan.false, c.if-byte-scan.true) c.commented.ensures

pub returns : goal.returns
unfolding gathered
returns c = simp (c.if-scan.false, c.if-byte-scan.false) c.holding.ensures
