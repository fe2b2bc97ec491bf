-- `analysis::meeting::meets` meets its contract. Assumes nothing.
use mathlib.Core.Path.{◌∙◌}
use Rattle.analysis.proofs.Laws.ByRule.{judged-fine, meets-there}
use borrow.Author.Rules.{rules}
use Rattle.analysis.proofs.meeting.meets.Goals as goal

pub chosen-among-requires : goal.chosen-among-requires
chosen-among-requires c =
    let fine = judged-fine c.args.rule c.args.table c.args.choice (search rules) c.requires in
    record { good = fine.0; within = fine.1 }

pub returns : goal.returns
returns c =
    let good = (judged-fine c.args.rule c.args.table c.args.choice (search rules) c.requires).0 in
    let among = c.chosen-among.ensures in
    c.meets.ensures ∙ meets-there c.args.table good _ among.filled c.args.choice _ among.beside among.framed c.args.rule
