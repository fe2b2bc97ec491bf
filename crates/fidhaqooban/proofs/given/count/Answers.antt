-- `fidhaqooban::given::count` meets its contract. Assumes nothing.
use mathlib.Core.Path.{sym, ap, ◌∙◌}
use Rattle.places.proofs.Answered.{is_ok_of}
use Rattle.sheet.specs.Answers.{read_answer}
use Rattle.sheet.specs.declared.Table.{Table}
use Rattle.sheet.specs.Layout.{table_of}
use Rattle.fidhaqooban.proofs.Answered.{table-read, count-read}
use Rattle.fidhaqooban.proofs.given.count.Goals as goal

pub unwrap-table-requires : goal.unwrap-table-requires
unfolding read_answer
unwrap-table-requires c = is_ok_of _ _ c.requires _ c.read.ensures

pub returns : goal.returns
unfolding table_of
returns c =
    let read = sym c.unwrap-table.ensures ∙ c.read.ensures in
    record { answer = ap (λ (t : Table). t.count) (table-read c.args.sheet.now read); bounded = count-read c.args.sheet.now read }
