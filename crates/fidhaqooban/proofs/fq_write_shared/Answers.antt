-- `fidhaqooban::fq_write_shared` meets its contract. Assumes nothing.
use mathlib.Core.Path.{ap, ◌∙◌}
use native.Mathlib.Omega.{arith}
use Rattle.sheet.specs.declared.Table.{Table}
use Rattle.sheet.specs.Layout.{size_of, table_size}
use Rattle.sheet.specs.Answers.{write_refusal, write_leaves}
use Rattle.sheet.proofs.Editions.{edition-low}
use Rattle.fidhaqooban.specs.Numbers.{answer_of, table_from, given_table}
use Rattle.fidhaqooban.specs.Answers.{write_shared_number, write_shared_left}
use Rattle.fidhaqooban.proofs.Minus.{handed}
use Rattle.fidhaqooban.proofs.Written.{written-room, write-is}
use Rattle.fidhaqooban.proofs.fq_write_shared.Goals as goal

pub number-requires : goal.number-requires
unfolding given_table table_from table_size size_of
number-requires c =
    let table = c.table.ensures in
    let given = c.table.result in
    written-room _ _ (omega (arith, ap (λ (t : Table). t.count) table, edition-low given.round given.share)) _ c.write-writing.ensures.answer

pub returns : goal.returns
unfolding write_shared_number write_shared_left given_table table_from
returns c =
    let known = c.write-writing.ensures in
    let table = c.table.ensures in
    let out = c.args.out.now in
    record {
      answer = handed c.number.result c.number.type_inv ∙ c.number.ensures ∙ write-is _ _ _ known.answer ∙ ap (λ (t : Table). answer_of (write_refusal t out) (table_size t)) table;
      left = known.leaves ∙ ap (λ (t : Table). write_leaves t out) table;
    }
