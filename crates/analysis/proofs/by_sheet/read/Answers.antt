-- `analysis::by_sheet::read` meets its contract. Assumes nothing.
use mathlib.Core.Path.{sym, ◌∙◌}
use Rattle.places.proofs.Refusals.{next-of}
use Rattle.places.proofs.Answered.{good_of, first_refused, passed_as, then_answered, ok_answered, exit_err}
use Rattle.sheet.specs.Answers.{ranked_answer}
use Rattle.analysis.specs.BySheet.{sheet_rule_refusal}
use Rattle.analysis.proofs.Laws.BySheet.{sheet-frame, shared-read}
use Rattle.analysis.proofs.by_sheet.read.Goals as goal

pub returns-in_err-read : goal.returns-in_err-read
unfolding ranked_answer sheet_rule_refusal
returns-in_err-read c =
    let told = c.in_err-read.ensures in
    record {
      answer = exit_err _ c.from_residual.ensures ∙ first_refused _ _ _ told.answer _;
      fields = told.fields;
      faults = told.faults;
      ranks = told.ranks;
    }

pub returns-in_err-judge_shared : goal.returns-in_err-judge_shared
unfolding sheet_rule_refusal
returns-in_err-judge_shared c =
    let read = c.in_ok-read.ensures in
    record {
      answer =
          exit_err _ c.from_residual-in_err-judge_shared.ensures
          ∙ passed_as _ _ _ c.in_err-judge_shared.ensures (shared-read c.args.rule _ read.answer)
          ∙ then_answered _ _ (sheet-frame _ read.answer).0;
      fields = read.fields;
      faults = read.faults;
      ranks = read.ranks;
    }

pub returns : goal.returns
unfolding sheet_rule_refusal
returns c =
    let read = c.in_ok-read.ensures in
    let told = sheet-frame _ read.answer in
    record {
      answer = ok_answered _ _ (next-of _ told.0 ∙ sym (shared-read c.args.rule _ read.answer) ∙ good_of _ _ c.in_ok-judge_shared.ensures) (c.from.ensures ∙ told.1);
      fields = read.fields;
      faults = read.faults;
      ranks = read.ranks;
    }
