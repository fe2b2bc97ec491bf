-- `report::composing::changed` meets its contract: each field is its word. Assumes nothing.
use native.Mathlib.Omega.{arith}
use Rattle.report.specs.Words.{length_word, deadline_word, fault_priority_word}
use Rattle.report.specs.Texts.{changed_text}
use Rattle.report.proofs.Putting.{line-more, len-line, len-put}
use Rattle.report.proofs.composing.changed.Goals as goal

pub returns-in-Length : goal.returns-in-Length
unfolding changed_text
returns-in-Length c = record {
  answer = rw c.in-Length.is c.begun.ensures;
  bounded = omega (arith, len-line length_word c.begun.ensures);
}

pub returns-in-Deadline : goal.returns-in-Deadline
unfolding changed_text
returns-in-Deadline c =
    let told = c.in-Deadline.is in
    record {
      answer = rw told (line-more _ deadline_word c.labelled.ensures.answer c.with_word.ensures);
      bounded = omega (arith, c.labelled.ensures.bounded, len-put _ deadline_word c.with_word.ensures);
    }

pub returns-in-FaultPriority : goal.returns-in-FaultPriority
unfolding changed_text
returns-in-FaultPriority c =
    let told = c.in-FaultPriority.is in
    record {
      answer = rw told (line-more _ fault_priority_word c.labelled-in-FaultPriority.ensures.answer c.with_word-in-FaultPriority.ensures);
      bounded = omega (arith, c.labelled-in-FaultPriority.ensures.bounded, len-put _ fault_priority_word c.with_word-in-FaultPriority.ensures);
    }
