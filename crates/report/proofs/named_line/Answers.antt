-- `report::named_line` meets its contract: each name is its word. Assumes nothing.
use Rattle.report.specs.Texts.{word_of, named_text}
use Rattle.report.proofs.named_line.Goals as goal

pub returns-in-Interval : goal.returns-in-Interval
unfolding named_text word_of
returns-in-Interval c = rw c.in-Interval.is c.numbered.ensures

pub returns-in-Least : goal.returns-in-Least
unfolding named_text word_of
returns-in-Least c = rw c.in-Least.is c.numbered-in-Least.ensures

pub returns-in-End : goal.returns-in-End
unfolding named_text word_of
returns-in-End c = rw c.in-End.is c.numbered-in-End.ensures

pub returns-in-Refused : goal.returns-in-Refused
unfolding named_text word_of
returns-in-Refused c = rw c.in-Refused.is c.numbered-in-Refused.ensures

pub returns-in-Attempts : goal.returns-in-Attempts
unfolding named_text word_of
returns-in-Attempts c = rw c.in-Attempts.is c.numbered-in-Attempts.ensures

pub returns-in-Backups : goal.returns-in-Backups
unfolding named_text word_of
returns-in-Backups c = rw c.in-Backups.is c.numbered-in-Backups.ensures

pub returns-in-Idle : goal.returns-in-Idle
unfolding named_text word_of
returns-in-Idle c = rw c.in-Idle.is c.numbered-in-Idle.ensures

pub returns-in-Released : goal.returns-in-Released
unfolding named_text word_of
returns-in-Released c = rw c.in-Released.is c.numbered-in-Released.ensures

pub returns-in-Finished : goal.returns-in-Finished
unfolding named_text word_of
returns-in-Finished c = rw c.in-Finished.is c.numbered-in-Finished.ensures

pub returns-in-Missed : goal.returns-in-Missed
unfolding named_text word_of
returns-in-Missed c = rw c.in-Missed.is c.numbered-in-Missed.ensures

pub returns-in-Unfinished : goal.returns-in-Unfinished
unfolding named_text word_of
returns-in-Unfinished c = rw c.in-Unfinished.is c.numbered-in-Unfinished.ensures

pub returns-in-Differs : goal.returns-in-Differs
unfolding named_text word_of
returns-in-Differs c = rw c.in-Differs.is c.numbered-in-Differs.ensures

pub returns-in-FitsNone : goal.returns-in-FitsNone
unfolding named_text word_of
returns-in-FitsNone c = rw c.in-FitsNone.is c.numbered-in-FitsNone.ensures
