-- `replay::Machine::start` meets its contract: the refusal, or the table's machine. Assumes nothing.
use Rattle.replay.proofs.OfLogs.Answered.{start-refused, start-passed}
use Rattle.replay.proofs.Machine.start.Goals as goal

pub returns-in-Ok : goal.returns-in-Ok
returns-in-Ok c = start-passed c.args.sheet.now c.machine_of.result c.in-Ok.ensures c.machine_of.ensures

pub returns-in-Err : goal.returns-in-Err
returns-in-Err c = start-refused c.args.sheet.now c.no_machine.result c.in-Err.ensures c.number.ensures c.no_machine.ensures
