-- `replay::logs::going::kept` meets its contract. Assumes nothing.
use Rattle.replay.specs.Logs.Held.{held_in}
use Rattle.replay.proofs.logs.going.kept.Goals as goal

pub returns : goal.returns
unfolding held_in
returns c =
    let given = c.args in
    let f = given.following in
    let headway = given.headway in
    λ i. record {
      is_record = f.is_record;
      start = f.start;
      broken = headway.broken;
      machine = c.machine_in.ensures i;
      same = headway.same;
      differs = headway.differs;
      holds = 0;
      releases = 0;
      faults = 0;
    }
