-- `replay::logs::going::headway_of` meets its contract. Assumes nothing.
use Rattle.std.proofs.Common.{true≢false, arith}
use Rattle.replay.specs.Logs.Pieces.{holding}
use Rattle.replay.specs.Logs.Held.{held_in}
use Rattle.replay.proofs.OfTicks.Held.{with-own}
use Rattle.replay.proofs.logs.going.headway_of.Goals as goal

pub returns : goal.returns
unfolding held_in holding
returns c =
    let f = c.args.following in record {
      held = (λ cells e i. record {
        is_record = f.is_record;
        start = f.start;
        broken = f.broken;
        machine = with-own f.machine cells c.requires e i;
        same = f.same;
        differs = f.differs;
        holds = 0;
        releases = 0;
        faults = 0;
      });
      kept = (λ cells. record { small = omega arith; kept = λ e. absurd (true≢false e) });
    }
