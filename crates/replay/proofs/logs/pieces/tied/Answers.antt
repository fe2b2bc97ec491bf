-- `replay::logs::pieces::tied` meets its contract. Assumes nothing.
use Rattle.replay.specs.Logs.Pieces.{tied_in}
use Rattle.replay.proofs.logs.pieces.tied.Goals as goal

pub returns : goal.returns
unfolding tied_in
returns c =
    let f = c.args.following in
    λ i. record { is_record = f.is_record; start = f.start; broken = f.broken; machine = c.tied-following.ensures i; same = f.same; differs = f.differs; holds = f.holds; releases = f.releases; faults = f.faults }
