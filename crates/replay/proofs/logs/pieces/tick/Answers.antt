-- `replay::logs::pieces::tick` meets its contract. Assumes nothing.
use Rattle.std.proofs.Common.{sym, ◌∙◌}
use Rattle.replay.proofs.OfLogs.Turned.{two-or-three, tick-length, tick-whole, tick-over}
use Rattle.replay.proofs.logs.pieces.tick.Goals as goal

pub slice_bounds-bytes-end : goal.slice_bounds-bytes-end
slice_bounds-bytes-end c = (two-or-three c.args.following.is_record _ c.tick_width-width.ensures.exact).1

pub slice_bounds-go_over-end : goal.slice_bounds-go_over-end
slice_bounds-go_over-end c =
    let given = c.args in
    sym (tick-length given.following.is_record _ c.tick_width-width.ensures.exact given.releases given.faults given.ran)

pub go_over-requires : goal.go_over-requires
go_over-requires c =
    let given = c.args in
    let wide = c.tick_width-width.ensures.exact in
    record {
      width = wide;
      whole = tick-whole given.following.is_record _ wide given.releases given.faults given.ran;
      tied = c.requires;
    }

pub returns : goal.returns
returns c =
    let given = c.args in
    c.go_over.ensures ∙ tick-over given.following given.releases given.faults given.ran _ c.tick_width-width.ensures.exact
