-- `replay::logs::pieces::next_bytes` meets its contract. Assumes nothing.
use Rattle.std.proofs.Common.{refl, inl, inr, arith}
use Rattle.replay.proofs.OfLogs.Turned.{whole-most}
use Rattle.replay.proofs.logs.pieces.next_bytes.Goals as goal

pub returns-then-holds-ne0 : goal.returns-then-holds-ne0
returns-then-holds-ne0 c = record {
  some = omega arith;
  within = omega arith;
  once = inl refl;
}

pub returns-then-room-width : goal.returns-then-room-width
returns-then-room-width c = record {
  some = omega arith;
  within = omega arith;
  once = inl refl;
}

pub overflow_sub-result : goal.overflow_sub-result
overflow_sub-result c =
    let given = c.args in
    (whole-most given.is_record _ c.tick_width-width.ensures.exact given.room (omega arith)).0

pub returns : goal.returns
returns c =
    let given = c.args in
    let whole = whole-most given.is_record _ c.tick_width-width.ensures.exact given.room (omega arith) in
    record {
      some = whole.1;
      within = omega (arith, whole.0);
      once = inr (c.if-holds-ne0.false, whole.1, whole.2);
    }
