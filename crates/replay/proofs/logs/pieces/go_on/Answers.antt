-- `replay::logs::pieces::go_on` meets its contract. Assumes nothing.
use Rattle.std.proofs.Common.{ℕ, ◌%◌, length, ap, ◌∙◌}
use Rattle.replay.proofs.OfLogs.Stepped.{whole-ticks}
use Rattle.replay.proofs.OfLogs.Followed.{one-taken}
use Rattle.replay.proofs.OfLogs.Turned.{none-held}
use Rattle.replay.proofs.logs.pieces.go_on.Goals as goal

pub step-requires : goal.step-requires
step-requires c = c.requires.tied

pub returns-then-bytes-eq1 : goal.returns-then-bytes-eq1
returns-then-bytes-eq1 c =
    let given = c.args in
    c.step.ensures ∙ one-taken given.following given.bytes.now c.if-bytes-eq1.true

pub go_over-requires : goal.go_over-requires
go_over-requires c =
    let given = c.args in
    let whole = whole-ticks given.following.is_record given.following.holds (length given.bytes.now) c.requires.once c.if-bytes-eq1.false in
    record {
      width = c.tick_width.ensures.exact;
      whole = ap (λ (n : ℕ). length given.bytes.now % n) c.tick_width.ensures.exact ∙ whole.2;
      tied = c.requires.tied;
    }

pub returns : goal.returns
returns c =
    let given = c.args in
    let whole = whole-ticks given.following.is_record given.following.holds (length given.bytes.now) c.requires.once c.if-bytes-eq1.false in
    c.go_over.ensures ∙ none-held given.following whole.0 given.bytes.now whole.1
