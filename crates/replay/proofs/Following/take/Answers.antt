-- `replay::Following::take` meets its contract: before each turn the bytes to come, from what is kept so far, come to what all of them do. Assumes nothing.
use Rattle.std.proofs.Common.{◌+◌, ◌≤◌, length, sym, refl, ap, ◌∙◌, subst, arith, rules}
use Rattle.replay.specs.declared.Following.{Following}
use Rattle.replay.specs.Ticks.Machines.{IsTied}
use Rattle.replay.specs.Logs.Pieces.{AtOnce, followed, taken_answer}
use Rattle.replay.proofs.OfLogs.Stepped.{tied-in, bytes-tied, bytes-length, take_on, take_none}
use Rattle.replay.proofs.Following.take.Goals as goal

pub loop-at-init : goal.loop-at-init
loop-at-init c = (omega arith, refl, subst (λ (f : Following). IsTied f.machine) (sym c.tied-following.ensures) (tied-in _))

pub overflow_add-next : goal.overflow_add-next
overflow_add-next c =
    let more : c.loop-at.at + c.next_bytes.result ≤ length c.args.part.now = omega (arith, c.loop-at.invariant.0, c.next_bytes.ensures.within) in
    let room = more in
    search rules

pub slice_bounds-go_on-end : goal.slice_bounds-go_on-end
slice_bounds-go_on-end c =
    let more : c.loop-at.at + c.next_bytes.result ≤ length c.args.part.now = omega (arith, c.loop-at.invariant.0, c.next_bytes.ensures.within) in
    let room = more in
    search rules

pub go_on-following-requires : goal.go_on-following-requires
go_on-following-requires c =
    let more : c.loop-at.at + c.next_bytes.result ≤ length c.args.part.now = omega (arith, c.loop-at.invariant.0, c.next_bytes.ensures.within) in
    let at = c.loop-at in
    let next = c.next_bytes in
    record {
      once = subst (AtOnce at.following.is_record at.following.holds) (sym (bytes-length at.following c.args.part.now at.at next.result more)) next.ensures.once;
      tied = at.invariant.2;
    }

pub loop-at-smaller : goal.loop-at-smaller
loop-at-smaller c =
    let more : c.loop-at.at + c.next_bytes.result ≤ length c.args.part.now = omega (arith, c.loop-at.invariant.0, c.next_bytes.ensures.within) in
    omega (arith, more, c.next_bytes.ensures.some)

pub loop-at-preserved : goal.loop-at-preserved
loop-at-preserved c =
    let more : c.loop-at.at + c.next_bytes.result ≤ length c.args.part.now = omega (arith, c.loop-at.invariant.0, c.next_bytes.ensures.within) in
    let at = c.loop-at in
    (more, take_on at.following c.args.part.now at.at c.next_bytes.result _ c.go_on-following.ensures ∙ at.invariant.1, subst (λ (f : Following). IsTied f.machine) (sym c.go_on-following.ensures) (bytes-tied at.following _ at.invariant.2))

pub returns : goal.returns
unfolding taken_answer
returns c =
    let at = c.loop-at in
    let part = c.args.part.now in
    take_none at.following part at.at (omega arith) ∙ at.invariant.1 ∙ ap (λ (f : Following). followed f part) c.tied-following.ensures
