-- `analysis::common::search::Search::jump` meets its contract. Assumes nothing.
use Prim.Native.Nat.{ℕ, ◌+◌, ◌-◌, ◌*◌, ◌≤◌}
use mathlib.Core.Path.{◌≡◌, refl, ap}
use native.Mathlib.Omega.{arith}
use Rattle.analysis.specs.declared.common.search.Search.{Search}
use Rattle.analysis.specs.declared.common.taken.Taken.{Taken}
use Rattle.analysis.specs.Common.Rounding.{up}
use Rattle.analysis.specs.Common.Supplier.{supplier_of}
use Rattle.analysis.specs.Common.Demand.{runs_of, load_of, demand_of}
use Rattle.analysis.specs.Common.Lent.{tasks_in, demand_in, asked_in}
use Rattle.analysis.specs.Common.Jump.{struck_of}
use Rattle.analysis.proofs.Laws.Common.Ranked.{runs-rise, paid-asked}
use Rattle.analysis.proofs.Laws.Common.Taken.{all-taken, jump-missed}
use Rattle.analysis.proofs.common.search.Search.jump.Goals as goal

-- what a length is asked besides what is paid, term by term
abbrev runs-above : Search → ℕ → ℕ
runs-above d = runs_of (tasks_in d.tasks) 0 d.rank

abbrev runs-between : Search → ℕ → ℕ
runs-between d = runs_of (tasks_in d.tasks) (d.rank + 1) d.until

abbrev shared : Search → ℕ → ℕ
shared d L = up L d.tasks.frame.round * (d.tasks.frame.round - d.tasks.frame.share)

parts : (d : Search) (L : ℕ) → d.base + load_of (tasks_in d.tasks) (demand_in d) L ≡ d.base + (runs-above d L + runs-between d L + up L d.tasks.frame.interval * d.backup + shared d L)
unfolding load_of supplier_of
parts d L = refl

whole : (d : Search) (trial asked : ℕ) → 1 ≤ trial → asked ≡ asked_in d trial → asked + d.paid ≡ d.base + load_of (tasks_in d.tasks) (demand_in d) trial
unfolding demand_of
whole d trial asked some same = omega (arith, same, paid-asked (tasks_in d.tasks) d.tasks.order (demand_in d) d.sought trial some)

-- what is left once the supplier's term is taken
left-shared : (d : Search) (trial asked : ℕ) → 1 ≤ trial → asked ≡ asked_in d trial → (taken : Taken) → taken.rest + shared d trial ≡ asked + d.paid → taken.backup ≡ d.backup
    → taken.rest ≡ d.base + (runs-above d trial + runs-between d trial) + struck_of d.tasks.frame taken trial
left-shared d trial asked some same taken rest backup =
    let kept : struck_of d.tasks.frame taken trial ≡ up trial d.tasks.frame.interval * d.backup = ap (λ (n : ℕ). up trial d.tasks.frame.interval * n) backup in
    omega (arith, rest, whole d trial asked some same, parts d trial, kept)

pub take-shared-requires : goal.take-shared-requires
take-shared-requires c =
    let self = c.args.self.now in
    let enough : shared self c.args.trial ≤ c.args.asked + self.paid = omega (arith, whole self c.args.trial c.args.asked c.requires.some c.requires.asked, parts self c.args.trial) in
    record { some = self.tasks.order.round; enough = enough; slow = omega arith }

pub take_runs-above-requires : goal.take_runs-above-requires
take_runs-above-requires c =
    let self = c.args.self.now in
    let taken = c.take-shared in
    let left = left-shared self c.args.trial c.args.asked c.requires.some c.requires.asked taken.result taken.ensures.rest taken.ensures.backup in
    let enough : runs-above self c.args.trial + struck_of self.tasks.frame taken.result c.args.trial ≤ taken.result.rest = omega (arith, left) in
    record { here = omega (arith, self.sought.rank); enough = enough; slow = omega (arith, taken.ensures.rate) }

pub take_runs-between-requires : goal.take_runs-between-requires
take_runs-between-requires c =
    let self = c.args.self.now in
    let taken = c.take-shared in
    let left = left-shared self c.args.trial c.args.asked c.requires.some c.requires.asked taken.result taken.ensures.rest taken.ensures.backup in
    let enough : runs-between self c.args.trial + struck_of self.tasks.frame c.take_runs-above.result c.args.trial ≤ c.take_runs-above.result.rest = omega (arith, c.take_runs-above.ensures.rest, left) in
    record { here = self.sought.until; enough = enough; slow = omega (arith, c.take_runs-above.ensures.rate, taken.ensures.rate) }

pub take_faults-all-requires : goal.take_faults-all-requires
take_faults-all-requires c =
    let self = c.args.self.now in
    let taken = c.take-shared in
    let left = left-shared self c.args.trial c.args.asked c.requires.some c.requires.asked taken.result taken.ensures.rest taken.ensures.backup in
    let enough : struck_of self.tasks.frame c.take_runs-between.result c.args.trial ≤ c.take_runs-between.result.rest = omega (arith, c.take_runs-between.ensures.rest, c.take_runs-above.ensures.rest, left) in
    record { enough = enough; slow = omega (arith, c.take_runs-between.ensures.rate, c.take_runs-above.ensures.rate, taken.ensures.rate) }

pub returns : goal.returns
returns c =
    let self = c.args.self.now in
    let s = tasks_in self.tasks in
    let frame = self.tasks.frame in
    let known =
    all-taken frame self.paid c.args.trial self.base frame.round (frame.round - frame.share) (λ L. self.base + load_of s (demand_in self) L) (runs-above self) (runs-between self)
    (runs-rise s 0 self.rank) (runs-rise s (self.rank + 1) self.until) (parts self) (whole self c.args.trial c.args.asked c.requires.some c.requires.asked) refl refl c.take-shared.ensures.backup
    c.take-shared.ensures.passed c.take_runs-above.ensures.passed c.take_runs-between.ensures.passed c.take_faults-all.ensures.passed in
    record { past = omega (arith, c.max.ensures); short = jump-missed s (demand_in self) c.args.trial _ c.requires.asked known c.max.ensures }
