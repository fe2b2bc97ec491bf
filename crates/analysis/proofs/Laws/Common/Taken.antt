-- What a jump knows as it takes the terms of a demand, and that its length may be jumped to. Assumes nothing.
use Prim.Native.Nat.{ℕ, ◌+◌, ◌-◌, ◌*◌, ◌/◌, ◌≤◌, ◌<◌, max}
use mathlib.Core.Path.{◌≡◌, refl, sym, ap, subst, ◌∙◌}
use mathlib.Core.Bool.{cond}
use native.Mathlib.Nat.{mul-le-mul_right, add-le-add}
use native.Mathlib.Decide.{dec_lt, dec_le}
use native.Mathlib.Omega.{arith}
use borrow.Author.Tests.{lt-ltb, le-ltb, lt-leb}
use lib.Dec.{leb, ltb}
use Rattle.analysis.specs.declared.common.by_rank.Frame.{Frame}
use Rattle.analysis.specs.declared.common.taken.Taken.{Taken}
use Rattle.analysis.specs.Common.Rounding.{up}
use Rattle.analysis.specs.Common.Tasks.{Tasks}
use Rattle.analysis.specs.Common.Demand.{Demand, load_of, demand_of}
use Rattle.analysis.specs.Common.Jump.{unit, further_of, struck_of, Rising, Passed, Taking, TakingFaults, TakingBoth, Missed}
use Rattle.analysis.proofs.Laws.Common.Rounding.{up-rises}
use Rattle.analysis.proofs.Laws.Common.Ranked.{demand-rises}
use Rattle.analysis.proofs.Laws.Common.Jumping.{Parted, parted-more, jump-none, jump-least}

-- what rises, summed; and a term rises
pub rising-plus : {f g : ℕ → ℕ} → Rising f → Rising g → Rising (λ L. f L + g L)
rising-plus f g a b h = add-le-add (f a b h) (g a b h)

pub rising-term : (period cost : ℕ) → Rising (λ L. up L period * cost)
rising-term period cost a b h = mul-le-mul_right cost (up-rises period h)

pub rising-base : (base : ℕ) → Rising (λ L. base)
rising-base base a b h = omega arith

module _ (total : ℕ → ℕ) (paid trial : ℕ) where
  -- the same said of what is left in another way
  pub passed-agree : {f g : ℕ → ℕ} {taken : Taken} → ((L : ℕ) → f L ≡ g L) → Passed total paid trial f taken → Passed total paid trial g taken
  passed-agree {taken = taken} same known =
      record {
        rest = known.rest ∙ same trial;
        parted = λ L past. subst (λ (n : ℕ). unit * n + L * taken.rate ≤ unit * total L) (same L) (known.parted L past);
        found = known.found;
      }

  -- a length that is enough is no shorter than the one found, or than the one at which the rates and the rest are met
  further-passed : (left : ℕ → ℕ) (rate found : ℕ) → Rising left → Parted unit total trial left rate → (L : ℕ) → trial ≤ L → total L ≤ L + paid → found ≤ L → further_of found rate (left trial) paid ≤ L
  unfolding further_of
  further-passed left rate found rises parted L past enough so_far = go (dec_lt paid (left trial)) (dec_le unit rate)
    where
      go : Dec (paid < left trial) → Dec (unit ≤ rate) → cond (ltb paid (left trial)) (max found (cond (leb unit rate) 65536 (up (unit * (left trial - paid)) (unit - rate)))) found ≤ L
      go (no met) side = rw (le-ltb paid (left trial) (omega arith)) so_far
      go (yes more) (yes full) = absurd (jump-none unit total trial left rate parted rises L paid (omega arith) past full more enough)
      go (yes more) (no room) =
          rw (lt-ltb paid (left trial) more, lt-leb unit rate (omega arith)) (omega (arith, so_far, jump-least unit total trial left rate parted rises L paid past (omega arith) (omega arith) enough))

  -- one term is taken at its rate
  pub term-taken : (period cost : ℕ) {left : ℕ → ℕ} {taken r : Taken} → 1 ≤ period → Rising left → r.rest + up trial period * cost ≡ taken.rest → r.rate ≡ taken.rate + unit * cost / period
      → r.found ≡ further_of taken.found r.rate r.rest paid → Passed total paid trial (λ L. left L + up L period * cost) taken → Passed total paid trial left r
  term-taken period cost {left} {taken} {r} some rises rest rate found known =
      record {
        rest = here;
        parted = parted;
        found = λ L past enough. subst (λ (n : ℕ). n ≤ L) (sym (found ∙ ap (λ (n : ℕ). further_of taken.found r.rate n paid) here)) (further-passed left r.rate taken.found rises parted L past enough (known.found L past enough));
      }
    where
      here : r.rest ≡ left trial
      here = omega (arith, rest, known.rest)

      parted : Parted unit total trial left r.rate
      parted = subst (Parted unit total trial left) (sym rate) (parted-more unit total trial (λ L. left L + up L period * cost) left taken.rate period cost some (λ L. refl) known.parted)

-- faults that are taken have no backup left
pub faults-taken : (frame : Frame) (paid trial : ℕ) {taken before r : Taken} → r.backup ≡ 0 → Taking paid trial (λ L. up L frame.interval * taken.backup) before r
    → ((total left : ℕ → ℕ) → Passed total paid trial left taken → Passed total paid trial left before) → TakingFaults frame paid trial taken r
faults-taken frame paid trial {taken} {before} {r} none takes same total left rises known =
    passed-agree total paid trial (λ L. nothing L) (takes total left rises (same total _ known))
  where
    nothing : (L : ℕ) → left L ≡ left L + up L frame.interval * r.backup
    nothing L = let gone : up L frame.interval * r.backup ≡ up L frame.interval * 0 = ap (λ (n : ℕ). up L frame.interval * n) none in omega (arith, gone)

-- the faults, and then a term
pub both-taken : (frame : Frame) (paid trial : ℕ) (term : ℕ → ℕ) {taken between r : Taken} → Rising term → r.backup ≡ between.backup
    → TakingFaults frame paid trial taken between → Taking paid trial term between r → TakingBoth frame paid trial term taken r
both-taken frame paid trial term {taken} {between} {r} rising kept faults takes total left rises known =
    passed-agree total paid trial (λ L. ap (λ (n : ℕ). left L + up L frame.interval * n) (sym kept))
    (takes total (λ L. left L + struck_of frame between L) (rising-plus rises (rising-term frame.interval between.backup))
    (passed-agree total paid trial (λ L. omega arith) (faults total (λ L. left L + term L) (rising-plus rises rising) (passed-agree total paid trial (λ L. omega arith) known))))

-- nothing taken, where there is no term
pub none-taken : (frame : Frame) (paid trial : ℕ) (term : ℕ → ℕ) {taken : Taken} → ((L : ℕ) → term L ≡ 0) → TakingBoth frame paid trial term taken taken
none-taken frame paid trial term none total left rises known = passed-agree total paid trial (λ L. omega (arith, none L)) known

-- one term, and then others
pub more-taken : (frame : Frame) (paid trial : ℕ) (first others whole : ℕ → ℕ) {taken between r : Taken} → Rising others → ((L : ℕ) → whole L ≡ first L + others L)
    → TakingBoth frame paid trial first taken between → TakingBoth frame paid trial others between r → TakingBoth frame paid trial whole taken r
more-taken frame paid trial first others whole rising split one rest total left rises known =
    rest total left rises
    (passed-agree total paid trial (λ L. omega arith)
    (one total (λ L. left L + others L) (rising-plus rises rising) (passed-agree total paid trial (λ L. omega (arith, split L)) known)))

-- all terms of a demand, one after the other: the supplier's, those of the tasks before its rank, those of the tasks after it, and the faults where they are left
pub all-taken : (frame : Frame) (paid trial base round left : ℕ) (total before after : ℕ → ℕ) {nothing shared above between all : Taken} → Rising before → Rising after
    → ((L : ℕ) → total L ≡ base + (before L + after L + struck_of frame nothing L + up L round * left))
    → nothing.rest ≡ total trial → nothing.rate ≡ 0 → nothing.found ≡ 0 → shared.backup ≡ nothing.backup
    → Taking paid trial (λ L. up L round * left) nothing shared → TakingBoth frame paid trial before shared above → TakingBoth frame paid trial after above between → TakingFaults frame paid trial between all
    → Passed total paid trial (λ L. base + struck_of frame all L) all
all-taken frame paid trial base round left total before after {nothing} {shared} {above} {between} {all} rise-before rise-after parts rest rate found kept first second third last =
    last total (λ L. base) (rising-base base)
    (third total (λ L. base) (rising-base base)
    (passed-agree total paid trial (λ L. omega arith)
    (second total (λ L. base + after L) (rising-plus (rising-base base) rise-after)
    (passed-agree total paid trial (λ L. omega (arith, backup L)) (first total others (rising-plus (rising-plus (rising-base base) (rising-plus rise-before rise-after)) (rising-term frame.interval nothing.backup)) (passed-agree total paid trial (λ L. omega (arith, parts L)) start))))))
  where
    others : ℕ → ℕ
    others L = base + (before L + after L) + struck_of frame nothing L

    backup : (L : ℕ) → struck_of frame shared L ≡ struck_of frame nothing L
    backup L = ap (λ (n : ℕ). up L frame.interval * n) kept

    start : Passed total paid trial total nothing
    start =
        record {
          rest = rest;
          parted = λ L past. let none : L * nothing.rate ≡ L * 0 = ap (λ (n : ℕ). L * n) rate in omega (arith, none);
          found = λ L past enough. omega (arith, found);
        }

-- a length before the longer of what the trial asks and what is found asks more than itself
pub jump-missed : (s : Tasks) (d : Demand) (trial : ℕ) (left : ℕ → ℕ) {taken : Taken} {asked r : ℕ} → asked ≡ demand_of s d trial → Passed (λ L. d.base + load_of s d L) d.paid trial left taken
    → r ≡ max asked taken.found → Missed (demand_of s d) trial r
unfolding demand_of
jump-missed s d trial left {taken} {asked} {r} asks known longer L past below = go (dec_lt L (d.base + load_of s d L - d.paid))
  where
    go : Dec (L < d.base + load_of s d L - d.paid) → L < d.base + load_of s d L - d.paid
    go (yes more) = more
    go (no enough) = absurd (omega (arith, asks, longer, known.found L past (omega arith), demand-rises s d trial L past))

-- and so does each before what the trial asks
pub asked-missed : (s : Tasks) (d : Demand) (trial : ℕ) {asked : ℕ} → asked ≡ demand_of s d trial → Missed (demand_of s d) trial asked
asked-missed s d trial asks L past below = omega (arith, asks, demand-rises s d trial L past)
