-- The counts over a log: on 64 bits they are the true totals' remainders, and the true totals are small beside the log. Assumes nothing.
use Rattle.std.proofs.Common.{◌≡◌, ℕ, ◌+◌, ◌*◌, ◌/◌, ◌%◌, ◌^◌, ◌<◌, ◌≤◌, Bool, true, false, not, ◌&&◌, eqb, List, [], ◌∷◌, length, sym, refl, ap, ◌∙◌, add-zero, add_assoc, mod-eq_of_lt, zero-add, arith}
use native.Mathlib.Nat.{mod-add-mod}
use Rattle.places.specs.Places.{one_if}
use Rattle.places.proofs.Counted.{one_at_most, count-at-most}
use Rattle.replay.specs.declared.Cell.{Cell}
use Rattle.replay.specs.declared.Tally.{Tally}
use Rattle.replay.specs.declared.Machine.{Machine}
use Rattle.replay.specs.Ticks.Tick.{is_released}
use Rattle.replay.specs.Ticks.Cells.{cell_at}
use Rattle.replay.specs.Ticks.Step.{is_missed}
use Rattle.replay.specs.Ticks.Counts.{cell_of, gains, no_tally, wrapped, added}
use Rattle.replay.specs.Ticks.Machines.{cells_entered, runner_of, cells_ran, tick_gains, tick}
use Rattle.replay.specs.Logs.Over.{ran_over}
use Rattle.replay.specs.Logs.Totals.{plus, totals_over}

-- each count of a tally lies below a bound
pub record Below (bound : ℕ) (t : Tally) : Type 0 where
  pub first_attempts : t.first_attempts < bound
  pub backups : t.backups < bound
  pub idle : t.idle < bound
  pub released : t.released < bound
  pub finished : t.finished < bound
  pub missed : t.missed < bound

-- what fits 64 bits does not wrap
fit : (a b : ℕ) → a + b < 2 ^ 64 → wrapped a b ≡ a + b
fit a b small = mod-eq_of_lt small

again : (a b c : ℕ) → wrapped (wrapped a b) c ≡ wrapped a (b + c)
again a b c = mod-add-mod (a + b) (2 ^ 64) c ∙ ap (λ (n : ℕ). n % 2 ^ 64) (add_assoc a b c)

none_more : (a : ℕ) → a < 2 ^ 64 → a ≡ wrapped a 0
none_more a small = sym (fit a 0 (omega arith) ∙ add-zero a)

added_none : (t : Tally) → Below (2 ^ 64) t → t ≡ added t no_tally
unfolding added
added_none t small =
    λ i. record {
      first_attempts = none_more t.first_attempts small.first_attempts i;
      backups = none_more t.backups small.backups i;
      idle = none_more t.idle small.idle i;
      released = none_more t.released small.released i;
      finished = none_more t.finished small.finished i;
      missed = none_more t.missed small.missed i;
    }

added-again : (a b c : Tally) → added (added a b) c ≡ added a (plus b c)
unfolding added plus
added-again a b c =
    λ i. record {
      first_attempts = again a.first_attempts b.first_attempts c.first_attempts i;
      backups = again a.backups b.backups c.backups i;
      idle = again a.idle b.idle c.idle i;
      released = again a.released b.released c.released i;
      finished = again a.finished b.finished c.finished i;
      missed = again a.missed b.missed c.missed i;
    }

wrapped-small : (a b : ℕ) → wrapped a b < 2 ^ 64
wrapped-small a b = omega arith

added-small : (a b : Tally) → Below (2 ^ 64) (added a b)
unfolding added
added-small a b =
    record {
      first_attempts = wrapped-small a.first_attempts b.first_attempts;
      backups = wrapped-small a.backups b.backups;
      idle = wrapped-small a.idle b.idle;
      released = wrapped-small a.released b.released;
      finished = wrapped-small a.finished b.finished;
      missed = wrapped-small a.missed b.missed;
    }

-- the tally after a log is the one before it and the log's totals, on 64 bits
pub tally-wraps : (m : Machine) (log : List ℕ) → Below (2 ^ 64) m.tally → (ran_over m log).tally ≡ added m.tally (totals_over m log)
unfolding ran_over totals_over tick
tally-wraps m [] small = added_none m.tally small
tally-wraps m (r ∷ []) small = added_none m.tally small
tally-wraps m (r ∷ f ∷ log) small =
    tally-wraps (tick m r f) log (added-small m.tally (tick_gains m r f)) ∙ added-again m.tally (tick_gains m r f) (totals_over (tick m r f) log)

-- what one tick adds is at most 8 to each count
gains-small : (releases runner : ℕ) (before after : List Cell) → Below 9 (gains releases runner before after)
unfolding gains
gains-small releases runner before after =
    record {
      first_attempts = omega (arith, one_at_most (not (eqb runner 0) && not (cell_of before runner).is_backup));
      backups = omega (arith, one_at_most (not (eqb runner 0) && (cell_of before runner).is_backup));
      idle = omega (arith, one_at_most (eqb runner 0));
      released = omega (arith, count-at-most (is_released releases) 8);
      finished = omega (arith, one_at_most (not (eqb runner 0) && eqb (cell_of after runner).left 0));
      missed = omega (arith, count-at-most (λ slot. is_missed (cell_at after slot)) 8);
    }

tick-small : (m : Machine) (r f : ℕ) → Below 9 (tick_gains m r f)
unfolding tick_gains
tick-small m r f = gains-small r (runner_of m r) (cells_entered m r) (cells_ran m r f)

pub widen : {x y : ℕ} {t : Tally} → Below x t → x ≤ y → Below y t
widen w h =
    record {
      first_attempts = omega (arith, w.first_attempts);
      backups = omega (arith, w.backups);
      idle = omega (arith, w.idle);
      released = omega (arith, w.released);
      finished = omega (arith, w.finished);
      missed = omega (arith, w.missed);
    }

plus-small : (x y : ℕ) (a b : Tally) → Below (x + 1) a → Below (y + 1) b → Below (x + y + 1) (plus a b)
unfolding plus
plus-small x y a b p q =
    record {
      first_attempts = omega (arith, p.first_attempts, q.first_attempts);
      backups = omega (arith, p.backups, q.backups);
      idle = omega (arith, p.idle, q.idle);
      released = omega (arith, p.released, q.released);
      finished = omega (arith, p.finished, q.finished);
      missed = omega (arith, p.missed, q.missed);
    }

none-small : Below 1 no_tally
none-small = record { first_attempts = omega arith; backups = omega arith; idle = omega arith; released = omega arith; finished = omega arith; missed = omega arith }

-- a log's totals are at most 8 for each tick, which is 4 for each byte
pub totals-small : (m : Machine) (log : List ℕ) → Below (4 * length log + 1) (totals_over m log)
unfolding totals_over
totals-small m [] = none-small
totals-small m (r ∷ []) = widen none-small (omega arith)
totals-small m (r ∷ f ∷ log) =
    widen (plus-small 8 (4 * length log) (tick_gains m r f) (totals_over (tick m r f) log) (tick-small m r f) (totals-small (tick m r f) log)) (omega arith)

-- below 2 ^ 64 nothing wraps
from-none : (a : ℕ) → a < 2 ^ 64 → wrapped 0 a ≡ a
from-none a small = ap (λ (n : ℕ). n % 2 ^ 64) (zero-add a) ∙ mod-eq_of_lt small

pub added-exact : (t : Tally) → Below (2 ^ 64) t → added no_tally t ≡ t
unfolding added
added-exact t small =
    λ i. record {
      first_attempts = from-none t.first_attempts small.first_attempts i;
      backups = from-none t.backups small.backups i;
      idle = from-none t.idle small.idle i;
      released = from-none t.released small.released i;
      finished = from-none t.finished small.finished i;
      missed = from-none t.missed small.missed i;
    }

-- a tick is of a first attempt, of a backup or idle
one_of_three : (a b : Bool) → one_if (not a && not b) + one_if (not a && b) + one_if a ≡ 1
unfolding one_if
one_of_three true true = refl
one_of_three true false = refl
one_of_three false true = refl
one_of_three false false = refl

tick-one : (m : Machine) (r f : ℕ) → (tick_gains m r f).first_attempts + (tick_gains m r f).backups + (tick_gains m r f).idle ≡ 1
unfolding tick_gains gains
tick-one m r f = one_of_three (eqb (runner_of m r) 0) (cell_of (cells_entered m r) (runner_of m r)).is_backup

-- the three tick counts of a log add up to its ticks
pub ticks-add-up : (m : Machine) (log : List ℕ) → (totals_over m log).first_attempts + (totals_over m log).backups + (totals_over m log).idle ≡ length log / 2
unfolding totals_over plus
ticks-add-up m [] = refl
ticks-add-up m (r ∷ []) = refl
ticks-add-up m (r ∷ f ∷ log) = omega (arith, tick-one m r f, ticks-add-up (tick m r f) log)
