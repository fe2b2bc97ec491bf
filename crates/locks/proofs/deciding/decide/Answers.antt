-- `locks::deciding::decide` meets its contract. Assumes nothing.
use mir.Syntax.{w64}
use Prim.Native.Nat.{ℕ}
use mathlib.Core.Path.{◌≡◌, sym, ap, ap₂, ◌∙◌}
use mathlib.Core.Bool.{Bool, true, not, ◌&&◌}
use borrow.Author.Tests.{not-true, not-false}
use lib.Dec.{leb}
use lib.IntN.{ℤ, pos, ◌-ℤ◌}
use mir.Facts.{to_z-of_z}
use Rattle.locks.specs.Jobs.{is_critical}
use Rattle.locks.specs.Ceilings.{barred}
use Rattle.locks.proofs.Given.{good-starts}
use Rattle.locks.proofs.Cases.{accepted, asked_low}
use Rattle.locks.proofs.Answered.{answer-plain, answer-critical}
use Rattle.locks.proofs.deciding.decide.Goals as goal

pub barred-is_above-requires : goal.barred-is_above-requires
barred-is_above-requires c = (good-starts _ (accepted _ _ _ c.requires).starts).few

pub some_uses-requires : goal.some_uses-requires
some_uses-requires c =
    let fine = accepted _ _ _ c.requires in
    record {
      few = (good-starts _ fine.starts).few;
      known = asked_low _ _ fine.asked;
    }

pub returns-then-not-some_uses : goal.returns-then-not-some_uses
unfolding barred is_critical
returns-then-not-some_uses c =
    ap (λ (b : Bool). record { refusal = 0; granted = not b; margin = pos 0 }) c.barred-is_above.ensures
    ∙ sym (answer-plain _ _ _ c.requires (sym c.some_uses.ensures ∙ not-true c.some_uses.result (ap not c.if-not-some_uses.true)))

pub free_time-free-requires : goal.free_time-free-requires
unfolding is_critical
free_time-free-requires c =
    let critical : let given = c.args in is_critical given.starts given.request.resource ≡ true = sym c.some_uses.ensures ∙ not-false c.some_uses.result (ap not c.if-not-some_uses.false) in
    let fine = accepted _ _ _ c.requires in
    record {
      good = fine.starts;
      idle = fine.idle;
      critical = critical;
      known = asked_low _ _ fine.asked;
    }

pub returns : goal.returns
unfolding barred is_critical
returns c =
    let critical : let given = c.args in is_critical given.starts given.request.resource ≡ true = sym c.some_uses.ensures ∙ not-false c.some_uses.result (ap not c.if-not-some_uses.false) in
    let bar = c.barred-is_above.ensures in
    let free = c.free_time-free.ensures.exact in
    let margin = to_z-of_z {w = w64} (record { sfits = c.margin.type_inv }) ∙ c.margin.ensures ∙ ap (λ (f : ℕ). pos f -ℤ pos c.args.request.length) free in
    let granted = ap₂ (λ (b : Bool) (f : ℕ). not b && leb c.args.request.length f) bar free in
    ap₂ (λ (g : Bool) (m : ℤ). record { refusal = 0; granted = g; margin = m }) granted margin
    ∙ sym (answer-critical _ _ _ c.requires critical)
