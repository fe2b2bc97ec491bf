-- `release::deciding::between` meets its contract. Assumes nothing.
use Prim.Native.Nat.{ℕ, ◌<◌}
use mathlib.Core.Bool.{Bool, ◌&&◌}
use mathlib.Core.Path.{sym, ap, ap₂, subst, ◌∙◌}
use borrow.Author.Tests.{eq-eqb, ne_eqb}
use Rattle.places.proofs.Agree.{some-agree}
use Rattle.places.proofs.Answered.{broken_of, ok_answered, err_answered}
use Rattle.sheet.proofs.Cases.{good-table}
use Rattle.release.specs.Rules.{is_protected, grows, grows_at, some_grows}
use Rattle.release.specs.Answers.{is_loaded, decided}
use Rattle.release.proofs.Said.{assessed-fine, passes-said, outcome-said}
use Rattle.release.proofs.deciding.between.Goals as goal

pub returns-then-old-new : goal.returns-then-old-new
unfolding decided
returns-then-old-new c = err_answered _ _ (simp (ne_eqb _ _ c.if-old-new.true))

pub returns-then-some_outside : goal.returns-then-some_outside
unfolding decided
returns-then-some_outside c =
    let same = c.if-old-new.false in
    let said = sym c.some_outside.ensures ∙ c.if-some_outside.true in
    err_answered _ _ (simp (eq-eqb _ _ same, said))

pub returns-in_err-before : goal.returns-in_err-before
returns-in_err-before c = absurd (broken_of _ _ c.in_err-before.ensures (assessed-fine c.args.old c.requires.good_old))

pub returns-in_err-after : goal.returns-in_err-after
returns-in_err-after c = absurd (broken_of _ _ c.in_err-after.ensures (assessed-fine c.args.new c.requires.good_new))

pub some_grows-requires : goal.some_grows-requires
some_grows-requires c = (good-table c.args.old c.requires.good_old).count.1

pub returns : goal.returns
unfolding decided is_loaded some_grows grows_at
returns c =
    let given = c.args in
    let same = c.if-old-new.false in
    let said = sym c.some_outside.ensures ∙ c.if-some_outside.false in
    let before = outcome-said given.old c.requires.good_old c.in_ok-before.ensures in
    let after = outcome-said given.new c.requires.good_new c.in_ok-after.ensures in
    let growing = c.some_grows.ensures
    ∙ some-agree given.old.count (λ place below. ap (λ (b : Bool). is_protected given.protected place && b) (ap₂ grows (before place below) (after place (subst (λ (n : ℕ). place < n) same below)))) in
    ok_answered _ _ (simp (eq-eqb _ _ same, said)) (simp (eq-eqb _ _ same, said, passes-said given.new c.requires.good_new c.in_ok-after.ensures, growing))
