-- `fidhaqooban::given::entries_of` meets its contract: before each turn the choice's entries are those still in the rest, and then those put.
-- Assumes nothing.
use Prim.Native.Nat.{ℕ, suc, ◌^◌, ◌<◌, ◌-◌}
use mathlib.Core.Path.{◌≡◌, refl, sym, ap, ◌∙◌, subst}
use mathlib.Core.List.{◌++◌, append-nil}
use native.Mathlib.Omega.{arith}
use lib.ListN.{drop, replicate, length-set}
use Rattle.sheet.specs.Packing.{bits_of, unpacked}
use Rattle.fidhaqooban.specs.Numbers.{entries_of}
use Rattle.fidhaqooban.proofs.Fields.{unpacked-more, read_more}
use borrow.Author.Rules.{rules}
use Rattle.fidhaqooban.proofs.given.entries_of.Goals as goal

pub loop-place-init : goal.loop-place-init
loop-place-init c = (search rules, refl, omega arith, sym (append-nil (unpacked (replicate 8 4) c.args.choice)))

pub loop-place-preserved : goal.loop-place-preserved
loop-place-preserved c =
    let at = c.loop-place in
    let known = at.invariant in
    let last : at.place ≡ suc (at.place - 1) = omega arith in
    let room = subst (λ (n : ℕ). at.rest < 2 ^ bits_of (replicate n 4)) last known.2 in
    let read = subst (λ (n : ℕ). unpacked (replicate 8 4) c.args.choice ≡ unpacked (replicate n 4) at.rest ++ drop n at.entries) last known.3 in
    (omega arith, simp length-set known.1, (unpacked-more 4 (at.place - 1) at.rest room).1, read_more 4 (at.place - 1) at.rest at.entries _ (omega arith) room read)

pub returns : goal.returns
unfolding entries_of
returns c =
    let at = c.loop-place in
    let all : at.place ≡ 0 = omega arith in
    sym (at.invariant.3 ∙ ap (λ (n : ℕ). unpacked (replicate n 4) at.rest ++ drop n at.entries) all)
