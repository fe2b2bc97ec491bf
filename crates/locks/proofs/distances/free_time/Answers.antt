-- `locks::distances::free_time` meets its contract: what is left of the distance of the next start is the free ticks before it. Assumes nothing.
use Prim.Native.Nat.{ℕ, ◌%◌}
use mathlib.Core.Path.{◌≡◌, ap, ap₂, ◌∙◌}
use native.Mathlib.Omega.{arith}
use Rattle.locks.specs.Distances.{nearest, between}
use Rattle.locks.proofs.Given.{good-starts}
use Rattle.locks.proofs.Tied.{near-inside, free-tied}
use borrow.Author.Rules.{rules}
use Rattle.locks.proofs.distances.free_time.Goals as goal

pub phase-phase-requires : goal.phase-phase-requires
phase-phase-requires c = (good-starts _ c.requires.good).some

pub nearest-near-requires : goal.nearest-near-requires
nearest-near-requires c = record {
  few = (good-starts _ c.requires.good).few;
  known = search rules;
  inside = c.phase-phase.ensures.below;
}

pub between-requires : goal.between-requires
between-requires c = record {
  few = (good-starts _ c.requires.good).few;
  inside = c.phase-phase.ensures.below;
}

pub overflow_sub-result : goal.overflow_sub-result
overflow_sub-result c =
    let tied : let starts = c.args.starts in let phase = c.args.time % starts.period in (c.nearest-near.result ≡ nearest starts.period phase c.args.resource starts.jobs starts.count) × (c.between.result ≡ between starts.period phase (nearest starts.period phase c.args.resource starts.jobs starts.count) starts.jobs starts.count) = (
    let starts = c.args.starts in
    let phase = c.phase-phase.ensures.rest in
    let near = c.nearest-near.ensures ∙ ap (λ (p : ℕ). nearest starts.period p c.args.resource starts.jobs starts.count) phase in
    (near, c.between.ensures ∙ ap₂ (λ (p n : ℕ). between starts.period p n starts.jobs starts.count) phase near)
    ) in
    omega (arith, tied, free-tied c.args.starts c.args.time (good-starts _ c.requires.good) c.requires.idle c.args.resource c.requires.critical)

pub returns : goal.returns
returns c =
    let tied : let starts = c.args.starts in let phase = c.args.time % starts.period in (c.nearest-near.result ≡ nearest starts.period phase c.args.resource starts.jobs starts.count) × (c.between.result ≡ between starts.period phase (nearest starts.period phase c.args.resource starts.jobs starts.count) starts.jobs starts.count) = (
    let starts = c.args.starts in
    let phase = c.phase-phase.ensures.rest in
    let near = c.nearest-near.ensures ∙ ap (λ (p : ℕ). nearest starts.period p c.args.resource starts.jobs starts.count) phase in
    (near, c.between.ensures ∙ ap₂ (λ (p n : ℕ). between starts.period p n starts.jobs starts.count) phase near)
    ) in
    let law = free-tied c.args.starts c.args.time (good-starts _ c.requires.good) c.requires.idle c.args.resource c.requires.critical in
    let inside = near-inside c.args.starts c.args.time (good-starts _ c.requires.good) c.requires.idle c.args.resource c.requires.critical in
    let both = tied in
    record {
      exact = omega (arith, both.0, both.1);
      small = omega (arith, both.0, inside.1);
    }
