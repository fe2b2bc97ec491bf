-- `choices::lister::fill` meets its contract: before each turn the entries so far are put, and the rest of the list is left. Assumes nothing.
use Rattle.std.proofs.Common.{ℕ, zero, suc, ◌+◌, ◌*◌, ◌<◌, List, [], ◌∷◌, length, get_or, take, drop, ◌≡◌, refl, sym, ap, ap₂, subst, ◌∙◌, arith}
use mathlib.Core.List.{Memᴰ as In}
use mathlib.Core.List.Memᴰ.{head as here, tail as later}
use native.Mathlib.Numerals.{add-one}
use native.Mathlib.Nat.{le_of_eq}
use lib.ListN.{length-drop}
use lib.Seq.{sets, take_all, drop-cons, length-take-le}
use Rattle.sheet.proofs.Stores.{sets-after}
use Rattle.analysis.specs.Bounds.Within.{within_answer}
use Rattle.analysis.specs.Bounds.Lent.{bounds_lent}
use Rattle.choices.specs.declared.within.Within.{Within}
use Rattle.choices.specs.Order.{after_of}
use Rattle.choices.specs.Answers.{entry_bytes, bytes_of}
use Rattle.choices.specs.Stepping.{IsSmall, within_of}
use Rattle.choices.proofs.Listed.{from_zero, listed_small}
use Rattle.choices.proofs.Entries.{length-bytes, bytes-more, list-stored}
use Rattle.choices.proofs.lister.fill.Invariants.{Put}
use Rattle.choices.proofs.lister.fill.Goals as goal

-- a turn: the first choice of what is left of a list is the one at its place
module _ (list : List (List ℕ)) (n : ℕ) (c : List ℕ) (rest : List (List ℕ)) (first : drop n list ≡ c ∷ rest) where
  below : n < length list
  below = omega (arith, length-drop n list, ap length first)

  split : get_or list n [] ∷ drop (suc n) list ≡ c ∷ rest
  split = sym (drop-cons list n [] below) ∙ first

  same : c ≡ get_or list n []
  same = cc split

  after : rest ≡ drop (n + 1) list
  after = rw add-one (cc split)

dropped : {c : List ℕ} (n : ℕ) (list : List (List ℕ)) → In c (drop n list) → In c list
dropped zero list member = member
dropped (suc n) [] member = member
dropped (suc n) (d ∷ list) member = later (dropped n list member)

narrow : (within : Within) (n : ℕ) (c : List ℕ) (rest : List (List ℕ)) → drop n (within_of within.rule within.bounds.now) ≡ c ∷ rest → IsSmall c
unfolding within_of
narrow within n c rest first =
    (listed_small within.bounds.now.priorities (λ choice. (within_answer within.rule (bounds_lent within.bounds.now) choice).yes) within.levels
    (dropped n _ (subst (In c) (sym first) (here refl)))).1

pub loop-choice-init : goal.loop-choice-init
unfolding bytes_of within_of
loop-choice-init c =
    let within : Within = c.args.within in
    let whole : after_of within.choice (within_of within.rule within.bounds.now) ≡ within_of within.rule within.bounds.now =
    rw c.requires.start (from_zero within.bounds.now.priorities (λ choice. (within_answer within.rule (bounds_lent within.bounds.now) choice).yes) within.levels) in
    (tt, tt, record { below = omega arith; after = ap (λ (w : Within). after_of w.choice (within_of w.rule w.bounds.now)) c.into_iter-choice-iterator.ensures.into_iter_gives ∙ whole; long = refl; content = refl })

pub overflow_mul-entries : goal.overflow_mul-entries
overflow_mul-entries c = omega (arith, below _ c.loop-choice.entries _ _ (sym c.loop-choice.invariant.2.after ∙ c.in-Some.ensures.steps), c.requires.room)

pub put_entry-requires : goal.put_entry-requires
put_entry-requires c =
    let first = sym c.loop-choice.invariant.2.after ∙ c.in-Some.ensures.steps in
    record {
      room = omega (arith, below _ c.loop-choice.entries _ _ first, c.requires.room, c.loop-choice.invariant.2.long);
      narrow = narrow c.args.within c.loop-choice.entries _ _ first;
    }

pub overflow_add-entries : goal.overflow_add-entries
overflow_add-entries c = omega (arith, below _ c.loop-choice.entries _ _ (sym c.loop-choice.invariant.2.after ∙ c.in-Some.ensures.steps), c.requires.room)

pub loop-choice-preserved : goal.loop-choice-preserved
loop-choice-preserved c =
    let at = c.loop-choice in
    let so_far : Put (within_of c.args.within.rule c.args.within.bounds.now) _ c.args.out.now at.out at.entries = at.invariant.2 in
    let list : List (List ℕ) = within_of c.args.within.rule c.args.within.bounds.now in
    let first = sym so_far.after ∙ c.in-Some.ensures.steps in
    let there = below list at.entries _ _ first in
    let put = bytes_of (take at.entries list) in
    let reached : 4 * at.entries ≡ 0 + length put = omega (arith, length-bytes (take at.entries list), length-take-le at.entries list so_far.below) in (
      tt,
      tt,
      record {
        below = omega (arith, there);
        after = after list at.entries _ _ first;
        long = c.put_entry.auto.out ∙ so_far.long;
        content = c.put_entry.ensures ∙ ap₂ (λ (l b : List ℕ). sets l (4 * at.entries) b) so_far.content (ap entry_bytes (same list at.entries _ _ first))
            ∙ sets-after c.args.out.now put (entry_bytes (get_or list at.entries [])) 0 (4 * at.entries) reached
            ∙ ap (sets c.args.out.now 0) (sym (bytes-more list at.entries there));
      },
    )

pub returns : goal.returns
returns c =
    let at = c.loop-choice in
    let list : List (List ℕ) = within_of c.args.within.rule c.args.within.bounds.now in
    let nothing : length (drop at.entries list) ≡ 0 = ap length (sym at.invariant.2.after ∙ c.in-None.ensures.steps.0) in
    let all : at.entries ≡ length list = omega (arith, length-drop at.entries list, at.invariant.2.below) in
    record {
      number = all;
      content = at.invariant.2.content ∙ ap (λ (l : List (List ℕ)). sets c.args.out.now 0 (bytes_of l)) (take_all at.entries list (le_of_eq (sym all))) ∙ list-stored list c.args.out.now c.requires.room;
    }
