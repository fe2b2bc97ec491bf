-- `report::choice_line` meets its contract: before each turn the entries below the place are put, four bytes or fewer for each. Assumes nothing.
use Prim.Native.Nat.{ℕ, ◌<◌, min}
use lib.ListN.{get_or, take}
use lib.Seq.{length-take-le}
use Rattle.std.proofs.lemmas.List.{get_or-take}
use Rattle.report.specs.Putting.{put}
use Rattle.report.specs.Decimal.{decimal}
use mathlib.Core.Path.{◌≡◌, sym, ap, ◌∙◌}
use mathlib.Core.List.{List, ◌++◌}
use native.Mathlib.Omega.{arith}
use Rattle.places.specs.Places.{joined_below}
use Rattle.places.proofs.Turns.{joined-more}
use Rattle.report.specs.Words.{pass_word, space, newline}
use Rattle.report.specs.Texts.{line_of, entry_text, choice_text}
use Rattle.report.proofs.Putting.{line-more, len-line}
use borrow.Author.Rules.{rules}
use Rattle.report.proofs.choice_line.Goals as goal

pub loop-entry-init : goal.loop-entry-init
unfolding joined_below
loop-entry-init c = (search rules, omega (arith, len-line pass_word c.begun-line.ensures), c.begun-line.ensures)

pub loop-entry-preserved : goal.loop-entry-preserved
unfolding entry_text
loop-entry-preserved c =
    let at = c.loop-entry in
    let choice = c.args.choice in
    let text = entry_text choice in
    let below : at.entry-index < c.min.result = omega (arith, length-take-le c.min.result choice (search rules)) in
    let here : get_or (take c.min.result choice) at.entry-index 0 ≡ get_or choice at.entry-index 0 = get_or-take c.min.result choice at.entry-index 0 below in (
      search rules,
      search rules,
      line-more (pass_word ++ joined_below text at.entry-index) (text at.entry-index) at.invariant.2 (c.with_entry-line.ensures.answer ∙ ap (λ (entry : ℕ). put at.line (space ++ decimal entry)) here)
          ∙ ap (λ (entries : List ℕ). line_of (pass_word ++ entries)) (sym (joined-more text at.entry-index)),
    )

pub returns : goal.returns
unfolding choice_text
returns c =
    let at = c.loop-entry in
    let choice = c.args.choice in
    let text = entry_text choice in
    let count : c.min.result ≡ min c.args.count 8 = grind arith in
    let all : at.entry-index ≡ min c.args.count 8 = omega (arith, count, length-take-le c.min.result choice (search rules)) in
    line-more (pass_word ++ joined_below text at.entry-index) newline at.invariant.2 c.with_word.ensures ∙ ap (λ (n : ℕ). line_of (pass_word ++ joined_below text n ++ newline)) all
