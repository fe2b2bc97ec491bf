-- What `fq_slack` answers and leaves in each of its cases, by its refusal. Assumes nothing.
use Prim.Native.Nat.{ℕ}
use mathlib.Core.Path.{◌≡◌, refl, sym, ap, ◌∙◌}
use mathlib.Core.List.{List}
use borrow.Author.Tests.{eq-eqb, ne_eqb}
use lib.IntN.{ℤ}
use lib.ListN.{length}
use Rattle.places.proofs.Refusals.{first_of, next-of}
use Rattle.sheet.specs.Layout.{table_of}
use Rattle.sheet.specs.Answers.{place_refusal}
use Rattle.analysis.specs.declared.Slack.{Slack}
use Rattle.analysis.specs.Published.Answers.{entry_of}
use Rattle.analysis.specs.Common.Entries.{own_tasks}
use Rattle.fidhaqooban.specs.Numbers.{answer_of, figures_of, figure_in}
use Rattle.fidhaqooban.specs.Answers.{slack_refusal, slack_number, slack_left}
use Rattle.fidhaqooban.proofs.Answered.{answered}

module _ (s : List ℕ) (place : ℕ) (out : List ℤ) where
  -- the answer and the output of a call
  abbrev pub Slacked : ℤ → List ℤ → Type 0
  Slacked answer left = (answer ≡ slack_number s place out) × (left ≡ slack_left s place out)

  -- refused, minus the number beside the output as it was
  pub refused-slack : (refusal : ℕ) → (refusal ≡ 0 → ⊥) → refusal ≡ slack_refusal s place out → Slacked (answer_of refusal 0) out
  unfolding slack_number slack_left
  refused-slack refusal broken is = (
    answered refusal 0 (figures_of (entry_of (own_tasks (table_of s)) place).slack) (λ none. absurd (broken none))
        ∙ ap (λ (r : ℕ). answer_of r (figures_of (entry_of (own_tasks (table_of s)) place).slack)) is,
    simp (ne_eqb (slack_refusal s place out) 0 (λ none. broken (is ∙ none))),
  )

  -- else the number of figures beside the output with the figure
  pub given-slack : (slack : Slack) → slack_refusal s place out ≡ 0 → slack ≡ (entry_of (own_tasks (table_of s)) place).slack → Slacked (answer_of 0 (figures_of slack)) (figure_in slack out)
  unfolding slack_number slack_left
  given-slack slack fine is = simp (fine, is) (refl, refl)

  -- the refusal of a refused place is that of the call
  pub place-first : (place_refusal s place ≡ 0 → ⊥) → place_refusal s place ≡ slack_refusal s place out
  unfolding slack_refusal
  place-first broken = sym (first_of (place_refusal s place) _ broken)

  -- 11 where there is no room, and else none
  pub no_room : place_refusal s place ≡ 0 → length out ≡ 0 → 11 ≡ slack_refusal s place out
  unfolding slack_refusal
  no_room fine empty = sym (next-of _ fine ∙ simp (eq-eqb (length out) 0 empty))

  pub room-there : place_refusal s place ≡ 0 → (length out ≡ 0 → ⊥) → slack_refusal s place out ≡ 0
  unfolding slack_refusal
  room-there fine some = next-of _ fine ∙ simp (ne_eqb (length out) 0 some)
