-- What `show` answers: refused by the table, without room, or shown. Assumes nothing.
use Prim.Native.Nat.{ℕ, ◌≤◌, ◌<◌}
use mathlib.Core.Path.{◌≡◌, sym, ◌∙◌}
use mathlib.Core.List.{List, ◌++◌}
use native.Mathlib.Omega.{arith}
use borrow.Author.Tests.{lt-ltb, le-ltb, ne_eqb}
use lib.ListN.{length, drop}
use Rattle.places.proofs.Refusals.{next-of, first_of}
use Rattle.sheet.specs.declared.Table.{Table}
use Rattle.sheet.specs.Rules.{table_refusal}
use Rattle.text.specs.declared.Shown.{Shown}
use Rattle.text.specs.Shown.{text_size, shown_text}
use Rattle.text.specs.Answers.{show_refusal, show_answer, show_leaves}

module _ (t : Table) (out : List ℕ) where
  -- an answer beside what it leaves
  abbrev pub Answers : Shown → List ℕ → Type 0
  Answers shown left = (shown ≡ show_answer t out) × (left ≡ show_leaves t out)

  answers-refused : (refusal : ℕ) → show_refusal t out ≡ refusal → (refusal ≡ 0 → ⊥) → Answers (record { refusal = refusal; size = 0 }) out
  unfolding show_answer show_leaves
  answers-refused refusal is broken = (simp (is, ne_eqb refusal 0 broken), simp (is, ne_eqb refusal 0 broken))

  -- the table's refusal
  pub show-refused : (refusal : ℕ) → refusal ≡ table_refusal t → (refusal ≡ 0 → ⊥) → Answers (record { refusal = refusal; size = 0 }) out
  unfolding show_refusal
  show-refused refusal e broken = answers-refused refusal (first_of _ _ (λ z. broken (e ∙ z)) ∙ sym e) broken

  module _ (good : table_refusal t ≡ 0) where
    -- 11
    pub show-short : length out < text_size t → Answers (record { refusal = 11; size = 0 }) out
    unfolding show_refusal
    show-short short = answers-refused 11 (next-of _ good ∙ simp (lt-ltb (length out) (text_size t) short)) (λ z. omega arith)

    -- the text
    pub show-fits : text_size t ≤ length out → Answers (record { refusal = 0; size = text_size t }) (shown_text t ++ drop (text_size t) out)
    unfolding show_answer show_leaves show_refusal
    show-fits fits =
        let is : show_refusal t out ≡ 0 = next-of _ good ∙ simp (le-ltb (length out) (text_size t) fits) in
        (simp is, simp is)
