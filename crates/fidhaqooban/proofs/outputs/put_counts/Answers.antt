-- `fidhaqooban::outputs::put_counts` meets its contract. Assumes nothing.
use Rattle.std.proofs.Common.{ℕ, List, ◌++◌, drop, sym, ap, ◌∙◌}
use Rattle.std.proofs.lemmas.List.Edits.{sets-eq}
use Rattle.fidhaqooban.specs.Numbers.{count_numbers}
use Rattle.fidhaqooban.proofs.outputs.put_counts.Goals as goal

pub returns : goal.returns
unfolding count_numbers
returns c = ap (λ (l : List ℕ). l ++ drop 7 c.args.out.now) c.copy_from_slice.ensures.after ∙ sym (sets-eq (count_numbers c.args.counts) c.args.out.now 0 c.requires)
