-- `report::composing::with_word` meets its contract: the word is copied after what the line holds. Assumes nothing.
use Rattle.std.proofs.Common.{ℕ, List, rules, ◌+◌, ap, length, refl}
use Rattle.report.specs.Putting.{put}
use Rattle.report.proofs.Pages.{put_sets}
use Rattle.report.proofs.composing.with_word.Goals as goal

pub returns : goal.returns
unfolding put
returns c =
    let line = c.args.line in
    let word = c.args.word.now in
    ap (λ (bytes : List ℕ). record { bytes = bytes; len = line.len + length word }) (put_sets line.bytes word _ line.len _ c.copy_from_slice.ensures.after refl (search rules))
