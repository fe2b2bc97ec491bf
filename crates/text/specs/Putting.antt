-- What the code lays a text into an output with: a text of a known size from a place on. An inner device; no public promise cites it.
use Rattle.std.specs.Prelude.{ℕ, ◌≡◌, List, length}
use Rattle.std.proofs.lemmas.List.Edits.{sets}

-- the output after it is the one before it with the text from the place on
pub record Put (before : List ℕ) (at : ℕ) (text : List ℕ) (size : ℕ) (after : List ℕ) : Type 0 where
  pub long : length text ≡ size
  pub content : after ≡ sets before at text
