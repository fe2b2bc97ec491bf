-- What `split` finds are the line's cells, in their order. Assumes nothing.
use Prim.Native.Nat.{ℕ, zero, suc, ◌+◌, ◌-◌, ◌≤◌, ◌<◌, min}
use mathlib.Core.Path.{◌≡◌, refl, sym, ap, ap₂, ◌∙◌, subst}
use mathlib.Core.Bool.{Bool, true, false, cond, not, ◌&&◌}
use mathlib.Core.List.{List, [], ◌∷◌, ◌++◌, append_assoc, append-nil}
use native.Mathlib.Numerals.{add-one}
use native.Mathlib.Decide.{dec_lt}
use native.Mathlib.Omega.{arith}
use borrow.Author.Tests.{ne_eqb, eq-eqb, ltb-true, ltb-false, not-true}
use lib.Dec.{ltb}
use lib.ListN.{length, get_or, take, drop, set, length-append, length-drop, length-take, length-set, get_or-append}
use lib.Seq.{take-add, drop-drop, drop-cons, take_all, take_at, get_or_at, get_or-take, get_or-set_same, get_or-set_other}
use Rattle.places.specs.Places.{joined_below}
use Rattle.places.proofs.Agree.{joined-agree}
use Rattle.places.proofs.Tells.{both_true}
use Rattle.places.proofs.Turns.{joined-more}
use Rattle.places.proofs.Joined.{length-joined}
use Rattle.cells.specs.declared.Span.{Span}
use Rattle.cells.specs.declared.Cells.{Cells}
use Rattle.cells.specs.Kinds.{is_blank, separates, runs}
use Rattle.cells.specs.Cells.{empty_at, is_empty, turned, ends_cell, grown, within, span_after, no_cells, with_cell, cells_after, cells_at_end, cells_from, cells_of, part_of}
use Rattle.cells.specs.Raw.{is_none, cells_in, cell_at, listed}
use Rattle.cells.proofs.Cut.{never, spoken, Begun, fresh, begun, byte-begun, spoken-cells}

-- the bytes of a line from a place to another
abbrev piece : List ℕ → ℕ → ℕ → List ℕ
piece line a b = take (b - a) (drop a line)

-- a part that a line has
part-piece : (line : List ℕ) (start end : ℕ) → start ≤ end → end ≤ length line → part_of line start end ≡ piece line start end
unfolding part_of
part-piece line start end low fits =
    let stop : min end (length line) ≡ end = omega arith in
    let from : min start end ≡ start = omega arith in
    rw (stop, from) refl

piece-none : (line : List ℕ) (at : ℕ) → piece line at at ≡ []
piece-none line at =
    let none : at - at ≡ 0 = omega arith in
    rw none refl

-- two parts that meet
piece-joined : (line : List ℕ) (a b c : ℕ) → a ≤ b → b ≤ c → piece line a c ≡ piece line a b ++ piece line b c
piece-joined line a b c low high =
    let size : c - a ≡ (b - a) + (c - b) = omega arith in
    let at : a + (b - a) ≡ b = omega arith in
    rw size (take-add (b - a) (c - b) (drop a line) ∙ ap (λ (l : List ℕ). take (b - a) (drop a line) ++ take (c - b) l) (drop-drop (b - a) a line ∙ ap (λ (n : ℕ). drop n line) at))

-- one byte
piece-one : (line : List ℕ) (at : ℕ) → at < length line → piece line at (at + 1) ≡ get_or line at 0 ∷ []
piece-one line at below =
    let one : at + 1 - at ≡ 1 = omega arith in
    rw (one, drop-cons line at 0 below) refl

-- a part with the blanks and the byte after it
piece-more : (line : List ℕ) (a b at : ℕ) → a ≤ b → b ≤ at → at < length line → piece line a (at + 1) ≡ piece line a b ++ piece line b at ++ (get_or line at 0 ∷ [])
piece-more line a b at low high below =
    piece-joined line a at (at + 1) (omega arith) (omega arith) ∙ ap₂ ◌++◌ (piece-joined line a b at low high) (piece-one line at below)

-- a byte of a line at its place
record Next (line : List ℕ) (at byte : ℕ) (bytes : List ℕ) : Type 0 where
  below : at < length line
  is : get_or line at 0 ≡ byte
  rest : drop (at + 1) line ≡ bytes

next-byte : (line : List ℕ) (at byte : ℕ) (bytes : List ℕ) → drop at line ≡ byte ∷ bytes → Next line at byte bytes
next-byte line at byte bytes e =
    let below : at < length line = omega (arith, ap length e, length-drop at line) in
    let both = sym (drop-cons line at 0 below) ∙ e in
    record { below = below; is = cc; rest = rw add-one (cc) }

-- the cell that is being read: its bytes so far and the blanks after them
record Found (line : List ℕ) (span : Span) (at : ℕ) (cell blanks : List ℕ) : Type 0 where
  low : span.start ≤ span.end
  high : span.end ≤ at
  content : piece line span.start span.end ≡ cell
  gap : piece line span.end at ≡ blanks
  none : is_empty span ≡ is_none cell

found-next : (line : List ℕ) (at : ℕ) → Found line (empty_at at) at [] []
unfolding is_empty is_none
found-next line at = record { low = omega arith; high = omega arith; content = piece-none line at; gap = piece-none line at; none = eq-eqb at at refl }

module _ (line : List ℕ) (span : Span) (at byte : ℕ) (bytes cell blanks : List ℕ) (found : Found line span at cell blanks) (next : Next line at byte bytes) where
  -- a blank after the cell
  found-blank : Found line span (at + 1) cell (blanks ++ (byte ∷ []))
  found-blank =
      record {
        low = found.low;
        high = omega (arith, found.high);
        content = found.content;
        gap = piece-joined line span.end at (at + 1) found.high (omega arith) ∙ ap₂ ◌++◌ found.gap (piece-one line at next.below ∙ ap (λ (b : ℕ). b ∷ []) next.is);
        none = found.none;
      }

-- a byte of the cell
module _ (line : List ℕ) (span : Span) (at byte : ℕ) (bytes : List ℕ) (next : Next line at byte bytes) where
  found-byte : {cell blanks : List ℕ} {quoted : Bool} → Begun cell blanks quoted → Found line span at cell blanks → Found line (grown span byte at) (at + 1) (cell ++ blanks ++ (byte ∷ [])) []
  unfolding grown is_empty is_none
  found-byte fresh found =
      simp found.none
      (record {
        low = omega arith;
        high = omega arith;
        content = piece-one line at next.below ∙ ap (λ (b : ℕ). b ∷ []) next.is;
        gap = piece-none line (at + 1);
        none = ne_eqb at (at + 1) (λ e. omega arith);
      })
  found-byte (begun first cell blanks quoted) found =
      simp found.none
      (record {
        low = omega (arith, found.low, found.high);
        high = omega arith;
        content = piece-more line span.start span.end at found.low found.high next.below ∙ ap₂ ◌++◌ (ap₂ ◌++◌ found.content found.gap) (ap (λ (b : ℕ). b ∷ []) next.is);
        gap = piece-none line (at + 1);
        none = ne_eqb span.start (at + 1) (λ e. omega (arith, found.low, found.high));
      })

grown-quoted : (span : Span) (byte at : ℕ) → (grown span byte at).quoted ≡ turned span.quoted byte
unfolding grown
grown-quoted span byte at = refl

blank-begun : {cell blanks : List ℕ} {quoted : Bool} → Begun cell blanks quoted → (byte : ℕ) → is_none cell ≡ false → Begun cell (blanks ++ (byte ∷ [])) quoted
unfolding is_none
blank-begun fresh byte e = absurd (never (sym e))
blank-begun (begun first cell blanks quoted) byte e = begun first cell (blanks ++ (byte ∷ [])) quoted

-- what `split` keeps: eight cells at most, in arrays of eight
pub record Kept (cells : Cells) : Type 0 where
  pub most : cells.count ≤ 8
  pub starts : length cells.starts ≡ 8
  pub ends : length cells.ends ≡ 8

length-listed : (line : List ℕ) (cells : Cells) → length (listed line cells) ≡ cells.count
unfolding listed
length-listed line cells = length-joined (λ place. cell_at line cells place ∷ []) 1 (λ k. refl) cells.count ∙ omega arith

-- a list of what each place has, at a place
joined_at : {A : Type 0} (f : ℕ → A) (d : A) (n k : ℕ) → k < n → get_or (joined_below (λ place. f place ∷ []) n) k d ≡ f k
unfolding joined_below
joined_at f d zero k h = absurd (omega arith)
joined_at {A} f d (suc n) k h = go (joined_at f d n k) (dec_lt k n)
  where
    long : length (joined_below (λ place. f place ∷ []) n) ≡ n
    long = length-joined (λ place. f place ∷ []) 1 (λ k. refl) n ∙ omega arith

    go : (k < n → get_or (joined_below (λ place. f place ∷ []) n) k d ≡ f k) → Dec (k < n) → get_or (joined_below (λ place. f place ∷ []) n ++ (f n ∷ [])) k d ≡ f k
    go before (yes lt) = get_or-append (joined_below (λ place. f place ∷ []) n) (f n ∷ []) d k (omega (arith, long)) ∙ before lt
    go before (no past) =
        let last : k ≡ n = omega arith in
        rw last (get_or_at (joined_below (λ place. f place ∷ []) n) (f n) [] d n long)

listed_at : (line : List ℕ) (cells : Cells) (place : ℕ) → place < cells.count → get_or (listed line cells) place [] ≡ cell_at line cells place
unfolding listed
listed_at line cells place below = joined_at (cell_at line cells) [] cells.count place below

-- one cell more
module _ (line : List ℕ) (cells : Cells) (kept : Kept cells) (span : Span) (cell : List ℕ) (is : part_of line span.start span.end ≡ cell) where
  cell-kept : Kept (with_cell cells span)
  unfolding with_cell
  cell-kept = go (ltb cells.count 8) refl
    where
      go : (room : Bool) → ltb cells.count 8 ≡ room
          → Kept (cond room (record { count = cells.count + 1; starts = set cells.starts cells.count span.start; ends = set cells.ends cells.count span.end }) cells)
      go true e =
          let below = ltb-true cells.count 8 e in
          record { most = omega arith; starts = length-set cells.starts cells.count span.start ∙ kept.starts; ends = length-set cells.ends cells.count span.end ∙ kept.ends }
      go false e = kept

  module _ (below : cells.count < 8) where
    -- where there is room for it
    abbrev longer : Cells
    longer = record { count = cells.count + 1; starts = set cells.starts cells.count span.start; ends = set cells.ends cells.count span.end }

    earlier : (k : ℕ) → k < cells.count → cell_at line longer k ≡ cell_at line cells k
    unfolding cell_at
    earlier k h = ap₂ (part_of line) (get_or-set_other cells.starts cells.count k span.start 0 (λ e. omega arith)) (get_or-set_other cells.ends cells.count k span.end 0 (λ e. omega arith))

    latest : cell_at line longer cells.count ≡ cell
    unfolding cell_at
    latest = ap₂ (part_of line) (get_or-set_same cells.starts cells.count span.start 0 (omega (arith, kept.starts))) (get_or-set_same cells.ends cells.count span.end 0 (omega (arith, kept.ends))) ∙ is

    longer-listed : listed line longer ≡ take 8 (listed line cells ++ (cell ∷ []))
    unfolding listed
    longer-listed =
        joined-more (λ place. cell_at line longer place ∷ []) cells.count
        ∙ ap₂ ◌++◌ (joined-agree cells.count (λ k h. ap (λ (c : List ℕ). c ∷ []) (earlier k h))) (ap (λ (c : List ℕ). c ∷ []) latest)
        ∙ sym (take_all 8 (listed line cells ++ (cell ∷ [])) (omega (arith, length-append (listed line cells) (cell ∷ []), length-listed line cells)))

  cell-listed : listed line (with_cell cells span) ≡ take 8 (listed line cells ++ (cell ∷ []))
  unfolding with_cell
  cell-listed = go (ltb cells.count 8) refl
    where
      go : (room : Bool) → ltb cells.count 8 ≡ room
          → listed line (cond room (record { count = cells.count + 1; starts = set cells.starts cells.count span.start; ends = set cells.ends cells.count span.end }) cells)
          ≡ take 8 (listed line cells ++ (cell ∷ []))
      go true e = longer-listed (ltb-true cells.count 8 e)
      go false e = sym (take_at (listed line cells) (cell ∷ []) 8 (length-listed line cells ∙ omega (arith, ltb-false cells.count 8 e, kept.most)))

-- eight of the first, and then of what follows, are eight of both
take-taken : {A : Type 0} (n : ℕ) (a b : List A) → take n (take n a ++ b) ≡ take n (a ++ b)
take-taken zero a b = refl
take-taken (suc n) [] b = refl
take-taken {A} (suc n) (x ∷ a) b = ap (λ (l : List A). x ∷ l) (take-taken n a b)

-- what is found in the bytes from a place on
record Rest (line : List ℕ) (cells : Cells) (found : Cells) (rest : List (List ℕ)) : Type 0 where
  kept : Kept found
  is : listed line found ≡ take 8 (listed line cells ++ rest)

module _ (line : List ℕ) (separator : ℕ) where
  rest_end : (cells : Cells) → Kept cells → Rest line cells cells []
  rest_end cells kept = record { kept = kept; is = sym (ap (take 8) (append-nil (listed line cells)) ∙ take_all 8 (listed line cells) (omega (arith, length-listed line cells, kept.most))) }

  rest_more : (cells : Cells) → Kept cells → (span : Span) (cell : List ℕ) → part_of line span.start span.end ≡ cell → (found : Cells) (rest : List (List ℕ)) → Rest line (with_cell cells span) found rest → Rest line cells found (cell ∷ rest)
  rest_more cells kept span cell e found rest more =
      record {
        kept = more.kept;
        is =
            more.is ∙ ap (λ (l : List (List ℕ)). take 8 (l ++ rest)) (cell-listed line cells kept span cell e) ∙ take-taken 8 (listed line cells ++ (cell ∷ [])) rest
            ∙ ap (take 8) (append_assoc (listed line cells) (cell ∷ []) rest);
      }

  found_part : (span : Span) (at : ℕ) (cell blanks : List ℕ) → at ≤ length line → Found line span at cell blanks → part_of line span.start span.end ≡ cell
  found_part span at cell blanks fits found = part-piece line span.start span.end found.low (omega (arith, found.high)) ∙ found.content

  found-rest : (bytes : List ℕ) (at : ℕ) → drop at line ≡ bytes → at ≤ length line → (span : Span) (cell blanks : List ℕ) → Found line span at cell blanks → Begun cell blanks span.quoted → (cells : Cells) → Kept cells
      → Rest line cells (cells_from cells separator span at bytes) (spoken separator cell blanks span.quoted bytes)
  unfolding cells_from spoken cells_at_end cells_after span_after ends_cell within
  found-rest [] at e fits span cell blanks found b cells kept = rw found.none (go (is_none cell))
    where
      go : (none : Bool) → Rest line cells (cond none cells (with_cell cells span)) (cond none [] (cell ∷ []))
      go true = rest_end cells kept
      go false =
          let is = found_part span at cell blanks fits found in
          rest_more cells kept span cell is (with_cell cells span) [] (rest_end (with_cell cells span) (cell-kept line cells kept span cell is))
  found-rest (byte ∷ bytes) at e fits span cell blanks found b cells kept =
      rw found.none
      (go (not span.quoted && separates separator byte) (runs separator) (is_none cell) (is_blank byte && not span.quoted) refl refl (λ sp c bl f d cs k. found-rest bytes (at + 1) next.rest (omega (arith, next.below)) sp c bl f d cs k))
    where
      next : Next line at byte bytes
      next = next-byte line at byte bytes e

      cell-ended : ((sp : Span) (c bl : List ℕ) → Found line sp (at + 1) c bl → Begun c bl sp.quoted → (cs : Cells) → Kept cs → Rest line cs (cells_from cs separator sp (at + 1) bytes) (spoken separator c bl sp.quoted bytes))
          → Rest line cells (cells_from (with_cell cells span) separator (empty_at (at + 1)) (at + 1) bytes) (cell ∷ spoken separator [] [] false bytes)
      cell-ended again =
          let is = found_part span at cell blanks fits found in
          rest_more cells kept span cell is (cells_from (with_cell cells span) separator (empty_at (at + 1)) (at + 1) bytes) (spoken separator [] [] false bytes)
          (again (empty_at (at + 1)) [] [] (found-next line (at + 1)) fresh (with_cell cells span) (cell-kept line cells kept span cell is))

      go : (ends run none blank : Bool) → is_none cell ≡ none → (is_blank byte && not span.quoted) ≡ blank
          → ((sp : Span) (c bl : List ℕ) → Found line sp (at + 1) c bl → Begun c bl sp.quoted → (cs : Cells) → Kept cs → Rest line cs (cells_from cs separator sp (at + 1) bytes) (spoken separator c bl sp.quoted bytes))
          → Rest line cells
          (cells_from (cond (ends && not (run && none)) (with_cell cells span) cells) separator (cond ends (empty_at (at + 1)) (cond blank (cond none (empty_at (at + 1)) span) (grown span byte at))) (at + 1) bytes)
          (cond ends (cond (run && none) (spoken separator [] [] false bytes) (cell ∷ spoken separator [] [] false bytes))
          (cond blank (cond none (spoken separator [] [] span.quoted bytes) (spoken separator cell (blanks ++ (byte ∷ [])) span.quoted bytes)) (spoken separator (cell ++ blanks ++ (byte ∷ [])) [] (turned span.quoted byte) bytes)))
      go true true true blank i f again = again (empty_at (at + 1)) [] [] (found-next line (at + 1)) fresh cells kept
      go true true false blank i f again = cell-ended again
      go true false none blank i f again = cell-ended again
      go false run true true i f again =
          let plain = not-true span.quoted (both_true (is_blank byte) (not span.quoted) f).1 in
          rw plain (again (empty_at (at + 1)) [] [] (found-next line (at + 1)) fresh cells kept)
      go false run false true i f again = again span cell (blanks ++ (byte ∷ [])) (found-blank line span at byte bytes cell blanks found next) (blank-begun b byte i) cells kept
      go false run none false i f again =
          subst (λ (q : Bool). Rest line cells (cells_from cells separator (grown span byte at) (at + 1) bytes) (spoken separator (cell ++ blanks ++ (byte ∷ [])) [] q bytes)) (grown-quoted span byte at)
          (again (grown span byte at) (cell ++ blanks ++ (byte ∷ [])) [] (found-byte line span at byte bytes next b found) (byte-begun b byte (grown span byte at).quoted) cells kept)

none_kept : Kept no_cells
none_kept = record { most = omega arith; starts = refl; ends = refl }

split_rest : (separator : ℕ) (line : List ℕ) → Rest line no_cells (cells_of separator line) (spoken separator [] [] false line)
unfolding cells_of
split_rest separator line = found-rest line separator line 0 refl (omega arith) (empty_at 0) [] [] (found-next line 0) fresh no_cells none_kept

pub split-kept : (separator : ℕ) (line : List ℕ) → Kept (cells_of separator line)
split-kept separator line = (split_rest separator line).kept

-- "no cell is lost or read twice": what `split` finds are the cells of the line, in their order, the first eight of them
pub split-listed : (separator : ℕ) (line : List ℕ) → listed line (cells_of separator line) ≡ take 8 (cells_in separator line)
unfolding listed joined_below
split-listed separator line = (split_rest separator line).is ∙ ap (take 8) (spoken-cells separator line)

-- as many as it counts
pub split-counted : (separator : ℕ) (line : List ℕ) → (cells_of separator line).count ≡ min 8 (length (cells_in separator line))
split-counted separator line = sym (length-listed line (cells_of separator line)) ∙ ap length (split-listed separator line) ∙ length-take 8 (cells_in separator line)

-- each of them at its place
pub split_at : (separator : ℕ) (line : List ℕ) (place : ℕ) → place < (cells_of separator line).count → cell_at line (cells_of separator line) place ≡ get_or (cells_in separator line) place []
split_at separator line place below =
    sym (listed_at line (cells_of separator line) place below) ∙ ap (λ (l : List (List ℕ)). get_or l place []) (split-listed separator line)
    ∙ get_or-take 8 (cells_in separator line) place [] (omega (arith, (split-kept separator line).most))
