-- `rows::list::stands` meets its contract: the text begins what is left of the list. Assumes nothing.
use Rattle.std.proofs.Common.{◌≡◌, ℕ, ◌-◌, List, take, drop, eqb, min, length, sym, ap, ◌∙◌, arith, take_all}
use Rattle.std.specs.List.{starts_with}
use Rattle.std.proofs.lemmas.List.{drop_min, length-drop}
use Rattle.rows.specs.Answers.{begins, text_end}
use Rattle.rows.proofs.Sayings.{begins-told}
use Rattle.rows.proofs.list.stands.Goals as goal

-- what is left of the list from the lesser of the place and the length on, held against the text
held : (list text : List ℕ) (place least : ℕ) → least ≡ min place (length list) → begins (drop place list) text ≡ starts_with eqb (take (length list - least) (drop least list)) text
held list text place least e =
    let whole : take (length list - least) (drop least list) ≡ drop least list = take_all _ _ (omega (arith, length-drop least list)) in
    let rest : drop place list ≡ take (length list - least) (drop least list) = sym (whole ∙ ap (λ (n : ℕ). drop n list) e ∙ drop_min place list) in
    sym (begins-told (drop place list) text) ∙ ap (λ (part : List ℕ). starts_with eqb part text) rest

pub returns-then-starts_with : goal.returns-then-starts_with
unfolding text_end
returns-then-starts_with c =
    let told = held c.args.list.now c.args.text.now c.in-Some.place c.min.result c.min.ensures ∙ sym c.starts_with.ensures.value in
    sym (simp (c.in-Some.is, told, c.if-starts_with.true))

pub returns-else-starts_with : goal.returns-else-starts_with
unfolding text_end
returns-else-starts_with c =
    let told = held c.args.list.now c.args.text.now c.in-Some.place c.min.result c.min.ensures ∙ sym c.starts_with.ensures.value in
    sym (simp (c.in-Some.is, told, c.if-starts_with.false))
