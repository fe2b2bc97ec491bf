-- `text::show` meets its contract: refused, the output is as it was; else it starts with the text. Assumes nothing.
use Prim.Native.Nat.{ℕ, ◌<◌, ◌≤◌}
use mathlib.Core.Path.{◌≡◌, sym, ap, subst, ◌∙◌}
use lib.ListN.{length}
use Rattle.places.proofs.Answered.{told_answer}
use Rattle.sheet.specs.Rules.{table_refusal}
use Rattle.sheet.proofs.Told.{table-known}
use Rattle.sheet.proofs.Cases.{good-table}
use Rattle.text.specs.Shown.{text_size}
use Rattle.text.proofs.Answered.{show-refused, show-short, show-fits}
use Rattle.text.proofs.Laid.{put_whole}
use Rattle.text.proofs.show.Goals as goal

pub returns-then-broken-ne0 : goal.returns-then-broken-ne0
returns-then-broken-ne0 c = show-refused _ _ _ (c.told-broken.ensures ∙ told_answer (table-known c.args.table) _ c.judge_table.ensures) c.if-broken-ne0.true

pub returns-then-out-size : goal.returns-then-out-size
unfolding text_size
returns-then-out-size c =
    let good : table_refusal c.args.table ≡ 0 = sym (c.told-broken.ensures ∙ told_answer (table-known c.args.table) _ c.judge_table.ensures) ∙ c.if-broken-ne0.false in
    let sized : c.size-size.result ≡ text_size c.args.table = c.size-size.ensures in
    show-short _ _ good (subst (λ (n : ℕ). length c.args.out.now < n) sized c.if-out-size.true)

pub put_table-requires : goal.put_table-requires
unfolding text_size
put_table-requires c =
    let good : table_refusal c.args.table ≡ 0 = sym (c.told-broken.ensures ∙ told_answer (table-known c.args.table) _ c.judge_table.ensures) ∙ c.if-broken-ne0.false in
    let sized : c.size-size.result ≡ text_size c.args.table = c.size-size.ensures in
    let known = good-table _ good in
    (known.count.0, known.count.1, subst (λ (n : ℕ). n ≤ length c.args.out.now) sized c.if-out-size.false)

pub returns : goal.returns
unfolding text_size
returns c =
    let good : table_refusal c.args.table ≡ 0 = sym (c.told-broken.ensures ∙ told_answer (table-known c.args.table) _ c.judge_table.ensures) ∙ c.if-broken-ne0.false in
    let sized : c.size-size.result ≡ text_size c.args.table = c.size-size.ensures in
    let given = c.args in
    let fits = subst (λ (n : ℕ). n ≤ length given.out.now) sized c.if-out-size.false in
    let shown = show-fits given.table given.out.now good fits in
    (ap (λ (n : ℕ). record { refusal = 0; size = n }) sized ∙ shown.0, put_whole c.put_table.ensures fits ∙ shown.1)
