use Rattle.std.proofs.Common.{◌≡◌, ◌∙◌, ◌++◌, ap, map, length, subst, sym}
use Rattle.std.specs.List.{zip}
use Rattle.std.proofs.lemmas.Result.{IfOk-weaker}
use Rattle.dbl_base.specs.Lines.{lines_text}
use Rattle.dbl_base.proofs.LineLemmas.{lines_text-append}
use Rattle.dbl_model_history.specs.Cursors.{AreCursorsOf}
use Rattle.dbl_offset_content.proofs.OffsetLaws.{same_long}
use Rattle.dblog_stores.specs.Answers.{number_lines, table_line}
use Rattle.dblog_stores.proofs.offsets.offset_text.Goals as goal

pub with_tables-requires-clause-long : goal.with_tables-requires-clause-long
with_tables-requires-clause-long c =
    let o = c.args.offset.now in
    let infos : c.deref.result.now ≡ o.infos = c.deref.ensures.value ∙ c.items.ensures in
    let cursors : c.deref-in-Ok.result.now ≡ o.cursors = c.deref-in-Ok.ensures.value ∙ c.items-in-Ok.ensures in
    ap length cursors ∙ same_long o.infos o.cursors c.requires.cursors ∙ sym (ap length infos)

pub with_tables-requires-clause-are : goal.with_tables-requires-clause-are
with_tables-requires-clause-are c =
    let o = c.args.offset.now in
    let infos : c.deref.result.now ≡ o.infos = c.deref.ensures.value ∙ c.items.ensures in
    let cursors : c.deref-in-Ok.result.now ≡ o.cursors = c.deref-in-Ok.ensures.value ∙ c.items-in-Ok.ensures in
    subst (λ l. AreCursorsOf l c.deref-in-Ok.result.now) (sym infos) (subst (λ l. AreCursorsOf o.infos l) (sym cursors) c.requires.cursors)

pub returns-in-Ok : goal.returns-in-Ok
returns-in-Ok c =
    let o = c.args.offset.now in
    let infos : c.deref.result.now ≡ o.infos = c.deref.ensures.value ∙ c.items.ensures in
    let cursors : c.deref-in-Ok.result.now ≡ o.cursors = c.deref-in-Ok.ensures.value ∙ c.items-in-Ok.ensures in
    let zipped : zip c.deref.result.now c.deref-in-Ok.result.now ≡ zip o.infos o.cursors = λ i. zip (infos i) (cursors i) in
    IfOk-weaker c.with_tables.result _ _
    (λ all is. is ∙ ap (λ t. t ++ lines_text (map table_line (zip c.deref.result.now c.deref-in-Ok.result.now))) c.in-Ok.ensures
    ∙ ap (λ z. lines_text (number_lines o) ++ lines_text (map table_line z)) zipped ∙ sym (lines_text-append (number_lines o) (map table_line (zip o.infos o.cursors))))
    c.with_tables.ensures
