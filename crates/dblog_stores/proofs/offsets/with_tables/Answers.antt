use Rattle.std.proofs.Common.{◌∙◌, ◌++◌, ap, sym, arith, append-nil, map}
use Rattle.std.specs.List.{zip}
use Rattle.std.specs.String.{string_bytes}
use Rattle.dbl_base.specs.Lines.{lines_text}
use Rattle.dbl_model_history.specs.Cursors.{IsCursorOf}
use Rattle.dblog_stores.specs.Answers.{table_line}
use Rattle.dblog_stores.proofs.CrashState.{nothing_left}
use Rattle.dblog_stores.proofs.OffsetTexts.{all_zip_at, lines_go, zip_at, zip_long}
use Rattle.dblog_stores.proofs.offsets.with_tables.Goals as goal

pub table_text-requires : goal.table_text-requires
table_text-requires c =
    all_zip_at IsCursorOf c.args.infos.now c.args.cursors.now c.tables.place c.index-infos-place.result c.index-cursors-place.result c.requires.are c.tables-test.true c.index-infos-place.is c.index-cursors-place.is

pub tables-preserved : goal.tables-preserved
tables-preserved c =
    let infos = c.args.infos.now in
    let cursors = c.args.cursors.now in
    let long = zip_long infos cursors c.requires.long in
    lines_go (string_bytes c.tables.all) _ _ (zip infos cursors) c.tables.place (c.index-infos-place.result, c.index-cursors-place.result)
    (omega (arith, long, c.tables-test.true)) (zip_at infos cursors c.tables.place c.index-infos-place.result c.index-cursors-place.result c.requires.long c.tables-test.true c.index-infos-place.is c.index-cursors-place.is)
    (c.in_ok-push_str.ensures.bytes ∙ ap (λ t. string_bytes c.tables.all ++ t) (c.as_str.ensures.value ∙ c.in_ok-line.ensures)) c.tables.invariant

pub returns : goal.returns
returns c =
    let infos = c.args.infos.now in
    let cursors = c.args.cursors.now in
    let long = zip_long infos cursors c.requires.long in
    let none = nothing_left (zip infos cursors) c.tables.place (omega (arith, long, c.tables-test.false)) in
    sym (append-nil (string_bytes c.tables.all)) ∙ sym (ap (λ ts. string_bytes c.tables.all ++ lines_text (map table_line ts)) none) ∙ c.tables.invariant
