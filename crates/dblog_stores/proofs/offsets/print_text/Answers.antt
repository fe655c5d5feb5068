use Rattle.std.proofs.Common.{◌∙◌, refl}
use Rattle.dblog_stores.specs.Answers.{offset_lines}
use Rattle.dblog_stores.proofs.OffsetTexts.{text_ends}
use Rattle.dblog_stores.proofs.Writing.{none_written}
use Rattle.dblog_stores.proofs.offsets.print_text.Goals as goal

pub returns-in-Ok-clause-told : goal.returns-in-Ok-clause-told
returns-in-Ok-clause-told g c = text_ends (offset_lines c.args.offset.now) c.as_str.result.now c.write_text.result _ _ (c.as_str.ensures.value ∙ c.in-Ok.ensures) c.write_text.ensures.wrote c.write_text.ensures.prefix

pub returns-in-Err-clause-told : goal.returns-in-Err-clause-told
returns-in-Err-clause-told g c = none_written (offset_lines c.args.offset.now) _ _ refl
