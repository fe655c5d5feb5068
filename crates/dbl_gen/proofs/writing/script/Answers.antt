use Rattle.std.proofs.Common.{◌∙◌, ◌++◌, ap, sym}
use Rattle.dbl_base.specs.Lines.{lines_text}
use Rattle.dbl_gen.specs.Workload.{row_lines, groups_from, last_lines}
use Rattle.dbl_gen.proofs.TextLemmas.{workload_text}
use Rattle.dbl_gen.proofs.writing.script.Goals as goal

pub returns : goal.returns
returns c = record {
  text =
      c.make.ensures ∙ c.in_ok-write_last.ensures
      ∙ ap (λ t. t ++ lines_text (last_lines c.args.groups)) (c.in_ok-write_groups.ensures ∙ ap (λ t. t ++ lines_text (groups_from c.args.rows 1 c.args.groups c.args.number)) (c.in_ok-write_rows.ensures ∙ ap (λ t. t ++ lines_text (row_lines 1 c.args.rows)) c.in_ok-text.ensures.ok))
      ∙ sym (workload_text c.args.number c.args.rows c.args.groups);
}
