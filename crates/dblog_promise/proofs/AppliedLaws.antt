-- What `apply` prints after a complete run are the source's tables.
use Rattle.std.proofs.Common.{◌≡◌, ◌∙◌, ℕ, Option, Some, List, map, sym, ap, subst}
use Rattle.dbl_record.specs.declared.record.Record.{Record}
use Rattle.dbl_record.specs.Consumers.{HeldCells, consumer}
use Rattle.dbl_record.specs.Cuts.{joined}
use Rattle.dbl_record.specs.Reading.{as_line}
use Rattle.dbl_capture_laws.specs.ConsumeLaws.Laws.{HoldsJsonTexts}
use Rattle.dbl_topic.specs.SinkLaws.{one_log}
use Rattle.dbl_capture_laws.specs.Offset.declared.offset.Offset.{Offset}
use Rattle.dbl_capture_laws.proofs.OffsetStoreLaws.{one_store}
use Rattle.dblog_promise.specs.Contents.{records_of_contents}
use Rattle.dblog_promise.specs.Applied.{CompleteRunsAreApplied}

pub complete_runs_are_applied : CompleteRunsAreApplied
complete_runs_are_applied old new w t f lines read equal prints =
    let groups : prints.groups ≡ new.groups = one_log t prints.groups new.groups prints.read.log read.log in
    let stored : Some prints.offset ≡ new.offset = one_store f (Some prints.offset) new.offset prints.read.store read.store in
    let both : Some prints.offset ≡ Some equal.offset = stored ∙ equal.stored in
    let offset : prints.offset ≡ equal.offset = cc in
    let same : (topic text : List ℕ) → consumer prints.offset.identity.placeholder (map as_line (joined prints.groups)) topic text
    ≡ consumer equal.offset.identity.placeholder (map as_line (records_of_contents new)) topic text =
    λ topic text. ap (λ (o : Offset). consumer o.identity.placeholder (map as_line (joined prints.groups)) topic text) offset
    ∙ ap (λ (gs : List (List Record)). consumer equal.offset.identity.placeholder (map as_line (joined gs)) topic text) groups in
    record {
      offset = equal.offset;
      stored = equal.stored;
      printed = prints.rows;
      ordered = prints.are.ordered;
      each = λ topic text. record {
        image = (equal.holds_final_rows topic text).image;
        is = (equal.holds_final_rows topic text).is;
        prints = subst (λ (row : Option HeldCells). HoldsJsonTexts row (equal.holds_final_rows topic text).image) (sym (prints.are.exact topic text ∙ same topic text)) (equal.holds_final_rows topic text).holds;
      };
      are = prints.lines_are;
    }
