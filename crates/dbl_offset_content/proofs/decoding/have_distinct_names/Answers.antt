use Rattle.std.proofs.Common.{◌≡◌, ◌∙◌, ◌+◌, true, false, drop, sym, ap}
use Rattle.std.specs.List.{list_any}
use Rattle.dbl_model_table.specs.declared.table.TableInfo.{TableInfo}
use Rattle.dbl_model_table.specs.Tables.{same_name}
use Rattle.dbl_offset_content.proofs.OffsetLaws.{name_again, name_new, names_end, rest_whole}
use Rattle.dbl_offset_content.proofs.decoding.have_distinct_names.Goals as goal

pub returns-then-is_named_again : goal.returns-then-is_named_again
returns-then-is_named_again c =
    let info = c.index-infos-i.result in
    let named : list_any (λ (other : TableInfo). same_name info.name other.name) (drop (c.loop-i.i + 1) c.args.infos.now) ≡ true =
    ap (list_any (λ (other : TableInfo). same_name info.name other.name)) (sym (rest_whole c.args.infos.now (c.loop-i.i + 1))) ∙ (sym c.is_named_again.ensures ∙ c.if-is_named_again.true) in
    sym (name_again c.args.infos.now c.loop-i.i info c.loop-i-test.true c.index-infos-i.is named) ∙ c.loop-i.invariant

pub loop-i-preserved : goal.loop-i-preserved
loop-i-preserved c =
    let info = c.index-infos-i.result in
    let new : list_any (λ (other : TableInfo). same_name info.name other.name) (drop (c.loop-i.i + 1) c.args.infos.now) ≡ false =
    ap (list_any (λ (other : TableInfo). same_name info.name other.name)) (sym (rest_whole c.args.infos.now (c.loop-i.i + 1))) ∙ (sym c.is_named_again.ensures ∙ c.if-is_named_again.false) in
    sym (name_new c.args.infos.now c.loop-i.i info c.loop-i-test.true c.index-infos-i.is new) ∙ c.loop-i.invariant

pub returns : goal.returns
returns c = sym (names_end c.args.infos.now c.loop-i.i c.loop-i-test.false) ∙ c.loop-i.invariant
