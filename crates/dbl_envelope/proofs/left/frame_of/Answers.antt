use Rattle.std.proofs.Common.{◌≡◌, ◌∙◌, ◌<◌, Some, option_map, slice_get, length, sym, ap, arith, codes}
use Rattle.dbl_model_table.specs.Rows.{table_of}
use Rattle.dbl_envelope_json.specs.Layouts.{layout_of}
use Rattle.dbl_envelope_json.specs.Frames.{tail_text}
use Rattle.dbl_envelope.proofs.CommitLemmas.{suits_place, laid, tailed}
use Rattle.dbl_envelope.proofs.left.frame_of.Goals as goal

pub layout_at-requires : goal.layout_at-requires
layout_at-requires c =
    let place : table_of c.args.change.now < length c.args.writer.now.infos = suits_place c.args.writer.now.infos c.args.change.now c.requires.suits in
    record { captured = omega (arith, place, c.table.ensures) }

pub returns-clause-framed : goal.returns-clause-framed
returns-clause-framed c =
    let writer = c.args.writer.now in
    let commit = c.args.commit.now in
    let now = c.args.now_ms.now in
    let change = c.args.change.now in
    let info = c.info_of.result.now in
    let layout = c.layout_at.result.now in
    let at : option_map (layout_of writer.identity) (slice_get writer.infos (table_of change)) ≡ Some layout =
    ap (λ t. option_map (layout_of writer.identity) (slice_get writer.infos t)) (sym c.table.ensures) ∙ c.layout_at.ensures in
    record {
      layout = laid writer (table_of change) info layout c.info_of.ensures.info at ∙ ap (λ i. layout_of i info) (sym c.identity.ensures);
      tail = tailed writer commit now (table_of change) info c.args.tail.now c.info_of.ensures.info c.requires.tail ∙ ap (λ i. tail_text i info.name commit (codes "false") now) (sym c.identity.ensures);
    }
