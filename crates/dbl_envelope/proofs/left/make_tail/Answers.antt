use Rattle.std.proofs.Common.{◌≡◌, ◌∙◌, [], Option, sym, ap, codes}
use Rattle.std.specs.Prelude.{option_map, unwrap_or}
use Rattle.dbl_model_table.specs.declared.identity.Identity.{Identity}
use Rattle.dbl_model_table.specs.declared.table.TableInfo.{TableInfo}
use Rattle.dbl_envelope_json.specs.Frames.{tail_text}
use Rattle.dbl_envelope.specs.Writers.{tail_at}
use Rattle.dbl_envelope.proofs.TailLemmas.{tails_set}
use Rattle.dbl_envelope.proofs.left.make_tail.Goals as goal

pub returns-clause-tails : goal.returns-clause-tails
returns-clause-tails c =
    let writer = c.args.writer.now in
    let commit = c.args.commit.now in
    let now = c.args.now_ms.now in
    let info = c.info_at-info.result.now in
    let tail_is : c.in_ok-tail.tail ≡ tail_at writer commit now c.args.table =
    c.in_ok-tail.ensures
    ∙ ap (λ (i : Identity). tail_text i info.name commit (codes "false") now) c.identity.ensures
    ∙ sym (ap (λ (o : Option TableInfo). unwrap_or (option_map (λ info. tail_text writer.identity info.name commit (codes "false") now) o) []) c.info_at-info.ensures) in
    tails_set writer commit now c.args.tails.now.items c.args.table c.in_ok-tail.tail c.requires.tails tail_is
