use Rattle.std.proofs.Common.{◌≡◌, ◌∙◌, ◌++◌, List, ap}
use Rattle.std.proofs.lemmas.Result.{on_ok_weaker}
use Rattle.dbl_record.specs.declared.record.Record.{Record}
use Rattle.dbl_envelope_json.specs.Frames.{told}
use Rattle.dbl_envelope.proofs.CommitLemmas.{told_is}
use Rattle.dbl_envelope.proofs.left.tell_change.Goals as goal

pub returns : goal.returns
returns c =
    let frame = c.frame_of-frame.result in
    let same = c.frame_of-frame.ensures in
    on_ok_weaker c.append_change_records.result
    (λ (e : c.append_change_records.new.out.items ≡ c.args.out.now.items ++ told frame c.args.stamp.now c.args.change.now). e ∙ ap (λ (l : List Record). c.args.out.now.items ++ l) (told_is c.args.writer.now c.args.commit.now c.args.now_ms.now frame c.args.stamp.now c.args.change.now same.identity same.commit same.now same.snapshot same.info))
    c.append_change_records.ensures
