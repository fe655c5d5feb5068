use Rattle.std.proofs.Common.{◌∙◌, List, ℕ, None, ap}
use Rattle.dbl_envelope_json.specs.declared.layout.Layout.{Layout}
use Rattle.dbl_envelope_json.proofs.LayoutLemmas.{topic_is}
use Rattle.dbl_envelope_json.proofs.event.plain_record.Goals as goal

pub returns : goal.returns
returns c =
    let frame = c.args.frame.now in
    ap (λ (t : List ℕ). record { topic = t; key = c.args.key; value = c.args.value; position = frame.commit.now.lsn.0; ordinal = c.args.stamp.now.ordinal; last = c.args.stamp.now.last; newkey = None; oldkey = None })
    (c.in_ok-copy.ensures ∙ ap (λ (l : Layout). l.topic) c.requires.framed.layout ∙ topic_is frame.identity.now frame.info.now)
