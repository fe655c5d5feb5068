use Rattle.std.proofs.Common.{◌∙◌, ap, codes}
use Rattle.serde_json.specs.View.{view}
use Rattle.serde_json.specs.Written.{has_float}
use Rattle.cases_ages.proofs.PlainJsonLemmas.{no_float-source, no_float-event}
use Rattle.cases_ages.proofs.plain_records.event_text.Goals as goal

pub text_of-requires : goal.text_of-requires
text_of-requires c =
    ap has_float c.in_ok-value.ensures
    ∙ no_float-event (view c.in_ok-source.source) c.args.frame.now.now_ms.now (view c.args.before) c.args.op.now (view c.args.after)
    (ap has_float c.in_ok-source.ensures ∙ no_float-source c.args.frame.now.identity.now c.args.frame.now.info.now.name c.args.frame.now.commit.now (codes "false"))
    c.requires.before c.requires.after
