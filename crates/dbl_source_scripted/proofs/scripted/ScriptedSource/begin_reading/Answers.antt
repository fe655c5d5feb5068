use Rattle.std.proofs.Common.{◌∙◌, sym, ap}
use Rattle.dbl_source_scripted.specs.Played.{started_at}
use Rattle.dbl_source_scripted.specs.Fields.{played_of}
use Rattle.dbl_source_scripted.proofs.StartLemmas.{started_gone, started_ready}
use Rattle.dbl_source_scripted.proofs.scripted.ScriptedSource.begin_reading.Goals as goal

pub returns-then-after-self-clause-told : goal.returns-then-after-self-clause-told
returns-then-after-self-clause-told c = sym (started_gone c.args.after (played_of c.self.inside) c.if-after-self.true) ∙ ap (started_at c.args.after) c.self.view_is

pub returns-clause-told : goal.returns-clause-told
returns-clause-told c = sym (started_ready c.args.after (played_of c.self.inside) c.if-after-self.false) ∙ ap (started_at c.args.after) c.self.view_is
