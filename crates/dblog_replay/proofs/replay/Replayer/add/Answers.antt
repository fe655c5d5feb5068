use Rattle.std.proofs.Common.{◌∙◌, List, [], ◌∷◌, ◌++◌, ap, ap₂}
use Rattle.dbl_envelope.specs.Writers.{Captured}
use Rattle.dbl_model_table.specs.declared.table.TableInfo.{TableInfo}
use Rattle.dblog_replay.specs.Log.{log_start}
use Rattle.dblog_replay.proofs.replay.Replayer.add.Goals as goal

pub returns-in_ok-learn_in-in-Ok-clause-added : goal.returns-in_ok-learn_in-in-Ok-clause-added
returns-in_ok-learn_in-in-Ok-clause-added c = λ options infos ms replayed none. record {
  stands = c.in-Ok.ensures.learnt infos log_start ms replayed.stands none;
  keys = replayed.keys;
  mask = replayed.mask;
  identity = ap (λ (w : Captured). w.identity) c.in_ok-learn_in-in-Ok.ensures.learnt ∙ replayed.identity;
  writes = ap (λ (w : Captured). w.infos) c.in_ok-learn_in-in-Ok.ensures.learnt ∙ ap₂ (λ (is : List TableInfo) (i : TableInfo). is ++ i ∷ []) replayed.writes c.in_ok-copied.ensures;
}
