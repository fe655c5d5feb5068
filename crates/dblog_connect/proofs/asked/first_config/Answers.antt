use Rattle.std.proofs.Common.{List, sym, ap, subst}
use Rattle.dbl_model_table.specs.declared.table.TableName.{TableName}
use Rattle.dbl_model_table.specs.Configs.{IsGoodConfig}
use Rattle.dblog_connect.specs.Asked.{config_of}
use Rattle.dblog_connect.proofs.Configs.{good_first}
use Rattle.dblog_connect.proofs.asked.first_config.Goals as goal

pub returns-clause-is : goal.returns-clause-is
returns-clause-is c = ap (λ (t : List TableName). record (config_of c.args.options c.args.all.now.items) { tables = t }) c.in_ok-tables.ensures

pub returns-clause-good : goal.returns-clause-good
returns-clause-good c =
    subst IsGoodConfig (sym (ap (λ (t : List TableName). record (config_of c.args.options c.args.all.now.items) { tables = t }) c.in_ok-tables.ensures))
    (good_first c.args.options c.args.all.now.items c.requires.tables c.requires.names c.requires.pace c.requires.named)
