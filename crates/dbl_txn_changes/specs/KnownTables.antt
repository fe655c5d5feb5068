-- Relations with the kinds of their tables.
use Rattle.std.specs.Prelude.{List}
use Rattle.dbl_model_table.specs.declared.table.TableInfo.{TableInfo}
use Rattle.dbl_model_commit.specs.declared.message_parts.Relation.{Relation}
use Rattle.dbl_model_commit.specs.Stated.{target}
use Rattle.dbl_txn_changes.specs.declared.known.Known.{Known}

-- A Relation, and which table it describes.
abbrev pub known_in : List TableInfo → Relation → Known
known_in infos relation = record { relation = relation; target = target infos relation.name }
