use Rattle.dbl_pgmsg.proofs.MessageSizes.{leaves_is, begin_size, commit_size, origin_size, type_size, relation_size, insert_size, update_size, delete_size, truncate_size, logical_size}
use Rattle.dbl_pgmsg.specs.declared.messages.Message.TheVariants.{Begin, Commit, Origin, TypeName, Relation, Insert, Update, Delete, Truncate, Logical}
use Rattle.dbl_pgmsg.proofs.fitting.message_room.Goals as goal

pub returns-in-Begin : goal.returns-in-Begin
returns-in-Begin c = leaves_is c.args.room _ c.args.message.now (Begin c.in-Begin.lsn c.in-Begin.time c.in-Begin.xid) c.begin_room.result c.in-Begin.is (begin_size c.in-Begin.lsn c.in-Begin.time c.in-Begin.xid) c.begin_room.ensures

pub returns-in-Commit : goal.returns-in-Commit
returns-in-Commit c = leaves_is c.args.room _ c.args.message.now (Commit c.in-Commit.flags c.in-Commit.lsn c.in-Commit.end_lsn c.in-Commit.time) c.commit_room.result c.in-Commit.is (commit_size c.in-Commit.flags c.in-Commit.lsn c.in-Commit.end_lsn c.in-Commit.time) c.commit_room.ensures

pub returns-in-Origin : goal.returns-in-Origin
returns-in-Origin c = leaves_is c.args.room _ c.args.message.now (Origin c.in-Origin.lsn c.in-Origin.name) c.origin_room.result c.in-Origin.is (origin_size c.in-Origin.lsn c.in-Origin.name) c.origin_room.ensures

pub returns-in-TypeName : goal.returns-in-TypeName
returns-in-TypeName c = leaves_is c.args.room _ c.args.message.now (TypeName c.in-TypeName.oid c.in-TypeName.namespace c.in-TypeName.name) c.type_room.result c.in-TypeName.is (type_size c.in-TypeName.oid c.in-TypeName.namespace c.in-TypeName.name) c.type_room.ensures

pub returns-in-Relation : goal.returns-in-Relation
returns-in-Relation c = leaves_is c.args.room _ c.args.message.now (Relation c.in-Relation.oid c.in-Relation.namespace c.in-Relation.name c.in-Relation.identity c.in-Relation.columns) c.table_room.result c.in-Relation.is (relation_size c.in-Relation.oid c.in-Relation.namespace c.in-Relation.name c.in-Relation.identity c.in-Relation.columns) (rw c.items.ensures at c.table_room.ensures)

pub returns-in-Insert : goal.returns-in-Insert
returns-in-Insert c = leaves_is c.args.room _ c.args.message.now (Insert c.in-Insert.oid c.in-Insert.row) c.insert_room.result c.in-Insert.is (insert_size c.in-Insert.oid c.in-Insert.row) c.insert_room.ensures

pub returns-in-Update : goal.returns-in-Update
returns-in-Update c = leaves_is c.args.room _ c.args.message.now (Update c.in-Update.oid c.in-Update.before c.in-Update.row) c.update_room.result c.in-Update.is (update_size c.in-Update.oid c.in-Update.before c.in-Update.row) c.update_room.ensures

pub returns-in-Delete : goal.returns-in-Delete
returns-in-Delete c = leaves_is c.args.room _ c.args.message.now (Delete c.in-Delete.oid c.in-Delete.before) c.delete_room.result c.in-Delete.is (delete_size c.in-Delete.oid c.in-Delete.before) c.delete_room.ensures

pub returns-in-Truncate : goal.returns-in-Truncate
returns-in-Truncate c = leaves_is c.args.room _ c.args.message.now (Truncate c.in-Truncate.options c.in-Truncate.oids) c.truncate_room.result c.in-Truncate.is (truncate_size c.in-Truncate.options c.in-Truncate.oids) (rw c.items-in-Truncate.ensures at c.truncate_room.ensures)

pub returns-in-Logical : goal.returns-in-Logical
returns-in-Logical c = leaves_is c.args.room _ c.args.message.now (Logical c.in-Logical.flags c.in-Logical.lsn c.in-Logical.prefix c.in-Logical.content) c.logical_room.result c.in-Logical.is (logical_size c.in-Logical.flags c.in-Logical.lsn c.in-Logical.prefix c.in-Logical.content) (rw c.items-in-Logical.ensures at c.logical_room.ensures)
