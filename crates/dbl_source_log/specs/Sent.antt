-- The messages as which a log is read. Lists of messages that were read have the newest first. PostgreSQL's "Logical Streaming Replication
-- Protocol": a transaction is a Begin, its changes and a Commit, and a Relation precedes the first change of its table since reading began, and
-- the first one in other columns than those of its last Relation.
use Rattle.std.specs.Prelude.{ℕ, ◌+◌, ◌-◌, ◌<◌, ◌≤◌, ◌==◌, ◌&&◌, IsTrue, Bool, false, if◌then◌else◌, Option, Some, None, option_map}
use Rattle.std.specs.Prelude.{unwrap_or, slice_get, List, [], ◌∷◌, ◌++◌, length, zip, take, drop, reverse, bytes_eq}
use Rattle.std.specs.List.{list_all}
use Rattle.dbl_base.specs.declared.lsn.Lsn.{Lsn}
use Rattle.dbl_pgmsg.specs.declared.messages.Message.{Message}
use Rattle.dbl_pgmsg.specs.declared.messages.Message.TheVariants as says
use Rattle.dbl_pgmsg.specs.declared.messages.RelationColumn.{RelationColumn}
use Rattle.dbl_model_table.specs.declared.table.RawColumn.{RawColumn}
use Rattle.dbl_source_model.specs.ModelCommit.declared.message_parts.Relation.{Relation}
use Rattle.dbl_source_model.specs.ModelCommit.Past.{relation_of}
use Rattle.dbl_source_model.specs.ModelCommit.Stated.{list_of}
use Rattle.dbl_source_log.specs.declared.logged.LogTable.{LogTable}
use Rattle.dbl_source_log.specs.declared.logged.Logged.{Logged}
use Rattle.dbl_source_log.specs.declared.logged.Logged.TheVariants.{Changes, Mark, Alter}
use Rattle.dbl_source_log.specs.declared.reader_position.ReaderPosition.{ReaderPosition}
use Rattle.dbl_source_log.specs.Numbers.{lsn_of, end_lsn_of, xid_of, time_of, commits_upto}
use Rattle.dbl_source_log.specs.Relations.{relation_at, mark_message}
use Rattle.dbl_source_log.specs.Alterations.{tables_after, tables_through}

-- The OIDs of the tables that a change names.
abbrev pub oids_of : Message → List ℕ
oids_of (says.Insert oid new) = oid ∷ []
oids_of (says.Update oid before new) = oid ∷ []
oids_of (says.Delete oid before) = oid ∷ []
oids_of (says.Truncate options oids) = oids
oids_of m = []

-- The OID of the table that a message describes.
abbrev pub described_in : Message → Option ℕ
described_in (says.Relation oid namespace name identity columns) = Some oid
described_in m = None

-- The messages of a commit's changes; a watermark's is one Update, and an alteration has none.
abbrev pub messages_in : Logged → List Message
messages_in (Changes ms) = ms
messages_in (Mark value) = mark_message value ∷ []
messages_in (Alter name columns rows) = []

-- Whether two columns of Relations have the same name and type.
abbrev pub same_given : RelationColumn × RelationColumn → Bool
same_given pair = bytes_eq pair.0.name pair.1.name && pair.0.oid == pair.1.oid

-- Whether a column of a table has the name and type of a Relation's.
abbrev pub same_raw : RawColumn × RelationColumn → Bool
same_raw pair = bytes_eq pair.0.name pair.1.name && pair.0.oid == pair.1.oid

-- Whether columns of Relations are the same in number, names and types.
abbrev pub have_same_columns : List RelationColumn → List RelationColumn → Bool
have_same_columns a b = length a == length b && list_all same_given (zip a b)

-- Whether a Relation that was read has the columns of this one.
abbrev pub is_present : Option Relation → Option Message → Bool
is_present (Some last) (Some (says.Relation oid namespace name identity columns)) = have_same_columns columns last.columns
is_present last now = false

-- Whether the last Relation of a table that was read has the columns that the table has now.
abbrev pub is_described : List LogTable → ℕ → List Message → Bool
is_described tables oid past = is_present (relation_of oid past) (relation_at tables oid)

-- The messages read so far with the Relation of a table, unless the last one of it has the columns that the table has now.
abbrev pub onto_relation : List LogTable → ℕ → List Message → List Message
onto_relation tables oid past = if is_described tables oid past then past else list_of (relation_at tables oid) ++ past

-- The messages read so far with the Relations of some tables, as far as they are due.
abbrev pub onto_relations : List LogTable → List ℕ → List Message → List Message
onto_relations tables [] past = past
onto_relations tables (oid ∷ oids) past = onto_relations tables oids (onto_relation tables oid past)

-- The messages read so far with some changes, each preceded by the Relations of its tables.
abbrev pub told_changes : List LogTable → List Message → List Message → List Message
told_changes tables [] past = past
told_changes tables (m ∷ ms) past = told_changes tables ms (m ∷ onto_relations tables (oids_of m) past)

-- The Begin message of commit n.
abbrev pub begin_message : ℕ → Message
begin_message n = says.Begin (lsn_of n) (time_of n) (xid_of n)

-- The Commit message of commit n.
abbrev pub commit_message : ℕ → Message
commit_message n = says.Commit 0 (lsn_of n) (end_lsn_of n) (time_of n)

-- The messages read so far with those of commit n.
abbrev pub told_commit : List LogTable → ℕ → Logged → List Message → List Message
told_commit tables n entry past = commit_message n ∷ told_changes tables (messages_in entry) (begin_message n ∷ past)

-- The messages read so far with those of the commits from n on, given the tables just before them.
abbrev pub told_from : List LogTable → ℕ → List Logged → List Message → List Message
told_from tables n [] past = past
told_from tables n (entry ∷ log) past = told_from (tables_after entry tables) (n + 1) log (told_commit tables n entry past)

-- All messages that are read of a log after an LSN, in order.
abbrev pub sent_after : List LogTable → Lsn → List Logged → List Message
sent_after tables after log =
    reverse (told_from (tables_through (take (commits_upto after) log) tables) (commits_upto after + 1) (drop (commits_upto after) log) [])

-- ---- the position of a reader

-- The messages of the whole commits that were read, the first ones after the start.
abbrev pub told_whole : List LogTable → Lsn → ℕ → List Logged → List Message
told_whole tables after commits log =
    told_from (tables_through (take (commits_upto after) log) tables) (commits_upto after + 1) (take commits (drop (commits_upto after) log)) []

-- The index in the log of the commit that is being read or is next.
abbrev pub index_of : ReaderPosition → ℕ
index_of place = commits_upto place.after + place.commits

-- The tables as they are just before the commit that is being read or is next.
abbrev pub tables_at : List LogTable → List Logged → ReaderPosition → List LogTable
tables_at tables log place = tables_through (take (index_of place) log) tables

-- The OIDs that the change at an index of a commit names.
abbrev pub oids_at : Logged → ℕ → List ℕ
oids_at entry change = unwrap_or (option_map oids_of (slice_get (messages_in entry) change)) []

-- The messages of an open commit: its Begin, the changes that were read, and the Relations of the checked tables of the next change.
abbrev pub told_part : List LogTable → ReaderPosition → Logged → List Message → List Message
told_part tables place entry past =
    onto_relations tables (take place.table (oids_at entry place.change))
    (told_changes tables (take place.change (messages_in entry)) (begin_message (index_of place + 1) ∷ past))

-- The messages read so far with those of the open commit, if there is one and its Begin was read.
abbrev pub told_open : List LogTable → ReaderPosition → Option Logged → List Message → List Message
told_open tables place None past = past
told_open tables place (Some entry) past = if place.begun then told_part tables place entry past else past

-- The messages that a reader at this position has read, for any position.
abbrev pub told_at : List LogTable → List Logged → ReaderPosition → List Message
told_at tables log place =
    told_open (tables_at tables log place) place (slice_get log (index_of place)) (told_whole tables place.after place.commits log)

-- Whether the position is in the log or at its end. The messages read up to such a position stay the same when the log grows.
pub record IsPlaceIn (log : List Logged) (place : ReaderPosition) : Type 0 where
  pub few : place.commits ≤ length log - commits_upto place.after
  pub there : IsTrue place.begun → index_of place < length log
