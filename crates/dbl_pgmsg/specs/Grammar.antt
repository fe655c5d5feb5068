-- The messages as bytes: PostgreSQL's "Logical Replication Message Formats", protocol version 1.
use Rattle.std.specs.Prelude.{◌≡◌, ◌≢◌, ◌<◌, ◌≤◌, ◌^◌, ℕ, ℤ, ◌==◌, ◌||◌, Bool, IsTrue, Option, Some}
use Rattle.std.specs.Prelude.{None, List, [], ◌∷◌, ◌++◌, length, flat_map, IsUtf8, FitsSigned}
use Rattle.std.specs.List.{AllByRecursion}
use Rattle.std.specs.Str.{byte}
use Rattle.std.specs.Int.{w16, w32, w64, to_be_bytes, cast_unsigned}
use Rattle.dbl_pgmsg_tags.specs.declared.tags.CellKind.TheVariants as kinds
use Rattle.dbl_pgmsg_tags.specs.Tags.{cell_tag}
use Rattle.dbl_pgmsg.specs.declared.messages.Message.{Message}
use Rattle.dbl_pgmsg.specs.declared.messages.Message.TheVariants.{Begin, Commit, Origin, TypeName, Relation}
use Rattle.dbl_pgmsg.specs.declared.messages.Message.TheVariants.{Insert, Update, Delete, Truncate, Logical}
use Rattle.dbl_pgmsg.specs.declared.messages.RelationColumn.{RelationColumn}
use Rattle.dbl_pgmsg.specs.declared.messages.Tuple.{Tuple}
use Rattle.dbl_pgmsg.specs.declared.messages.OldTuple.{OldTuple}
use Rattle.dbl_pgmsg.specs.declared.messages.OldTuple.TheVariants.{Key, Whole}
use Rattle.dbl_pgmsg.specs.declared.messages.TupleCell.{TupleCell}
use Rattle.dbl_pgmsg.specs.declared.messages.TupleCell.TheVariants.{Null, Unchanged, Text}

-- Int16, big-endian
unfoldable pub int16 : ℕ → List ℕ
int16 n = to_be_bytes w16 n

-- Int32, big-endian
unfoldable pub int32 : ℕ → List ℕ
int32 n = to_be_bytes w32 n

-- Int64, big-endian
unfoldable pub int64 : ℕ → List ℕ
int64 n = to_be_bytes w64 n

-- a signed Int32, in two's complement
abbrev pub signed32 : ℤ → List ℕ
signed32 z = int32 (cast_unsigned w32 z)

-- a signed Int64, in two's complement
abbrev pub signed64 : ℤ → List ℕ
signed64 z = int64 (cast_unsigned w64 z)

-- String: the text and a terminating zero byte
unfoldable pub string : List ℕ → List ℕ
string text = text ++ 0 ∷ []

-- a cell of TupleData: null, unchanged, or a text preceded by its length
unfoldable pub cell : TupleCell → List ℕ
cell Null = cell_tag kinds.Null ∷ []
cell Unchanged = cell_tag kinds.Unchanged ∷ []
cell (Text text) = cell_tag kinds.Text ∷ [] ++ int32 (length text) ++ text

-- TupleData: the number of cells, and the cells
unfoldable pub tuple : Tuple → List ℕ
tuple t = int16 (length t.cells) ++ flat_map cell t.cells

-- the old key or row of an Update or a Delete, with its tag
unfoldable pub old_tuple : OldTuple → List ℕ
old_tuple (Key t) = byte "K" ∷ [] ++ tuple t
old_tuple (Whole t) = byte "O" ∷ [] ++ tuple t

-- the old key or row of an Update, empty if none was sent
abbrev pub optional_tuple : Option OldTuple → List ℕ
optional_tuple None = []
optional_tuple (Some old) = old_tuple old

-- a column of a Relation
unfoldable pub column : RelationColumn → List ℕ
column c = c.flags ∷ [] ++ string c.name ++ int32 c.oid ++ signed32 c.modifier

-- The encoding of a message: its tag and its fields. An empty namespace, which means pg_catalog, stays empty, so the encoding is unique.
unfoldable pub spelling : Message → List ℕ
spelling (Begin lsn time xid) = byte "B" ∷ [] ++ int64 lsn.0 ++ signed64 time ++ int32 xid
spelling (Commit flags lsn end_lsn time) = byte "C" ∷ flags ∷ [] ++ int64 lsn.0 ++ int64 end_lsn.0 ++ signed64 time
spelling (Origin lsn name) = byte "O" ∷ [] ++ int64 lsn.0 ++ string name
spelling (TypeName oid namespace name) = byte "Y" ∷ [] ++ int32 oid ++ string namespace ++ string name
spelling (Relation oid namespace name identity columns) = byte "R" ∷ [] ++ int32 oid ++ string namespace ++ string name ++ identity ∷ []
    ++ int16 (length columns) ++ flat_map column columns
spelling (Insert oid row) = byte "I" ∷ [] ++ int32 oid ++ byte "N" ∷ [] ++ tuple row
spelling (Update oid before row) = byte "U" ∷ [] ++ int32 oid ++ optional_tuple before ++ byte "N" ∷ [] ++ tuple row
spelling (Delete oid before) = byte "D" ∷ [] ++ int32 oid ++ old_tuple before
spelling (Truncate options oids) = byte "T" ∷ [] ++ int32 (length oids) ++ options ∷ [] ++ flat_map int32 oids
spelling (Logical flags lsn prefix content) = byte "M" ∷ flags ∷ [] ++ int64 lsn.0 ++ string prefix ++ int32 (length content) ++ content

-- a valid String: UTF-8 without a zero byte
pub record IsString (text : List ℕ) : Type 0 where
  pub utf8 : IsUtf8 text
  pub no_zero : AllByRecursion (λ b. b ≢ 0) text

-- a valid cell text: UTF-8 whose length, a signed number, isn't negative
pub record IsCellText (text : List ℕ) : Type 0 where
  pub utf8 : IsUtf8 text
  pub short : length text < 2 ^ 31

-- the cell can be encoded
abbrev pub FitsCell : TupleCell → Type 0
FitsCell Null = Unit {0}
FitsCell Unchanged = Unit {0}
FitsCell (Text text) = IsCellText text

-- the row can be encoded: a table of PostgreSQL has at most 1,600 columns ("PostgreSQL Limits")
pub record FitsTuple (t : Tuple) : Type 0 where
  pub count : length t.cells ≤ 1600
  pub each : AllByRecursion FitsCell t.cells

-- the old key or row can be encoded
abbrev pub FitsOld : OldTuple → Type 0
FitsOld (Key t) = FitsTuple t
FitsOld (Whole t) = FitsTuple t

-- the old key or row, if any, can be encoded
abbrev pub FitsOptional : Option OldTuple → Type 0
FitsOptional None = Unit {0}
FitsOptional (Some old) = FitsOld old

-- the column can be encoded
pub record FitsColumn (c : RelationColumn) : Type 0 where
  pub flags : c.flags < 2 ^ 8
  pub name : IsString c.name
  pub oid : c.oid < 2 ^ 32
  pub modifier : FitsSigned w32 c.modifier

-- a valid replica identity: default, nothing, full or index
abbrev pub is_identity : ℕ → Bool
is_identity b = (b == byte "d") || (b == byte "n") || (b == byte "f") || (b == byte "i")

-- The fields of the message are within their formats' ranges. LSNs, OIDs and transaction ids are unsigned, times and type modifiers signed.
abbrev pub FitsFields : Message → Type 0
FitsFields (Begin lsn time xid) = (lsn.0 < 2 ^ 64) × FitsSigned w64 time × (xid < 2 ^ 32)
FitsFields (Commit flags lsn end_lsn time) = (flags < 2 ^ 8) × (lsn.0 < 2 ^ 64) × (end_lsn.0 < 2 ^ 64) × FitsSigned w64 time
FitsFields (Origin lsn name) = (lsn.0 < 2 ^ 64) × IsString name
FitsFields (TypeName oid namespace name) = (oid < 2 ^ 32) × IsString namespace × IsString name
FitsFields (Relation oid namespace name identity columns) = (oid < 2 ^ 32) × IsString namespace × IsString name
    × IsTrue (is_identity identity) × (length columns ≤ 1600) × AllByRecursion FitsColumn columns
FitsFields (Insert oid row) = (oid < 2 ^ 32) × FitsTuple row
FitsFields (Update oid before row) = (oid < 2 ^ 32) × FitsOptional before × FitsTuple row
FitsFields (Delete oid before) = (oid < 2 ^ 32) × FitsOld before
FitsFields (Truncate options oids) = (options < 2 ^ 8) × (length oids < 2 ^ 31) × AllByRecursion (λ oid. oid < 2 ^ 32) oids
FitsFields (Logical flags lsn prefix content) = (flags < 2 ^ 8) × (lsn.0 < 2 ^ 64) × IsString prefix × (length content < 2 ^ 31)
    × AllByRecursion (λ b. b < 2 ^ 8) content

-- the maximum length of a message in bytes
abbrev pub message_limit : ℕ
message_limit = 16777216

-- the message can be encoded
pub record Fits (message : Message) : Type 0 where
  pub fields : FitsFields message
  pub short : length (spelling message) ≤ message_limit

-- the bytes are the encoding of the message
pub record Spells (bytes : List ℕ) (message : Message) : Type 0 where
  pub fits : Fits message
  pub spelled : bytes ≡ spelling message
