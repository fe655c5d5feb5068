-- The state of a session, for any source, sink and store.
use Rattle.std.specs.Prelude.{◌≡◌, ◌⊎◌, ℕ, ℤ, ◌+◌, ◌<◌, ◌≤◌, false, not, nat_lt, position, Option, Some, None, List, [], ◌∷◌, ◌++◌, IfSome, pos, length, slice_get}
use Rattle.std.specs.List.{AllByRecursion}
use Rattle.dbl_base.specs.declared.lsn.Lsn.{Lsn}
use Rattle.dbl_pgmsg.specs.declared.messages.Message.{Message}
use Rattle.dbl_pgmsg.specs.Grammar.{FitsFields}
use Rattle.dbl_record.specs.declared.record.Record.{Record}
use Rattle.dbl_model_table.specs.declared.change.Body.{Body}
use Rattle.dbl_model_table.specs.declared.change.Body.TheVariants.{Changes, Mark}
use Rattle.dbl_model_table.specs.declared.change.Commit.{Commit}
use Rattle.dbl_model_table.specs.declared.identity.Identity.{Identity}
use Rattle.dbl_model_table.specs.declared.table.TableInfo.{TableInfo}
use Rattle.dbl_model_history.specs.declared.cursor.Cursor.{Cursor}
use Rattle.dbl_model_history.specs.Cursors.{AreCursorsOf}
use Rattle.dbl_model_history.specs.KeyedRows.{last_key}
use Rattle.dbl_model_history.specs.Ranges.{IsMomentInRange}
use Rattle.dbl_model_commit.specs.Past.{begin_of, last_lsn}
use Rattle.dbl_model_commit.specs.Blocks.{AreWithoutFault}
use Rattle.dbl_model_commit.specs.Stated.{commits_of}
use Rattle.dbl_envelope.specs.ModelEvent.Clashes.{clash_of}
use Rattle.dbl_envelope.specs.ModelEvent.EventJson.{envelopes}
use Rattle.dbl_envelope.specs.ModelEvent.Snapshots.{AreInKeyOrder}
use Rattle.dbl_txn.specs.Stands.{StandsInPieces}
use Rattle.dbl_offset_content.specs.declared.offset.Offset.{Offset}
use Rattle.dbl_offset.specs.Offsets.{IsOffset}
use Rattle.dbl_window.specs.Plans.{Plan, Chunk}
use Rattle.dbl_follow.specs.declared.window.Window.{Window}
use Rattle.dbl_follow.specs.declared.window.Window.TheVariants.{Absent, Armed, Open}
use Rattle.dbl_capture_model.specs.Steps.{following_of}
use Rattle.dbl_follow.specs.Amid.{IsAmid}
use Rattle.dbl_follow.specs.Followed.{Following}
use Rattle.dbl_model_table.specs.declared.change.Head.{Head}
use Rattle.dbl_model_table.specs.Heads.{commit_so_far}
use Rattle.dbl_model_commit.specs.Pieces.{changes_so_far}
use Rattle.dbl_capture_work.specs.declared.work.SessionState.{SessionState}
pub use Rattle.dbl_capture_work.specs.Groups.{AreShort}
use Rattle.dbl_record.specs.Groups.{group_form}
use Rattle.dbl_topic.specs.Sinks.{group_limit}
use Rattle.dbl_capture_work.specs.Groups.{IsBatched, IsGathered, records_in}

-- The offset that the session would store now.
abbrev pub next_offset_of : SessionState → Offset
next_offset_of work = record work.offset { cursors = work.follower.cursors }

-- A window that waits is the session's last one, of the first unfinished table; its rows are in key order, and no more than allowed.
pub record IsOwnChunk (incarnation number : ℕ) (infos : List TableInfo) (cursors : List Cursor) (most : ℕ) (chunk : Chunk) : Type 0 where
  pub incarnation_is : chunk.plan.incarnation ≡ incarnation
  pub number_is : chunk.plan.number ≡ number
  pub table : position (λ cursor. not cursor.done) cursors ≡ Some chunk.plan.table
  pub info : slice_get infos chunk.plan.table ≡ Some chunk.plan.info
  pub few : length chunk.rows ≤ most
  pub ordered : AreInKeyOrder chunk.rows

-- A window that is armed or open is the session's last one, of the first unfinished table.
abbrev pub IsOwnWaiting : ℕ → ℕ → List TableInfo → List Cursor → ℕ → Window → Type 0
IsOwnWaiting incarnation number infos cursors most Absent = Unit {0}
IsOwnWaiting incarnation number infos cursors most (Armed chunk) = IsOwnChunk incarnation number infos cursors most chunk
IsOwnWaiting incarnation number infos cursors most (Open chunk) = IsOwnChunk incarnation number infos cursors most chunk

-- The last of the commits, if there are any, ends at this LSN.
abbrev pub EndsAt : Lsn → List Commit → Type 0
EndsAt end [] = Unit {0}
EndsAt end (commit ∷ []) = end ≡ commit.end_lsn
EndsAt end (first ∷ (second ∷ more)) = EndsAt end (second ∷ more)

-- The records of the commit's changes have no value equal to the placeholder, and none is too long.
abbrev pub CouldBeSent : Identity → List TableInfo → ℤ → Commit → Body → Type 0
CouldBeSent identity infos now commit (Changes changes) = (clash_of identity infos commit ≡ None)
    × AreShort (envelopes identity infos commit now)
CouldBeSent identity infos now commit (Mark value) = Unit {0}

-- The invariant of a session between transactions that began to read after this LSN, and has read these messages, newest first, all of them
-- valid. Within a transaction it is true of the session as it was before the transaction's first change (`HasOpen`).
pub record IsWork (after : Lsn) (ms : List Message) (work : SessionState) : Type 0 where
  pub asked : IsOffset work.offset
  pub identity : work.follower.identity ≡ work.offset.identity
  pub infos : work.follower.infos ≡ work.offset.infos
  pub cursors : AreCursorsOf work.offset.infos work.follower.cursors
  pub stands : StandsInPieces work.offset.infos after ms work.assembler
  pub fields : AllByRecursion FitsFields ms
  pub accepted : AreWithoutFault work.offset.infos after ms
  pub lsn : work.offset.lsn ≡ last_lsn after ms
  pub end_is : EndsAt work.offset.end_lsn (commits_of work.offset.infos ms)
  pub start : work.offset.start.0 ≤ after.0
  pub sent : AllByRecursion (λ commit. CouldBeSent work.offset.identity work.offset.infos work.now_ms commit commit.body)
      (commits_of work.offset.infos ms)
  pub between : work.follower.part ≡ None
  pub own : IsOwnWaiting work.offset.incarnation work.number work.offset.infos work.follower.cursors work.chunk work.follower.window
  pub some_rows : 1 ≤ work.chunk
  pub few_rows : work.chunk ≤ 100000
  pub some : 1 ≤ work.every

-- ---- the open transaction

-- The Begin of the open transaction; between transactions one that has no meaning.
abbrev pub head_in : Option Head → Head
head_in None = record { lsn = record { 0 = 0 }; time = pos 0; xid = 0 }
head_in (Some head) = head

-- The open transaction with its changes so far, as a commit that ends there; between transactions one without changes.
abbrev pub open_commit : List TableInfo → List Message → Commit
open_commit infos ms = commit_so_far (head_in (begin_of ms)) (changes_so_far infos ms)

-- The records of the open transaction so far have no value equal to the placeholder, and none is too long but perhaps one of the last two,
-- which aren't appended yet.
pub record CouldBeSentSoFar (work : SessionState) (ms : List Message) : Type 0 where
  pub clear : clash_of work.offset.identity work.offset.infos (open_commit work.offset.infos ms) ≡ None
  pub short : (place : ℕ) (item : Record)
      → slice_get (envelopes work.offset.identity work.offset.infos (open_commit work.offset.infos ms) work.now_ms) place ≡ Some item
      → place + 2 < length (envelopes work.offset.identity work.offset.infos (open_commit work.offset.infos ms) work.now_ms)
      → length (group_form (item ∷ [])) ≤ group_limit

-- The follower was `start` before the open transaction, and has followed its changes so far and released these records.
abbrev pub FollowsOpen : List Message → Following → List Record → SessionState → Type 0
FollowsOpen ms start released work =
    IsAmid start (head_in (begin_of ms)) (changes_so_far work.offset.infos ms) work.now_ms released work.follower

-- The session follows the open transaction: its follower was `start` before it, has followed its changes so far, and released these
-- records, of which `put` were appended in batches, none of them too long, and the others are in the batch that is gathered. Between
-- transactions there are none.
pub record IsAmidWork (ms : List Message) (start : Following) (put : List Record) (work : SessionState) : Type 0 where
  pub amid : FollowsOpen ms start (put ++ records_in work.batch) work
  pub gathered : IfSome work.batch IsGathered
  pub batched : IsBatched put (records_in work.batch)
  pub short : AreShort put
  -- While part of a transaction is appended, fewer than `every` commits are not in the stored offset; the time has 64 bits.
  pub early : (put ≡ []) ⊎ ((work.since < work.every) × IsMomentInRange work.now_ms)

-- The session as it was before the first change of the open transaction, but for the messages that were read since.
abbrev pub resting : Following → SessionState → SessionState
resting start work = record work { follower = start; batch = None }

-- How far the session is ahead of the session before the open transaction, after these messages.
pub record HasOpen (ms : List Message) (work : SessionState) : Type 0 where
  pub start : Following
  pub put : List Record
  pub is : IsAmidWork ms start put work

-- The session before the open transaction; between transactions the session itself.
abbrev pub rest_in : {ms : List Message} {work : SessionState} → HasOpen ms work → SessionState
rest_in {ms} {work} ahead = resting ahead.start work

-- The invariant of a session, after some messages.
pub record HasReadyWork (work : SessionState) : Type 0 where
  pub after : Lsn
  pub messages : List Message
  pub ahead : HasOpen messages work
  pub is : IsWork after messages (rest_in ahead)

-- A session that begins with this offset, and has read nothing.
pub record BeginsWithOffset (offset : Offset) (now : ℤ) (chunk every : ℕ) (work : SessionState) : Type 0 where
  pub is : IsWork offset.lsn [] work
  pub offset_is : work.offset ≡ offset
  pub follower : work.follower ≡ following_of offset
  pub now_is : work.now_ms ≡ now
  pub chunk_is : work.chunk ≡ chunk
  pub every_is : work.every ≡ every
  pub none : work.since ≡ 0
  pub no_batch : work.batch ≡ None
  pub unread : work.number ≡ 0

-- ---- windows

-- The plan of the next window of a table with this description and this cursor.
abbrev pub plan_with : SessionState → ℕ → Option TableInfo → Option Cursor → Option Plan
plan_with work table None cursor = None
plan_with work table (Some info) None = None
plan_with work table (Some info) (Some cursor) = Some (record {
  info = info;
  table = table;
  above = cursor.last;
  limit = work.chunk;
  incarnation = work.offset.incarnation;
  number = work.number + 1;
  version = 1;
})

-- The plan of the next window of a captured table.
abbrev pub plan_at : SessionState → ℕ → Option Plan
plan_at work table = plan_with work table (slice_get work.offset.infos table) (slice_get work.follower.cursors table)

-- The table is the first captured one that isn't read to its end.
pub record IsOpenTable (work : SessionState) (table : ℕ) : Type 0 where
  pub first : position (λ cursor. not cursor.done) work.follower.cursors ≡ Some table
  pub cursor : Cursor
  pub cursor_is : slice_get work.follower.cursors table ≡ Some cursor
  pub not_done : cursor.done ≡ false

-- The chunk that a plan reads: at most so many rows, in key order, up to the key of the last one; the table ends there if they are fewer.
pub record IsChunkOf (plan : Plan) (chunk : Chunk) : Type 0 where
  pub plan_is : chunk.plan ≡ plan
  pub few : length chunk.rows ≤ plan.limit
  pub ordered : AreInKeyOrder chunk.rows
  pub through : chunk.through ≡ last_key plan.above chunk.rows
  pub done : chunk.done ≡ nat_lt (length chunk.rows) plan.limit

-- The session waits for one window more, and nothing else of its state changed.
pub record IsArmedWork (table : ℕ) (old new : SessionState) : Type 0 where
  pub chunk : Chunk
  pub plan : plan_at old table ≡ Some chunk.plan
  pub few : length chunk.rows ≤ chunk.plan.limit
  pub ordered : AreInKeyOrder chunk.rows
  pub through : chunk.through ≡ last_key chunk.plan.above chunk.rows
  pub done : chunk.done ≡ nat_lt (length chunk.rows) chunk.plan.limit
  pub is : new ≡ record old { follower = record old.follower { window = Armed chunk }; number = old.number + 1 }
