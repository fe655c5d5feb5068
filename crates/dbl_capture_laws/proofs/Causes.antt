-- Why a session stops with an error: by the rows of a window, by the messages that it has read, and by what it is to store.
use Rattle.std.proofs.Common.{◌≡◌, ◌∙◌, inl, inr, ◌+◌, ℕ, ℤ, suc, Option, Some, None, List, [], ◌∷◌, length, refl, sym, ap, ap₂, subst, arith}
use Rattle.std.specs.Prelude.{not}
use Rattle.std.specs.List.{position}
use Rattle.dbl_base.specs.declared.lsn.Lsn.{Lsn}
use Rattle.dbl_pgmsg.specs.declared.messages.Message.{Message}
use Rattle.dbl_pgmsg.specs.Grammar.{Spells}
use Rattle.dbl_model_table.specs.declared.config.Config.{Config}
use Rattle.dbl_model_table.specs.declared.table.TableInfo.{TableInfo}
use Rattle.dbl_capture_work.specs.ModelHistory.declared.cursor.Cursor.{Cursor}
use Rattle.dbl_capture_work.specs.ModelHistory.MarkTexts.{Side, mark_text}
use Rattle.dbl_capture_work.specs.ModelHistory.MarkTexts.Side.{Low, High}
use Rattle.dbl_capture_work.specs.ModelCommit.Stated.{commits_of}
use Rattle.dbl_capture_work.specs.ModelEvent.Clashes.{Clash, clash_of}
use Rattle.dbl_capture_work.specs.SourceModel.Standings.{SourceState}
use Rattle.dbl_capture_work.specs.SourceModel.Trace.{Trace}
use Rattle.dbl_capture_work.proofs.FaithfulItems.{first_some}
use Rattle.dbl_capture_work.specs.Offset.declared.offset.Offset.{Offset}
use Rattle.dbl_capture_work.specs.Offset.Offsets.{IsOffset}
use Rattle.dbl_capture_work.specs.Window.Plans.{Chunk, low_text, high_text}
use Rattle.dbl_capture_work.specs.Follow.declared.window.Window.{Window}
use Rattle.dbl_capture_work.specs.Follow.declared.window.Window.TheVariants.{Absent, Armed, Open}
use Rattle.dbl_capture_work.specs.Follow.Followed.{awaited}
use Rattle.dbl_capture_work.specs.Follow.Steps.{clash_by}
use Rattle.dbl_capture_work.specs.CaptureModel.Counted.{waiting}
use Rattle.dbl_capture_work.specs.declared.halt.Halt.{Halt}
use Rattle.dbl_capture_work.specs.declared.halt.Halt.TheVariants as halt
use Rattle.dbl_capture_work.specs.declared.report.Report.{Report}
use Rattle.dbl_capture_work.specs.declared.work.SessionState.{SessionState}
use Rattle.dbl_capture_work.specs.Begins.{IsTooLong}
use Rattle.dbl_capture_work.specs.Takes.{IsClashIn}
use Rattle.dbl_capture_work.specs.Works.{IsOwnChunk, IsOwnWaiting, IsWork, next_offset_of, open_commit}
use Rattle.dbl_capture_laws.specs.Halted.{IsOpenAmong, IsHalt, IsHaltOfStood, IsNextOffset, IsStoodHalt, IsToldHalt, MissesMark, MovesOne}
use Rattle.dbl_capture_laws.specs.Underway.{BytesHalt, IsBetweenMessages, IsNewestHalt, IsOfFirst, IsOpenedBy, MarksAreMissed, MessagesHalt, OffsetsHalt, SourcesStoodAtHalts, SourcesStoodAtOffsets, WindowsHalt}
use Rattle.dbl_capture_laws.proofs.Reported.{read_after, read_is, same_many, taken_more}
use Rattle.dbl_capture_laws.proofs.Halting.{accepted_stored, chunk_halts, identity_stored, incarnation_stored, infos_stored, newest_by, was_stood, was_told}

-- ---- halts that the messages tell

abbrev IsOfMessages : Halt → Type 0
IsOfMessages (halt.Txn number error) = Unit {0}
IsOfMessages (halt.Clash table column) = Unit {0}
IsOfMessages (halt.RecordTooLong len) = Unit {0}
IsOfMessages h = ⊥

clash_kind : (x : Option Clash) (h : Halt) → IsClashIn x h → IsOfMessages h
clash_kind None h found = absurd found
clash_kind (Some c) h found = subst IsOfMessages (sym found) tt

newest_kind : (number : ℕ) (after : Lsn) (ms : List Message) (bytes : List ℕ) (work : SessionState) (h : Halt) → IsNewestHalt number after ms bytes work h → IsOfMessages h
newest_kind number after ms bytes work h (inl txn) = subst IsOfMessages (sym txn.is) tt
newest_kind number after ms bytes work h (inr (inl part)) = elim part.is [
  | inl clash ↦ clash_kind (clash_of work.offset.identity work.offset.infos (open_commit work.offset.infos (part.taken.message ∷ ms))) h clash
  | inr long ↦ subst IsOfMessages (sym long.1.long.is) tt
]
newest_kind number after ms bytes work h (inr (inr sent)) = elim sent.3 [
  | inl clash ↦ clash_kind (clash_by sent.0.follower sent.1) h clash
  | inr long ↦ subst IsOfMessages (sym long.1.is) tt
]

told_of : (config : Config) (now : ℤ) (old new : Option Offset) (report : Report) (told : Option Trace) (h : Halt) → IsOfMessages h → IsToldHalt config now old new report told h → IsHalt config now old new report told h
told_of config now old new report told (halt.Txn number error) kind is = is
told_of config now old new report told (halt.Clash table column) kind is = is
told_of config now old new report told (halt.RecordTooLong len) kind is = is
told_of config now old new report told h kind is = absurd kind

stood_of : (config : Config) (now : ℤ) (old new : Option Offset) (report : Report) (t : SourceState) (h : Halt) → IsOfMessages h → IsStoodHalt config now old new report t h → IsHaltOfStood config now old new report t h
stood_of config now old new report t (halt.Txn number error) kind is = is
stood_of config now old new report t (halt.Clash table column) kind is = is
stood_of config now old new report t (halt.RecordTooLong len) kind is = is
stood_of config now old new report t h kind is = absurd kind

-- ---- why it stops with an error

one_more : (n m k : ℕ) → n ≡ m → k ≡ m + 1 → suc n ≡ k
one_more n m k one two = omega (arith, one, two)

-- the message that the newest bytes spell, where its halt is told by it
record IsSpelledOnce (bytes : List ℕ) : Type 0 where
  message : Message
  spells : Spells bytes message

spelled_once : (number : ℕ) (after : Lsn) (ms : List Message) (bytes : List ℕ) (work : SessionState) (h : Halt) → IsNewestHalt number after ms bytes work h → IsSpelledOnce bytes
spelled_once number after ms bytes work h (inl txn) = record { message = txn.message; spells = txn.spells }
spelled_once number after ms bytes work h (inr (inl part)) = record { message = part.taken.message; spells = part.taken.spells }
spelled_once number after ms bytes work h (inr (inr sent)) = record { message = sent.2.message; spells = sent.2.spells }

pub windows_halt : WindowsHalt
windows_halt config now held first stored work report table told h o b absent open_table chunk = chunk_halts config now held first stored work o report b told table h absent open_table chunk

pub bytes_halt : BytesHalt
bytes_halt config now held first stored work before report found begun old new bytes h o anew t taken messages fault =
    subst (IsHalt config now held (Some stored) report new) (sym fault.is) (
      read_after config now held first stored o.for_config o.of report new (bytes ∷ t.read) many (λ x is. read_is (bytes ∷ t.read) found begun new x is anew (taken_more (bytes ∷ []) t.read begun old new t.taken taken (bytes ∷ t.read) refl)),
      record {
        bytes = bytes;
        earlier = t.read;
        newest = refl;
        fault = fault.fault;
        number_is = sym many;
      },
    )
  where
    many : length (bytes ∷ t.read) ≡ report.messages
    many = one_more (length t.read) before.messages report.messages t.many messages

pub messages_halt : MessagesHalt
messages_halt config now held first stored work before report found begun old new bytes h o b anew t so_far taken messages cause =
    told_of config now held (Some stored) report new h (newest_kind report.messages first.lsn t.messages bytes work h cause) (record {
      reading = record { after = first.lsn; messages = once.message ∷ t.messages };
      was = was_told config now held first stored work o report new (bytes ∷ t.read) (once.message ∷ t.messages) many (once.spells, t.spelled)
          (λ x is. read_is (bytes ∷ t.read) found begun new x is anew (taken_more (bytes ∷ []) t.read begun old new t.taken taken (bytes ∷ t.read) refl));
      by = newest_by config now held first stored work o report b t.messages t.is so_far bytes once.message once.spells h (sym many) cause;
    })
  where
    once : IsSpelledOnce bytes
    once = spelled_once report.messages first.lsn t.messages bytes work h cause

    many : length (once.message ∷ t.messages) ≡ report.messages
    many = one_more (length t.messages) before.messages report.messages (same_many t.read t.messages t.spelled ∙ t.many) messages

pub sources_stood_at_halts : SourcesStoodAtHalts
sources_stood_at_halts config now held first stored work before report s t m bytes h o b subsequent so_far reading messages spells cause =
    stood_of config now held (Some stored) report t h (newest_kind report.messages first.lsn subsequent.messages bytes work h cause) (record {
      reading = record { after = first.lsn; messages = m ∷ subsequent.messages };
      was = was_stood config now held first stored work o report t (m ∷ subsequent.messages) many reading;
      by = newest_by config now held first stored work o report b subsequent.messages subsequent.is so_far bytes m spells h (sym many) cause;
    })
  where
    many : length (m ∷ subsequent.messages) ≡ report.messages
    many = one_more (length subsequent.messages) before.messages report.messages subsequent.many messages

-- ---- a watermark that is missed

module _ (config : Config) (now : ℤ) (held : Option Offset) (first stored : Offset) (work : SessionState) (report : Report) (o : IsOfFirst config now held first stored work) (b : IsBetweenMessages work stored report.chunks)
    (ms : List Message) (is : IsWork first.lsn ms work) (opened : IsOpenedBy work.follower.window (commits_of work.offset.infos ms)) where
  text_at : (side : Side) (chunk : Chunk) → IsOwnChunk work.offset.incarnation work.number work.offset.infos work.follower.cursors work.chunk chunk → work.number ≡ report.chunks + 1
      → mark_text chunk.plan.incarnation chunk.plan.number side ≡ mark_text stored.incarnation (report.chunks + 1) side
  text_at side chunk own counted = ap₂ (λ (i n : ℕ). mark_text i n side) (own.incarnation_is ∙ incarnation_stored config now held first stored work o) (own.number_is ∙ counted)

  table_at : (chunk : Chunk) → IsOwnChunk work.offset.incarnation work.number work.offset.infos work.follower.cursors work.chunk chunk → position (λ (c : Cursor). not c.done) stored.cursors ≡ Some chunk.plan.table
  table_at chunk own = ap (position (λ (c : Cursor). not c.done)) b.cursors ∙ own.table

  low_high : Low ≡ High → ⊥
  low_high is_same = cc

  open_now : (low high : List ℕ) → IsOpenAmong low high (commits_of work.offset.infos ms) → IsOpenAmong low high (commits_of stored.infos ms)
  open_now low high has = subst (λ (l : List TableInfo). IsOpenAmong low high (commits_of l ms)) (infos_stored config now held first stored work o) has

  pub missed : (value : List ℕ) (w : Window) → IsOwnWaiting work.offset.incarnation work.number work.offset.infos work.follower.cursors work.chunk w → awaited w ≡ Some value → work.number ≡ report.chunks + waiting w → IsOpenedBy w (commits_of work.offset.infos ms)
      → MissesMark report stored (record { after = first.lsn; messages = ms }) value work.offset.lsn
  missed value Absent own waits counted was = cc
  missed value (Armed chunk) own waits counted was = record {
    accepted = accepted_stored config now held first stored work o ms is.accepted;
    table = chunk.plan.table;
    waits = table_at chunk own;
    side = Low;
    value_is = sym (first_some (low_text chunk.plan) value waits) ∙ text_at Low chunk own counted;
    opened = λ high. absurd (low_high high);
    last = is.lsn;
  }
  missed value (Open chunk) own waits counted was = record {
    accepted = accepted_stored config now held first stored work o ms is.accepted;
    table = chunk.plan.table;
    waits = table_at chunk own;
    side = High;
    value_is = sym (first_some (high_text chunk.plan) value waits) ∙ text_at High chunk own counted;
    opened = λ high. subst (λ (v : List ℕ). IsOpenAmong v value (commits_of stored.infos ms)) (text_at Low chunk own counted)
        (subst (λ (v : List ℕ). IsOpenAmong (low_text chunk.plan) v (commits_of stored.infos ms)) (first_some (high_text chunk.plan) value waits) (open_now (low_text chunk.plan) (high_text chunk.plan) was));
    last = is.lsn;
  }

pub marks_are_missed : MarksAreMissed
marks_are_missed config now held first stored work report found begun told value o b anew t opened waits answer = (
  answer,
  record {
    reading = record { after = first.lsn; messages = t.messages };
    was = was_told config now held first stored work o report told t.read t.messages (same_many t.read t.messages t.spelled ∙ t.many) t.spelled (λ x is. read_is t.read found begun told x is anew t.taken);
    by = missed config now held first stored work report o b t.messages t.is opened value work.follower.window t.is.own waits b.windows opened;
  },
)

module _ (config : Config) (now : ℤ) (held : Option Offset) (first stored : Offset) (work : SessionState) (o : IsOfFirst config now held first stored work) (ms : List Message) (is : IsWork first.lsn ms work) (moves : MovesOne stored.cursors work.follower.cursors) (asked : IsOffset (next_offset_of work)) where
  next_is : IsNextOffset stored (record { after = first.lsn; messages = ms }) (next_offset_of work)
  next_is = record {
    asked = asked;
    of = record {
      identity = identity_stored config now held first stored work o;
      infos = infos_stored config now held first stored work o;
      versions = ap (λ (x : Offset). x.versions) o.placed ∙ sym o.of.versions;
      start = ap (λ (x : Offset). x.start) o.placed ∙ sym o.of.start;
      incarnation = incarnation_stored config now held first stored work o;
    };
    moves = moves;
    accepted = accepted_stored config now held first stored work o ms is.accepted;
    lsn = is.lsn;
  }

pub offsets_halt : OffsetsHalt
offsets_halt config now held first stored work report found begun told h o anew t moves asked long =
    subst (IsHalt config now held (Some stored) report told) (sym long.is) (inr (
      record { after = first.lsn; messages = t.messages },
      was_told config now held first stored work o report told t.read t.messages (same_many t.read t.messages t.spelled ∙ t.many) t.spelled (λ x is. read_is t.read found begun told x is anew t.taken),
      next_offset_of work,
      next_is config now held first stored work o t.messages t.is moves asked,
      subst (IsTooLong (next_offset_of work)) long.is long,
    ))

pub sources_stood_at_offsets : SourcesStoodAtOffsets
sources_stood_at_offsets config now held first stored work report t h o b moves asked long =
    subst (IsHaltOfStood config now held (Some stored) report t) (sym long.is) (inr (
      record { after = first.lsn; messages = b.messages },
      was_stood config now held first stored work o report t b.messages b.many b.reading_is,
      next_offset_of work,
      next_is config now held first stored work o b.messages b.is moves asked,
      subst (IsTooLong (next_offset_of work)) long.is long,
    ))
