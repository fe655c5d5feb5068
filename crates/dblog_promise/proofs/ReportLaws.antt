-- What a session reports that has settled is of what the disks hold.
use Rattle.std.proofs.Common.{◌≡◌, ◌∙◌, ℕ, ◌+◌, ◌==◌, ◌<◌, Bool, false, if◌then◌else◌, Option, Some, None, List, [], ◌∷◌, ◌++◌, length, take, drop, reverse, refl, sym, ap, subst, arith}
use Rattle.std.specs.Prelude.{slice_get}
use Rattle.std.proofs.lemmas.List.{length-reverse, reverse-reverse}
use Rattle.dbl_base.specs.declared.lsn.Lsn.{Lsn}
use Rattle.dbl_disk.specs.Model.{DiskModel}
use Rattle.dbl_pgmsg.specs.declared.messages.Message.{Message}
use Rattle.dbl_model_table.specs.declared.config.Config.{Config}
use Rattle.dbl_model_table.specs.declared.table.TableInfo.{TableInfo}
use Rattle.dbl_model_history.specs.Fit.{AreInfosOf}
use Rattle.dbl_model_commit.specs.Blocks.{AreWithoutFault}
use Rattle.dbl_model_commit.specs.Past.{last_lsn}
use Rattle.dbl_model_commit.specs.Stated.{commits_of}
use Rattle.dbl_source.specs.SourceModel.Standings.{Reading}
use Rattle.dbl_source.specs.SourceModel.Stated.{ReadsRight, to_state}
use Rattle.dbl_source.specs.SourceLog.declared.logged.LogTable.{LogTable}
use Rattle.dbl_source.specs.SourceLog.declared.logged.Logged.{Logged}
use Rattle.dbl_source.specs.SourceLog.declared.reader_position.ReaderPosition.{ReaderPosition}
use Rattle.dbl_source.specs.SourceLog.Alterations.{tables_after, tables_through}
use Rattle.dbl_source.specs.SourceLog.Numbers.{commits_upto}
use Rattle.dbl_source.specs.SourceLog.Sent.{index_of, tables_at, told_at, told_commit, told_from, told_open, told_part, told_whole}
use Rattle.dbl_source.proofs.SourceLogReaderLemmas.{read_plain}
use Rattle.dbl_source.proofs.SourceLogSentLemmas.{reads_what_is_sent}
use Rattle.dbl_capture_laws.specs.Offset.declared.offset.Offset.{Offset}
use Rattle.dbl_demo_laws.specs.DemoWal.Sound.{logged_in}
use Rattle.dbl_demo_laws.specs.DemoWal.Standings.{wal_reading, messages_sent, tables_of}
use Rattle.dbl_demo_laws.specs.DemoWal.Wals.{Wal}
use Rattle.dbl_demo_laws.proofs.DemoWalFitLaws.{wal_is_fair}
use Rattle.dbl_capture_laws.specs.CaptureWork.declared.report.Ending.{Ending}
use Rattle.dbl_capture_laws.specs.CaptureWork.declared.report.Ending.TheVariants.{Budget, Complete}
use Rattle.dbl_capture_laws.specs.Found.{IsStoredBy, position_of}
use Rattle.dbl_capture_laws.specs.Reported.{AllCouldBeSent, BeginsAfter, began_after, end_after}
use Rattle.dblog_promise.specs.Contents.{history_at}
use Rattle.dblog_promise.specs.PromiseLaws.{SettledReportsAreRight}
use Rattle.dblog_promise.specs.Reports.{CountsMessages, IsSentUpto, HasNoOpenTransaction, commits_between, course, read_after}
use Rattle.dblog_promise.proofs.CommitCounts.{commits_counted}
use Rattle.dblog_promise.proofs.WholeLaws.{all_is_read, infos_of}

-- ---- the stored offset

beyond_is : (old new : Option Offset) (offset : Offset) (infos : List TableInfo) (after : Lsn) → new ≡ Some offset → BeginsAfter old new infos after → after ≡ read_after old offset
beyond_is (Some old) new offset infos after is begins = begins.1
beyond_is None None offset infos after is begins = absurd begins
beyond_is None (Some first) offset infos after is begins = begins.1 ∙ ap (λ (o : Offset). o.start) (let e : first ≡ offset = cc in e)

raised : (a b : ℕ) → b ≡ a + 1 → (a == b) ≡ false
raised a b is = grind (arith, is)

position_is : (config : Config) (old new : Option Offset) (offset : Offset) → new ≡ Some offset → IsStoredBy config old offset → position_of old new ≡ offset.lsn.0
position_is config None new offset is by = ap (position_of None) is
position_is config (Some old) new offset is by =
    ap (position_of (Some old)) is ∙ ap (λ (b : Bool). if b then 0 else offset.lsn.0) (raised old.incarnation offset.incarnation by.3)

-- ---- whole commits

whole_from : (tables : List LogTable) (n : ℕ) (log : List Logged) (past : List Message) → HasNoOpenTransaction past → HasNoOpenTransaction (told_from tables n log past)
whole_from tables n [] past whole = whole
whole_from tables n (entry ∷ log) past whole = whole_from (tables_after entry tables) (n + 1) log (told_commit tables n entry past) tt

closed : (tables : List LogTable) (place : ReaderPosition) (entry : Option Logged) (past : List Message) → place.begun ≡ false → HasNoOpenTransaction past → HasNoOpenTransaction (told_open tables place entry past)
closed tables place None past shut whole = whole
closed tables place (Some entry) past shut whole = subst (λ (b : Bool). HasNoOpenTransaction (if b then told_part tables place entry past else past)) (sym shut) whole

whole_at : (tables : List LogTable) (log : List Logged) (place : ReaderPosition) → place.begun ≡ false → HasNoOpenTransaction (told_at tables log place)
whole_at tables log place shut =
    closed (tables_at tables log place) place (slice_get log (index_of place)) (told_whole tables place.after place.commits log) shut
    (whole_from (tables_through (take (commits_upto place.after) log) tables) (commits_upto place.after + 1) (take place.commits (drop (commits_upto place.after) log)) [] tt)

-- ---- the report

messages_counted : (ending : Ending) (budget count : ℕ) (ms : List Message) → length ms ≡ count
    → (ending ≡ Complete → (count < budget) × HasNoOpenTransaction ms) → (ending ≡ Budget → count ≡ budget) → CountsMessages ending budget (reverse ms) count
messages_counted Complete budget count ms many complete spent =
    let both = complete refl in
    (sym many ∙ sym (length-reverse ms), both.0, subst HasNoOpenTransaction (sym (reverse-reverse ms)) both.1)
messages_counted Budget budget count ms many complete spent = (sym many ∙ sym (length-reverse ms), spent refl)

sent_upto : (wal : Wal) (place : ReaderPosition) (after upto : Lsn) (ms : List Message) → place.after ≡ after → told_at (tables_of wal) (logged_in wal.entries) place ≡ ms → upto ≡ last_lsn after ms
    → IsSentUpto wal after upto (reverse ms)
sent_upto wal place after upto ms from are last =
    let prefix = reads_what_is_sent (tables_of wal) (logged_in wal.entries) place in
    record {
      rest = prefix.0;
      front = ap (messages_sent wal) (sym from) ∙ prefix.1 ∙ ap (λ (l : List Message). reverse l ++ prefix.0) are;
      last = last ∙ ap (last_lsn after) (sym (reverse-reverse ms));
    }

pub settled_reports_are_right : {D : Type 0} (model : DiskModel D) → SettledReportsAreRight model
settled_reports_are_right model config now old new ending report bytes demo place more kept wal_is is at complete spent settled position gained are =
    let wal = new.wal in
    let tables = tables_of wal in
    let log = logged_in wal.entries in
    let offset = settled.stored.offset in
    let ms = settled.reading.messages in
    let after = read_after old.offset offset in
    let reading : wal_reading wal place ≡ settled.reading = (let e : Some (wal_reading wal place) ≡ Some settled.reading = settled.reading_is in cc) in
    let after_is : settled.reading.after ≡ after = beyond_is old.offset new.offset offset offset.infos settled.reading.after settled.stored.is settled.begins_after in
    let from : place.after ≡ after = ap (λ (r : Reading). r.after) reading ∙ after_is in
    let told : told_at tables log place ≡ ms = ap (λ (r : Reading). r.messages) reading in
    let accepted : AreWithoutFault offset.infos after ms = subst (λ (l : Lsn). AreWithoutFault offset.infos l ms) after_is settled.accepted in
    let last : offset.lsn ≡ last_lsn after ms = settled.last ∙ ap (λ (l : Lsn). last_lsn l ms) after_is in
    let infos : AreInfosOf (history_at new) offset.infos = infos_of new new.offset offset kept.fit kept.faithful settled.stored.is in
    let right = read_plain tables log place (wal_is_fair bytes wal wal_is) offset.infos infos in
    let count : length (commits_of offset.infos ms) ≡ length (commits_between after.0 (last_lsn after ms).0 (history_at new)) =
    commits_counted offset.infos after (history_at new) ms kept.fit.rising
    (subst (λ (l : Lsn). ReadsRight offset.infos l (to_state offset.infos l (history_at new)) ms) from
    (subst (λ (l : List Message). ReadsRight offset.infos place.after (to_state offset.infos place.after (history_at new)) l) told right)) accepted in
    record {
      offset = offset;
      stored = settled.stored.is;
      by = settled.stored.by;
      position = position ∙ position_is config old.offset new.offset offset settled.stored.is settled.stored.by;
      confirmed = settled.upto;
      sent_messages = reverse ms;
      are_sent = sent_upto wal place after offset.lsn ms from told last;
      faultless = subst (AreWithoutFault offset.infos after) (sym (reverse-reverse ms)) accepted;
      sendable = subst (λ (l : List Message). AllCouldBeSent (course offset now after) (commits_of offset.infos l)) (sym (reverse-reverse ms))
          (subst (λ (l : Lsn). AllCouldBeSent (course offset now l) (commits_of offset.infos ms)) after_is settled.sent);
      messages = messages_counted ending config.messages report.messages ms settled.many
          (λ ended. ((complete ended).1, subst HasNoOpenTransaction told (whole_at tables log place ((is.ended (complete ended).0).whole place at)))) spent;
      commits = settled.followed ∙ count ∙ ap (λ (l : Lsn). length (commits_between after.0 l.0 (history_at new))) (sym last);
      end_lsn = settled.end_lsn ∙ ap (λ (l : List Message). end_after (began_after old.offset offset) (commits_of offset.infos l)) (sym (reverse-reverse ms));
      all_read = λ ended. (let has = is.ended (complete ended).0 in
          all_is_read tables log place offset.lsn (is.running.reader.placed place at) (has.whole place at)
          (settled.last ∙ sym (ap (λ (r : Reading). last_lsn r.after r.messages) reading)) (has.read place at));
      more = more;
      gained = gained;
      counted = are;
    }
