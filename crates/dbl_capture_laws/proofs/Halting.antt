-- What the rows of a window and the newest message tell of a halt, as the stored offset has the tables.
use Rattle.std.proofs.Common.{◌≡◌, ◌≢◌, ◌∙◌, ◌⊎◌, inl, inr, ◌+◌, ◌≤◌, ◌<◌, ℕ, ℤ, Bool, true, false, Option, Some, None, List, [], ◌∷◌, length, refl, sym, ap, ap₂, subst, arith}
use Rattle.std.specs.Prelude.{if◌then◌else◌, not, flat_map, map, bytes_eq, slice_get, Ok}
use Rattle.std.specs.List.{position}
use Rattle.std.proofs.lemmas.Slice.Eq.{bytes_eq-Decides}
use Rattle.dbl_pgmsg.specs.declared.messages.Message.{Message}
use Rattle.dbl_pgmsg.specs.Grammar.{Spells}
use Rattle.dbl_pgmsg.proofs.MessageLaws.{one_message}
use Rattle.dbl_record.specs.declared.record.Record.{Record}
use Rattle.dbl_record.specs.Groups.{group_form}
use Rattle.dbl_topic.specs.Sinks.{group_limit}
use Rattle.dbl_model_table.specs.declared.config.Config.{Config}
use Rattle.dbl_model_table.specs.declared.identity.Identity.{Identity}
use Rattle.dbl_model_table.specs.declared.table.TableInfo.{TableInfo}
use Rattle.dbl_model_table.specs.declared.table.TableName.{TableName}
use Rattle.dbl_model_table.specs.declared.change.Body.{Body}
use Rattle.dbl_model_table.specs.declared.change.Body.TheVariants.{Changes, Mark}
use Rattle.dbl_model_table.specs.declared.change.Change.{Change}
use Rattle.dbl_model_table.specs.declared.change.Commit.{Commit}
use Rattle.dbl_model_table.specs.Rows.{changes_of}
use Rattle.dbl_capture_work.specs.ModelHistory.declared.cursor.Cursor.{Cursor}
use Rattle.dbl_capture_work.specs.ModelHistory.MarkTexts.{mark_text}
use Rattle.dbl_capture_work.specs.ModelHistory.MarkTexts.Side.{High}
use Rattle.dbl_capture_work.specs.ModelCommit.declared.txn_error.TxnError.{TxnError}
use Rattle.dbl_capture_work.specs.ModelCommit.Blocks.{AreWithoutFault}
use Rattle.dbl_capture_work.specs.ModelCommit.Stated.{ended_commit, stated, transaction_fault}
use Rattle.dbl_capture_work.specs.ModelEvent.Clashes.{Clash, clash_of, first_found, notice_clash, snapshot_clash}
use Rattle.dbl_capture_work.specs.ModelEvent.Events.{notices, numbered}
use Rattle.dbl_capture_work.specs.ModelEvent.EventJson.{envelopes, print}
use Rattle.dbl_capture_work.specs.ModelEvent.Snapshots.{snapshot}
use Rattle.dbl_capture_work.specs.SourceModel.Standings.{Reading, SourceState}
use Rattle.dbl_capture_work.specs.SourceModel.Trace.{Trace}
use Rattle.dbl_capture_work.proofs.FaithfulItems.{first_some}
use Rattle.dbl_capture_work.specs.Offset.declared.offset.Offset.{Offset}
use Rattle.dbl_capture_work.specs.Window.declared.error.WindowError.{WindowError}
use Rattle.dbl_capture_work.specs.Window.declared.error.WindowError.TheVariants as window
use Rattle.dbl_capture_work.specs.Window.Plans.{Plan, Chunk, high_text}
use Rattle.dbl_capture_work.specs.Follow.declared.window.Window.{Window}
use Rattle.dbl_capture_work.specs.Follow.declared.window.Window.TheVariants.{Absent, Armed, Open}
use Rattle.dbl_capture_work.specs.Follow.Steps.{clash_by, clash_in, closed_of, closing, watermark_in, records_by, records_of}
use Rattle.dbl_capture_work.specs.CaptureModel.Counted.{waiting}
use Rattle.dbl_capture_work.specs.declared.halt.Halt.{Halt}
use Rattle.dbl_capture_work.specs.declared.halt.Halt.TheVariants as halt
use Rattle.dbl_capture_work.specs.declared.report.Report.{Report}
use Rattle.dbl_capture_work.specs.declared.work.SessionState.{SessionState}
use Rattle.dbl_capture_work.specs.Causes.{IsChunkHalt, IsLongRecord, IsOfRows}
use Rattle.dbl_capture_work.specs.Halts.{window_halt}
use Rattle.dbl_capture_work.specs.Takes.{IsClashIn, IsLongSoFar, WasTaken}
use Rattle.dbl_capture_work.specs.Works.{CouldBeSentSoFar, IsOpenTable, IsOwnChunk, IsOwnWaiting, IsWork, open_commit, plan_with}
use Rattle.dbl_capture_laws.specs.Found.{HasStored}
use Rattle.dbl_capture_laws.specs.Reported.{AreSpelled, BeginsAfter}
use Rattle.dbl_capture_laws.specs.Halted.{ClosesAt, EndsCommit, HasClosedClash, HasOpenClash, HasOpenLong, IsHalt, IsHaltBy, IsLongOf, IsNextPlan, IsTxnFault, StatesMore, WasStood, WasTold}
use Rattle.dbl_capture_laws.specs.Underway.{IsBetweenMessages, IsNewestHalt, IsOfFirst, IsOpenNewestHalt}
use Rattle.dbl_capture_laws.proofs.OpenCommits.{EndsOpenCommit, IsShortSoFar, at_most, clash_so_far, ends_open, long_now, records_so_far, states_adds, still_begun, too_much}
use Rattle.dbl_capture_laws.proofs.Reported.{has_stored, since_first}

-- ---- a session of this offset

no_item : (place : ℕ) (item : Record) → slice_get [] place ≡ Some item → ⊥
no_item place item at = cc

none_more : (n c : ℕ) → n ≡ c + 0 → n ≡ c
none_more n c e = omega (arith, e)

module _ (config : Config) (now : ℤ) (held : Option Offset) (first stored : Offset) (work : SessionState) (o : IsOfFirst config now held first stored work) where
  infos_first : work.offset.infos ≡ first.infos
  infos_first = ap (λ (x : Offset). x.infos) o.placed

  pub infos_stored : work.offset.infos ≡ stored.infos
  infos_stored = infos_first ∙ sym o.of.infos

  pub incarnation_stored : work.offset.incarnation ≡ stored.incarnation
  incarnation_stored = ap (λ (x : Offset). x.incarnation) o.placed ∙ sym o.of.incarnation

  pub identity_stored : work.offset.identity ≡ stored.identity
  identity_stored = ap (λ (x : Offset). x.identity) o.placed ∙ sym o.of.identity

  abbrev stored_is : HasStored config held (Some stored)
  stored_is = has_stored config held first stored o.for_config o.of

  pub after_stored : BeginsAfter held (Some stored) stored.infos first.lsn
  after_stored = subst (λ (l : List TableInfo). BeginsAfter held (Some stored) l first.lsn) (sym o.of.infos) (since_first config held first stored o.for_config o.of)

  pub accepted_stored : (ms : List Message) → AreWithoutFault work.offset.infos first.lsn ms → AreWithoutFault stored.infos first.lsn ms
  accepted_stored ms is = subst (λ (l : List TableInfo). AreWithoutFault l first.lsn ms) infos_stored is

  abbrev pub reading_of : List Message → Reading
  reading_of ms = record { after = first.lsn; messages = ms }

  -- who tells, tells these
  abbrev pub was_told : (report : Report) (told : Option Trace) (read : List (List ℕ)) (ms : List Message) → length ms ≡ report.messages → AreSpelled read ms → ((t : Trace) → told ≡ Some t → t.read ≡ read) → WasTold config held (Some stored) report told (reading_of ms)
  was_told report told read ms many spelled tells = record {
    stored = stored_is;
    begins_after = after_stored;
    many = many;
    read = read;
    spelled = spelled;
    tells = tells;
  }

  abbrev pub was_stood : (report : Report) (t : SourceState) (ms : List Message) → length ms ≡ report.messages → t.reading ≡ Some (reading_of ms) → WasStood config held (Some stored) report t (reading_of ms)
  was_stood report t ms many is = record { stored = stored_is; begins_after = after_stored; many = many; is = is }

  module _ (report : Report) (b : IsBetweenMessages work stored report.chunks) where
    -- ---- a window's rows

    module _ (told : Option Trace) where
      abbrev Halting : Halt → Type 0
      Halting h = IsHalt config now held (Some stored) report told h

      abbrev planned : ℕ → TableInfo → Cursor → Plan
      planned table i c = record { info = i; table = table; above = c.last; limit = work.chunk; incarnation = work.offset.incarnation; number = work.number + 1; version = 1 }

      next_plan : (table : ℕ) (plan : Plan) (i : Option TableInfo) (c : Option Cursor) → work.follower.window ≡ Absent → IsOpenTable work table → slice_get work.offset.infos table ≡ i → slice_get work.follower.cursors table ≡ c
          → plan_with work table i c ≡ Some plan → IsNextPlan config report stored plan
      next_plan table plan None c absent open_table info cursor is = cc
      next_plan table plan (Some i) None absent open_table info cursor is = cc
      next_plan table plan (Some i) (Some c) absent open_table info cursor is =
          subst (IsNextPlan config report stored) (first_some (planned table i c) plan is) (record {
            table = ap (position (λ (x : Cursor). not x.done)) b.cursors ∙ open_table.first;
            info = ap (λ (l : List TableInfo). slice_get l table) (sym infos_stored) ∙ info;
            cursor = c;
            cursor_is = ap (λ (l : List Cursor). slice_get l table) b.cursors ∙ cursor;
            above = refl;
            limit = o.most;
            incarnation = incarnation_stored;
            number = ap (λ (n : ℕ). n + 1) (none_more work.number report.chunks (subst (λ (w : Window). work.number ≡ report.chunks + waiting w) absent b.windows));
            version = refl;
          })

      window_halts : (name : TableName) (plan : Plan) (error : WindowError) → IsNextPlan config report stored plan → plan.info.name ≡ name → IsOfRows plan told error → Halting (window_halt name error)
      window_halts name plan (window.Moved version) next is rows = record { stored = stored_is; plan = plan; next = next; name = is; error = window.Moved version; is = refl; rows = rows }
      window_halts name plan (window.BadChunk row) next is rows = record { stored = stored_is; plan = plan; next = next; name = is; error = window.BadChunk row; is = refl; rows = rows }
      window_halts name plan (window.Cell column error) next is rows = record { stored = stored_is; plan = plan; next = next; name = is; error = window.Cell column error; is = refl; rows = rows }
      window_halts name plan window.Failed next is rows = tt
      window_halts name plan window.Memory next is rows = tt

      pub chunk_halts : (table : ℕ) (h : Halt) → work.follower.window ≡ Absent → IsOpenTable work table → IsChunkHalt work table told h → Halting h
      chunk_halts table h absent open_table chunk = by chunk.cause
        where
          next : IsNextPlan config report stored chunk.plan
          next = next_plan table chunk.plan (slice_get work.offset.infos table) (slice_get work.follower.cursors table) absent open_table refl refl chunk.plan_is

          info_same : chunk.plan.info ≡ chunk.info
          info_same = first_some chunk.plan.info chunk.info (sym (sym (ap (λ (l : List TableInfo). slice_get l table) (sym infos_stored) ∙ chunk.info_is) ∙ (at_table ∙ next.info)))
            where
              at_table : slice_get stored.infos table ≡ slice_get stored.infos chunk.plan.table
              at_table =
                  let same : Some table ≡ Some chunk.plan.table = sym open_table.first ∙ (ap (position (λ (x : Cursor). not x.done)) (sym b.cursors) ∙ next.table) in
                  ap (λ (n : ℕ). slice_get stored.infos n) (first_some table chunk.plan.table same)

          by : (h ≡ halt.Memory) ⊎ ((h ≡ halt.Source) ⊎ ((error : WindowError) × (h ≡ window_halt chunk.info.name error) × IsOfRows chunk.plan told error)) → Halting h
          by (inl memory) = subst Halting (sym memory) tt
          by (inr (inl source)) = subst Halting (sym source) tt
          by (inr (inr rows)) = subst Halting (sym rows.1) (window_halts chunk.info.name chunk.plan rows.0 next (ap (λ (i : TableInfo). i.name) info_same) rows.2)

    -- ---- the newest message

    module _ (ms : List Message) (is : IsWork first.lsn ms work) where
      -- it has a fault
      pub txn_by : (m : Message) (number : ℕ) (error : TxnError) → transaction_fault work.offset.infos first.lsn m ms ≡ Some error → number ≡ length (m ∷ ms) → IsTxnFault stored.infos (reading_of (m ∷ ms)) number error
      txn_by m number error fault many = record {
        message = m;
        earlier = ms;
        newest = refl;
        accepted = accepted_stored ms is.accepted;
        fault = ap (λ (l : List TableInfo). transaction_fault l first.lsn m ms) (sym infos_stored) ∙ fault;
        number_is = many;
      }

      identity_same : work.follower.identity ≡ stored.identity
      identity_same = is.identity ∙ identity_stored

      infos_same : work.follower.infos ≡ stored.infos
      infos_same = is.infos ∙ infos_stored

      -- what the open transaction could send so far
      clear_stored : CouldBeSentSoFar work ms → clash_of stored.identity stored.infos (open_commit stored.infos ms) ≡ None
      clear_stored so_far =
          subst (λ (i : Identity). clash_of i stored.infos (open_commit stored.infos ms) ≡ None) identity_stored
          (subst (λ (l : List TableInfo). clash_of work.offset.identity l (open_commit l ms) ≡ None) infos_stored so_far.clear)

      short_stored : CouldBeSentSoFar work ms → IsShortSoFar stored.identity stored.infos now ms
      short_stored so_far =
          subst (λ (n : ℤ). IsShortSoFar stored.identity stored.infos n ms) o.time
          (subst (λ (i : Identity). IsShortSoFar i stored.infos work.now_ms ms) identity_stored (subst (λ (l : List TableInfo). IsShortSoFar work.offset.identity l work.now_ms ms) infos_stored so_far.short))

      module _ (so_far : CouldBeSentSoFar work ms) (m : Message) (commit : Commit) (clean : transaction_fault work.offset.infos first.lsn m ms ≡ None) (ends : ended_commit work.offset.infos m ms ≡ Some commit) where
        open_end : EndsOpenCommit stored.infos ms commit
        open_end = subst (λ (l : List TableInfo). EndsOpenCommit l ms commit) infos_stored (ends_open work.offset.infos first.lsn m ms commit clean ends)

        ends_commit : EndsCommit stored.infos (reading_of (m ∷ ms)) commit
        ends_commit = record {
          message = m;
          earlier = ms;
          newest = refl;
          accepted = (ap (λ (l : List TableInfo). transaction_fault l first.lsn m ms) (sym infos_stored) ∙ clean, accepted_stored ms is.accepted);
          ends = ap (λ (l : List TableInfo). ended_commit l m ms) (sym infos_stored) ∙ ends;
        }

        -- a watermark has no changes
        no_changes : (value : List ℕ) → commit.body ≡ Mark value → changes_of commit ≡ []
        no_changes value body = ap (λ (x : Body). elim x [ Changes changes ↦ changes | Mark v ↦ [] ]) body

        -- a watermark that closes an open window
        module _ (value : List ℕ) (chunk : Chunk) (waits : work.follower.window ≡ Open chunk) (text : bytes_eq value (high_text chunk.plan) ≡ true) where
          own : IsOwnChunk work.offset.incarnation work.number work.offset.infos work.follower.cursors work.chunk chunk
          own = subst (λ (w : Window). IsOwnWaiting work.offset.incarnation work.number work.offset.infos work.follower.cursors work.chunk w) waits is.own

          counted : work.number ≡ report.chunks + 1
          counted = subst (λ (w : Window). work.number ≡ report.chunks + waiting w) waits b.windows

          closes_at : ClosesAt config report stored value (closed_of chunk)
          closes_at = record {
            mark = (bytes_eq-Decides value (high_text chunk.plan)).0 text ∙ ap₂ (λ (i n : ℕ). mark_text i n High) (own.incarnation_is ∙ incarnation_stored) (own.number_is ∙ counted);
            table = ap (position (λ (c : Cursor). not c.done)) b.cursors ∙ own.table;
            few = subst (λ (n : ℕ). length chunk.rows ≤ n) o.most own.few;
          }

        -- ---- values equal to the placeholder

        no_clash : (h : Halt) (value : List ℕ) → commit.body ≡ Mark value → IsClashIn (clash_of work.follower.identity work.follower.infos commit) h → ⊥
        no_clash h value body clash = subst (λ (l : List Change). IsClashIn (first_found (notice_clash work.follower.identity.placeholder) (flat_map (notices work.follower.infos) l)) h) (no_changes value body) clash

        clash_same : clash_of work.follower.identity work.follower.infos commit ≡ clash_of stored.identity stored.infos commit
        clash_same = ap₂ (λ (i : Identity) (l : List TableInfo). clash_of i l commit) identity_same infos_same

        closed_clash_same : (chunk : Chunk) → snapshot_clash work.follower.identity work.follower.infos (closed_of chunk) ≡ snapshot_clash stored.identity stored.infos (closed_of chunk)
        closed_clash_same chunk = ap₂ (λ (i : Identity) (l : List TableInfo). snapshot_clash i l (closed_of chunk)) identity_same infos_same

        -- a value among the changes was met before
        none_own : (changes : List Change) → commit.body ≡ Changes changes → clash_of work.follower.identity work.follower.infos commit ≡ None
        none_own changes body = clash_same ∙ (clash_so_far stored.infos ms commit open_end changes body stored.identity ∙ clear_stored so_far)

        clash_is : (h : Halt) → IsClashIn (clash_by work.follower commit) h → HasClosedClash config report stored (reading_of (m ∷ ms)) h
        clash_is h clash = by commit.body refl work.follower.window refl (subst (λ (x : Body). IsClashIn (clash_in work.follower (closing work.follower.window (watermark_in x)) commit) h) refl clash)
          where
            own_clash : (changes : List Change) → commit.body ≡ Changes changes → IsClashIn (clash_of work.follower.identity work.follower.infos commit) h → ⊥
            own_clash changes body found = subst (λ (x : Option Clash). IsClashIn x h) (none_own changes body) found

            closed : (value : List ℕ) (chunk : Chunk) → commit.body ≡ Mark value → work.follower.window ≡ Open chunk → (t : Bool) → bytes_eq value (high_text chunk.plan) ≡ t
                → IsClashIn (clash_in work.follower (if t then Some chunk else None) commit) h → HasClosedClash config report stored (reading_of (m ∷ ms)) h
            closed value chunk body waits true text found = record {
              commit = commit;
              ends = ends_commit;
              value = value;
              mark = body;
              closed = closed_of chunk;
              closes = closes_at value chunk waits text;
              clash = subst (λ (x : Option Clash). IsClashIn x h) (closed_clash_same chunk) found;
            }
            closed value chunk body waits false text found = absurd (no_clash h value body found)

            by : (x : Body) → commit.body ≡ x → (w : Window) → work.follower.window ≡ w → IsClashIn (clash_in work.follower (closing w (watermark_in x)) commit) h → HasClosedClash config report stored (reading_of (m ∷ ms)) h
            by (Changes changes) body Absent waits found = absurd (own_clash changes body found)
            by (Changes changes) body (Armed chunk) waits found = absurd (own_clash changes body found)
            by (Changes changes) body (Open chunk) waits found = absurd (own_clash changes body found)
            by (Mark value) body Absent waits found = absurd (no_clash h value body found)
            by (Mark value) body (Armed chunk) waits found = absurd (no_clash h value body found)
            by (Mark value) body (Open chunk) waits found = closed value chunk body waits (bytes_eq value (high_text chunk.plan)) refl found

        pub clash_halts : (h : Halt) → IsClashIn (clash_by work.follower commit) h → IsHaltBy config now report stored (reading_of (m ∷ ms)) h
        clash_halts h clash = by (clash_by work.follower commit) refl clash
          where
            by : (x : Option Clash) → clash_by work.follower commit ≡ x → IsClashIn x h → IsHaltBy config now report stored (reading_of (m ∷ ms)) h
            by None same found = absurd found
            by (Some k) same found =
                subst (IsHaltBy config now report stored (reading_of (m ∷ ms))) (sym found)
                (inr (clash_is (halt.Clash k.table k.column) (subst (λ (x : Option Clash). IsClashIn x (halt.Clash k.table k.column)) (sym same) refl)))

        -- ---- records that are too long

        no_record : (h : Halt) (value : List ℕ) → commit.body ≡ Mark value → IsLongRecord (envelopes work.follower.identity work.follower.infos commit work.now_ms) h → ⊥
        no_record h value body long =
            let none : IsLongRecord [] h = subst (λ (l : List Change). IsLongRecord (map (print work.follower.identity commit work.now_ms) (numbered commit.lsn.0 0 (flat_map (notices work.follower.infos) l))) h) (no_changes value body) long in
            no_item none.place none.item none.stands

        records_same : envelopes work.follower.identity work.follower.infos commit work.now_ms ≡ envelopes stored.identity stored.infos commit now
        records_same =
            ap₂ (λ (i : Identity) (l : List TableInfo). envelopes i l commit work.now_ms) identity_same infos_same
            ∙ ap (λ (k : ℤ). envelopes stored.identity stored.infos commit k) o.time

        closed_same : (chunk : Chunk) → snapshot work.follower.identity work.follower.infos (closed_of chunk) commit work.now_ms ≡ snapshot stored.identity stored.infos (closed_of chunk) commit now
        closed_same chunk =
            ap₂ (λ (i : Identity) (l : List TableInfo). snapshot i l (closed_of chunk) commit work.now_ms) identity_same infos_same
            ∙ ap (λ (k : ℤ). snapshot stored.identity stored.infos (closed_of chunk) commit k) o.time

        long_is : (h : Halt) → clash_by work.follower commit ≡ None → IsLongRecord (records_by work.follower commit work.now_ms) h → IsLongOf config now report stored commit commit.body h
        long_is h none long = by commit.body refl work.follower.window refl none long
          where
            short_end : (changes : List Change) → commit.body ≡ Changes changes → (place : ℕ) (item : Record) → slice_get (envelopes stored.identity stored.infos commit now) place ≡ Some item
                → place + 2 < length (envelopes stored.identity stored.infos commit now) → length (group_form (item ∷ [])) ≤ group_limit
            short_end changes body =
                subst (λ (l : List Record). (place : ℕ) (item : Record) → slice_get l place ≡ Some item → place + 2 < length l → length (group_form (item ∷ [])) ≤ group_limit)
                (sym (records_so_far stored.infos ms commit open_end changes body stored.identity now)) (short_stored so_far)

            last_two : (changes : List Change) → commit.body ≡ Changes changes → (long : IsLongRecord (envelopes stored.identity stored.infos commit now) h)
                → length (envelopes stored.identity stored.infos commit now) ≤ long.place + 2
            last_two changes body long =
                at_most (long.place + 2) (length (envelopes stored.identity stored.infos commit now))
                (λ lt. too_much group_limit (length (group_form (long.item ∷ []))) long.long (short_end changes body long.place long.item long.stands lt))

            own_long : (changes : List Change) → commit.body ≡ Changes changes → clash_of work.follower.identity work.follower.infos commit ≡ None
                → IsLongRecord (envelopes work.follower.identity work.follower.infos commit work.now_ms) h → IsLongOf config now report stored commit (Changes changes) h
            own_long changes body clear too =
                let long : IsLongRecord (envelopes stored.identity stored.infos commit now) h = subst (λ (l : List Record). IsLongRecord l h) records_same too in
                (sym clash_same ∙ clear, (long, last_two changes body long))

            closed : (value : List ℕ) (chunk : Chunk) → commit.body ≡ Mark value → work.follower.window ≡ Open chunk → (t : Bool) → bytes_eq value (high_text chunk.plan) ≡ t
                → clash_in work.follower (if t then Some chunk else None) commit ≡ None → IsLongRecord (records_of work.follower (if t then Some chunk else None) commit work.now_ms) h → IsLongOf config now report stored commit (Mark value) h
            closed value chunk body waits true text clear too = (closed_of chunk, closes_at value chunk waits text, sym (closed_clash_same chunk) ∙ clear, subst (λ (l : List Record). IsLongRecord l h) (closed_same chunk) too)
            closed value chunk body waits false text clear too = absurd (no_record h value body too)

            by : (x : Body) → commit.body ≡ x → (w : Window) → work.follower.window ≡ w → clash_in work.follower (closing w (watermark_in x)) commit ≡ None → IsLongRecord (records_of work.follower (closing w (watermark_in x)) commit work.now_ms) h
                → IsLongOf config now report stored commit x h
            by (Changes changes) body Absent waits clear too = own_long changes body clear too
            by (Changes changes) body (Armed chunk) waits clear too = own_long changes body clear too
            by (Changes changes) body (Open chunk) waits clear too = own_long changes body clear too
            by (Mark value) body Absent waits clear too = absurd (no_record h value body too)
            by (Mark value) body (Armed chunk) waits clear too = absurd (no_record h value body too)
            by (Mark value) body (Open chunk) waits clear too = closed value chunk body waits (bytes_eq value (high_text chunk.plan)) refl clear too

        pub long_record_halts : (h : Halt) → clash_by work.follower commit ≡ None → (long : IsLongRecord (records_by work.follower commit work.now_ms) h) → IsHaltBy config now report stored (reading_of (m ∷ ms)) h
        long_record_halts h none long =
            subst (IsHaltBy config now report stored (reading_of (m ∷ ms))) (sym long.is)
            (inr (record {
              commit = commit;
              ends = ends_commit;
              long = subst (IsLongOf config now report stored commit commit.body) long.is (long_is h none long);
            }))

      -- ---- changes that the message states

      module _ (so_far : CouldBeSentSoFar work ms) (m : Message) (changes : List Change) (clean : transaction_fault work.offset.infos first.lsn m ms ≡ None)
          (states : stated work.offset.infos m ms ≡ Ok changes) (some : changes ≢ []) where
        clean_stored : transaction_fault stored.infos first.lsn m ms ≡ None
        clean_stored = ap (λ (l : List TableInfo). transaction_fault l first.lsn m ms) (sym infos_stored) ∙ clean

        states_stored : stated stored.infos m ms ≡ Ok changes
        states_stored = ap (λ (l : List TableInfo). stated l m ms) (sym infos_stored) ∙ states

        abbrev states_more : StatesMore stored.infos (reading_of (m ∷ ms)) (open_commit stored.infos (m ∷ ms))
        states_more = record {
          message = m;
          earlier = ms;
          newest = refl;
          accepted = (clean_stored, accepted_stored ms is.accepted);
          changes = changes;
          states = states_stored;
          some = some;
          commit_is = refl;
        }

        open_clash_same : clash_of work.offset.identity work.offset.infos (open_commit work.offset.infos (m ∷ ms)) ≡ clash_of stored.identity stored.infos (open_commit stored.infos (m ∷ ms))
        open_clash_same = ap₂ (λ (i : Identity) (l : List TableInfo). clash_of i l (open_commit l (m ∷ ms))) identity_stored infos_stored

        open_records_same : envelopes work.offset.identity work.offset.infos (open_commit work.offset.infos (m ∷ ms)) work.now_ms ≡ envelopes stored.identity stored.infos (open_commit stored.infos (m ∷ ms)) now
        open_records_same =
            ap₂ (λ (i : Identity) (l : List TableInfo). envelopes i l (open_commit l (m ∷ ms)) work.now_ms) identity_stored infos_stored
            ∙ ap (λ (k : ℤ). envelopes stored.identity stored.infos (open_commit stored.infos (m ∷ ms)) k) o.time

        open_clash_is : (h : Halt) → IsClashIn (clash_of stored.identity stored.infos (open_commit stored.infos (m ∷ ms))) h → HasOpenClash stored (reading_of (m ∷ ms)) h
        open_clash_is h clash = record { commit = open_commit stored.infos (m ∷ ms); more = states_more; before = clear_stored so_far; clash = clash }

        pub open_clash_halts : (h : Halt) → IsClashIn (clash_of work.offset.identity work.offset.infos (open_commit work.offset.infos (m ∷ ms))) h → IsHaltBy config now report stored (reading_of (m ∷ ms)) h
        open_clash_halts h clash = by (clash_of stored.identity stored.infos (open_commit stored.infos (m ∷ ms))) refl (subst (λ (x : Option Clash). IsClashIn x h) open_clash_same clash)
          where
            by : (x : Option Clash) → clash_of stored.identity stored.infos (open_commit stored.infos (m ∷ ms)) ≡ x → IsClashIn x h → IsHaltBy config now report stored (reading_of (m ∷ ms)) h
            by None same found = absurd found
            by (Some k) same found =
                subst (IsHaltBy config now report stored (reading_of (m ∷ ms))) (sym found)
                (inl (open_clash_is (halt.Clash k.table k.column) (subst (λ (x : Option Clash). IsClashIn x (halt.Clash k.table k.column)) (sym same) refl)))

        open_long_is : (h : Halt) → clash_of stored.identity stored.infos (open_commit stored.infos (m ∷ ms)) ≡ None → IsLongSoFar (envelopes stored.identity stored.infos (open_commit stored.infos (m ∷ ms)) now) h
            → HasOpenLong now stored (reading_of (m ∷ ms)) h
        open_long_is h clear too = record {
          commit = open_commit stored.infos (m ∷ ms);
          more = states_more;
          clear = clear;
          long = too.long;
          known = too.known;
          before = long_now stored.identity stored.infos m ms changes now (still_begun stored.infos m ms changes states_stored some) (states_adds stored.infos first.lsn m ms changes clean_stored states_stored some) h (short_stored so_far) too.long;
        }

        pub open_long_halts : (h : Halt) → clash_of work.offset.identity work.offset.infos (open_commit work.offset.infos (m ∷ ms)) ≡ None
            → (too : IsLongSoFar (envelopes work.offset.identity work.offset.infos (open_commit work.offset.infos (m ∷ ms)) work.now_ms) h) → IsHaltBy config now report stored (reading_of (m ∷ ms)) h
        open_long_halts h clear too =
            let own : IsLongSoFar (envelopes stored.identity stored.infos (open_commit stored.infos (m ∷ ms)) now) h = subst (λ (l : List Record). IsLongSoFar l h) open_records_same too in
            subst (IsHaltBy config now report stored (reading_of (m ∷ ms))) (sym too.long.is)
            (inl (subst (HasOpenLong now stored (reading_of (m ∷ ms))) too.long.is (open_long_is h (sym open_clash_same ∙ clear) own)))

      -- of the message that these bytes spell
      module _ (so_far : CouldBeSentSoFar work ms) (bytes : List ℕ) (m : Message) (spells : Spells bytes m) (h : Halt) (many : report.messages ≡ length (m ∷ ms)) where
        of_open : (n : IsOpenNewestHalt first.lsn ms bytes work h) → IsHaltBy config now report stored (reading_of (n.taken.message ∷ ms)) h
        of_open n = elim n.is [
          | inl clash ↦ open_clash_halts so_far n.taken.message n.changes n.taken.clean n.states n.some h clash
          | inr long ↦ open_long_halts so_far n.taken.message n.changes n.taken.clean n.states n.some h long.0 long.1
        ]

        pub newest_by : IsNewestHalt report.messages first.lsn ms bytes work h → IsHaltBy config now report stored (reading_of (m ∷ ms)) h
        newest_by (inl txn) =
            subst (IsHaltBy config now report stored (reading_of (m ∷ ms))) (sym txn.is)
            (txn_by m report.messages txn.error (ap (λ (x : Message). transaction_fault work.offset.infos first.lsn x ms) (one_message bytes m txn.message spells txn.spells) ∙ txn.fault) many)
        newest_by (inr (inl part)) =
            subst (λ (x : Message). IsHaltBy config now report stored (reading_of (x ∷ ms)) h) (sym (one_message bytes m part.taken.message spells part.taken.spells)) (of_open part)
        newest_by (inr (inr sent)) = by sent.0 sent.1 sent.2 (subst (λ (n : SessionState). IsClashIn (clash_by n.follower sent.1) h ⊎ ((clash_by n.follower sent.1 ≡ None) × IsLongRecord (records_by n.follower sent.1 n.now_ms) h)) sent.2.same sent.3)
          where
            by : (next : SessionState) (commit : Commit) (w : WasTaken first.lsn ms bytes work next (Some commit))
                → IsClashIn (clash_by work.follower commit) h ⊎ ((clash_by work.follower commit ≡ None) × IsLongRecord (records_by work.follower commit work.now_ms) h) → IsHaltBy config now report stored (reading_of (m ∷ ms)) h
            by next commit w cause = elim cause [
              | inl clash ↦ clash_halts so_far m commit clean ends h clash
              | inr long ↦ long_record_halts so_far m commit clean ends h long.0 long.1
            ]
              where
                same : m ≡ w.message
                same = one_message bytes m w.message spells w.spells

                clean : transaction_fault work.offset.infos first.lsn m ms ≡ None
                clean = ap (λ (x : Message). transaction_fault work.offset.infos first.lsn x ms) same ∙ w.clean

                ends : ended_commit work.offset.infos m ms ≡ Some commit
                ends = ap (λ (x : Message). ended_commit work.offset.infos x ms) same ∙ sym w.commit_is
