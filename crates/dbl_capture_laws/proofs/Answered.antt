-- What a source's last answer requires comes.
use Rattle.std.proofs.Common.{◌≡◌, ◌∙◌, ◌⊎◌, inl, inr, ◌+◌, ◌≤◌, ℕ, Option, Some, None, Result, Err, List, [], ◌∷◌, length, refl, sym, ap, ap₂, subst, arith}
use Rattle.std.specs.Prelude.{Contains, slice_get}
use Rattle.dbl_base.specs.declared.lsn.Lsn.{Lsn}
use Rattle.dbl_pgmsg.specs.declared.error.MsgError.{MsgError}
use Rattle.dbl_pgmsg.specs.declared.messages.Message.{Message}
use Rattle.dbl_pgmsg.specs.Faults.{IsFault}
use Rattle.dbl_pgmsg.specs.Grammar.{Spells}
use Rattle.dbl_pgmsg.proofs.FaultLaws.{not_both, one_fault}
use Rattle.dbl_model_table.specs.declared.config.Config.{Config}
use Rattle.dbl_model_table.specs.declared.error.ModelError.{ModelError}
use Rattle.dbl_model_table.specs.declared.row.Key.{Key}
use Rattle.dbl_model_table.specs.declared.row.Row.{Row}
use Rattle.dbl_model_table.specs.declared.table.RawTable.{RawTable}
use Rattle.dbl_model_table.specs.declared.table.TableInfo.{TableInfo}
use Rattle.dbl_model_table.specs.declared.table.TableName.{TableName}
use Rattle.dbl_model_table.specs.Made.{table_fault}
use Rattle.dbl_capture_work.specs.ModelHistory.declared.cursor.Cursor.{Cursor}
use Rattle.dbl_capture_work.specs.SourceModel.declared.selected.Selected.{Selected}
use Rattle.dbl_capture_work.specs.SourceModel.declared.started.Started.TheVariants.{Gone}
use Rattle.dbl_capture_work.specs.SourceModel.Trace.{Trace, Began, Described, Head, Read, RowsSelected, LastAnswerIs}
use Rattle.dbl_capture_work.proofs.FaithfulItems.{first_some}
use Rattle.dbl_capture_work.specs.Offset.declared.offset.Offset.{Offset}
use Rattle.dbl_capture_work.specs.Window.declared.error.WindowError.{WindowError}
use Rattle.dbl_capture_work.specs.Window.declared.error.WindowError.TheVariants as window
use Rattle.dbl_capture_work.specs.Window.Plans.{Plan}
use Rattle.dbl_capture_work.specs.Window.Reading.{answer_read}
use Rattle.dbl_capture_work.specs.declared.halt.Halt.{Halt}
use Rattle.dbl_capture_work.specs.declared.halt.Halt.TheVariants as halt
use Rattle.dbl_capture_work.specs.declared.report.Report.{Report}
use Rattle.dbl_capture_work.specs.Begins.{IsExhausted, IsFaultOf, IsModelFault}
use Rattle.dbl_capture_work.specs.Causes.{IsOfRows}
use Rattle.dbl_capture_work.specs.Halts.{window_halt}
use Rattle.dbl_capture_laws.specs.Found.{HasStored, IsStoredBy}
use Rattle.dbl_capture_laws.specs.Reported.{AreSpelled}
use Rattle.dbl_capture_laws.specs.Halted.{IsHalt, IsMessageFault, IsNextPlan, IsWindowHalt}
use Rattle.dbl_capture_laws.specs.Musts.{HaltsOrFails, HaltsWith, MustHalt}
use Rattle.dbl_capture_laws.specs.Underway.{IsBeginHalt, IsGoneHalt, IsOpenHalt}
use Rattle.dbl_capture_laws.specs.Carried.{IsNewestCause}
use Rattle.dbl_capture_laws.specs.Answered.{FailuresExcuse, NewestBytesAsk, QuietAnswersAskNothing, RowsAsk, UnreadAnswersAsk}
use Rattle.dbl_capture_laws.proofs.Causes.{windows_halt}

-- ---- bytes that spell messages have no fault

same_bytes : (x y : List ℕ) (xs ys : List (List ℕ)) → x ∷ xs ≡ y ∷ ys → x ≡ y
same_bytes x y xs ys is = cc

no_bytes : (x : List ℕ) (xs : List (List ℕ)) → [] ≡ x ∷ xs → ⊥
no_bytes x xs is = cc

none_at_fault : (read : List (List ℕ)) (ms : List Message) (number : ℕ) (error : MsgError) → AreSpelled read ms → IsMessageFault read number error → ⊥
none_at_fault [] ms number error spelled f = no_bytes f.bytes f.earlier f.newest
none_at_fault (x ∷ read) [] number error spelled f = absurd spelled
none_at_fault (x ∷ read) (m ∷ ms) number error spelled f =
    not_both f.bytes m error (subst (λ (b : List ℕ). Spells b m) (same_bytes x f.bytes read f.earlier f.newest) spelled.0) f.fault

stored_none : {X : Type 0} (x : X) → Some x ≡ None → ⊥
stored_none x is = cc

-- ---- nothing is asked for

pub quiet_answers_ask_nothing : QuietAnswersAskNothing
quiet_answers_ask_nothing config held stored report t ms result spelled calm ready = record {
  message = λ number error many f. absurd (none_at_fault t.read ms number error spelled f);
  rows = λ answered s plan error is next read. absurd (calm answered is);
  described = λ raw error none none_new is fault. absurd (stored_none stored none_new);
  unknown = λ none none_new is. absurd (stored_none stored none_new);
  gone = λ first s is. absurd (ready first is);
}

failed_with : (h g : Halt) → (h ≡ halt.Memory) ⊎ (h ≡ halt.Source) → HaltsOrFails g (Err h)
failed_with h g (inl memory) = inl (inr (ap (λ (x : Halt). Err x) memory))
failed_with h g (inr source) = inr (ap (λ (x : Halt). Err x) source)

pub failures_excuse : FailuresExcuse
failures_excuse config held stored report t ms h spelled failed = record {
  message = λ number error many f. absurd (none_at_fault t.read ms number error spelled f);
  rows = λ answered s plan error is next read. failed_with h (window_halt plan.info.name error) failed;
  described = λ raw error none none_new is fault. absurd (stored_none stored none_new);
  unknown = λ none none_new is. absurd (stored_none stored none_new);
  gone = λ first s is. failed_with h (halt.Gone s.offset.lsn first) failed;
}

-- ---- rows

-- one window is next
abbrev planned : TableInfo → ℕ → Option Key → ℕ → ℕ → ℕ → ℕ → Plan
planned info table above limit incarnation number version = record { info = info; table = table; above = above; limit = limit; incarnation = incarnation; number = number; version = version }

one_plan : (config : Config) (report : Report) (o : Offset) (p q : Plan) → IsNextPlan config report o p → IsNextPlan config report o q → p ≡ q
one_plan config report o p q one two =
    ap (λ (i : TableInfo). planned i p.table p.above p.limit p.incarnation p.number p.version) same_info
    ∙ (ap (λ (n : ℕ). planned q.info n p.above p.limit p.incarnation p.number p.version) same_table
    ∙ (ap (λ (k : Option Key). planned q.info q.table k p.limit p.incarnation p.number p.version) (one.above ∙ (ap (λ (c : Cursor). c.last) same_cursor ∙ sym two.above))
    ∙ (ap (λ (n : ℕ). planned q.info q.table q.above n p.incarnation p.number p.version) (one.limit ∙ sym two.limit)
    ∙ (ap (λ (n : ℕ). planned q.info q.table q.above q.limit n p.number p.version) (one.incarnation ∙ sym two.incarnation)
    ∙ (ap (λ (n : ℕ). planned q.info q.table q.above q.limit q.incarnation n p.version) (one.number ∙ sym two.number)
    ∙ ap (λ (n : ℕ). planned q.info q.table q.above q.limit q.incarnation q.number n) (one.version ∙ sym two.version))))))
  where
    same_table : p.table ≡ q.table
    same_table = first_some p.table q.table (sym one.table ∙ two.table)

    same_info : p.info ≡ q.info
    same_info = first_some p.info q.info (sym one.info ∙ (ap (λ (n : ℕ). slice_get o.infos n) same_table ∙ two.info))

    same_cursor : one.cursor ≡ two.cursor
    same_cursor = first_some one.cursor two.cursor (sym one.cursor_is ∙ (ap (λ (n : ℕ). slice_get o.cursors n) same_table ∙ two.cursor_is))

same_answers : (x y : Selected) → RowsSelected x ≡ RowsSelected y → x ≡ y
same_answers x y is = cc

same_error : (d e : WindowError) (r : Result (List (Key × Row)) WindowError) → r ≡ Err d → r ≡ Err e → d ≡ e
same_error d e r one two = cc

no_rows_gone : (rows : Selected) (first : Lsn) → RowsSelected rows ≡ Began (Gone first) → ⊥
no_rows_gone rows first is = cc

module _ (config : Config) (held : Option Offset) (stored : Offset) (report : Report) (t : Trace) (ms : List Message) (spelled : AreSpelled t.read ms) where
  -- the fault that was told is the one that is asked for
  window_asked : (table : TableName) (h : Halt) → IsWindowHalt config held (Some stored) report (Some t) table h → MustHalt config held (Some stored) report t (Err h)
  window_asked table h w = record {
    message = λ number error many f. absurd (none_at_fault t.read ms number error spelled f);
    rows = λ answered s plan error is next read.
        let same_stored : w.stored.offset ≡ s.offset = first_some w.stored.offset s.offset (sym w.stored.is ∙ s.is) in
        let same_plan : w.plan ≡ plan = one_plan config report s.offset w.plan plan (subst (λ (o : Offset). IsNextPlan config report o w.plan) same_stored w.next) next in
        let same_answer : w.rows.answer ≡ answered = same_answers w.rows.answer answered (sym (w.rows.told_so t refl) ∙ is) in
        let error_is : w.error ≡ error = same_error w.error error (answer_read plan answered) (sym (ap₂ (λ (p : Plan) (a : Selected). answer_read p a) same_plan same_answer) ∙ w.rows.read_is) read in
        inl (inl (ap (λ (x : Halt). Err x) (w.is ∙ ap₂ (λ (n : TableName) (e : WindowError). window_halt n e) (sym w.name ∙ ap (λ (p : Plan). p.info.name) same_plan) error_is)));
    described = λ raw error none none_new is fault. absurd (stored_none stored none_new);
    unknown = λ none none_new is. absurd (stored_none stored none_new);
    gone = λ first s is. absurd (no_rows_gone w.rows.answer first (sym (w.rows.told_so t refl) ∙ is));
  }

pub rows_ask : RowsAsk
rows_ask config now held first stored work report table t ms h o b absent unread spelled chunk = by chunk.cause
  where
    halts : IsHalt config now held (Some stored) report (Some t) h
    halts = windows_halt config now held first stored work report table (Some t) h o b absent unread chunk

    at : (name : TableName) (error : WindowError) → h ≡ window_halt name error → MustHalt config held (Some stored) report t (Err h)
    at name (window.Moved version) is =
        window_asked config held stored report t ms spelled name h
        (subst (λ (x : Halt). IsWindowHalt config held (Some stored) report (Some t) name x) (sym is) (subst (IsHalt config now held (Some stored) report (Some t)) is halts))
    at name (window.BadChunk row) is =
        window_asked config held stored report t ms spelled name h
        (subst (λ (x : Halt). IsWindowHalt config held (Some stored) report (Some t) name x) (sym is) (subst (IsHalt config now held (Some stored) report (Some t)) is halts))
    at name (window.Cell column error) is =
        window_asked config held stored report t ms spelled name h
        (subst (λ (x : Halt). IsWindowHalt config held (Some stored) report (Some t) name x) (sym is) (subst (IsHalt config now held (Some stored) report (Some t)) is halts))
    at name window.Failed is = failures_excuse config held stored report t ms h spelled (inr is)
    at name window.Memory is = failures_excuse config held stored report t ms h spelled (inl is)

    by : (h ≡ halt.Memory) ⊎ ((h ≡ halt.Source) ⊎ ((error : WindowError) × (h ≡ window_halt chunk.info.name error) × IsOfRows chunk.plan (Some t) error)) → MustHalt config held (Some stored) report t (Err h)
    by (inl memory) = failures_excuse config held stored report t ms h spelled (inl memory)
    by (inr (inl source)) = failures_excuse config held stored report t ms h spelled (inr source)
    by (inr (inr rows)) = at chunk.info.name rows.0 rows.1

-- ---- the newest bytes

no_read_rows : (bytes : List ℕ) (rows : Selected) → Read (Some bytes) ≡ RowsSelected rows → ⊥
no_read_rows bytes rows is = cc

no_read_gone : (bytes : List ℕ) (first : Lsn) → Read (Some bytes) ≡ Began (Gone first) → ⊥
no_read_gone bytes first is = cc

pub newest_bytes_ask : NewestBytesAsk
newest_bytes_ask config held stored report t after earlier ms bytes work h answer read cause = record {
  message = λ number error many f. by number error many f cause;
  rows = λ answered s plan error is next read_is. absurd (no_read_rows bytes answered (sym answer ∙ is));
  described = λ raw error none none_new is fault. absurd (stored_none stored none_new);
  unknown = λ none none_new is. absurd (stored_none stored none_new);
  gone = λ first s is. absurd (no_read_gone bytes first (sym answer ∙ is));
}
  where
    at_fault : (number : ℕ) (error : MsgError) → IsMessageFault t.read number error → IsFault bytes error
    at_fault number error f = subst (λ (b : List ℕ). IsFault b error) (same_bytes f.bytes bytes f.earlier earlier (sym f.newest ∙ read)) f.fault

    by : (number : ℕ) (error : MsgError) → length t.read ≡ report.messages → IsMessageFault t.read number error → IsNewestCause report.messages after ms bytes work h → HaltsWith (halt.Message number error) (Err h)
    by number error many f (inl memory) = inr (ap (λ (x : Halt). Err x) memory)
    by number error many f (inr (inl message)) =
        inl (ap (λ (x : Halt). Err x) (message.is ∙ ap₂ (λ (n : ℕ) (e : MsgError). halt.Message n e) (sym (f.number_is ∙ many)) (one_fault bytes message.error error message.fault (at_fault number error f))))
    by number error many f (inr (inr (inl (inl txn)))) = absurd (not_both bytes txn.message error txn.spells (at_fault number error f))
    by number error many f (inr (inr (inl (inr (inl part))))) = absurd (not_both bytes part.taken.message error part.taken.spells (at_fault number error f))
    by number error many f (inr (inr (inl (inr (inr sent))))) = absurd (not_both bytes sent.2.message error sent.2.spells (at_fault number error f))
    by number error many f (inr (inr (inr sink))) = elim sink.1 [
      | inl sent ↦ absurd (not_both bytes sent.2.message error sent.2.spells (at_fault number error f))
      | inr sent ↦ absurd (not_both bytes sent.1.message error sent.1.spells (at_fault number error f))
    ]

-- ---- before a message is read

no_entry : (entry : Option RawTable) (lsn : Lsn) → Head lsn ≡ Described entry → ⊥
no_entry entry lsn is = cc

same_entry : (d e : Option RawTable) → Described d ≡ Described e → d ≡ e
same_entry d e is = cc

same_first : (d e : Lsn) → Began (Gone d) ≡ Began (Gone e) → d ≡ e
same_first d e is = cc

no_gone_rows : (first : Lsn) (rows : Selected) → Began (Gone first) ≡ RowsSelected rows → ⊥
no_gone_rows first rows is = cc

one_table : (names : List TableName) → 1 ≤ length names → (name : TableName) × Contains names name
one_table [] le = absurd (omega (arith, le))
one_table (name ∷ names) le = (name, (0, omega arith, refl))

-- an offset that was stored is of a later incarnation than the one that was found
later : (n m : ℕ) → n ≡ m + 1 → m ≡ n → ⊥
later n m one two = omega (arith, one, two)

not_stored : (config : Config) (held stored : Option Offset) → stored ≡ held → HasStored config held stored → held ≡ None → ⊥
not_stored config held stored same s none = stored_none s.offset (sym s.is ∙ (same ∙ none))

never_stored : (config : Config) (held stored found : Option Offset) → held ≡ found → stored ≡ held → HasStored config held stored → ⊥
never_stored config held stored None is same s = not_stored config held stored same s is
never_stored config held stored (Some old) is same s = later s.offset.incarnation old.incarnation stored_by.3 (ap (λ (o : Offset). o.incarnation) (first_some old s.offset (sym is ∙ (sym same ∙ s.is))))
  where
    stored_by : IsStoredBy config (Some old) s.offset
    stored_by = subst (λ (x : Option Offset). IsStoredBy config x s.offset) is s.by

none_read : (read : List (List ℕ)) → length read ≡ 0 → [] ≡ read
none_read [] is = refl
none_read (x ∷ read) is = cc

module _ (config : Config) (held stored : Option Offset) (report : Report) (t : Trace) (h : Halt) (some : 1 ≤ length config.tables) (none : report.messages ≡ 0) where
  no_fault : (number : ℕ) (error : MsgError) → length t.read ≡ report.messages → IsMessageFault t.read number error → HaltsWith (halt.Message number error) (Err h)
  no_fault number error many f = absurd (no_bytes f.bytes f.earlier (none_read t.read (many ∙ none) ∙ f.newest))

  -- memory ran out, or a call of the source failed
  failed : (h ≡ halt.Memory) ⊎ (h ≡ halt.Source) → MustHalt config held stored report t (Err h)
  failed is = record {
    message = no_fault;
    rows = λ answered s plan error rows_are next read. failed_with h (window_halt plan.info.name error) is;
    described = λ raw error none_held none_new answer fault. failed_with h (halt.Model error) is;
    unknown = λ none_held none_new answer.
        let name = one_table config.tables some in
        (name.0, name.1, failed_with h (halt.UnknownTable name.0) is);
    gone = λ first s answer. failed_with h (halt.Gone s.offset.lsn first) is;
  }

  -- no offset was stored, and the head was told, or an offset was found
  headed : stored ≡ held → (held ≡ None → (lsn : Lsn) × LastAnswerIs (Some t) (Head lsn)) → MustHalt config held stored report t (Err h)
  headed same head = record {
    message = no_fault;
    rows = λ answered s plan error rows_are next read. absurd (never_stored config held stored held refl same s);
    described = λ raw error none_held none_new answer fault. absurd (no_entry (Some raw) (head none_held).0 (sym ((head none_held).1 t refl) ∙ answer));
    unknown = λ none_held none_new answer. absurd (no_entry None (head none_held).0 (sym ((head none_held).1 t refl) ∙ answer));
    gone = λ first s answer. absurd (never_stored config held stored held refl same s);
  }

  -- what was described is invalid
  described : held ≡ None → stored ≡ held → (name : TableName) → Contains config.tables name → IsModelFault name (Some t) h → MustHalt config held stored report t (Err h)
  described none_held same name has fault = record {
    message = no_fault;
    rows = λ answered s plan error rows_are next read. absurd (not_stored config held stored same s none_held);
    described = λ raw error one two answer is. at_entry raw error (same_entry fault.entry (Some raw) (sym (fault.tells t refl) ∙ answer)) is;
    unknown = λ one two answer. (name, has, inl (inl (ap (λ (x : Halt). Err x) (subst (λ (e : Option RawTable). IsFaultOf name e h) (same_entry fault.entry None (sym (fault.tells t refl) ∙ answer)) fault.is))));
    gone = λ first s answer. absurd (not_stored config held stored same s none_held);
  }
    where
      at_entry : (raw : RawTable) (error : ModelError) → fault.entry ≡ Some raw → table_fault raw ≡ Some error → HaltsOrFails (halt.Model error) (Err h)
      at_entry raw error entry is =
          let told = subst (λ (e : Option RawTable). IsFaultOf name e h) entry fault.is in
          inl (inl (ap (λ (x : Halt). Err x) (told.2 ∙ ap (λ (e : ModelError). halt.Model e) (first_some told.0 error (sym told.1 ∙ is)))))

  -- the log is gone
  gone_asks : (g : IsGoneHalt config held stored (Some t) h) → MustHalt config held stored report t (Err h)
  gone_asks g = record {
    message = no_fault;
    rows = λ answered s plan error rows_are next read. absurd (no_gone_rows g.first answered (sym (g.last_answer t refl) ∙ rows_are));
    described = λ raw error one two answer is. absurd (stored_none g.stored.offset (sym g.stored.is ∙ two));
    unknown = λ one two answer. absurd (stored_none g.stored.offset (sym g.stored.is ∙ two));
    gone = λ first s answer.
        inl (inl (ap (λ (x : Halt). Err x) (g.is ∙ ap₂ (λ (o : Offset) (l : Lsn). halt.Gone o.lsn l) (first_some g.stored.offset s.offset (sym g.stored.is ∙ s.is)) (same_first g.first first (sym (g.last_answer t refl) ∙ answer)))));
  }

exhausted_held : (held : Option Offset) (h : Halt) → IsExhausted held h → held ≡ None → ⊥
exhausted_held held h is none = subst (λ (x : Option Offset). IsExhausted x h) none is

pub unread_answers_ask : UnreadAnswersAsk
unread_answers_ask config held stored report t h is some none head = by is
  where
    by_begin : IsBeginHalt config held (Some t) h → stored ≡ held → MustHalt config held stored report t (Err h)
    by_begin (inl memory) same = failed config held stored report t h some none (inl memory)
    by_begin (inr (inl source)) same = failed config held stored report t h some none (inr source)
    by_begin (inr (inr (inl offsets))) same = headed config held stored report t h some none same (λ none_held. head none_held (inl offsets))
    by_begin (inr (inr (inr (inl exhausted)))) same = headed config held stored report t h some none same (λ none_held. absurd (exhausted_held held h exhausted none_held))
    by_begin (inr (inr (inr (inr (inl model))))) same = described config held stored report t h some none model.0 same model.1.0 model.1.1 model.1.2
    by_begin (inr (inr (inr (inr (inr long))))) same = headed config held stored report t h some none same (λ none_held. head none_held (inr (long.0, long.3)))

    by : IsOpenHalt config held stored (Some t) h → MustHalt config held stored report t (Err h)
    by (inl begin) = by_begin begin.0 begin.1
    by (inr (inl gone)) = gone_asks config held stored report t h some none gone
    by (inr (inr (inl memory))) = failed config held stored report t h some none (inl memory)
    by (inr (inr (inr source))) = failed config held stored report t h some none (inr source)
