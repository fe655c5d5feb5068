use Rattle.std.proofs.Common.{◌≡◌, ◌∙◌, ◌+◌, true, ◌++◌, ◌<◌, inl, length, ℕ, List, Some, None, Option, Err, refl, sym, ap, subst, arith, le_refl, rules, ◌∷◌, [], false, append_assoc}
use Rattle.std.specs.Prelude.{is_none}
use Rattle.std.proofs.lemmas.Result.{err_from_is_err_and}
use Rattle.dbl_capture_work.specs.declared.work.SessionState.{SessionState}
use Rattle.dbl_capture_work.specs.Takes.{HasTakenPiece}
use Rattle.dbl_capture_laws.specs.Sessions.{state_at_stage}
use Rattle.dbl_capture_laws.proofs.StepCauses.{OfNone, OfSink, OfSource, err_at, follow_of, residual_of, source_of, taken_of, residual_is, residual_source, open_of}
use Rattle.dbl_capture_laws.proofs.Keeping.{capturing, moved_on, on_err}
use Rattle.dbl_capture_laws.proofs.Nexts.{none_read, read_whole, some_read, step_fails, stepped_on, taken_on, change_fails, changed_on}
use Rattle.dbl_capture_laws.proofs.Reporting.{counted_fault, counted_none, counted_torn, step_counts, none_more, counted_open, counted_part}
use Rattle.dbl_capture_laws.proofs.Settles.{follow_fails}
use Rattle.dbl_capture_laws.proofs.Taken.{stepped_next, stepped_ready, stepped_since, taken_next, taken_ready, part_next, part_ready, part_since}
use Rattle.dbl_capture_work.specs.declared.halt.Halt.{Halt}
use Rattle.dbl_capture_work.proofs.Exits.{dead_source}
use Rattle.dbl_capture_laws.specs.Caused.{Halts, IsNotGone}
use Rattle.dbl_capture_laws.proofs.Sources.{at_rest, follows_at_rest, follows_on, halts_at, halts_between, rests_on, takes_on}
use Rattle.dbl_capture_laws.proofs.Due.{due_so, none_closed, part_closed}
use Rattle.dbl_capture_laws.proofs.Telling.{follow_cause, goes_due, source_left, taken_cause, torn_counts, not_both, open_cause, open_counts}
use Rattle.dbl_capture_laws.proofs.StepHalting.{follow_caused, source_caused, taken_caused, changes_caused}
use Rattle.dbl_source.specs.SourceModel.Trace.{Read, LastAnswerIs}
use Rattle.dbl_record.specs.Cuts.{cut}
use Rattle.dbl_capture_work.specs.declared.halt.Halt.TheVariants as halt
use Rattle.dbl_capture_laws.specs.Sinks.{HasHaltedPut}
use Rattle.dbl_capture_laws.proofs.Sinks.{commits_put, commits_put_at_rest, halts_put_nothing, halts_untaken, messages_put_nothing, rests_put, rests_putting, changes_put_more}
use Rattle.dbl_capture_laws.proofs.Sinking.{few_taken, follow_puts, none_other, puts_due, source_other, change_puts, few_more, sink_or_other}
use Rattle.dbl_capture_laws.proofs.Going.{follow_reads, source_reads, taken_reads, open_reads}
use Rattle.dbl_capture_laws.proofs.Nevers.{follow_honest, many_at, one_longer, source_honest, taken_honest, took_at, open_honest}
use Rattle.dbl_model_table.specs.declared.table.TableInfo.{TableInfo}
use Rattle.dbl_offset_content.specs.declared.offset.Offset.{Offset}
use Rattle.dbl_source.specs.ModelCommit.Blocks.{AreWithoutFault}
use Rattle.dbl_capture_laws.specs.Nevers.{IsHonestHalt}
use Rattle.dbl_capture_work.proofs.WindowHonestLemmas.{captured_stays}
use Rattle.dbl_capture_work.proofs.SourceModelShapedLemmas.{all_plainly, read_plainly}
use Rattle.dbl_capture_laws.proofs.StepMarks.{others_leave_few_marks}
use Rattle.dbl_capture_laws.proofs.Lasting.{leaves_most, left_grows, same_most, torn_more, step_more, open_more}
use Rattle.dbl_capture_laws.proofs.Asking.{failure_asks, newest_asks, read_quiet, source_fails}
use Rattle.dbl_capture_laws.specs.Nevers.{IsFaithfulHalt}
use Rattle.dbl_capture_laws.proofs.Owning.{follow_own, free_own, source_free, taken_free, part_own}
use Rattle.dbl_capture_laws.proofs.HasState.{commits_stood, messages_stood, source_stood, parts_stood}
use Rattle.dbl_capture_laws.proofs.Awaited.{awaits_commit, awaits_message, awaits_nothing, awaits_still, work_at, awaits_part}
use Rattle.dbl_capture_laws.proofs.Unclosed.{closed_at_halt}
use Rattle.dbl_source.specs.SourceModel.Standings.{SourceState, left_of}
use Rattle.dbl_capture_laws.proofs.Advancing.{longer_grows}
use Rattle.dbl_capture_laws.proofs.Excluding.{no_answer, no_ok, not_ok, ok_some}
use Rattle.dbl_capture_work.specs.ModelCommit.declared.piece.Piece.{Piece}
use Rattle.dbl_capture_work.specs.ModelCommit.declared.piece.Piece.TheVariants.{Changed}
use Rattle.dbl_capture_work.specs.ModelCommit.Pieces.{changes_so_far}
use Rattle.dbl_model_table.specs.Heads.{commit_by}
use Rattle.dbl_capture_work.specs.declared.report.Report.{Report}
use Rattle.dbl_capture_work.specs.Works.{rest_in, resting}
use Rattle.dbl_capture_laws.proofs.Ahead.{rest_taken}
use Rattle.dbl_capture_laws.proofs.Delivered.{begun_now, by_offset, delivers_now, ends_now, inside_now, left_part, part_so_far, stated_now, states_now}
use Rattle.dbl_capture_laws.proofs.OpenCommits.{rest_halt, rest_piece}
use Rattle.dbl_capture_laws.proofs.Opened.{closed_rest, nothing_open, nothing_sent, part_apart, part_whole, taken_open, way_closed, window_like}
use Rattle.dbl_capture.proofs.messages.read_and_deliver.Goals as goal

pub returns-in_err-bytes-clause-session : goal.returns-in_err-bytes-clause-session
returns-in_err-bytes-clause-session g c = record {
  next = λ tell entry x x1. no_ok c.from_residual.result _ _ c.from_residual.ensures.1;
  left = λ tell entry s honest. on_err _ _ (follow_fails s c.read.new.self (λ left is. c.read.ensures.left (state_at_stage s.stage) left s.source_is is) (λ left is. g.met.S.Source.fit _ left is honest) (λ t groups is. g.met.K.Sink.only _ (s.stage.groups ++ cut s.ahead.put) groups (s.sink_is t) is) (c.read.ensures.some (state_at_stage s.stage) s.source_is) (λ t. ((s.stage.groups ++ cut s.ahead.put), g.met.K.Sink.may _ (s.stage.groups ++ cut s.ahead.put) (s.sink_is t))));
  whole = λ tell entry x x1 x2. absurd (not_ok c.from_residual.result _ _ c.from_residual.ensures.1 x2);
  own = λ tell entry at found b s u first is honest.
      residual_of c.from_residual.result _ (IsHonestHalt entry (g.S.Source.stands c.read.new.self)) c.from_residual.ensures.1 (source_honest entry (g.S.Source.stands c.read.new.self) c.in_err-bytes.field-0.0);
  most = λ tell entry s closed.
      leaves_most _ g.S.Source.may_leave c.read.new.self c.args.report.now.chunks entry.history (λ left may. others_leave_few_marks entry s.stage (rest_in s.ahead) left.history c.args.report.now.chunks c.args.report.now.chunks s.work_is s.going (closed_rest s.ahead c.args.report.now.chunks closed) (same_most c.args.report.now.chunks) (c.read.ensures.left (state_at_stage s.stage) left s.source_is may).grows);
  content = λ entry at found b s u faithful honest.
      residual_of c.from_residual.result _ (IsFaithfulHalt entry c.args.store.now.offset c.args.report.now (g.S.Source.stands c.read.new.self) (g.K.Sink.holds c.args.sink.now)) c.from_residual.ensures.1
      (free_own entry c.args.store.now.offset c.args.report.now (g.S.Source.stands c.read.new.self) (g.K.Sink.holds c.args.sink.now) _ (source_free c.in_err-bytes.field-0.0));
  unclosed = λ entry first found b s u faithful honest t now.
      absurd (dead_source (g.S.Source.is_live c.read.new.self) (g.met.S.Source.lives c.read.new.self t now) c.in_err-bytes.ensures.dead);
}

pub returns-in_err-take_message-in-Some-clause-session : goal.returns-in_err-take_message-in-Some-clause-session
returns-in_err-take_message-in-Some-clause-session g c = record {
  next = λ tell entry x x1. no_ok c.from_residual-in_err-take_message-in-Some.result _ _ c.from_residual-in_err-take_message-in-Some.ensures.1;
  left = λ tell entry s honest. on_err _ _ (follow_fails s c.read.new.self (λ left is. c.read.ensures.left (state_at_stage s.stage) left s.source_is is) (λ left is. g.met.S.Source.fit _ left is honest) (λ t groups is. g.met.K.Sink.only _ (s.stage.groups ++ cut s.ahead.put) groups (s.sink_is t) is) (c.read.ensures.some (state_at_stage s.stage) s.source_is) (λ t. ((s.stage.groups ++ cut s.ahead.put), g.met.K.Sink.may _ (s.stage.groups ++ cut s.ahead.put) (s.sink_is t))));
  whole = λ tell entry x x1 x2. absurd (not_ok c.from_residual-in_err-take_message-in-Some.result _ _ c.from_residual-in_err-take_message-in-Some.ensures.1 x2);
  own = λ tell entry at found b s u first is honest.
      let T = some_read _ _ _ _ c.in-Some.is (c.in_ok-bytes.ensures.took (state_at_stage s.stage) s.source_is) in
      let reading = took_at (state_at_stage s.stage) T.2.standing T.0 s.stage.first.lsn s.stage.messages T.2.holds refl in
      let infos_are = ap (λ (o : Offset). o.infos) s.work_is.offset_is in
      residual_of c.from_residual-in_err-take_message-in-Some.result _ (IsHonestHalt entry (g.S.Source.stands c.read.new.self)) c.from_residual-in_err-take_message-in-Some.ensures.1
      (taken_honest entry (g.S.Source.stands c.read.new.self) s.stage.first.infos T.2.standing s.stage.first.lsn s.stage.messages T.0 c.in-Some.bytes (c.args.report.now.messages + 1) c.args.work.now _ (capturing s) T.2.is reading
      (captured_stays s.stage.history T.2.standing.history s.stage.first.infos T.2.holds.grows.tables s.going.reading.infos)
      (read_plainly T.2.standing.history (record { after = s.stage.first.lsn; messages = T.0 ∷ s.stage.messages }) (g.met.S.Source.fit _ _ (g.met.S.Source.may _ T.2.standing T.2.is) honest).unaltered (g.met.S.Source.right c.read.new.self T.2.standing _ T.2.is honest reading)) infos_are (subst (λ (l : List TableInfo). AreWithoutFault l s.stage.first.lsn s.stage.messages) infos_are s.work_is.is.accepted) T.1
      (let many = many_at g.S.Source g.met.S.Source.one at found b c.args.store.now.offset c.args.work.now c.args.report.now c.args.src.now first s.stage.first.lsn s.stage.messages u is (state_at_stage s.stage) s.source_is refl in sym (one_longer (length s.stage.messages) c.args.report.now.messages many))
      (c.in_err-take_message-in-Some.ensures.halt s.stage.first.lsn s.stage.messages s.ahead s.work_is.is));
  most = λ tell entry s closed.
      let T = some_read _ _ _ _ c.in-Some.is (c.in_ok-bytes.ensures.took (state_at_stage s.stage) s.source_is) in
      leaves_most _ g.S.Source.may_leave c.read.new.self c.args.report.now.chunks entry.history (λ left may. others_leave_few_marks entry s.stage (rest_in s.ahead) left.history c.args.report.now.chunks c.args.report.now.chunks s.work_is s.going (closed_rest s.ahead c.args.report.now.chunks closed) (same_most c.args.report.now.chunks)
      (left_grows s.stage.history T.2.standing left T.2.holds.grows (g.met.S.Source.only c.read.new.self T.2.standing left T.2.is may)));
  content = λ entry at found b s u faithful honest.
      let report = (record c.args.report.now { messages = c.args.report.now.messages + 1 }) in
      residual_of c.from_residual-in_err-take_message-in-Some.result _ (IsFaithfulHalt entry c.args.store.now.offset report (g.S.Source.stands c.read.new.self) (g.K.Sink.holds c.args.sink.now)) c.from_residual-in_err-take_message-in-Some.ensures.1
      (free_own entry c.args.store.now.offset report (g.S.Source.stands c.read.new.self) (g.K.Sink.holds c.args.sink.now) _ (taken_free _ s.stage.first.lsn s.stage.messages c.in-Some.bytes c.args.work.now _ (c.in_err-take_message-in-Some.ensures.halt s.stage.first.lsn s.stage.messages s.ahead s.work_is.is)));
  unclosed = λ entry first found b s u faithful honest t now.
      let T = some_read _ _ _ _ c.in-Some.is (c.in_ok-bytes.ensures.took (state_at_stage s.stage) s.source_is) in
      on_err _ _ (closed_at_halt s (g.met.S.Source.one c.args.src.now) faithful (at_rest g.S.Source (Some first) found b c.args.store.now.offset c.args.work.now c.args.report.now c.args.src.now u) c.args.store.now.offset (inl refl) (record c.args.report.now { messages = c.args.report.now.messages + 1 }) refl (le_refl _) (T.0 ∷ []) t
      (ap (λ (x : SourceState). x.reading) (g.met.S.Source.one c.read.new.self t T.2.standing now T.2.is) ∙ took_at (state_at_stage s.stage) T.2.standing T.0 s.stage.first.lsn s.stage.messages T.2.holds refl));
}

pub returns-clause-session : goal.returns-clause-session
returns-clause-session g c = record {
  next = λ tell entry s honest.
      let T = none_read _ _ _ c.in-None.is (c.in_ok-bytes.ensures.took (state_at_stage s.stage) s.source_is) in
      moved_on s c.read.new.self T.standing T.is T.holds.0 (g.met.S.Source.fit _ _ (g.met.S.Source.may _ T.standing T.is) honest);
  left = λ tell entry x x1. tt;
  whole = λ tell entry s honest is.
      let T = none_read _ _ _ c.in-None.is (c.in_ok-bytes.ensures.took (state_at_stage s.stage) s.source_is) in
      read_whole s T.standing T.holds.0 (all_plainly (state_at_stage s.stage) T.standing (g.met.S.Source.fit _ _ (g.met.S.Source.may _ T.standing T.is) honest).unaltered (T.holds.1 honest)) (λ r at. read_plainly T.standing.history r (g.met.S.Source.fit _ _ (g.met.S.Source.may _ T.standing T.is) honest).unaltered (g.met.S.Source.right _ T.standing r T.is honest at)) (g.met.S.Source.fit _ _ (g.met.S.Source.may _ T.standing T.is) honest) c.read.new.self T.is;
  own = λ tell entry at found b x x1 s x2 x3. tt;
  most = λ tell entry x x1. tt;
  content = λ entry at found b x x1 x2 x3. tt;
  unclosed = λ entry first found b x x1 x2 x3 t x4. tt;
}

-- changes weren't followed, or not all of their records were put
pub returns-in_err-deliver_changes-in-Changed-clause-session : goal.returns-in_err-deliver_changes-in-Changed-clause-session
returns-in_err-deliver_changes-in-Changed-clause-session g c = record {
  next = λ tell entry x x1. no_ok c.from_residual-in_err-deliver_changes-in-Changed.result _ _ c.from_residual-in_err-deliver_changes-in-Changed.ensures.1;
  left = λ tell entry s honest.
      let T = some_read _ _ _ _ c.in-Some.is (c.in_ok-bytes.ensures.took (state_at_stage s.stage) s.source_is) in
      let p = (subst (λ (x : Piece). HasTakenPiece s.stage.first.lsn s.stage.messages c.in-Some.bytes c.args.work.now c.take_message.new.work x) c.in-Changed.is (c.in_ok-take_message-in-Some.ensures.taken s.stage.first.lsn s.stage.messages s.ahead s.work_is.is)) in
      let d = c.deliver_changes.ensures.delivers s.stage.first.lsn p.taken.message s.stage.messages s.ahead.start s.ahead.put (stated_now s.stage.first.lsn s.stage.messages c.in-Some.bytes c.args.work.now c.take_message.new.work c.in-Changed.changes p) (taken_open p.taken s.ahead.is) in
      on_err _ _
      (change_fails s T.0 T.2.standing T.2.holds (g.met.S.Source.fit _ _ (g.met.S.Source.may _ T.2.standing T.2.is) honest) (λ r at. read_plainly T.2.standing.history r (g.met.S.Source.fit _ _ (g.met.S.Source.may _ T.2.standing T.2.is) honest).unaltered (g.met.S.Source.right _ T.2.standing r T.2.is honest at)) c.in-Some.bytes T.1 c.take_message.new.work None p.taken refl c.requires.time c.requires.since c.read.new.self c.deliver_changes.new.sink
      (λ left is. g.met.S.Source.only _ T.2.standing left T.2.is is) (λ left is. c.read.ensures.left (state_at_stage s.stage) left s.source_is is) (λ left is. g.met.S.Source.fit _ left is honest)
      (λ t groups is. left_part s.stage.first.lsn s.stage.messages c.in-Some.bytes c.args.work.now c.take_message.new.work c.in-Changed.changes p g.K.Sink s.ahead.start s.ahead.put c.deliver_changes.new.work c.args.sink.now c.deliver_changes.new.sink (record c.args.report.now { messages = c.args.report.now.messages + 1 }) c.deliver_changes.new.report c.deliver_changes.result d s.stage.groups groups (s.sink_is t) is)
      (c.read.ensures.some (state_at_stage s.stage) s.source_is) (λ t. d.some (s.stage.groups ++ cut s.ahead.put) (s.sink_is t)));
  whole = λ tell entry x x1 x2. absurd (not_ok c.from_residual-in_err-deliver_changes-in-Changed.result _ _ c.from_residual-in_err-deliver_changes-in-Changed.ensures.1 x2);
  own = λ tell entry at found b s u first is honest.
      let p = (subst (λ (x : Piece). HasTakenPiece s.stage.first.lsn s.stage.messages c.in-Some.bytes c.args.work.now c.take_message.new.work x) c.in-Changed.is (c.in_ok-take_message-in-Some.ensures.taken s.stage.first.lsn s.stage.messages s.ahead s.work_is.is)) in
      let d = c.in_err-deliver_changes-in-Changed.ensures.delivers s.stage.first.lsn p.taken.message s.stage.messages s.ahead.start s.ahead.put (stated_now s.stage.first.lsn s.stage.messages c.in-Some.bytes c.args.work.now c.take_message.new.work c.in-Changed.changes p) (taken_open p.taken s.ahead.is) in
      residual_of c.from_residual-in_err-deliver_changes-in-Changed.result _ (IsHonestHalt entry (g.S.Source.stands c.read.new.self)) c.from_residual-in_err-deliver_changes-in-Changed.ensures.1
      (open_honest entry (g.S.Source.stands c.read.new.self) _ _ _ d.causes);
  most = λ tell entry s closed.
      let T = some_read _ _ _ _ c.in-Some.is (c.in_ok-bytes.ensures.took (state_at_stage s.stage) s.source_is) in
      leaves_most _ g.S.Source.may_leave c.read.new.self c.deliver_changes.new.report.chunks entry.history (λ left may. others_leave_few_marks entry s.stage (rest_in s.ahead) left.history c.args.report.now.chunks c.deliver_changes.new.report.chunks s.work_is s.going (closed_rest s.ahead c.args.report.now.chunks closed)
      (open_more c.args.report.now c.deliver_changes.new.report c.deliver_changes.ensures.counts)
      (left_grows s.stage.history T.2.standing left T.2.holds.grows (g.met.S.Source.only c.read.new.self T.2.standing left T.2.is may)));
  content = λ entry at found b s u faithful honest.
      let T = some_read _ _ _ _ c.in-Some.is (c.in_ok-bytes.ensures.took (state_at_stage s.stage) s.source_is) in
      let p = (subst (λ (x : Piece). HasTakenPiece s.stage.first.lsn s.stage.messages c.in-Some.bytes c.args.work.now c.take_message.new.work x) c.in-Changed.is (c.in_ok-take_message-in-Some.ensures.taken s.stage.first.lsn s.stage.messages s.ahead s.work_is.is)) in
      let d = c.in_err-deliver_changes-in-Changed.ensures.delivers s.stage.first.lsn p.taken.message s.stage.messages s.ahead.start s.ahead.put (stated_now s.stage.first.lsn s.stage.messages c.in-Some.bytes c.args.work.now c.take_message.new.work c.in-Changed.changes p) (taken_open p.taken s.ahead.is) in
      let e = by_offset s.stage.first.lsn s.stage.messages c.in-Some.bytes c.args.work.now c.take_message.new.work c.in-Changed.changes p g.K.Sink s.ahead.start s.ahead.put c.deliver_changes.new.work c.args.sink.now c.deliver_changes.new.sink (record c.args.report.now { messages = c.args.report.now.messages + 1 }) c.deliver_changes.new.report _ s.work_is.is d in
      residual_of c.from_residual-in_err-deliver_changes-in-Changed.result _ (IsFaithfulHalt entry c.args.store.now.offset c.deliver_changes.new.report (g.S.Source.stands c.read.new.self) (g.K.Sink.holds c.deliver_changes.new.sink)) c.from_residual-in_err-deliver_changes-in-Changed.ensures.1
      (part_own s faithful T.0 T.2.standing T.2.holds (g.met.S.Source.fit _ _ (g.met.S.Source.may _ T.2.standing T.2.is) honest) (λ r at. read_plainly T.2.standing.history r (g.met.S.Source.fit _ _ (g.met.S.Source.may _ T.2.standing T.2.is) honest).unaltered (g.met.S.Source.right _ T.2.standing r T.2.is honest at)) c.in-Some.bytes T.1 c.take_message.new.work None p.taken
      b u.messages c.args.store.now.offset c.args.report.now c.deliver_changes.new.report u.ahead u.is c.read.new.self c.deliver_changes.new.sink T.2.is c.in-Changed.changes p.is.0 p.is.1 _ e.causes);
  unclosed = λ entry first found b s u faithful honest t now.
      let T = some_read _ _ _ _ c.in-Some.is (c.in_ok-bytes.ensures.took (state_at_stage s.stage) s.source_is) in
      on_err _ _
      (closed_at_halt s (g.met.S.Source.one c.args.src.now) faithful (at_rest g.S.Source (Some first) found b c.args.store.now.offset c.args.work.now c.args.report.now c.args.src.now u) c.args.store.now.offset (inl refl) c.deliver_changes.new.report (ap (λ (r : Report). r.commits) c.deliver_changes.ensures.counts)
      (open_more c.args.report.now c.deliver_changes.new.report c.deliver_changes.ensures.counts) (T.0 ∷ []) t
      (ap (λ (x : SourceState). x.reading) (g.met.S.Source.one c.read.new.self t T.2.standing now T.2.is) ∙ took_at (state_at_stage s.stage) T.2.standing T.0 s.stage.first.lsn s.stage.messages T.2.holds refl));
}

pub returns-in_err-closed-in-Ended-clause-session : goal.returns-in_err-closed-in-Ended-clause-session
returns-in_err-closed-in-Ended-clause-session g c = record {
  next = λ tell entry x x1. no_ok c.from_residual-in_err-closed-in-Ended.result _ _ c.from_residual-in_err-closed-in-Ended.ensures.1;
  left = λ tell entry s honest.
      let T = some_read _ _ _ _ c.in-Some.is (c.in_ok-bytes.ensures.took (state_at_stage s.stage) s.source_is) in
      let p = (subst (λ (x : Piece). HasTakenPiece s.stage.first.lsn s.stage.messages c.in-Some.bytes c.args.work.now c.take_message.new.work x) c.in-Ended.is (c.in_ok-take_message-in-Some.ensures.taken s.stage.first.lsn s.stage.messages s.ahead s.work_is.is)) in
      let d = delivers_now s.stage.first.lsn s.stage.messages c.in-Some.bytes c.args.work.now c.take_message.new.work c.in-Ended.ended p g.K.Sink s.ahead.start s.ahead.put c.deliver_commit.new.work c.args.sink.now c.deliver_commit.new.sink (record c.args.report.now { messages = c.args.report.now.messages + 1 }) c.deliver_commit.new.report c.deliver_commit.result (c.deliver_commit.ensures.delivers s.stage.messages s.ahead.start s.ahead.put (taken_open p.taken s.ahead.is) (begun_now s.stage.first.lsn s.stage.messages c.in-Some.bytes c.args.work.now c.take_message.new.work c.in-Ended.ended p)) in
      on_err _ _
      (step_fails s T.0 T.2.standing T.2.holds (g.met.S.Source.fit _ _ (g.met.S.Source.may _ T.2.standing T.2.is) honest) (λ r at. read_plainly T.2.standing.history r (g.met.S.Source.fit _ _ (g.met.S.Source.may _ T.2.standing T.2.is) honest).unaltered (g.met.S.Source.right _ T.2.standing r T.2.is honest at)) c.in-Some.bytes T.1 c.take_message.new.work (Some (commit_by c.in-Ended.ended (changes_so_far c.args.work.now.offset.infos s.stage.messages))) p.taken (commit_by c.in-Ended.ended (changes_so_far c.args.work.now.offset.infos s.stage.messages)) refl c.requires.time c.requires.since c.read.new.self c.deliver_commit.new.sink
      (λ left is. g.met.S.Source.only _ T.2.standing left T.2.is is) (λ left is. c.read.ensures.left (state_at_stage s.stage) left s.source_is is) (λ left is. g.met.S.Source.fit _ left is honest)
      (λ t groups is. d.left s.stage.groups groups (s.sink_is t) is) (c.read.ensures.some (state_at_stage s.stage) s.source_is) (λ t. d.some (s.stage.groups ++ cut s.ahead.put) (s.sink_is t)));
  whole = λ tell entry x x1 x2. absurd (not_ok c.from_residual-in_err-closed-in-Ended.result _ _ c.from_residual-in_err-closed-in-Ended.ensures.1 x2);
  own = λ tell entry at found b s u first is honest.
      let p = (subst (λ (x : Piece). HasTakenPiece s.stage.first.lsn s.stage.messages c.in-Some.bytes c.args.work.now c.take_message.new.work x) c.in-Ended.is (c.in_ok-take_message-in-Some.ensures.taken s.stage.first.lsn s.stage.messages s.ahead s.work_is.is)) in
      let d = c.in_err-closed-in-Ended.ensures.delivers s.stage.messages s.ahead.start s.ahead.put (taken_open p.taken s.ahead.is) (begun_now s.stage.first.lsn s.stage.messages c.in-Some.bytes c.args.work.now c.take_message.new.work c.in-Ended.ended p) in
      residual_of c.from_residual-in_err-closed-in-Ended.result _ (IsHonestHalt entry (g.S.Source.stands c.read.new.self)) c.from_residual-in_err-closed-in-Ended.ensures.1
      (follow_honest entry (g.S.Source.stands c.read.new.self) _ _ _ d.causes);
  most = λ tell entry s closed.
      let T = some_read _ _ _ _ c.in-Some.is (c.in_ok-bytes.ensures.took (state_at_stage s.stage) s.source_is) in
      let p = (subst (λ (x : Piece). HasTakenPiece s.stage.first.lsn s.stage.messages c.in-Some.bytes c.args.work.now c.take_message.new.work x) c.in-Ended.is (c.in_ok-take_message-in-Some.ensures.taken s.stage.first.lsn s.stage.messages s.ahead s.work_is.is)) in
      let d = c.in_err-closed-in-Ended.ensures.delivers s.stage.messages s.ahead.start s.ahead.put (taken_open p.taken s.ahead.is) (begun_now s.stage.first.lsn s.stage.messages c.in-Some.bytes c.args.work.now c.take_message.new.work c.in-Ended.ended p) in
      leaves_most _ g.S.Source.may_leave c.read.new.self c.deliver_commit.new.report.chunks entry.history (λ left may. others_leave_few_marks entry s.stage (rest_in s.ahead) left.history c.args.report.now.chunks c.deliver_commit.new.report.chunks s.work_is s.going (closed_rest s.ahead c.args.report.now.chunks closed)
      (torn_more _ _ c.args.work.now c.args.report.now c.deliver_commit.new.report closed c.requires.number d.noted)
      (left_grows s.stage.history T.2.standing left T.2.holds.grows (g.met.S.Source.only c.read.new.self T.2.standing left T.2.is may)));
  content = λ entry at found b s u faithful honest.
      let T = some_read _ _ _ _ c.in-Some.is (c.in_ok-bytes.ensures.took (state_at_stage s.stage) s.source_is) in
      let p = (subst (λ (x : Piece). HasTakenPiece s.stage.first.lsn s.stage.messages c.in-Some.bytes c.args.work.now c.take_message.new.work x) c.in-Ended.is (c.in_ok-take_message-in-Some.ensures.taken s.stage.first.lsn s.stage.messages s.ahead s.work_is.is)) in
      let d = delivers_now s.stage.first.lsn s.stage.messages c.in-Some.bytes c.args.work.now c.take_message.new.work c.in-Ended.ended p g.K.Sink s.ahead.start s.ahead.put c.deliver_commit.new.work c.args.sink.now c.deliver_commit.new.sink (record c.args.report.now { messages = c.args.report.now.messages + 1 }) c.deliver_commit.new.report _ (c.in_err-closed-in-Ended.ensures.delivers s.stage.messages s.ahead.start s.ahead.put (taken_open p.taken s.ahead.is) (begun_now s.stage.first.lsn s.stage.messages c.in-Some.bytes c.args.work.now c.take_message.new.work c.in-Ended.ended p)) in
      residual_of c.from_residual-in_err-closed-in-Ended.result _ (IsFaithfulHalt entry c.args.store.now.offset c.deliver_commit.new.report (g.S.Source.stands c.read.new.self) (g.K.Sink.holds c.deliver_commit.new.sink)) c.from_residual-in_err-closed-in-Ended.ensures.1
      (follow_own s faithful T.0 T.2.standing T.2.holds (g.met.S.Source.fit _ _ (g.met.S.Source.may _ T.2.standing T.2.is) honest) (λ r at. read_plainly T.2.standing.history r (g.met.S.Source.fit _ _ (g.met.S.Source.may _ T.2.standing T.2.is) honest).unaltered (g.met.S.Source.right _ T.2.standing r T.2.is honest at)) c.in-Some.bytes T.1 c.take_message.new.work (Some (commit_by c.in-Ended.ended (changes_so_far c.args.work.now.offset.infos s.stage.messages))) p.taken
      b u.messages c.args.store.now.offset c.args.report.now c.deliver_commit.new.report u.ahead u.is c.read.new.self c.deliver_commit.new.sink T.2.is (commit_by c.in-Ended.ended (changes_so_far c.args.work.now.offset.infos s.stage.messages)) refl d.counts _ d.causes);
  unclosed = λ entry first found b s u faithful honest t now.
      let T = some_read _ _ _ _ c.in-Some.is (c.in_ok-bytes.ensures.took (state_at_stage s.stage) s.source_is) in
      let p = (subst (λ (x : Piece). HasTakenPiece s.stage.first.lsn s.stage.messages c.in-Some.bytes c.args.work.now c.take_message.new.work x) c.in-Ended.is (c.in_ok-take_message-in-Some.ensures.taken s.stage.first.lsn s.stage.messages s.ahead s.work_is.is)) in
      let d = c.in_err-closed-in-Ended.ensures.delivers s.stage.messages s.ahead.start s.ahead.put (taken_open p.taken s.ahead.is) (begun_now s.stage.first.lsn s.stage.messages c.in-Some.bytes c.args.work.now c.take_message.new.work c.in-Ended.ended p) in
      let counts = (step_counts _ _ (record c.args.report.now { messages = c.args.report.now.messages + 1 }) c.deliver_commit.new.report false d.noted).commits in
      on_err _ _
      (closed_at_halt s (g.met.S.Source.one c.args.src.now) faithful (at_rest g.S.Source (Some first) found b c.args.store.now.offset c.args.work.now c.args.report.now c.args.src.now u) c.args.store.now.offset (inl refl) c.deliver_commit.new.report (none_more c.args.report.now.commits c.deliver_commit.new.report.commits counts)
      (torn_more _ _ c.args.work.now c.args.report.now c.deliver_commit.new.report (way_closed u) c.requires.number d.noted) (T.0 ∷ []) t
      (ap (λ (x : SourceState). x.reading) (g.met.S.Source.one c.read.new.self t T.2.standing now T.2.is) ∙ took_at (state_at_stage s.stage) T.2.standing T.0 s.stage.first.lsn s.stage.messages T.2.holds refl));
}

pub returns-in-Some-clause-session : goal.returns-in-Some-clause-session
returns-in-Some-clause-session g c = record {
  next = λ tell entry s honest.
      let T = some_read _ _ _ _ c.in-Some.is (c.in_ok-bytes.ensures.took (state_at_stage s.stage) s.source_is) in
      let p = (subst (λ (x : Piece). HasTakenPiece s.stage.first.lsn s.stage.messages c.in-Some.bytes c.args.work.now c.take_message.new.work x) c.in-Ended.is (c.in_ok-take_message-in-Some.ensures.taken s.stage.first.lsn s.stage.messages s.ahead s.work_is.is)) in
      let d = delivers_now s.stage.first.lsn s.stage.messages c.in-Some.bytes c.args.work.now c.take_message.new.work c.in-Ended.ended p g.K.Sink s.ahead.start s.ahead.put c.deliver_commit.new.work c.args.sink.now c.deliver_commit.new.sink (record c.args.report.now { messages = c.args.report.now.messages + 1 }) c.deliver_commit.new.report _ (c.in_ok-closed-in-Ended.ensures.delivers s.stage.messages s.ahead.start s.ahead.put (taken_open p.taken s.ahead.is) (begun_now s.stage.first.lsn s.stage.messages c.in-Some.bytes c.args.work.now c.take_message.new.work c.in-Ended.ended p)) in
      stepped_on s T.0 T.2.standing T.2.holds (g.met.S.Source.fit _ _ (g.met.S.Source.may _ T.2.standing T.2.is) honest) (λ r at. read_plainly T.2.standing.history r (g.met.S.Source.fit _ _ (g.met.S.Source.may _ T.2.standing T.2.is) honest).unaltered (g.met.S.Source.right _ T.2.standing r T.2.is honest at)) c.in-Some.bytes T.1 c.take_message.new.work (Some (commit_by c.in-Ended.ended (changes_so_far c.args.work.now.offset.infos s.stage.messages))) p.taken (commit_by c.in-Ended.ended (changes_so_far c.args.work.now.offset.infos s.stage.messages)) refl c.requires.time c.requires.since c.deliver_commit.new.work d.stepped d.long c.read.new.self c.deliver_commit.new.sink T.2.is
      (λ t. d.put_all s.stage.groups (s.sink_is t));
  left = λ tell entry x x1. tt;
  whole = λ tell entry s honest is. absurd (ok_some _ _ refl is);
  own = λ tell entry at found b x x1 s x2 x3. tt;
  most = λ tell entry x x1. tt;
  content = λ entry at found b x x1 x2 x3. tt;
  unclosed = λ entry first found b x x1 x2 x3 t x4. tt;
}

pub returns-in-Changed-clause-session : goal.returns-in-Changed-clause-session
returns-in-Changed-clause-session g c = record {
  next = λ tell entry s honest.
      let T = some_read _ _ _ _ c.in-Some.is (c.in_ok-bytes.ensures.took (state_at_stage s.stage) s.source_is) in
      let p = (subst (λ (x : Piece). HasTakenPiece s.stage.first.lsn s.stage.messages c.in-Some.bytes c.args.work.now c.take_message.new.work x) c.in-Changed.is (c.in_ok-take_message-in-Some.ensures.taken s.stage.first.lsn s.stage.messages s.ahead s.work_is.is)) in
      let d = c.in_ok-deliver_changes-in-Changed.ensures.delivers s.stage.first.lsn p.taken.message s.stage.messages s.ahead.start s.ahead.put (stated_now s.stage.first.lsn s.stage.messages c.in-Some.bytes c.args.work.now c.take_message.new.work c.in-Changed.changes p) (taken_open p.taken s.ahead.is) in
      changed_on s T.0 T.2.standing T.2.holds (g.met.S.Source.fit _ _ (g.met.S.Source.may _ T.2.standing T.2.is) honest) (λ r at. read_plainly T.2.standing.history r (g.met.S.Source.fit _ _ (g.met.S.Source.may _ T.2.standing T.2.is) honest).unaltered (g.met.S.Source.right _ T.2.standing r T.2.is honest at)) c.in-Some.bytes T.1 c.take_message.new.work None p.taken refl c.deliver_changes.new.work c.deliver_changes.new.sink (record c.args.report.now { messages = c.args.report.now.messages + 1 }) c.deliver_changes.new.report c.deliver_changes.ensures.same d.next c.read.new.self T.2.is;
  left = λ tell entry x x1. tt;
  whole = λ tell entry s honest is. absurd (ok_some _ _ refl is);
  own = λ tell entry at found b x x1 s x2 x3. tt;
  most = λ tell entry x x1. tt;
  content = λ entry at found b x x1 x2 x3. tt;
  unclosed = λ entry first found b x x1 x2 x3 t x4. tt;
}

pub returns-in-Nothing-clause-session : goal.returns-in-Nothing-clause-session
returns-in-Nothing-clause-session g c = record {
  next = λ tell entry s honest.
      let T = some_read _ _ _ _ c.in-Some.is (c.in_ok-bytes.ensures.took (state_at_stage s.stage) s.source_is) in
      let p = (subst (λ (x : Piece). HasTakenPiece s.stage.first.lsn s.stage.messages c.in-Some.bytes c.args.work.now c.take_message.new.work x) c.in-Nothing.is (c.in_ok-take_message-in-Some.ensures.taken s.stage.first.lsn s.stage.messages s.ahead s.work_is.is)) in
      taken_on s T.0 T.2.standing T.2.holds (g.met.S.Source.fit _ _ (g.met.S.Source.may _ T.2.standing T.2.is) honest) (λ r at. read_plainly T.2.standing.history r (g.met.S.Source.fit _ _ (g.met.S.Source.may _ T.2.standing T.2.is) honest).unaltered (g.met.S.Source.right _ T.2.standing r T.2.is honest at)) c.in-Some.bytes T.1 c.take_message.new.work None p.taken refl (nothing_open s.stage.first.lsn s.stage.messages c.in-Some.bytes c.args.work.now c.take_message.new.work s.work_is.is.accepted p s.ahead.start s.ahead.put s.ahead.is) c.read.new.self T.2.is;
  left = λ tell entry x x1. tt;
  whole = λ tell entry s honest is. absurd (ok_some _ _ refl is);
  own = λ tell entry at found b x x1 s x2 x3. tt;
  most = λ tell entry x x1. tt;
  content = λ entry at found b x x1 x2 x3. tt;
  unclosed = λ entry first found b x x1 x2 x3 t x4. tt;
}

pub returns-in-Some-clause-state : goal.returns-in-Some-clause-state
returns-in-Some-clause-state g c =
    let p = (subst (λ (x : Piece). HasTakenPiece c.requires.ready.after c.requires.ready.messages c.in-Some.bytes c.args.work.now c.take_message.new.work x) c.in-Ended.is (c.in_ok-take_message-in-Some.ensures.taken c.requires.ready.after c.requires.ready.messages c.requires.ready.ahead c.requires.ready.is)) in
    let d = delivers_now c.requires.ready.after c.requires.ready.messages c.in-Some.bytes c.args.work.now c.take_message.new.work c.in-Ended.ended p g.K.Sink c.requires.ready.ahead.start c.requires.ready.ahead.put c.deliver_commit.new.work c.args.sink.now c.deliver_commit.new.sink (record c.args.report.now { messages = c.args.report.now.messages + 1 }) c.deliver_commit.new.report _ (c.in_ok-closed-in-Ended.ensures.delivers c.requires.ready.messages c.requires.ready.ahead.start c.requires.ready.ahead.put (taken_open p.taken c.requires.ready.ahead.is) (begun_now c.requires.ready.after c.requires.ready.messages c.in-Some.bytes c.args.work.now c.take_message.new.work c.in-Ended.ended p)) in
    record {
      ready = stepped_ready c.requires.ready.after c.requires.ready.messages c.in-Some.bytes (commit_by c.in-Ended.ended (changes_so_far c.args.work.now.offset.infos c.requires.ready.messages)) c.args.work.now c.take_message.new.work c.deliver_commit.new.work c.requires.ready.ahead.start c.requires.ready.is p.taken d.stepped d.long;
      is_next = stepped_next (commit_by c.in-Ended.ended (changes_so_far c.args.work.now.offset.infos c.requires.ready.messages)) c.args.work.now c.take_message.new.work c.deliver_commit.new.work c.requires.ready.ahead.start c.take_message.ensures.same d.stepped;
      due =
          due_so (commit_by c.in-Ended.ended (changes_so_far c.args.work.now.offset.infos c.requires.ready.messages)) c.args.work.now c.take_message.new.work c.deliver_commit.new.work c.requires.ready.ahead d.stepped _ c.is_due.result d.closed
          (stepped_since (commit_by c.in-Ended.ended (changes_so_far c.args.work.now.offset.infos c.requires.ready.messages)) c.args.work.now c.take_message.new.work c.deliver_commit.new.work c.requires.ready.ahead.start c.take_message.ensures.same d.stepped c.requires.since)
          c.is_due.ensures.due c.is_due.ensures.open;
      counts =
          let st = step_counts _ _ (record c.args.report.now { messages = c.args.report.now.messages + 1 }) c.deliver_commit.new.report true d.noted in
          (st.messages, omega (arith, st.commits), st.position);
      ended = λ is. absurd (ok_some _ _ refl is);
      nothing = λ is. absurd (ok_some _ _ refl is);
      reading = c.read.ensures.reading;
      quiet = read_quiet (g.S.Source.told c.read.new.self) (Some c.in-Some.bytes) (subst (λ (o : Option (List ℕ)). LastAnswerIs (g.S.Source.told c.read.new.self) (Read o)) c.in-Some.is c.in_ok-bytes.ensures.told);
      windows = λ closed. step_more _ _ c.args.work.now c.args.report.now c.deliver_commit.new.report closed c.requires.number d.noted;
    }

pub returns-in-Changed-clause-state : goal.returns-in-Changed-clause-state
returns-in-Changed-clause-state g c =
    let r = c.requires.ready in
    let p = (subst (λ (x : Piece). HasTakenPiece c.requires.ready.after c.requires.ready.messages c.in-Some.bytes c.args.work.now c.take_message.new.work x) c.in-Changed.is (c.in_ok-take_message-in-Some.ensures.taken c.requires.ready.after c.requires.ready.messages c.requires.ready.ahead c.requires.ready.is)) in
    let d = c.in_ok-deliver_changes-in-Changed.ensures.delivers c.requires.ready.after p.taken.message c.requires.ready.messages c.requires.ready.ahead.start c.requires.ready.ahead.put (stated_now c.requires.ready.after c.requires.ready.messages c.in-Some.bytes c.args.work.now c.take_message.new.work c.in-Changed.changes p) (taken_open p.taken c.requires.ready.ahead.is) in
    record {
      ready = part_ready c.requires.ready.after c.requires.ready.messages c.in-Some.bytes c.args.work.now c.take_message.new.work c.deliver_changes.new.work c.requires.ready.ahead (c.requires.ready.ahead.put ++ d.next.more) c.requires.ready.is p.taken d.next.is c.deliver_changes.ensures.same;
      is_next = part_next c.args.work.now c.take_message.new.work c.deliver_changes.new.work c.take_message.ensures.same c.deliver_changes.ensures.same;
      due = inl (refl, part_since c.args.work.now c.take_message.new.work c.deliver_changes.new.work c.take_message.ensures.same c.deliver_changes.ensures.same c.requires.since, part_closed c.requires.ready.ahead.is d.next.is);
      counts = counted_part false c.args.report.now c.deliver_changes.new.report c.deliver_changes.ensures.counts;
      ended = λ is. absurd (ok_some _ _ refl is);
      nothing = λ is. absurd (ok_some _ _ refl is);
      reading = c.read.ensures.reading;
      quiet = read_quiet (g.S.Source.told c.read.new.self) (Some c.in-Some.bytes) (subst (λ (o : Option (List ℕ)). LastAnswerIs (g.S.Source.told c.read.new.self) (Read o)) c.in-Some.is c.in_ok-bytes.ensures.told);
      windows = λ closed. open_more c.args.report.now c.deliver_changes.new.report c.deliver_changes.ensures.counts;
    }

pub returns-in-Nothing-clause-state : goal.returns-in-Nothing-clause-state
returns-in-Nothing-clause-state g c = record {
  ready = taken_ready c.requires.ready.after c.requires.ready.messages c.in-Some.bytes c.args.work.now c.take_message.new.work c.requires.ready.ahead c.requires.ready.is (subst (λ (x : Piece). HasTakenPiece c.requires.ready.after c.requires.ready.messages c.in-Some.bytes c.args.work.now c.take_message.new.work x) c.in-Nothing.is (c.in_ok-take_message-in-Some.ensures.taken c.requires.ready.after c.requires.ready.messages c.requires.ready.ahead c.requires.ready.is));
  is_next = taken_next c.args.work.now c.take_message.new.work c.take_message.ensures.same;
  due = inl (refl, subst (λ (w : SessionState). w.since < w.every) (sym c.take_message.ensures.same) c.requires.since, none_closed c.args.work.now c.take_message.new.work c.take_message.ensures.same);
  counts = search rules;
  ended = λ is. absurd (ok_some _ _ refl is);
  nothing = λ is. absurd (ok_some _ _ refl is);
  reading = c.read.ensures.reading;
  quiet = read_quiet (g.S.Source.told c.read.new.self) (Some c.in-Some.bytes) (subst (λ (o : Option (List ℕ)). LastAnswerIs (g.S.Source.told c.read.new.self) (Read o)) c.in-Some.is c.in_ok-bytes.ensures.told);
  windows = λ closed. le_refl _;
}

pub returns-clause-state : goal.returns-clause-state
returns-clause-state g c = record {
  ready = c.requires.ready;
  is_next = record { offset_is = refl; number_is = refl; every_is = refl; now_is = refl };
  due = search rules;
  counts = search rules;
  ended = λ is. c.in_ok-bytes.ensures.ended ∙ ap is_none c.in-None.is;
  nothing = λ is. subst (λ (o : Option (List ℕ)). LastAnswerIs (g.S.Source.told c.read.new.self) (Read o)) c.in-None.is c.in_ok-bytes.ensures.told;
  reading = c.read.ensures.reading;
  quiet = read_quiet (g.S.Source.told c.read.new.self) None (subst (λ (o : Option (List ℕ)). LastAnswerIs (g.S.Source.told c.read.new.self) (Read o)) c.in-None.is c.in_ok-bytes.ensures.told);
  windows = λ closed. le_refl _;
}

-- ---- the conditions of its calls

pub is_due-requires : goal.is_due-requires
is_due-requires g c =
    let p = (subst (λ (x : Piece). HasTakenPiece c.requires.ready.after c.requires.ready.messages c.in-Some.bytes c.args.work.now c.take_message.new.work x) c.in-Ended.is (c.in_ok-take_message-in-Some.ensures.taken c.requires.ready.after c.requires.ready.messages c.requires.ready.ahead c.requires.ready.is)) in
    let d = delivers_now c.requires.ready.after c.requires.ready.messages c.in-Some.bytes c.args.work.now c.take_message.new.work c.in-Ended.ended p g.K.Sink c.requires.ready.ahead.start c.requires.ready.ahead.put c.deliver_commit.new.work c.args.sink.now c.deliver_commit.new.sink (record c.args.report.now { messages = c.args.report.now.messages + 1 }) c.deliver_commit.new.report _ (c.in_ok-closed-in-Ended.ensures.delivers c.requires.ready.messages c.requires.ready.ahead.start c.requires.ready.ahead.put (taken_open p.taken c.requires.ready.ahead.is) (begun_now c.requires.ready.after c.requires.ready.messages c.in-Some.bytes c.args.work.now c.take_message.new.work c.in-Ended.ended p)) in
    stepped_since (commit_by c.in-Ended.ended (changes_so_far c.args.work.now.offset.infos c.requires.ready.messages)) c.args.work.now c.take_message.new.work c.deliver_commit.new.work c.requires.ready.ahead.start c.take_message.ensures.same d.stepped c.requires.since

pub take_message-requires : goal.take_message-requires
take_message-requires g c = c.requires.ready

pub deliver_changes-requires-clause-live : goal.deliver_changes-requires-clause-live
deliver_changes-requires-clause-live g c = c.requires.sink_live

pub deliver_changes-requires-clause-states : goal.deliver_changes-requires-clause-states
deliver_changes-requires-clause-states g c = states_now c.requires.ready.after c.requires.ready.messages c.in-Some.bytes c.args.work.now c.take_message.new.work c.in-Changed.changes (subst (λ (x : Piece). HasTakenPiece c.requires.ready.after c.requires.ready.messages c.in-Some.bytes c.args.work.now c.take_message.new.work x) c.in-Changed.is (c.in_ok-take_message-in-Some.ensures.taken c.requires.ready.after c.requires.ready.messages c.requires.ready.ahead c.requires.ready.is)) c.requires.ready.ahead c.requires.ready.is

pub deliver_changes-requires-clause-since : goal.deliver_changes-requires-clause-since
deliver_changes-requires-clause-since g c = subst (λ (w : SessionState). w.since < w.every) (sym c.take_message.ensures.same) c.requires.since

pub deliver_commit-requires-clause-live : goal.deliver_commit-requires-clause-live
deliver_commit-requires-clause-live g c = c.requires.sink_live

pub deliver_commit-requires-clause-ends : goal.deliver_commit-requires-clause-ends
deliver_commit-requires-clause-ends g c = ends_now c.requires.ready.after c.requires.ready.messages c.in-Some.bytes c.args.work.now c.take_message.new.work c.in-Ended.ended (subst (λ (x : Piece). HasTakenPiece c.requires.ready.after c.requires.ready.messages c.in-Some.bytes c.args.work.now c.take_message.new.work x) c.in-Ended.is (c.in_ok-take_message-in-Some.ensures.taken c.requires.ready.after c.requires.ready.messages c.requires.ready.ahead c.requires.ready.is)) c.requires.ready.ahead c.requires.ready.is

pub deliver_commit-requires-clause-since : goal.deliver_commit-requires-clause-since
deliver_commit-requires-clause-since g c = subst (λ (w : SessionState). w.since < w.every) (sym c.take_message.ensures.same) c.requires.since

pub deliver_commit-requires-clause-commits : goal.deliver_commit-requires-clause-commits
deliver_commit-requires-clause-commits g c = omega (arith, c.requires.commits, c.requires.messages)

-- ---- why it stops

pub returns-in_err-bytes-clause-stops : goal.returns-in_err-bytes-clause-stops
returns-in_err-bytes-clause-stops g c = record {
  offsets = λ is. err_at c.from_residual.result _ OfSource (residual_of c.from_residual.result _ OfSource c.from_residual.ensures.1 (source_of c.in_err-bytes.field-0.0)) is;
  never = λ value at is. err_at c.from_residual.result _ OfSource (residual_of c.from_residual.result _ OfSource c.from_residual.ensures.1 (source_of c.in_err-bytes.field-0.0)) is;
  reads = residual_of c.from_residual.result _ IsNotGone c.from_residual.ensures.1 (source_reads c.in_err-bytes.field-0.0);
}

pub returns-in_err-take_message-in-Some-clause-stops : goal.returns-in_err-take_message-in-Some-clause-stops
returns-in_err-take_message-in-Some-clause-stops g c =
    let of = residual_of c.from_residual-in_err-take_message-in-Some.result _ OfNone c.from_residual-in_err-take_message-in-Some.ensures.1 (taken_of _ c.requires.ready.after c.requires.ready.messages c.in-Some.bytes c.args.work.now _ (c.in_err-take_message-in-Some.ensures.halt c.requires.ready.after c.requires.ready.messages c.requires.ready.ahead c.requires.ready.is)) in
    record {
      offsets = λ is. err_at c.from_residual-in_err-take_message-in-Some.result _ OfNone of is;
      never = λ value at is. err_at c.from_residual-in_err-take_message-in-Some.result _ OfNone of is;
      reads = residual_of c.from_residual-in_err-take_message-in-Some.result _ IsNotGone c.from_residual-in_err-take_message-in-Some.ensures.1 (taken_reads _ c.requires.ready.after c.requires.ready.messages c.in-Some.bytes c.args.work.now _ (c.in_err-take_message-in-Some.ensures.halt c.requires.ready.after c.requires.ready.messages c.requires.ready.ahead c.requires.ready.is));
    }

pub returns-in_err-deliver_changes-in-Changed-clause-stops : goal.returns-in_err-deliver_changes-in-Changed-clause-stops
returns-in_err-deliver_changes-in-Changed-clause-stops g c =
    let p = (subst (λ (x : Piece). HasTakenPiece c.requires.ready.after c.requires.ready.messages c.in-Some.bytes c.args.work.now c.take_message.new.work x) c.in-Changed.is (c.in_ok-take_message-in-Some.ensures.taken c.requires.ready.after c.requires.ready.messages c.requires.ready.ahead c.requires.ready.is)) in
    let d = c.in_err-deliver_changes-in-Changed.ensures.delivers c.requires.ready.after p.taken.message c.requires.ready.messages c.requires.ready.ahead.start c.requires.ready.ahead.put (stated_now c.requires.ready.after c.requires.ready.messages c.in-Some.bytes c.args.work.now c.take_message.new.work c.in-Changed.changes p) (taken_open p.taken c.requires.ready.ahead.is) in
    let of = residual_of c.from_residual-in_err-deliver_changes-in-Changed.result _ OfSink c.from_residual-in_err-deliver_changes-in-Changed.ensures.1 (open_of _ _ _ d.causes) in
    record {
      offsets = λ is. err_at c.from_residual-in_err-deliver_changes-in-Changed.result _ OfSink of is;
      never = λ value at is. err_at c.from_residual-in_err-deliver_changes-in-Changed.result _ OfSink of is;
      reads = residual_of c.from_residual-in_err-deliver_changes-in-Changed.result _ IsNotGone c.from_residual-in_err-deliver_changes-in-Changed.ensures.1 (open_reads _ _ _ d.causes);
    }

pub returns-in_err-closed-in-Ended-clause-stops : goal.returns-in_err-closed-in-Ended-clause-stops
returns-in_err-closed-in-Ended-clause-stops g c =
    let p = (subst (λ (x : Piece). HasTakenPiece c.requires.ready.after c.requires.ready.messages c.in-Some.bytes c.args.work.now c.take_message.new.work x) c.in-Ended.is (c.in_ok-take_message-in-Some.ensures.taken c.requires.ready.after c.requires.ready.messages c.requires.ready.ahead c.requires.ready.is)) in
    let d = c.in_err-closed-in-Ended.ensures.delivers c.requires.ready.messages c.requires.ready.ahead.start c.requires.ready.ahead.put (taken_open p.taken c.requires.ready.ahead.is) (begun_now c.requires.ready.after c.requires.ready.messages c.in-Some.bytes c.args.work.now c.take_message.new.work c.in-Ended.ended p) in
    let of = residual_of c.from_residual-in_err-closed-in-Ended.result _ OfSink c.from_residual-in_err-closed-in-Ended.ensures.1 (follow_of _ _ _ d.causes) in
    record {
      offsets = λ is. err_at c.from_residual-in_err-closed-in-Ended.result _ OfSink of is;
      never = λ value at is. err_at c.from_residual-in_err-closed-in-Ended.result _ OfSink of is;
      reads = residual_of c.from_residual-in_err-closed-in-Ended.result _ IsNotGone c.from_residual-in_err-closed-in-Ended.ensures.1 (follow_reads _ _ _ d.causes);
    }

pub returns-in-Some-clause-stops : goal.returns-in-Some-clause-stops
returns-in-Some-clause-stops g c = record {
  offsets = λ is. absurd (not_both _ _ _ is refl);
  never = λ value at is. absurd (not_both _ _ _ is refl);
  reads = tt;
}

pub returns-in-Changed-clause-stops : goal.returns-in-Changed-clause-stops
returns-in-Changed-clause-stops g c = record {
  offsets = λ is. absurd (not_both _ _ _ is refl);
  never = λ value at is. absurd (not_both _ _ _ is refl);
  reads = tt;
}

pub returns-in-Nothing-clause-stops : goal.returns-in-Nothing-clause-stops
returns-in-Nothing-clause-stops g c = record {
  offsets = λ is. absurd (not_both _ _ _ is refl);
  never = λ value at is. absurd (not_both _ _ _ is refl);
  reads = tt;
}

pub returns-clause-stops : goal.returns-clause-stops
returns-clause-stops g c = record {
  offsets = λ is. absurd (not_both _ _ _ is refl);
  never = λ value at is. absurd (not_both _ _ _ is refl);
  reads = tt;
}

pub returns-in_err-bytes-clause-state : goal.returns-in_err-bytes-clause-state
returns-in_err-bytes-clause-state g c = record {
  ready = no_ok c.from_residual.result _ _ c.from_residual.ensures.1;
  is_next = no_ok c.from_residual.result _ _ c.from_residual.ensures.1;
  due = no_answer c.from_residual.result _ _ c.from_residual.ensures.1;
  counts =
      let p = err_from_is_err_and c.from_residual.result c.from_residual.ensures.1 in
      counted_none c.from_residual.result p.0 c.args.report.now p.1;
  ended = λ x. absurd (not_ok c.from_residual.result _ _ c.from_residual.ensures.1 x);
  nothing = λ x. absurd (not_ok c.from_residual.result _ _ c.from_residual.ensures.1 x);
  reading = c.read.ensures.reading;
  quiet = no_ok c.from_residual.result _ _ c.from_residual.ensures.1;
  windows = λ closed. le_refl _;
}

pub returns-in_err-take_message-in-Some-clause-state : goal.returns-in_err-take_message-in-Some-clause-state
returns-in_err-take_message-in-Some-clause-state g c = record {
  ready = no_ok c.from_residual-in_err-take_message-in-Some.result _ _ c.from_residual-in_err-take_message-in-Some.ensures.1;
  is_next = no_ok c.from_residual-in_err-take_message-in-Some.result _ _ c.from_residual-in_err-take_message-in-Some.ensures.1;
  due = no_answer c.from_residual-in_err-take_message-in-Some.result _ _ c.from_residual-in_err-take_message-in-Some.ensures.1;
  counts =
      let p = err_from_is_err_and c.from_residual-in_err-take_message-in-Some.result c.from_residual-in_err-take_message-in-Some.ensures.1 in
      counted_fault c.from_residual-in_err-take_message-in-Some.result p.0 c.args.report.now p.1;
  ended = λ x. absurd (not_ok c.from_residual-in_err-take_message-in-Some.result _ _ c.from_residual-in_err-take_message-in-Some.ensures.1 x);
  nothing = λ x. absurd (not_ok c.from_residual-in_err-take_message-in-Some.result _ _ c.from_residual-in_err-take_message-in-Some.ensures.1 x);
  reading = c.read.ensures.reading;
  quiet = no_ok c.from_residual-in_err-take_message-in-Some.result _ _ c.from_residual-in_err-take_message-in-Some.ensures.1;
  windows = λ closed. le_refl _;
}

pub returns-in_err-deliver_changes-in-Changed-clause-state : goal.returns-in_err-deliver_changes-in-Changed-clause-state
returns-in_err-deliver_changes-in-Changed-clause-state g c = record {
  ready = no_ok c.from_residual-in_err-deliver_changes-in-Changed.result _ _ c.from_residual-in_err-deliver_changes-in-Changed.ensures.1;
  is_next = no_ok c.from_residual-in_err-deliver_changes-in-Changed.result _ _ c.from_residual-in_err-deliver_changes-in-Changed.ensures.1;
  due = no_answer c.from_residual-in_err-deliver_changes-in-Changed.result _ _ c.from_residual-in_err-deliver_changes-in-Changed.ensures.1;
  counts =
      let p = err_from_is_err_and c.from_residual-in_err-deliver_changes-in-Changed.result c.from_residual-in_err-deliver_changes-in-Changed.ensures.1 in
      counted_open c.from_residual-in_err-deliver_changes-in-Changed.result p.0 c.args.report.now c.deliver_changes.new.report p.1 c.deliver_changes.ensures.counts;
  ended = λ x. absurd (not_ok c.from_residual-in_err-deliver_changes-in-Changed.result _ _ c.from_residual-in_err-deliver_changes-in-Changed.ensures.1 x);
  nothing = λ x. absurd (not_ok c.from_residual-in_err-deliver_changes-in-Changed.result _ _ c.from_residual-in_err-deliver_changes-in-Changed.ensures.1 x);
  reading = c.read.ensures.reading;
  quiet = no_ok c.from_residual-in_err-deliver_changes-in-Changed.result _ _ c.from_residual-in_err-deliver_changes-in-Changed.ensures.1;
  windows = λ closed. open_more c.args.report.now c.deliver_changes.new.report c.deliver_changes.ensures.counts;
}

pub returns-in_err-closed-in-Ended-clause-state : goal.returns-in_err-closed-in-Ended-clause-state
returns-in_err-closed-in-Ended-clause-state g c =
    let p = (subst (λ (x : Piece). HasTakenPiece c.requires.ready.after c.requires.ready.messages c.in-Some.bytes c.args.work.now c.take_message.new.work x) c.in-Ended.is (c.in_ok-take_message-in-Some.ensures.taken c.requires.ready.after c.requires.ready.messages c.requires.ready.ahead c.requires.ready.is)) in
    let d = c.in_err-closed-in-Ended.ensures.delivers c.requires.ready.messages c.requires.ready.ahead.start c.requires.ready.ahead.put (taken_open p.taken c.requires.ready.ahead.is) (begun_now c.requires.ready.after c.requires.ready.messages c.in-Some.bytes c.args.work.now c.take_message.new.work c.in-Ended.ended p) in
    record {
      ready = no_ok c.from_residual-in_err-closed-in-Ended.result _ _ c.from_residual-in_err-closed-in-Ended.ensures.1;
      is_next = no_ok c.from_residual-in_err-closed-in-Ended.result _ _ c.from_residual-in_err-closed-in-Ended.ensures.1;
      due = no_answer c.from_residual-in_err-closed-in-Ended.result _ _ c.from_residual-in_err-closed-in-Ended.ensures.1;
      counts =
          let e = err_from_is_err_and c.from_residual-in_err-closed-in-Ended.result c.from_residual-in_err-closed-in-Ended.ensures.1 in
          counted_torn c.from_residual-in_err-closed-in-Ended.result e.0 _ _ c.args.report.now c.deliver_commit.new.report e.1 d.noted;
      ended = λ x. absurd (not_ok c.from_residual-in_err-closed-in-Ended.result _ _ c.from_residual-in_err-closed-in-Ended.ensures.1 x);
      nothing = λ x. absurd (not_ok c.from_residual-in_err-closed-in-Ended.result _ _ c.from_residual-in_err-closed-in-Ended.ensures.1 x);
      reading = c.read.ensures.reading;
      quiet = no_ok c.from_residual-in_err-closed-in-Ended.result _ _ c.from_residual-in_err-closed-in-Ended.ensures.1;
      windows = λ closed. torn_more _ _ c.args.work.now c.args.report.now c.deliver_commit.new.report closed c.requires.number d.noted;
    }

-- ---- what the report says

pub returns-in_err-bytes-clause-report : goal.returns-in_err-bytes-clause-report
returns-in_err-bytes-clause-report g c = record {
  under_way = λ at found b x. no_answer c.from_residual.result _ _ c.from_residual.ensures.1;
  halted = λ at found b u.
      residual_of c.from_residual.result _ (Halts g.S.Source at found b.config b.now b.held c.args.store.now.offset c.args.report.now c.read.new.self) c.from_residual.ensures.1
      (record {
        halted = halts_between g.S.Source at found b c.args.store.now.offset c.args.store.now.offset c.args.work.now c.args.report.now c.args.report.now c.args.src.now c.read.new.self _ (at_rest g.S.Source at found b c.args.store.now.offset c.args.work.now c.args.report.now c.args.src.now u) c.in_err-bytes.ensures.untaken
            (λ s t was now. absurd (dead_source (g.S.Source.is_live c.read.new.self) (g.met.S.Source.lives c.read.new.self t now) c.in_err-bytes.ensures.dead)) (source_left c.in_err-bytes.field-0.0) refl refl (inl refl);
        stood = λ s first. source_stood b.config b.now b.held c.args.store.now.offset c.args.report.now (g.S.Source.stands c.read.new.self) c.in_err-bytes.field-0.0;
        cause = source_caused b.config b.now b.held c.args.store.now.offset c.args.report.now (g.S.Source.told c.read.new.self) c.in_err-bytes.field-0.0;
        must = failure_asks b u.messages c.args.store.now.offset (rest_in u.ahead) c.args.report.now c.args.report.now found (g.S.Source.told c.args.src.now) (g.S.Source.told c.read.new.self) c.args.store.now.offset _ u.is.is u.tells c.in_err-bytes.ensures.untaken (source_fails c.in_err-bytes.field-0.0) (inl refl);
      });
  awaits = λ at found b x s x1 x2 x3. no_ok c.from_residual.result _ _ c.from_residual.ensures.1;
  waits = λ at found b x s x1 x2 x3 x4. absurd (not_ok c.from_residual.result _ _ c.from_residual.ensures.1 x4);
  grows = λ s left is may. longer_grows s.history left.history (c.read.ensures.left s left is may).grows;
  confirmed = λ s t was now. (c.read.ensures.left s (left_of t) was (g.met.S.Source.may c.read.new.self t now)).confirmed;
}

pub returns-in_err-take_message-in-Some-clause-report : goal.returns-in_err-take_message-in-Some-clause-report
returns-in_err-take_message-in-Some-clause-report g c = record {
  under_way = λ at found b x. no_answer c.from_residual-in_err-take_message-in-Some.result _ _ c.from_residual-in_err-take_message-in-Some.ensures.1;
  halted = λ at found b u.
      let cause = taken_cause (c.args.report.now.messages + 1) b.first.lsn u.messages c.in-Some.bytes (rest_in u.ahead) _ (rest_halt u.ahead.start b.first.lsn u.messages c.in-Some.bytes (c.args.report.now.messages + 1) c.args.work.now _ (c.in_err-take_message-in-Some.ensures.halt b.first.lsn u.messages u.ahead u.is.is.is)) in
      residual_of c.from_residual-in_err-take_message-in-Some.result _ (Halts g.S.Source at found b.config b.now b.held c.args.store.now.offset (record c.args.report.now { messages = c.args.report.now.messages + 1 }) c.read.new.self) c.from_residual-in_err-take_message-in-Some.ensures.1
      (record {
        halted = halts_at g.S.Source at found b c.args.store.now.offset c.args.work.now c.args.report.now (record c.args.report.now { messages = c.args.report.now.messages + 1 }) c.args.src.now c.read.new.self c.in-Some.bytes _ u (some_read _ _ _ _ c.in-Some.is c.in_ok-bytes.ensures.taken) (λ s is. some_read _ _ _ _ c.in-Some.is (c.in_ok-bytes.ensures.took s is)) (g.met.S.Source.one c.read.new.self) cause refl refl;
        stood = λ s first. messages_stood g.S.Source at found b c.args.store.now.offset c.args.work.now c.args.src.now c.read.new.self c.args.report.now c.in-Some.bytes _ u (λ s is. some_read _ _ _ _ c.in-Some.is (c.in_ok-bytes.ensures.took s is)) (c.in_err-take_message-in-Some.ensures.halt b.first.lsn u.messages u.ahead u.is.is.is) s first;
        cause = taken_caused b u.messages c.args.store.now.offset (rest_in u.ahead) c.args.report.now found (g.S.Source.told c.args.src.now) (g.S.Source.told c.read.new.self) c.in-Some.bytes _ u.is u.tells (some_read _ _ _ _ c.in-Some.is c.in_ok-bytes.ensures.taken) (rest_halt u.ahead.start b.first.lsn u.messages c.in-Some.bytes (c.args.report.now.messages + 1) c.args.work.now _ (c.in_err-take_message-in-Some.ensures.halt b.first.lsn u.messages u.ahead u.is.is.is));
        must = newest_asks b u.messages c.args.store.now.offset (rest_in u.ahead) c.args.report.now (record c.args.report.now { messages = c.args.report.now.messages + 1 }) (g.S.Source.told c.args.src.now) (g.S.Source.told c.read.new.self) c.in-Some.bytes _ u.is.is (some_read _ _ _ _ c.in-Some.is c.in_ok-bytes.ensures.taken) (subst (λ (o : Option (List ℕ)). LastAnswerIs (g.S.Source.told c.read.new.self) (Read o)) c.in-Some.is c.in_ok-bytes.ensures.told) cause;
      });
  awaits = λ at found b x s x1 x2 x3. no_ok c.from_residual-in_err-take_message-in-Some.result _ _ c.from_residual-in_err-take_message-in-Some.ensures.1;
  waits = λ at found b x s x1 x2 x3 x4. absurd (not_ok c.from_residual-in_err-take_message-in-Some.result _ _ c.from_residual-in_err-take_message-in-Some.ensures.1 x4);
  grows = λ s left is may. longer_grows s.history left.history (c.read.ensures.left s left is may).grows;
  confirmed = λ s t was now. (c.read.ensures.left s (left_of t) was (g.met.S.Source.may c.read.new.self t now)).confirmed;
}

pub returns-in_err-deliver_changes-in-Changed-clause-report : goal.returns-in_err-deliver_changes-in-Changed-clause-report
returns-in_err-deliver_changes-in-Changed-clause-report g c = record {
  under_way = λ at found b x. no_answer c.from_residual-in_err-deliver_changes-in-Changed.result _ _ c.from_residual-in_err-deliver_changes-in-Changed.ensures.1;
  halted = λ at found b u.
      let p = (subst (λ (x : Piece). HasTakenPiece b.first.lsn u.messages c.in-Some.bytes c.args.work.now c.take_message.new.work x) c.in-Changed.is (c.in_ok-take_message-in-Some.ensures.taken b.first.lsn u.messages u.ahead u.is.is.is)) in
      let d = c.in_err-deliver_changes-in-Changed.ensures.delivers b.first.lsn p.taken.message u.messages u.ahead.start u.ahead.put (stated_now b.first.lsn u.messages c.in-Some.bytes c.args.work.now c.take_message.new.work c.in-Changed.changes p) (taken_open p.taken u.ahead.is) in
      let e = by_offset b.first.lsn u.messages c.in-Some.bytes c.args.work.now c.take_message.new.work c.in-Changed.changes p g.K.Sink u.ahead.start u.ahead.put c.deliver_changes.new.work c.args.sink.now c.deliver_changes.new.sink (record c.args.report.now { messages = c.args.report.now.messages + 1 }) c.deliver_changes.new.report _ u.is.is.is d in
      let rest = rest_piece u.ahead.start b.first.lsn u.messages c.in-Some.bytes c.args.work.now c.take_message.new.work (Changed c.in-Changed.changes) p in
      let counts = open_counts c.args.report.now c.deliver_changes.new.report c.deliver_changes.ensures.counts in
      let windows = ap (λ (r : Report). r.chunks) c.deliver_changes.ensures.counts in
      let cause = open_cause c.deliver_changes.new.report.messages b.first.lsn u.messages c.in-Some.bytes (rest_in u.ahead) (resting u.ahead.start c.take_message.new.work) c.in-Changed.changes _ rest u.is.is.so_far (λ is. e.no_clash (ap (λ (k : Halt). Err k) is)) e.causes in
      residual_of c.from_residual-in_err-deliver_changes-in-Changed.result _ (Halts g.S.Source at found b.config b.now b.held c.args.store.now.offset c.deliver_changes.new.report c.read.new.self) c.from_residual-in_err-deliver_changes-in-Changed.ensures.1
      (record {
        halted = halts_at g.S.Source at found b c.args.store.now.offset c.args.work.now c.args.report.now c.deliver_changes.new.report c.args.src.now c.read.new.self c.in-Some.bytes _ u (some_read _ _ _ _ c.in-Some.is c.in_ok-bytes.ensures.taken) (λ s is. some_read _ _ _ _ c.in-Some.is (c.in_ok-bytes.ensures.took s is)) (g.met.S.Source.one c.read.new.self) cause counts.messages counts.commits;
        stood = λ s first. parts_stood g.S.Source at found b c.args.store.now.offset c.args.work.now c.args.src.now c.read.new.self c.args.report.now c.deliver_changes.new.report c.in-Some.bytes c.take_message.new.work c.in-Changed.changes _ u (λ s is. some_read _ _ _ _ c.in-Some.is (c.in_ok-bytes.ensures.took s is)) p counts.messages windows e.causes s first;
        cause = changes_caused b u.messages c.args.store.now.offset (rest_in u.ahead) c.args.report.now c.deliver_changes.new.report found (g.S.Source.told c.args.src.now) (g.S.Source.told c.read.new.self) c.in-Some.bytes (resting u.ahead.start c.take_message.new.work) c.in-Changed.changes _ u.is u.tells (some_read _ _ _ _ c.in-Some.is c.in_ok-bytes.ensures.taken) rest counts.messages windows e.causes;
        must = newest_asks b u.messages c.args.store.now.offset (rest_in u.ahead) c.args.report.now c.deliver_changes.new.report (g.S.Source.told c.args.src.now) (g.S.Source.told c.read.new.self) c.in-Some.bytes _ u.is.is (some_read _ _ _ _ c.in-Some.is c.in_ok-bytes.ensures.taken) (subst (λ (o : Option (List ℕ)). LastAnswerIs (g.S.Source.told c.read.new.self) (Read o)) c.in-Some.is c.in_ok-bytes.ensures.told) cause;
      });
  awaits = λ at found b x s x1 x2 x3. no_ok c.from_residual-in_err-deliver_changes-in-Changed.result _ _ c.from_residual-in_err-deliver_changes-in-Changed.ensures.1;
  waits = λ at found b x s x1 x2 x3 x4. absurd (not_ok c.from_residual-in_err-deliver_changes-in-Changed.result _ _ c.from_residual-in_err-deliver_changes-in-Changed.ensures.1 x4);
  grows = λ s left is may. longer_grows s.history left.history (c.read.ensures.left s left is may).grows;
  confirmed = λ s t was now. (c.read.ensures.left s (left_of t) was (g.met.S.Source.may c.read.new.self t now)).confirmed;
}

pub returns-in_err-closed-in-Ended-clause-report : goal.returns-in_err-closed-in-Ended-clause-report
returns-in_err-closed-in-Ended-clause-report g c = record {
  under_way = λ at found b x. no_answer c.from_residual-in_err-closed-in-Ended.result _ _ c.from_residual-in_err-closed-in-Ended.ensures.1;
  halted = λ at found b u.
      let p = (subst (λ (x : Piece). HasTakenPiece b.first.lsn u.messages c.in-Some.bytes c.args.work.now c.take_message.new.work x) c.in-Ended.is (c.in_ok-take_message-in-Some.ensures.taken b.first.lsn u.messages u.ahead u.is.is.is)) in
      let d = delivers_now b.first.lsn u.messages c.in-Some.bytes c.args.work.now c.take_message.new.work c.in-Ended.ended p g.K.Sink u.ahead.start u.ahead.put c.deliver_commit.new.work c.args.sink.now c.deliver_commit.new.sink (record c.args.report.now { messages = c.args.report.now.messages + 1 }) c.deliver_commit.new.report _ (c.in_err-closed-in-Ended.ensures.delivers u.messages u.ahead.start u.ahead.put (taken_open p.taken u.ahead.is) (begun_now b.first.lsn u.messages c.in-Some.bytes c.args.work.now c.take_message.new.work c.in-Ended.ended p)) in
      let rest = rest_taken b.first.lsn u.messages c.in-Some.bytes c.args.work.now c.take_message.new.work (Some (commit_by c.in-Ended.ended (changes_so_far c.args.work.now.offset.infos u.messages))) u.ahead.start p.taken in
      let counts = torn_counts _ _ c.args.report.now c.deliver_commit.new.report d.noted in
      let cause = follow_cause c.deliver_commit.new.report.messages b.first.lsn u.messages c.in-Some.bytes (rest_in u.ahead) (resting u.ahead.start c.take_message.new.work) (commit_by c.in-Ended.ended (changes_so_far c.args.work.now.offset.infos u.messages)) _ rest (λ is. d.no_clash (ap (λ (k : Halt). Err k) is)) d.causes in
      residual_of c.from_residual-in_err-closed-in-Ended.result _ (Halts g.S.Source at found b.config b.now b.held c.args.store.now.offset c.deliver_commit.new.report c.read.new.self) c.from_residual-in_err-closed-in-Ended.ensures.1
      (record {
        halted = halts_at g.S.Source at found b c.args.store.now.offset c.args.work.now c.args.report.now c.deliver_commit.new.report c.args.src.now c.read.new.self c.in-Some.bytes _ u (some_read _ _ _ _ c.in-Some.is c.in_ok-bytes.ensures.taken) (λ s is. some_read _ _ _ _ c.in-Some.is (c.in_ok-bytes.ensures.took s is)) (g.met.S.Source.one c.read.new.self) cause counts.messages counts.commits;
        stood = λ s first. commits_stood g.S.Source at found b c.args.store.now.offset c.args.work.now c.args.src.now c.read.new.self c.args.report.now c.deliver_commit.new.report c.in-Some.bytes c.take_message.new.work (commit_by c.in-Ended.ended (changes_so_far c.args.work.now.offset.infos u.messages)) _ u (λ s is. some_read _ _ _ _ c.in-Some.is (c.in_ok-bytes.ensures.took s is)) p.taken counts.messages d.counts d.causes s first;
        cause = follow_caused b u.messages c.args.store.now.offset (rest_in u.ahead) c.args.report.now c.deliver_commit.new.report found (g.S.Source.told c.args.src.now) (g.S.Source.told c.read.new.self) c.in-Some.bytes (resting u.ahead.start c.take_message.new.work) (commit_by c.in-Ended.ended (changes_so_far c.args.work.now.offset.infos u.messages)) _ u.is u.tells (some_read _ _ _ _ c.in-Some.is c.in_ok-bytes.ensures.taken) rest counts.messages d.counts d.causes;
        must = newest_asks b u.messages c.args.store.now.offset (rest_in u.ahead) c.args.report.now c.deliver_commit.new.report (g.S.Source.told c.args.src.now) (g.S.Source.told c.read.new.self) c.in-Some.bytes _ u.is.is (some_read _ _ _ _ c.in-Some.is c.in_ok-bytes.ensures.taken) (subst (λ (o : Option (List ℕ)). LastAnswerIs (g.S.Source.told c.read.new.self) (Read o)) c.in-Some.is c.in_ok-bytes.ensures.told) cause;
      });
  awaits = λ at found b x s x1 x2 x3. no_ok c.from_residual-in_err-closed-in-Ended.result _ _ c.from_residual-in_err-closed-in-Ended.ensures.1;
  waits = λ at found b x s x1 x2 x3 x4. absurd (not_ok c.from_residual-in_err-closed-in-Ended.result _ _ c.from_residual-in_err-closed-in-Ended.ensures.1 x4);
  grows = λ s left is may. longer_grows s.history left.history (c.read.ensures.left s left is may).grows;
  confirmed = λ s t was now. (c.read.ensures.left s (left_of t) was (g.met.S.Source.may c.read.new.self t now)).confirmed;
}

pub returns-in-Some-clause-report : goal.returns-in-Some-clause-report
returns-in-Some-clause-report g c = record {
  under_way = λ at found b u.
      let p = (subst (λ (x : Piece). HasTakenPiece b.first.lsn u.messages c.in-Some.bytes c.args.work.now c.take_message.new.work x) c.in-Ended.is (c.in_ok-take_message-in-Some.ensures.taken b.first.lsn u.messages u.ahead u.is.is.is)) in
      let d = delivers_now b.first.lsn u.messages c.in-Some.bytes c.args.work.now c.take_message.new.work c.in-Ended.ended p g.K.Sink u.ahead.start u.ahead.put c.deliver_commit.new.work c.args.sink.now c.deliver_commit.new.sink (record c.args.report.now { messages = c.args.report.now.messages + 1 }) c.deliver_commit.new.report _ (c.in_ok-closed-in-Ended.ensures.delivers u.messages u.ahead.start u.ahead.put (taken_open p.taken u.ahead.is) (begun_now b.first.lsn u.messages c.in-Some.bytes c.args.work.now c.take_message.new.work c.in-Ended.ended p)) in
      let whole = part_whole b.first.lsn u.messages c.in-Some.bytes c.args.work.now c.take_message.new.work u.ahead.start u.ahead.put u.ahead.is u.is.is.is.accepted (commit_by c.in-Ended.ended (changes_so_far c.args.work.now.offset.infos u.messages)) p.taken in
      let apart = part_apart b.first.lsn u.messages c.in-Some.bytes c.args.work.now c.take_message.new.work u.ahead.start u.ahead.put u.ahead.is u.is.is.is.accepted (commit_by c.in-Ended.ended (changes_so_far c.args.work.now.offset.infos u.messages)) p.taken in
      goes_due g.S.Source at found b c.args.store.now.offset c.deliver_commit.new.work c.deliver_commit.new.report c.read.new.self c.is_due.result
      (λ due. follows_on g.S.Source at found b c.args.store.now.offset c.args.src.now c.read.new.self c.args.work.now c.take_message.new.work c.deliver_commit.new.work c.args.report.now c.deliver_commit.new.report u.ahead.put _ u c.in-Some.bytes (commit_by c.in-Ended.ended (changes_so_far c.args.work.now.offset.infos u.messages)) p.taken d.stepped d.long c.requires.number whole apart d.noted (some_read _ _ _ _ c.in-Some.is c.in_ok-bytes.ensures.taken) (λ s is. some_read _ _ _ _ c.in-Some.is (c.in_ok-bytes.ensures.took s is)))
      (λ due. follows_at_rest g.S.Source at found b c.args.store.now.offset c.args.src.now c.read.new.self c.args.work.now c.take_message.new.work c.deliver_commit.new.work c.args.report.now c.deliver_commit.new.report u.ahead.put _ u c.in-Some.bytes (commit_by c.in-Ended.ended (changes_so_far c.args.work.now.offset.infos u.messages)) p.taken d.stepped d.long c.requires.number whole apart d.noted (some_read _ _ _ _ c.in-Some.is c.in_ok-bytes.ensures.taken) (λ s is. some_read _ _ _ _ c.in-Some.is (c.in_ok-bytes.ensures.took s is)) (sym d.closed ∙ (c.is_due.ensures.open due).0));
  halted = λ at found b x. tt;
  awaits = λ at found b u s first honest a.
      let own = work_at g.S.Source at found b c.args.store.now.offset c.args.work.now c.args.report.now c.args.src.now u (g.met.S.Source.one c.args.src.now) s first a in
      let read = some_read _ _ _ _ c.in-Some.is (c.in_ok-bytes.ensures.took a.standing a.is) in
      let p = (subst (λ (x : Piece). HasTakenPiece a.reading.after a.reading.messages c.in-Some.bytes c.args.work.now c.take_message.new.work x) c.in-Ended.is (c.in_ok-take_message-in-Some.ensures.taken a.reading.after a.reading.messages own.0 own.1)) in
      let d = delivers_now a.reading.after a.reading.messages c.in-Some.bytes c.args.work.now c.take_message.new.work c.in-Ended.ended p g.K.Sink own.0.start own.0.put c.deliver_commit.new.work c.args.sink.now c.deliver_commit.new.sink (record c.args.report.now { messages = c.args.report.now.messages + 1 }) c.deliver_commit.new.report _ (c.in_ok-closed-in-Ended.ensures.delivers a.reading.messages own.0.start own.0.put (taken_open p.taken own.0.is) (begun_now a.reading.after a.reading.messages c.in-Some.bytes c.args.work.now c.take_message.new.work c.in-Ended.ended p)) in
      awaits_commit g.S.Source c.args.work.now c.args.src.now c.read.new.self a c.in-Some.bytes read.0 read.2.standing read.1 read.2.is read.2.holds c.take_message.new.work c.deliver_commit.new.work (commit_by c.in-Ended.ended (changes_so_far c.args.work.now.offset.infos a.reading.messages)) own.0
      p.taken own.1.accepted d.stepped (λ is. read_plainly read.2.standing.history (record { after = a.reading.after; messages = read.0 ∷ a.reading.messages }) (g.met.S.Source.fit _ _ (g.met.S.Source.may _ read.2.standing read.2.is) honest).unaltered (g.met.S.Source.right c.read.new.self read.2.standing _ read.2.is honest is));
  waits = λ at found b x s x1 x2 x3 is. absurd (ok_some _ _ refl is);
  grows = λ s left is may. longer_grows s.history left.history (c.read.ensures.left s left is may).grows;
  confirmed = λ s t was now. (c.read.ensures.left s (left_of t) was (g.met.S.Source.may c.read.new.self t now)).confirmed;
}

pub returns-in-Changed-clause-report : goal.returns-in-Changed-clause-report
returns-in-Changed-clause-report g c = record {
  under_way = λ at found b u.
      let p = (subst (λ (x : Piece). HasTakenPiece b.first.lsn u.messages c.in-Some.bytes c.args.work.now c.take_message.new.work x) c.in-Changed.is (c.in_ok-take_message-in-Some.ensures.taken b.first.lsn u.messages u.ahead u.is.is.is)) in
      let d = c.in_ok-deliver_changes-in-Changed.ensures.delivers b.first.lsn p.taken.message u.messages u.ahead.start u.ahead.put (stated_now b.first.lsn u.messages c.in-Some.bytes c.args.work.now c.take_message.new.work c.in-Changed.changes p) (taken_open p.taken u.ahead.is) in
      takes_on g.S.Source at found b c.args.store.now.offset c.args.src.now c.read.new.self c.args.work.now c.take_message.new.work c.deliver_changes.new.work c.args.report.now c.deliver_changes.new.report u c.in-Some.bytes p.taken
      (record { start = u.ahead.start; put = u.ahead.put ++ d.next.more; is = d.next.is }) (ap (λ (x : SessionState). resting u.ahead.start x) c.deliver_changes.ensures.same)
      (part_so_far b.first.lsn u.messages c.in-Some.bytes c.args.work.now c.take_message.new.work c.in-Changed.changes p g.K.Sink u.ahead.start u.ahead.put c.deliver_changes.new.work c.args.sink.now c.deliver_changes.new.sink (record c.args.report.now { messages = c.args.report.now.messages + 1 }) c.deliver_changes.new.report _ (by_offset b.first.lsn u.messages c.in-Some.bytes c.args.work.now c.take_message.new.work c.in-Changed.changes p g.K.Sink u.ahead.start u.ahead.put c.deliver_changes.new.work c.args.sink.now c.deliver_changes.new.sink (record c.args.report.now { messages = c.args.report.now.messages + 1 }) c.deliver_changes.new.report _ u.is.is.is d))
      (ap (λ (r : Report). r.messages) c.deliver_changes.ensures.counts) (ap (λ (r : Report). r.commits) c.deliver_changes.ensures.counts) (ap (λ (r : Report). r.chunks) c.deliver_changes.ensures.counts)
      (some_read _ _ _ _ c.in-Some.is c.in_ok-bytes.ensures.taken) (λ s is. some_read _ _ _ _ c.in-Some.is (c.in_ok-bytes.ensures.took s is));
  halted = λ at found b x. tt;
  awaits = λ at found b u s first honest a.
      let own = work_at g.S.Source at found b c.args.store.now.offset c.args.work.now c.args.report.now c.args.src.now u (g.met.S.Source.one c.args.src.now) s first a in
      let read = some_read _ _ _ _ c.in-Some.is (c.in_ok-bytes.ensures.took a.standing a.is) in
      let p = (subst (λ (x : Piece). HasTakenPiece a.reading.after a.reading.messages c.in-Some.bytes c.args.work.now c.take_message.new.work x) c.in-Changed.is (c.in_ok-take_message-in-Some.ensures.taken a.reading.after a.reading.messages own.0 own.1)) in
      let d = c.in_ok-deliver_changes-in-Changed.ensures.delivers a.reading.after p.taken.message a.reading.messages own.0.start own.0.put (stated_now a.reading.after a.reading.messages c.in-Some.bytes c.args.work.now c.take_message.new.work c.in-Changed.changes p) (taken_open p.taken own.0.is) in
      awaits_part g.S.Source own.0.start c.take_message.new.work c.deliver_changes.new.work c.read.new.self
      (awaits_message g.S.Source c.args.work.now c.args.src.now c.read.new.self a c.in-Some.bytes read.0 read.2.standing read.1 read.2.is read.2.holds c.take_message.new.work p.taken)
      (window_like (record { start = own.0.start; put = own.0.put; is = taken_open p.taken own.0.is })) (window_like (record { start = own.0.start; put = own.0.put ++ d.next.more; is = d.next.is }))
      (ap (λ (x : SessionState). x.offset) c.deliver_changes.ensures.same);
  waits = λ at found b x s x1 x2 x3 is. absurd (ok_some _ _ refl is);
  grows = λ s left is may. longer_grows s.history left.history (c.read.ensures.left s left is may).grows;
  confirmed = λ s t was now. (c.read.ensures.left s (left_of t) was (g.met.S.Source.may c.read.new.self t now)).confirmed;
}

pub returns-in-Nothing-clause-report : goal.returns-in-Nothing-clause-report
returns-in-Nothing-clause-report g c = record {
  under_way = λ at found b u.
      let p = (subst (λ (x : Piece). HasTakenPiece b.first.lsn u.messages c.in-Some.bytes c.args.work.now c.take_message.new.work x) c.in-Nothing.is (c.in_ok-take_message-in-Some.ensures.taken b.first.lsn u.messages u.ahead u.is.is.is)) in
      takes_on g.S.Source at found b c.args.store.now.offset c.args.src.now c.read.new.self c.args.work.now c.take_message.new.work c.take_message.new.work c.args.report.now (record c.args.report.now { messages = c.args.report.now.messages + 1 }) u c.in-Some.bytes p.taken
      (record { start = u.ahead.start; put = u.ahead.put; is = nothing_open b.first.lsn u.messages c.in-Some.bytes c.args.work.now c.take_message.new.work u.is.is.is.accepted p u.ahead.start u.ahead.put u.ahead.is }) refl
      (nothing_sent b.first.lsn u.messages c.in-Some.bytes u.ahead.start c.args.work.now c.take_message.new.work u.is.is.is.accepted p u.is.is.so_far) refl refl refl (some_read _ _ _ _ c.in-Some.is c.in_ok-bytes.ensures.taken) (λ s is. some_read _ _ _ _ c.in-Some.is (c.in_ok-bytes.ensures.took s is));
  halted = λ at found b x. tt;
  awaits = λ at found b u s first honest a.
      let own = work_at g.S.Source at found b c.args.store.now.offset c.args.work.now c.args.report.now c.args.src.now u (g.met.S.Source.one c.args.src.now) s first a in
      let read = some_read _ _ _ _ c.in-Some.is (c.in_ok-bytes.ensures.took a.standing a.is) in
      let p = (subst (λ (x : Piece). HasTakenPiece a.reading.after a.reading.messages c.in-Some.bytes c.args.work.now c.take_message.new.work x) c.in-Nothing.is (c.in_ok-take_message-in-Some.ensures.taken a.reading.after a.reading.messages own.0 own.1)) in
      awaits_message g.S.Source c.args.work.now c.args.src.now c.read.new.self a c.in-Some.bytes read.0 read.2.standing read.1 read.2.is read.2.holds c.take_message.new.work p.taken;
  waits = λ at found b x s x1 x2 x3 is. absurd (ok_some _ _ refl is);
  grows = λ s left is may. longer_grows s.history left.history (c.read.ensures.left s left is may).grows;
  confirmed = λ s t was now. (c.read.ensures.left s (left_of t) was (g.met.S.Source.may c.read.new.self t now)).confirmed;
}

pub returns-clause-report : goal.returns-clause-report
returns-clause-report g c = record {
  under_way = λ at found b u.
      rests_on g.S.Source at found b c.args.store.now.offset c.args.src.now c.read.new.self c.args.work.now c.args.report.now u (none_read _ _ _ c.in-None.is c.in_ok-bytes.ensures.taken)
      (λ s is. let t = none_read _ _ _ c.in-None.is (c.in_ok-bytes.ensures.took s is) in record { standing = t.standing; is = t.is; holds = t.holds.0.reading });
  halted = λ at found b x. tt;
  awaits = λ at found b u s first honest a.
      let t = none_read _ _ _ c.in-None.is (c.in_ok-bytes.ensures.took a.standing a.is) in
      awaits_still g.S.Source c.args.work.now c.args.work.now c.args.src.now c.read.new.self a t.standing t.is t.holds.0.grows t.holds.0.reading refl refl;
  waits = λ at found b u s first honest a is.
      let own = work_at g.S.Source at found b c.args.store.now.offset c.args.work.now c.args.report.now c.args.src.now u (g.met.S.Source.one c.args.src.now) s first a in
      let t = none_read _ _ _ c.in-None.is (c.in_ok-bytes.ensures.took a.standing a.is) in
      awaits_nothing g.S.Source c.args.work.now c.args.src.now t.standing a own.1.accepted t.holds.0
      (all_plainly a.standing t.standing (g.met.S.Source.fit _ _ (g.met.S.Source.may _ t.standing t.is) honest).unaltered (t.holds.1 honest));
  grows = λ s left is may. longer_grows s.history left.history (c.read.ensures.left s left is may).grows;
  confirmed = λ s t was now. (c.read.ensures.left s (left_of t) was (g.met.S.Source.may c.read.new.self t now)).confirmed;
}

-- ---- what the sink gains

pub returns-in_err-bytes-clause-puts : goal.returns-in_err-bytes-clause-puts
returns-in_err-bytes-clause-puts g c = record {
  putting = λ groups at found b x. no_answer c.from_residual.result _ _ c.from_residual.ensures.1;
  put = λ groups at found b u.
      residual_of c.from_residual.result _ (HasHaltedPut g.S.Source g.K.Sink groups at b.config b.now b.held c.args.store.now.offset c.args.report.now c.read.new.self c.args.sink.now) c.from_residual.ensures.1
      (halts_put_nothing g.S.Source g.K.Sink groups at found b c.args.store.now.offset c.args.store.now.offset c.args.work.now c.args.report.now c.args.report.now c.args.src.now c.read.new.self c.args.sink.now _ (rests_put g.S.Source g.K.Sink groups at found b c.args.store.now.offset c.args.work.now c.args.report.now c.args.src.now c.args.sink.now u) (g.met.K.Sink.only c.args.sink.now) (source_other _ (source_of c.in_err-bytes.field-0.0)) refl refl refl (inl refl)
      (source_left c.in_err-bytes.field-0.0) refl refl c.in_err-bytes.ensures.untaken (λ s t was now. absurd (dead_source (g.S.Source.is_live c.read.new.self) (g.met.S.Source.lives c.read.new.self t now) c.in_err-bytes.ensures.dead)));
}

pub returns-in_err-take_message-in-Some-clause-puts : goal.returns-in_err-take_message-in-Some-clause-puts
returns-in_err-take_message-in-Some-clause-puts g c = record {
  putting = λ groups at found b x. no_answer c.from_residual-in_err-take_message-in-Some.result _ _ c.from_residual-in_err-take_message-in-Some.ensures.1;
  put = λ groups at found b u.
      residual_of c.from_residual-in_err-take_message-in-Some.result _ (HasHaltedPut g.S.Source g.K.Sink groups at b.config b.now b.held c.args.store.now.offset (record c.args.report.now { messages = c.args.report.now.messages + 1 }) c.read.new.self c.args.sink.now) c.from_residual-in_err-take_message-in-Some.ensures.1
      (halts_untaken g.S.Source g.K.Sink groups at found b c.args.store.now.offset c.args.work.now c.args.report.now (record c.args.report.now { messages = c.args.report.now.messages + 1 }) c.args.src.now c.read.new.self c.args.sink.now c.in-Some.bytes _ u (g.met.K.Sink.only c.args.sink.now) (none_other _ (taken_of _ c.requires.ready.after c.requires.ready.messages c.in-Some.bytes c.args.work.now _ (c.in_err-take_message-in-Some.ensures.halt c.requires.ready.after c.requires.ready.messages c.requires.ready.ahead c.requires.ready.is))) refl
      (taken_cause (c.args.report.now.messages + 1) b.first.lsn u.way.messages c.in-Some.bytes (rest_in u.way.ahead) _ (rest_halt u.way.ahead.start b.first.lsn u.way.messages c.in-Some.bytes (c.args.report.now.messages + 1) c.args.work.now _ (c.in_err-take_message-in-Some.ensures.halt b.first.lsn u.way.messages u.way.ahead u.way.is.is.is))) (some_read _ _ _ _ c.in-Some.is c.in_ok-bytes.ensures.taken) (λ s is. some_read _ _ _ _ c.in-Some.is (c.in_ok-bytes.ensures.took s is)) (g.met.S.Source.one c.read.new.self));
}

pub returns-in_err-deliver_changes-in-Changed-clause-puts : goal.returns-in_err-deliver_changes-in-Changed-clause-puts
returns-in_err-deliver_changes-in-Changed-clause-puts g c = record {
  putting = λ groups at found b x. no_answer c.from_residual-in_err-deliver_changes-in-Changed.result _ _ c.from_residual-in_err-deliver_changes-in-Changed.ensures.1;
  put = λ groups at found b u.
      let had = groups ++ cut u.put.records in
      let p = (subst (λ (x : Piece). HasTakenPiece b.first.lsn u.way.messages c.in-Some.bytes c.args.work.now c.take_message.new.work x) c.in-Changed.is (c.in_ok-take_message-in-Some.ensures.taken b.first.lsn u.way.messages u.way.ahead u.way.is.is.is)) in
      let d = c.in_err-deliver_changes-in-Changed.ensures.delivers b.first.lsn p.taken.message u.way.messages u.way.ahead.start u.way.ahead.put (stated_now b.first.lsn u.way.messages c.in-Some.bytes c.args.work.now c.take_message.new.work c.in-Changed.changes p) (taken_open p.taken u.way.ahead.is) in
      let held = subst (g.K.Sink.holds c.args.sink.now) (sym (append_assoc groups (cut u.put.records) (cut u.way.ahead.put))) u.put.held in
      let e = by_offset b.first.lsn u.way.messages c.in-Some.bytes c.args.work.now c.take_message.new.work c.in-Changed.changes p g.K.Sink u.way.ahead.start u.way.ahead.put c.deliver_changes.new.work c.args.sink.now c.deliver_changes.new.sink (record c.args.report.now { messages = c.args.report.now.messages + 1 }) c.deliver_changes.new.report _ u.way.is.is.is d in
      residual_of c.from_residual-in_err-deliver_changes-in-Changed.result _ (HasHaltedPut g.S.Source g.K.Sink groups at b.config b.now b.held c.args.store.now.offset c.deliver_changes.new.report c.read.new.self c.deliver_changes.new.sink) c.from_residual-in_err-deliver_changes-in-Changed.ensures.1
      (change_puts g.S.Source g.K.Sink groups at found b c.args.store.now.offset c.args.src.now c.read.new.self c.args.sink.now c.deliver_changes.new.sink c.args.work.now c.take_message.new.work c.args.report.now c.deliver_changes.new.report u c.in-Some.bytes p.taken
      (inside_now b.first.lsn u.way.messages c.in-Some.bytes c.args.work.now c.take_message.new.work c.in-Changed.changes p) (few_more (length u.way.messages) c.args.report.now.messages u.way.is.is.many c.requires.messages) c.requires.time c.in_err-deliver_changes-in-Changed.field-0.0
      (λ left may. d.left had left held may) (g.met.K.Sink.may c.deliver_changes.new.sink)
      (λ other. d.kept had held (λ is. let same : c.in_err-deliver_changes-in-Changed.field-0.0 ≡ halt.Sink = cc in other same))
      (λ is. d.torn had held (ap (λ (k : Halt). Err k) is))
      (λ is. d.released (ap (λ (k : Halt). Err k) is))
      (open_counts c.args.report.now c.deliver_changes.new.report c.deliver_changes.ensures.counts)
      (open_cause c.deliver_changes.new.report.messages b.first.lsn u.way.messages c.in-Some.bytes (rest_in u.way.ahead) (resting u.way.ahead.start c.take_message.new.work) c.in-Changed.changes _ (rest_piece u.way.ahead.start b.first.lsn u.way.messages c.in-Some.bytes c.args.work.now c.take_message.new.work (Changed c.in-Changed.changes) p) u.way.is.is.so_far (λ is. e.no_clash (ap (λ (k : Halt). Err k) is)) e.causes)
      (some_read _ _ _ _ c.in-Some.is c.in_ok-bytes.ensures.taken) (λ s is. some_read _ _ _ _ c.in-Some.is (c.in_ok-bytes.ensures.took s is)) (g.met.S.Source.one c.read.new.self) (sink_or_other c.in_err-deliver_changes-in-Changed.field-0.0));
}

pub returns-in_err-closed-in-Ended-clause-puts : goal.returns-in_err-closed-in-Ended-clause-puts
returns-in_err-closed-in-Ended-clause-puts g c = record {
  putting = λ groups at found b x. no_answer c.from_residual-in_err-closed-in-Ended.result _ _ c.from_residual-in_err-closed-in-Ended.ensures.1;
  put = λ groups at found b u.
      let had = groups ++ cut u.put.records in
      let p = (subst (λ (x : Piece). HasTakenPiece b.first.lsn u.way.messages c.in-Some.bytes c.args.work.now c.take_message.new.work x) c.in-Ended.is (c.in_ok-take_message-in-Some.ensures.taken b.first.lsn u.way.messages u.way.ahead u.way.is.is.is)) in
      let commit = commit_by c.in-Ended.ended (changes_so_far c.args.work.now.offset.infos u.way.messages) in
      let d = delivers_now b.first.lsn u.way.messages c.in-Some.bytes c.args.work.now c.take_message.new.work c.in-Ended.ended p g.K.Sink u.way.ahead.start u.way.ahead.put c.deliver_commit.new.work c.args.sink.now c.deliver_commit.new.sink (record c.args.report.now { messages = c.args.report.now.messages + 1 }) c.deliver_commit.new.report _ (c.in_err-closed-in-Ended.ensures.delivers u.way.messages u.way.ahead.start u.way.ahead.put (taken_open p.taken u.way.ahead.is) (begun_now b.first.lsn u.way.messages c.in-Some.bytes c.args.work.now c.take_message.new.work c.in-Ended.ended p)) in
      let held = subst (g.K.Sink.holds c.args.sink.now) (sym (append_assoc groups (cut u.put.records) (cut u.way.ahead.put))) u.put.held in
      residual_of c.from_residual-in_err-closed-in-Ended.result _ (HasHaltedPut g.S.Source g.K.Sink groups at b.config b.now b.held c.args.store.now.offset c.deliver_commit.new.report c.read.new.self c.deliver_commit.new.sink) c.from_residual-in_err-closed-in-Ended.ensures.1
      (follow_puts g.S.Source g.K.Sink groups at found b c.args.store.now.offset c.args.src.now c.read.new.self c.args.sink.now c.deliver_commit.new.sink c.args.work.now c.take_message.new.work c.args.report.now c.deliver_commit.new.report u c.in-Some.bytes commit _ p.taken (few_taken (length u.way.messages) c.args.report.now.messages u.way.is.is.many c.requires.messages) c.requires.time
      (part_whole b.first.lsn u.way.messages c.in-Some.bytes c.args.work.now c.take_message.new.work u.way.ahead.start u.way.ahead.put u.way.ahead.is u.way.is.is.is.accepted commit p.taken) c.in_err-closed-in-Ended.field-0.0
      (λ left may. d.left had left held may) (g.met.K.Sink.may c.deliver_commit.new.sink)
      (λ other. d.kept had held (λ is. let same : c.in_err-closed-in-Ended.field-0.0 ≡ halt.Sink = cc in other same))
      (λ is. d.torn had held (ap (λ (k : Halt). Err k) is))
      (torn_counts _ _ c.args.report.now c.deliver_commit.new.report d.noted) (λ is. d.no_clash (ap (λ (k : Halt). Err k) is)) (λ is. d.listed (ap (λ (k : Halt). Err k) is)) (some_read _ _ _ _ c.in-Some.is c.in_ok-bytes.ensures.taken) (λ s is. some_read _ _ _ _ c.in-Some.is (c.in_ok-bytes.ensures.took s is)) (g.met.S.Source.one c.read.new.self) d.causes);
}

pub returns-in-Some-clause-puts : goal.returns-in-Some-clause-puts
returns-in-Some-clause-puts g c = record {
  putting = λ groups at found b u.
      let had = groups ++ cut u.put.records in
      let p = (subst (λ (x : Piece). HasTakenPiece b.first.lsn u.way.messages c.in-Some.bytes c.args.work.now c.take_message.new.work x) c.in-Ended.is (c.in_ok-take_message-in-Some.ensures.taken b.first.lsn u.way.messages u.way.ahead u.way.is.is.is)) in
      let commit = commit_by c.in-Ended.ended (changes_so_far c.args.work.now.offset.infos u.way.messages) in
      let d = delivers_now b.first.lsn u.way.messages c.in-Some.bytes c.args.work.now c.take_message.new.work c.in-Ended.ended p g.K.Sink u.way.ahead.start u.way.ahead.put c.deliver_commit.new.work c.args.sink.now c.deliver_commit.new.sink (record c.args.report.now { messages = c.args.report.now.messages + 1 }) c.deliver_commit.new.report _ (c.in_ok-closed-in-Ended.ensures.delivers u.way.messages u.way.ahead.start u.way.ahead.put (taken_open p.taken u.way.ahead.is) (begun_now b.first.lsn u.way.messages c.in-Some.bytes c.args.work.now c.take_message.new.work c.in-Ended.ended p)) in
      let held = subst (g.K.Sink.holds c.args.sink.now) (sym (append_assoc groups (cut u.put.records) (cut u.way.ahead.put))) u.put.held in
      let few = few_taken (length u.way.messages) c.args.report.now.messages u.way.is.is.many c.requires.messages in
      let whole = part_whole b.first.lsn u.way.messages c.in-Some.bytes c.args.work.now c.take_message.new.work u.way.ahead.start u.way.ahead.put u.way.ahead.is u.way.is.is.is.accepted commit p.taken in
      let apart = part_apart b.first.lsn u.way.messages c.in-Some.bytes c.args.work.now c.take_message.new.work u.way.ahead.start u.way.ahead.put u.way.ahead.is u.way.is.is.is.accepted commit p.taken in
      puts_due g.S.Source g.K.Sink groups at found b c.args.store.now.offset c.deliver_commit.new.work c.deliver_commit.new.report c.read.new.self c.deliver_commit.new.sink c.is_due.result
      (λ due. commits_put g.S.Source g.K.Sink groups at found b c.args.store.now.offset c.args.src.now c.read.new.self c.args.sink.now c.args.work.now c.take_message.new.work c.deliver_commit.new.work c.args.report.now c.deliver_commit.new.report u c.deliver_commit.new.sink c.in-Some.bytes commit _ p.taken d.stepped d.long c.requires.number few c.requires.time whole apart d.noted (d.put_all had held) (some_read _ _ _ _ c.in-Some.is c.in_ok-bytes.ensures.taken) (λ s is. some_read _ _ _ _ c.in-Some.is (c.in_ok-bytes.ensures.took s is)))
      (λ due. commits_put_at_rest g.S.Source g.K.Sink groups at found b c.args.store.now.offset c.args.src.now c.read.new.self c.args.sink.now c.args.work.now c.take_message.new.work c.deliver_commit.new.work c.args.report.now c.deliver_commit.new.report u c.deliver_commit.new.sink c.in-Some.bytes commit _ p.taken d.stepped d.long c.requires.number few c.requires.time whole apart d.noted (d.put_all had held) (some_read _ _ _ _ c.in-Some.is c.in_ok-bytes.ensures.taken) (λ s is. some_read _ _ _ _ c.in-Some.is (c.in_ok-bytes.ensures.took s is)) (sym d.closed ∙ (c.is_due.ensures.open due).0));
  put = λ groups at found b x. tt;
}

pub returns-in-Changed-clause-puts : goal.returns-in-Changed-clause-puts
returns-in-Changed-clause-puts g c = record {
  putting = λ groups at found b u.
      let p = (subst (λ (x : Piece). HasTakenPiece b.first.lsn u.way.messages c.in-Some.bytes c.args.work.now c.take_message.new.work x) c.in-Changed.is (c.in_ok-take_message-in-Some.ensures.taken b.first.lsn u.way.messages u.way.ahead u.way.is.is.is)) in
      let d = c.in_ok-deliver_changes-in-Changed.ensures.delivers b.first.lsn p.taken.message u.way.messages u.way.ahead.start u.way.ahead.put (stated_now b.first.lsn u.way.messages c.in-Some.bytes c.args.work.now c.take_message.new.work c.in-Changed.changes p) (taken_open p.taken u.way.ahead.is) in
      changes_put_more g.S.Source g.K.Sink groups at found b c.args.store.now.offset c.args.src.now c.read.new.self c.args.sink.now c.args.work.now c.take_message.new.work c.deliver_changes.new.work c.args.report.now c.deliver_changes.new.report u c.deliver_changes.new.sink c.in-Some.bytes p.taken (ap (λ (x : SessionState). resting u.way.ahead.start x) c.deliver_changes.ensures.same) d.next
      (part_so_far b.first.lsn u.way.messages c.in-Some.bytes c.args.work.now c.take_message.new.work c.in-Changed.changes p g.K.Sink u.way.ahead.start u.way.ahead.put c.deliver_changes.new.work c.args.sink.now c.deliver_changes.new.sink (record c.args.report.now { messages = c.args.report.now.messages + 1 }) c.deliver_changes.new.report _ (by_offset b.first.lsn u.way.messages c.in-Some.bytes c.args.work.now c.take_message.new.work c.in-Changed.changes p g.K.Sink u.way.ahead.start u.way.ahead.put c.deliver_changes.new.work c.args.sink.now c.deliver_changes.new.sink (record c.args.report.now { messages = c.args.report.now.messages + 1 }) c.deliver_changes.new.report _ u.way.is.is.is d))
      (few_more (length u.way.messages) c.args.report.now.messages u.way.is.is.many c.requires.messages) c.requires.time (some_read _ _ _ _ c.in-Some.is c.in_ok-bytes.ensures.taken) (λ s is. some_read _ _ _ _ c.in-Some.is (c.in_ok-bytes.ensures.took s is));
  put = λ groups at found b x. tt;
}

pub returns-in-Nothing-clause-puts : goal.returns-in-Nothing-clause-puts
returns-in-Nothing-clause-puts g c = record {
  putting = λ groups at found b u.
      let p = (subst (λ (x : Piece). HasTakenPiece b.first.lsn u.way.messages c.in-Some.bytes c.args.work.now c.take_message.new.work x) c.in-Nothing.is (c.in_ok-take_message-in-Some.ensures.taken b.first.lsn u.way.messages u.way.ahead u.way.is.is.is)) in
      messages_put_nothing g.S.Source g.K.Sink groups at found b c.args.store.now.offset c.args.src.now c.read.new.self c.args.sink.now c.args.work.now c.take_message.new.work c.args.report.now (record c.args.report.now { messages = c.args.report.now.messages + 1 }) u c.in-Some.bytes p.taken
      (record { start = u.way.ahead.start; put = u.way.ahead.put; is = nothing_open b.first.lsn u.way.messages c.in-Some.bytes c.args.work.now c.take_message.new.work u.way.is.is.is.accepted p u.way.ahead.start u.way.ahead.put u.way.ahead.is }) refl refl
      (nothing_sent b.first.lsn u.way.messages c.in-Some.bytes u.way.ahead.start c.args.work.now c.take_message.new.work u.way.is.is.is.accepted p u.way.is.is.so_far) refl (some_read _ _ _ _ c.in-Some.is c.in_ok-bytes.ensures.taken) (λ s is. some_read _ _ _ _ c.in-Some.is (c.in_ok-bytes.ensures.took s is));
  put = λ groups at found b x. tt;
}

pub returns-clause-puts : goal.returns-clause-puts
returns-clause-puts g c = record {
  putting = λ groups at found b u.
      rests_putting g.S.Source g.K.Sink groups at found b c.args.store.now.offset c.args.src.now c.read.new.self c.args.sink.now c.args.work.now c.args.report.now u (none_read _ _ _ c.in-None.is c.in_ok-bytes.ensures.taken)
      (λ s is. let t = none_read _ _ _ c.in-None.is (c.in_ok-bytes.ensures.took s is) in record { standing = t.standing; is = t.is; holds = t.holds.0.reading });
  put = λ groups at found b x. tt;
}

-- ---- whose fault it is, and what no call undoes

pub returns-in_err-bytes-clause-source : goal.returns-in_err-bytes-clause-source
returns-in_err-bytes-clause-source g c = record {
  live = no_ok c.from_residual.result _ _ c.from_residual.ensures.1;
  honest = c.read.ensures.honest;
  comes = c.read.ensures.comes;
  cause = record { later = c.read.ensures.cause.later; cause = λ is. c.read.ensures.cause.cause (residual_source c.from_residual.result c.read.result _ c.in_err-bytes.was c.from_residual.ensures.1 is) };
}

pub returns-in_err-take_message-in-Some-clause-source : goal.returns-in_err-take_message-in-Some-clause-source
returns-in_err-take_message-in-Some-clause-source g c = record {
  live = no_ok c.from_residual-in_err-take_message-in-Some.result _ _ c.from_residual-in_err-take_message-in-Some.ensures.1;
  honest = c.read.ensures.honest;
  comes = c.read.ensures.comes;
  cause = record { later = c.read.ensures.cause.later; cause = λ is. absurd (err_at c.from_residual-in_err-take_message-in-Some.result _ OfNone (residual_of c.from_residual-in_err-take_message-in-Some.result _ OfNone c.from_residual-in_err-take_message-in-Some.ensures.1 (taken_of _ c.requires.ready.after c.requires.ready.messages c.in-Some.bytes c.args.work.now _ (c.in_err-take_message-in-Some.ensures.halt c.requires.ready.after c.requires.ready.messages c.requires.ready.ahead c.requires.ready.is))) is) };
}

pub returns-in_err-deliver_changes-in-Changed-clause-source : goal.returns-in_err-deliver_changes-in-Changed-clause-source
returns-in_err-deliver_changes-in-Changed-clause-source g c =
    let p = (subst (λ (x : Piece). HasTakenPiece c.requires.ready.after c.requires.ready.messages c.in-Some.bytes c.args.work.now c.take_message.new.work x) c.in-Changed.is (c.in_ok-take_message-in-Some.ensures.taken c.requires.ready.after c.requires.ready.messages c.requires.ready.ahead c.requires.ready.is)) in
    let d = c.in_err-deliver_changes-in-Changed.ensures.delivers c.requires.ready.after p.taken.message c.requires.ready.messages c.requires.ready.ahead.start c.requires.ready.ahead.put (stated_now c.requires.ready.after c.requires.ready.messages c.in-Some.bytes c.args.work.now c.take_message.new.work c.in-Changed.changes p) (taken_open p.taken c.requires.ready.ahead.is) in
    record {
      live = no_ok c.from_residual-in_err-deliver_changes-in-Changed.result _ _ c.from_residual-in_err-deliver_changes-in-Changed.ensures.1;
      honest = c.read.ensures.honest;
      comes = c.read.ensures.comes;
      cause = record { later = c.read.ensures.cause.later; cause = λ is. absurd (err_at c.from_residual-in_err-deliver_changes-in-Changed.result _ OfSink (residual_of c.from_residual-in_err-deliver_changes-in-Changed.result _ OfSink c.from_residual-in_err-deliver_changes-in-Changed.ensures.1 (open_of _ _ _ d.causes)) is) };
    }

pub returns-in_err-closed-in-Ended-clause-source : goal.returns-in_err-closed-in-Ended-clause-source
returns-in_err-closed-in-Ended-clause-source g c =
    let p = (subst (λ (x : Piece). HasTakenPiece c.requires.ready.after c.requires.ready.messages c.in-Some.bytes c.args.work.now c.take_message.new.work x) c.in-Ended.is (c.in_ok-take_message-in-Some.ensures.taken c.requires.ready.after c.requires.ready.messages c.requires.ready.ahead c.requires.ready.is)) in
    let d = c.in_err-closed-in-Ended.ensures.delivers c.requires.ready.messages c.requires.ready.ahead.start c.requires.ready.ahead.put (taken_open p.taken c.requires.ready.ahead.is) (begun_now c.requires.ready.after c.requires.ready.messages c.in-Some.bytes c.args.work.now c.take_message.new.work c.in-Ended.ended p) in
    record {
      live = no_ok c.from_residual-in_err-closed-in-Ended.result _ _ c.from_residual-in_err-closed-in-Ended.ensures.1;
      honest = c.read.ensures.honest;
      comes = c.read.ensures.comes;
      cause = record { later = c.read.ensures.cause.later; cause = λ is. absurd (err_at c.from_residual-in_err-closed-in-Ended.result _ OfSink (residual_of c.from_residual-in_err-closed-in-Ended.result _ OfSink c.from_residual-in_err-closed-in-Ended.ensures.1 (follow_of _ _ _ d.causes)) is) };
    }

pub returns-in-Some-clause-source : goal.returns-in-Some-clause-source
returns-in-Some-clause-source g c = record {
  live = c.in_ok-bytes.ensures.live;
  honest = c.read.ensures.honest;
  comes = c.read.ensures.comes;
  cause = record { later = c.read.ensures.cause.later; cause = λ is. absurd (not_both _ _ _ is refl) };
}

pub returns-in-Changed-clause-source : goal.returns-in-Changed-clause-source
returns-in-Changed-clause-source g c = record {
  live = c.in_ok-bytes.ensures.live;
  honest = c.read.ensures.honest;
  comes = c.read.ensures.comes;
  cause = record { later = c.read.ensures.cause.later; cause = λ is. absurd (not_both _ _ _ is refl) };
}

pub returns-in-Nothing-clause-source : goal.returns-in-Nothing-clause-source
returns-in-Nothing-clause-source g c = record {
  live = c.in_ok-bytes.ensures.live;
  honest = c.read.ensures.honest;
  comes = c.read.ensures.comes;
  cause = record { later = c.read.ensures.cause.later; cause = λ is. absurd (not_both _ _ _ is refl) };
}

pub returns-clause-source : goal.returns-clause-source
returns-clause-source g c = record {
  live = c.in_ok-bytes.ensures.live;
  honest = c.read.ensures.honest;
  comes = c.read.ensures.comes;
  cause = record { later = c.read.ensures.cause.later; cause = λ is. absurd (not_both _ _ _ is refl) };
}

pub returns-in_err-bytes-clause-sink : goal.returns-in_err-bytes-clause-sink
returns-in_err-bytes-clause-sink g c = record {
  live = no_ok c.from_residual.result _ _ c.from_residual.ensures.1;
  comes = g.met.K.Sink.comes_self _;
  cause = record { later = le_refl _; cause = λ is. absurd (err_at c.from_residual.result _ OfSource (residual_of c.from_residual.result _ OfSource c.from_residual.ensures.1 (source_of c.in_err-bytes.field-0.0)) is) };
}

pub returns-in_err-take_message-in-Some-clause-sink : goal.returns-in_err-take_message-in-Some-clause-sink
returns-in_err-take_message-in-Some-clause-sink g c = record {
  live = no_ok c.from_residual-in_err-take_message-in-Some.result _ _ c.from_residual-in_err-take_message-in-Some.ensures.1;
  comes = g.met.K.Sink.comes_self _;
  cause = record { later = le_refl _; cause = λ is. absurd (err_at c.from_residual-in_err-take_message-in-Some.result _ OfNone (residual_of c.from_residual-in_err-take_message-in-Some.result _ OfNone c.from_residual-in_err-take_message-in-Some.ensures.1 (taken_of _ c.requires.ready.after c.requires.ready.messages c.in-Some.bytes c.args.work.now _ (c.in_err-take_message-in-Some.ensures.halt c.requires.ready.after c.requires.ready.messages c.requires.ready.ahead c.requires.ready.is))) is) };
}

pub returns-in_err-deliver_changes-in-Changed-clause-sink : goal.returns-in_err-deliver_changes-in-Changed-clause-sink
returns-in_err-deliver_changes-in-Changed-clause-sink g c = record {
  live = no_ok c.from_residual-in_err-deliver_changes-in-Changed.result _ _ c.from_residual-in_err-deliver_changes-in-Changed.ensures.1;
  comes = c.deliver_changes.ensures.device.comes;
  cause = record { later = c.deliver_changes.ensures.device.cause.later; cause = λ is. c.deliver_changes.ensures.device.cause.cause (residual_is c.from_residual-in_err-deliver_changes-in-Changed.result c.deliver_changes.result _ _ c.in_err-deliver_changes-in-Changed.was c.from_residual-in_err-deliver_changes-in-Changed.ensures.1 is) };
}

pub returns-in_err-closed-in-Ended-clause-sink : goal.returns-in_err-closed-in-Ended-clause-sink
returns-in_err-closed-in-Ended-clause-sink g c = record {
  live = no_ok c.from_residual-in_err-closed-in-Ended.result _ _ c.from_residual-in_err-closed-in-Ended.ensures.1;
  comes = c.deliver_commit.ensures.device.comes;
  cause = record { later = c.deliver_commit.ensures.device.cause.later; cause = λ is. c.deliver_commit.ensures.device.cause.cause (residual_is c.from_residual-in_err-closed-in-Ended.result c.deliver_commit.result _ _ c.in_err-closed-in-Ended.was c.from_residual-in_err-closed-in-Ended.ensures.1 is) };
}

pub returns-in-Some-clause-sink : goal.returns-in-Some-clause-sink
returns-in-Some-clause-sink g c = record {
  live = c.in_ok-closed-in-Ended.ensures.device.live;
  comes = c.deliver_commit.ensures.device.comes;
  cause = record { later = c.deliver_commit.ensures.device.cause.later; cause = λ is. absurd (not_both _ _ _ is refl) };
}

pub returns-in-Changed-clause-sink : goal.returns-in-Changed-clause-sink
returns-in-Changed-clause-sink g c = record {
  live = c.in_ok-deliver_changes-in-Changed.ensures.device.live;
  comes = c.deliver_changes.ensures.device.comes;
  cause = record { later = c.deliver_changes.ensures.device.cause.later; cause = λ is. absurd (not_both _ _ _ is refl) };
}

pub returns-in-Nothing-clause-sink : goal.returns-in-Nothing-clause-sink
returns-in-Nothing-clause-sink g c = record {
  live = c.requires.sink_live;
  comes = g.met.K.Sink.comes_self _;
  cause = record { later = le_refl _; cause = λ is. absurd (not_both _ _ _ is refl) };
}

pub returns-clause-sink : goal.returns-clause-sink
returns-clause-sink g c = record {
  live = c.requires.sink_live;
  comes = g.met.K.Sink.comes_self _;
  cause = record { later = le_refl _; cause = λ is. absurd (not_both _ _ _ is refl) };
}
