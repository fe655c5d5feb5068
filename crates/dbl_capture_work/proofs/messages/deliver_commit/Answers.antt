use Rattle.std.proofs.Common.{◌≡◌, ◌∙◌, ◌+◌, [], ◌++◌, refl, sym, ap, arith, rules, of_z, to_z, w64}
use Rattle.std.specs.Prelude.{IsSome}
use Rattle.std.proofs.Math.Facts.{to_z-of_z}
use Rattle.std.proofs.lemmas.Result.{err_from_is_err_and}
use Rattle.dbl_model_table.specs.Heads.{commit_by}
use Rattle.dbl_model_commit.specs.Past.{begin_of}
use Rattle.dbl_model_commit.specs.Pieces.{changes_so_far}
use Rattle.dbl_follow.specs.Steps.{clash_by}
use Rattle.dbl_follow.proofs.AmidLemmas.{amid_rests, heads_fit}
use Rattle.dbl_capture_work.specs.declared.report.Report.{Report}
use Rattle.dbl_capture_work.specs.Groups.{records_in}
use Rattle.dbl_capture_work.specs.Halts.{follow_halt}
use Rattle.dbl_capture_work.specs.Works.{head_in}
use Rattle.dbl_capture_work.proofs.CommitSteps.{done_commit, ended_amid, marked_by, marked_closes, no_part_open, refuses_commit, rest_lasts, stops_commit, unmarked_closes, unmarked_so}
use Rattle.dbl_capture_work.proofs.Exits.{same_error}
use Rattle.dbl_capture_work.proofs.Following.{clash_kinds, follow_not_long, follow_not_sink}
use Rattle.dbl_capture_work.proofs.messages.deliver_commit.Goals as goal
use Rattle.dbl_capture_work.proofs.messages.deliver_commit.Goals.{then-snapshot, else-snapshot}

pub end-requires-clause-head : goal.end-requires-clause-head
end-requires-clause-head g c =
    let work = c.args.work.now in
    let ended = c.args.ended.now in
    let e = c.requires.ends in
    heads_fit e.ahead.start work.follower ended.head (changes_so_far work.offset.infos e.messages) work.now_ms (e.ahead.put ++ records_in work.batch)
    (ended_amid ended e.messages e.ahead.start e.ahead.put work e.ahead.is e.begun)

pub end-requires-clause-mark : goal.end-requires-clause-mark
end-requires-clause-mark g c part =
    let work = c.args.work.now in
    let ended = c.args.ended.now in
    let e = c.requires.ends in
    unmarked_so ended.mark e.ahead.start work.follower ended.head (changes_so_far work.offset.infos e.messages) work.now_ms (e.ahead.put ++ records_in work.batch) e.bare
    (ended_amid ended e.messages e.ahead.start e.ahead.put work e.ahead.is e.begun) part

pub put_all-requires-clause-gathered : goal.put_all-requires-clause-gathered
put_all-requires-clause-gathered g c = c.requires.ends.ahead.is.gathered

-- ---- the follower refused the end

pub returns-in_err-records-clause-delivers : goal.returns-in_err-records-clause-delivers
returns-in_err-records-clause-delivers g c ms start put amid begun =
    let work = c.args.work.now in
    let ended = c.args.ended.now in
    let p = err_from_is_err_and c.from_residual.result c.from_residual.ensures.1 in
    let e = c.in_err-records.field-0.0 in
    let changes = changes_so_far work.offset.infos ms in
    let refused = c.in_err-records.ensures.err start changes work.now_ms (put ++ records_in work.batch) (ended_amid ended ms start put work amid begun) in
    rw (p.1, p.2) (refuses_commit g.K.Sink ended ms start put work _ c.args.sink.now c.args.report.now (follow_halt e) amid (g.met.K.Sink.only c.args.sink.now) (g.met.K.Sink.may c.args.sink.now)
    (follow_not_sink e) (follow_not_long e) (omega arith) (omega arith) (omega arith) (clash_kinds (clash_by start (commit_by ended changes)) e refused))

pub returns-in_err-records-clause-device : goal.returns-in_err-records-clause-device
returns-in_err-records-clause-device g c = record {
  live = (let p = err_from_is_err_and c.from_residual.result c.from_residual.ensures.1 in rw p.1 tt);
  comes = g.met.K.Sink.comes_self _;
  cause = record { later = omega arith; cause = λ is. let p = err_from_is_err_and c.from_residual.result c.from_residual.ensures.1 in absurd (follow_not_sink c.in_err-records.field-0.0 (sym p.2 ∙ same_error _ _ _ p.1 is)) };
}

-- ---- the appending failed

pub returns-in_err-put_all-clause-delivers : goal.returns-in_err-put_all-clause-delivers
returns-in_err-put_all-clause-delivers g c ms start put amid begun =
    let work = c.args.work.now in
    let ended = c.args.ended.now in
    let p = err_from_is_err_and c.from_residual-in_err-put_all.result c.from_residual-in_err-put_all.ensures.1 in
    let changes = changes_so_far work.offset.infos ms in
    let time : to_z w64 (of_z w64 work.now_ms) ≡ work.now_ms = to_z-of_z {w = w64} {z = work.now_ms} (search rules) in
    let ends = c.in_ok-records.ensures.ends start changes work.now_ms (put ++ records_in work.batch) (ended_amid ended ms start put work amid begun) (λ none. sym time) in
    rw (p.1, p.2) (stops_commit g.K.Sink ended ms start put c.in_ok-records.records.items work _ c.args.sink.now c.put_all.new.sink c.args.report.now c.put_all.new.report c.is_some-snapshot.result
    amid ends (c.is_some-snapshot.ensures ∙ sym (marked_by ended changes)) c.in_err-put_all.field-0.0 c.in_err-put_all.ensures.puts)

-- ---- all were appended

pub overflow_add-report : goal.overflow_add-report
overflow_add-report g c =
    let work = c.args.work.now in
    let ended = c.args.ended.now in
    let e = c.requires.ends in
    let changes = changes_so_far work.offset.infos e.messages in
    let time : to_z w64 (of_z w64 work.now_ms) ≡ work.now_ms = to_z-of_z {w = w64} {z = work.now_ms} (search rules) in
    let ends = c.in_ok-records.ensures.ends e.ahead.start changes work.now_ms (e.ahead.put ++ records_in work.batch) (ended_amid ended e.messages e.ahead.start e.ahead.put work e.ahead.is e.begun) (λ none. sym time) in
    let lasts = rest_lasts g.K.Sink ended e.messages e.ahead.start e.ahead.put c.in_ok-records.records.items work (record work { follower = c.end.new.self }) c.args.sink.now c.put_all.new.sink c.args.report.now c.put_all.new.report c.is_some-snapshot.result
    e.ahead.is ends (c.is_some-snapshot.ensures ∙ sym (marked_by ended changes)) in
    let same : c.put_all.new.report.commits ≡ c.args.report.now.commits = ap (λ (r : Report). r.commits) (c.in_ok-put_all.ensures.puts.whole lasts) in
    omega (arith, same, c.requires.commits)

pub returns-clause-delivers : goal.returns-clause-delivers
returns-clause-delivers g c ms start put amid begun =
    let work = c.args.work.now in
    let ended = c.args.ended.now in
    let e = c.requires.ends in
    let changes = changes_so_far work.offset.infos ms in
    let time : to_z w64 (of_z w64 work.now_ms) ≡ work.now_ms = to_z-of_z {w = w64} {z = work.now_ms} (search rules) in
    let ends = c.in_ok-records.ensures.ends start changes work.now_ms (put ++ records_in work.batch) (ended_amid ended ms start put work amid begun) (λ none. sym time) in
    let records = c.in_ok-records.records.items in
    let snapshot_is = c.is_some-snapshot.ensures ∙ sym (marked_by ended changes) in
    let bare : IsSome ended.mark → changes ≡ [] =
    λ some. (amid_rests start work.follower (head_in (begin_of ms)) changes work.now_ms (put ++ records_in work.batch) amid.amid
    (no_part_open e.ahead.start work.follower (head_in (begin_of e.messages)) (changes_so_far work.offset.infos e.messages) work.now_ms (e.ahead.put ++ records_in work.batch) (e.bare some) e.ahead.is.amid)).unchanged in
    done_commit g.K.Sink ended ms start put records work _ c.args.sink.now c.put_all.new.sink c.args.report.now c.put_all.new.report c.is_some-snapshot.result amid ends snapshot_is
    c.in_ok-put_all.field-0 c.if-snapshot.closed _ c.in_ok-put_all.ensures.puts
    (ap (λ (b : _). record work { offset = record work.offset { lsn = ended.head.lsn; end_lsn = ended.end_lsn }; follower = c.end.new.self; since = work.since + 1; batch = b }) c.in_ok-put_all.ensures.none)
    (elim c.if-snapshot.branch [
      | then-snapshot w ↦
          marked_closes g.K.Sink ended ms start put records work (record work { follower = c.end.new.self }) c.args.sink.now c.put_all.new.sink c.args.report.now c.put_all.new.report c.is_some-snapshot.result amid ends snapshot_is
          bare c.if-snapshot.closed w.is_empty.result c.in_ok-records.records.len w.if-snapshot.true w.closed-is w.is_empty.ensures c.in_ok-records.records.ok.0
      | else-snapshot w ↦
          unmarked_closes g.K.Sink ended ms start put records work (record work { follower = c.end.new.self }) c.args.sink.now c.put_all.new.sink c.args.report.now c.put_all.new.report c.is_some-snapshot.result amid ends snapshot_is
          c.if-snapshot.closed w.if-snapshot.false (w.closed-is ∙ w.if-snapshot.false)
    ]) refl
