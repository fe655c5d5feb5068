use mir.Syntax.{w64}
use mir.Val.{SFits}
use Rattle.std.proofs.Common.{◌≡◌, ℤ, refl, rules, subst}
use Rattle.dbl_lines.specs.declared.status.Status.TheVariants.{Done}
use Rattle.std.proofs.Math.Facts.{to_z-of_z}
use Rattle.dblog_init.specs.declared.error.Store.TheVariants.{Wal, Topics, Offsets}
use Rattle.dblog_connect.specs.Asked.{asks_in}
use Rattle.dblog_connect.specs.Ends.{AreSteady, IsCompleteEnd}
use Rattle.dblog_capture.specs.Runs.{AnswersCapture, AnswersKept}
use Rattle.dblog_capture.proofs.SessionLemmas.{complete_end, exceeds_of, failed_cause, kinds_of, normal_end, promised_less, refused_end, session_known, session_no_input}
use Rattle.dblog_capture.proofs.sessions.run_session.Goals as goal

pub returns-clause-connected : goal.returns-clause-connected
returns-clause-connected g c =
    let connected = c.connect-connected.result in
    let told = c.connect-connected.ensures in
    let end = connected.end in
    let kinds = kinds_of c.args.asked end told.kinds in
    let status = c.finish_session.result in
    let says = c.finish_session.ensures.says in
    let fits : SFits w64 c.args.now_ms.now = search rules in
    let moment = to_z-of_z fits in
    let wals = g.W.Disk.may_leave c.args.disks.wal in
    let logs = g.T.Disk.may_leave c.args.disks.topics in
    let new_wals = g.W.Disk.may_leave connected.disks.wal in
    let new_logs = g.T.Disk.may_leave connected.disks.topics in
    let new_stores = g.F.Disk.may_leave connected.disks.offsets in
    record {
      headline = λ kept w t f may_w may_t may_f.
          promised_less (IsCompleteEnd end) (status ≡ Done) (asks_in c.args.asked) (asks_in c.args.asked) _ _ _ w t f (complete_end end kinds status _ _ says) (λ held. refl) (told.headline kept w t f may_w may_t may_f);
      kept = told.kept;
      runs = record {
        end = end;
        says = says;
        answers = λ w t f wal topics offsets.
            subst (λ (n : ℤ). AnswersCapture c.args.asked n wals logs new_wals new_logs new_stores w t f end) moment
            (record { told = told.told w t f wal topics offsets; refuses = told.refuses w t f wal topics offsets; gains = told.gains w t f wal topics offsets; marks = told.marks w t f wal topics offsets });
        kept = λ kept w t f wal topics offsets.
            subst (λ (n : ℤ). AnswersKept c.args.asked n new_wals new_logs new_stores w t f end) moment
            (record { report = told.report kept w t f wal topics offsets; never = told.never kept w t f wal topics offsets });
        wal_wrong = told.wal_wrong;
        refused = refused_end g.W.Disk g.T.Disk g.F.Disk c.args.disks connected.disks end told.wal_read told.topics_read told.offsets_read;
        spent = told.spent;
        kinds = kinds;
        exceeds = exceeds_of c.args.asked end told.kinds;
      };
      wal_failed = failed_cause g.W.Disk Wal end _ _ kinds status _ _ says told.wal_counts;
      topics_failed = failed_cause g.T.Disk Topics end _ _ kinds status _ _ says told.topics_count;
      offsets_failed = failed_cause g.F.Disk Offsets end _ _ kinds status _ _ says told.offsets_count;
      steady = λ normal. normal_end {P = AreSteady g.W.Disk g.T.Disk g.F.Disk c.args.disks connected.disks} end kinds status _ _ says told.steady normal;
      wal_bounded = told.wal_bounded;
      topics_bounded = told.topics_bounded;
      offsets_bounded = told.offsets_bounded;
    }

pub returns-clause-known : goal.returns-clause-known
returns-clause-known g c = session_known c.connect-connected.result.end (kinds_of c.args.asked _ c.connect-connected.ensures.kinds) c.finish_session.result _ _ c.finish_session.ensures.says

pub returns-clause-not_input : goal.returns-clause-not_input
returns-clause-not_input g c =
    session_no_input c.finish_session.result (session_known c.connect-connected.result.end (kinds_of c.args.asked _ c.connect-connected.ensures.kinds) c.finish_session.result _ _ c.finish_session.ensures.says)
