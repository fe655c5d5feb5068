use Rattle.std.proofs.Common.{◌≡◌, ◌∙◌, false, ◌∷◌, ◌++◌, refl, sym, ap, subst, arith, rules, Option}
use Rattle.std.specs.Prelude.{Err, IfSome, OnOk}
use Rattle.std.proofs.lemmas.Result.{err_from_is_err_and}
use Rattle.dbl_model_commit.specs.Past.{begin_of}
use Rattle.dbl_model_commit.specs.Pieces.{changes_so_far}
use Rattle.dbl_capture_work.specs.declared.groups.Gathered.{Gathered}
use Rattle.dbl_capture_work.specs.declared.halt.Halt.{Halt}
use Rattle.dbl_capture_work.specs.declared.work.SessionState.{SessionState}
use Rattle.dbl_capture_work.specs.Causes.{HaltsAppending}
use Rattle.dbl_capture_work.specs.Groups.{AppendsMore, IsGathered, LeavesRecords, records_in}
use Rattle.dbl_capture_work.specs.Works.{head_in, open_commit}
use Rattle.dbl_capture_work.proofs.Exits.{same_error}
use Rattle.dbl_capture_work.proofs.OpenSteps.{delivers_open, follows_from, only_records, refuses_open, refused_not_sink, released_rest}
use Rattle.dbl_capture_work.proofs.messages.deliver_changes.Goals as goal

pub append_records-requires-clause-gathered : goal.append_records-requires-clause-gathered
append_records-requires-clause-gathered g c =
    subst (λ (b : Option Gathered). IfSome b IsGathered) (sym (ap (λ (w : SessionState). w.batch) c.follow_changes.ensures.same)) c.requires.states.ahead.is.gathered

-- ---- the follower refused a change, or memory ran out before

pub returns-in_err-records-clause-delivers : goal.returns-in_err-records-clause-delivers
returns-in_err-records-clause-delivers g c after m ms start put stated amid =
    let work = c.args.work.now in
    let p = err_from_is_err_and c.from_residual.result c.from_residual.ensures.1 in
    let h = c.in_err-records.field-0.0 in
    let cause = c.in_err-records.ensures.halt after m ms start (put ++ records_in work.batch) stated amid.amid in
    refuses_open g.K.Sink (open_commit work.offset.infos (m ∷ ms)) (m ∷ ms) start put work _ c.args.sink.now c.args.report.now _ h (p.1 ∙ ap (λ (x : Halt). Err x) p.2) (g.met.K.Sink.only c.args.sink.now) (g.met.K.Sink.may c.args.sink.now)
    (refused_not_sink _ h cause) (omega arith) (omega arith) (omega arith) cause

pub returns-in_err-records-clause-same : goal.returns-in_err-records-clause-same
returns-in_err-records-clause-same g c =
    let work = c.args.work.now in
    let same = c.follow_changes.ensures.same in
    same ∙ ap (λ (b : Option Gathered). record work { follower = c.follow_changes.new.work.follower; batch = b }) (sym (ap (λ (w : SessionState). w.batch) same))

pub returns-in_err-records-clause-counts : goal.returns-in_err-records-clause-counts
returns-in_err-records-clause-counts g c = refl

pub returns-in_err-records-clause-device : goal.returns-in_err-records-clause-device
returns-in_err-records-clause-device g c =
    let p = err_from_is_err_and c.from_residual.result c.from_residual.ensures.1 in
    let s = c.requires.states in
    let h = c.in_err-records.field-0.0 in
    let cause = c.in_err-records.ensures.halt s.after s.message s.messages s.ahead.start _ s.is s.ahead.is.amid in
    record {
      live = rw p.1 tt;
      comes = g.met.K.Sink.comes_self _;
      cause = record { later = omega arith; cause = λ is. absurd (refused_not_sink _ h cause (sym p.2 ∙ same_error _ _ _ p.1 is)) };
    }

-- ---- the records were gathered, and the batches that are full appended, or an append failed

pub returns-clause-delivers : goal.returns-clause-delivers
returns-clause-delivers g c after m ms start put stated amid =
    let work = c.args.work.now in
    let followed = c.follow_changes.new.work in
    let same = c.follow_changes.ensures.same in
    let records = c.in_ok-records.records.items in
    let batch_is : followed.batch ≡ work.batch = ap (λ (w : SessionState). w.batch) same in
    let new : SessionState = record followed { batch = c.append_records.new.batch } in
    let report = c.args.report.now in
    let r = c.append_records.result in
    let a = c.append_records in
    delivers_open g.K.Sink m ms start put records work new c.args.sink.now a.new.sink report a.new.report r amid
    (ap (λ (w : SessionState). record w { batch = a.new.batch }) same)
    (follows_from m ms start ((put ++ records_in work.batch) ++ records) work followed same (c.in_ok-records.ensures.follows after m ms start (put ++ records_in work.batch) stated amid.amid)) c.requires.since (search rules)
    (subst (λ (b : Option Gathered). OnOk r (AppendsMore g.K.Sink (records_in b ++ records) a.new.batch false c.args.sink.now a.new.sink report a.new.report)) batch_is a.ensures.appends)
    (subst (λ (b : Option Gathered). LeavesRecords g.K.Sink (records_in b ++ records) false c.args.sink.now a.new.sink report a.new.report r) batch_is a.ensures.leaves)
    (subst (λ (b : Option Gathered). HaltsAppending g.K.Sink (records_in b ++ records) false c.args.sink.now a.new.sink report a.new.report r) batch_is a.ensures.halts)

pub returns-clause-same : goal.returns-clause-same
returns-clause-same g c = ap (λ (w : SessionState). record w { batch = c.append_records.new.batch }) c.follow_changes.ensures.same

pub returns-clause-counts : goal.returns-clause-counts
returns-clause-counts g c =
    let work = c.args.work.now in
    let followed = c.follow_changes.new.work in
    let same = c.follow_changes.ensures.same in
    let records = c.in_ok-records.records.items in
    let s = c.requires.states in
    let batch_is : followed.batch ≡ work.batch = ap (λ (w : SessionState). w.batch) same in
    let follows = follows_from s.message s.messages s.ahead.start ((s.ahead.put ++ records_in work.batch) ++ records) work followed same
    (c.in_ok-records.ensures.follows s.after s.message s.messages s.ahead.start (s.ahead.put ++ records_in work.batch) s.is s.ahead.is.amid) in
    let lasts = released_rest s.ahead.start followed.follower (head_in (begin_of (s.message ∷ s.messages))) (changes_so_far work.offset.infos (s.message ∷ s.messages)) work.now_ms s.ahead.put (records_in work.batch) records follows in
    let leaves = subst (λ (b : Option Gathered). LeavesRecords g.K.Sink (records_in b ++ records) false c.args.sink.now c.append_records.new.sink c.args.report.now c.append_records.new.report c.append_records.result) batch_is c.append_records.ensures.leaves in
    only_records (records_in work.batch ++ records) c.args.report.now c.append_records.new.report (omega arith) (omega arith) (leaves.noted lasts)
