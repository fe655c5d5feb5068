use Rattle.std.proofs.Common.{◌≡◌, ℤ, sym, subst}
use Rattle.std.specs.Prelude.{◌⊎◌}
use Rattle.std.proofs.Math.Facts.{to_z-of_z}
use Rattle.dbl_capture.specs.CaptureLaws.Found.{IsEntryOf}
use Rattle.dbl_capture.specs.SessionEnds.{LeavesStores, AddsMarks, AddsRecords, ReportsByTrace, ReportsByState, TalliesRecords}
use Rattle.dbl_capture.specs.SessionEnds.{HaltsByTrace, HaltsByState, NeverHalts}
use Rattle.dbl_source.specs.SourceModel.Standings.{HasState}
use Rattle.dbl_capture_gated.specs.Passed.{PassesAllowed, RefusesNext}
use Rattle.dbl_capture_gated.proofs.Inner.{halts_inner, keeps_inner, tallies_inner}
use Rattle.dbl_capture_gated.proofs.Passing.{passes, stopped_by, unrefused}
use Rattle.dbl_capture_gated.proofs.Refusing.{first_refused, none_some, refuses_next}
use Rattle.dbl_capture_gated.proofs.gated.gated_session.Goals as goal

pub returns-clause-allowed : goal.returns-clause-allowed
returns-clause-allowed g c groups left held may =
    c.session.ensures.sink.comes.adds groups left (held, unrefused (g.K.Sink.is_live c.args.gate.now.sink) c.args.gate.now.refused c.requires.gate_open) may

pub returns-clause-refused : goal.returns-clause-refused
returns-clause-refused g c place is =
    let first = c.session.ensures.sink.comes.first place (unrefused (g.K.Sink.is_live c.args.gate.now.sink) c.args.gate.now.refused c.requires.gate_open) is in
    (stopped_by g.K.Sink c.session.new.sink.sink c.session.new.sink.refused c.session.result place c.session.ensures.sink.live is, first.0, first.1)

pub returns-clause-passed : goal.returns-clause-passed
returns-clause-passed g c groups left held may s t found leaves =
    subst (λ (now : ℤ). (c.session.new.report.messages ≡ 0) ⊎ PassesAllowed c.args.config.now now c.args.gate.now.rule c.args.offsets.now.offset c.session.new.offsets.offset t)
    (to_z-of_z c.ranges.now_ms)
    (passes g.S.Source _ c.args.config.now _ c.args.gate.now.rule c.args.src.now c.session.new.src c.args.gate.now c.session.new.sink
    c.args.offsets.now c.session.new.offsets c.session.new.report c.session.result
    (λ before after has may_leave. c.session.ensures.sink.comes.adds before after has may_leave)
    (λ after has. g.met.K.Sink.may c.session.new.sink.sink after has.0)
    c.session.ensures.tallies groups left
    (held, unrefused (g.K.Sink.is_live c.args.gate.now.sink) c.args.gate.now.refused c.requires.gate_open) may s t found leaves)

pub returns-clause-next : goal.returns-clause-next
returns-clause-next g c groups held s found place is =
    subst (λ (now : ℤ). HasState g.S.Source.stands c.session.new.src (RefusesNext c.args.config.now now c.args.gate.now.rule c.args.offsets.now.offset c.session.new.offsets.offset place))
    (to_z-of_z c.ranges.now_ms)
    (refuses_next g.S.Source _ c.args.config.now _ c.args.gate.now.rule c.args.src.now c.session.new.src c.args.gate.now c.session.new.sink
    c.args.offsets.now c.session.new.offsets c.session.new.report c.session.result place
    (λ before after has may_leave. c.session.ensures.sink.comes.adds before after has may_leave)
    (λ after has. none_some c.session.new.sink.refused place has.1 is)
    (λ group fails. first_refused g.K.Sink c.session.new.sink.sink c.session.new.sink.refused c.session.new.sink.rule c.args.gate.now.rule place group is
    c.session.ensures.sink.comes.same_rule fails)
    c.session.ensures.tallies c.session.ensures.failed groups
    (held, unrefused (g.K.Sink.is_live c.args.gate.now.sink) c.args.gate.now.refused c.requires.gate_open) s found)

pub returns-clause-faithful : goal.returns-clause-faithful
returns-clause-faithful g c =
    let open_so = unrefused (g.K.Sink.is_live c.args.gate.now.sink) c.args.gate.now.refused c.requires.gate_open in
    subst (λ (now : ℤ). LeavesStores g.S.Source g.K.Sink g.D.Disk c.args.config.now now c.args.src.now c.session.new.src c.args.gate.now.sink
    c.session.new.sink.sink c.args.offsets.now c.session.new.offsets c.session.result) (to_z-of_z c.ranges.now_ms)
    (record {
      faithful = λ entry is found conforming own.
          let left = c.session.ensures.faithful.faithful entry is (record {
            standing = found.standing;
            source_is = found.source_is;
            history = found.history;
            confirmed = found.confirmed;
            sink_is = (found.sink_is, open_so);
            store_is = found.store_is;
          }) conforming own in
          record { follows = left.follows; some_source = left.some_source; some_sink = left.some_sink };
      complete = λ entry is found conforming own ended.
          c.session.ensures.faithful.complete entry is (record {
            standing = found.standing;
            source_is = found.source_is;
            history = found.history;
            confirmed = found.confirmed;
            sink_is = (found.sink_is, open_so);
            store_is = found.store_is;
          }) conforming own ended;
    })

-- ---- the session's other clauses

pub returns-clause-marks : goal.returns-clause-marks
returns-clause-marks g c =
    subst (λ (now : ℤ). AddsMarks g.S.Source c.args.config.now now c.args.src.now c.session.new.src c.args.offsets.now c.session.new.offsets c.session.new.report c.session.result)
    (to_z-of_z c.ranges.now_ms) c.session.ensures.marks

pub returns-clause-gains : goal.returns-clause-gains
returns-clause-gains g c =
    let open_so = unrefused (g.K.Sink.is_live c.args.gate.now.sink) c.args.gate.now.refused c.requires.gate_open in
    subst (λ (now : ℤ). AddsRecords g.K.Sink c.args.config.now now c.args.gate.now.sink c.session.new.sink.sink c.args.offsets.now c.session.new.offsets)
    (to_z-of_z c.ranges.now_ms)
    (record {
      grouped = λ groups left held may. c.session.ensures.gains.grouped groups left (held, open_so) may;
      ungained = λ groups left held may same. c.session.ensures.gains.ungained groups left (held, open_so) may same;
    })

pub returns-clause-by_trace : goal.returns-clause-by_trace
returns-clause-by_trace g c =
    subst (λ (now : ℤ). ReportsByTrace g.S.Source c.args.config.now now c.args.src.now c.session.new.src c.args.offsets.now c.session.new.offsets c.session.new.report c.session.result)
    (to_z-of_z c.ranges.now_ms) c.session.ensures.by_trace

pub returns-clause-by_state : goal.returns-clause-by_state
returns-clause-by_state g c =
    subst (λ (now : ℤ). ReportsByState g.S.Source c.args.config.now now c.args.src.now c.session.new.src c.args.offsets.now c.session.new.offsets c.session.new.report c.session.result)
    (to_z-of_z c.ranges.now_ms) c.session.ensures.by_state

pub returns-clause-tallies : goal.returns-clause-tallies
returns-clause-tallies g c =
    let open_so = unrefused (g.K.Sink.is_live c.args.gate.now.sink) c.args.gate.now.refused c.requires.gate_open in
    subst (λ (now : ℤ). TalliesRecords g.S.Source g.K.Sink c.args.config.now now c.args.src.now c.session.new.src c.args.gate.now.sink c.session.new.sink.sink
    c.args.offsets.now c.session.new.offsets c.session.new.report c.session.result) (to_z-of_z c.ranges.now_ms)
    (tallies_inner _ g.K.Sink c.session.new.sink c.session.new.sink.sink (λ groups has. has.0) (λ left may. may) g.S.Source c.args.config.now _ c.args.src.now c.session.new.src
    c.args.gate.now c.args.gate.now.sink c.args.offsets.now c.session.new.offsets c.session.new.report c.session.result (λ groups has. (has, open_so)) c.session.ensures.tallies)

pub returns-clause-unclosed : goal.returns-clause-unclosed
returns-clause-unclosed g c entry is found conforming faithful t leaves =
    let open_so = unrefused (g.K.Sink.is_live c.args.gate.now.sink) c.args.gate.now.refused c.requires.gate_open in
    c.session.ensures.unclosed entry (subst (λ (now : ℤ). IsEntryOf c.args.config.now now entry) (sym (to_z-of_z c.ranges.now_ms)) is) (record {
      standing = found.standing;
      source_is = found.source_is;
      history = found.history;
      confirmed = found.confirmed;
      sink_is = (found.sink_is, open_so);
      store_is = found.store_is;
    }) conforming faithful t leaves

pub returns-clause-halt : goal.returns-clause-halt
returns-clause-halt g c =
    subst (λ (now : ℤ). HaltsByTrace g.S.Source c.args.config.now now c.session.new.src c.args.offsets.now c.session.new.offsets c.session.new.report c.session.result)
    (to_z-of_z c.ranges.now_ms) c.session.ensures.halt

pub returns-clause-halt_by_state : goal.returns-clause-halt_by_state
returns-clause-halt_by_state g c =
    subst (λ (now : ℤ). HaltsByState g.S.Source c.args.config.now now c.args.src.now c.session.new.src c.args.offsets.now c.session.new.offsets c.session.new.report c.session.result)
    (to_z-of_z c.ranges.now_ms) c.session.ensures.halt_by_state

pub returns-clause-own : goal.returns-clause-own
returns-clause-own g c =
    subst (λ (now : ℤ). NeverHalts g.S.Source c.args.config.now now c.args.src.now c.session.new.src c.args.offsets.now c.session.result)
    (to_z-of_z c.ranges.now_ms) c.session.ensures.own

pub returns-clause-content : goal.returns-clause-content
returns-clause-content g c entry is found conforming faithful =
    let open_so = unrefused (g.K.Sink.is_live c.args.gate.now.sink) c.args.gate.now.refused c.requires.gate_open in
    halts_inner entry c.session.new.offsets.offset c.session.new.report (λ t. g.S.Source.stands c.session.new.src t) _ (λ groups. g.K.Sink.holds c.session.new.sink.sink groups)
    (λ groups has. has.0) c.session.result
    (c.session.ensures.content entry (subst (λ (now : ℤ). IsEntryOf c.args.config.now now entry) (sym (to_z-of_z c.ranges.now_ms)) is) (record {
      standing = found.standing;
      source_is = found.source_is;
      history = found.history;
      confirmed = found.confirmed;
      sink_is = (found.sink_is, open_so);
      store_is = found.store_is;
    }) conforming faithful)

pub returns-clause-sink : goal.returns-clause-sink
returns-clause-sink g c =
    keeps_inner g.K.Sink c.args.gate.now.sink c.session.new.sink.sink c.args.gate.now.refused c.session.new.sink.refused c.session.result
    (unrefused (g.K.Sink.is_live c.args.gate.now.sink) c.args.gate.now.refused c.requires.gate_open) c.session.ensures.sink.live
    c.session.ensures.sink.comes.comes c.session.ensures.sink.comes.later c.session.ensures.sink.cause
