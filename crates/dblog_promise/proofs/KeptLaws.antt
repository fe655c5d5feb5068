-- What the disks hold is one thing; how what is kept goes on; and that it is as the connector promises.
use Rattle.std.proofs.Common.{◌≡◌, [], Option, Some, None, MatchOption, refl, sym, arith}
use Rattle.std.proofs.lemmas.List.{append-nil}
use Rattle.dbl_topic.specs.SinkLaws.{one_log}
use Rattle.dbl_model_history.specs.Fit.{IsFitHistory}
use Rattle.dbl_capture_laws.specs.Offset.declared.offset.Offset.{Offset}
use Rattle.dbl_capture_laws.proofs.OffsetStoreLaws.{one_store}
use Rattle.dbl_demo_laws.proofs.DemoWalWalLaws.{one_wal}
use Rattle.dbl_capture_laws.specs.Faithful.Faithful.{IsFaithful}
use Rattle.dbl_capture_laws.proofs.FaithfulFaithful.{described_infos, fit_commits}
use Rattle.dbl_capture_laws.proofs.FaithfulInForce.{agrees_in_force}
use Rattle.dbl_capture_laws.proofs.FaithfulOnward.{stores_stay_onward}
use Rattle.dblog_promise.specs.Restarts.{stores_of}
use Rattle.dblog_promise.proofs.Telling.{tells}
use Rattle.dblog_promise.specs.Contents.{Contents, captured_commits_at, confirmed_at, first_infos_at, found_in, history_at, records_of_contents}
use Rattle.dblog_promise.specs.Headline.{HoldsSourceRows, SnapshotsOverwriteNothing}
use Rattle.dblog_promise.specs.Kept.{IsKept}
use Rattle.dblog_promise.specs.PromiseLaws.{DisksAreReadOnce, KeptRunsArePromised, RunsArePromised, SessionsGoOn, WhatStaysGoesOn}

pub disks_are_read_once : DisksAreReadOnce
disks_are_read_once w t f a b x y =
    let wal = one_wal w a.wal b.wal x.source y.source in
    let groups = one_log t a.groups b.groups x.log y.log in
    let offset = one_store f a.offset b.offset x.store y.store in
    λ i. record { wal = wal i; groups = groups i; offset = offset i }

pub what_stays_goes_on : WhatStaysGoesOn
what_stays_goes_on config held = record {
  script = refl;
  onward = stores_stay_onward config (stores_of (found_in held));
  no_fall = omega arith;
  adds = record { more = []; is = sym (append-nil (records_of_contents held)); above = tt; rise = tt };
  grouped = sym (append-nil held.groups);
  lag_is = omega arith;
}

pub sessions_go_on : SessionsGoOn
sessions_go_on config now old new script follows = record {
  script = script;
  onward = follows.onward;
  no_fall = follows.no_fall;
  adds = follows.adds;
  grouped = follows.grouped;
  lag_is = follows.lag_is;
}

pub runs_are_promised : RunsArePromised
runs_are_promised config now old new kept goes = record {
  now = now;
  fit = λ right. kept.fit;
  follows = λ right. record {
    faithful = kept.faithful;
    onward = goes.onward;
    no_fall = goes.no_fall;
    adds = goes.adds;
    grouped = goes.grouped;
    lag_is = goes.lag_is;
  };
}

-- ---- the headline

deliveries : (held : Contents) (offset : Option Offset) → IsFitHistory (history_at held) → IsFaithful (history_at held) (confirmed_at held) (records_of_contents held) offset
    → MatchOption offset (records_of_contents held ≡ []) (HoldsSourceRows held)
deliveries held None fit faithful = faithful.empty
deliveries held (Some offset) fit faithful =
    let captured = described_infos (history_at held) (confirmed_at held) (records_of_contents held) offset fit faithful.lags.offset_is in
    let valid = fit_commits (history_at held) offset fit captured in
    λ number item first topic text table key names known.
    agrees_in_force offset.identity (first_infos_at held offset) (captured_commits_at held offset) offset.start.0 (records_of_contents held) valid faithful.agrees number item first.stands first.fresh first.last topic text table key names known

snapshots : (held : Contents) (offset : Option Offset) → IsKept held → held.offset ≡ offset → IsFaithful (history_at held) (confirmed_at held) (records_of_contents held) offset
    → MatchOption offset (records_of_contents held ≡ []) (SnapshotsOverwriteNothing held)
snapshots held None kept is faithful = faithful.empty
snapshots held (Some offset) kept is faithful =
    λ number item at row.
    let right = (tells (found_in held) offset kept is).rows number item at row in
    record { fresh = right.fresh; right = right.right; put_ahead = right.put_ahead }

pub kept_runs_are_promised : KeptRunsArePromised
kept_runs_are_promised config old new kept goes = record {
  first_deliveries = deliveries new new.offset kept.fit kept.faithful;
  snapshots = snapshots new new.offset kept refl kept.faithful;
  appends = record { more = goes.adds.more; is = goes.adds.is; above = goes.adds.above; rise = goes.adds.rise };
  tables = λ none. absurd none;
}
