-- Three sessions, two of which stop.
use Rattle.std.proofs.Common.{inr, ◌<◌, ◌^◌, ℕ, pos, List, [], ◌∷◌, Some, IsUtf8, refl, arith, codes, FitsSigned, w64}
use Rattle.std.specs.List.{AllByRecursion}
use Rattle.json.proofs.Printed.Utf8.{IsUtf8-are_ascii}
use Rattle.jiff_core.proofs.SignedLemmas.{signed_arith, fits_between}
use Rattle.dbl_base.specs.declared.lsn.Lsn.{Lsn}
use Rattle.dbl_pgmsg.specs.declared.messages.Message.{Message}
use Rattle.dbl_pgmsg.specs.declared.messages.Message.TheVariants as says
use Rattle.dbl_model_table.specs.declared.change.Body.TheVariants as body
use Rattle.dbl_model_table.specs.declared.change.Commit.{Commit}
use Rattle.dbl_model_history.specs.History.RawBody.{Changes, Mark}
use Rattle.dbl_model_table.specs.declared.table.TableInfo.{TableInfo}
use Rattle.dbl_model_history.specs.Fit.{IsFitHistory}
use Rattle.dbl_model_history.specs.MarkTexts.{Low, mark_text}
use Rattle.dbl_model_history.specs.Ranges.{IsEntryInRange, IsRawCommitInRange}
use Rattle.dbl_model_history.proofs.MarkLemmas.{marks_short}
use Rattle.dbl_source.specs.SourceModel.Standings.{CrashState}
use Rattle.dbl_source.specs.SourceModel.Growth.{Grows}
use Rattle.dbl_source.specs.SourceModel.Stated.{to_state, ReadsRight}
use Rattle.dbl_source.proofs.SourceModelGrowthLemmas.{grows_none}
use Rattle.dbl_capture_laws.specs.CaptureModel.Entries.{SessionStart}
use Rattle.dbl_capture_laws.specs.CaptureModel.Stages.{Stage}
use Rattle.dbl_capture_laws.specs.CaptureModel.Steps.{begun_at, following_of, WasFollowed, followed_at, stored_at}
use Rattle.dblog_promise.specs.Runs.{IsAsked, BeginsSession, Run, begins, reads, follows, stores, confirms}
use Rattle.dblog_promise.specs.Stops.{with_the_first_offset, at_the_source}
use Rattle.dblog_promise.specs.Restarts.{FoundStores, restart_at, ByRules, After, nothing, others, session, IsUnused}
use Rattle.dblog_promise.specs.Example.{example_config, example_raw_commit, one_commit, two_commits, marked, example_entry, example_offset, example_first, example_last, example_table, ThreeSessionsStand}

at_zero : FitsSigned w64 (pos 0)
at_zero = fits_between w64 (pos 0) (omega (arith, signed_arith), omega (arith, signed_arith))

quiet : (lsn : ℕ) → lsn < 2 ^ 64 → IsRawCommitInRange (example_raw_commit lsn (Changes []))
quiet lsn lt = record { lsn = lt; end_lsn = lt; time = at_zero; xid = omega arith; body = (omega arith, tt) }

mark : (lsn : ℕ) → lsn < 2 ^ 64 → IsRawCommitInRange (example_raw_commit lsn (Mark (mark_text 2 1 Low)))
mark lsn lt = record { lsn = lt; end_lsn = lt; time = at_zero; xid = omega arith; body = (marks_short 2 1 Low (omega arith) (omega arith)).0 }

entries : AllByRecursion IsEntryInRange (example_entry ∷ [])
entries =
    let text_k : IsUtf8 (codes "k") = IsUtf8-are_ascii (codes "k") refl in
    let text_t : IsUtf8 (codes "t") = IsUtf8-are_ascii (codes "t") refl in
    let text_public : IsUtf8 (codes "public") = IsUtf8-are_ascii (codes "public") refl in
    (record { name = record { schema = text_public; name = text_t }; columns = (record { name = text_k; oid = omega arith }, tt); key = (text_k, tt); version = (omega arith, omega arith) }, tt)

abbrev infos : List TableInfo
infos = example_table ∷ []

fit_one : IsFitHistory one_commit
fit_one = record { ranges = record { tables = entries; commits = (quiet 1 (omega arith), tt) }; opening = (refl, tt); rising = (omega arith, tt); distinct = refl; unaltered = (tt, tt); known = (tt, tt); fit = λ infos are. tt }

fit_two : IsFitHistory two_commits
fit_two = record {
  ranges = record { tables = entries; commits = (quiet 1 (omega arith), (quiet 2 (omega arith), tt)) };
  opening = (refl, tt);
  rising = (omega arith, (omega arith, tt));
  distinct = refl;
  unaltered = (tt, (tt, tt));
  known = (tt, (tt, tt));
  fit = λ infos are. tt;
}

fit_marked : IsFitHistory marked
fit_marked = record {
  ranges = record { tables = entries; commits = (quiet 1 (omega arith), (quiet 2 (omega arith), (mark 3 (omega arith), tt))) };
  opening = (refl, tt);
  rising = (omega arith, (omega arith, (omega arith, tt)));
  distinct = refl;
  unaltered = (tt, (tt, (tt, tt)));
  known = (tt, (tt, (tt, tt)));
  fit = λ infos are. tt;
}

asked : IsAsked example_config (pos 0)
asked = record { chunk = omega arith; every = omega arith; moment = at_zero }

unused : IsUnused example_first
unused = record { fit = fit_one; unmarked = (tt, tt); unconfirmed = refl; empty = refl; unstored = refl }

-- ---- the first session

begun : BeginsSession (restart_at example_config (pos 0) example_first) one_commit (example_offset 1 1)
begun = record {
  grows = grows_none one_commit fit_one.rising;
  fit = fit_one;
  began = (
    record { identity = refl; tables = refl; start = inr (0, refl); not_before = (omega arith, tt); incarnation = refl },
    record {
      at_start = refl;
      unread = ((refl, refl), tt);
      distinct = refl;
      infos = (record { place = 0; entry = example_entry; stands = refl; is = refl; version_is = refl }, tt);
    },
  );
  described = record { distinct = refl; each = (refl, tt) };
  incarnation_fits = omega arith;
}

abbrev left_unread : CrashState
left_unread = record { history = one_commit; confirmed = record { 0 = 0 } }

abbrev left_first : FoundStores
left_first = record { history = one_commit; confirmed = record { 0 = 0 }; groups = []; offset = Some (example_offset 1 1) }

one_session : After ByRules example_first (example_config ∷ []) left_first
one_session = session [] example_first left_first example_config nothing (record {
  now = pos 0;
  asked = asked;
  stops = with_the_first_offset one_commit left_unread (example_offset 1 1) begun (grows_none one_commit fit_one.rising) fit_one refl;
})

-- ---- another client, and the second session

two_grows : Grows one_commit two_commits
two_grows = record { tables = refl; others = example_raw_commit 2 (Changes []) ∷ []; commits = refl; are_others = (tt, tt); rising = fit_two.rising }

abbrev committed : FoundStores
committed = record left_first { history = two_commits }

then_others : After ByRules example_first (example_config ∷ []) committed
then_others = others (example_config ∷ []) left_first two_commits one_session two_grows fit_two

abbrev second : SessionStart
second = restart_at example_config (pos 0) committed

begun_again : BeginsSession second two_commits (example_offset 2 1)
begun_again = record {
  grows = grows_none two_commits fit_two.rising;
  fit = fit_two;
  began = (record { identity = refl; infos = refl; versions = refl; start = refl; lsn = refl; cursors = refl; incarnation = omega arith }, refl);
  described = tt;
  incarnation_fits = omega arith;
}

abbrev at_begin : Stage
at_begin = begun_at second two_commits (example_offset 2 1) (following_of (example_offset 2 1))

abbrev begin : Message
begin = says.Begin (record { 0 = 2 }) (pos 0) 1

abbrev commit : Message
commit = says.Commit 0 (record { 0 = 2 }) (record { 0 = 2 }) (pos 0)

abbrev read_commit : Commit
read_commit = record { lsn = record { 0 = 2 }; end_lsn = record { 0 = 2 }; time = pos 0; xid = 1; body = body.Changes [] }

abbrev after : Lsn
after = record { 0 = 1 }

begin_right : ReadsRight infos after (to_state infos after two_commits) (begin ∷ [])
begin_right = (
  λ accepted. tt,
  λ accepted. record { later = read_commit ∷ []; stated = refl; next = record { lsn = refl; time = refl; xid = refl; rest = []; stated = refl; mark = tt } },
  tt,
)

commit_right : ReadsRight infos after (to_state infos after two_commits) (commit ∷ (begin ∷ []))
commit_right = (λ accepted. tt, λ accepted. record { later = []; stated = refl; next = tt }, begin_right)

abbrev at_read : Stage
at_read = record at_begin { messages = begin ∷ [] }

followed : WasFollowed at_read (pos 0) commit read_commit (following_of (example_offset 2 1))
followed = record {
  fields = (omega arith, omega arith, omega arith, at_zero);
  clean = refl;
  ends = refl;
  right = commit_right;
  steps = record { began = refl; ended = refl; identity = refl; infos = refl; cursors = refl; window = refl };
  no_clash = refl;
  listed = λ chunk closes. cc;
}

abbrev at_followed : Stage
at_followed = followed_at at_read (pos 0) commit read_commit (following_of (example_offset 2 1))

abbrev at_confirmed : Stage
at_confirmed = record (stored_at at_followed) { history = two_commits; confirmed = record { 0 = 2 } }

run : Run second at_confirmed
run =
    confirms (stored_at at_followed) two_commits (record { 0 = 2 }) (record { 0 = 2 })
    (stores at_followed (follows at_read commit read_commit (following_of (example_offset 2 1)) (reads at_begin begin (begins two_commits (example_offset 2 1) begun_again) (record { fields = (omega arith, at_zero, omega arith); clean = refl; ends = refl; right = begin_right })) (omega arith) followed))
    (grows_none two_commits fit_two.rising) fit_two (omega arith) refl

abbrev left_marked : CrashState
left_marked = record { history = marked; confirmed = record { 0 = 2 } }

abbrev left_second : FoundStores
left_second = record { history = marked; confirmed = record { 0 = 2 }; groups = []; offset = Some (example_offset 2 2) }

two_sessions : After ByRules example_first (example_config ∷ (example_config ∷ [])) left_second
two_sessions = session (example_config ∷ []) committed left_second example_config then_others (record {
  now = pos 0;
  asked = asked;
  stops = at_the_source at_confirmed left_marked run (record {
    more = example_raw_commit 3 (Mark (mark_text 2 1 Low)) ∷ [];
    grown = record { tables = refl; commits = refl };
    marks = (record { incarnation = 2; number = 1; side = Low; is = refl; not_above = omega arith; small = omega arith }, tt);
    fit = fit_marked;
    no_fall = omega arith;
    confirmed = omega arith;
  });
})

-- ---- the third session

abbrev third : SessionStart
third = restart_at example_config (pos 0) left_second

begun_third : BeginsSession third marked (example_offset 3 2)
begun_third = record {
  grows = grows_none marked fit_marked.rising;
  fit = fit_marked;
  began = (record { identity = refl; infos = refl; versions = refl; start = refl; lsn = refl; cursors = refl; incarnation = omega arith }, refl);
  described = tt;
  incarnation_fits = omega arith;
}

three_sessions : After ByRules example_first (example_config ∷ (example_config ∷ (example_config ∷ []))) example_last
three_sessions = session (example_config ∷ (example_config ∷ [])) left_second example_last example_config two_sessions (record {
  now = pos 0;
  asked = asked;
  stops = at_the_source (begun_at third marked (example_offset 3 2) (following_of (example_offset 3 2))) left_marked (begins marked (example_offset 3 2) begun_third)
      (record { more = []; grown = record { tables = refl; commits = refl }; marks = tt; fit = fit_marked; no_fall = omega arith; confirmed = omega arith });
})

pub three_sessions_stand : ThreeSessionsStand
three_sessions_stand = (unused, three_sessions)
