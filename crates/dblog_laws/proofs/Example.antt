-- The example is a whole log.
use Rattle.std.proofs.Common.{◌≡◌, pos, Bool, true, false, cond, Some, None, IsTrue, IsSomeAnd, IsUtf8, FitsSigned, w32, w64, List, [], ◌∷◌, map, refl, sym, ap, subst, arith, codes, true≢false}
use Rattle.std.specs.List.{AllByRecursion}
use Rattle.json.proofs.Printed.Utf8.{IsUtf8-are_ascii}
use Rattle.jiff_core.proofs.SignedLemmas.{signed_arith, fits_between}
use Rattle.dbl_pgmsg.specs.Grammar.{int16, int32, int64, string, cell, tuple, column, spelling, IsString}
use Rattle.dbl_value_types.specs.Values.{type_of}
use Rattle.dbl_model_table.specs.declared.table.RawTable.{RawTable}
use Rattle.dbl_model_table.specs.declared.table.TableInfo.{TableInfo}
use Rattle.dbl_model_table.specs.declared.change.Commit.{Commit}
use Rattle.dbl_model_table.specs.Tables.{same_name, are_distinct}
use Rattle.dbl_model_table.specs.Infos.{IsInfoOf}
use Rattle.dbl_model_table.specs.Rows.{no_rows, all_changes}
use Rattle.dbl_model_history.specs.History.{entry_of}
use Rattle.dbl_model_history.specs.Typed.{typed}
use Rattle.dbl_model_history.specs.Ranges.{HasRanges}
use Rattle.dbl_model_history.specs.Fit.{AreFit, AreInfosOf, IsFitHistory}
use Rattle.dbl_model_commit.specs.Tuples.{spelled_value, given_cell, row_of, change_of}
use Rattle.dbl_model_commit.specs.Stated.{row_stated, commits_of}
use Rattle.dbl_model_commit.specs.Blocks.{onto}
use Rattle.dblog_run.specs.Replay.Log.{lines_in}
use Rattle.dblog_run.specs.Replay.Pieces.{AreSpelled}
use Rattle.dblog_run.proofs.ReplayPieceLemmas.{pieces_from, spelled_read, pieces_carry}
use Rattle.dblog_run.specs.Replay.Replay.{AreLinesOf, HaveNoFault, IsReplayed, KeepColumns}
use Rattle.dblog_run.proofs.ReplayCaptureLemmas.{infos_one}
use Rattle.dblog_laws.specs.Pipe.{AreNamesUtf8, IsWholeLog}
use Rattle.dblog_laws.specs.Example.{example_identity, example_options, example_messages, example_log, example_entry, example_table, example_history, example_lines, WholeLogsStand}

at_zero : FitsSigned w64 (pos 0)
at_zero = fits_between w64 (pos 0) (omega (arith, signed_arith), omega (arith, signed_arith))

small_zero : FitsSigned w32 (pos 0)
small_zero = fits_between w32 (pos 0) (omega (arith, signed_arith), omega (arith, signed_arith))

text_a : IsUtf8 (codes "a")
text_a = IsUtf8-are_ascii (codes "a") refl

text_k : IsUtf8 (codes "k")
text_k = IsUtf8-are_ascii (codes "k") refl

text_t : IsUtf8 (codes "t")
text_t = IsUtf8-are_ascii (codes "t") refl

text_public : IsUtf8 (codes "public")
text_public = IsUtf8-are_ascii (codes "public") refl

-- ---- the history

ranges : HasRanges example_history
ranges = record {
  tables = (record { name = record { schema = text_public; name = text_t }; columns = (record { name = text_k; oid = omega arith }, tt); key = (text_k, tt); version = (omega arith, omega arith) }, tt);
  commits = (record { lsn = omega arith; end_lsn = omega arith; time = at_zero; xid = omega arith; body = (omega arith, ((record { schema = text_public; name = text_t }, (text_a, tt)), tt)) }, tt);
}

head_info : (a b : TableInfo) (as' bs : List TableInfo) → a ∷ as' ≡ b ∷ bs → a ≡ b
head_info a b as' bs same = cc

one_table : (info : TableInfo) → IsSomeAnd (entry_of example_history info.name) (λ entry. IsInfoOf entry info) → info ≡ example_table
one_table info = step (same_name example_entry.name info.name)
  where
    step : (b : Bool) → IsSomeAnd (cond b (Some example_entry) None) (λ entry. IsInfoOf entry info) → info ≡ example_table
    step true is = head_info info example_table [] [] (infos_one (info ∷ []) (example_table ∷ []) (ap (λ (r : RawTable). r ∷ []) is))
    step false is = absurd is

fit_alone : AreFit (example_table ∷ []) no_rows (all_changes (typed (example_table ∷ []) example_history))
fit_alone = (record { wide = refl; key = (record { text = codes "a"; utf8 = text_a; spells = refl }, tt); absent = refl }, tt)

fit_each : (infos : List TableInfo) → IsTrue (are_distinct same_name (map (λ info. info.name) infos)) → AllByRecursion (λ info. IsSomeAnd (entry_of example_history info.name) (λ entry. IsInfoOf entry info)) infos
    → AreFit infos no_rows (all_changes (typed infos example_history))
fit_each [] distinct each = tt
fit_each (a ∷ []) distinct each = subst (λ (i : TableInfo). AreFit (i ∷ []) no_rows (all_changes (typed (i ∷ []) example_history))) (sym (one_table a each.0)) fit_alone
fit_each (a ∷ b ∷ infos) distinct each =
    let of_a = subst (λ (i : TableInfo). IsTrue (are_distinct same_name (i.name ∷ b.name ∷ map (λ info. info.name) infos))) (one_table a each.0) distinct in
    let of_b = subst (λ (i : TableInfo). IsTrue (are_distinct same_name (example_table.name ∷ i.name ∷ map (λ info. info.name) infos))) (one_table b each.1.0) of_a in
    absurd (true≢false (sym of_b))

fit : IsFitHistory example_history
fit = record {
  ranges = ranges;
  opening = (refl, tt);
  rising = (omega arith, tt);
  distinct = refl;
  unaltered = (tt, tt);
  known = ((refl, tt), tt);
  fit = λ infos of. fit_each infos of.distinct of.each;
}

-- ---- the log

name_public : IsString (codes "public")
name_public = record { utf8 = text_public; no_zero = (λ e. omega (arith, e), (λ e. omega (arith, e), (λ e. omega (arith, e), (λ e. omega (arith, e), (λ e. omega (arith, e), (λ e. omega (arith, e), tt)))))) }

name_t : IsString (codes "t")
name_t = record { utf8 = text_t; no_zero = (λ e. omega (arith, e), tt) }

name_k : IsString (codes "k")
name_k = record { utf8 = text_k; no_zero = (λ e. omega (arith, e), tt) }

spelled : AreSpelled example_log example_messages
unfolding spelling int64 int32 int16 string cell tuple column
spelled = (
  record { fits = record { fields = (omega arith, at_zero, omega arith); short = omega arith }; spelled = refl },
  (
    record {
      fits = record { fields = (omega arith, name_public, name_t, refl, omega arith, (record { flags = omega arith; name = name_k; oid = omega arith; modifier = small_zero }, tt)); short = omega arith };
      spelled = refl;
    },
    (
      record { fits = record { fields = (omega arith, record { count = omega arith; each = (record { utf8 = text_a; short = omega arith }, tt) }); short = omega arith }; spelled = refl },
      (record { fits = record { fields = (omega arith, omega arith, omega arith, at_zero); short = omega arith }; spelled = refl }, tt),
    ),
  ),
)

clean : HaveNoFault example_options (onto [] example_messages)
unfolding type_of spelled_value given_cell row_of change_of row_stated
clean = (
  (example_table ∷ [], record { tables = record { before = example_table ∷ []; known = refl; readable = λ number. refl; captured = refl }; placed = refl; made = refl }),
  (
    (example_table ∷ [], record { tables = record { before = example_table ∷ []; known = refl; readable = λ number. refl; captured = refl }; placed = refl; made = refl }),
    (
      (example_table ∷ [], record { tables = record { before = []; known = refl; readable = λ number. refl; captured = refl }; placed = refl; made = refl }),
      (([], record { tables = record { before = []; known = refl; readable = λ number. refl; captured = refl }; placed = refl; made = refl }), tt),
    ),
  ),
)

stated : commits_of (example_table ∷ []) (onto [] example_messages) ≡ typed (example_table ∷ []) example_history
unfolding type_of spelled_value given_cell row_of change_of row_stated
stated = refl

kept : KeepColumns example_options (onto [] example_messages)
kept = (refl, (refl, (refl, (refl, tt))))

lines : AreLinesOf example_options (pos 0) (onto [] example_messages) example_lines
unfolding type_of spelled_value given_cell row_of change_of row_stated
lines = (
  example_table ∷ [],
  [],
  refl,
  (example_table ∷ [], [], refl, (example_table ∷ [], [], refl, ([], [], refl, refl, refl), refl), refl),
  ap (λ (cs : List Commit). lines_in example_identity (example_table ∷ []) cs (pos 0)) (sym stated),
)

replayed : IsReplayed example_options (pos 0) (pieces_from 1 example_messages) example_lines None
replayed = record {
  messages = example_messages;
  front = pieces_from 1 example_messages;
  rest = [];
  parts = refl;
  carried = pieces_carry 1 example_messages;
  clean = clean;
  commits = lines;
  ends = refl;
}

names : AreNamesUtf8 example_identity
names = record { prefix = IsUtf8-are_ascii (codes "p") refl; db = IsUtf8-are_ascii (codes "d") refl; placeholder = IsUtf8-are_ascii (codes "unset") refl }

captured : AreInfosOf example_history (example_table ∷ [])
captured = record { distinct = refl; each = (refl, tt) }

whole : IsWholeLog example_options (pos 0) example_log example_lines example_history
unfolding replayed
whole =
    record {
      stream = false;
      pieces = pieces_from 1 example_messages;
      read = spelled_read 1 example_log example_messages spelled;
      replayed = replayed;
      moment = at_zero;
      names = names;
      fit = fit;
      kept = kept;
      infos = example_table ∷ [];
      tables = refl;
      captured = captured;
      stated = stated;
    }

pub whole_logs_stand : WholeLogsStand
whole_logs_stand = (whole, refl)
