-- The example of an altered table.
use Rattle.std.proofs.Common.{◌≡◌, ◌≢◌, inl, inr, ◌<◌, ◌^◌, ℕ, zero, suc, pos, Bool, true, false, None, Some, List, [], ◌∷◌, fold, refl, arith, FitsSigned, w64}
use Rattle.std.specs.Prelude.{◌↔◌, IsSome, slice_get, codes}
use Rattle.std.specs.Str.{IsUtf8}
use Rattle.std.specs.List.Sorted.{IsStrictlySortedBy}
use Rattle.json.proofs.Printed.Utf8.{IsUtf8-are_ascii}
use Rattle.jiff_core.proofs.SignedLemmas.{signed_arith, fits_between}
use Rattle.dbl_value_types.specs.declared.column_type.PgType.TheVariants as type
use Rattle.dbl_value_types.specs.declared.value.Val.{Val}
use Rattle.dbl_value_types.specs.declared.value.Val.TheVariants as val
use Rattle.dbl_value_types.specs.Values.{IsOf}
use Rattle.dbl_model_table.specs.declared.table.TableInfo.{TableInfo}
use Rattle.dbl_model_table.specs.declared.change.Body.TheVariants.{Changes}
use Rattle.dbl_model_table.specs.declared.change.Change.TheVariants.{Insert}
use Rattle.dbl_model_table.specs.Keys.{same_key}
use Rattle.dbl_model_table.specs.Rows.{at_key, row_after, no_rows}
use Rattle.dbl_model_table.specs.Rows.Effect.{Whole}
use Rattle.dbl_model_history.specs.Ranges.{IsCommitInRange}
use Rattle.dbl_model_event.specs.Snapshots.{AreInKeyOrder, read_record, progress_record}
use Rattle.dbl_model_event.specs.SnapshotLists.{IsSnapshot}
use Rattle.dbl_model_table.specs.declared.identity.Identity.{Identity}
use Rattle.dbl_consume_courses.specs.Versions.{Alters, plain_commit, rows_through}
use Rattle.dbl_consume_courses.specs.AlteredTables.{IsTableAged}
use Rattle.dbl_consume_courses.specs.TableAges.{IsInCourse}
use Rattle.dbl_consume_courses.specs.FitVersions.{IsFitAlteration, AreFitVersions}
use Rattle.dbl_consume_courses.specs.Growth.{course_of, IsVersionAmong}
use Rattle.dbl_consume_courses.specs.VersionStores.{HasWindowAt, IsCursorOf}
use Rattle.dbl_consume_courses.specs.Example.{old_table, new_table, old_infos, new_infos, text_row, version_at, new_rows, alteration, first_versions, last_version, example_versions, AlteredTablesStand, AgedTablesStand, high_mark, marked_versions, key_a, whole_window, whole_cursor, window_records, VersionStoresStand}
use Rattle.dbl_consume_courses.proofs.KeyRowLemmas.{no_rows_of_keys}
use Rattle.dbl_consume_courses.proofs.TableRepeats.{aged_none, same_none}

others_stay : (other : ℕ) → other ≢ 0 → slice_get new_infos other ≡ slice_get old_infos other
others_stay zero apart = absurd (apart refl)
others_stay (suc other) apart = refl

alters : Alters old_infos alteration 0
alters = record {
  before = old_table;
  was = refl;
  info = new_table;
  is = refl;
  alike = record { name = refl; keys = refl; types = refl };
  others = others_stay;
  silent = refl;
}

-- ---- ranges

at_zero : FitsSigned w64 (pos 0)
at_zero = fits_between w64 (pos 0) (omega (arith, signed_arith), omega (arith, signed_arith))

plain_a : IsUtf8 (codes "a")
plain_a = IsUtf8-are_ascii (codes "a") refl

plain_x : IsUtf8 (codes "x")
plain_x = IsUtf8-are_ascii (codes "x") refl

plain_y : IsUtf8 (codes "y")
plain_y = IsUtf8-are_ascii (codes "y") refl

text_is : (text : List ℕ) → IsUtf8 text → IsOf type.Text (val.Text text)
text_is text plain = record { text = text; utf8 = plain; spells = refl }

insert_in_range : (lsn table : ℕ) (infos : List TableInfo) (text : List ℕ) → lsn < 2 ^ 64 → IsUtf8 text → IsCommitInRange (plain_commit (version_at lsn infos (Changes (Insert table (text_row text) ∷ []))))
insert_in_range lsn table infos text lt plain = record { lsn = lt; end_lsn = lt; time = at_zero; xid = omega arith; body = (omega arith, ((plain, tt), tt)) }

-- ---- the history is valid

both_rows : (x y : List Val) (b : Bool) → IsSome (row_after (at_key true b (Whole x)) None) ↔ IsSome (row_after (at_key true b (Whole y)) None)
both_rows x y true = (λ some. refl, λ some. refl)
both_rows x y false = (λ some. some, λ some. some)

alteration_fits : IsFitAlteration new_infos (fold rows_through no_rows (version_at 1 old_infos (Changes (Insert 0 (text_row (codes "a")) ∷ [])) ∷ version_at 2 old_infos (Changes (Insert 1 (text_row (codes "x")) ∷ [])) ∷ [])) (record { table = 0; rows = new_rows })
alteration_fits = record {
  rows = (record { wide = refl; key = (text_is (codes "a") plain_a, tt); absent = refl }, tt);
  keys = λ key. both_rows (val.Text (codes "a") ∷ []) (val.Text (codes "a") ∷ val.Text (codes "1") ∷ []) (same_key (record { cells = val.Text (codes "a") ∷ [] }) key);
  in_range = (omega arith, ((plain_a, (IsUtf8-are_ascii (codes "1") refl, tt)), tt));
}

fit_versions : AreFitVersions old_infos example_versions
fit_versions = record {
  follow = (refl, (refl, (alters, (refl, tt))));
  distinct = refl;
  rise = (omega arith, (omega arith, (omega arith, (omega arith, tt))));
  fit = (
    record { changes = (record { wide = refl; key = (text_is (codes "a") plain_a, tt); absent = refl }, tt); altered = tt; in_range = insert_in_range 1 0 old_infos (codes "a") (omega arith) plain_a; few = omega arith },
    (
      record { changes = (record { wide = refl; key = (text_is (codes "x") plain_x, tt); absent = refl }, tt); altered = tt; in_range = insert_in_range 2 1 old_infos (codes "x") (omega arith) plain_x; few = omega arith },
      (
        record { changes = tt; altered = alteration_fits; in_range = record { lsn = omega arith; end_lsn = omega arith; time = at_zero; xid = omega arith; body = (omega arith, tt) }; few = omega arith },
        (
          record { changes = (record { wide = refl; key = (text_is (codes "y") plain_y, tt); absent = refl }, tt); altered = tt; in_range = insert_in_range 4 1 new_infos (codes "y") (omega arith) plain_y; few = omega arith },
          tt,
        ),
      ),
    ),
  );
}

last_among : IsVersionAmong old_infos example_versions 0 0 first_versions last_version []
last_among = record { fit = fit_versions; spelled = refl; unaltered = (refl, tt); after = omega arith }

pub stands : AlteredTablesStand
stands = ((refl, (refl, (alters, (refl, tt)))), last_among, refl, refl)

last_in_course : IsInCourse old_infos example_versions example_versions 0 0 first_versions last_version []
last_in_course = record { fit = fit_versions; hidden = []; parted = refl; among = last_among }

aged : (identity : Identity) → IsTableAged identity (course_of old_infos 0 0 example_versions) example_versions [] 3 0
aged identity = record {
  own = aged_none identity (course_of old_infos 0 0 example_versions) [] 0 refl;
  same = same_none identity (course_of old_infos 0 0 example_versions) [] 0 refl;
  there = λ topic text key names some. cc;
}

pub aged_stands : AgedTablesStand
aged_stands identity = (
  last_in_course,
  record { upto = (omega arith, (omega arith, (omega arith, tt))); before = omega arith },
  aged identity,
  no_rows_of_keys identity old_infos 0,
  inl (omega arith),
)

-- ---- the window after the alteration

plain_high : IsUtf8 (codes "1-1-H")
plain_high = IsUtf8-are_ascii (codes "1-1-H") refl

plain_one : IsUtf8 (codes "1")
plain_one = IsUtf8-are_ascii (codes "1") refl

fit_marked : AreFitVersions old_infos marked_versions
fit_marked = record {
  follow = (refl, (refl, (alters, (refl, (refl, tt)))));
  distinct = refl;
  rise = (omega arith, (omega arith, (omega arith, (omega arith, (omega arith, tt)))));
  fit = (
    fit_versions.fit.0,
    (
      fit_versions.fit.1.0,
      (
        fit_versions.fit.1.1.0,
        (
          fit_versions.fit.1.1.1.0,
          (
            record { changes = tt; altered = tt; in_range = record { lsn = omega arith; end_lsn = omega arith; time = at_zero; xid = omega arith; body = plain_high }; few = omega arith },
            tt,
          ),
        ),
      ),
    ),
  );
}

in_order : AreInKeyOrder whole_window.rows
unfolding IsStrictlySortedBy
in_order = (tt, tt)

listed : (identity : Identity) → IsSnapshot identity new_infos whole_window (plain_commit high_mark) (pos 0) (window_records identity)
listed identity = record {
  info = new_table;
  captured = refl;
  fits = record { rows = (((inr (text_is (codes "a") plain_a), (inr (text_is (codes "1") plain_one), tt)), refl), tt); through = (text_is (codes "a") plain_a, tt) };
  keys = ((text_is (codes "a") plain_a, tt), tt);
  ordered = in_order;
  records_are = refl;
}

window : (identity : Identity) → HasWindowAt identity marked_versions (window_records identity) 5
window identity = record {
  before = example_versions;
  mark = high_mark;
  later = [];
  spelled = refl;
  position_is = refl;
  front = codes "1-1";
  is_high = refl;
  closed = whole_window;
  now = pos 0;
  in_range = at_zero;
  snapshot = window_records identity;
  listed = listed identity;
  count = 2;
  shown = refl;
  right = (refl, tt);
}

progress : (identity : Identity) → IsCursorOf identity marked_versions (window_records identity) 5 0 new_table 2 whole_cursor
progress identity = record {
  earlier = read_record identity new_table (plain_commit high_mark) (pos 0) 0 (key_a, record { cells = val.Text (codes "a") ∷ val.Text (codes "1") ∷ [] }) ∷ [];
  item = progress_record identity new_table (plain_commit high_mark) 1 (Some key_a) true;
  later = [];
  spelled = refl;
  reports = record { topic = refl; key = refl; value = refl; is_key = (text_is (codes "a") plain_a, tt) };
  not_after = omega arith;
  settled = tt;
  version_is = refl;
}

pub stores_stand : VersionStoresStand
stores_stand identity = (fit_marked, window identity, progress identity)
