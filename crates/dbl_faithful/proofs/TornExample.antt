-- The smallest torn window is one.
use Rattle.std.proofs.Common.{◌≡◌, ◌⊎◌, inl, inr, ◌<◌, ◌^◌, ℕ, pos, Bool, true, false, List, [], ◌∷◌, Some, None, map, refl, sym, ap₂, subst, arith, FitsSigned, w64}
use Rattle.std.specs.Prelude.{IsTrue, codes}
use Rattle.std.specs.List.Sorted.{IsStrictlySortedBy}
use Rattle.std.specs.Str.{IsUtf8}
use Rattle.std.specs.declared.cmp.Ordering.TheVariants.{Less}
use Rattle.json.proofs.Printed.Utf8.{IsUtf8-are_ascii}
use Rattle.jiff_core.proofs.SignedLemmas.{signed_arith, fits_between}
use Rattle.dbl_value_types.specs.declared.column_type.PgType.TheVariants as type
use Rattle.dbl_value_types.specs.declared.value.Val.TheVariants as val
use Rattle.dbl_value_types.specs.Values.{IsOf}
use Rattle.dbl_model_table.specs.declared.row.Key.{Key}
use Rattle.dbl_model_table.specs.Keys.{key_cmp, same_key}
use Rattle.dbl_model_table.specs.declared.change.Body.TheVariants.{Changes, Mark}
use Rattle.dbl_model_table.specs.declared.change.Change.TheVariants.{Insert}
use Rattle.dbl_model_table.specs.Rows.{Rows, no_rows, at_key, row_after, rows_at, all_changes}
use Rattle.dbl_model_table.specs.Rows.Effect.{Whole}
use Rattle.dbl_model_table.proofs.Lists.{bool_case}
use Rattle.dbl_model_table.proofs.KeyLemmas.{same_key-is}
use Rattle.dbl_consume_laws.specs.ModelHistory.KeyBounds.{IsUpTo}
use Rattle.dbl_consume_laws.specs.ModelHistory.KeyedRows.{row_in}
use Rattle.dbl_consume_laws.specs.ModelHistory.Ranges.{IsCommitInRange}
use Rattle.dbl_consume_laws.specs.Windows.{IsRightWindow}
use Rattle.dbl_consume_laws.specs.ModelEvent.Snapshots.{AreInKeyOrder, snapshot}
use Rattle.dbl_consume_laws.specs.ModelEvent.SnapshotLists.{IsSnapshot}
use Rattle.dbl_consume_courses.specs.Versions.{plain_commit, rows_through}
use Rattle.dbl_consume_courses.specs.FitVersions.{IsFitVersion, AreFitVersions}
use Rattle.dbl_faithful.specs.TornExample.{example_identity, example_table, example_version_at, example_text_row, keyed, first, low_mark, late, high_mark, example_versions, example_window, TornWindowsStand}

at_zero : FitsSigned w64 (pos 0)
at_zero = fits_between w64 (pos 0) (omega (arith, signed_arith), omega (arith, signed_arith))

-- ---- texts and keys

plain_a : IsUtf8 (codes "a")
plain_a = IsUtf8-are_ascii (codes "a") refl

plain_b : IsUtf8 (codes "b")
plain_b = IsUtf8-are_ascii (codes "b") refl

text_a : IsOf type.Text (val.Text (codes "a"))
text_a = record { text = codes "a"; utf8 = plain_a; spells = refl }

text_b : IsOf type.Text (val.Text (codes "b"))
text_b = record { text = codes "b"; utf8 = plain_b; spells = refl }

-- ---- the history

mark_in_range : (lsn : ℕ) (value : List ℕ) → lsn < 2 ^ 64 → IsUtf8 value → IsCommitInRange (plain_commit (example_version_at lsn (Mark value)))
mark_in_range lsn value lt plain = record { lsn = lt; end_lsn = lt; time = at_zero; xid = omega arith; body = plain }

insert_in_range : (lsn : ℕ) (text : List ℕ) → lsn < 2 ^ 64 → IsUtf8 text → IsCommitInRange (plain_commit (example_version_at lsn (Changes (Insert 0 (example_text_row text) ∷ []))))
insert_in_range lsn text lt plain = record { lsn = lt; end_lsn = lt; time = at_zero; xid = omega arith; body = (omega arith, ((plain, tt), tt)) }

mark_fit : (before : Rows) (lsn : ℕ) (value : List ℕ) → lsn < 2 ^ 64 → IsUtf8 value → IsFitVersion before (example_version_at lsn (Mark value))
mark_fit before lsn value lt plain = record { changes = tt; altered = tt; in_range = mark_in_range lsn value lt plain; few = omega arith }

fit : AreFitVersions (example_table ∷ []) example_versions
fit = record {
  follow = (refl, (refl, (refl, (refl, tt))));
  distinct = refl;
  rise = (omega arith, (omega arith, (omega arith, (omega arith, tt))));
  fit = (
    record { changes = (record { wide = refl; key = (text_a, tt); absent = refl }, tt); altered = tt; in_range = insert_in_range 1 (codes "a") (omega arith) plain_a; few = omega arith },
    (
      mark_fit (rows_through no_rows first) 2 (codes "1-1-L") (omega arith) (IsUtf8-are_ascii (codes "1-1-L") refl),
      (
        record { changes = (record { wide = refl; key = (text_b, tt); absent = refl }, tt); altered = tt; in_range = insert_in_range 3 (codes "b") (omega arith) plain_b; few = omega arith },
        (
          mark_fit (rows_through (rows_through (rows_through no_rows first) low_mark) late) 4 (codes "1-1-H") (omega arith) (IsUtf8-are_ascii (codes "1-1-H") refl),
          tt,
        ),
      ),
    ),
  );
}

-- ---- the window

-- before a stands no row
gone : (key : Key) → IsTrue false ⊎ IsUpTo (Some (keyed (codes "a"))) key → row_in example_window.rows key ≡ None → rows_at (example_table ∷ []) (all_changes (map plain_commit example_versions)) 2 0 key ≡ None
gone key (inl is_done) none = let e : false ≡ true = is_done in cc
gone key (inr (inl same)) none = let e : row_in example_window.rows (keyed (codes "a")) ≡ None = subst (λ (k : Key). row_in example_window.rows k ≡ None) same none in cc
gone key (inr (inr less)) none = by (bool_case (same_key (keyed (codes "a")) key)) (bool_case (same_key (keyed (codes "b")) key))
  where
    by : (same_key (keyed (codes "a")) key ≡ true) ⊎ (same_key (keyed (codes "a")) key ≡ false) → (same_key (keyed (codes "b")) key ≡ true) ⊎ (same_key (keyed (codes "b")) key ≡ false) → rows_at (example_table ∷ []) (all_changes (map plain_commit example_versions)) 2 0 key ≡ None
    by (inl a) other = let e : key_cmp (keyed (codes "a")) (keyed (codes "a")) ≡ Less = subst (λ (k : Key). key_cmp k (keyed (codes "a")) ≡ Less) (sym (same_key-is (keyed (codes "a")) key a)) less in cc
    by (inr a) (inl b) = let e : key_cmp (keyed (codes "b")) (keyed (codes "a")) ≡ Less = subst (λ (k : Key). key_cmp k (keyed (codes "a")) ≡ Less) (sym (same_key-is (keyed (codes "b")) key b)) less in cc
    by (inr a) (inr b) = ap₂ (λ (x y : Bool). row_after (at_key true y (Whole (val.Text (codes "b") ∷ []))) (row_after (at_key true x (Whole (val.Text (codes "a") ∷ []))) None)) a b

right : IsRightWindow (example_table ∷ []) (all_changes (map plain_commit example_versions)) 1 2 None example_window
right = record { right = (refl, tt); missing = λ info key captured is_key above reached none. inr (gone key reached none) }

one_key : AreInKeyOrder example_window.rows
unfolding IsStrictlySortedBy
one_key = (tt, tt)

listed : IsSnapshot example_identity (example_table ∷ []) example_window (plain_commit high_mark) (pos 0) (snapshot example_identity (example_table ∷ []) example_window (plain_commit high_mark) (pos 0))
listed = record {
  info = example_table;
  captured = refl;
  fits = record { rows = (((inr text_a, tt), refl), tt); through = (text_a, tt) };
  keys = ((text_a, tt), tt);
  ordered = one_key;
  records_are = refl;
}

pub torn_windows_stand : TornWindowsStand
torn_windows_stand = (
  fit,
  record {
    plain = (refl, (refl, (refl, (refl, tt))));
    before = first ∷ [];
    low = low_mark;
    mark = high_mark;
    later = [];
    spelled = refl;
    ends = inr (record { front = []; last = first; spelled = refl; lsn_is = refl });
    low_is = refl;
    table = 0;
    row = example_text_row (codes "b");
    late_is = refl;
    is_high = record { front = codes "1-1"; is = refl };
    above = None;
    closed = example_window;
    right = right;
    now = pos 0;
    in_range = at_zero;
    snapshot = snapshot example_identity (example_table ∷ []) example_window (plain_commit high_mark) (pos 0);
    listed = listed;
    clear = refl;
    count = 1;
    some = omega arith;
    no_progress = omega arith;
    front = refl;
  },
)
