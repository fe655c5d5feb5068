-- Lemmas of the plain functions on JSON.
use Rattle.std.proofs.Common.{◌≡◌, ◌≤◌, ◌||◌, ℕ, ℤ, pos, negsuc, zero, suc, Bool, true, false, List, [], ◌∷◌, length, drop, refl, arith}
use Rattle.std.specs.Prelude.{min, if◌then◌else◌}
use Rattle.std.specs.Ordering.{nat_cmp, match_ordering}
use Rattle.std.specs.declared.cmp.Ordering.{Ordering}
use Rattle.std.specs.declared.cmp.Ordering.TheVariants.{Less, Equal, Greater}
use Rattle.std.specs.Cmp.Lexicographic.{slice_cmp}
use Rattle.serde_json.specs.Data.{Data, number, string, Members, no_members, member, put}
use Rattle.serde_json.specs.Find.{of_integer, is_float}
use Rattle.serde_json.specs.Written.{has_float, members_have_float}
use Rattle.dbl_value_types.specs.declared.value.Val.{Val}
use Rattle.dbl_value_types.specs.declared.value.Val.TheVariants as val
use Rattle.dbl_value_types.specs.Values.{json_data}
use Rattle.dbl_value_types.specs.Time.Stamps.{is_instant, zulu_text}
use Rattle.dbl_model_table.specs.declared.identity.Identity.{Identity}
use Rattle.dbl_model_table.specs.declared.table.TableName.{TableName}
use Rattle.dbl_model_table.specs.declared.table.TableInfo.{TableInfo}
use Rattle.dbl_model_table.specs.declared.change.Commit.{Commit}
use Rattle.dbl_model_table.specs.Tables.{column_names}
use Rattle.dbl_model_history.specs.Image.{members_of}
use Rattle.dbl_model_event.specs.EventJson.{milliseconds_of, row_data, source_data, event_data}

-- past the shorter of two lists nothing is named
pub members_of-past : (names : List (List ℕ)) (values : List Val) (n : ℕ) → min (length names) (length values) ≤ n → members_of (drop n names) (drop n values) ≡ no_members
members_of-past [] values zero le = refl
members_of-past [] values (suc n) le = refl
members_of-past (name ∷ names) [] zero le = refl
members_of-past (name ∷ names) [] (suc n) le = step (drop n names)
  where
    step : (rest : List (List ℕ)) → members_of rest [] ≡ no_members
    step [] = refl
    step (m ∷ ms) = refl
members_of-past (name ∷ names) (v ∷ values) zero le = absurd (omega arith)
members_of-past (name ∷ names) (v ∷ values) (suc n) le = members_of-past names values n (omega arith)

-- ---- no floats

is_float-integer : (z : ℤ) → is_float (of_integer z) ≡ false
is_float-integer (pos n) = refl
is_float-integer (negsuc n) = refl

no_float-value : (v : Val) → has_float (json_data v) ≡ false
no_float-value val.Null = refl
no_float-value (val.Bool truth) = refl
no_float-value (val.Int z) = is_float-integer z
no_float-value (val.Text text) = refl
no_float-value (val.Bytes bytes) = refl
no_float-value (val.Date z) = is_float-integer z
no_float-value (val.Time z) = is_float-integer z
no_float-value (val.Stamp z) = is_float-integer z
no_float-value (val.StampTz z) = either (is_instant z)
  where
    either : (b : Bool) → has_float (if b then string (zulu_text z) else number (of_integer z)) ≡ false
    either true = refl
    either false = is_float-integer z

neither : (a b : Bool) → a ≡ false → b ≡ false → (a || b) ≡ false
neither a b x y = rw x y

no_float-put : (k : List ℕ) (d : Data) (ms : Members) → has_float d ≡ false → members_have_float ms ≡ false → members_have_float (put k d ms) ≡ false
no_float-put k d no_members h rest = rw h refl
no_float-put k d (member l e ms) h rest = step (slice_cmp nat_cmp k l) (parts (has_float e) (members_have_float ms) rest) (no_float-put k d ms h)
  where
    parts : (a b : Bool) → (a || b) ≡ false → (a ≡ false) × (b ≡ false)
    parts true b x = cc
    parts false b x = (refl, x)

    step : (o : Ordering) → (has_float e ≡ false) × (members_have_float ms ≡ false) → (members_have_float ms ≡ false → members_have_float (put k d ms) ≡ false)
        → members_have_float (match_ordering o (member k d (member l e ms)) (member l d ms) (member l e (put k d ms))) ≡ false
    step Less both later = neither (has_float d) _ h (neither (has_float e) _ both.0 both.1)
    step Equal both later = neither (has_float d) _ h both.1
    step Greater both later = neither (has_float e) _ both.0 (later both.1)

pub no_float-members : (names : List (List ℕ)) (values : List Val) → members_have_float (members_of names values) ≡ false
no_float-members [] values = refl
no_float-members (name ∷ names) [] = refl
no_float-members (name ∷ names) (v ∷ values) = no_float-put name (json_data v) (members_of names values) (no_float-value v) (no_float-members names values)

pub no_float-source : (identity : Identity) (table : TableName) (commit : Commit) (snapshot : List ℕ) → has_float (source_data identity table commit snapshot) ≡ false
unfolding source_data
no_float-source identity table commit snapshot = neither (is_float (of_integer (milliseconds_of commit.time))) false (is_float-integer (milliseconds_of commit.time)) refl

pub no_float-event : (source : Data) (now : ℤ) (before : Data) (op : List ℕ) (after : Data) → has_float source ≡ false → has_float before ≡ false → has_float after ≡ false → has_float (event_data source now before op after) ≡ false
unfolding event_data
no_float-event source now before op after s b a = neither (has_float after) _ a (neither (has_float before) _ b (neither (has_float source) _ s (neither (is_float (of_integer now)) false (is_float-integer now) refl)))

pub no_float-row : (info : TableInfo) (cells : List Val) → has_float (row_data info cells) ≡ false
no_float-row info cells = no_float-members (column_names info.columns) cells
