-- The strings in the JSON of values, rows and keys are UTF-8.
use Rattle.std.proofs.Common.{◌≡◌, ◌∙◌, ◌<◌, ◌/◌, ◌%◌, ◌+◌, ℕ, zero, suc, ℤ, pos, List, [], ◌∷◌, ◌++◌, Bool, true, false, cond, Ordering, Less, Equal, Greater, nat_cmp, map, refl, sym, ap, subst, arith, IsUtf8, IsAscii, codes}
use Rattle.std.specs.List.{AllByRecursion}
use Rattle.std.specs.Ordering.{match_ordering}
use Rattle.std.specs.Cmp.Lexicographic.{slice_cmp}
use Rattle.std.proofs.lemmas.Str.{IsUtf8-append, IsUtf8-nil, IsUtf8-from_ascii}
use Rattle.jiff_core.proofs.CalendarLemmas.{days_in_month_bounds}
use Rattle.base64.specs.Engines.{standard}
use Rattle.base64.specs.GeneralPurpose.{encode_of}
use Rattle.base64.proofs.EngineFacts.{IsAscii-encode_of}
use Rattle.json.proofs.Printed.Utf8.{IsUtf8-are_ascii}
use Rattle.serde_json.specs.Data.{Data, number, string, object, Members, no_members, member, put}
use Rattle.serde_json.specs.Find.{of_integer}
use Rattle.dbl_time.specs.Shapes.{two_digits, four_digits}
use Rattle.dbl_time.specs.Dates.{date_parts_text, date_text}
use Rattle.dbl_time.specs.Clocks.{seconds_text, six_digits}
use Rattle.dbl_time.specs.Stamps.{is_instant, day_of_stamp, clock_of_stamp, zulu_text}
use Rattle.dbl_time.proofs.CalendarSteps.{IsDay, date_text-parts}
use Rattle.dbl_time.proofs.StampLemmas.{named_of, day_in_years, clock_in_day}
use Rattle.dbl_value_types.specs.declared.value.Val.{Val}
use Rattle.dbl_value_types.specs.declared.value.Val.TheVariants as val
use Rattle.dbl_value_types.specs.Values.{json_data}
use Rattle.dbl_model_table.specs.declared.identity.Identity.{Identity}
use Rattle.dbl_model_table.specs.declared.row.Key.{Key}
use Rattle.dbl_model_table.specs.declared.table.Column.{Column}
use Rattle.dbl_model_table.specs.declared.table.TableInfo.{TableInfo}
use Rattle.dbl_model_table.specs.Tables.{column_names}
use Rattle.dbl_model_table.specs.Infos.{name_at, key_names, topic_of}
use Rattle.dbl_model_history.specs.Image.{members_of, key_text}
use Rattle.dbl_model_history.specs.Ranges.{IsValueInRange, AreValuesInRange, IsInfoInRange}
use Rattle.dbl_consume_laws.proofs.Wholes.{all_fit_in_range}
use Rattle.dbl_consume_laws.proofs.Lines.{key_row}
use Rattle.dblog_laws.proofs.LineTexts.{IsLineText, HasTexts, MembersHaveTexts, data_line}

-- ---- moments

one_ascii : (x : ℕ) → x < 128 → IsAscii (x ∷ [])
one_ascii x h zero = h
one_ascii x h (suc i) = omega arith

byte_then : (x : ℕ) (xs : List ℕ) → x < 128 → IsUtf8 xs → IsUtf8 (x ∷ xs)
byte_then x xs h u = IsUtf8-append (x ∷ []) xs (IsUtf8-from_ascii (x ∷ []) (one_ascii x h)) u

two_utf8 : (n : ℕ) → n < 100 → IsUtf8 (two_digits n)
two_utf8 n h = byte_then (48 + n / 10) ((48 + n % 10) ∷ []) (omega arith) (byte_then (48 + n % 10) [] (omega arith) IsUtf8-nil)

four_utf8 : (n : ℕ) → n < 10000 → IsUtf8 (four_digits n)
four_utf8 n h =
    byte_then (48 + n / 1000) ((48 + n / 100 % 10) ∷ (48 + n / 10 % 10) ∷ (48 + n % 10) ∷ []) (omega arith)
    (byte_then (48 + n / 100 % 10) ((48 + n / 10 % 10) ∷ (48 + n % 10) ∷ []) (omega arith)
    (byte_then (48 + n / 10 % 10) ((48 + n % 10) ∷ []) (omega arith) (byte_then (48 + n % 10) [] (omega arith) IsUtf8-nil)))

parted : (a b c : List ℕ) (mark : ℕ) → mark < 128 → IsUtf8 a → IsUtf8 b → IsUtf8 c → IsUtf8 ((((a ++ mark ∷ []) ++ b) ++ mark ∷ []) ++ c)
parted a b c mark h u v w =
    let m = byte_then mark [] h IsUtf8-nil in
    IsUtf8-append _ c (IsUtf8-append _ (mark ∷ []) (IsUtf8-append _ b (IsUtf8-append a (mark ∷ []) u m) v) m) w

date_utf8 : (year month day : ℕ) → IsDay year month day → IsUtf8 (date_parts_text year month day)
date_utf8 year month day is =
    let long = days_in_month_bounds (pos year) month in
    let last_year = is.last_year in let last_month = is.last_month in let last_day = is.last_day in
    parted (four_digits year) (two_digits month) (two_digits day) 45 (omega arith) (four_utf8 year (omega arith)) (two_utf8 month (omega arith)) (two_utf8 day (omega (arith, last_day, long.0)))

seconds_utf8 : (seconds : ℕ) → seconds < 86400 → IsUtf8 (seconds_text seconds)
seconds_utf8 seconds h =
    parted (two_digits (seconds / 3600)) (two_digits (seconds / 60 % 60)) (two_digits (seconds % 60)) 58 (omega arith)
    (two_utf8 (seconds / 3600) (omega arith)) (two_utf8 (seconds / 60 % 60) (omega arith)) (two_utf8 (seconds % 60) (omega arith))

micros_utf8 : (micros : ℕ) → micros < 1000000 → IsUtf8 (six_digits micros)
micros_utf8 micros h =
    IsUtf8-append _ (two_digits (micros % 100)) (IsUtf8-append (two_digits (micros / 10000)) (two_digits (micros / 100 % 100)) (two_utf8 (micros / 10000) (omega arith)) (two_utf8 (micros / 100 % 100) (omega arith))) (two_utf8 (micros % 100) (omega arith))

zulu_joined : (date seconds micros : List ℕ) → IsUtf8 date → IsUtf8 seconds → IsUtf8 micros → IsUtf8 (((((date ++ codes "T") ++ seconds) ++ codes ".") ++ micros) ++ codes "Z")
zulu_joined date seconds micros d s m =
    let t = IsUtf8-append date (codes "T") d (IsUtf8-are_ascii (codes "T") refl) in
    let p = IsUtf8-append _ (codes ".") (IsUtf8-append _ seconds t s) (IsUtf8-are_ascii (codes ".") refl) in
    IsUtf8-append _ (codes "Z") (IsUtf8-append _ micros p m) (IsUtf8-are_ascii (codes "Z") refl)

zulu_utf8 : (z : ℤ) → is_instant z ≡ true → IsUtf8 (zulu_text z)
unfolding zulu_text
zulu_utf8 z h =
    let named = named_of (day_of_stamp z) (day_in_years z h) in
    let date = subst IsUtf8 (sym (date_text-parts _ _ _ named.is) ∙ ap date_text named.number_is) (date_utf8 named.year named.month named.day named.is) in
    let below = clock_in_day z in
    zulu_joined (date_text (day_of_stamp z)) (seconds_text (clock_of_stamp z / 1000000)) (six_digits (clock_of_stamp z % 1000000)) date (seconds_utf8 (clock_of_stamp z / 1000000) (omega (arith, below))) (micros_utf8 (clock_of_stamp z % 1000000) (omega arith))

-- ---- values

value_texts : (v : Val) → IsValueInRange v → HasTexts (json_data v)
value_texts val.Null h = tt
value_texts (val.Bool truth) h = tt
value_texts (val.Int z) h = tt
value_texts (val.Text text) h = h
value_texts (val.Bytes bytes) h = IsUtf8-from_ascii (encode_of standard bytes) (IsAscii-encode_of standard bytes)
value_texts (val.Date z) h = tt
value_texts (val.Time z) h = tt
value_texts (val.Stamp z) h = tt
value_texts (val.StampTz z) h = either (is_instant z) refl
  where
    either : (b : Bool) → is_instant z ≡ b → HasTexts (cond b (string (zulu_text z)) (number (of_integer z)))
    either true is = zulu_utf8 z is
    either false is = tt

put_texts : (name : List ℕ) (d : Data) (ms : Members) → IsUtf8 name → HasTexts d → MembersHaveTexts ms → MembersHaveTexts (put name d ms)
put_texts name d no_members n t h = (n, t, tt)
put_texts name d (member other e ms) n t h = step (slice_cmp nat_cmp name other) (put_texts name d ms n t h.2)
  where
    step : (o : Ordering) → MembersHaveTexts (put name d ms) → MembersHaveTexts (match_ordering o (member name d (member other e ms)) (member other d ms) (member other e (put name d ms)))
    step Less later = (n, t, h)
    step Equal later = (h.0, t, h.2)
    step Greater later = (h.0, h.1, later)

pub row_texts : (names : List (List ℕ)) (values : List Val) → AllByRecursion IsUtf8 names → AreValuesInRange values → MembersHaveTexts (members_of names values)
row_texts [] values n h = tt
row_texts (name ∷ names) [] n h = tt
row_texts (name ∷ names) (v ∷ values) n h = put_texts name (json_data v) (members_of names values) n.0 (value_texts v h.0) (row_texts names values n.1 h.1)

-- ---- names

names_utf8 : (columns : List Column) → AllByRecursion (λ column. IsUtf8 column.name) columns → AllByRecursion IsUtf8 (column_names columns)
names_utf8 [] h = tt
names_utf8 (c ∷ columns) h = (h.0, names_utf8 columns h.1)

pub columns_utf8 : (info : TableInfo) → IsInfoInRange info → AllByRecursion IsUtf8 (column_names info.columns)
columns_utf8 info h = names_utf8 info.columns h.columns

name_utf8 : (columns : List Column) (place : ℕ) → AllByRecursion (λ column. IsUtf8 column.name) columns → IsUtf8 (name_at columns place)
name_utf8 [] place h = IsUtf8-nil
name_utf8 (c ∷ columns) zero h = h.0
name_utf8 (c ∷ columns) (suc place) h = name_utf8 columns place h.1

places_utf8 : (columns : List Column) (places : List ℕ) → AllByRecursion (λ column. IsUtf8 column.name) columns → AllByRecursion IsUtf8 (map (name_at columns) places)
places_utf8 columns [] h = tt
places_utf8 columns (place ∷ places) h = (name_utf8 columns place h, places_utf8 columns places h)

pub key_line : (info : TableInfo) (key : Key) → IsInfoInRange info → AreValuesInRange key.cells → IsLineText (key_text info key)
key_line info key i h = data_line (object (members_of (key_names info) key.cells)) (key_row info key (all_fit_in_range key.cells h)).whole (row_texts (key_names info) key.cells (places_utf8 info.columns info.key i.columns) h)

pub topic_utf8 : (identity : Identity) (info : TableInfo) → IsUtf8 identity.prefix → IsInfoInRange info → IsUtf8 (topic_of identity info)
topic_utf8 identity info p i =
    let dot = IsUtf8-are_ascii (codes ".") refl in
    IsUtf8-append (identity.prefix ++ codes ".") _ (IsUtf8-append identity.prefix (codes ".") p dot) (IsUtf8-append (info.name.schema ++ codes ".") info.name.name (IsUtf8-append info.name.schema (codes ".") i.name.schema dot) i.name.name)
