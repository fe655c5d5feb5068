-- The JSON data of keys, rows, sources and events of changes in range are whole, and their cells can be held.
use Rattle.std.proofs.Common.{◌≡◌, ◌≤◌, ◌<◌, ◌^◌, ◌+◌, ◌-◌, cond, ltb, ℕ, ℤ, pos, negsuc, suc, List, [], ◌∷◌, Bool, true, false, ◌&&◌, Option, Some, None, Ordering, Less, Equal, Greater, refl, arith, codes}
use Rattle.std.specs.Prelude.{FitsSigned, if◌then◌else◌, option_and_then}
use Rattle.std.specs.Int.{w32, w64, int_div_euclid}
use Rattle.std.specs.List.{AllByRecursion}
use Rattle.std.specs.Ordering.{nat_cmp, match_ordering}
use Rattle.std.specs.Cmp.Lexicographic.{slice_cmp}
use Rattle.std.proofs.lemmas.Bool.{and_parts}
use Rattle.std.proofs.Math.Nat.{div-le_self}
use Rattle.serde_json.specs.Data.{Num, unsigned, negative, float, Data, null, boolean, number, string, array, object, Items, no_items, item, Members, no_members, member, put, depth, members_depth}
use Rattle.serde_json.specs.Find.{of_integer, get_member, as_object, is_float}
use Rattle.serde_json.specs.Written.{has_float, items_have_float, members_have_float}
use Rattle.dbl_value_types.specs.declared.value.Val.{Val}
use Rattle.dbl_value_types.specs.declared.value.Val.TheVariants as val
use Rattle.dbl_value_types.specs.Values.{json_data}
use Rattle.dbl_time.specs.Stamps.{is_instant, zulu_text}
use Rattle.dbl_record.specs.declared.acts.ConsumeError.{ConsumeError}
use Rattle.dbl_record.specs.Whole.{IsInteger, IsWhole, ItemsAreWhole, IsBelow, MembersAreWhole}
use Rattle.dbl_record.specs.Acts.{cell_error, or_later, first_error, bare_value}
use Rattle.dbl_model_table.specs.declared.identity.Identity.{Identity}
use Rattle.dbl_model_table.specs.declared.row.Key.{Key}
use Rattle.dbl_model_table.specs.declared.table.TableName.{TableName}
use Rattle.dbl_model_table.specs.declared.table.TableInfo.{TableInfo}
use Rattle.dbl_model_table.specs.declared.change.Commit.{Commit}
use Rattle.dbl_model_history.specs.Ranges.{IsValueInRange, AreValuesInRange, IsCommitInRange, IsMomentInRange}
use Rattle.dbl_model_history.specs.Image.{members_of}
use Rattle.dbl_model_event.specs.EventJson.{milliseconds_of, source_data, event_data}
use Rattle.dbl_model_event.specs.Snapshots.{last_data, progress_key, progress_data}
use Rattle.dbl_model_history.proofs.ImageLemmas.{put_whole}

-- members that are whole, none of them an array, an object or a float
pub record IsRow (ms : Members) : Type 0 where
  pub whole : MembersAreWhole ms
  pub flat : first_error ms ≡ None

-- ---- values

integer_whole : (z : ℤ) → FitsSigned w64 z → IsInteger (of_integer z)
integer_whole (pos n) h = let fits = h.sfits in omega arith
integer_whole (negsuc n) h = let fits = h.sfits in omega arith

-- of a value alone its number matters
abbrev pub Fits : Val → Type 0
Fits val.Null = Unit {0}
Fits (val.Bool truth) = Unit {0}
Fits (val.Int z) = FitsSigned w64 z
Fits (val.Text text) = Unit {0}
Fits (val.Bytes bytes) = Unit {0}
Fits (val.Date z) = FitsSigned w64 z
Fits (val.Time z) = FitsSigned w64 z
Fits (val.Stamp z) = FitsSigned w64 z
Fits (val.StampTz z) = FitsSigned w64 z

abbrev pub AllFit : List Val → Type 0
AllFit values = AllByRecursion Fits values

wider : (z : ℤ) → FitsSigned w32 z → FitsSigned w64 z
wider (pos n) h = let fits = h.sfits in record { sfits = omega arith }
wider (negsuc n) h = let fits = h.sfits in record { sfits = omega arith }

pub fits_in_range : (v : Val) → IsValueInRange v → Fits v
fits_in_range val.Null h = tt
fits_in_range (val.Bool truth) h = tt
fits_in_range (val.Int z) h = h
fits_in_range (val.Text text) h = tt
fits_in_range (val.Bytes bytes) h = tt
fits_in_range (val.Date z) h = wider z h
fits_in_range (val.Time z) h = h
fits_in_range (val.Stamp z) h = h
fits_in_range (val.StampTz z) h = h

pub all_fit_in_range : (values : List Val) → AreValuesInRange values → AllFit values
all_fit_in_range [] h = tt
all_fit_in_range (v ∷ values) h = (fits_in_range v h.0, all_fit_in_range values h.1)

value_whole : (v : Val) → Fits v → IsWhole (json_data v)
value_whole val.Null h = tt
value_whole (val.Bool truth) h = tt
value_whole (val.Int z) h = integer_whole z h
value_whole (val.Text text) h = tt
value_whole (val.Bytes bytes) h = tt
value_whole (val.Date z) h = integer_whole z h
value_whole (val.Time z) h = integer_whole z h
value_whole (val.Stamp z) h = integer_whole z h
value_whole (val.StampTz z) h = either (is_instant z)
  where
    either : (b : Bool) → IsWhole (if b then string (zulu_text z) else number (of_integer z))
    either true = tt
    either false = integer_whole z h

integer_flat : (column : List ℕ) (z : ℤ) → cell_error column (number (of_integer z)) ≡ None
integer_flat column (pos n) = refl
integer_flat column (negsuc n) = refl

value_flat : (column : List ℕ) (v : Val) → cell_error column (json_data v) ≡ None
value_flat column val.Null = refl
value_flat column (val.Bool truth) = refl
value_flat column (val.Int z) = integer_flat column z
value_flat column (val.Text text) = refl
value_flat column (val.Bytes bytes) = refl
value_flat column (val.Date z) = integer_flat column z
value_flat column (val.Time z) = integer_flat column z
value_flat column (val.Stamp z) = integer_flat column z
value_flat column (val.StampTz z) = either (is_instant z)
  where
    either : (b : Bool) → cell_error column (if b then string (zulu_text z) else number (of_integer z)) ≡ None
    either true = refl
    either false = integer_flat column z

first_none : (a b : Option ConsumeError) → or_later a b ≡ None → (a ≡ None) × (b ≡ None)
first_none None b e = (refl, e)
first_none (Some f) b e = absurd (cc)

both_none : (a b : Option ConsumeError) → a ≡ None → b ≡ None → or_later a b ≡ None
both_none a b x y = rw x y

-- whether a cell can be held doesn't hang on its column
cell_apart : (other : List ℕ) (d : Data) (column : List ℕ) → cell_error column d ≡ None → cell_error other d ≡ None
cell_apart other null column e = refl
cell_apart other (boolean b) column e = refl
cell_apart other (number (unsigned n)) column e = refl
cell_apart other (number (negative z)) column e = refl
cell_apart other (number (float x)) column e = cc
cell_apart other (string s) column e = refl
cell_apart other (array ds) column e = cc
cell_apart other (object ms) column e = cc

put_flat : (column : List ℕ) (d : Data) (ms : Members) → cell_error column d ≡ None → first_error ms ≡ None → first_error (put column d ms) ≡ None
put_flat column d no_members cell rest = both_none (cell_error column d) None cell refl
put_flat column d (member other e ms) cell rest =
    let p = first_none (cell_error other e) (first_error ms) rest in
    step (slice_cmp nat_cmp column other) (cell_apart other d column cell) (put_flat column d ms cell p.1)
  where
    step : (o : Ordering) → cell_error other d ≡ None → first_error (put column d ms) ≡ None → first_error (match_ordering o (member column d (member other e ms)) (member other d ms) (member other e (put column d ms))) ≡ None
    step Less there later = both_none (cell_error column d) _ cell rest
    step Equal there later = both_none (cell_error other d) _ there (first_none (cell_error other e) (first_error ms) rest).1
    step Greater there later = both_none (cell_error other e) _ (first_none (cell_error other e) (first_error ms) rest).0 later

-- values that fit, under their names
pub row_of_values : (names : List (List ℕ)) (values : List Val) → AllFit values → IsRow (members_of names values)
row_of_values [] values h = record { whole = tt; flat = refl }
row_of_values (name ∷ names) [] h = record { whole = tt; flat = refl }
row_of_values (name ∷ names) (v ∷ values) h =
    let rest = row_of_values names values h.1 in
    record {
      whole = put_whole name (json_data v) (members_of names values) (value_whole v h.0) rest.whole;
      flat = put_flat name (json_data v) (members_of names values) (value_flat name v) rest.flat;
    }

-- ---- sources and events

abbrev is_less : Ordering → Bool
is_less Less = true
is_less Equal = false
is_less Greater = false

abbrev is_below : List ℕ → Members → Bool
is_below name no_members = true
is_below name (member other d ms) = is_less (slice_cmp nat_cmp name other) && is_below name ms

-- a test of the order of names, which computes
abbrev in_order : Members → Bool
in_order no_members = true
in_order (member name d ms) = is_below name ms && in_order ms

abbrev EachWhole : Members → Type 0
EachWhole no_members = Unit {0}
EachWhole (member name d ms) = IsWhole d × EachWhole ms

less : (o : Ordering) → is_less o ≡ true → o ≡ Less
less Less e = refl
less Equal e = absurd (cc)
less Greater e = absurd (cc)

below : (name : List ℕ) (ms : Members) → is_below name ms ≡ true → IsBelow name ms
below name no_members e = tt
below name (member other d ms) e = let p = and_parts _ _ e in (less _ p.0, below name ms p.1)

whole_members : (ms : Members) → in_order ms ≡ true → EachWhole ms → MembersAreWhole ms
whole_members no_members e each = tt
whole_members (member name d ms) e each = let p = and_parts _ _ e in (each.0, below name ms p.0, whole_members ms p.1 each.1)

abbrev members_in : Data → Members
members_in null = no_members
members_in (boolean b) = no_members
members_in (number n) = no_members
members_in (string s) = no_members
members_in (array ds) = no_members
members_in (object ms) = ms

milliseconds_fit : (time : ℤ) → FitsSigned w64 time → IsInteger (of_integer (milliseconds_of time))
milliseconds_fit (pos n) h = let fits = h.sfits in omega (arith, div-le_self (n + 946684800000000) 1000, fits)
milliseconds_fit (negsuc n) h = step (ltb 946684800000000 (suc n))
  where
    step : (below : Bool) → IsInteger (of_integer (int_div_euclid (cond below (negsuc (suc n - suc 946684800000000)) (pos (946684800000000 - suc n))) (pos 1000)))
    step true = let fits = h.sfits in omega (arith, div-le_self (suc n - suc 946684800000000) 1000, fits)
    step false = omega (arith, div-le_self (946684800000000 - suc n) 1000)

source_whole : (snapshot : List ℕ) (identity : Identity) (table : TableName) (commit : Commit) → IsCommitInRange commit → IsWhole (source_data identity table commit snapshot)
unfolding source_data
source_whole snapshot identity table commit h =
    let low : commit.xid < 2 ^ 64 = let fits = h.xid in omega arith in
    let each : EachWhole (members_in (source_data identity table commit snapshot)) = (tt, (tt, (h.lsn, (tt, (tt, (tt, (tt, (milliseconds_fit commit.time h.time, (low, (tt, (tt, tt))))))))))) in
    whole_members (members_in (source_data identity table commit snapshot)) refl each

source_shallow : (snapshot : List ℕ) (identity : Identity) (table : TableName) (commit : Commit) → depth (source_data identity table commit snapshot) ≡ 1
unfolding source_data
source_shallow snapshot identity table commit = refl

pub event_whole : (snapshot : List ℕ) (identity : Identity) (table : TableName) (commit : Commit) (now : ℤ) (before after : Data) (op : List ℕ) → IsCommitInRange commit → IsMomentInRange now → IsWhole before → IsWhole after
    → IsWhole (event_data (source_data identity table commit snapshot) now before op after)
unfolding event_data
event_whole snapshot identity table commit now before after op h moment b a =
    let source = source_data identity table commit snapshot in
    let each : EachWhole (members_in (event_data source now before op after)) = (a, (b, (tt, (source_whole snapshot identity table commit h, (tt, (integer_whole now moment, tt)))))) in
    whole_members (members_in (event_data source now before op after)) refl each

pub event_shallow : (snapshot : List ℕ) (identity : Identity) (table : TableName) (commit : Commit) (now : ℤ) (before after : Data) (op : List ℕ) → depth before ≤ 1 → depth after ≤ 1
    → depth (event_data (source_data identity table commit snapshot) now before op after) ≤ 126
unfolding event_data
event_shallow snapshot identity table commit now before after op b a = rw (source_shallow snapshot identity table commit) (omega arith)

-- ---- how far a snapshot has come

pub progress_whole : (info : TableInfo) (through : Option Key) (done : Bool) → IsWhole (last_data info through) → IsWhole (progress_data info through done)
unfolding progress_data
progress_whole info through done last = let each : EachWhole (members_in (progress_data info through done)) = (tt, (last, (tt, tt))) in whole_members (members_in (progress_data info through done)) refl each

pub progress_shallow : (info : TableInfo) (through : Option Key) (done : Bool) → depth (last_data info through) ≤ 1 → depth (progress_data info through done) ≤ 126
unfolding progress_data
progress_shallow info through done last = omega arith

pub progress_key_whole : (info : TableInfo) → IsWhole (progress_key info)
progress_key_whole info = (tt, tt, tt)

pub progress_key_shallow : (info : TableInfo) → depth (progress_key info) ≤ 126
progress_key_shallow info = omega arith

-- ---- flat rows

cell_shallow : (column : List ℕ) (d : Data) → cell_error column d ≡ None → (depth d ≡ 0) × (as_object d ≡ None)
cell_shallow column null e = (refl, refl)
cell_shallow column (boolean b) e = (refl, refl)
cell_shallow column (number n) e = (refl, refl)
cell_shallow column (string s) e = (refl, refl)
cell_shallow column (array ds) e = absurd (cc)
cell_shallow column (object ms) e = absurd (cc)

flat_depth : (ms : Members) → first_error ms ≡ None → members_depth ms ≡ 0
flat_depth no_members e = refl
flat_depth (member column d ms) e = let p = first_none (cell_error column d) (first_error ms) e in rw ((cell_shallow column d p.0).0, flat_depth ms p.1) refl

pub row_shallow : (ms : Members) → IsRow ms → depth (object ms) ≤ 1
row_shallow ms row = omega (arith, flat_depth ms row.flat)

found_flat : (o : Ordering) (rest : Option Data) (d : Data) → as_object d ≡ None → option_and_then as_object rest ≡ None → option_and_then as_object (match_ordering o rest (Some d) rest) ≡ None
found_flat Less rest d e h = h
found_flat Equal rest d e h = e
found_flat Greater rest d e h = h

no_payload : (name : List ℕ) (ms : Members) → first_error ms ≡ None → option_and_then as_object (get_member name ms) ≡ None
no_payload name no_members e = refl
no_payload name (member column d ms) e =
    let p = first_none (cell_error column d) (first_error ms) e in
    found_flat (slice_cmp nat_cmp name column) (get_member name ms) d (cell_shallow column d p.0).1 (no_payload name ms p.1)

either_none : (b : Bool) (o : Option Members) → o ≡ None → cond b o None ≡ None
either_none true o e = e
either_none false o e = refl

-- a flat object is no wrapped one
pub unwrapped_flat : (ms : Members) → first_error ms ≡ None → bare_value (object ms) ≡ object ms
unwrapped_flat ms e = rw (either_none _ _ (no_payload (codes "payload") ms e)) refl

-- ---- whole data have no float

number_plain : (n : Num) → IsInteger n → is_float n ≡ false
number_plain (unsigned n) h = refl
number_plain (negative z) h = refl
number_plain (float x) h = elim h [ ]

mutual
  pub whole_plain : (d : Data) → IsWhole d → has_float d ≡ false
  whole_plain null h = refl
  whole_plain (boolean b) h = refl
  whole_plain (number n) h = number_plain n h
  whole_plain (string s) h = refl
  whole_plain (array ds) h = items_plain ds h
  whole_plain (object ms) h = members_plain ms h

  items_plain : (ds : Items) → ItemsAreWhole ds → items_have_float ds ≡ false
  items_plain no_items h = refl
  items_plain (item d ds) h = rw (whole_plain d h.0) (items_plain ds h.1)

  members_plain : (ms : Members) → MembersAreWhole ms → members_have_float ms ≡ false
  members_plain no_members h = refl
  members_plain (member name d ms) h = rw (whole_plain d h.0) (members_plain ms h.2)
