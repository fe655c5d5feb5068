-- Which columns make no table after an alteration: one fault after the other.
use Rattle.std.proofs.Common.{◌≡◌, ◌∙◌, ℕ, Bool, true, false, cond, Option, Some, None, List, [], ◌∷◌, ◌++◌, length, refl, sym, ap, append_assoc}
use Rattle.std.specs.Prelude.{◌||◌, ◌&&◌, not, nat_lt, nat_le, is_some, if◌then◌else◌, option_map, filter, bytes_eq}
use Rattle.std.specs.List.{find, list_any, list_all}
use Rattle.std.proofs.lemmas.List.{append-nil, length-map}
use Rattle.dbl_value_types.specs.Types.{is_float}
use Rattle.dbl_model_table.specs.declared.error.ModelError.{ModelError}
use Rattle.dbl_model_table.specs.declared.error.ModelError.TheVariants.{BadName, DuplicateColumn, FloatColumn, NoKey, KeyType}
use Rattle.dbl_model_table.specs.declared.table.RawColumn.{RawColumn}
use Rattle.dbl_model_table.specs.declared.table.RawTable.{RawTable}
use Rattle.dbl_model_table.specs.declared.table.TableInfo.{TableInfo}
use Rattle.dbl_model_table.specs.Infos.{raw_column, catalogue_of}
use Rattle.dbl_model_table.specs.Made.{raw_names, first_repeated, first_float, has_key, is_key_column, has_key_type, first_unfit, name_fault, column_fault, float_fault, key_fault, key_type_fault, first_fault, table_fault}
use Rattle.dbl_model_table.specs.Tables.{is_good_name, are_distinct}
use Rattle.dbl_model_table.proofs.Capturable.{no_fault}
use Rattle.dbl_model_table.proofs.InfoLemmas.{good_name}
use Rattle.dbl_model_table.proofs.Lists.{same_text, and_left, and_right, or_false, or_right, or_none}
use Rattle.dbl_tables_rows.specs.Cells.{is_column, is_key_name, spells_cell}
use Rattle.dbl_tables_rows.specs.Sending.{column_type, column_limit}
use Rattle.dbl_tables_laws.proofs.GivenLemmas.{key_columns}
use Rattle.dbl_tables_altered.specs.declared.alteration.Alteration.{Alteration}
use Rattle.dbl_tables_altered.specs.declared.alteration.Alteration.TheVariants.{Add, Remove}
use Rattle.dbl_tables_altered.specs.Alterations.{removes, columns_after, raw_after, is_misplaced, makes_no_table, is_unfit}
use Rattle.dbl_tables_epochs.specs.Laws.{RefusalsAreExplicit}
use Rattle.dbl_tables_epochs.proofs.KeptLemmas.{kept_column}

-- ---- faults

-- Whether the columns make no table, fault by fault.
abbrev any_fault : Bool → Bool → Bool → Bool → Bool → Bool
any_fault a b c d e = a || (b || (c || (d || e)))

some_first : (o : Option ModelError) (faults : List (Option ModelError)) → is_some (first_fault (o ∷ faults)) ≡ (is_some o || is_some (first_fault faults))
some_first None faults = refl
some_first (Some e) faults = refl

some_of_five : (a b c d e : Option ModelError)
    → is_some (first_fault (a ∷ b ∷ c ∷ d ∷ e ∷ [])) ≡ any_fault (is_some a) (is_some b) (is_some c) (is_some d) (is_some e)
some_of_five a b c d e =
    some_first a (b ∷ c ∷ d ∷ e ∷ [])
    ∙ (ap (λ (x : Bool). is_some a || x) (some_first b (c ∷ d ∷ e ∷ []))
    ∙ (ap (λ (x : Bool). is_some a || (is_some b || x)) (some_first c (d ∷ e ∷ []))
    ∙ (ap (λ (x : Bool). is_some a || (is_some b || (is_some c || x))) (some_first d (e ∷ []))
    ∙ ap (λ (x : Bool). is_some a || (is_some b || (is_some c || (is_some d || x)))) (some_first e [] ∙ or_none (is_some e)))))

mapped : {A B : Type 0} (f : A → B) (o : Option A) → is_some (option_map f o) ≡ is_some o
mapped f None = refl
mapped f (Some x) = refl

unless : (b : Bool) (e : ModelError) → is_some (if b then None else Some e) ≡ not b
unless true e = refl
unless false e = refl

-- the faults of an entry by its parts
faults_are : (raw : RawTable) → is_some (table_fault raw)
    ≡ any_fault (not (is_good_name raw.name)) (is_some (first_repeated [] (raw_names raw.columns))) (is_some (first_float raw.columns)) (not (has_key raw))
    (is_some (first_unfit raw))
faults_are raw =
    some_of_five (name_fault raw) (column_fault raw) (float_fault raw) (key_fault raw) (key_type_fault raw)
    ∙ (ap (λ (x : Bool). any_fault x (is_some (column_fault raw)) (is_some (float_fault raw)) (is_some (key_fault raw)) (is_some (key_type_fault raw)))
    (unless (is_good_name raw.name) (BadName raw.name))
    ∙ (ap (λ (x : Bool). any_fault (not (is_good_name raw.name)) x (is_some (float_fault raw)) (is_some (key_fault raw)) (is_some (key_type_fault raw)))
    (mapped (DuplicateColumn raw.name) (first_repeated [] (raw_names raw.columns)))
    ∙ (ap (λ (x : Bool). any_fault (not (is_good_name raw.name)) (is_some (first_repeated [] (raw_names raw.columns))) x (is_some (key_fault raw))
    (is_some (key_type_fault raw))) (mapped (FloatColumn raw.name) (first_float raw.columns))
    ∙ (ap (λ (x : Bool). any_fault (not (is_good_name raw.name)) (is_some (first_repeated [] (raw_names raw.columns))) (is_some (first_float raw.columns)) x
    (is_some (key_type_fault raw))) (unless (has_key raw) (NoKey raw.name))
    ∙ ap (λ (x : Bool). any_fault (not (is_good_name raw.name)) (is_some (first_repeated [] (raw_names raw.columns))) (is_some (first_float raw.columns))
    (not (has_key raw)) x) (mapped (KeyType raw.name) (first_unfit raw))))))

-- ---- lists

find_push : (p : RawColumn → Bool) (xs : List RawColumn) (x : RawColumn) → is_some (find p (xs ++ x ∷ [])) ≡ (is_some (find p xs) || p x)
find_push p [] x = by (p x)
  where
    by : (b : Bool) → is_some (cond b (Some x) None) ≡ b
    by true = refl
    by false = refl
find_push p (y ∷ xs) x = by (p y) (find_push p xs x)
  where
    by : (b : Bool) → is_some (find p (xs ++ x ∷ [])) ≡ (is_some (find p xs) || p x)
        → is_some (cond b (Some y) (find p (xs ++ x ∷ []))) ≡ (is_some (cond b (Some y) (find p xs)) || p x)
    by true later = refl
    by false later = later

repeated_push : (before names : List (List ℕ)) (x : List ℕ) → is_some (first_repeated before names) ≡ false
    → is_some (first_repeated before (names ++ x ∷ [])) ≡ list_any (bytes_eq x) (before ++ names)
repeated_push before [] x none = by (list_any (bytes_eq x) before) ∙ ap (list_any (bytes_eq x)) (sym (append-nil before))
  where
    by : (b : Bool) → is_some (if b then Some x else None) ≡ b
    by true = refl
    by false = refl
repeated_push before (n ∷ names) x none = by (list_any (bytes_eq n) before) none (λ later. repeated_push (before ++ n ∷ []) names x later)
    ∙ ap (list_any (bytes_eq x)) (append_assoc before (n ∷ []) names)
  where
    by : (b : Bool) → is_some (if b then Some n else first_repeated (before ++ n ∷ []) names) ≡ false
        → (is_some (first_repeated (before ++ n ∷ []) names) ≡ false
        → is_some (first_repeated (before ++ n ∷ []) (names ++ x ∷ [])) ≡ list_any (bytes_eq x) ((before ++ n ∷ []) ++ names))
        → is_some (if b then Some n else first_repeated (before ++ n ∷ []) (names ++ x ∷ [])) ≡ list_any (bytes_eq x) ((before ++ n ∷ []) ++ names)
    by true told later = cc
    by false told later = later told

names_push : (columns : List RawColumn) (column : RawColumn) → raw_names (columns ++ column ∷ []) ≡ raw_names columns ++ column.name ∷ []
names_push [] column = refl
names_push (c ∷ columns) column = ap (λ (l : List (List ℕ)). c.name ∷ l) (names_push columns column)

all_left : (columns : List RawColumn) → filter (λ (c : RawColumn). true) columns ≡ columns
all_left [] = refl
all_left (c ∷ columns) = ap (λ (l : List RawColumn). c ∷ l) (all_left columns)

-- ---- the parts of a table's own entry, which has no fault

module _ (info : TableInfo) where
  abbrev raw : RawTable
  raw = catalogue_of info

  five : any_fault (not (is_good_name raw.name)) (is_some (first_repeated [] (raw_names raw.columns))) (is_some (first_float raw.columns)) (not (has_key raw))
      (is_some (first_unfit raw)) ≡ false
  five = sym (faults_are raw) ∙ ap is_some (no_fault info)

  later_four : (is_some (first_repeated [] (raw_names raw.columns)) || (is_some (first_float raw.columns) || (not (has_key raw) || is_some (first_unfit raw))))
      ≡ false
  later_four = (or_false (not (is_good_name raw.name))
      (is_some (first_repeated [] (raw_names raw.columns)) || (is_some (first_float raw.columns) || (not (has_key raw) || is_some (first_unfit raw)))) five).1

  later_three : (is_some (first_float raw.columns) || (not (has_key raw) || is_some (first_unfit raw))) ≡ false
  later_three = (or_false (is_some (first_repeated [] (raw_names raw.columns)))
      (is_some (first_float raw.columns) || (not (has_key raw) || is_some (first_unfit raw))) later_four).1

  later_two : (not (has_key raw) || is_some (first_unfit raw)) ≡ false
  later_two = (or_false (is_some (first_float raw.columns)) (not (has_key raw) || is_some (first_unfit raw)) later_three).1

  none_repeated : is_some (first_repeated [] (raw_names raw.columns)) ≡ false
  none_repeated = (or_false (is_some (first_repeated [] (raw_names raw.columns)))
      (is_some (first_float raw.columns) || (not (has_key raw) || is_some (first_unfit raw))) later_four).0

  none_float : is_some (first_float raw.columns) ≡ false
  none_float = (or_false (is_some (first_float raw.columns)) (not (has_key raw) || is_some (first_unfit raw)) later_three).0

  none_float_column : is_some (find (λ (c : RawColumn). is_float c.oid) raw.columns) ≡ false
  none_float_column = sym (mapped (λ (c : RawColumn). c.name) (find (λ (c : RawColumn). is_float c.oid) raw.columns)) ∙ none_float

  not_false : (b : Bool) → not b ≡ false → b ≡ true
  not_false true is = refl
  not_false false is = cc

  own_key : has_key raw ≡ true
  own_key = not_false (has_key raw) (or_false (not (has_key raw)) (is_some (first_unfit raw)) later_two).0

  none_unfit : is_some (first_unfit raw) ≡ false
  none_unfit = (or_false (not (has_key raw)) (is_some (first_unfit raw)) later_two).1

  good : not (is_good_name info.name) ≡ false
  good = ap not (good_name info)

  distinct_key : are_distinct bytes_eq raw.key ≡ true
  distinct_key = and_right (nat_lt 0 (length raw.key) && list_all (λ name. list_any (bytes_eq name) (raw_names raw.columns)) raw.key)
      (are_distinct bytes_eq raw.key) own_key

  some_key : nat_lt 0 (length raw.key) ≡ true
  some_key = and_left (nat_lt 0 (length raw.key)) (list_all (λ name. list_any (bytes_eq name) (raw_names raw.columns)) raw.key)
      (and_left (nat_lt 0 (length raw.key) && list_all (λ name. list_any (bytes_eq name) (raw_names raw.columns)) raw.key)
      (are_distinct bytes_eq raw.key) own_key)

  -- ---- key columns after an alteration that leaves them

  -- whether they have a type that is allowed in a key
  key_types_stay : (alteration : Alteration) (names : List (List ℕ)) → list_all (is_column raw) names ≡ true → list_any (removes alteration) names ≡ false
      → find (λ name. not (has_key_type (columns_after alteration raw.columns) name)) names ≡ find (λ name. not (has_key_type raw.columns name)) names
  key_types_stay alteration [] there kept = refl
  key_types_stay alteration (name ∷ names) there kept =
      let both = or_false (removes alteration name) (list_any (removes alteration) names) kept in
      ap (λ (o : Option RawColumn). cond (not (is_key_column o)) (Some name) (find (λ n. not (has_key_type (columns_after alteration raw.columns) n)) names))
      (kept_column alteration raw name (and_left (is_column raw name) (list_all (is_column raw) names) there) both.0)
      ∙ ap (cond (not (has_key_type raw.columns name)) (Some name))
      (key_types_stay alteration names (and_right (is_column raw name) (list_all (is_column raw) names) there) both.1)

  none_unfit_after : (alteration : Alteration) → list_any (removes alteration) raw.key ≡ false → is_some (first_unfit (raw_after alteration raw)) ≡ false
  none_unfit_after alteration kept = ap is_some (key_types_stay alteration raw.key (key_columns info) kept) ∙ none_unfit

  -- ---- one column more

  module _ (column : RawColumn) (text : Option (List ℕ)) where
    added : columns_after (Add column text) raw.columns ≡ raw.columns ++ column ∷ []
    added = ap (λ (l : List RawColumn). l ++ column ∷ []) (all_left raw.columns)

    repeated_added : is_some (first_repeated [] (raw_names (columns_after (Add column text) raw.columns))) ≡ is_column raw column.name
    repeated_added =
        ap (λ (l : List RawColumn). is_some (first_repeated [] (raw_names l))) added
        ∙ (ap (λ (l : List (List ℕ)). is_some (first_repeated [] l)) (names_push raw.columns column)
        ∙ repeated_push [] (raw_names raw.columns) column.name none_repeated)

    float_added : is_some (first_float (columns_after (Add column text) raw.columns)) ≡ is_float column.oid
    float_added =
        mapped (λ (c : RawColumn). c.name) (find (λ (c : RawColumn). is_float c.oid) (columns_after (Add column text) raw.columns))
        ∙ (ap (λ (l : List RawColumn). is_some (find (λ (c : RawColumn). is_float c.oid) l)) added
        ∙ (find_push (λ (c : RawColumn). is_float c.oid) raw.columns column
        ∙ ap (λ (b : Bool). b || is_float column.oid) none_float_column))

    any_more : (name : List ℕ) (names : List (List ℕ)) → list_any (bytes_eq name) names ≡ true → list_any (bytes_eq name) (names ++ column.name ∷ []) ≡ true
    any_more name [] there = cc
    any_more name (n ∷ names) there = by (bytes_eq name n) there (λ later. any_more name names later)
      where
        by : (b : Bool) → (b || list_any (bytes_eq name) names) ≡ true
            → (list_any (bytes_eq name) names ≡ true → list_any (bytes_eq name) (names ++ column.name ∷ []) ≡ true)
            → (b || list_any (bytes_eq name) (names ++ column.name ∷ [])) ≡ true
        by true told later = refl
        by false told later = later told

    all_more : (names : List (List ℕ)) → list_all (is_column raw) names ≡ true
        → list_all (λ name. list_any (bytes_eq name) (raw_names raw.columns ++ column.name ∷ [])) names ≡ true
    all_more [] there = refl
    all_more (name ∷ names) there =
        ap (λ (b : Bool). b && list_all (λ n. list_any (bytes_eq n) (raw_names raw.columns ++ column.name ∷ [])) names)
        (any_more name (raw_names raw.columns) (and_left (is_column raw name) (list_all (is_column raw) names) there))
        ∙ all_more names (and_right (is_column raw name) (list_all (is_column raw) names) there)

    key_added : has_key (raw_after (Add column text) raw) ≡ true
    key_added =
        ap (λ (l : List RawColumn). nat_lt 0 (length raw.key) && list_all
        (λ name. list_any (bytes_eq name) (raw_names l)) raw.key && are_distinct bytes_eq raw.key) added
        ∙ (ap (λ (l : List (List ℕ)). nat_lt 0 (length raw.key) && list_all (λ name. list_any (bytes_eq name) l) raw.key && are_distinct bytes_eq raw.key)
        (names_push raw.columns column)
        ∙ (ap (λ (b : Bool). nat_lt 0 (length raw.key) && b && are_distinct bytes_eq raw.key) (all_more raw.key (key_columns info))
        ∙ (ap (λ (b : Bool). b && true && are_distinct bytes_eq raw.key) some_key ∙ distinct_key)))

    none_removed : (names : List (List ℕ)) → list_any (removes (Add column text)) names ≡ false
    none_removed [] = refl
    none_removed (name ∷ names) = none_removed names

    no_table : makes_no_table (Add column text) raw ≡ (is_column raw column.name || is_float column.oid)
    no_table =
        faults_are (raw_after (Add column text) raw)
        ∙ (ap (λ (x : Bool). any_fault x (is_some (first_repeated [] (raw_names (columns_after (Add column text) raw.columns))))
        (is_some (first_float (columns_after (Add column text) raw.columns))) (not (has_key (raw_after (Add column text) raw)))
        (is_some (first_unfit (raw_after (Add column text) raw)))) good
        ∙ (ap (λ (x : Bool). any_fault false x (is_some (first_float (columns_after (Add column text) raw.columns)))
        (not (has_key (raw_after (Add column text) raw))) (is_some (first_unfit (raw_after (Add column text) raw)))) repeated_added
        ∙ (ap (λ (x : Bool). any_fault false (is_column raw column.name) x (not (has_key (raw_after (Add column text) raw)))
        (is_some (first_unfit (raw_after (Add column text) raw)))) float_added
        ∙ (ap (λ (x : Bool). any_fault false (is_column raw column.name) (is_float column.oid) (not x)
        (is_some (first_unfit (raw_after (Add column text) raw)))) key_added
        ∙ (ap (λ (x : Bool). any_fault false (is_column raw column.name) (is_float column.oid) false x)
        (none_unfit_after (Add column text) (none_removed raw.key))
        ∙ ap (λ (x : Bool). is_column raw column.name || x) (or_none (is_float column.oid)))))))

    or_four : (a b c d : Bool) → ((a || b) || (c || d)) ≡ (a || (b || (c || d)))
    or_four true b c d = refl
    or_four false b c d = refl

    adds_explicit : is_unfit (Add column text) raw
        ≡ (nat_le column_limit (length info.columns) || (not (spells_cell (column_type column) text) || (is_column raw column.name || is_float column.oid)))
    adds_explicit =
        ap (λ (x : Bool). is_misplaced (Add column text) raw || x) no_table
        ∙ (ap (λ (n : ℕ). (nat_le column_limit n || not (spells_cell (column_type column) text)) || (is_column raw column.name || is_float column.oid))
        (length-map info.columns raw_column)
        ∙ or_four (nat_le column_limit (length info.columns)) (not (spells_cell (column_type column) text)) (is_column raw column.name) (is_float column.oid))

  -- ---- one column less

  module _ (name : List ℕ) where
    abbrev left : List RawColumn → List RawColumn
    left columns = filter (λ (c : RawColumn). not (bytes_eq name c.name)) columns

    removed : columns_after (Remove name) raw.columns ≡ left raw.columns
    removed = append-nil (left raw.columns)

    -- names that are left don't repeat where they didn't
    less_before : (x : List ℕ) (few more : List (List ℕ)) → ((y : List ℕ) → list_any (bytes_eq y) few ≡ true → list_any (bytes_eq y) more ≡ true)
        → list_any (bytes_eq x) more ≡ false → list_any (bytes_eq x) few ≡ false
    less_before x few more within none = by (list_any (bytes_eq x) few) refl
      where
        by : (b : Bool) → list_any (bytes_eq x) few ≡ b → b ≡ false
        by true there = let contra : true ≡ false = sym (within x there) ∙ none in cc
        by false gone = refl

    any_push : (p : List ℕ → Bool) (xs : List (List ℕ)) (x : List ℕ) → list_any p (xs ++ x ∷ []) ≡ (list_any p xs || p x)
    any_push p [] x = or_none (p x)
    any_push p (y ∷ xs) x = by (p y) (any_push p xs x)
      where
        by : (b : Bool) → list_any p (xs ++ x ∷ []) ≡ (list_any p xs || p x) → (b || list_any p (xs ++ x ∷ [])) ≡ ((b || list_any p xs) || p x)
        by true later = refl
        by false later = later

    pushed_within : (few more : List (List ℕ)) (n : List ℕ) → ((y : List ℕ) → list_any (bytes_eq y) few ≡ true → list_any (bytes_eq y) more ≡ true)
        → (y : List ℕ) → list_any (bytes_eq y) (few ++ n ∷ []) ≡ true → list_any (bytes_eq y) (more ++ n ∷ []) ≡ true
    pushed_within few more n within y there = any_push (bytes_eq y) more n
        ∙ by (list_any (bytes_eq y) few) (bytes_eq y n) refl (sym (any_push (bytes_eq y) few n) ∙ there)
      where
        by : (b s : Bool) → list_any (bytes_eq y) few ≡ b → (b || s) ≡ true → (list_any (bytes_eq y) more || s) ≡ true
        by true s is told = ap (λ (x : Bool). x || s) (within y is)
        by false true is told = or_right (list_any (bytes_eq y) more)
        by false false is told = cc

    wider_within : (few more : List (List ℕ)) (n : List ℕ) → ((y : List ℕ) → list_any (bytes_eq y) few ≡ true → list_any (bytes_eq y) more ≡ true)
        → (y : List ℕ) → list_any (bytes_eq y) few ≡ true → list_any (bytes_eq y) (more ++ n ∷ []) ≡ true
    wider_within few more n within y there = any_push (bytes_eq y) more n ∙ ap (λ (x : Bool). x || bytes_eq y n) (within y there)

    none_repeated_left : (columns : List RawColumn) (few more : List (List ℕ))
        → ((y : List ℕ) → list_any (bytes_eq y) few ≡ true → list_any (bytes_eq y) more ≡ true) → is_some (first_repeated more (raw_names columns)) ≡ false
        → is_some (first_repeated few (raw_names (left columns))) ≡ false
    none_repeated_left [] few more within none = refl
    none_repeated_left (c ∷ columns) few more within none =
        by (list_any (bytes_eq c.name) more) (bytes_eq name c.name) refl none
        (λ later. none_repeated_left columns (few ++ c.name ∷ []) (more ++ c.name ∷ []) (pushed_within few more c.name within) later)
        (λ later. none_repeated_left columns few (more ++ c.name ∷ []) (wider_within few more c.name within) later)
      where
        by : (m r : Bool) → list_any (bytes_eq c.name) more ≡ m
            → is_some (if m then Some c.name else first_repeated (more ++ c.name ∷ []) (raw_names columns)) ≡ false
            → (is_some (first_repeated (more ++ c.name ∷ []) (raw_names columns)) ≡ false
            → is_some (first_repeated (few ++ c.name ∷ []) (raw_names (left columns))) ≡ false)
            → (is_some (first_repeated (more ++ c.name ∷ []) (raw_names columns)) ≡ false → is_some (first_repeated few (raw_names (left columns))) ≡ false)
            → is_some (first_repeated few (raw_names (cond (not r) (c ∷ left columns) (left columns)))) ≡ false
        by true r is told kept dropped = cc
        by false true is told kept dropped = dropped told
        by false false is told kept dropped =
            ap (λ (b : Bool). is_some (if b then Some c.name else first_repeated (few ++ c.name ∷ []) (raw_names (left columns))))
            (less_before c.name few more within is) ∙ kept told

    none_float_left : (columns : List RawColumn) → is_some (find (λ (c : RawColumn). is_float c.oid) columns) ≡ false
        → is_some (find (λ (c : RawColumn). is_float c.oid) (left columns)) ≡ false
    none_float_left [] none = refl
    none_float_left (c ∷ columns) none = by (is_float c.oid) (bytes_eq name c.name) refl none (λ later. none_float_left columns later)
      where
        by : (f r : Bool) → is_float c.oid ≡ f → is_some (cond f (Some c) (find (λ (x : RawColumn). is_float x.oid) columns)) ≡ false
            → (is_some (find (λ (x : RawColumn). is_float x.oid) columns) ≡ false → is_some (find (λ (x : RawColumn). is_float x.oid) (left columns)) ≡ false)
            → is_some (find (λ (x : RawColumn). is_float x.oid) (cond (not r) (c ∷ left columns) (left columns))) ≡ false
        by true r is told later = cc
        by false true is told later = later told
        by false false is told later = ap (λ (b : Bool). is_some (cond b (Some c) (find (λ (x : RawColumn). is_float x.oid) (left columns)))) is ∙ later told

    -- a name is left where it was there and isn't the removed one
    there_left : (other : List ℕ) (columns : List RawColumn)
        → list_any (bytes_eq other) (raw_names (left columns)) ≡ (list_any (bytes_eq other) (raw_names columns) && not (bytes_eq name other))
    there_left other [] = refl
    there_left other (c ∷ columns) = by (bytes_eq name c.name) (bytes_eq other c.name) refl refl (there_left other columns)
      where
        -- the removed name is this one where both are the column's
        both : bytes_eq name c.name ≡ true → bytes_eq other c.name ≡ true → bytes_eq name other ≡ true
        both r s = ap (bytes_eq name) (same_text other c.name s) ∙ r

        neither : bytes_eq name c.name ≡ false → bytes_eq other c.name ≡ true → bytes_eq name other ≡ false
        neither r s = ap (bytes_eq name) (same_text other c.name s) ∙ r

        none : (b x : Bool) → b ≡ true → (x && not b) ≡ false
        none true true is = refl
        none true false is = refl
        none false x is = cc

        by : (r s : Bool) → bytes_eq name c.name ≡ r → bytes_eq other c.name ≡ s
            → list_any (bytes_eq other) (raw_names (left columns)) ≡ (list_any (bytes_eq other) (raw_names columns) && not (bytes_eq name other))
            → list_any (bytes_eq other) (raw_names (cond (not r) (c ∷ left columns) (left columns)))
            ≡ ((s || list_any (bytes_eq other) (raw_names columns)) && not (bytes_eq name other))
        by true true r s later = later ∙ (none (bytes_eq name other) (list_any (bytes_eq other) (raw_names columns)) (both r s) ∙ sym (ap not (both r s)))
        by true false r s later = later
        by false true r s later = ap (λ (b : Bool). b || list_any (bytes_eq other) (raw_names (left columns))) s ∙ sym (ap not (neither r s))
        by false false r s later = ap (λ (b : Bool). b || list_any (bytes_eq other) (raw_names (left columns))) s ∙ later

    -- all names of a key are left where the removed one isn't among them
    all_left_names : (names : List (List ℕ)) → list_all (is_column raw) names ≡ true
        → list_all (λ n. list_any (bytes_eq n) (raw_names (left raw.columns))) names ≡ not (list_any (bytes_eq name) names)
    all_left_names [] there = refl
    all_left_names (n ∷ names) there =
        ap (λ (b : Bool). b && list_all (λ x. list_any (bytes_eq x) (raw_names (left raw.columns))) names)
        (there_left n raw.columns ∙ ap (λ (b : Bool). b && not (bytes_eq name n)) (and_left (is_column raw n) (list_all (is_column raw) names) there))
        ∙ (ap (λ (b : Bool). not (bytes_eq name n) && b) (all_left_names names (and_right (is_column raw n) (list_all (is_column raw) names) there))
        ∙ by (bytes_eq name n) (list_any (bytes_eq name) names))
      where
        by : (a b : Bool) → (not a && not b) ≡ not (a || b)
        by true b = refl
        by false b = refl

    and_yes : (b : Bool) → (b && true) ≡ b
    and_yes true = refl
    and_yes false = refl

    key_removed : has_key (raw_after (Remove name) raw) ≡ not (is_key_name raw name)
    key_removed =
        ap (λ (l : List RawColumn). nat_lt 0 (length raw.key) && list_all
        (λ n. list_any (bytes_eq n) (raw_names l)) raw.key && are_distinct bytes_eq raw.key) removed
        ∙ (ap (λ (b : Bool). nat_lt 0 (length raw.key) && b && are_distinct bytes_eq raw.key) (all_left_names raw.key (key_columns info))
        ∙ (ap (λ (b : Bool). b && not (is_key_name raw name) && are_distinct bytes_eq raw.key) some_key
        ∙ (ap (λ (b : Bool). not (is_key_name raw name) && b) distinct_key ∙ and_yes (not (is_key_name raw name)))))

    no_table_left : makes_no_table (Remove name) raw ≡ is_key_name raw name
    no_table_left =
        faults_are (raw_after (Remove name) raw)
        ∙ (ap (λ (x : Bool). any_fault x (is_some (first_repeated [] (raw_names (columns_after (Remove name) raw.columns))))
        (is_some (first_float (columns_after (Remove name) raw.columns))) (not (has_key (raw_after (Remove name) raw)))
        (is_some (first_unfit (raw_after (Remove name) raw)))) good
        ∙ (ap (λ (x : Bool). any_fault false x (is_some (first_float (columns_after (Remove name) raw.columns))) (not (has_key (raw_after (Remove name) raw)))
        (is_some (first_unfit (raw_after (Remove name) raw)))) repeats
        ∙ (ap (λ (x : Bool). any_fault false false x (not (has_key (raw_after (Remove name) raw))) (is_some (first_unfit (raw_after (Remove name) raw)))) floats
        ∙ (ap (λ (x : Bool). any_fault false false false (not x) (is_some (first_unfit (raw_after (Remove name) raw)))) key_removed
        ∙ by (is_key_name raw name) refl))))
      where
        repeats : is_some (first_repeated [] (raw_names (columns_after (Remove name) raw.columns))) ≡ false
        repeats = ap (λ (l : List RawColumn). is_some (first_repeated [] (raw_names l))) removed
            ∙ none_repeated_left raw.columns [] [] (λ y there. there) none_repeated

        floats : is_some (first_float (columns_after (Remove name) raw.columns)) ≡ false
        floats =
            mapped (λ (c : RawColumn). c.name) (find (λ (c : RawColumn). is_float c.oid) (columns_after (Remove name) raw.columns))
            ∙ (ap (λ (l : List RawColumn). is_some (find (λ (c : RawColumn). is_float c.oid) l)) removed ∙ none_float_left raw.columns none_float_column)

        by : (k : Bool) → is_key_name raw name ≡ k → (not (not k) || is_some (first_unfit (raw_after (Remove name) raw))) ≡ k
        by true is = refl
        by false is = none_unfit_after (Remove name) is

    removes_explicit : is_unfit (Remove name) raw ≡ (not (is_column raw name) || is_key_name raw name)
    removes_explicit = ap (λ (x : Bool). not (is_column raw name) || x) no_table_left

pub explicit : RefusalsAreExplicit
explicit info = record { adds = adds_explicit info; removes = removes_explicit info }
