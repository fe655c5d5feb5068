-- How the captured tables grow.
use Rattle.std.proofs.Common.{◌≡◌, ◌⊎◌, inl, inr, ◌∙◌, ℕ, ◌<◌, ◌≤◌, arith, nat_lt, Bool, true, false, Option, Some, None, List, [], ◌∷◌, ◌++◌, map, length, refl, sym, ap, ap₂, subst}
use Rattle.std.specs.Prelude.{◌||◌, ◌&&◌, not, if◌then◌else◌, option_map}
use Rattle.std.specs.List.{list_any}
use Rattle.std.proofs.lemmas.List.{append-nil, map-append, length-map}
use Rattle.std.proofs.lemmas.List.Folds.{list_any-append}
use Rattle.std.proofs.lemmas.Bool.Decides.{Decides-ltb}
use Rattle.std.proofs.lemmas.Slice.Eq.{bytes_eq-Decides}
use Rattle.dbl_pgmsg.specs.declared.messages.Message.{Message}
use Rattle.dbl_pgmsg.specs.declared.messages.Message.TheVariants as says
use Rattle.dbl_pgmsg.specs.declared.messages.RelationColumn.{RelationColumn}
use Rattle.dbl_model_table.specs.declared.table.RawTable.{RawTable}
use Rattle.dbl_model_table.specs.declared.table.TableInfo.{TableInfo}
use Rattle.dbl_model_table.specs.declared.table.TableKey.{TableKey}
use Rattle.dbl_model_table.specs.declared.table.TableName.{TableName}
use Rattle.dbl_model_table.specs.Tables.{same_name, is_watermark}
use Rattle.dbl_model_table.specs.Infos.{catalogue_of}
use Rattle.dbl_model_commit.specs.Past.{table_named, HasNoRelation}
use Rattle.dbl_model_commit.specs.Stated.{list_of}
use Rattle.dbl_model_table.proofs.InfoLemmas.{one_info}
use Rattle.dbl_model_table.specs.declared.error.ModelError.{ModelError}
use Rattle.dbl_model_table.specs.Made.{table_fault}
use Rattle.dblog_replay.specs.declared.log_fault.LogFault.{LogFault}
use Rattle.dblog_replay.specs.declared.log_fault.LogFault.TheVariants as log
use Rattle.dbl_hooks_masks.specs.declared.fault.MaskFault.{MaskFault}
use Rattle.dbl_hooks_masks.specs.declared.masking.Masking.{Masking}
use Rattle.dbl_hooks_masks.specs.Faults.{mask_fault}
use Rattle.dblog_replay.specs.Captures.{room_fault, entry_fault, or_else, column_fault, capture_fault, entry_of, is_among, new_table, table_told, with_columns, altered_by, tables_in, AreCaptured}
use Rattle.dbl_model_commit.specs.Shapes.{columns_in}

pub or_false : (a b : Bool) → (a || b) ≡ false → (a ≡ false) × (b ≡ false)
or_false true b is = cc
or_false false b is = (refl, is)

pub same_name-self : (name : TableName) → same_name name name ≡ true
same_name-self name =
    ap₂ (λ (s n : Bool). s && n) ((bytes_eq-Decides name.schema name.schema).1 refl) ((bytes_eq-Decides name.name name.name).1 refl)

among_new : (name : TableName) (raw : RawTable) → raw.name ≡ name → is_among name (raw ∷ []) ≡ true
among_new name raw is = subst (λ (n : TableName). is_among n (raw ∷ []) ≡ true) is (ap (λ (b : Bool). b || false) (same_name-self raw.name))

-- a table that is told again has not been told
new_other : (tables : List RawTable) (raw : RawTable) (name : TableName) → is_watermark name ≡ false → is_among name tables ≡ false
    → is_among name (list_of (new_table tables raw)) ≡ false → raw.name ≡ name → ⊥
new_other tables raw name no_mark none later is =
    let f : Bool → Option RawTable = λ b. if b then None else Some raw in
    let told : new_table tables raw ≡ Some raw = ap f (ap (λ (n : TableName). is_watermark n || is_among n tables) is ∙ ap₂ (λ (a b : Bool). a || b) no_mark none) in
    let found : is_among name (list_of (new_table tables raw)) ≡ true = ap (λ (o : Option RawTable). is_among name (list_of o)) told ∙ among_new name raw is in
    let both : true ≡ false = sym found ∙ later in
    cc

-- names stay where columns change
among_with : (name other : TableName) (columns : List RelationColumn) (tables : List RawTable) → is_among name (with_columns other columns tables) ≡ is_among name tables
among_with name other columns [] = refl
among_with name other columns (t ∷ ts) = by (same_name t.name other) (among_with name other columns ts)
  where
    by : (b : Bool) → is_among name (with_columns other columns ts) ≡ is_among name ts
        → is_among name (if b then record t { columns = columns_in columns } ∷ ts else t ∷ with_columns other columns ts) ≡ (same_name t.name name || is_among name ts)
    by true rest = refl
    by false rest = ap (λ (b : Bool). same_name t.name name || b) rest

among_altered : (name : TableName) (m : Message) (tables : List RawTable) → is_among name (altered_by m tables) ≡ is_among name tables
among_altered name (says.Relation oid namespace told identity columns) tables = by (is_watermark (table_named namespace told))
  where
    by : (b : Bool) → is_among name (if b then tables else with_columns (table_named namespace told) columns tables) ≡ is_among name tables
    by true = refl
    by false = among_with name (table_named namespace told) columns tables
among_altered name (says.Begin lsn time xid) tables = refl
among_altered name (says.Commit flags lsn end_lsn time) tables = refl
among_altered name (says.Origin lsn told) tables = refl
among_altered name (says.TypeName oid namespace told) tables = refl
among_altered name (says.Insert oid row) tables = refl
among_altered name (says.Update oid before row) tables = refl
among_altered name (says.Delete oid before) tables = refl
among_altered name (says.Truncate options oids) tables = refl
among_altered name (says.Logical flags lsn prefix content) tables = refl

-- other columns of a table that isn't there
pub with_none : (name : TableName) (columns : List RelationColumn) (tables : List RawTable) → is_among name tables ≡ false → with_columns name columns tables ≡ tables
with_none name columns [] none = refl
with_none name columns (t ∷ ts) none =
    let parts = or_false (same_name t.name name) (is_among name ts) none in
    ap (λ (b : Bool). if b then record t { columns = columns_in columns } ∷ ts else t ∷ with_columns name columns ts) parts.0 ∙ ap (λ (l : List RawTable). t ∷ l) (with_none name columns ts parts.1)

none_more : (keys : List TableKey) (name : TableName) (m : Message) (ms : List Message) → is_watermark name ≡ false → is_among name (tables_in keys ms) ≡ false → is_among name (list_of (table_told keys (tables_in keys ms) m)) ≡ false
    → HasNoRelation name ms → HasNoRelation name (m ∷ ms)
none_more keys name (says.Relation oid namespace told identity columns) ms no_mark none later before =
    (λ is. new_other (tables_in keys ms) (entry_of keys (table_named namespace told) columns) name no_mark none later is, before)
none_more keys name (says.Begin lsn time xid) ms no_mark none later before = before
none_more keys name (says.Commit flags lsn end_lsn time) ms no_mark none later before = before
none_more keys name (says.Origin lsn told) ms no_mark none later before = before
none_more keys name (says.TypeName oid namespace told) ms no_mark none later before = before
none_more keys name (says.Insert oid row) ms no_mark none later before = before
none_more keys name (says.Update oid before' row) ms no_mark none later before = before
none_more keys name (says.Delete oid before') ms no_mark none later before = before
none_more keys name (says.Truncate options oids) ms no_mark none later before = before
none_more keys name (says.Logical flags lsn prefix content) ms no_mark none later before = before

-- where no table of this name is told, no Relation describes one
pub none_told : (keys : List TableKey) (name : TableName) (ms : List Message) → is_watermark name ≡ false → is_among name (tables_in keys ms) ≡ false → HasNoRelation name ms
none_told keys name [] no_mark none = tt
none_told keys name (m ∷ ms) no_mark none =
    let tables = tables_in keys ms in
    let now = list_of (table_told keys tables m) in
    let parts = or_false (is_among name tables) (is_among name now)
    (ap (λ (b : Bool). b || is_among name now) (sym (among_altered name m tables)) ∙ sym (list_any-append (λ (t : RawTable). same_name t.name name) (altered_by m tables) now) ∙ none) in
    none_more keys name m ms no_mark parts.0 parts.1 (none_told keys name ms no_mark parts.0)

not_told : (tables : List RawTable) (raw : RawTable) → (is_watermark raw.name || is_among raw.name tables) ≡ true → new_table tables raw ≡ None
not_told tables raw is = let f : Bool → Option RawTable = λ b. if b then None else Some raw in ap f is

told_new : (tables : List RawTable) (raw : RawTable) → (is_watermark raw.name || is_among raw.name tables) ≡ false → new_table tables raw ≡ Some raw
told_new tables raw is = let f : Bool → Option RawTable = λ b. if b then None else Some raw in ap f is

told_some : (tables : List RawTable) (raw found : RawTable) (test : Bool) → (is_watermark raw.name || is_among raw.name tables) ≡ test → new_table tables raw ≡ Some found → (test ≡ false) × (raw ≡ found)
told_some tables raw found true is told = let no : None ≡ Some found = sym (not_told tables raw is) ∙ told in cc
told_some tables raw found false is told = let yes : Some raw ≡ Some found = sym (told_new tables raw is) ∙ told in (refl, cc)

-- no Relation before it describes the table that a message is the first to describe
pub told_has_none : (keys : List TableKey) (ms : List Message) (m : Message) (raw : RawTable) → table_told keys (tables_in keys ms) m ≡ Some raw → HasNoRelation raw.name ms
told_has_none keys ms (says.Relation oid namespace told identity columns) raw is =
    let entry = entry_of keys (table_named namespace told) columns in
    let found = told_some (tables_in keys ms) entry raw (is_watermark entry.name || is_among entry.name (tables_in keys ms)) refl is in
    let parts = or_false (is_watermark entry.name) (is_among entry.name (tables_in keys ms)) found.0 in
    subst (λ (r : RawTable). HasNoRelation r.name ms) found.1 (none_told keys entry.name ms parts.0 parts.1)
told_has_none keys ms (says.Begin lsn time xid) raw is = cc
told_has_none keys ms (says.Commit flags lsn end_lsn time) raw is = cc
told_has_none keys ms (says.Origin lsn told) raw is = cc
told_has_none keys ms (says.TypeName oid namespace told) raw is = cc
told_has_none keys ms (says.Insert oid row) raw is = cc
told_has_none keys ms (says.Update oid before row) raw is = cc
told_has_none keys ms (says.Delete oid before) raw is = cc
told_has_none keys ms (says.Truncate options oids) raw is = cc
told_has_none keys ms (says.Logical flags lsn prefix content) raw is = cc

-- a table is described with its first version
pub told_first : (keys : List TableKey) (tables : List RawTable) (m : Message) (raw : RawTable) → table_told keys tables m ≡ Some raw
    → record raw { version = 1 } ≡ raw
told_first keys tables (says.Relation oid namespace told identity columns) raw is =
    let entry = entry_of keys (table_named namespace told) columns in
    let found = told_some tables entry raw (is_watermark entry.name || is_among entry.name tables) refl is in
    subst (λ (r : RawTable). record r { version = 1 } ≡ r) found.1 refl
told_first keys tables (says.Begin lsn time xid) raw is = cc
told_first keys tables (says.Commit flags lsn end_lsn time) raw is = cc
told_first keys tables (says.Origin lsn told) raw is = cc
told_first keys tables (says.TypeName oid namespace told) raw is = cc
told_first keys tables (says.Insert oid row) raw is = cc
told_first keys tables (says.Update oid before row) raw is = cc
told_first keys tables (says.Delete oid before) raw is = cc
told_first keys tables (says.Truncate options oids) raw is = cc
told_first keys tables (says.Logical flags lsn prefix content) raw is = cc

-- ---- infos and entries

pub any-infos : (name : TableName) (infos : List TableInfo) → is_among name (map catalogue_of infos) ≡ list_any (λ (info : TableInfo). same_name info.name name) infos
any-infos name [] = refl
any-infos name (info ∷ infos) = ap (λ (b : Bool). same_name info.name name || b) (any-infos name infos)

pub among_infos : (keys : List TableKey) (name : TableName) (ms : List Message) (infos : List TableInfo) → AreCaptured keys ms infos → list_any (λ (info : TableInfo). same_name info.name name) infos ≡ is_among name (tables_in keys ms)
among_infos keys name ms infos captured = sym (any-infos name infos) ∙ ap (is_among name) captured

pub count_is : (keys : List TableKey) (ms : List Message) (infos : List TableInfo) → AreCaptured keys ms infos → length infos ≡ length (tables_in keys ms)
count_is keys ms infos captured = sym (length-map infos catalogue_of) ∙ ap length captured

-- a message that describes no new table, and changes no columns
pub captured_still : (keys : List TableKey) (m : Message) (ms : List Message) (infos : List TableInfo) → AreCaptured keys ms infos → table_told keys (tables_in keys ms) m ≡ None
    → altered_by m (tables_in keys ms) ≡ tables_in keys ms → AreCaptured keys (m ∷ ms) infos
captured_still keys m ms infos captured none same =
    captured ∙ sym (ap₂ (λ (t : List RawTable) (o : Option RawTable). t ++ list_of o) same none ∙ append-nil (tables_in keys ms))

-- a message that describes no new table
pub captured_now : (keys : List TableKey) (m : Message) (ms : List Message) (infos : List TableInfo) → table_told keys (tables_in keys ms) m ≡ None
    → map catalogue_of infos ≡ altered_by m (tables_in keys ms) → AreCaptured keys (m ∷ ms) infos
captured_now keys m ms infos none now =
    now ∙ sym (ap (λ (o : Option RawTable). altered_by m (tables_in keys ms) ++ list_of o) none ∙ append-nil (altered_by m (tables_in keys ms)))

-- a new table changes no columns
pub new_alters_none : (keys : List TableKey) (tables : List RawTable) (m : Message) (raw : RawTable) → table_told keys tables m ≡ Some raw → altered_by m tables ≡ tables
new_alters_none keys tables (says.Relation oid namespace told identity columns) raw is =
    let entry = entry_of keys (table_named namespace told) columns in
    let found = told_some tables entry raw (is_watermark entry.name || is_among entry.name tables) refl is in
    let parts = or_false (is_watermark entry.name) (is_among entry.name tables) found.0 in
    ap (λ (b : Bool). if b then tables else with_columns (table_named namespace told) columns tables) parts.0 ∙ with_none entry.name columns tables parts.1
new_alters_none keys tables (says.Begin lsn time xid) raw is = cc
new_alters_none keys tables (says.Commit flags lsn end_lsn time) raw is = cc
new_alters_none keys tables (says.Origin lsn told) raw is = cc
new_alters_none keys tables (says.TypeName oid namespace told) raw is = cc
new_alters_none keys tables (says.Insert oid row) raw is = cc
new_alters_none keys tables (says.Update oid before row) raw is = cc
new_alters_none keys tables (says.Delete oid before) raw is = cc
new_alters_none keys tables (says.Truncate options oids) raw is = cc
new_alters_none keys tables (says.Logical flags lsn prefix content) raw is = cc

-- and one that describes one
pub captured_more : (keys : List TableKey) (m : Message) (ms : List Message) (infos : List TableInfo) (info : TableInfo) (raw : RawTable) → AreCaptured keys ms infos → table_told keys (tables_in keys ms) m ≡ Some raw → catalogue_of info ≡ raw
    → AreCaptured keys (m ∷ ms) (infos ++ info ∷ [])
captured_more keys m ms infos info raw captured told is =
    map-append catalogue_of infos (info ∷ []) ∙ ap₂ (λ (a b : List RawTable). a ++ b) captured (ap (λ (r : RawTable). r ∷ []) is)
    ∙ sym (ap₂ (λ (t : List RawTable) (o : Option RawTable). t ++ list_of o) (new_alters_none keys (tables_in keys ms) m raw told) told)

not_false : (b : Bool) → not b ≡ true → b ≡ false
not_false true is = cc
not_false false is = refl

not_true : (b : Bool) → not b ≡ false → b ≡ true
not_true true is = refl
not_true false is = cc

-- whether the table of a Relation is told again
known_test : (keys : List TableKey) (ms : List Message) (infos : List TableInfo) (name : TableName) (columns : List RelationColumn) → AreCaptured keys ms infos
    → (is_watermark name || list_any (λ (info : TableInfo). same_name info.name name) infos) ≡ (is_watermark name || is_among name (tables_in keys ms))
known_test keys ms infos name columns captured = ap (λ (b : Bool). is_watermark name || b) (among_infos keys name ms infos captured)

pub is_known : (keys : List TableKey) (ms : List Message) (infos : List TableInfo) (name : TableName) (columns : List RelationColumn) (test : Bool) → AreCaptured keys ms infos
    → test ≡ not (is_watermark name || list_any (λ (info : TableInfo). same_name info.name name) infos) → test ≡ false → new_table (tables_in keys ms) (entry_of keys name columns) ≡ None
is_known keys ms infos name columns test captured is known =
    not_told (tables_in keys ms) (entry_of keys name columns) (sym (known_test keys ms infos name columns captured) ∙ not_true _ (sym is ∙ known))

pub is_new : (keys : List TableKey) (ms : List Message) (infos : List TableInfo) (name : TableName) (columns : List RelationColumn) (test : Bool) → AreCaptured keys ms infos
    → test ≡ not (is_watermark name || list_any (λ (info : TableInfo). same_name info.name name) infos) → test ≡ true → new_table (tables_in keys ms) (entry_of keys name columns) ≡ Some (entry_of keys name columns)
is_new keys ms infos name columns test captured is new =
    told_new (tables_in keys ms) (entry_of keys name columns) (sym (known_test keys ms infos name columns captured) ∙ not_false _ (sym is ∙ new))

pub new_has_none : (keys : List TableKey) (ms : List Message) (infos : List TableInfo) (name : TableName) (test : Bool) → AreCaptured keys ms infos
    → test ≡ not (is_watermark name || list_any (λ (info : TableInfo). same_name info.name name) infos) → test ≡ true → HasNoRelation name ms
new_has_none keys ms infos name test captured is new =
    let parts = or_false _ _ (sym (known_test keys ms infos name [] captured) ∙ not_false _ (sym is ∙ new)) in
    none_told keys name ms parts.0 parts.1

-- the tests of a new table's name
pub new_parts : (infos : List TableInfo) (name : TableName) (test : Bool)
    → test ≡ not (is_watermark name || list_any (λ (info : TableInfo). same_name info.name name) infos) → test ≡ true
    → (is_watermark name ≡ false) × (list_any (λ (info : TableInfo). same_name info.name name) infos ≡ false)
new_parts infos name test is new = or_false _ _ (not_false _ (sym is ∙ new))

-- ---- infos are determined by their entries

first_is : (a b : RawTable) (as' bs : List RawTable) → a ∷ as' ≡ b ∷ bs → a ≡ b
first_is a b as' bs same = cc

others_are : (a b : RawTable) (as' bs : List RawTable) → a ∷ as' ≡ b ∷ bs → as' ≡ bs
others_are a b as' bs same = cc

pub infos_one : (xs ys : List TableInfo) → map catalogue_of xs ≡ map catalogue_of ys → xs ≡ ys
infos_one [] [] same = refl
infos_one [] (y ∷ ys) same = cc
infos_one (x ∷ xs) [] same = cc
infos_one (x ∷ xs) (y ∷ ys) same =
    ap₂ (λ (z : TableInfo) (zs : List TableInfo). z ∷ zs) (one_info (catalogue_of y) x y (first_is _ _ _ _ same) refl) (infos_one xs ys (others_are _ _ _ _ same))

-- ---- what can be captured

entry_err : (count : ℕ) (found : Option ModelError) (e : LogFault) → option_map log.Table found ≡ Some e → entry_fault count found ≡ Some e
entry_err count None e is = cc
entry_err count (Some error) e is = is

entry_room : (count : ℕ) (found : Option ModelError) → option_map log.Table found ≡ None → entry_fault count found ≡ room_fault count
entry_room count None is = refl
entry_room count (Some error) is = cc

pub entry_fails : (mask : Option Masking) (count : ℕ) (raw : RawTable) (e : LogFault)
    → (e ≡ log.Memory) ⊎ (option_map log.Table (table_fault raw) ≡ Some e) → (e ≡ log.Memory) ⊎ (capture_fault mask count raw ≡ Some e)
entry_fails mask count raw e (inl memory) = inl memory
entry_fails mask count raw e (inr told) =
    inr (ap (λ (o : Option LogFault). or_else o (column_fault mask raw)) (entry_err count (table_fault raw) e told))

entry_fits : (mask : Option Masking) (count : ℕ) (raw : RawTable) → option_map log.Table (table_fault raw) ≡ None
    → capture_fault mask count raw ≡ or_else (room_fault count) (column_fault mask raw)
entry_fits mask count raw told = ap (λ (o : Option LogFault). or_else o (column_fault mask raw)) (entry_room count (table_fault raw) told)

room_test : (b : Bool) → (b ≡ true → ⊥) → b ≡ false
room_test true never = absurd (never refl)
room_test false never = refl

room_full : (count : ℕ) → 64 ≤ count → room_fault count ≡ Some log.TooManyTables
room_full count full =
    let f : Bool → Option LogFault = λ b. if b then None else Some log.TooManyTables in
    ap f (room_test (nat_lt count 64) (λ below. omega (arith, (Decides-ltb count 64).0 below)))

room_left : (count : ℕ) → count < 64 → room_fault count ≡ None
room_left count below = let f : Bool → Option LogFault = λ b. if b then None else Some log.TooManyTables in ap f ((Decides-ltb count 64).1 below)

-- there are too many tables
pub capture_full : (mask : Option Masking) (count : ℕ) (raw : RawTable) → option_map log.Table (table_fault raw) ≡ None → 64 ≤ count
    → capture_fault mask count raw ≡ Some log.TooManyTables
capture_full mask count raw told full =
    entry_fits mask count raw told ∙ ap (λ (o : Option LogFault). or_else o (column_fault mask raw)) (room_full count full)

-- there is room for the table, whose column may be the reason
pub capture_left : (mask : Option Masking) (count : ℕ) (raw : RawTable) → option_map log.Table (table_fault raw) ≡ None → count < 64
    → capture_fault mask count raw ≡ column_fault mask raw
capture_left mask count raw told below =
    entry_fits mask count raw told ∙ ap (λ (o : Option LogFault). or_else o (column_fault mask raw)) (room_left count below)

pub column_fails : (mask : Option Masking) (count : ℕ) (raw : RawTable) (e : LogFault) → option_map log.Table (table_fault raw) ≡ None → count < 64
    → (e ≡ log.Memory) ⊎ (column_fault mask raw ≡ Some e) → (e ≡ log.Memory) ⊎ (capture_fault mask count raw ≡ Some e)
column_fails mask count raw e told below (inl memory) = inl memory
column_fails mask count raw e told below (inr fault) = inr (capture_left mask count raw told below ∙ fault)

-- the table's column can't be masked
pub column_judged : (mask : Option Masking) (plan : Masking) (raw : RawTable) (error : MaskFault) (table : TableName) (column : List ℕ)
    → mask ≡ Some plan → same_name plan.table raw.name ≡ true → mask_fault raw plan.column ≡ Some error → table ≡ plan.table → column ≡ plan.column
    → column_fault mask raw ≡ Some (log.Mask table column error)
column_judged mask plan raw error table column is same fault table_is column_is =
    let f : Bool → Option LogFault = λ b. if b then option_map (log.Mask plan.table plan.column) (mask_fault raw plan.column) else None in
    ap (λ (o : Option Masking). column_fault o raw) is ∙ ap f same ∙ ap (option_map (log.Mask plan.table plan.column)) fault
    ∙ ap₂ (λ (t : TableName) (c : List ℕ). Some (log.Mask t c error)) (sym table_is) (sym column_is)
