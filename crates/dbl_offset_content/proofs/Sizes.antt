-- How long the parts of an entry are, and how a loop adds them up or writes them.
use Rattle.std.proofs.Common.{◌≡◌, ℕ, ℤ, zero, suc, ◌+◌, ◌*◌, ◌^◌, ◌<◌, ◌≤◌, List, [], ◌∷◌, ◌++◌, length, get_or, drop, Some, None, refl, sym, ap, subst, ◌∙◌, append_assoc, arith}
use Rattle.std.specs.Prelude.{FitsSigned}
use Rattle.std.specs.Int.{w64, cast_unsigned}
use Rattle.std.specs.List.{flat_map, AllByRecursion}
use Rattle.std.proofs.lemmas.List.{length-append}
use Rattle.std.proofs.lemmas.List.Elements.{All-from_recursion, All-get_or}
use Rattle.dbl_value_types.specs.declared.value.Val.{Val}
use Rattle.dbl_value_types.specs.declared.value.Val.TheVariants as val
use Rattle.dbl_value_types.specs.Types.{oid_of}
use Rattle.dbl_record.specs.Fields.{number32, number64, text_form, IsStored}
use Rattle.dbl_record.proofs.Sizes.{number32_size, number64_size, next_item, no_item}
use Rattle.dbl_model_table.specs.declared.table.Column.{Column}
use Rattle.dbl_model_table.specs.declared.table.TableInfo.{TableInfo}
use Rattle.dbl_model_table.specs.declared.identity.Identity.{Identity}
use Rattle.dbl_model_table.specs.declared.row.Key.{Key}
use Rattle.dbl_model_history.specs.declared.cursor.Cursor.{Cursor}
use Rattle.dbl_offset_versions.specs.Versions.{version_form}
use Rattle.dbl_offset_content.specs.declared.entry.TableEntry.{TableEntry}
use Rattle.dbl_offset_content.specs.declared.offset.Offset.{Offset}
use Rattle.dbl_offset_content.specs.Entries.{counted, names, column, table, cell, last_key_form, cursor, entry, entries_of, tables_with_cursors, bytes_in_format, FitsNames, FitsTableColumn, FitsTable, FitsKeyCell, FitsCursor, FitsTableCursor, FitsOffset}
use Rattle.dbl_offset_content.specs.Measures.{capped, Measures}

-- ---- sizes

pub names_size : (x : Identity) → length (names x) ≡ length (text_form x.prefix) + length (text_form x.db) + length (text_form x.placeholder)
unfolding names
names_size x = simp length-append refl

pub column_size : (c : Column) → length (column c) ≡ length (text_form c.name) + 4
unfolding column
column_size c = omega (arith, number32_size (oid_of c.ty), length-append (text_form c.name) (number32 (oid_of c.ty)))

pub counted_size : {A : Type 0} (item : A → List ℕ) (items : List A) → length (counted item items) ≡ 4 + length (flat_map item items)
unfolding counted
counted_size item items = omega (arith, number32_size (length items), length-append (number32 (length items)) (flat_map item items))

pub places_size : (key : List ℕ) → length (flat_map number32 key) ≡ length key * 4
places_size [] = refl
places_size (place ∷ key) = omega (arith, number32_size place, places_size key, length-append (number32 place) (flat_map number32 key))

pub version_size : (version : ℕ) → length (version_form 2 version) ≡ 8
unfolding version_form
version_size version = number64_size version

pub table_size : (info : TableInfo) (version : ℕ) → length (table 2 info version) ≡ length (text_form info.name.schema) + length (text_form info.name.name) + 8 + (4 + length (flat_map column info.columns)) + length (counted number32 info.key)
unfolding table
table_size info version = simp (length-append, version_size version, counted_size column info.columns) refl

-- each column has some bytes, so there are no more columns than bytes
pub columns_few : (columns : List Column) → length columns ≤ length (flat_map column columns)
columns_few [] = omega arith
columns_few (c ∷ columns) = omega (arith, columns_few columns, column_size c, length-append (column c) (flat_map column columns))

-- ---- measures

pub both : (a s b t c : ℕ) (F G : Type 0) → Measures a s F b → Measures b t G c → Measures a (s + t) (F × G) c
both a s b t c F G p q = record { long = omega (arith, p.long, q.long); fits = λ le. (p.fits (omega (arith, p.long, q.long)), q.fits le) }

-- the same bytes, of which the same or less is said
pub weaker : (a s t c : ℕ) (F G : Type 0) → s ≡ t → (F → G) → Measures a s F c → Measures a t G c
weaker a s t c F G same said p = record { long = p.long ∙ ap (λ (n : ℕ). capped (a + n)) same; fits = λ le. said (p.fits le) }

-- so many bytes of which nothing is said
pub plain : (a s c : ℕ) → c ≡ capped (a + s) → Measures a s (Unit {0}) c
plain a s c h = record { long = h; fits = λ le. tt }

-- ---- items one after the other

module _ {A : Type 0} (form : A → List ℕ) (Held : A → Type 0) where
  -- what the items from i on amount to after what was counted, all of them amount to after what stood before
  abbrev pub Rest : (before now : ℕ) (items : List A) (i : ℕ) → Type 0
  Rest before now items i = (r : ℕ) → Measures now (length (flat_map form (drop i items))) (AllByRecursion Held (drop i items)) r → Measures before (length (flat_map form items)) (AllByRecursion Held items) r

  pub sum_starts : (before : ℕ) (items : List A) → Rest before before items 0
  sum_starts before items r h = h

  pub sum_goes : (before now next : ℕ) (items : List A) (i : ℕ) (x default : A) → i < length items → x ≡ get_or items i default → Measures now (length (form x)) (Held x) next → Rest before now items i → Rest before next items (i + 1)
  sum_goes before now next items i x default lt is one rest r h =
      let e = next_item form items i x default lt is in
      let two = both now (length (form x)) next (length (flat_map form (drop (i + 1) items))) r (Held x) (AllByRecursion Held (drop (i + 1) items)) one h in
      let whole : Measures now (length (flat_map form (x ∷ drop (i + 1) items))) (AllByRecursion Held (x ∷ drop (i + 1) items)) r =
      weaker now _ _ r _ _ (sym (length-append (form x) (flat_map form (drop (i + 1) items)))) (λ p. (p.0, p.1)) two in
      rest r (subst (λ (xs : List A). Measures now (length (flat_map form xs)) (AllByRecursion Held xs) r) (sym e) whole)

  pub sum_done : (before now : ℕ) (items : List A) (i : ℕ) → length items ≤ i → now < 2 ^ 64 → Rest before now items i → Measures before (length (flat_map form items)) (AllByRecursion Held items) now
  sum_done before now items i le lt rest =
      let e = no_item form items i le in
      rest now (subst (λ (xs : List A). Measures now (length (flat_map form xs)) (AllByRecursion Held xs) now) (sym e) (record { long = omega arith; fits = λ le. tt }))

pub all_places : (key : List ℕ) → ((i : ℕ) → get_or key i 0 < 2 ^ 32) → AllByRecursion (λ place. place < 2 ^ 32) key
all_places [] h = tt
all_places (place ∷ key) h = (h 0, all_places key (λ i. h (suc i)))

-- ---- measures of the parts

pub int_measured : (before c : ℕ) (z : ℤ) → Measures before 9 (FitsSigned w64 z) c → Measures before (length (cell (val.Int z))) (FitsKeyCell (val.Int z)) c
unfolding cell
int_measured before c z m = record { long = omega (arith, m.long, number64_size (cast_unsigned w64 z)); fits = m.fits }

pub text_measured : (before a c : ℕ) (t : List ℕ) → a ≡ capped (before + 1) → Measures a (length (text_form t)) (IsStored t) c → Measures before (length (cell (val.Text t))) (FitsKeyCell (val.Text t)) c
unfolding cell
text_measured before a c t h m = record { long = omega (arith, h, m.long); fits = m.fits }

pub other_measured : (before : ℕ) (v : Val) → before < 2 ^ 64 → ((z : ℤ) → v ≡ val.Int z → ⊥) → ((t : List ℕ) → v ≡ val.Text t → ⊥) → Measures before (length (cell v)) (FitsKeyCell v) before
unfolding cell
other_measured before (val.Int z) lt not_int not_text = absurd (not_int z refl)
other_measured before (val.Text t) lt not_int not_text = absurd (not_text t refl)
other_measured before v lt not_int not_text = record { long = omega (arith, lt); fits = λ le. tt }

pub none_measured : (before : ℕ) (x : Cursor) (c : ℕ) → x.last ≡ None → c ≡ capped (before + 2) → Measures before (length (cursor x)) (FitsCursor x) c
unfolding cursor last_key_form
none_measured before x c none h = rw none (record { long = h; fits = λ le. tt })

pub key_measured : (before a c : ℕ) (x : Cursor) (key : Key) → x.last ≡ Some key → a ≡ capped (before + 2) → Measures a (length (flat_map cell key.cells)) (AllByRecursion FitsKeyCell key.cells) c → Measures before (length (cursor x)) (FitsCursor x) c
unfolding cursor last_key_form
key_measured before a c x key some h m = rw some (record { long = omega (arith, h, m.long); fits = m.fits })

pub version_measured : (before c version : ℕ) → version < 2 ^ 64 → c ≡ capped (before + 8) → Measures before (length (version_form 2 version)) (version < 2 ^ 64) c
version_measured before c version small h = record { long = omega (arith, h, version_size version); fits = λ le. small }

pub table_measured : (before schema name number a columns c : ℕ) (info : TableInfo) (version : ℕ) → Measures before (length (text_form info.name.schema)) (IsStored info.name.schema) schema → Measures schema (length (text_form info.name.name)) (IsStored info.name.name) name
    → Measures name (length (version_form 2 version)) (version < 2 ^ 64) number → a ≡ capped (number + 4) → Measures a (length (flat_map column info.columns)) (AllByRecursion FitsTableColumn info.columns) columns
    → Measures columns (length (counted number32 info.key)) ((length info.key < 2 ^ 32) × AllByRecursion (λ place. place < 2 ^ 32) info.key) c → Measures before (length (table 2 info version)) (FitsTable info) c
table_measured before schema name number a columns c info version of_schema of_name of_version h of_columns of_key =
    let below : columns ≤ c = omega (arith, of_columns.long, of_key.long) in
    let numbered : number ≤ columns = omega (arith, of_version.long, h, of_columns.long) in
    let named : name ≤ number = omega (arith, of_name.long, of_version.long) in
    let first : schema ≤ name = omega (arith, of_schema.long, of_name.long) in
    record {
      long = omega (arith, table_size info version, version_size version, of_schema.long, of_name.long, of_version.long, h, of_columns.long, of_key.long);
      fits = λ le. record {
        schema = of_schema.fits (omega (arith, first, named, numbered, below, le));
        name = of_name.fits (omega (arith, named, numbered, below, le));
        columns = omega (arith, columns_few info.columns, of_columns.long, below, le);
        each = of_columns.fits (omega (arith, below, le));
        key = (of_key.fits le).0;
        places = (of_key.fits le).1;
      };
    }

-- a table with its version and its progress
pub entry_measured : (before a c : ℕ) (t : TableEntry) → Measures before (length (table 2 t.info t.version)) (FitsTable t.info) a → Measures a (length (cursor t.cursor)) (FitsCursor t.cursor) c → Measures before (length (entry 2 t)) (FitsTableCursor t) c
entry_measured before a c t of_table of_cursor =
    weaker before _ _ c _ _ (sym (length-append (table 2 t.info t.version) (cursor t.cursor))) (λ p. p) (both before (length (table 2 t.info t.version)) a (length (cursor t.cursor)) c (FitsTable t.info) (FitsCursor t.cursor) of_table of_cursor)

pub entries_long : (infos : List TableInfo) (versions : List ℕ) (cursors : List Cursor) → length versions ≡ length infos → length cursors ≡ length infos → length (entries_of infos versions cursors) ≡ length infos
entries_long [] versions cursors many long = refl
entries_long (info ∷ infos) [] cursors many long = absurd (omega (arith, many))
entries_long (info ∷ infos) (v ∷ versions) [] many long = absurd (omega (arith, long))
entries_long (info ∷ infos) (v ∷ versions) (c ∷ cursors) many long = ap suc (entries_long infos versions cursors (omega (arith, many)) (omega (arith, long)))

abbrev pub entry_made : TableInfo → ℕ → Cursor → TableEntry
entry_made info version c = record { info = info; version = version; cursor = c }

-- the entry at an index has what the lists have there
entry_from : (infos : List TableInfo) (versions : List ℕ) (cursors : List Cursor) (i : ℕ) (info : TableInfo) (v : ℕ) (c : Cursor)
    → length versions ≡ length infos → length cursors ≡ length infos → i < length infos
    → get_or (entries_of infos versions cursors) i (entry_made info v c)
    ≡ entry_made (get_or infos i info) (get_or versions i 0) (get_or cursors i c)
entry_from [] versions cursors i info v c many long lt = absurd (omega (arith, lt))
entry_from (x ∷ infos) [] cursors i info v c many long lt = absurd (omega (arith, many))
entry_from (x ∷ infos) (w ∷ versions) [] i info v c many long lt = absurd (omega (arith, long))
entry_from (x ∷ infos) (w ∷ versions) (d ∷ cursors) zero info v c many long lt = refl
entry_from (x ∷ infos) (w ∷ versions) (d ∷ cursors) (suc i) info v c many long lt =
    entry_from infos versions cursors i info v c (omega (arith, many)) (omega (arith, long)) (omega (arith, lt))

pub entry_at : (infos : List TableInfo) (versions : List ℕ) (cursors : List Cursor) (i : ℕ) (info : TableInfo) (c : Cursor)
    → length versions ≡ length infos → length cursors ≡ length infos → i < length infos
    → info ≡ get_or infos i info → c ≡ get_or cursors i c
    → entry_made info (get_or versions i 0) c ≡ get_or (entries_of infos versions cursors) i (entry_made info (get_or versions i 0) c)
entry_at infos versions cursors i info c many long lt first second =
    let v = get_or versions i 0 in
    sym (entry_from infos versions cursors i info v c many long lt ∙ (λ k. entry_made (sym first k) v (sym second k)))

-- the fields after the format's number
pub spelling_size : (o : Offset) → length (bytes_in_format 2 o) ≡ 1 + length (names o.identity) + 36 + length (flat_map (entry 2) (tables_with_cursors o))
unfolding bytes_in_format
spelling_size o = simp (length-append, number64_size, counted_size) (omega arith)

pub offset_measured : (a b c : ℕ) (o : Offset) → Measures 1 (length (names o.identity)) (FitsNames o.identity) a → Measures a 36 ((o.start.0 < 2 ^ 64) × (o.lsn.0 < 2 ^ 64) × (o.end_lsn.0 < 2 ^ 64)) b
    → Measures b (length (flat_map (entry 2) (tables_with_cursors o))) (AllByRecursion FitsTableCursor (tables_with_cursors o)) c → Measures 0 (length (bytes_in_format 2 o)) (FitsOffset o) c
offset_measured a b c o of_names of_numbers of_tables =
    let below : b ≤ c = omega (arith, of_numbers.long, of_tables.long) in
    let first : a ≤ b = omega (arith, of_names.long, of_numbers.long) in
    record {
      long = omega (arith, spelling_size o, of_names.long, of_numbers.long, of_tables.long);
      fits = λ le.
          let numbers = of_numbers.fits (omega (arith, below, le)) in
          record {
            names = of_names.fits (omega (arith, first, below, le));
            start = numbers.0;
            lsn = numbers.1;
            end_lsn = numbers.2;
            tables = of_tables.fits le;
          };
    }

pub held_at : {A : Type 0} (P : A → Type 0) (xs : List A) (i : ℕ) (x : A) → AllByRecursion P xs → i < length xs → x ≡ get_or xs i x → P x
held_at P xs i x all lt is = subst P (sym is) (All-get_or P xs i x lt (All-from_recursion P xs all))

-- the parts of an offset, each written after the others and what stood there
pub written_whole : (format : ℕ) (offset : Offset) (old a b c d e f g h : List ℕ) → a ≡ old ++ format ∷ [] → b ≡ a ++ names offset.identity → c ≡ b ++ number64 offset.incarnation → d ≡ c ++ number64 offset.start.0 → e ≡ d ++ number64 offset.lsn.0 → f ≡ e ++ number64 offset.end_lsn.0
    → g ≡ f ++ number32 (length (tables_with_cursors offset)) → h ≡ g ++ flat_map (entry format) (tables_with_cursors offset) → h ≡ old ++ bytes_in_format format offset
unfolding bytes_in_format counted
written_whole format offset old a b c d e f g h of_a of_b of_c of_d of_e of_f of_g of_h = rw (of_h, of_g, of_f, of_e, of_d, of_c, of_b, of_a) (simp append_assoc refl)
