-- Offsets: what is read was written, and what was written is read again.
use Rattle.std.proofs.Common.{◌≡◌, ◌⊎◌, ◌∙◌, ℕ, suc, ◌^◌, ◌<◌, ◌≤◌, Bool, true, false, ◌&&◌, cond, eqb, ltb, leb, not, ◌||◌, ◌+◌, List, [], ◌∷◌, ◌++◌, length, map, get_or, take, drop, ◌-◌, Result, Ok, Err, refl, sym, ap, subst, inl, inr, append_assoc, arith}
use Rattle.std.specs.Prelude.{IfOk}
use Rattle.std.specs.Int.{w32}
use Rattle.std.specs.List.{AllByRecursion, AllZip, flat_map, list_any}
use Rattle.std.proofs.lemmas.Bool.{eqb-true, lt-ltb, ltb-true, le-leb, leb-true}
use Rattle.std.proofs.lemmas.List.{append-nil, drop_more, length-drop, nil_from_length, take_all}
use Rattle.std.proofs.lemmas.Slice.Zip.{AllZip-long}
use Rattle.dbl_record.specs.declared.error.RecordError.{RecordError}
use Rattle.dbl_record.specs.declared.error.RecordError.TheVariants.{BadRecord, Memory}
use Rattle.dbl_record.specs.Fields.{number32, number64, text_form}
use Rattle.dbl_record.specs.GroupReading.{Gives, number_at, many_at}
use Rattle.dbl_record.proofs.FieldLaws.{IsBytes, ok_is, bind_ok, guard_held, Takes, Takes-then, Reads, took, number32_reads, number64_reads, text_reads, many_again, many_takes}
use Rattle.dbl_model_table.specs.declared.table.TableInfo.{TableInfo}
use Rattle.dbl_model_table.specs.declared.table.TableName.{TableName}
use Rattle.dbl_model_table.specs.declared.identity.Identity.{Identity}
use Rattle.dbl_model_history.specs.declared.cursor.Cursor.{Cursor}
use Rattle.dbl_model_table.specs.Tables.{same_name, are_distinct}
use Rattle.dbl_model_table.specs.Identities.{is_good_identity}
use Rattle.dbl_model_history.specs.Cursors.{IsCursorOf, AreCursorsOf}
use Rattle.dbl_model_table.proofs.Lists.{and_left, and_right}
use Rattle.dbl_offset_versions.specs.Versions.{no_offset}
use Rattle.dbl_offset_content.specs.declared.entry.TableEntry.{TableEntry}
use Rattle.dbl_offset_content.specs.declared.offset.Offset.{Offset}
use Rattle.dbl_offset_content.specs.Entries.{names, counted, entry, entries_of, tables_with_cursors, bytes_in_format, FitsNames, FitsTableCursor, FitsOffset}
use Rattle.dbl_offset_content.specs.Offsets.{HasFormat, IsOffset, EncodesOffset, IsOffsetEntry}
use Rattle.dbl_offset_content.specs.Reading.{table_cursor_at, identity_at, infos_of, versions_of, cursors_of, tables_at, numbers_at, ended, format_at, offset_at, whole}
use Rattle.dbl_offset_content.proofs.FieldLaws.{byte_reads}
use Rattle.dbl_offset_content.proofs.TableLaws.{HoldsEntry, entry_reads}

-- ---- identities

identity_again : (x : Identity) (rest : List ℕ) → FitsNames x × (is_good_identity x ≡ true) → identity_at (names x ++ rest) ≡ Ok (x, rest)
unfolding identity_at names
identity_again x rest h =
    let regrouped : ((text_form x.prefix ++ text_form x.db) ++ text_form x.placeholder) ++ rest ≡ text_form x.prefix ++ (text_form x.db ++ (text_form x.placeholder ++ rest)) = simp append_assoc in
    ap identity_at regrouped ∙ rw ((text_reads 0).again x.prefix (text_form x.db ++ (text_form x.placeholder ++ rest)) h.0.prefix, (text_reads 0).again x.db (text_form x.placeholder ++ rest) h.0.db, (text_reads 0).again x.placeholder rest h.0.placeholder, h.1) refl

identity_takes : (bytes : List ℕ) (x : Identity) (rest : List ℕ) → IsBytes bytes → identity_at bytes ≡ Ok (x, rest) → Takes bytes (names x) rest × (FitsNames x × (is_good_identity x ≡ true))
unfolding identity_at names
identity_takes bytes x rest fits e =
    let prefix = took (text_reads 0) bytes [] bytes _ (x, rest) (record { parts = refl; rest_fits = fits }) e in
    let db = took (text_reads 0) bytes _ prefix.rest _ (x, rest) prefix.takes prefix.more in
    let placeholder = took (text_reads 0) bytes _ db.rest _ (x, rest) db.takes db.more in
    let read : Identity = record { prefix = prefix.value; db = db.value; placeholder = placeholder.value } in
    let g = guard_held (is_good_identity read) _ (Ok (read, placeholder.rest)) (x, rest) placeholder.more in
    subst (λ (y : Identity × List ℕ). Takes bytes ((text_form y.0.prefix ++ text_form y.0.db) ++ text_form y.0.placeholder) y.1 × (FitsNames y.0 × (is_good_identity y.0 ≡ true))) (ok_is (read, placeholder.rest) (x, rest) g.1)
    (placeholder.takes, (record { prefix = prefix.fits; db = db.fits; placeholder = placeholder.fits }, g.0))

identity_reads : Reads identity_at names (λ x. FitsNames x × (is_good_identity x ≡ true))
identity_reads = record { again = identity_again; takes = identity_takes }

-- ---- numbers

abbrev Numbers : Type 0
Numbers = ℕ × ℕ × ℕ × ℕ

abbrev numbers : Numbers → List ℕ
numbers n = number64 n.0 ++ number64 n.1 ++ number64 n.2 ++ number64 n.3

record AreNumbers (n : Numbers) : Type 0 where
  counted : 1 ≤ n.0
  incarnation : n.0 ≤ 2 ^ 63
  order : n.1 ≤ n.2
  lsn : n.2 < 2 ^ 64
  end_lsn : n.3 < 2 ^ 64

numbers_again : (n : Numbers) (rest : List ℕ) → AreNumbers n → numbers_at (numbers n ++ rest) ≡ Ok (n, rest)
unfolding numbers_at
numbers_again n rest h =
    let regrouped : (((number64 n.0 ++ number64 n.1) ++ number64 n.2) ++ number64 n.3) ++ rest ≡ number64 n.0 ++ (number64 n.1 ++ (number64 n.2 ++ (number64 n.3 ++ rest))) = simp append_assoc in
    let some : ltb 0 n.0 ≡ true = lt-ltb 0 n.0 (omega (arith, h.counted)) in
    let few : leb n.0 (2 ^ 63) ≡ true = le-leb n.0 (2 ^ 63) h.incarnation in
    let order : leb n.1 n.2 ≡ true = le-leb n.1 n.2 h.order in
    ap numbers_at regrouped ∙ rw ((number64_reads 0).again n.0 (number64 n.1 ++ (number64 n.2 ++ (number64 n.3 ++ rest))) (omega (arith, h.incarnation)), (number64_reads 0).again n.1 (number64 n.2 ++ (number64 n.3 ++ rest)) (omega (arith, h.order, h.lsn)), (number64_reads 0).again n.2 (number64 n.3 ++ rest) h.lsn, (number64_reads 0).again n.3 rest h.end_lsn, some, few, order) refl

numbers_takes : (bytes : List ℕ) (n : Numbers) (rest : List ℕ) → IsBytes bytes → numbers_at bytes ≡ Ok (n, rest) → Takes bytes (numbers n) rest × AreNumbers n
unfolding numbers_at
numbers_takes bytes n rest fits e =
    let incarnation = took (number64_reads 0) bytes [] bytes _ (n, rest) (record { parts = refl; rest_fits = fits }) e in
    let start = took (number64_reads 0) bytes _ incarnation.rest _ (n, rest) incarnation.takes incarnation.more in
    let lsn = took (number64_reads 0) bytes _ start.rest _ (n, rest) start.takes start.more in
    let end_lsn = took (number64_reads 0) bytes _ lsn.rest _ (n, rest) lsn.takes lsn.more in
    let read : Numbers = (incarnation.value, start.value, lsn.value, end_lsn.value) in
    let g = guard_held (ltb 0 incarnation.value && leb incarnation.value (2 ^ 63) && leb start.value lsn.value) _ (Ok (read, end_lsn.rest)) (n, rest) end_lsn.more in
    let ab : (ltb 0 incarnation.value && leb incarnation.value (2 ^ 63)) ≡ true = and_left _ _ g.0 in
    let are : AreNumbers read = record {
      counted = (let lt : 0 < incarnation.value = ltb-true _ _ (and_left _ _ ab) in omega arith);
      incarnation = leb-true _ _ (and_right (ltb 0 incarnation.value) _ ab);
      order = leb-true _ _ (and_right (ltb 0 incarnation.value && leb incarnation.value (2 ^ 63)) _ g.0);
      lsn = lsn.fits;
      end_lsn = end_lsn.fits;
    } in
    subst (λ (y : Numbers × List ℕ). Takes bytes (numbers y.0) y.1 × AreNumbers y.0) (ok_is (read, end_lsn.rest) (n, rest) g.1) (end_lsn.takes, are)

numbers_reads : Reads numbers_at numbers AreNumbers
numbers_reads = record { again = numbers_again; takes = numbers_takes }

-- ---- tables

abbrev distinct_of : List TableEntry → Bool
distinct_of tables = are_distinct same_name (map (λ info. info.name) (infos_of tables))

record AreTables (format : ℕ) (tables : List TableEntry) : Type 0 where
  some : 1 ≤ length tables
  few : length tables ≤ 64
  each : AllByRecursion (HoldsEntry format) tables
  distinct : distinct_of tables ≡ true

tables_again : (format : ℕ) (tables : List TableEntry) (rest : List ℕ) → AreTables format tables → tables_at format (counted (entry format) tables ++ rest) ≡ Ok (tables, rest)
unfolding tables_at counted
tables_again format tables rest h =
    let some : ltb 0 (length tables) ≡ true = lt-ltb 0 (length tables) (omega (arith, h.some)) in
    let few : leb (length tables) 64 ≡ true = le-leb (length tables) 64 h.few in
    rw (append_assoc (number32 (length tables)) (flat_map (entry format) tables) rest, (number32_reads 0).again (length tables) (flat_map (entry format) tables ++ rest) (omega (arith, h.few)), some, few, many_again (entry_reads format) tables rest h.each, h.distinct) refl

tables_takes : (format : ℕ) (bytes : List ℕ) (tables : List TableEntry) (rest : List ℕ) → IsBytes bytes → tables_at format bytes ≡ Ok (tables, rest) → Takes bytes (counted (entry format) tables) rest × AreTables format tables
unfolding tables_at counted
tables_takes format bytes tables rest fits e =
    let n = took (number32_reads 0) bytes [] bytes _ (tables, rest) (record { parts = refl; rest_fits = fits }) e in
    let g = guard_held (ltb 0 n.value && leb n.value 64) _ _ (tables, rest) n.more in
    let t = bind_ok (many_at (table_cursor_at format) n.value n.rest) (λ (t : List TableEntry × List ℕ). cond (distinct_of t.0) (Ok t) (Err no_offset)) (tables, rest) g.1 in
    let h = guard_held (distinct_of t.0.0) _ (Ok t.0) (tables, rest) t.2 in
    let read = many_takes (entry_reads format) n.value n.rest t.0.0 t.0.1 n.takes.rest_fits t.1 in
    let long : length t.0.0 ≡ n.value = read.1 in
    let above : 0 < n.value = ltb-true _ _ (and_left _ _ g.0) in
    let below : n.value ≤ 64 = leb-true _ _ (and_right (ltb 0 n.value) _ g.0) in
    let takes : Takes bytes (counted (entry format) t.0.0) t.0.1 = subst (λ (k : ℕ). Takes bytes (number32 k ++ flat_map (entry format) t.0.0) t.0.1) (sym long) (Takes-then bytes (number32 n.value) n.rest (flat_map (entry format) t.0.0) t.0.1 n.takes read.0) in
    subst (λ (y : List TableEntry × List ℕ). Takes bytes (counted (entry format) y.0) y.1 × AreTables format y.0) (ok_is t.0 (tables, rest) h.1)
    (takes, record { some = omega arith; few = omega arith; each = read.2; distinct = h.0 })

tables_reads : (format : ℕ) → Reads (tables_at format) (counted (entry format)) (AreTables format)
tables_reads format = record { again = tables_again format; takes = tables_takes format }

-- ---- tables, versions and cursors as three lists

pub zipped : (tables : List TableEntry) → entries_of (infos_of tables) (versions_of tables) (cursors_of tables) ≡ tables
zipped [] = refl
zipped (t ∷ tables) = ap (λ (l : List TableEntry). t ∷ l) (zipped tables)

long_infos : (tables : List TableEntry) → length (infos_of tables) ≡ length tables
long_infos [] = refl
long_infos (t ∷ tables) = ap suc (long_infos tables)

-- lists of one length come back from their entries
pub infos_back : (infos : List TableInfo) (versions : List ℕ) (cursors : List Cursor) → length versions ≡ length infos → length cursors ≡ length infos → infos_of (entries_of infos versions cursors) ≡ infos
infos_back [] versions cursors many long = refl
infos_back (info ∷ infos) [] cursors many long = absurd (omega (arith, many))
infos_back (info ∷ infos) (v ∷ versions) [] many long = absurd (omega (arith, long))
infos_back (info ∷ infos) (v ∷ versions) (c ∷ cursors) many long = ap (λ (l : List TableInfo). info ∷ l) (infos_back infos versions cursors (omega (arith, many)) (omega (arith, long)))

pub versions_back : (infos : List TableInfo) (versions : List ℕ) (cursors : List Cursor) → length versions ≡ length infos → length cursors ≡ length infos → versions_of (entries_of infos versions cursors) ≡ versions
versions_back [] [] cursors many long = refl
versions_back [] (v ∷ versions) cursors many long = absurd (omega (arith, many))
versions_back (info ∷ infos) [] cursors many long = absurd (omega (arith, many))
versions_back (info ∷ infos) (v ∷ versions) [] many long = absurd (omega (arith, long))
versions_back (info ∷ infos) (v ∷ versions) (c ∷ cursors) many long = ap (λ (l : List ℕ). v ∷ l) (versions_back infos versions cursors (omega (arith, many)) (omega (arith, long)))

pub cursors_back : (infos : List TableInfo) (versions : List ℕ) (cursors : List Cursor) → length versions ≡ length infos → length cursors ≡ length infos → cursors_of (entries_of infos versions cursors) ≡ cursors
cursors_back [] versions [] many long = refl
cursors_back [] versions (c ∷ cursors) many long = absurd (omega (arith, long))
cursors_back (info ∷ infos) [] cursors many long = absurd (omega (arith, many))
cursors_back (info ∷ infos) (v ∷ versions) [] many long = absurd (omega (arith, long))
cursors_back (info ∷ infos) (v ∷ versions) (c ∷ cursors) many long = ap (λ (l : List Cursor). c ∷ l) (cursors_back infos versions cursors (omega (arith, many)) (omega (arith, long)))

cursors_hold : (format : ℕ) (tables : List TableEntry) → AllByRecursion (HoldsEntry format) tables → AllZip IsCursorOf (infos_of tables) (cursors_of tables)
cursors_hold format [] h = tt
cursors_hold format (t ∷ tables) h = (h.0.0, cursors_hold format tables h.1)

versions_hold : (format : ℕ) (tables : List TableEntry) → AllByRecursion (HoldsEntry format) tables → AllZip (λ (info : TableInfo) (version : ℕ). (1 ≤ version) × (version < 2 ^ 64)) (infos_of tables) (versions_of tables)
versions_hold format [] h = tt
versions_hold format (t ∷ tables) h = ((h.0.1.1.counted, h.0.1.1.small), versions_hold format tables h.1)

first_versions : (tables : List TableEntry) → AllByRecursion (HoldsEntry 1) tables → AllByRecursion (λ (version : ℕ). version ≡ 1) (versions_of tables)
first_versions [] h = tt
first_versions (t ∷ tables) h = (h.0.1.1.first refl, first_versions tables h.1)

entries_fit : (format : ℕ) (tables : List TableEntry) → AllByRecursion (HoldsEntry format) tables → AllByRecursion FitsTableCursor tables
entries_fit format [] h = tt
entries_fit format (t ∷ tables) h = (h.0.1.0, entries_fit format tables h.1)

-- the versions are those of the format
record AreVersionsIn (format : ℕ) (infos : List TableInfo) (versions : List ℕ) : Type 0 where
  are : AllZip (λ (info : TableInfo) (version : ℕ). (1 ≤ version) × (version < 2 ^ 64)) infos versions
  first : eqb format 1 ≡ true → AllByRecursion (λ (version : ℕ). version ≡ 1) versions

entries_hold : (format : ℕ) (infos : List TableInfo) (versions : List ℕ) (cursors : List Cursor) → AllZip IsCursorOf infos cursors → AreVersionsIn format infos versions → AllByRecursion FitsTableCursor (entries_of infos versions cursors)
    → AllByRecursion (HoldsEntry format) (entries_of infos versions cursors)
entries_hold format [] versions cursors are numbered fits = tt
entries_hold format (info ∷ infos) [] cursors are numbered fits = tt
entries_hold format (info ∷ infos) (v ∷ versions) [] are numbered fits = tt
entries_hold format (info ∷ infos) (v ∷ versions) (c ∷ cursors) are numbered fits = (
  (are.0, (fits.0, record { counted = numbered.are.0.0; small = numbered.are.0.1; first = λ is. (numbered.first is).0 })),
  entries_hold format infos versions cursors are.1 (record { are = numbered.are.1; first = λ is. (numbered.first is).1 }) fits.1,
)

pub same_long : (infos : List TableInfo) (cursors : List Cursor) → AreCursorsOf infos cursors → length cursors ≡ length infos
same_long infos cursors h = AllZip-long IsCursorOf infos cursors h

pub versions_long : (offset : Offset) → IsOffset offset → length offset.versions ≡ length offset.infos
versions_long offset is = AllZip-long (λ (info : TableInfo) (version : ℕ). (1 ≤ version) × (version < 2 ^ 64)) offset.infos offset.versions is.versions

-- ---- offsets

-- the offset of what was read
abbrev offset_from : Identity → Numbers → List TableEntry → Offset
offset_from identity n tables = record {
  identity = identity;
  incarnation = n.0;
  start = record { 0 = n.1 };
  lsn = record { 0 = n.2 };
  end_lsn = record { 0 = n.3 };
  infos = infos_of tables;
  cursors = cursors_of tables;
  versions = versions_of tables;
}

-- the two numbers of formats
abbrev IsFormat : ℕ → Type 0
IsFormat format = (eqb format 1 || eqb format 2) ≡ true

format_again : (format : ℕ) (rest : List ℕ) → IsFormat format → format < 2 ^ 8 → format_at (format ∷ rest) ≡ Ok (format, rest)
unfolding format_at
format_again format rest is small = rw (byte_reads.again format rest small, is) refl

format_takes : (bytes : List ℕ) (format : ℕ) (rest : List ℕ) → IsBytes bytes → format_at bytes ≡ Ok (format, rest) → Takes bytes (format ∷ []) rest × (IsFormat format × (format < 2 ^ 8))
unfolding format_at
format_takes bytes format rest fits e =
    let b = took byte_reads bytes [] bytes _ (format, rest) (record { parts = refl; rest_fits = fits }) e in
    let g = guard_held (eqb b.value 1 || eqb b.value 2) _ (Ok (b.value, b.rest)) (format, rest) b.more in
    subst (λ (y : ℕ × List ℕ). Takes bytes (y.0 ∷ []) y.1 × (IsFormat y.0 × (y.0 < 2 ^ 8))) (ok_is (b.value, b.rest) (format, rest) g.1) (b.takes, (g.0, b.fits))

format_reads : Reads format_at (λ format. format ∷ []) (λ format. IsFormat format × (format < 2 ^ 8))
format_reads = record { again = λ format rest is. format_again format rest is.0 is.1; takes = format_takes }

-- the format of an offset is one of the two, and format 1 has only version 1
is_format : (format : ℕ) (offset : Offset) → HasFormat format offset → IsFormat format × (format < 2 ^ 8)
is_format format offset (inl two) = rw two (refl, omega arith)
is_format format offset (inr one) = rw one.0 (refl, omega arith)

versions_in : (format : ℕ) (offset : Offset) → HasFormat format offset → IsOffset offset → AreVersionsIn format offset.infos offset.versions
versions_in format offset (inl two) is = record { are = is.versions; first = λ first. (let no : 2 ≡ 1 = sym two ∙ eqb-true format 1 first in absurd (omega (arith, no))) }
versions_in format offset (inr one) is = record { are = is.versions; first = λ first. one.1 }

offset_again : (format : ℕ) (offset : Offset) (rest : List ℕ) → IsOffset offset → FitsOffset offset → HasFormat format offset → offset_at (bytes_in_format format offset ++ rest) ≡ Ok (offset, rest)
unfolding offset_at bytes_in_format
offset_again format o rest is fits has =
    let n : Numbers = (o.incarnation, o.start.0, o.lsn.0, o.end_lsn.0) in
    let tables = tables_with_cursors o in
    let long : length o.cursors ≡ length o.infos = same_long o.infos o.cursors is.cursors in
    let many : length o.versions ≡ length o.infos = versions_long o is in
    let first : infos_of tables ≡ o.infos = infos_back o.infos o.versions o.cursors many long in
    let second : cursors_of tables ≡ o.cursors = cursors_back o.infos o.versions o.cursors many long in
    let third : versions_of tables ≡ o.versions = versions_back o.infos o.versions o.cursors many long in
    let count : length tables ≡ length o.infos = sym (long_infos tables) ∙ ap (λ (l : List TableInfo). length l) first in
    let are : AreTables format tables = record {
      some = omega (arith, count, is.some);
      few = omega (arith, count, is.few);
      each = entries_hold format o.infos o.versions o.cursors is.cursors (versions_in format o has is) fits.tables;
      distinct = ap (λ (l : List TableInfo). are_distinct same_name (map (λ info. info.name) l)) first ∙ is.distinct;
    } in
    let ns : AreNumbers n = record { counted = is.counted; incarnation = is.incarnation; order = is.order; lsn = fits.lsn; end_lsn = fits.end_lsn } in
    let spelled : List ℕ = counted (entry format) tables in
    let regrouped : (((((names o.identity ++ number64 n.0) ++ number64 n.1) ++ number64 n.2) ++ number64 n.3) ++ spelled) ++ rest ≡ names o.identity ++ (numbers n ++ (spelled ++ rest)) = simp append_assoc in
    let made : offset_from o.identity n tables ≡ o = λ i. record { identity = o.identity; incarnation = o.incarnation; start = o.start; lsn = o.lsn; end_lsn = o.end_lsn; infos = first i; cursors = second i; versions = third i } in
    let numbered = is_format format o has in
    ap (λ (w : List ℕ). offset_at (format ∷ w)) regrouped ∙ rw (format_again format (names o.identity ++ (numbers n ++ (spelled ++ rest))) numbered.0 numbered.1, identity_reads.again o.identity (numbers n ++ (spelled ++ rest)) (fits.names, is.identity), numbers_reads.again n (spelled ++ rest) ns, (tables_reads format).again tables rest are) (ap (λ (x : Offset). Ok (x, rest)) made)

-- what was read of an offset
record IsOffsetRead (bytes : List ℕ) (offset : Offset) (rest : List ℕ) : Type 0 where
  format : ℕ
  has : HasFormat format offset
  takes : Takes bytes (bytes_in_format format offset) rest
  is : IsOffset offset
  fits : FitsOffset offset

-- the format of what was read
format_of : (format : ℕ) (tables : List TableEntry) → IsFormat format → AllByRecursion (HoldsEntry format) tables → (format ≡ 2) ⊎ ((format ≡ 1) × AllByRecursion (λ (version : ℕ). version ≡ 1) (versions_of tables))
format_of format tables is each = by (eqb format 1) refl
  where
    by : (b : Bool) → eqb format 1 ≡ b → (format ≡ 2) ⊎ ((format ≡ 1) × AllByRecursion (λ (version : ℕ). version ≡ 1) (versions_of tables))
    by true one =
        let same : format ≡ 1 = eqb-true format 1 one in
        inr (same, first_versions tables (subst (λ (f : ℕ). AllByRecursion (HoldsEntry f) tables) same each))
    by false other = inl (eqb-true format 2 (sym (ap (λ (b : Bool). b || eqb format 2) other) ∙ is))

offset_made : (format : ℕ) (bytes rest : List ℕ) (identity : Identity) (n : Numbers) (tables : List TableEntry) → Takes bytes (format ∷ (names identity ++ numbers n ++ counted (entry format) tables)) rest → IsFormat format → FitsNames identity → is_good_identity identity ≡ true
    → AreNumbers n → AreTables format tables → IsOffsetRead bytes (offset_from identity n tables) rest
unfolding bytes_in_format
offset_made format bytes rest identity n tables takes is_one fit good ns are =
    let whole_names : names identity ++ numbers n ++ counted (entry format) tables ≡ ((((names identity ++ number64 n.0) ++ number64 n.1) ++ number64 n.2) ++ number64 n.3) ++ counted (entry format) tables = simp append_assoc in
    let again : counted (entry format) tables ≡ counted (entry format) (entries_of (infos_of tables) (versions_of tables) (cursors_of tables)) = ap (λ (l : List TableEntry). counted (entry format) l) (sym (zipped tables)) in
    let spelled : format ∷ (names identity ++ numbers n ++ counted (entry format) tables)
    ≡ format ∷ (((((names identity ++ number64 n.0) ++ number64 n.1) ++ number64 n.2) ++ number64 n.3) ++ counted (entry format) (entries_of (infos_of tables) (versions_of tables) (cursors_of tables))) =
    ap (λ (w : List ℕ). format ∷ w) (whole_names ∙ ap (λ (w : List ℕ). ((((names identity ++ number64 n.0) ++ number64 n.1) ++ number64 n.2) ++ number64 n.3) ++ w) again) in
    record {
      format = format;
      has = format_of format tables is_one are.each;
      takes = subst (λ (w : List ℕ). Takes bytes w rest) spelled takes;
      is = record {
        identity = good;
        counted = ns.counted;
        incarnation = ns.incarnation;
        order = ns.order;
        some = omega (arith, are.some, long_infos tables);
        few = omega (arith, are.few, long_infos tables);
        distinct = are.distinct;
        cursors = cursors_hold format tables are.each;
        versions = versions_hold format tables are.each;
      };
      fits = record {
        names = fit;
        start = omega (arith, ns.order, ns.lsn);
        lsn = ns.lsn;
        end_lsn = ns.end_lsn;
        tables = subst (AllByRecursion FitsTableCursor) (sym (zipped tables)) (entries_fit format tables are.each);
      };
    }

offset_takes : (bytes : List ℕ) (offset : Offset) (rest : List ℕ) → IsBytes bytes → offset_at bytes ≡ Ok (offset, rest) → IsOffsetRead bytes offset rest
unfolding offset_at
offset_takes bytes offset rest fits e =
    let format = took format_reads bytes [] bytes _ (offset, rest) (record { parts = refl; rest_fits = fits }) e in
    let identity = took identity_reads bytes (format.value ∷ []) format.rest _ (offset, rest) format.takes format.more in
    let n = took numbers_reads bytes _ identity.rest _ (offset, rest) identity.takes identity.more in
    let tables = took (tables_reads format.value) bytes _ n.rest _ (offset, rest) n.takes n.more in
    let read = offset_made format.value bytes tables.rest identity.value n.value tables.value tables.takes format.fits.0 identity.fits.0 identity.fits.1 n.fits tables.fits in
    subst (λ (y : Offset × List ℕ). IsOffsetRead bytes y.0 y.1) (ok_is (offset_from identity.value n.value tables.value, tables.rest) (offset, rest) tables.more) read

-- ---- whole entries

pub whole_takes : (bytes : List ℕ) (offset : Offset) → IsBytes bytes → whole bytes ≡ Ok offset → EncodesOffset bytes offset
unfolding whole ended
whole_takes bytes offset fits e =
    let a = bind_ok (offset_at bytes) ended offset e in
    let g = guard_held (eqb (length a.0.1) 0) _ (Ok a.0.0) offset a.2 in
    let read = offset_takes bytes a.0.0 a.0.1 fits a.1 in
    let nothing : a.0.1 ≡ [] = nil_from_length a.0.1 (eqb-true _ _ g.0) in
    let form : List ℕ = bytes_in_format read.format a.0.0 in
    let spelled : bytes ≡ form = read.takes.parts ∙ ap (λ (r : List ℕ). form ++ r) nothing ∙ append-nil form in
    subst (λ (y : Offset). EncodesOffset bytes y) (ok_is a.0.0 offset g.1) (record { asked = read.is; fits = read.fits; format = read.format; has_format = read.has; spelled = spelled })

pub whole_again : (bytes : List ℕ) (offset : Offset) → EncodesOffset bytes offset → whole bytes ≡ Ok offset
unfolding whole ended
whole_again bytes offset spells =
    let form : List ℕ = bytes_in_format spells.format offset in
    let read : offset_at form ≡ Ok (offset, []) = ap offset_at (sym (append-nil form)) ∙ offset_again spells.format offset [] spells.asked spells.fits spells.has_format in
    ap whole spells.spelled ∙ rw read refl

-- bytes spell one offset at most
pub one_offset : (bytes : List ℕ) (a b : Offset) → EncodesOffset bytes a → EncodesOffset bytes b → a ≡ b
one_offset bytes a b of_a of_b = ok_is a b (sym (whole_again bytes a of_a) ∙ whole_again bytes b of_b)

pub no_entry : (bytes : List ℕ) (e : RecordError) → whole bytes ≡ Err e → ¬ IsOffsetEntry bytes
no_entry bytes e refused entry = let contra : ◌≡◌ {A = Result Offset RecordError} (Ok entry.0) (Err e) = sym (whole_again bytes entry.0 entry.1) ∙ refused in cc

-- what a reader of whole entries answers
pub is_read : (bytes : List ℕ) (r : Result Offset RecordError) → IsBytes bytes → Gives (λ o. o) r (whole bytes) → IfOk r (λ offset. EncodesOffset bytes offset)
is_read bytes (Ok o) fits h = whole_takes bytes o fits h
is_read bytes (Err e) fits h = tt

pub is_refused : (bytes : List ℕ) (r : Result Offset RecordError) → Gives (λ o. o) r (whole bytes) → (at : ℕ) → r ≡ Err (BadRecord at) → ¬ IsOffsetEntry bytes
is_refused bytes (Ok o) h at is = cc
is_refused bytes (Err e) (inl m) at is = let same : Memory ≡ BadRecord at = cc in absurd cc
is_refused bytes (Err e) (inr refused) at is = no_entry bytes e refused

-- ---- tables of distinct names

abbrev pub table_names : List TableInfo → List TableName
table_names infos = map (λ info. info.name) infos

any_name : (name : TableName) (infos : List TableInfo) → list_any (λ info. same_name name info.name) infos ≡ list_any (same_name name) (table_names infos)
any_name name [] = refl
any_name name (info ∷ infos) = ap (λ (b : Bool). same_name name info.name || b) (any_name name infos)

at_name : (infos : List TableInfo) (i : ℕ) (info : TableInfo) → i < length infos → info ≡ get_or infos i info → drop i infos ≡ info ∷ drop (i + 1) infos
at_name infos i info lt is = drop_more infos i info lt ∙ ap (λ (x : TableInfo). x ∷ drop (i + 1) infos) (sym is)

pub name_again : (infos : List TableInfo) (i : ℕ) (info : TableInfo) → i < length infos → info ≡ get_or infos i info → list_any (λ x. same_name info.name x.name) (drop (i + 1) infos) ≡ true → are_distinct same_name (table_names (drop i infos)) ≡ false
name_again infos i info lt is h =
    ap (λ (l : List TableInfo). are_distinct same_name (table_names l)) (at_name infos i info lt is)
    ∙ ap (λ (b : Bool). not b && are_distinct same_name (table_names (drop (i + 1) infos))) (sym (any_name info.name (drop (i + 1) infos)) ∙ h)

pub name_new : (infos : List TableInfo) (i : ℕ) (info : TableInfo) → i < length infos → info ≡ get_or infos i info → list_any (λ x. same_name info.name x.name) (drop (i + 1) infos) ≡ false → are_distinct same_name (table_names (drop i infos)) ≡ are_distinct same_name (table_names (drop (i + 1) infos))
name_new infos i info lt is h =
    ap (λ (l : List TableInfo). are_distinct same_name (table_names l)) (at_name infos i info lt is)
    ∙ ap (λ (b : Bool). not b && are_distinct same_name (table_names (drop (i + 1) infos))) (sym (any_name info.name (drop (i + 1) infos)) ∙ h)

pub names_end : (infos : List TableInfo) (i : ℕ) → length infos ≤ i → are_distinct same_name (table_names (drop i infos)) ≡ true
names_end infos i le = ap (λ (l : List TableInfo). are_distinct same_name (table_names l)) (nil_from_length (drop i infos) (omega (arith, length-drop i infos)))

-- ---- tables, versions and cursors as they are read

pub entries_push : (infos : List TableInfo) (versions : List ℕ) (cursors : List Cursor) (info : TableInfo) (v : ℕ) (c : Cursor) → length versions ≡ length infos → length cursors ≡ length infos
    → entries_of (infos ++ info ∷ []) (versions ++ v ∷ []) (cursors ++ c ∷ []) ≡ entries_of infos versions cursors ++ record { info = info; version = v; cursor = c } ∷ []
entries_push [] [] [] info v c many long = refl
entries_push [] [] (d ∷ cursors) info v c many long = absurd (omega (arith, long))
entries_push [] (w ∷ versions) cursors info v c many long = absurd (omega (arith, many))
entries_push (x ∷ infos) [] cursors info v c many long = absurd (omega (arith, many))
entries_push (x ∷ infos) (w ∷ versions) [] info v c many long = absurd (omega (arith, long))
entries_push (x ∷ infos) (w ∷ versions) (d ∷ cursors) info v c many long =
    ap (λ (l : List TableEntry). record { info = x; version = w; cursor = d } ∷ l) (entries_push infos versions cursors info v c (omega (arith, many)) (omega (arith, long)))

-- ---- tables and offsets, field by field

distinct_entries : (infos : List TableInfo) (versions : List ℕ) (cursors : List Cursor) → length versions ≡ length infos → length cursors ≡ length infos → distinct_of (entries_of infos versions cursors) ≡ are_distinct same_name (table_names infos)
distinct_entries infos versions cursors many long = ap (λ (l : List TableInfo). are_distinct same_name (table_names l)) (infos_back infos versions cursors many long)

module _ (format : ℕ) (bytes : List ℕ) (n : ℕ) (after : List ℕ) (infos : List TableInfo) (versions : List ℕ) (cursors : List Cursor) (rest : List ℕ) (of_count : number_at w32 0 bytes ≡ Ok (n, after)) (some : 0 < n) (few : n ≤ 64)
    (of_tables : many_at (table_cursor_at format) n after ≡ Ok (entries_of infos versions cursors, rest)) (many : length versions ≡ length infos) (long : length cursors ≡ length infos) where
  tables_read : (b : Bool) → are_distinct same_name (table_names infos) ≡ b → tables_at format bytes ≡ cond b (Ok (entries_of infos versions cursors, rest)) (Err no_offset)
  unfolding tables_at
  tables_read b h = rw (of_count, lt-ltb 0 n some, le-leb n 64 few, of_tables, distinct_entries infos versions cursors many long, h) refl

  pub tables_some : are_distinct same_name (table_names infos) ≡ true → tables_at format bytes ≡ Ok (entries_of infos versions cursors, rest)
  tables_some h = tables_read true h

  pub tables_none : are_distinct same_name (table_names infos) ≡ false → tables_at format bytes ≡ Err no_offset
  tables_none h = tables_read false h

pub offset_some : (bytes : List ℕ) (format : ℕ) (subsequent : List ℕ) (identity : Identity) (after_identity : List ℕ) (n : Numbers) (after_numbers : List ℕ) (infos : List TableInfo) (versions : List ℕ) (cursors : List Cursor) (rest : List ℕ) → format_at bytes ≡ Ok (format, subsequent)
    → identity_at subsequent ≡ Ok (identity, after_identity) → numbers_at after_identity ≡ Ok (n, after_numbers) → tables_at format after_numbers ≡ Ok (entries_of infos versions cursors, rest) → length versions ≡ length infos → length cursors ≡ length infos
    → offset_at bytes ≡ Ok (record { identity = identity; incarnation = n.0; start = record { 0 = n.1 }; lsn = record { 0 = n.2 }; end_lsn = record { 0 = n.3 }; infos = infos; cursors = cursors; versions = versions }, rest)
unfolding offset_at
offset_some bytes format subsequent identity after_identity n after_numbers infos versions cursors rest of_format of_identity of_numbers of_tables many long =
    let first = infos_back infos versions cursors many long in
    let second = cursors_back infos versions cursors many long in
    let third = versions_back infos versions cursors many long in
    rw (of_format, of_identity, of_numbers, of_tables)
    (λ i. Ok (record { identity = identity; incarnation = n.0; start = record { 0 = n.1 }; lsn = record { 0 = n.2 }; end_lsn = record { 0 = n.3 }; infos = first i; cursors = second i; versions = third i }, rest))

pub rest_whole : (infos : List TableInfo) (i : ℕ) → take (length infos - i) (drop i infos) ≡ drop i infos
rest_whole infos i = take_all (length infos - i) (drop i infos) (omega (arith, length-drop i infos))
