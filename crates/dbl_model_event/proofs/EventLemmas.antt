-- The laws of change events.
use Rattle.std.proofs.Common.{◌≡◌, ◌∙◌, ◌+◌, ◌==◌, false, true, ℕ, ℤ, pos, negsuc, zero, suc, List, [], ◌∷◌, ◌++◌, length, map, slice_get, Some, None, refl, sym, ap, ap₂, arith, flat_map, append_assoc, codes}
use Rattle.std.specs.Prelude.{decimal}
use Rattle.std.specs.Fmt.{signed_decimal}
use Rattle.json.specs.Print.{quoted}
use Rattle.serde_json.specs.Data.{Data, null, number, string, object, no_members, member}
use Rattle.serde_json.specs.Find.{of_integer}
use Rattle.serde_json.specs.Written.{compact_text, number_text}
use Rattle.serde_json.proofs.OnLiterals.{serde_json_on_literals}
use Rattle.dbl_model_table.specs.declared.table.TableName.{TableName}
use Rattle.std.proofs.lemmas.Grind.{common_steps}
use Rattle.dbl_record.specs.declared.record.Record.{Record}
use Rattle.dbl_model_table.specs.declared.identity.Identity.{Identity}
use Rattle.dbl_model_table.specs.declared.change.Commit.{Commit}
use Rattle.dbl_model_event.specs.Events.{Notice, notices, numbered}
use Rattle.dbl_value_types.specs.declared.value.Val.TheVariants as val
use Rattle.dbl_model_table.specs.declared.table.Column.{Column}
use Rattle.dbl_model_table.specs.declared.table.TableInfo.{TableInfo}
use Rattle.dbl_model_table.specs.Tables.{column_names}
use Rattle.dbl_model_table.specs.Infos.{name_at, topic_of}
use Rattle.dbl_model_table.specs.Keys.{cell_or_null, key_of}
use Rattle.dbl_model_table.specs.Rows.{changes_of}
use Rattle.dbl_model_history.specs.Image.{members_of, key_text}
use Rattle.dbl_model_event.specs.EventJson.{print, event_data, source_data, row_data, milliseconds_of}
use Rattle.dbl_model_event.specs.EventLaws.{CommitsAreNumbered, SmallInsertsAre, small_row_text, source_text, created_text}

some_inner : {A : Type 0} (x y : A) → Some x ≡ Some y → x ≡ y
some_inner x y h = cc

more_left : (n : ℕ) → false ≡ (0 + 1 == suc (suc n))
more_left n = grind (arith, common_steps)

same_count : (i n : ℕ) → (i + 1 == n) ≡ (suc i + 1 == suc n)
same_count i n = grind (arith, common_steps)

module _ (identity : Identity) (commit : Commit) (now : ℤ) where
  go : (position ordinal : ℕ) (ns : List Notice) (i : ℕ) (r : Record) → slice_get (map (print identity commit now) (numbered position ordinal ns)) i ≡ Some r
      → (r.position ≡ position) × (r.ordinal ≡ ordinal + i) × (r.last ≡ (i + 1 == length (map (print identity commit now) (numbered position ordinal ns))))
  go position ordinal [] i r h = cc
  go position ordinal (n ∷ []) zero r h =
      let same : _ ≡ r = some_inner _ r h in
      (ap (λ s. s.position) (sym same), ap (λ s. s.ordinal) (sym same) ∙ omega arith, ap (λ s. s.last) (sym same))
  go position ordinal (n ∷ m ∷ ns) zero r h =
      let same : _ ≡ r = some_inner _ r h in
      (ap (λ s. s.position) (sym same), ap (λ s. s.ordinal) (sym same) ∙ omega arith, ap (λ s. s.last) (sym same) ∙ more_left _)
  go position ordinal (n ∷ ns) (suc i) r h =
      let rest = go position (ordinal + 1) ns i r h in
      (rest.0, rest.1 ∙ omega arith, rest.2 ∙ same_count i _)

pub commits_are_numbered : CommitsAreNumbered
commits_are_numbered identity infos commit now i r h =
    let all = go identity commit now commit.lsn.0 0 (flat_map (notices infos) (changes_of commit)) i r h in
    (all.0, all.1 ∙ omega arith, all.2)

-- ---- an insert written out

abbrev small_row : ℤ → List ℕ → Data
small_row id name = object (member (codes "id") (number (of_integer id)) (member (codes "name") (string name) no_members))

number_text-of_integer : (z : ℤ) → number_text (of_integer z) ≡ signed_decimal z
number_text-of_integer (pos n) = refl
number_text-of_integer (negsuc n) = refl

regroup5 : (a b c d e : List ℕ) → a ++ (b ++ (c ++ (d ++ e))) ≡ (((a ++ b) ++ c) ++ d) ++ e
regroup5 a b c d e = simp append_assoc

regroup7 : (a b c d e f g : List ℕ) → a ++ (b ++ (c ++ (d ++ (e ++ (f ++ g))))) ≡ (((((a ++ b) ++ c) ++ d) ++ e) ++ f) ++ g
regroup7 a b c d e f g = simp append_assoc

regroup15 : (a b c d e f g h i j k l m n o : List ℕ) → a ++ (b ++ (c ++ (d ++ (e ++ (f ++ (g ++ (h ++ (i ++ (j ++ (k ++ (l ++ (m ++ (n ++ o)))))))))))))
    ≡ (((((((((((((a ++ b) ++ c) ++ d) ++ e) ++ f) ++ g) ++ h) ++ i) ++ j) ++ k) ++ l) ++ m) ++ n) ++ o
regroup15 a b c d e f g h i j k l m n o = simp append_assoc

row_written : (id : ℤ) (name : List ℕ) → compact_text (small_row id name) ≡ small_row_text id name
unfolding serde_json_on_literals
row_written id name = rw (number_text-of_integer id) (regroup5 (codes "{\"id\":") (signed_decimal id) (codes ",\"name\":") (quoted name) (codes "}"))

source_written : (identity : Identity) (table : TableName) (commit : Commit) → compact_text (source_data identity table commit (codes "false")) ≡ source_text identity table commit
unfolding source_data serde_json_on_literals
source_written identity table commit =
    rw (number_text-of_integer (milliseconds_of commit.time)) (regroup15 (codes "{\"connector\":\"postgresql\",\"db\":") (quoted identity.db) (codes ",\"lsn\":") (decimal commit.lsn.0) (codes ",\"name\":") (quoted identity.prefix) (codes ",\"schema\":") (quoted table.schema) (codes ",\"snapshot\":\"false\",\"table\":") (quoted table.name) (codes ",\"ts_ms\":") (signed_decimal (milliseconds_of commit.time)) (codes ",\"txId\":") (decimal commit.xid) (codes ",\"version\":\"1.0\",\"xmin\":null}"))

created_written : (row source : Data) (now : ℤ) → compact_text (event_data source now null (codes "c") row) ≡ created_text (compact_text row) (compact_text source) now
unfolding event_data serde_json_on_literals
created_written row source now =
    rw (number_text-of_integer now) (regroup7 (codes "{\"after\":") (compact_text row) (codes ",\"before\":null,\"op\":\"c\",\"source\":") (compact_text source) (codes ",\"transaction\":null,\"ts_ms\":") (signed_decimal now) (codes "}"))

key_written : (id : ℤ) → compact_text (object (member (codes "id") (number (of_integer id)) no_members)) ≡ codes "{\"id\":" ++ signed_decimal id ++ codes "}"
unfolding serde_json_on_literals
key_written id = simp (number_text-of_integer, append_assoc)

name_first : (columns : List Column) (a b : List ℕ) → column_names columns ≡ a ∷ b ∷ [] → name_at columns 0 ≡ a
name_first [] a b h = cc
name_first (c ∷ cs) a b h = cc

small_key : (info : TableInfo) (id : ℤ) (name : List ℕ) → column_names info.columns ≡ codes "id" ∷ codes "name" ∷ [] → info.key ≡ 0 ∷ []
    → key_text info (key_of info (val.Int id ∷ val.Text name ∷ [])) ≡ codes "{\"id\":" ++ signed_decimal id ++ codes "}"
small_key info id name columns key =
    ap (λ (ks : List ℕ). compact_text (object (members_of (map (name_at info.columns) ks) (map (cell_or_null (val.Int id ∷ val.Text name ∷ [])) ks)))) key
    ∙ ap (λ (n : List ℕ). compact_text (object (member n (number (of_integer id)) no_members))) (name_first info.columns (codes "id") (codes "name") columns)
    ∙ key_written id

small_row_data : (info : TableInfo) (id : ℤ) (name : List ℕ) → column_names info.columns ≡ codes "id" ∷ codes "name" ∷ []
    → row_data info (val.Int id ∷ val.Text name ∷ []) ≡ small_row id name
small_row_data info id name columns = ap (λ names. object (members_of names (val.Int id ∷ val.Text name ∷ []))) columns

pub small_inserts_are : SmallInsertsAre
small_inserts_are identity info commit now id name h =
    let cells = val.Int id ∷ val.Text name ∷ [] in
    let source = source_data identity info.name commit (codes "false") in
    let whole = λ (key value : List ℕ). record { topic = topic_of identity info; key = Some key; value = Some value; position = commit.lsn.0; ordinal = 0; last = true; newkey = None; oldkey = None } ∷ [] in
    ap (λ cs. map (print identity commit now) (numbered commit.lsn.0 0 (flat_map (notices (info ∷ [])) cs))) h.changes
    ∙ ap₂ whole (small_key info id name h.columns h.key)
    (ap (λ row. compact_text (event_data source now null (codes "c") row)) (small_row_data info id name h.columns)
    ∙ created_written (small_row id name) source now
    ∙ ap₂ (λ row src. created_text row src now) (row_written id name) (source_written identity info.name commit))
