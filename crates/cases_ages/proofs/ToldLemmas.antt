-- Lemmas of what is told.
use Rattle.std.proofs.Common.{◌≡◌, ◌≢◌, ◌∙◌, ◌⊎◌, ⊎_elim, ℕ, suc, ◌+◌, ◌≤◌, ◌<◌, Bool, Option, Some, None, List, [], ◌∷◌, length, refl, sym, ap, subst, arith}
use Rattle.std.specs.Prelude.{IsTrue, IfSome, Contains, slice_get}
use Rattle.std.specs.Bool.{Decides}
use Rattle.std.specs.List.{AllByRecursion}
use Rattle.std.proofs.lemmas.Bool.{cases_eq}
use Rattle.std.proofs.lemmas.List.{length-map}
use Rattle.std.proofs.lemmas.List.Elements.{All-contains, All-from_recursion}
use Rattle.std.proofs.lemmas.Option.{slice_get_within}
use Rattle.serde_json.specs.Written.{compact_text}
use Rattle.dbl_value_types.specs.declared.column_type.PgType.{PgType}
use Rattle.dbl_value_types.specs.declared.value.Val.{Val}
use Rattle.dbl_record.specs.declared.record.Record.{Record}
use Rattle.dbl_model_table.specs.declared.identity.Identity.{Identity}
use Rattle.dbl_model_table.specs.declared.row.Key.{Key}
use Rattle.dbl_model_table.specs.declared.table.TableInfo.{TableInfo}
use Rattle.dbl_model_table.specs.Infos.{key_types}
use Rattle.dbl_model_table.specs.Tables.{type_at}
use Rattle.dbl_model_history.specs.declared.cursor.Cursor.{Cursor}
use Rattle.dbl_model_history.specs.Fit.{AreOf, IsKeyOf}
use Rattle.dbl_model_history.specs.KeyBounds.{IsUpTo}
use Rattle.dbl_model_event.specs.Snapshots.{progress_data}
use Rattle.dbl_consume_laws.specs.Prints.{ReportsProgress}
use Rattle.dbl_consume_laws.proofs.Prints.{progress_one}
use Rattle.dbl_consume_laws.specs.KnownKeys.{IsTold}
use Rattle.cases_ages.proofs.PlainAgeLemmas.{instead}
use Rattle.cases_ages.specs.Trace.{Tests, IsProgress, IsAlike, IsBeside, IsProgressOfTable, IsToldBy, IsToldIn, AreUnlistedOf, AreUnlisted}

-- ---- keys of a table

are_long : (types : List PgType) (values : List Val) → AreOf types values → length values ≡ length types
are_long [] [] h = refl
are_long [] (v ∷ values) h = absurd h
are_long (ty ∷ types) [] h = absurd h
are_long (ty ∷ types) (v ∷ values) h = ap suc (are_long types values h.1)

pub key_long : (info : TableInfo) (key : Key) → IsKeyOf info key → length key.cells ≡ length info.key
key_long info key h = are_long (key_types info) key.cells h ∙ length-map info.key (type_at info.columns)

-- ---- one record

some_one : {X : Type 0} (x y : X) → Some x ≡ Some y → x ≡ y
some_one x y e = cc

pub tells_decides : (identity : Identity) (info : TableInfo) (item made : Record) (last : Option Key) (done b : Bool) → IfSome last (IsKeyOf info) → IsProgress identity info last done made → Decides b (IsAlike item made) → Decides b (ReportsProgress identity info item last done)
tells_decides identity info item made last done b is_key is = instead (IsAlike item made) (ReportsProgress identity info item last done) b
    (λ (a : IsAlike item made). record { topic = a.0 ∙ is.topic; key = a.1 ∙ is.key; value = a.2 ∙ is.value; is_key = is_key })
    (λ (t : ReportsProgress identity info item last done). (t.topic ∙ sym is.topic, t.key ∙ sym is.key, t.value ∙ sym is.value))

pub of_table_decides : (identity : Identity) (info : TableInfo) (item made : Record) (last : Option Key) (done b : Bool) → IsProgress identity info last done made → Decides b (IsBeside item made) → Decides b (IsProgressOfTable identity info item)
of_table_decides identity info item made last done b is = instead (IsBeside item made) (IsProgressOfTable identity info item) b
    (λ (a : IsBeside item made). (a.0 ∙ is.topic, a.1 ∙ is.key)) (λ (o : IsProgressOfTable identity info item). (o.0 ∙ sym is.topic, o.1 ∙ sym is.key))

-- what a record says is one thing, so it tells of a key where that covers it
pub told_decides : (identity : Identity) (info : TableInfo) (item : Record) (key : Key) (last : Option Key) (done b : Bool) → ReportsProgress identity info item last done → Decides b (IsTrue done ⊎ IsUpTo last key) → Decides b (IsToldBy identity info item key)
told_decides identity info item key last done b tells = instead (IsTrue done ⊎ IsUpTo last key) (IsToldBy identity info item key) b
    (λ covers. record { through = last; done = done; tells = tells; covers = covers })
    (λ (t : IsToldBy identity info item key). (
    let same : compact_text (progress_data info t.through t.done) ≡ compact_text (progress_data info last done) = some_one _ _ (sym t.tells.value ∙ tells.value) in
    let one : (t.through ≡ last) × (t.done ≡ done) = progress_one info t.through last t.done done t.tells.is_key tells.is_key same in
    subst (λ (l : Option Key). IsTrue done ⊎ IsUpTo l key) one.0 (subst (λ (d : Bool). IsTrue d ⊎ IsUpTo t.through key) one.1 t.covers)))

pub untold_of : (identity : Identity) (info : TableInfo) (item : Record) (key : Key) → (IsProgressOfTable identity info item → ⊥) → IsToldBy identity info item key → ⊥
untold_of identity info item key none t = none (t.tells.topic, t.tells.key)

-- ---- lists, place by place

-- none of the first items is so
abbrev pub AreNone : {X : Type 0} → (X → Type 0) → List X → ℕ → Type 0
AreNone {X} P xs i = (place : ℕ) (x : X) → place < i → slice_get xs place ≡ Some x → P x → ⊥

one_item : {X : Type 0} (o : Option X) (x y : X) → o ≡ Some x → o ≡ Some y → x ≡ y
one_item o x y a b = cc

module _ {X : Type 0} (P : X → Type 0) (xs : List X) where
  pub none_first : AreNone P xs 0
  none_first place x lt at p = omega (arith, lt)

  pub none_more : (i : ℕ) (x : X) → slice_get xs i ≡ Some x → (P x → ⊥) → AreNone P xs i → AreNone P xs (i + 1)
  none_more i x at none so_far place y lt is p = ⊎_elim
      (λ (e : place ≡ i). (
      let same : y ≡ x = one_item (slice_get xs place) y x is (subst (λ (n : ℕ). slice_get xs n ≡ Some x) (sym e) at) in
      none (subst P same p)))
      (λ (apart : place ≢ i). so_far place y (omega (arith, lt, apart)) is p)
      (cases_eq place i)

  pub none_at : (i : ℕ) → length xs ≤ i → AreNone P xs i → (place : ℕ) (x : X) → slice_get xs place ≡ Some x → P x → ⊥
  none_at i past none place x is p =
      let within : place < length xs = slice_get_within xs place x is in
      none place x (omega (arith, within, past)) is p

all_places : {X : Type 0} (P : X → Type 0) (xs : List X) → ((place : ℕ) (x : X) → slice_get xs place ≡ Some x → P x) → AllByRecursion P xs
all_places P [] each = tt
all_places P (x ∷ xs) each = (each 0 x refl, all_places P xs (λ place y is. each (suc place) y is))

pub none_among : {X : Type 0} (P : X → Type 0) (xs : List X) (i : ℕ) (x : X) → length xs ≤ i → AreNone P xs i → Contains xs x → P x → ⊥
none_among P xs i x past none stands = All-contains (λ y. P y → ⊥) xs x (All-from_recursion (λ y. P y → ⊥) xs (all_places (λ y. P y → ⊥) xs (none_at P xs i past none))) stands

-- ---- a captured table

module _ (identity : Identity) (infos : List TableInfo) (table : ℕ) (records : List Record) (key : Key) (said : List Cursor) where
  pub told_in_table : (info : TableInfo) (o : Option Bool) → slice_get infos table ≡ Some info → Tests o (IsToldIn identity info records key) (AreUnlistedOf identity info records said)
      → Tests o (IsTold identity infos records table key) (AreUnlisted identity infos records said table)
  told_in_table info (Some b) at d = instead (IsToldIn identity info records key) (IsTold identity infos records table key) b
      (λ (t : IsToldIn identity info records key). record { info = info; captured = at; item = t.item; stands = t.stands; through = t.told.through; done = t.told.done; tells = t.told.tells; covers = t.told.covers })
      (λ (t : IsTold identity infos records table key). (
      let same : t.info ≡ info = one_item (slice_get infos table) t.info info t.captured at in
      record { item = t.item; stands = t.stands; told = record { through = t.through; done = t.done; tells = subst (λ (i : TableInfo). ReportsProgress identity i t.item t.through t.done) same t.tells; covers = t.covers } })) d
  told_in_table info None at unlisted = record { info = info; captured = at; are = unlisted }

  pub untold_elsewhere : slice_get infos table ≡ None → IsTold identity infos records table key → ⊥
  untold_elsewhere at t = let contra : None ≡ Some t.info = sym at ∙ t.captured in cc
