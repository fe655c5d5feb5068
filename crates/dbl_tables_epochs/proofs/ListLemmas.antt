-- The rows of a table as a list: each once, found by its key.
use Rattle.std.proofs.Common.{◌≡◌, ◌∙◌, Bool, true, false, cond, Option, Some, None, List, [], ◌∷◌, length, refl, sym, ap}
use Rattle.std.specs.Prelude.{◌||◌, if◌then◌else◌, is_some}
use Rattle.std.specs.List.{list_any, cons_option}
use Rattle.std.specs.BTreeMap.{is_at}
use Rattle.std.specs.Map.{lookup, keys_of}
use Rattle.dbl_model_table.specs.declared.row.Key.{Key}
use Rattle.dbl_model_table.specs.declared.table.RawTable.{RawTable}
use Rattle.dbl_model_table.specs.Keys.{key_cmp, same_key}
use Rattle.dbl_model_table.proofs.KeyLemmas.{same_key-is, same_key-itself}
use Rattle.dbl_source_log.specs.Texts.{Texts, raw_key, key_in}
use Rattle.dbl_source_log.specs.FitLogs.{IsTextKey}
use Rattle.dbl_tables.proofs.SelectLemmas.{Entry, row_of, row_at}

-- ---- rows that a table can have

-- The row of a list with a key.
abbrev pub among : RawTable → List Texts → Key → Option Texts
among raw [] key = None
among raw (row ∷ list) key = if same_key (key_in raw row) key then Some row else among raw list key

-- Rows that a table can have, no two with one key.
abbrev pub AreOwnRows : RawTable → List Texts → Type 0
AreOwnRows raw [] = Unit {0}
AreOwnRows raw (row ∷ list) = (length row ≡ length raw.columns) × IsTextKey raw (raw_key raw row) ×
    (among raw list (key_in raw row) ≡ None) × AreOwnRows raw list

-- One more row, and more.
abbrev pub put : RawTable → Texts → (Key → Option Texts) → Key → Option Texts
put raw row rows key = if same_key (key_in raw row) key then Some row else rows key

abbrev pub put_all : RawTable → List Texts → (Key → Option Texts) → Key → Option Texts
put_all raw [] rows key = rows key
put_all raw (row ∷ list) rows key = put_all raw list (put raw row rows) key

-- The first of two rows that is there.
abbrev pub first_of : Option Texts → Option Texts → Option Texts
first_of None b = b
first_of (Some a) b = Some a

module _ (raw : RawTable) where
  pub put_all_is : (list : List Texts) (rows : Key → Option Texts) (key : Key) → AreOwnRows raw list
      → put_all raw list rows key ≡ first_of (among raw list key) (rows key)
  put_all_is [] rows key own = refl
  put_all_is (row ∷ list) rows key own = put_all_is list (put raw row rows) key own.3 ∙ by (same_key (key_in raw row) key) refl
    where
      by : (b : Bool) → same_key (key_in raw row) key ≡ b
          → first_of (among raw list key) (if b then Some row else rows key) ≡ first_of (if b then Some row else among raw list key) (rows key)
      by true same =
          let none : among raw list key ≡ None = ap (among raw list) (sym (same_key-is (key_in raw row) key same)) ∙ own.2 in
          ap (λ (o : Option Texts). first_of o (Some row)) none
      by false other = refl

  -- Each row of the list has a key that has no row before it.
  abbrev pub AreNewRows : List Texts → (Key → Option Texts) → Type 0
  AreNewRows [] rows = Unit {0}
  AreNewRows (row ∷ list) rows = (rows (key_in raw row) ≡ None) × AreNewRows list (put raw row rows)

  pub new_rows : (list : List Texts) (rows : Key → Option Texts) → AreOwnRows raw list → ((key : Key) → is_some (among raw list key) ≡ true → rows key ≡ None)
      → AreNewRows list rows
  new_rows [] rows own none = tt
  new_rows (row ∷ list) rows own none = (
    none (key_in raw row) (ap (λ (b : Bool). is_some (if b then Some row else among raw list (key_in raw row))) (same_key-itself (key_in raw row))),
    new_rows list (put raw row rows) own.3 later,
  )
    where
      later : (key : Key) → is_some (among raw list key) ≡ true → put raw row rows key ≡ None
      later key some = by (same_key (key_in raw row) key) refl
        where
          by : (b : Bool) → same_key (key_in raw row) key ≡ b → (if b then Some row else rows key) ≡ None
          by true same =
              let absent : among raw list key ≡ None = ap (among raw list) (sym (same_key-is (key_in raw row) key same)) ∙ own.2 in
              let contra : true ≡ false = sym some ∙ ap is_some absent in
              cc
          by false other = none key (ap (λ (b : Bool). is_some (if b then Some row else among raw list key)) other ∙ some)

-- ---- the rows at some keys

-- The rows at some keys, each once.
abbrev pub rows_at : (Key → Option Texts) → List Key → List Texts
rows_at at [] = []
rows_at at (key ∷ keys) = if list_any (same_key key) keys then rows_at at keys else cons_option (at key) (rows_at at keys)

flip_key : (a b : Key) (c : Bool) → same_key a b ≡ c → same_key b a ≡ c
flip_key a b true same = ap (λ (k : Key). same_key b k) (same_key-is a b same) ∙ same_key-itself b
flip_key a b false other = by (same_key b a) refl
  where
    by : (c : Bool) → same_key b a ≡ c → c ≡ false
    by true same = let contra : true ≡ false = sym (ap (λ (k : Key). same_key a k) (same_key-is b a same) ∙ same_key-itself a) ∙ other in cc
    by false is = refl

module _ (raw : RawTable) (at : Key → Option Texts) (keyed : (key : Key) (row : Texts) → at key ≡ Some row → key_in raw row ≡ key) where
  among_at : (keys : List Key) (key : Key) → among raw (rows_at at keys) key ≡ (if list_any (same_key key) keys then at key else None)
  among_at [] key = refl
  among_at (k ∷ keys) key = by (list_any (same_key k) keys) (same_key key k) refl refl (among_at keys key)
    where
      -- a key that occurs again
      again : (s l : Bool) → list_any (same_key k) keys ≡ true → same_key key k ≡ s → list_any (same_key key) keys ≡ l
          → (if l then at key else None) ≡ (if (s || l) then at key else None)
      again true true more same is = refl
      again true false more same is = let contra : true ≡ false = sym more
          ∙ (ap (λ (x : Key). list_any (same_key x) keys) (sym (same_key-is key k same)) ∙ is) in cc
      again false l more other is = refl

      -- one that doesn't
      once : (s : Bool) → list_any (same_key k) keys ≡ false → same_key key k ≡ s → (o : Option Texts) → at k ≡ o
          → among raw (rows_at at keys) key ≡ (if list_any (same_key key) keys then at key else None)
          → among raw (cons_option o (rows_at at keys)) key ≡ (if (s || list_any (same_key key) keys) then at key else None)
      once true alone same None is later =
          let e : key ≡ k = same_key-is key k same in
          let gone : list_any (same_key key) keys ≡ false = ap (λ (x : Key). list_any (same_key x) keys) e ∙ alone in
          later ∙ (ap (λ (b : Bool). if b then at key else None) gone ∙ sym (ap at e ∙ is))
      once false alone other None is later = later
      once true alone same (Some row) is later =
          let e : key ≡ k = same_key-is key k same in
          let here : same_key (key_in raw row) key ≡ true = ap (λ (x : Key). same_key x key) (keyed k row is) ∙ flip_key key k true same in
          ap (λ (b : Bool). if b then Some row else among raw (rows_at at keys) key) here ∙ sym (ap at e ∙ is)
      once false alone other (Some row) is later =
          let apart : same_key (key_in raw row) key ≡ false = ap (λ (x : Key). same_key x key) (keyed k row is) ∙ flip_key key k false other in
          ap (λ (b : Bool). if b then Some row else among raw (rows_at at keys) key) apart ∙ later

      by : (m s : Bool) → list_any (same_key k) keys ≡ m → same_key key k ≡ s
          → among raw (rows_at at keys) key ≡ (if list_any (same_key key) keys then at key else None)
          → among raw (if m then rows_at at keys else cons_option (at k) (rows_at at keys)) key ≡ (if (s || list_any (same_key key) keys) then at key else None)
      by true s more is later = later ∙ again s (list_any (same_key key) keys) more is refl
      by false s alone is later = once s alone is (at k) refl later

  -- the list has all rows if each key with a row is among the keys
  pub all_rows_at : (keys : List Key) → ((key : Key) → is_some (at key) ≡ true → list_any (same_key key) keys ≡ true) → (key : Key)
      → among raw (rows_at at keys) key ≡ at key
  all_rows_at keys covers key = among_at keys key ∙ by (at key) (list_any (same_key key) keys) refl refl
    where
      by : (o : Option Texts) (b : Bool) → at key ≡ o → list_any (same_key key) keys ≡ b → (if b then o else None) ≡ o
      by None true is there = refl
      by None false is there = refl
      by (Some row) true is there = refl
      by (Some row) false is there = let contra : true ≡ false = sym (covers key (ap is_some is)) ∙ there in cc

  pub own_rows_at : (keys : List Key) → ((key : Key) (row : Texts) → at key ≡ Some row → (length row ≡ length raw.columns) × IsTextKey raw (raw_key raw row))
      → AreOwnRows raw (rows_at at keys)
  own_rows_at [] has = tt
  own_rows_at (k ∷ keys) has = by (list_any (same_key k) keys) refl (own_rows_at keys has)
    where
      one : list_any (same_key k) keys ≡ false → (o : Option Texts) → at k ≡ o → AreOwnRows raw (rows_at at keys)
          → AreOwnRows raw (cons_option o (rows_at at keys))
      one alone None is later = later
      one alone (Some row) is later =
          let own = has k row is in (
            own.0,
            own.1,
            ap (among raw (rows_at at keys)) (keyed k row is) ∙ (among_at keys k ∙ ap (λ (b : Bool). if b then at k else None) alone),
            later,
          )

      by : (m : Bool) → list_any (same_key k) keys ≡ m → AreOwnRows raw (rows_at at keys)
          → AreOwnRows raw (if m then rows_at at keys else cons_option (at k) (rows_at at keys))
      by true more later = later
      by false alone later = one alone (at k) refl later

-- ---- the keys of slots

-- a key with a row is the key of a slot
pub slots_cover : (es : List Entry) (key : Key) → is_some (row_at es key) ≡ true → list_any (same_key key) (keys_of es) ≡ true
slots_cover [] key some = cc
slots_cover (e ∷ es) key some = by (same_key key e.0) some (λ later. slots_cover es key later)
  where
    by : (b : Bool) → is_some (row_of (cond b (Some e.1) (lookup (is_at (key_cmp key)) es))) ≡ true
        → (is_some (row_at es key) ≡ true → list_any (same_key key) (keys_of es) ≡ true) → (b || list_any (same_key key) (keys_of es)) ≡ true
    by true told later = refl
    by false told later = later told
