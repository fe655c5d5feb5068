-- Truncates of several tables: their places, who is in the way, and what is judged.
use Rattle.std.proofs.Common.{◌≡◌, ◌∙◌, ◌+◌, ℕ, suc, Bool, true, false, Option, Some, None, List, [], ◌∷◌, ◌++◌, map, refl, sym, ap, subst, arith}
use Rattle.std.specs.Prelude.{◌&&◌, ◌||◌, not, nat_eq, is_none, is_some, IsSome, option_map, Result, Ok, Err, slice_get, bytes_eq}
use Rattle.std.specs.List.{AllByRecursion, AllZip, list_any}
use Rattle.std.specs.BTreeSet.{contains}
use Rattle.std.proofs.lemmas.Bool.Decides.{Decides-eqb}
use Rattle.std.proofs.lemmas.Option.{slice_get-map}
use Rattle.dbl_base.specs.Texts.{text_cmp}
use Rattle.dbl_model_table.specs.declared.row.Key.{Key}
use Rattle.dbl_model_table.specs.declared.table.RawTable.{RawTable}
use Rattle.dbl_model_table.specs.declared.table.TableName.{TableName}
use Rattle.dbl_model_table.specs.Keys.{same_key}
use Rattle.dbl_model_table.specs.Tables.{same_name}
use Rattle.dbl_model_table.proofs.KeyLemmas.{same_key-itself}
use Rattle.dbl_model_table.proofs.Lists.{same_text, text_itself, or_false, or_right}
use Rattle.dbl_model_history.specs.History.{RawChange, name_of}
use Rattle.dbl_model_history.specs.History.RawChange.{Insert, Update, Delete, Clear}
use Rattle.dbl_tables_rows.specs.SourceLog.declared.logged.LogTable.{LogTable}
use Rattle.dbl_tables_rows.specs.SourceLog.Relations.{first_oid}
use Rattle.dbl_tables_rows.specs.SourceLog.TextRows.{log_table_named}
use Rattle.dbl_tables_rows.specs.SourceLog.Texts.{key_from, key_in, given_text}
use Rattle.dbl_tables_rows.proofs.SourceLogThemselvesLemmas.{name_same}
use Rattle.dbl_tables_rows.specs.declared.demo_table.DemoTable.{DemoTable}
use Rattle.dbl_tables_rows.specs.declared.error.StepError.{StepError}
use Rattle.dbl_tables_rows.specs.declared.error.StepError.TheVariants as errors
use Rattle.dbl_tables_rows.specs.Acts.{Accepted, is_open, messages_by}
use Rattle.dbl_tables_rows.specs.Acts.Accepted.{Did}
use Rattle.dbl_tables_rows.specs.Locks.{names_key, names_key_in, is_of, locks, holds_key, holds_some, table_holder}
use Rattle.dbl_tables_rows.specs.Refusals.{◌>>=◌, refuse_step_if, some_or_refuse, refuse_by}
use Rattle.dbl_tables_rows.specs.Seen.{changes_by}
use Rattle.dbl_tables_rows.specs.Sending.{log_table, log_tables, truncate_message, is_too_long}
use Rattle.dbl_tables_rows.specs.Steps.{FoundTable, found, oids_found, truncate_judged}
use Rattle.dbl_tables_changes.specs.TablesLaws.Reachable.{IsOrderly}
use Rattle.dbl_tables_changes.proofs.TablesLawsMessageLemmas.{found_there}
use Rattle.dbl_tables_changes.proofs.TablesLawsSeenLemmas.{named_there, names_distinct}
use Rattle.dbl_tables_rows.specs.declared.rows.Cleared.{Cleared}
use Rattle.dbl_tables_rows.specs.declared.rows.Rows.{Rows}
use Rattle.dbl_tables_rows.specs.Holders.{other_than, lesser_if, IsFirstPassing, IsFirstHolder}
use Rattle.dbl_tables_rows.specs.Views.{owner_in, is_owner, is_holder_in}
use Rattle.dbl_tables_rows.proofs.LeastLemmas.{first_one, first_same, first_of_both, owner_first}
use Rattle.dbl_tables_changes.specs.AcceptedSteps.{found_at, AreRows}
use Rattle.dbl_tables.specs.Stands.{Stands}
use Rattle.dbl_tables.specs.Truncates.{place_in, is_missing, IsHolderAt, FindsFirst}
use Rattle.dbl_tables.specs.declared.tables.Tables.{Tables}
use Rattle.dbl_tables_changes.proofs.HolderLemmas.{first_is, some_open}
use Rattle.dbl_tables.proofs.StoreLemmas.{found_none, found_here_at}
use Rattle.dbl_tables_changes.proofs.VerdictLemmas.{refused, let_on, stopped_by, stopped_by_none}

-- ---- lists

any_same : {A : Type 0} (p q : A → Bool) (xs : List A) → ((x : A) → p x ≡ q x) → list_any p xs ≡ list_any q xs
any_same p q [] same = refl
any_same p q (x ∷ xs) same = ap (λ (b : Bool). b || list_any p xs) (same x) ∙ ap (λ (b : Bool). q x || b) (any_same p q xs same)

-- one place more
any_push : (p : ℕ → Bool) (xs : List ℕ) (x : ℕ) → list_any p (xs ++ x ∷ []) ≡ (list_any p xs || p x)
any_push p [] x = by (p x)
  where
    by : (b : Bool) → (b || false) ≡ (false || b)
    by true = refl
    by false = refl
any_push p (y ∷ xs) x = ap (λ (b : Bool). p y || b) (any_push p xs x) ∙ by (p y) (list_any p xs) (p x)
  where
    by : (a b c : Bool) → (a || (b || c)) ≡ ((a || b) || c)
    by true b c = refl
    by false b c = refl

-- ---- the first so far

pub first_so_far : (s : List ℕ) (holds : ℕ → List ℕ → Bool) (places : List ℕ) (place : ℕ) (first own : Option (List ℕ)) → IsFirstPassing (λ t. not (bytes_eq t s) && list_any (λ p. holds p t) places) first → IsFirstPassing (λ t. not (bytes_eq t s) && holds place t) own
    → IsFirstPassing (λ t. not (bytes_eq t s) && list_any (λ p. holds p t) (places ++ place ∷ [])) (lesser_if first own)
first_so_far s holds places place first own so_far here =
    first_same (λ t. (not (bytes_eq t s) && list_any (λ p. holds p t) places) || (not (bytes_eq t s) && holds place t)) (λ t. not (bytes_eq t s) && list_any (λ p. holds p t) (places ++ place ∷ [])) (lesser_if first own)
    (λ t. joined (not (bytes_eq t s)) (list_any (λ p. holds p t) places) (holds place t) ∙ ap (λ (b : Bool). not (bytes_eq t s) && b) (sym (any_push (λ p. holds p t) places place)))
    (first_of_both (λ t. not (bytes_eq t s) && list_any (λ p. holds p t) places) (λ t. not (bytes_eq t s) && holds place t) first own so_far here)
  where
    joined : (n a b : Bool) → ((n && a) || (n && b)) ≡ (n && (a || b))
    joined true a b = refl
    joined false a b = refl

pub first_of_none : (s : List ℕ) (holds : ℕ → List ℕ → Bool) → IsFirstPassing (λ t. not (bytes_eq t s) && list_any (λ p. holds p t) []) None
first_of_none s holds = λ t. by (bytes_eq t s)
  where
    by : (b : Bool) → (not b && false) ≡ false
    by true = refl
    by false = refl

-- ---- who holds something of a table holds a key of it

names_some : (raw : RawTable) (c : RawChange) → (key : Key) × (names_key raw key c ≡ true)
names_some raw (Insert name row) = (key_in raw row.cells, same_key-itself (key_in raw row.cells))
names_some raw (Update name from old cells) = (key_in raw (map given_text cells), ap (λ (b : Bool). b || same_key (key_from raw from) (key_in raw (map given_text cells))) (same_key-itself (key_in raw (map given_text cells))))
names_some raw (Delete name from old) = (key_from raw from, same_key-itself (key_from raw from))
names_some raw (Clear name) = ((let k : Key = record { cells = [] } in k), refl)

some_key : (tables : List LogTable) (name : TableName) (t : LogTable) (cs : List RawChange) → log_table_named tables name ≡ Some t → list_any (is_of name) cs ≡ true → (key : Key) × (list_any (locks tables name key) cs ≡ true)
some_key tables name t [] there some = cc
some_key tables name t (c ∷ cs) there some = by (is_of name c) refl some (λ later. some_key tables name t cs there later)
  where
    by : (b : Bool) → is_of name c ≡ b → (b || list_any (is_of name) cs) ≡ true → (list_any (is_of name) cs ≡ true → (key : Key) × (list_any (locks tables name key) cs ≡ true)) → (key : Key) × (list_any (locks tables name key) (c ∷ cs) ≡ true)
    by true own told later =
        let at = names_some t.raw c in (
          at.0,
          ap (λ (b : Bool). b || list_any (locks tables name at.0) cs)
              (ap (λ (b : Bool). b && names_key_in (log_table_named tables (name_of c)) at.0 c) own
              ∙ (ap (λ (n : TableName). names_key_in (log_table_named tables n) at.0 c) (name_same (name_of c) name own) ∙ (ap (λ (o : Option LogTable). names_key_in o at.0 c) there ∙ at.1))),
        )
    by false other told later =
        let at = later told in
        (at.0, ap (λ (b : Bool). locks tables name at.0 c || b) at.1 ∙ or_right (locks tables name at.0 c))

-- ---- a table's own answer

module _ (tables : List DemoTable) (past : List Accepted) (s : List ℕ) (orderly : IsOrderly tables past) (at : FoundTable) (rows : Rows) (are : AreRows tables past at rows) (named : log_table_named (log_tables tables) at.table.info.name ≡ Some (log_table at.table)) where
  -- where a session truncates, nobody else holds anything
  alone_there : (c : Cleared) → rows.cleared ≡ Some c → (t : List ℕ) → bytes_eq c.by t ≡ holds_some (log_tables tables) past at.table.info.name t
  alone_there c is t = by (holds_some (log_tables tables) past at.table.info.name t) refl
    where
      owns : (key : Key) → holds_key (log_tables tables) past at.table.info.name key c.by ≡ true
      owns key = sym (are.holds c.by key) ∙ (ap (λ (o : Option Cleared). is_owner c.by (owner_in o rows.slots key)) is ∙ text_itself c.by)

      there : (bytes_eq c.by t || contains text_cmp rows.holders t) ≡ holds_some (log_tables tables) past at.table.info.name t
      there = sym (ap (λ (o : Option Cleared). is_holder_in o rows.holders t) is) ∙ are.holders t

      by : (b : Bool) → holds_some (log_tables tables) past at.table.info.name t ≡ b → bytes_eq c.by t ≡ holds_some (log_tables tables) past at.table.info.name t
      by true some =
          let k = some_key (log_tables tables) at.table.info.name (log_table at.table) (changes_by (log_tables tables) past t) named some in
          let e : c.by ≡ t = orderly.apart c.by t at.table.info.name k.0 (owns k.0) k.1 in
          ap (bytes_eq c.by) (sym e) ∙ (text_itself c.by ∙ sym some)
      by false none = (or_false (bytes_eq c.by t) (contains text_cmp rows.holders t) (there ∙ none)).0 ∙ sym none

  pub own_first : (o : Option Cleared) → rows.cleared ≡ o → (first : Option (List ℕ)) → IsFirstHolder s o rows.holders first → IsFirstPassing (λ t. not (bytes_eq t s) && holds_some (log_tables tables) past at.table.info.name t) first
  own_first None is first told =
      first_same (λ t. not (bytes_eq t s) && contains text_cmp rows.holders t) (λ t. not (bytes_eq t s) && holds_some (log_tables tables) past at.table.info.name t) first
      (λ t. ap (λ (b : Bool). not (bytes_eq t s) && b) (sym (ap (λ (o : Option Cleared). is_holder_in o rows.holders t) is) ∙ are.holders t)) told
  own_first (Some c) is first told =
      subst (IsFirstPassing (λ t. not (bytes_eq t s) && holds_some (log_tables tables) past at.table.info.name t)) (sym told)
      (first_same (λ t. not (bytes_eq t s) && bytes_eq c.by t) (λ t. not (bytes_eq t s) && holds_some (log_tables tables) past at.table.info.name t) (other_than s (Some c.by))
      (λ t. ap (λ (b : Bool). not (bytes_eq t s) && b) (alone_there c is t)) (owner_first s (Some c.by)))

-- ---- the verdict

module _ (tables : List DemoTable) (past : List Accepted) (s : List ℕ) (store : Tables) (st : Stands tables past store) where
  -- who holds something of the table at a place
  abbrev pub holds_at : Option Rows → List ℕ → Bool
  holds_at None t = false
  holds_at (Some rows) t = holds_some (log_tables tables) past rows.table.info.name t

  abbrev pub held_at : ℕ → List ℕ → Bool
  held_at place t = holds_at (slice_get store.tables.items place) t

  pub named_at_place : (place : ℕ) (rows : Rows) → slice_get store.tables.items place ≡ Some rows → log_table_named (log_tables tables) rows.table.info.name ≡ Some (log_table rows.table)
  named_at_place place rows there =
      named_there (log_tables tables) place (log_table rows.table) (names_distinct tables past st.can st.standing.orderly)
      (slice_get-map log_table tables place
      ∙ (ap (λ (l : List DemoTable). option_map log_table (slice_get l place)) (sym st.tables_are)
      ∙ (ap (option_map log_table) (slice_get-map (λ (r : Rows). r.table) store.tables.items place)
      ∙ ap (λ (o : Option Rows). option_map log_table (option_map (λ (r : Rows). r.table) o)) there)))

  pub place_first : (place : ℕ) (own : Option (List ℕ)) → IsHolderAt s (slice_get store.tables.items place) own → IsFirstPassing (λ t. not (bytes_eq t s) && held_at place t) own
  place_first place own told = by (slice_get store.tables.items place) refl told
    where
      by : (o : Option Rows) → slice_get store.tables.items place ≡ o → IsHolderAt s o own → IsFirstPassing (λ t. not (bytes_eq t s) && holds_at o t) own
      by None none is = subst (IsFirstPassing (λ t. not (bytes_eq t s) && false)) (sym is) (λ t. never (bytes_eq t s))
        where
          never : (b : Bool) → (not b && false) ≡ false
          never true = refl
          never false = refl
      by (Some rows) there is = own_first tables past s st.standing.orderly (found_at place rows.table) rows (st.rows place rows there) (named_at_place place rows there) rows.cleared refl own is

  -- the table of a name is that at its place
  pub at_name : (name : TableName) (place : ℕ) → place_in store.tables.items name ≡ Some place → (rows : Rows) × (slice_get store.tables.items place ≡ Some rows) × (found tables name ≡ Some (found_at place rows.table)) × (same_name rows.table.info.name name ≡ true)
  at_name name place is =
      let h = found_here_at store.tables.items first_oid 0 place name is in
      let e : place ≡ h.subsequent = h.place_is ∙ none_more h.subsequent in
      let there : found tables name ≡ Some (found_at place h.rows.table) = ap (λ (l : List DemoTable). found l name) (sym st.tables_are) ∙ (h.is ∙ ap (λ (n : ℕ). Some (found_at n h.rows.table)) (sym e)) in
      let at = found_there first_oid tables name (found_at place h.rows.table) there in
      (h.rows, ap (slice_get store.tables.items) e ∙ h.there, there, at.named)
    where
      none_more : (n : ℕ) → 0 + n ≡ n
      none_more n = omega arith

  pub held_by_name : (name : TableName) (place : ℕ) → place_in store.tables.items name ≡ Some place → (t : List ℕ) → held_at place t ≡ holds_some (log_tables tables) past name t
  held_by_name name place is t =
      let a = at_name name place is in
      ap (λ (o : Option Rows). holds_at o t) a.1 ∙ ap (λ (n : TableName). holds_some (log_tables tables) past n t) (name_same a.0.table.info.name name a.3)

  any_held : (names : List TableName) (places : List ℕ) → AllZip (λ name place. place_in store.tables.items name ≡ Some place) names places → (t : List ℕ) → list_any (λ place. held_at place t) places ≡ list_any (λ name. holds_some (log_tables tables) past name t) names
  any_held [] [] all t = refl
  any_held [] (p ∷ places) all t = absurd all
  any_held (n ∷ names) [] all t = absurd all
  any_held (n ∷ names) (p ∷ places) all t =
      ap (λ (b : Bool). b || list_any (λ place. held_at place t) places) (held_by_name n p all.0 t) ∙ ap (λ (b : Bool). holds_some (log_tables tables) past n t || b) (any_held names places all.1 t)

  -- who is in the way is the first that was found
  pub truncate_way : (names : List TableName) (places : List ℕ) (first : Option (List ℕ)) → AllZip (λ name place. place_in store.tables.items name ≡ Some place) names places → FindsFirst s store.tables.items places first → table_holder (log_tables tables) past s names ≡ first
  truncate_way names places first all finds =
      first_one (λ t. not (bytes_eq t s) && list_any (λ name. holds_some (log_tables tables) past name t) names) (table_holder (log_tables tables) past s names) first
      (first_is tables past s st.standing.orderly (λ t. list_any (λ name. holds_some (log_tables tables) past name t) names) (λ t holds. among names t holds))
      (first_same (λ t. not (bytes_eq t s) && list_any (λ place. held_at place t) places) (λ t. not (bytes_eq t s) && list_any (λ name. holds_some (log_tables tables) past name t) names) first
      (λ t. ap (λ (b : Bool). not (bytes_eq t s) && b) (any_held names places all t)) (finds held_at place_first))
    where
      among : (ns : List TableName) (t : List ℕ) → list_any (λ name. holds_some (log_tables tables) past name t) ns ≡ true → is_open t past ≡ true
      among [] t holds = cc
      among (n ∷ ns) t holds = by (holds_some (log_tables tables) past n t) refl holds (λ later. among ns t later)
        where
          by : (b : Bool) → holds_some (log_tables tables) past n t ≡ b → (b || list_any (λ name. holds_some (log_tables tables) past name t) ns) ≡ true → (list_any (λ name. holds_some (log_tables tables) past name t) ns ≡ true → is_open t past ≡ true) → is_open t past ≡ true
          by true some told later = some_open tables past s st.standing.orderly n t some
          by false none told later = later told

  -- the OIDs, where all are there, and the refusal where one isn't
  pub oids_are : (names : List TableName) (places : List ℕ) → AllZip (λ name place. place_in store.tables.items name ≡ Some place) names places → oids_found tables names ≡ Ok (map (λ place. first_oid + place) places)
  oids_are [] [] all = refl
  oids_are [] (p ∷ places) all = absurd all
  oids_are (n ∷ names) [] all = absurd all
  oids_are (n ∷ names) (p ∷ places) all =
      let a = at_name n p all.0 in
      ap (λ (o : Option FoundTable). some_or_refuse o errors.UnknownTable >>= (λ at. oids_found tables names >>= (λ oids. Ok (at.oid ∷ oids)))) a.2
      ∙ ap (λ (r : Result (List ℕ) StepError). r >>= (λ oids. Ok ((first_oid + p) ∷ oids))) (oids_are names places all.1)

  pub oids_missing : (names : List TableName) → is_missing store.tables.items names ≡ true → oids_found tables names ≡ Err errors.UnknownTable
  oids_missing [] missing = cc
  oids_missing (n ∷ names) missing = by (place_in store.tables.items n) refl missing (λ later. oids_missing names later)
    where
      rest : FoundTable → Result (List ℕ) StepError
      rest at = oids_found tables names >>= (λ oids. Ok (at.oid ∷ oids))

      by : (o : Option ℕ) → place_in store.tables.items n ≡ o → (is_none o || is_missing store.tables.items names) ≡ true → (is_missing store.tables.items names ≡ true → oids_found tables names ≡ Err errors.UnknownTable) → oids_found tables (n ∷ names) ≡ Err errors.UnknownTable
      by None none told later =
          ap (λ (o : Option FoundTable). some_or_refuse o errors.UnknownTable >>= (λ at. oids_found tables names >>= (λ oids. Ok (at.oid ∷ oids))))
          (ap (λ (l : List DemoTable). found l n) (sym st.tables_are) ∙ found_none store.tables.items 0 first_oid n none)
      by (Some p) is told later =
          let a = at_name n p is in
          ap (λ (o : Option FoundTable). some_or_refuse o errors.UnknownTable >>= (λ at. oids_found tables names >>= (λ oids. Ok (at.oid ∷ oids)))) a.2
          ∙ ap (λ (r : Result (List ℕ) StepError). r >>= (λ oids. Ok ((first_oid + p) ∷ oids))) (later told)

  -- ---- chains

  module _ (names : List TableName) where
    abbrev last_truncate : List ℕ → Result Accepted StepError
    last_truncate oids = refuse_by (table_holder (log_tables tables) past s names) >>= λ w. Ok (Did s (truncate_message oids))

    abbrev long_truncate : List ℕ → Result Accepted StepError
    long_truncate oids = refuse_step_if (is_too_long (messages_by s past) (truncate_message oids)) errors.BadRow >>= λ v. last_truncate oids

    abbrev open_truncate : Result Accepted StepError
    open_truncate = oids_found tables names >>= long_truncate

    pub truncate_closed : is_open s past ≡ false → truncate_judged tables past s names ≡ Err errors.NotOpen
    truncate_closed closed = refused (not (is_open s past)) errors.NotOpen open_truncate (ap not closed)

    module _ (opened : is_open s past ≡ true) where
      to_open : truncate_judged tables past s names ≡ open_truncate
      to_open = let_on (not (is_open s past)) errors.NotOpen open_truncate (ap not opened)

      pub truncate_unknown : is_missing store.tables.items names ≡ true → truncate_judged tables past s names ≡ Err errors.UnknownTable
      truncate_unknown missing = to_open ∙ ap (λ (r : Result (List ℕ) StepError). r >>= long_truncate) (oids_missing names missing)

      module _ (places : List ℕ) (all : AllZip (λ name place. place_in store.tables.items name ≡ Some place) names places) where
        abbrev oids : List ℕ
        oids = map (λ place. first_oid + place) places

        to_long : truncate_judged tables past s names ≡ long_truncate oids
        to_long = to_open ∙ ap (λ (r : Result (List ℕ) StepError). r >>= long_truncate) (oids_are names places all)

        pub truncate_too_long : is_too_long (messages_by s past) (truncate_message oids) ≡ true → truncate_judged tables past s names ≡ Err errors.BadRow
        truncate_too_long long = to_long ∙ refused (is_too_long (messages_by s past) (truncate_message oids)) errors.BadRow (last_truncate oids) long

        module _ (short : is_too_long (messages_by s past) (truncate_message oids) ≡ false) (first : Option (List ℕ)) (finds : FindsFirst s store.tables.items places first) where
          to_way : truncate_judged tables past s names ≡ last_truncate oids
          to_way = to_long ∙ let_on (is_too_long (messages_by s past) (truncate_message oids)) errors.BadRow (last_truncate oids) short

          pub truncate_locked : (by : List ℕ) → first ≡ Some by → truncate_judged tables past s names ≡ Err (errors.RowLocked by)
          truncate_locked by is = to_way ∙ stopped_by (table_holder (log_tables tables) past s names) by (Ok (Did s (truncate_message oids))) (truncate_way names places first all finds ∙ is)

          pub truncate_accepted : first ≡ None → truncate_judged tables past s names ≡ Ok (Did s (truncate_message oids))
          truncate_accepted none = to_way ∙ stopped_by_none (table_holder (log_tables tables) past s names) (Ok (Did s (truncate_message oids))) (truncate_way names places first all finds ∙ none)

          -- nobody else holds anything of a table that is named
          pub truncate_free : first ≡ None → (p : ℕ) (rows : Rows) → slice_get store.tables.items p ≡ Some rows → list_any (nat_eq p) places ≡ true → (t : List ℕ) → bytes_eq s t ≡ false → holds_some (log_tables tables) past rows.table.info.name t ≡ false
          truncate_free none p rows there among t other =
              let nobody : IsFirstPassing (λ x. not (bytes_eq x s) && list_any (λ place. held_at place x) places) None = subst (IsFirstPassing (λ x. not (bytes_eq x s) && list_any (λ place. held_at place x) places)) none (finds held_at place_first) in
              sym (ap (λ (o : Option Rows). holds_at o t) there) ∙ one places among (alone (bytes_eq t s) (list_any (λ place. held_at place t) places) (turned (bytes_eq t s) refl) (nobody t))
            where
              turned : (b : Bool) → bytes_eq t s ≡ b → b ≡ false
              turned false is = refl
              turned true is = let contra : true ≡ false = sym (text_itself t) ∙ (ap (λ (x : List ℕ). bytes_eq x t) (same_text t s is) ∙ other) in cc

              alone : (b l : Bool) → b ≡ false → (not b && l) ≡ false → l ≡ false
              alone true l is told = cc
              alone false l is told = told

              one : (ps : List ℕ) → list_any (nat_eq p) ps ≡ true → list_any (λ place. held_at place t) ps ≡ false → held_at p t ≡ false
              one [] told none_of = cc
              one (q ∷ ps) told none_of =
                  let both = or_false (held_at q t) (list_any (λ place. held_at place t) ps) none_of in
                  by (nat_eq p q) refl told both.0 (λ later. one ps later both.1)
                where
                  by : (b : Bool) → nat_eq p q ≡ b → (b || list_any (nat_eq p) ps) ≡ true → held_at q t ≡ false → (list_any (nat_eq p) ps ≡ true → held_at p t ≡ false) → held_at p t ≡ false
                  by true same told_it here later = ap (λ (n : ℕ). held_at n t) ((Decides-eqb p q).0 same) ∙ here
                  by false apart told_it here later = later told_it

        -- each place has a table
        pub all_there : AllByRecursion (λ place. IsSome (slice_get store.tables.items place)) places
        all_there = each names places all
          where
            each : (ns : List TableName) (ps : List ℕ) → AllZip (λ name place. place_in store.tables.items name ≡ Some place) ns ps → AllByRecursion (λ place. IsSome (slice_get store.tables.items place)) ps
            each [] [] zip = tt
            each [] (p ∷ ps) zip = absurd zip
            each (n ∷ ns) [] zip = absurd zip
            each (n ∷ ns) (p ∷ ps) zip = ((let a = at_name n p zip.0 in ap is_some a.1), each ns ps zip.1)

-- ---- tables after truncates are the same tables

pub same_places : (xs ys : List Rows) → ((p : ℕ) → option_map (λ (r : Rows). r.table) (slice_get ys p) ≡ option_map (λ (r : Rows). r.table) (slice_get xs p)) → map (λ (r : Rows). r.table) ys ≡ map (λ (r : Rows). r.table) xs
same_places [] [] same = refl
same_places [] (y ∷ ys) same = let none : Some y.table ≡ None = same 0 in cc
same_places (x ∷ xs) [] same = let none : None ≡ Some x.table = same 0 in cc
same_places (x ∷ xs) (y ∷ ys) same =
    let here : Some y.table ≡ Some x.table = same 0 in
    let e : y.table ≡ x.table = cc in
    ap (λ (t : DemoTable). t ∷ map (λ (r : Rows). r.table) ys) e ∙ ap (λ (l : List DemoTable). x.table ∷ l) (same_places xs ys (λ p. same (suc p)))
