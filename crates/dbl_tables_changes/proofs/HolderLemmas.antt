-- Who is in the way of a session: what the definitions find by looking back over all open sessions, the store has at its keys.
use Rattle.std.proofs.Common.{◌≡◌, ◌∙◌, ℕ, Bool, true, false, List, [], ◌∷◌, refl, sym, ap}
use Rattle.std.specs.Prelude.{◌&&◌, ◌||◌, not, bytes_eq}
use Rattle.std.specs.List.{list_any}
use Rattle.dbl_pgmsg.specs.declared.messages.Message.{Message}
use Rattle.dbl_model_table.specs.declared.row.Key.{Key}
use Rattle.dbl_model_table.specs.declared.table.TableName.{TableName}
use Rattle.dbl_model_table.proofs.Lists.{and_right, or_none}
use Rattle.dbl_tables_rows.specs.SourceLog.RawChanges.{changes_from}
use Rattle.dbl_tables_rows.specs.declared.demo_table.DemoTable.{DemoTable}
use Rattle.dbl_tables_rows.specs.Acts.{Accepted, is_open, open_in}
use Rattle.dbl_tables_rows.specs.Locks.{is_of, holds_key, holds_some, first_other}
use Rattle.dbl_tables_rows.specs.Serial.{acts_after}
use Rattle.dbl_tables_rows.specs.Seen.{committed_rows}
use Rattle.dbl_tables_rows.specs.Sending.{log_tables}
use Rattle.dbl_tables_rows.specs.Steps.{FoundTable, in_the_way}
use Rattle.dbl_tables_laws.specs.Reachable.{IsOrderly}
use Rattle.dbl_tables_laws.proofs.AcceptedLemmas.{stands_since}
use Rattle.dbl_tables_laws.proofs.OpenLemmas.{open_listed}
use Rattle.dbl_tables_laws.proofs.OrderLemmas.{none_held}
use Rattle.dbl_tables_rows.specs.declared.rows.Rows.{Rows}
use Rattle.dbl_tables_rows.specs.Holders.{other_than, lesser_if, IsFirstPassing}
use Rattle.dbl_tables_rows.specs.Views.{owner_at, is_owner}
use Rattle.dbl_tables_rows.proofs.LeastLemmas.{first_one, first_same, first_of_both, least_passing, owner_first}
use Rattle.dbl_tables_changes.specs.AcceptedSteps.{AreRows}
use Rattle.dbl_tables_changes.specs.Laws.{AreFirstHolders, HoldersAreFirst}

one_of : (a b o : Bool) → (a ≡ true → o ≡ true) → (b ≡ true → o ≡ true) → (a || b) ≡ true → o ≡ true
one_of true b o f g is = f refl
one_of false b o f g is = g is

module _ (tables : List DemoTable) (past : List Accepted) (s : List ℕ) (orderly : IsOrderly tables past) where
  -- who isn't open holds nothing
  key_open : (name : TableName) (key : Key) (t : List ℕ) → holds_key (log_tables tables) past name key t ≡ true → is_open t past ≡ true
  key_open name key t holds = by (is_open t past) refl
    where
      by : (b : Bool) → is_open t past ≡ b → b ≡ true
      by true opened = refl
      by false closed = let contra : true ≡ false = sym holds ∙ none_held (log_tables tables) past name key t (orderly.closed t closed) in cc

  pub some_open : (name : TableName) (t : List ℕ) → holds_some (log_tables tables) past name t ≡ true → is_open t past ≡ true
  some_open name t holds = by (is_open t past) refl
    where
      by : (b : Bool) → is_open t past ≡ b → b ≡ true
      by true opened = refl
      by false closed =
          let none : holds_some (log_tables tables) past name t ≡ false = ap (λ (ms : List Message). list_any (is_of name) (changes_from (log_tables tables) (committed_rows (log_tables tables) past) ms)) (orderly.closed t closed) in
          let contra : true ≡ false = sym holds ∙ none in
          cc

  -- the first of the others that hold something is the first of all such
  pub first_is : (holds : List ℕ → Bool) → ((t : List ℕ) → holds t ≡ true → is_open t past ≡ true) → IsFirstPassing (λ t. not (bytes_eq t s) && holds t) (first_other holds s past)
  first_is holds opened = least_passing (λ t. not (bytes_eq t s) && holds t) (open_in past) (λ t passes. sym (open_listed t past) ∙ opened t (and_right (not (bytes_eq t s)) (holds t) passes))

  module _ (at : FoundTable) (rows : Rows) (are : AreRows tables past at rows) where
    abbrev holder : Key → List ℕ → Bool
    holder key t = holds_key (log_tables tables) past at.table.info.name key t

    -- at one key
    pub at_one_key : (key : Key) → in_the_way tables past s at (key ∷ []) ≡ other_than s (owner_at rows key)
    at_one_key key =
        first_one (λ t. not (bytes_eq t s) && (holder key t || false)) (in_the_way tables past s at (key ∷ [])) (other_than s (owner_at rows key))
        (first_is (λ t. holder key t || false) (λ t holds. key_open at.table.info.name key t (sym (or_none (holder key t)) ∙ holds)))
        (first_same (λ t. not (bytes_eq t s) && is_owner t (owner_at rows key)) (λ t. not (bytes_eq t s) && (holder key t || false)) (other_than s (owner_at rows key))
        (λ t. ap (λ (b : Bool). not (bytes_eq t s) && b) (are.holds t key ∙ sym (or_none (holder key t)))) (owner_first s (owner_at rows key)))

    -- at two
    pub at_two_keys : (from to : Key) → in_the_way tables past s at (from ∷ to ∷ []) ≡ lesser_if (other_than s (owner_at rows from)) (other_than s (owner_at rows to))
    at_two_keys from to =
        first_one both (in_the_way tables past s at (from ∷ to ∷ [])) (lesser_if (other_than s (owner_at rows from)) (other_than s (owner_at rows to)))
        (first_is (λ t. holder from t || (holder to t || false)) (λ t holds. either (holder from t) (holder to t) (is_open t past) (key_open at.table.info.name from t) (key_open at.table.info.name to t) holds))
        (first_same (λ t. (not (bytes_eq t s) && is_owner t (owner_at rows from)) || (not (bytes_eq t s) && is_owner t (owner_at rows to))) both (lesser_if (other_than s (owner_at rows from)) (other_than s (owner_at rows to)))
        (λ t. joined (not (bytes_eq t s)) (is_owner t (owner_at rows from)) (is_owner t (owner_at rows to)) ∙ (ap (λ (b : Bool). not (bytes_eq t s) && (b || (is_owner t (owner_at rows to) || false))) (are.holds t from) ∙ ap (λ (b : Bool). not (bytes_eq t s) && (holder from t || (b || false))) (are.holds t to)))
        (first_of_both (λ t. not (bytes_eq t s) && is_owner t (owner_at rows from)) (λ t. not (bytes_eq t s) && is_owner t (owner_at rows to)) (other_than s (owner_at rows from)) (other_than s (owner_at rows to))
        (owner_first s (owner_at rows from)) (owner_first s (owner_at rows to))))
      where
        both : List ℕ → Bool
        both t = not (bytes_eq t s) && (holds_key (log_tables tables) past at.table.info.name from t || (holds_key (log_tables tables) past at.table.info.name to t || false))

        either : (a b o : Bool) → (a ≡ true → o ≡ true) → (b ≡ true → o ≡ true) → (a || (b || false)) ≡ true → o ≡ true
        either true b o f g is = f refl
        either false true o f g is = g refl
        either false false o f g is = cc

        joined : (n a b : Bool) → ((n && a) || (n && b)) ≡ (n && (a || (b || false)))
        joined true true b = refl
        joined true false true = refl
        joined true false false = refl
        joined false a b = refl

-- ---- after all steps

module _ (tables : List DemoTable) (past : List Accepted) (s : List ℕ) (orderly : IsOrderly tables past) where
  one_key : (name : TableName) (keys : List Key) (t : List ℕ) → list_any (λ key. holds_key (log_tables tables) past name key t) keys ≡ true → is_open t past ≡ true
  one_key name [] t holds = cc
  one_key name (key ∷ keys) t holds = one_of (holds_key (log_tables tables) past name key t) (list_any (λ k. holds_key (log_tables tables) past name k t) keys) (is_open t past) (key_open tables past s orderly name key t) (one_key name keys t) holds

  one_table : (names : List TableName) (t : List ℕ) → list_any (λ name. holds_some (log_tables tables) past name t) names ≡ true → is_open t past ≡ true
  one_table [] t holds = cc
  one_table (name ∷ names) t holds = one_of (holds_some (log_tables tables) past name t) (list_any (λ n. holds_some (log_tables tables) past n t) names) (is_open t past) (some_open tables past s orderly name t) (one_table names t) holds

  first_holders : AreFirstHolders tables past s
  first_holders = record {
    at_keys = λ name keys. first_is tables past s orderly (λ t. list_any (λ key. holds_key (log_tables tables) past name key t) keys) (one_key name keys);
    at_tables = λ names. first_is tables past s orderly (λ t. list_any (λ name. holds_some (log_tables tables) past name t) names) (one_table names);
  }

pub holders_first : HoldersAreFirst
holders_first tables calls session can = first_holders tables (acts_after tables [] calls) session (stands_since tables can calls).orderly
