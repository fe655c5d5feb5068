-- Verdicts look at the open sessions, their changes and the committed rows alone.
use Rattle.std.proofs.Common.{◌≡◌, ◌∙◌, ℕ, Bool, true, false, cond, Option, List, [], ◌∷◌, ◌++◌, map, refl, sym, ap, subst, append_assoc}
use Rattle.std.specs.Prelude.{◌&&◌, ◌||◌, not, is_some, if◌then◌else◌, option_map, filter, bytes_eq, Result, Ok}
use Rattle.std.specs.List.{AllByRecursion, list_any}
use Rattle.dbl_pgmsg.specs.declared.messages.Message.{Message}
use Rattle.dbl_model_table.specs.declared.named_cell.NamedCell.{NamedCell}
use Rattle.dbl_model_table.specs.declared.row.Key.{Key}
use Rattle.dbl_model_table.specs.declared.table.TableName.{TableName}
use Rattle.dbl_model_table.specs.Keys.{same_key}
use Rattle.dbl_model_table.specs.Tables.{same_name}
use Rattle.dbl_model_table.proofs.InfoLemmas.{one_info}
use Rattle.dbl_model_table.proofs.Lists.{and_right, any_here, text_itself}
use Rattle.dbl_model_history.specs.History.{RawChange}
use Rattle.dbl_source_log.specs.declared.logged.LogTable.{LogTable}
use Rattle.dbl_source_log.specs.Texts.{Texts, key_in}
use Rattle.dbl_source_log.specs.TextRows.{TextRows, text_rows_with}
use Rattle.dbl_source_log.specs.RawChanges.{changes_from}
use Rattle.dbl_source_log.proofs.ThemselvesLemmas.{name_same}
use Rattle.dbl_tables_rows.specs.declared.demo_table.DemoTable.{DemoTable}
use Rattle.dbl_tables_rows.specs.declared.error.StepError.{StepError}
use Rattle.dbl_tables_rows.specs.declared.error.StepError.TheVariants as errors
use Rattle.dbl_tables_rows.specs.Acts.{Accepted, is_open, open_in, messages_by}
use Rattle.dbl_tables_rows.specs.Acts.Accepted.{Began, Did, Committed, RolledBack}
use Rattle.dbl_tables_rows.specs.Cells.{row_given, key_given, key_set, is_readable_row, is_readable_key, is_readable_set}
use Rattle.dbl_tables_rows.specs.Holders.{IsFirstPassing}
use Rattle.dbl_tables_rows.specs.Locks.{is_of, locks, holds_key, holds_some, least, first_other, table_holder}
use Rattle.dbl_tables_rows.specs.Refusals.{◌>>=◌, refuse_step_if, some_or_refuse, refuse_by}
use Rattle.dbl_tables_rows.specs.Seen.{committed_rows, changes_by, seen_rows}
use Rattle.dbl_tables_rows.specs.Sending.{raw_of, log_tables, insert_message, delete_message, truncate_message, is_too_long, is_too_large}
use Rattle.dbl_tables_rows.specs.Steps.{Step, FoundTable, found, seen, in_the_way, is_too_large_if, updating, oids_found, judged}
use Rattle.dbl_tables_rows.specs.Steps.Step.{Begin, Commit, Rollback, Insert, Update, Delete, Truncate}
use Rattle.dbl_tables_rows.proofs.LeastLemmas.{first_one, first_same, least_passing}
use Rattle.dbl_tables_laws.proofs.OpenLemmas.{open_listed}
use Rattle.dbl_tables_laws.proofs.SeenLemmas.{shows}
use Rattle.dbl_tables_altered.specs.declared.alteration.Alteration.{Alteration}
use Rattle.dbl_tables_altered.specs.Alterations.{raw_after}
use Rattle.dbl_tables_epochs.specs.Epochs.{AreAlike, replaced, IsReopened}
use Rattle.dbl_tables_epochs.specs.Laws.{AlikeActsAreJudgedAlike, ReopenedActsAreAlike}
use Rattle.dbl_tables_epochs.proofs.ActsLemmas.{is_among}

-- ---- the first of those of a list that pass

and_yes : (b : Bool) → (b && true) ≡ b
and_yes true = refl
and_yes false = refl

filter_same : (p q : List ℕ → Bool) (xs : List (List ℕ)) → AllByRecursion (λ x. p x ≡ q x) xs → filter p xs ≡ filter q xs
filter_same p q [] same = refl
filter_same p q (x ∷ xs) same =
    ap (λ (b : Bool). cond b (x ∷ filter p xs) (filter p xs)) same.0
    ∙ ap (λ (l : List (List ℕ)). cond (q x) (x ∷ l) l) (filter_same p q xs same.1)

each_among : (front xs : List (List ℕ)) → AllByRecursion (λ x. is_among (front ++ xs) x ≡ true) xs
each_among front [] = tt
each_among front (x ∷ xs) = (
  any_here (λ (o : List ℕ). bytes_eq o x) front x xs (text_itself x),
  subst (λ (l : List (List ℕ)). AllByRecursion (λ y. is_among l y ≡ true) xs) (append_assoc front (x ∷ []) xs) (each_among (front ++ x ∷ []) xs),
)

first_among : (p : List ℕ → Bool) (xs : List (List ℕ)) → IsFirstPassing (λ t. p t && is_among xs t) (least (filter p xs))
first_among p xs =
    subst (λ (l : List (List ℕ)). IsFirstPassing (λ t. p t && is_among xs t) (least l))
    (filter_same (λ t. p t && is_among xs t) p xs (all xs (each_among [] xs)))
    (least_passing (λ t. p t && is_among xs t) xs (λ t passes. and_right (p t) (is_among xs t) passes))
  where
    all : (ys : List (List ℕ)) → AllByRecursion (λ y. is_among xs y ≡ true) ys → AllByRecursion (λ y. (p y && is_among xs y) ≡ p y) ys
    all [] there = tt
    all (y ∷ ys) there = (ap (λ (b : Bool). p y && b) there.0 ∙ and_yes (p y), all ys there.1)

-- lists with the same members have the same first one
least_same : (p : List ℕ → Bool) (xs ys : List (List ℕ)) → ((t : List ℕ) → is_among xs t ≡ is_among ys t) → least (filter p xs) ≡ least (filter p ys)
least_same p xs ys same =
    first_one (λ t. p t && is_among ys t) (least (filter p xs)) (least (filter p ys))
    (first_same (λ t. p t && is_among xs t) (λ t. p t && is_among ys t) (least (filter p xs)) (λ t. ap (λ (b : Bool). p t && b) (same t)) (first_among p xs))
    (first_among p ys)

-- ---- what verdicts look at

-- The open sessions, their changes, who blocks a session, and the rows that it sees.
record View : Type 0 where
  opened : List ℕ → Bool
  messages : List ℕ → List Message
  key_way : List ℕ → FoundTable → List Key → Option (List ℕ)
  table_way : List ℕ → List TableName → Option (List ℕ)
  rows : List ℕ → FoundTable → Key → Option Texts

abbrev view_of : List DemoTable → List Accepted → View
view_of tables past = record {
  opened = λ s. is_open s past;
  messages = λ s. messages_by s past;
  key_way = λ s at keys. in_the_way tables past s at keys;
  table_way = λ s names. table_holder (log_tables tables) past s names;
  rows = λ s at key. seen tables past s at key;
}

abbrev insert_by : View → List ℕ → FoundTable → List NamedCell → Texts → Result Accepted StepError
insert_by v s at cells row =
    refuse_step_if (not (is_readable_row (raw_of at.table) cells)) errors.BadRow
    >>= λ t. (refuse_step_if (is_too_large at.table (v.messages s) (insert_message at.oid row)) errors.BadRow
    >>= λ u. (refuse_by (v.key_way s at (key_in (raw_of at.table) row ∷ []))
    >>= λ w. (refuse_step_if (is_some (v.rows s at (key_in (raw_of at.table) row))) errors.RowExists
    >>= λ x. Ok (Did s (insert_message at.oid row)))))

abbrev update_by : View → List ℕ → FoundTable → List NamedCell → List NamedCell → Key → Key → Result Accepted StepError
update_by v s at key set from to =
    refuse_step_if (not (is_readable_key (raw_of at.table) key && is_readable_set (raw_of at.table) set)) errors.BadRow
    >>= λ t. (refuse_step_if (is_too_large_if at.table (v.messages s) (option_map (updating at set) (v.rows s at from))) errors.BadRow
    >>= λ u. (refuse_by (v.key_way s at (from ∷ to ∷ []))
    >>= λ w. (some_or_refuse (v.rows s at from) errors.NoRow
    >>= λ before. (refuse_step_if (not (same_key from to) && is_some (v.rows s at to)) errors.RowExists
    >>= λ x. Ok (Did s (updating at set before))))))

abbrev delete_by : View → List ℕ → FoundTable → List NamedCell → Key → Result Accepted StepError
delete_by v s at key from =
    refuse_step_if (not (is_readable_key (raw_of at.table) key)) errors.BadRow
    >>= λ t. (refuse_step_if (is_too_large_if at.table (v.messages s) (option_map (delete_message at.oid at.table) (v.rows s at from))) errors.BadRow
    >>= λ u. (refuse_by (v.key_way s at (from ∷ []))
    >>= λ w. (some_or_refuse (v.rows s at from) errors.NoRow
    >>= λ before. Ok (Did s (delete_message at.oid at.table before)))))

abbrev table_by : List DemoTable → View → List ℕ → TableName → Result FoundTable StepError
table_by tables v s name = refuse_step_if (not (v.opened s)) errors.NotOpen >>= λ u. some_or_refuse (found tables name) errors.UnknownTable

abbrev end_by : View → List ℕ → Accepted → Result Accepted StepError
end_by v s act = refuse_step_if (not (v.opened s)) errors.NotOpen >>= λ u. Ok act

abbrev judged_by : List DemoTable → View → Step → Result Accepted StepError
judged_by tables v (Begin s) = refuse_step_if (v.opened s) errors.AlreadyOpen >>= λ u. Ok (Began s)
judged_by tables v (Commit s) = end_by v s (Committed s)
judged_by tables v (Rollback s) = end_by v s (RolledBack s)
judged_by tables v (Insert s name cells) = table_by tables v s name >>= λ at. insert_by v s at cells (row_given (raw_of at.table) cells)
judged_by tables v (Update s name key set) =
    table_by tables v s name >>= λ at. update_by v s at key set (key_given (raw_of at.table) key) (key_set (raw_of at.table) key set)
judged_by tables v (Delete s name key) = table_by tables v s name >>= λ at. delete_by v s at key (key_given (raw_of at.table) key)
judged_by tables v (Truncate s names) =
    refuse_step_if (not (v.opened s)) errors.NotOpen
    >>= λ t. (oids_found tables names
    >>= λ oids. (refuse_step_if (is_too_long (v.messages s) (truncate_message oids)) errors.BadRow
    >>= λ u. (refuse_by (v.table_way s names)
    >>= λ w. Ok (Did s (truncate_message oids)))))

-- a verdict looks at nothing else
by_view : (tables : List DemoTable) (past : List Accepted) (step : Step) → judged tables past step ≡ judged_by tables (view_of tables past) step
by_view tables past (Begin s) = refl
by_view tables past (Commit s) = refl
by_view tables past (Rollback s) = refl
by_view tables past (Insert s name cells) = refl
by_view tables past (Update s name key set) = refl
by_view tables past (Delete s name key) = refl
by_view tables past (Truncate s names) = refl

-- ---- acts that are alike

module _ (tables : List DemoTable) (a b : List Accepted) (alike : AreAlike (log_tables tables) a b) where
  abbrev all : List LogTable
  all = log_tables tables

  same_rows : committed_rows all a ≡ committed_rows all b
  same_rows = λ i name key. alike.rows name key i

  same_changes : (t : List ℕ) → changes_by all a t ≡ changes_by all b t
  same_changes t =
      ap (λ (rows : TextRows). changes_from all rows (messages_by t a)) same_rows
      ∙ ap (changes_from all (committed_rows all b)) (alike.messages t)

  same_seen : (t : List ℕ) → seen_rows all a t ≡ seen_rows all b t
  same_seen t =
      ap (λ (cs : List RawChange). text_rows_with all cs (committed_rows all a)) (same_changes t)
      ∙ ap (text_rows_with all (changes_by all b t)) same_rows

  same_among : (t : List ℕ) → is_among (open_in a) t ≡ is_among (open_in b) t
  same_among t = sym (open_listed t a) ∙ (alike.opened t ∙ open_listed t b)

  -- the first of the others that hold something
  same_first : (p q : List ℕ → Bool) (s : List ℕ) → ((t : List ℕ) → p t ≡ q t) → first_other p s a ≡ first_other q s b
  same_first p q s same =
      ap (λ (f : List ℕ → Bool). first_other f s a) tests
      ∙ least_same (λ (o : List ℕ). not (bytes_eq o s) && q o) (open_in a) (open_in b) same_among
    where
      tests : p ≡ q
      tests = λ i t. same t i

  any_key : (keys : List Key) (name : TableName) (t : List ℕ)
      → list_any (λ key. holds_key all a name key t) keys ≡ list_any (λ key. holds_key all b name key t) keys
  any_key keys name t = ap (λ (cs : List RawChange). list_any (λ key. list_any (locks all name key) cs) keys) (same_changes t)

  any_table : (names : List TableName) (t : List ℕ) → list_any (λ name. holds_some all a name t) names ≡ list_any (λ name. holds_some all b name t) names
  any_table names t = ap (λ (cs : List RawChange). list_any (λ name. list_any (is_of name) cs) names) (same_changes t)

  same_key_way : (s : List ℕ) (at : FoundTable) (keys : List Key) → in_the_way tables a s at keys ≡ in_the_way tables b s at keys
  same_key_way s at keys =
      same_first (λ (t : List ℕ). list_any (λ key. holds_key all a at.table.info.name key t) keys)
      (λ (t : List ℕ). list_any (λ key. holds_key all b at.table.info.name key t) keys) s
      (any_key keys at.table.info.name)

  same_table_way : (s : List ℕ) (names : List TableName) → table_holder all a s names ≡ table_holder all b s names
  same_table_way s names =
      same_first (λ (t : List ℕ). list_any (λ name. holds_some all a name t) names) (λ (t : List ℕ). list_any (λ name. holds_some all b name t) names) s
      (any_table names)

  same_view : view_of tables a ≡ view_of tables b
  same_view = λ i. record {
    opened = λ s. alike.opened s i;
    messages = λ s. alike.messages s i;
    key_way = λ s at keys. same_key_way s at keys i;
    table_way = λ s names. same_table_way s names i;
    rows = λ s at key. same_seen s i at.table.info.name key;
  }

  same_verdicts : (step : Step) → judged tables a step ≡ judged tables b step
  same_verdicts step = by_view tables a step ∙ (ap (λ (v : View). judged_by tables v step) same_view ∙ sym (by_view tables b step))

  one_more : (act : Accepted) → AreAlike all (act ∷ a) (act ∷ b)
  one_more (Began s) = record {
    opened = λ t. ap (λ (x : Bool). bytes_eq s t || x) (alike.opened t);
    messages = λ t. ap (λ (ms : List Message). if bytes_eq s t then [] else ms) (alike.messages t);
    rows = alike.rows;
  }
  one_more (Did s m) = record {
    opened = alike.opened;
    messages = λ t. ap (λ (ms : List Message). if bytes_eq s t then ms ++ m ∷ [] else ms) (alike.messages t);
    rows = alike.rows;
  }
  one_more (Committed s) = record {
    opened = λ t. ap (λ (x : Bool). not (bytes_eq s t) && x) (alike.opened t);
    messages = λ t. ap (λ (ms : List Message). if bytes_eq s t then [] else ms) (alike.messages t);
    rows = λ name key. ap (λ (rows : TextRows). rows name key) (shows all a s ∙ (same_seen s ∙ sym (shows all b s)));
  }
  one_more (RolledBack s) = record {
    opened = λ t. ap (λ (x : Bool). not (bytes_eq s t) && x) (alike.opened t);
    messages = λ t. ap (λ (ms : List Message). if bytes_eq s t then [] else ms) (alike.messages t);
    rows = alike.rows;
  }

pub alike_judged : AlikeActsAreJudgedAlike
alike_judged tables a b alike = record { verdicts = same_verdicts tables a b alike; more = one_more tables a b alike }

-- ---- acts after one alteration

module _ (tables : List DemoTable) (past : List Accepted) (at : FoundTable) (alteration : Alteration) where
  same_after : (new other : List DemoTable) (acts more : List Accepted) (one : IsReopened tables past at alteration new acts)
      (two : IsReopened tables past at alteration other more) → one.after ≡ two.after
  same_after new other acts more one two =
      let info : one.after.info ≡ two.after.info = one_info
      (raw_after alteration (raw_of at.table)) one.after.info two.after.info one.changed.raw two.changed.raw in
      let full = one.changed.full ∙ sym two.changed.full in
      let toast = one.changed.toast ∙ sym two.changed.toast in
      λ i. record { info = info i; full = full i; toast = toast i }

  same_tables : (new other : List DemoTable) (acts more : List Accepted) (one : IsReopened tables past at alteration new acts)
      (two : IsReopened tables past at alteration other more) → new ≡ other
  same_tables new other acts more one two =
      one.tables_are ∙ (ap (λ (t : DemoTable). map (replaced t) tables) (same_after new other acts more one two) ∙ sym two.tables_are)

  alike_over : (new : List DemoTable) (acts more : List Accepted) → IsReopened tables past at alteration new acts
      → IsReopened tables past at alteration new more → AreAlike (log_tables new) acts more
  alike_over new acts more one two = record {
    opened = λ s. one.opened s ∙ sym (two.opened s);
    messages = λ s. one.messages s ∙ sym (two.messages s);
    rows = λ name key. by name key (same_name at.table.info.name name) refl;
  }
    where
      by : (name : TableName) (key : Key) (c : Bool) → same_name at.table.info.name name ≡ c
          → committed_rows (log_tables new) acts name key ≡ committed_rows (log_tables new) more name key
      by name key true same =
          subst (λ (n : TableName). committed_rows (log_tables new) acts n key ≡ committed_rows (log_tables new) more n key)
          (name_same at.table.info.name name same) (one.rows key ∙ sym (two.rows key))
      by name key false apart = one.others name key apart ∙ sym (two.others name key apart)

pub reopened_alike : ReopenedActsAreAlike
reopened_alike tables new other past acts more at alteration one two =
    let same : new ≡ other = same_tables tables past at alteration new other acts more one two in (
      same,
      alike_over tables past at alteration new acts more one (subst (λ (l : List DemoTable). IsReopened tables past at alteration l more) (sym same) two),
    )
