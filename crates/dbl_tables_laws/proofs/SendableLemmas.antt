-- After every list of steps of UTF-8 texts each message is a change that has a spelling. So the serial run is a log whose messages are
-- read right.
use Rattle.std.proofs.Common.{◌≡◌, ◌-◌, ◌<◌, ◌≤◌, ◌^◌, ℕ, Bool, true, false, Option, Some, None, List, [], ◌∷◌, ◌++◌, length, map, refl, sym, subst, arith}
use Rattle.std.specs.Prelude.{◌||◌, not, nat_lt, if◌then◌else◌, IfSome, Result, Ok, Err}
use Rattle.std.specs.List.{AllByRecursion}
use Rattle.std.specs.Str.{IsUtf8}
use Rattle.std.proofs.lemmas.Bool.Decides.{nat_tests}
use Rattle.std.proofs.lemmas.List.{length-map}
use Rattle.dbl_tables_rows.specs.Pgmsg.declared.messages.Message.{Message}
use Rattle.dbl_tables_rows.specs.Pgmsg.declared.messages.OldTuple.TheVariants as old
use Rattle.dbl_tables_rows.specs.Pgmsg.declared.messages.TupleCell.TheVariants as cell
use Rattle.dbl_tables_rows.specs.Pgmsg.Grammar.{spelling}
use Rattle.dbl_tables_rows.specs.ModelTable.declared.named_cell.NamedCell.{NamedCell}
use Rattle.dbl_tables_rows.specs.ModelTable.declared.table.RawColumn.{RawColumn}
use Rattle.dbl_tables_rows.specs.ModelTable.declared.table.RawTable.{RawTable}
use Rattle.dbl_tables_rows.specs.ModelTable.declared.table.TableName.{TableName}
use Rattle.dbl_model_table.proofs.Lists.{or_false, slice_get-lt}
use Rattle.dbl_tables_rows.specs.ModelCommit.declared.txn_error.TxnError.{TxnError}
use Rattle.dbl_tables_rows.specs.ModelHistory.Ranges.{IsEntryInRange, AreTextsInRange}
use Rattle.dbl_tables_rows.specs.SourceModel.Stated.{MayStand}
use Rattle.dbl_tables_rows.specs.SourceLog.declared.logged.LogTable.{LogTable}
use Rattle.dbl_tables_rows.specs.SourceLog.declared.logged.Logged.TheVariants.{Changes}
use Rattle.dbl_tables_rows.specs.SourceLog.Fair.{IsChangeOf, HasFewFaults, AreFairEntries}
use Rattle.dbl_tables_rows.specs.SourceLog.Relations.{first_oid, catalogue}
use Rattle.dbl_tables_rows.specs.SourceLog.Texts.{Texts}
use Rattle.dbl_tables_rows.specs.declared.demo_table.DemoTable.{DemoTable}
use Rattle.dbl_tables_rows.specs.declared.error.StepError.{StepError}
use Rattle.dbl_tables_rows.specs.declared.error.StepError.TheVariants as errors
use Rattle.dbl_tables_rows.specs.Acts.{Accepted, is_open, messages_by}
use Rattle.dbl_tables_rows.specs.Acts.Accepted.{Began, Committed, RolledBack}
use Rattle.dbl_tables_rows.specs.Cells.{row_given, key_given, row_set, is_key_name}
use Rattle.dbl_tables_rows.specs.Given.{IsUtf8Cell, IsUtf8Change, old_tuple_cells}
use Rattle.dbl_tables_laws.specs.Laws.{IsStepInRange, AreCellsInRange, IsMovedAtMost, MovesAtMost, SerialRunsAreFair}
use Rattle.dbl_tables_laws.specs.Reachable.{AreTables, IsReachable}
use Rattle.dbl_tables_rows.specs.Refusals.{◌>>=◌, some_or_refuse}
use Rattle.dbl_tables_rows.specs.Sending.{raw_of, log_table, log_tables, sent_cell, whole_tuple, key_cells, key_tuple, is_unsent_text, new_cells, old_tuple, optional_old, moves, insert_message, delete_message, truncate_message, is_too_long}
use Rattle.dbl_tables_rows.specs.Serial.{accepted_onto, acts_after, initial_steps, serial}
use Rattle.dbl_tables_rows.specs.Steps.{Step, FoundTable, found, seen, updating, oids_found, insert_judged, update_judged, delete_judged, truncate_judged, judged}
use Rattle.dbl_tables_rows.specs.Steps as asked
use Rattle.dbl_tables_laws.proofs.AcceptedLemmas.{stands_on, stands_since}
use Rattle.dbl_tables_laws.proofs.DoneLemmas.{insert_done, delete_done, update_done, truncate_done}
use Rattle.dbl_tables_laws.proofs.GivenLemmas.{wide_given}
use Rattle.dbl_tables_laws.proofs.JudgedLemmas.{bound, passed, was_some}
use Rattle.dbl_tables_laws.proofs.MessageLemmas.{found_there}
use Rattle.dbl_tables_laws.proofs.MovedLemmas.{AreSent, sent_none, sent_begins, sent_rolls_back, sent_commits, sent_does, all-append, oids_known, named_tables, all_moved}
use Rattle.dbl_tables_laws.proofs.RangeLemmas.{row_given_ranged, row_set_ranged}
use Rattle.dbl_tables_laws.proofs.RangedLemmas.{IsRanged, changes_unaltered, ranged_none, ranged_on, seen_ranged, initial_given}
use Rattle.dbl_tables_rows.proofs.SizeLemmas.{short_fits}
use Rattle.dbl_tables_laws.proofs.StandingLemmas.{has_key, stands_none}
use Rattle.dbl_tables_laws.proofs.ToldLemmas.{known_found}
use Rattle.dbl_tables_rows.proofs.Utf8Lemmas.{new_cells_few, old_is_utf8, optional_is_utf8}

-- ---- cells of UTF-8 texts

one_utf8 : (x : Option (List ℕ)) → IfSome x IsUtf8 → IsUtf8Cell (sent_cell x)
one_utf8 None fine = tt
one_utf8 (Some text) fine = fine

row_utf8 : (row : Texts) → AreTextsInRange row → AllByRecursion IsUtf8Cell (map sent_cell row)
row_utf8 [] fine = tt
row_utf8 (x ∷ row) fine = (one_utf8 x fine.0, row_utf8 row fine.1)

key_utf8 : (raw : RawTable) (columns : List RawColumn) (row : Texts) → AreTextsInRange row → AllByRecursion IsUtf8Cell (key_cells raw columns row)
key_utf8 raw [] row fine = tt
key_utf8 raw (c ∷ columns) [] fine = tt
key_utf8 raw (c ∷ columns) (x ∷ row) fine = (by (is_key_name raw c.name), key_utf8 raw columns row fine.1)
  where
    by : (b : Bool) → IsUtf8Cell (if b then sent_cell x else cell.Null)
    by true = one_utf8 x fine.0
    by false = tt

new_utf8 : (table : DemoTable) (columns : List RawColumn) (before row : Texts) → AreTextsInRange row → AllByRecursion IsUtf8Cell (new_cells table columns before row)
new_utf8 table [] before row fine = tt
new_utf8 table (c ∷ columns) [] row fine = tt
new_utf8 table (c ∷ columns) (x ∷ before) [] fine = tt
new_utf8 table (c ∷ columns) (x ∷ before) (y ∷ row) fine = (by (is_unsent_text table c x y), new_utf8 table columns before row fine.1)
  where
    by : (b : Bool) → IsUtf8Cell (if b then cell.Unchanged else sent_cell y)
    by true = tt
    by false = one_utf8 y fine.0

old_utf8 : (table : DemoTable) (row : Texts) → AreTextsInRange row → AllByRecursion IsUtf8Cell (old_tuple_cells (old_tuple table row))
old_utf8 table row fine = by table.full
  where
    by : (b : Bool) → AllByRecursion IsUtf8Cell (old_tuple_cells (if b then old.Whole (whole_tuple row) else old.Key (key_tuple (raw_of table) row)))
    by true = row_utf8 row fine
    by false = key_utf8 (raw_of table) (raw_of table).columns row fine

optional_utf8 : (table : DemoTable) (moved : Bool) (row : Texts) → AreTextsInRange row → IfSome (optional_old table moved row) (λ b. AllByRecursion IsUtf8Cell (old_tuple_cells b))
optional_utf8 table moved row fine = by (table.full || moved)
  where
    by : (b : Bool) → IfSome (if b then Some (old_tuple table row) else None) (λ o. AllByRecursion IsUtf8Cell (old_tuple_cells o))
    by true = old_utf8 table row fine
    by false = tt

-- ---- messages that aren't too long

short_spelling : (ms : List Message) (m : Message) → is_too_long ms m ≡ false → length (spelling m) ≤ 16777216
short_spelling ms m short =
    let both = or_false (nat_lt 16777216 (length (spelling m))) _ short in
    let low : nat_lt 16777216 (length (spelling m)) ≡ false = both.0 in
    grind (arith, nat_tests)

-- a table's OID has 32 bits
small_oid : (tables : List DemoTable) (name : TableName) (at : FoundTable) → AreTables tables → found tables name ≡ Some at → at.oid < 2 ^ 32
small_oid tables name at can is =
    let there = found_there first_oid tables name at is in
    let subsequent : 16384 ≤ at.oid = there.subsequent in
    let inside : at.oid - 16384 < length (log_tables tables) = slice_get-lt (log_tables tables) (at.oid - first_oid) (log_table at.table) there.there in
    let long : length (log_tables tables) ≡ length tables = length-map tables log_table in
    let few : length tables ≤ 64 = can.few in
    omega (arith, subsequent, inside, long, few)

small_oids : (tables : List DemoTable) (names : List TableName) (oids : List ℕ) → AreTables tables → oids_found tables names ≡ Ok oids → AllByRecursion (λ (oid : ℕ). oid < 2 ^ 32) oids
small_oids tables [] oids can is = let none : [] ≡ oids = cc in subst (AllByRecursion (λ (oid : ℕ). oid < 2 ^ 32)) none tt
small_oids tables (name ∷ names) oids can is =
    let a = bound (some_or_refuse (found tables name) errors.UnknownTable) (λ at. oids_found tables names >>= λ rest. Ok (at.oid ∷ rest)) oids is in
    let at : FoundTable = a.item in
    let b = bound (oids_found tables names) (λ rest. Ok (at.oid ∷ rest)) oids a.rest in
    let all : at.oid ∷ b.item ≡ oids = (let same = b.rest in cc) in
    let there : found tables name ≡ Some at = was_some (found tables name) errors.UnknownTable at a.first in
    subst (AllByRecursion (λ (oid : ℕ). oid < 2 ^ 32)) all (small_oid tables name at can there, small_oids tables names b.item can b.first)

-- ---- steps

module _ (tables : List DemoTable) (past : List Accepted) (can : AreTables tables) (standing : IsReachable tables past) (range : IsRanged tables past) (sent : AreSent (IsChangeOf (log_tables tables)) past) where
  abbrev Goes : Accepted → Type 0
  Goes act = AreSent (IsChangeOf (log_tables tables)) (act ∷ past)

  inserts_sent : (s : List ℕ) (name : TableName) (cells : List NamedCell) (act : Accepted) → AreCellsInRange cells → insert_judged tables past s name cells ≡ Ok act → Goes act
  inserts_sent s name cells act given is =
      let d = insert_done tables past s name cells act is in
      let row : Texts = row_given (raw_of d.at.table) cells in
      let m : Message = insert_message d.at.oid row in
      let wide : length row ≡ length (raw_of d.at.table).columns = wide_given d.at.table.info cells in
      let sized : length (map sent_cell row) ≡ length row = length-map row sent_cell in
      let few : length (raw_of d.at.table).columns ≤ 1600 = d.few in
      let utf8 : IsUtf8Change m = (small_oid tables name d.at can d.named.there, record { count = omega (arith, wide, sized, few); each = row_utf8 row (row_given_ranged (raw_of d.at.table) cells given) }) in
      let new : IsChangeOf (log_tables tables) m = record { change = tt; fits = short_fits m utf8 (short_spelling (messages_by s past) m d.short); known = (known_found tables name d.at d.named.there, tt) } in
      subst Goes d.did (sent_does (IsChangeOf (log_tables tables)) past sent s m new)

  deletes_sent : (s : List ℕ) (name : TableName) (key : List NamedCell) (act : Accepted) → delete_judged tables past s name key ≡ Ok act → Goes act
  deletes_sent s name key act is =
      let d = delete_done tables past s name key act is in
      let m : Message = delete_message d.at.oid d.at.table d.before in
      let has = has_key tables past s name d.at can standing d.named.there (key_given (raw_of d.at.table) key) d.before d.there in
      let fine : AreTextsInRange d.before = seen_ranged tables past can standing range s d.at.table.info.name (key_given (raw_of d.at.table) key) d.before d.there in
      let wide : length d.before ≡ length (raw_of d.at.table).columns = has.1 in
      let few : length (raw_of d.at.table).columns ≤ 1600 = d.few in
      let utf8 : IsUtf8Change m = (small_oid tables name d.at can d.named.there, old_is_utf8 d.at.table d.before (omega (arith, wide, few)) (old_utf8 d.at.table d.before fine)) in
      let new : IsChangeOf (log_tables tables) m = record { change = tt; fits = short_fits m utf8 (short_spelling (messages_by s past) m d.short); known = (known_found tables name d.at d.named.there, tt) } in
      subst Goes d.did (sent_does (IsChangeOf (log_tables tables)) past sent s m new)

  updates_sent : (s : List ℕ) (name : TableName) (key set : List NamedCell) (act : Accepted) → AreCellsInRange set → update_judged tables past s name key set ≡ Ok act → Goes act
  updates_sent s name key set act given is =
      let d = update_done tables past s name key set act is in
      let m : Message = updating d.at set d.before in
      let has = has_key tables past s name d.at can standing d.named.there (key_given (raw_of d.at.table) key) d.before d.there in
      let fine : AreTextsInRange d.before = seen_ranged tables past can standing range s d.at.table.info.name (key_given (raw_of d.at.table) key) d.before d.there in
      let row : Texts = row_set (raw_of d.at.table).columns set d.before in
      let subsequent : AreTextsInRange row = row_set_ranged (raw_of d.at.table).columns set d.before given fine in
      let wide : length d.before ≡ length (raw_of d.at.table).columns = has.1 in
      let few : length (raw_of d.at.table).columns ≤ 1600 = d.few in
      let less : length (new_cells d.at.table (raw_of d.at.table).columns d.before row) ≤ length d.before = new_cells_few d.at.table (raw_of d.at.table).columns d.before row in
      let moved : Bool = moves d.at.table d.before row in
      let utf8 : IsUtf8Change m = (
        small_oid tables name d.at can d.named.there,
        optional_is_utf8 d.at.table moved d.before (omega (arith, wide, few)) (optional_utf8 d.at.table moved d.before fine),
        record { count = omega (arith, less, wide, few); each = new_utf8 d.at.table (raw_of d.at.table).columns d.before row subsequent },
      ) in
      let new : IsChangeOf (log_tables tables) m = record { change = tt; fits = short_fits m utf8 (short_spelling (messages_by s past) m d.short); known = (known_found tables name d.at d.named.there, tt) } in
      subst Goes d.did (sent_does (IsChangeOf (log_tables tables)) past sent s m new)

  truncates_sent : (s : List ℕ) (names : List TableName) (act : Accepted) → truncate_judged tables past s names ≡ Ok act → Goes act
  truncates_sent s names act is =
      let d = truncate_done tables past s names act is in
      let m : Message = truncate_message d.oids in
      let utf8 : IsUtf8Change m = (omega arith, small_oids tables names d.oids can d.are) in
      let new : IsChangeOf (log_tables tables) m = record { change = tt; fits = short_fits m utf8 (short_spelling (messages_by s past) m d.short); known = oids_known tables names d.oids d.are } in
      subst Goes d.did (sent_does (IsChangeOf (log_tables tables)) past sent s m new)

  sent_on : (c : Step) (r : Result Accepted StepError) → IsStepInRange c → judged tables past c ≡ r → AreSent (IsChangeOf (log_tables tables)) (accepted_onto r past)
  sent_on c (Err e) given is = sent
  sent_on (asked.Begin s) (Ok act) given is =
      let told = passed (is_open s past) errors.AlreadyOpen (Ok (Began s)) act is in
      let did : Began s ≡ act = (let same = told.1 in cc) in
      subst Goes did (sent_begins (IsChangeOf (log_tables tables)) past sent s)
  sent_on (asked.Commit s) (Ok act) given is =
      let told = passed (not (is_open s past)) errors.NotOpen (Ok (Committed s)) act is in
      let did : Committed s ≡ act = (let same = told.1 in cc) in
      subst Goes did (sent_commits (IsChangeOf (log_tables tables)) past sent s)
  sent_on (asked.Rollback s) (Ok act) given is =
      let told = passed (not (is_open s past)) errors.NotOpen (Ok (RolledBack s)) act is in
      let did : RolledBack s ≡ act = (let same = told.1 in cc) in
      subst Goes did (sent_rolls_back (IsChangeOf (log_tables tables)) past sent s)
  sent_on (asked.Insert s name cells) (Ok act) given is = inserts_sent s name cells act given is
  sent_on (asked.Update s name key set) (Ok act) given is = updates_sent s name key set act given.1 is
  sent_on (asked.Delete s name key) (Ok act) given is = deletes_sent s name key act is
  sent_on (asked.Truncate s names) (Ok act) given is = truncates_sent s names act is

module _ (tables : List DemoTable) (can : AreTables tables) (entries : AllByRecursion IsEntryInRange (catalogue (log_tables tables))) where
  sent_after : (past : List Accepted) (steps : List Step) → AllByRecursion IsStepInRange steps → IsReachable tables past → IsRanged tables past → AreSent (IsChangeOf (log_tables tables)) past → AreSent (IsChangeOf (log_tables tables)) (acts_after tables past steps)
  sent_after past [] given standing range sent = sent
  sent_after past (c ∷ steps) given standing range sent =
      sent_after (accepted_onto (judged tables past c) past) steps given.1 (stands_on tables past can standing c (judged tables past c) refl)
      (ranged_on tables past can standing range entries c (judged tables past c) given.0 refl) (sent_on tables past can standing range sent c (judged tables past c) given.0 refl)

  all_changes : (steps : List Step) → AllByRecursion IsStepInRange steps → AreSent (IsChangeOf (log_tables tables)) (acts_after tables [] steps)
  all_changes steps given = sent_after [] steps given (stands_none tables) (ranged_none tables) (sent_none (IsChangeOf (log_tables tables)))

-- ---- the log

-- a fault of content at most
may_stand : (o : Option TxnError) → IsMovedAtMost o → MayStand o
may_stand None fine = tt
may_stand (Some e) fine = subst (λ (x : TxnError). MayStand (Some x)) (sym fine.2) tt

both_in : (tables : List LogTable) (ms : List Message) → AllByRecursion (IsChangeOf tables) ms → AllByRecursion (MovesAtMost tables) ms → AllByRecursion (λ (m : Message). IsChangeOf tables m × HasFewFaults tables m) ms
both_in tables [] changes moved = tt
both_in tables (m ∷ ms) changes moved = ((changes.0, λ infos captured. may_stand _ (moved.0 infos captured)), both_in tables ms changes.1 moved.1)

entries_fair : (tables : List LogTable) (log : List (List Message)) → AllByRecursion (λ (ms : List Message). AllByRecursion (IsChangeOf tables) ms) log → AllByRecursion (λ (ms : List Message). AllByRecursion (MovesAtMost tables) ms) log
    → AreFairEntries tables (map Changes log)
entries_fair tables [] changes moved = tt
entries_fair tables (ms ∷ log) changes moved = (both_in tables ms changes.0 moved.0, entries_fair tables log changes.1 moved.1)

pub runs_fair : SerialRunsAreFair
runs_fair tables rows steps described rows_in steps_in =
    let all : List Step = initial_steps rows ++ steps in
    let given : AllByRecursion IsStepInRange all = all-append IsStepInRange (initial_steps rows) steps (initial_given rows rows_in) steps_in in
    record {
      named = named_tables tables (acts_after tables [] all) described.can (stands_since tables described.can all);
      relations = described.relations;
      entries = entries_fair (log_tables tables) (serial tables rows steps) (all_changes tables described.can described.ranges all given).log (all_moved tables described.can all).log;
      unaltered = changes_unaltered (serial tables rows steps);
    }
