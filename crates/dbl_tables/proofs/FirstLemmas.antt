-- The first rows of a store: their begin, one more of them, and their commit.
use Rattle.std.proofs.Common.{◌≡◌, ◌∙◌, ◌⊎◌, ◌+◌, ◌<◌, ◌≤◌, ◌^◌, inl, inr, ℕ, Bool, true, false, Option, Some, None, List, [], ◌∷◌, ◌++◌, map, length, refl, sym, ap, subst, arith}
use Rattle.std.specs.Prelude.{not, nat_eq, is_some, IfSome, if◌then◌else◌, slice_get, Result, Ok, Err}
use Rattle.std.specs.List.{AllByRecursion, position_from}
use Rattle.std.specs.BTreeMap.{BTreeMap, get}
use Rattle.std.specs.BTreeSet.{BTreeSet, contains}
use Rattle.std.proofs.Math.ListN.{set}
use Rattle.std.proofs.lemmas.Bool.Decides.{Decides-eqb}
use Rattle.std.proofs.lemmas.List.{length-map}
use Rattle.std.proofs.lemmas.Option.{slice_get_within}
use Rattle.dbl_base.specs.Texts.{text_cmp}
use Rattle.dbl_pgmsg.specs.declared.messages.Message.{Message}
use Rattle.dbl_pgmsg.specs.Grammar.{Fits}
use Rattle.dbl_model_table.specs.declared.named_cell.NamedCell.{NamedCell}
use Rattle.dbl_model_table.specs.declared.row.Key.{Key}
use Rattle.dbl_model_table.specs.declared.table.TableName.{TableName}
use Rattle.dbl_model_table.specs.Keys.{same_key}
use Rattle.dbl_model_table.specs.Tables.{same_name, are_distinct}
use Rattle.dbl_tables_rows.specs.SourceLog.Relations.{first_oid}
use Rattle.dbl_tables_rows.specs.SourceLog.Texts.{Texts}
use Rattle.dbl_tables_rows.specs.declared.demo_table.DemoTable.{DemoTable}
use Rattle.dbl_tables_rows.specs.declared.error.StepError.{StepError}
use Rattle.dbl_tables_rows.specs.declared.error.StepError.TheVariants as errors
use Rattle.dbl_tables_rows.specs.declared.rows.Rows.{Rows}
use Rattle.dbl_tables_rows.specs.Acts.{Accepted, is_open, messages_by}
use Rattle.dbl_tables_rows.specs.Acts.Accepted.{Began, Did, Committed}
use Rattle.dbl_tables_rows.specs.Cells.{row_given}
use Rattle.dbl_tables_rows.specs.Given.{HasColumns}
use Rattle.dbl_tables_rows.specs.Refusals.{◌>>=◌, refuse_step_if, some_or_refuse}
use Rattle.dbl_tables_rows.specs.Sending.{raw_of, entry_size, entry_limit, insert_message}
use Rattle.dbl_tables_rows.specs.Steps.{FoundTable, found, seen, insert_in, judged}
use Rattle.dbl_tables_rows.specs.Steps.Step.{Commit, Insert}
use Rattle.dbl_tables_rows.specs.Views.{committed_in, held_in}
use Rattle.dbl_tables_rows.proofs.RestLemmas.{all_push}
use Rattle.dbl_tables_rows.proofs.RowLemmas.{set_same, set_other}
use Rattle.dbl_tables_changes.specs.declared.sessions.Session.{Session}
use Rattle.dbl_tables_changes.specs.AcceptedSteps.{IsSessionAt, found_at}
use Rattle.dbl_tables_changes.specs.First.{first_row, first_key, IsFirstInserted, InsertsFirst, AreInserted}
use Rattle.dbl_tables_changes.specs.TablesLaws.Laws.{row_put, Shows}
use Rattle.dbl_tables_changes.proofs.FirstLemmas.{only_open, bad_first, taken_first, good_first, began_first, inserted_none, first_shows, wide_first, committed_first, none_open, inserted_committed}
use Rattle.dbl_tables_changes.proofs.TablesLawsAcceptedLemmas.{stands_on}
use Rattle.dbl_tables.specs.declared.first_rows.FirstRows.{FirstRows}
use Rattle.dbl_tables.specs.FirstRows.{InsertsAfter, IsRowInserted}
use Rattle.dbl_tables.specs.Stands.{IsAccepted, IsGiven, Stands}
use Rattle.dbl_tables.proofs.DoStands.{names_of_tables, apart_at}
use Rattle.dbl_tables.proofs.StoreLemmas.{found_none, found_here_at, tables_set}

-- ---- the begin

pub begins_first : (tables : List DemoTable) (t : FirstRows) → Stands tables [] t.store → t.messages.items ≡ [] → t.size ≡ entry_size [] → InsertsAfter tables (Began [] ∷ []) t
begins_first tables t st none size = record {
  can = st.can;
  standing = began_first tables st.standing;
  only = refl;
  tables_are = st.tables_are;
  sessions = λ name. by name (get text_cmp t.store.sessions name) (st.sessions name);
  rows = λ place rows there. inserted_none tables (found_at place rows.table) rows (st.rows place rows there);
  messages = none;
  size = size;
  fitting = subst (AllByRecursion Fits) (sym none) tt;
}
  where
    by : (name : List ℕ) (o : Option Session) → IsSessionAt [] name o → o ≡ None
    by name None closed = refl
    by name (Some x) own = let contra : false ≡ true = own.begun in cc

-- ---- one more row

module _ (tables : List DemoTable) (past : List Accepted) (t : FirstRows) (after : InsertsAfter tables past t) (name : TableName) (cells : List NamedCell) where
  abbrev verdict : FoundTable → Result Accepted StepError
  verdict at = insert_in tables past [] at cells (row_given (raw_of at.table) cells)

  opened : is_open [] past ≡ true
  opened = only_open tables past after.only []

  -- the verdict is that of the table that was found
  at_table : (o : Option FoundTable) → found tables name ≡ o → judged tables past (Insert [] name cells) ≡ (some_or_refuse o errors.UnknownTable >>= verdict)
  at_table o is =
      ap (λ (b : Bool). (refuse_step_if (not b) errors.NotOpen >>= λ u. some_or_refuse (found tables name) errors.UnknownTable) >>= verdict) opened
      ∙ ap (λ (x : Option FoundTable). some_or_refuse x errors.UnknownTable >>= verdict) is

  pub unknown_first : position_from (λ rows. same_name rows.table.info.name name) 0 t.store.tables.items ≡ None → judged tables past (Insert [] name cells) ≡ Err errors.UnknownTable
  unknown_first none = at_table None (ap (λ (l : List DemoTable). found l name) (sym after.tables_are) ∙ found_none t.store.tables.items 0 first_oid name none)

  module _ (place : ℕ) (is_at : position_from (λ rows. same_name rows.table.info.name name) 0 t.store.tables.items ≡ Some place) where
    -- the table at the place
    pub record IsFound : Type 0 where
      pub rows : Rows
      pub there : slice_get t.store.tables.items place ≡ Some rows
      pub found_it : found tables name ≡ Some (found_at place rows.table)

    pub found_first : IsFound
    found_first =
        let h = found_here_at t.store.tables.items first_oid 0 place name is_at in
        let e : place ≡ h.subsequent = h.place_is ∙ zero_more h.subsequent in
        record {
          rows = h.rows;
          there = ap (slice_get t.store.tables.items) e ∙ h.there;
          found_it = ap (λ (l : List DemoTable). found l name) (sym after.tables_are) ∙ (h.is ∙ ap (λ (n : ℕ). Some (found_at n h.rows.table)) (sym e));
        }
      where
        zero_more : (n : ℕ) → 0 + n ≡ n
        zero_more n = omega arith

    pub low_first : place < 2 ^ 31
    low_first =
        let within : place < length t.store.tables.items = slice_get_within t.store.tables.items place found_first.rows found_first.there in
        let few : length t.store.tables.items ≤ 64 = subst (λ (n : ℕ). n ≤ 64) (ap length (sym after.tables_are) ∙ length-map t.store.tables.items (λ (r : Rows). r.table)) after.can.few in
        let most : 64 < 2 ^ 31 = omega arith in
        omega arith

    module _ (rows : Rows) (there : slice_get t.store.tables.items place ≡ Some rows) (oid : ℕ) (oid_is : oid ≡ first_oid + place) where
      abbrev at : FoundTable
      at = found_at place rows.table

      found_it : found tables name ≡ Some at
      found_it =
          let same : found_first.rows ≡ rows = (let both : Some found_first.rows ≡ Some rows = sym found_first.there ∙ there in cc) in
          found_first.found_it ∙ ap (λ (r : Rows). Some (found_at place r.table)) same

      pub inserted_there : AreInserted tables past at rows
      inserted_there = after.rows place rows there

      pub has_columns_first : HasColumns rows.table.info rows.places
      has_columns_first = record { each = inserted_there.places }

      pub short_first : t.size ≤ entry_limit
      short_first = subst (λ (n : ℕ). n ≤ entry_limit) (sym after.size) (after.standing.orderly.sized [])

      pub size_first : t.size ≡ entry_size t.messages.items
      size_first = after.size ∙ ap entry_size (sym after.messages)

      its_verdict : judged tables past (Insert [] name cells) ≡ verdict at
      its_verdict = at_table (Some at) found_it

      -- what is said of the insert, at the messages of the session
      told_of : (changed : Rows) (messages : List Message) (r : Result ℕ StepError) → InsertsFirst oid cells rows changed t.messages.items messages r → InsertsFirst (first_oid + place) cells rows changed (messages_by [] past) messages r
      told_of changed messages r told =
          subst (λ (ms : List Message). InsertsFirst (first_oid + place) cells rows changed ms messages r) after.messages
          (subst (λ (n : ℕ). InsertsFirst n cells rows changed t.messages.items messages r) oid_is told)

      there_now : is_some (committed_in rows.slots (first_key rows.table cells)) ≡ is_some (seen tables past [] at (first_key rows.table cells))
      there_now = ap is_some (inserted_there.shown (first_key rows.table cells))

      -- it is refused
      refused_so : (changed : Rows) (messages : List Message) (e : StepError) → InsertsFirst (first_oid + place) cells rows changed (messages_by [] past) messages (Err e) → (e ≡ errors.Memory) ⊎ (verdict at ≡ Err e)
      refused_so changed messages e (inl memory) = inl memory
      refused_so changed messages e (inr (inl bad)) = inr (bad_first tables past after.only at cells bad.1 ∙ ap (λ (x : StepError). Err x) (sym bad.0))
      refused_so changed messages e (inr (inr taken)) =
          inr (taken_first tables past after.only at cells taken.1.readable taken.1.small (sym there_now ∙ taken.1.there) ∙ ap (λ (x : StepError). Err x) (sym taken.0))

      judged_so : (e : StepError) → (e ≡ errors.Memory) ⊎ (verdict at ≡ Err e) → (e ≡ errors.Memory) ⊎ (judged tables past (Insert [] name cells) ≡ Err e)
      judged_so e (inl memory) = inl memory
      judged_so e (inr is) = inr (its_verdict ∙ is)

      pub refused_first : (changed : Rows) (messages : List Message) (e : StepError) → InsertsFirst oid cells rows changed t.messages.items messages (Err e) → (e ≡ errors.Memory) ⊎ (judged tables past (Insert [] name cells) ≡ Err e)
      refused_first changed messages e told = judged_so e (refused_so changed messages e (told_of changed messages (Err e) told))

      -- it is accepted
      module _ (changed : Rows) (messages : List Message) (size : ℕ) (told : InsertsFirst oid cells rows changed t.messages.items messages (Ok size)) (new : FirstRows) (tables_now : new.store.tables.items ≡ set t.store.tables.items place changed)
          (sessions_now : new.store.sessions ≡ t.store.sessions) (messages_now : new.messages.items ≡ messages) (size_now : new.size ≡ size) where
        done : IsFirstInserted (first_oid + place) cells rows changed (messages_by [] past) messages size
        done = told_of changed messages (Ok size) told

        abbrev row : Texts
        row = first_row rows.table cells

        abbrev key : Key
        key = first_key rows.table cells

        abbrev message : Message
        message = insert_message (first_oid + place) row

        abbrev act : Accepted
        act = Did [] message

        accepted_first : judged tables past (Insert [] name cells) ≡ Ok act
        accepted_first =
            its_verdict
            ∙ good_first tables past after.only at cells done.is.readable done.is.fits.0 (sym there_now ∙ (ap (λ (k : Key). is_some (committed_in rows.slots k)) (sym done.is.key_is) ∙ done.absent))

        shows_it : Shows tables past [] act rows.table.info.name (row_put key (Some row) (seen tables past [] at))
        shows_it = first_shows tables past after.can after.standing name at found_it cells act accepted_first

        same_table : changed.table ≡ rows.table
        same_table = done.table.table

        -- the table with the row
        committed_one : (k : Key) → committed_in changed.slots k ≡ row_put key (Some row) (seen tables past [] at) k
        committed_one k =
            done.slots.committed k
            ∙ (ap (λ (x : Key). if same_key x k then Some done.first.row.cells else committed_in rows.slots k) done.is.key_is
            ∙ (ap (λ (r : Texts). if same_key key k then Some r else committed_in rows.slots k) done.is.row_is
            ∙ ap (λ (o : Option Texts). if same_key key k then Some row else o) (inserted_there.shown k)))

        free_one : (k : Key) → held_in changed.slots k ≡ None
        free_one k = done.slots.held k ∙ by (same_key done.first.key k)
          where
            by : (b : Bool) → (if b then None else held_in rows.slots k) ≡ None
            by true = refl
            by false = inserted_there.free k

        wide_one : (k : Key) → IfSome (committed_in changed.slots k) (λ r. length r ≡ length changed.table.info.columns)
        wide_one k = subst (λ (o : Option Texts). IfSome o (λ r. length r ≡ length changed.table.info.columns)) (sym (done.slots.committed k)) (by (same_key done.first.key k))
          where
            by : (b : Bool) → IfSome (if b then Some done.first.row.cells else committed_in rows.slots k) (λ r. length r ≡ length changed.table.info.columns)
            by true = ap length done.is.row_is ∙ (wide_first rows.table cells ∙ ap (λ (d : DemoTable). length d.info.columns) (sym same_table))
            by false = wide_as (committed_in rows.slots k) (inserted_there.wide k)
              where
                wide_as : (o : Option Texts) → IfSome o (λ r. length r ≡ length rows.table.info.columns) → IfSome o (λ r. length r ≡ length changed.table.info.columns)
                wide_as None wide = tt
                wide_as (Some r) wide = wide ∙ ap (λ (d : DemoTable). length d.info.columns) (sym same_table)

        inserted_one : AreInserted tables (act ∷ past) at changed
        inserted_one = record {
          table = same_table;
          places = λ n. ap (λ (m : BTreeMap (List ℕ) ℕ). get text_cmp m n) done.table.places ∙ inserted_there.places n;
          shown = λ k. committed_one k ∙ sym (shows_it.here k);
          free = free_one;
          cleared = done.table.cleared ∙ inserted_there.cleared;
          holders = λ n. ap (λ (s : BTreeSet (List ℕ)). contains text_cmp s n) done.holders ∙ inserted_there.holders n;
          wide = wide_one;
        }

        -- another table
        inserted_other : (p : ℕ) (r : Rows) → slice_get t.store.tables.items p ≡ Some r → same_name rows.table.info.name r.table.info.name ≡ false → AreInserted tables (act ∷ past) (found_at p r.table) r
        inserted_other p r is other =
            let was = after.rows p r is in
            record {
              table = was.table;
              places = was.places;
              shown = λ k. was.shown k ∙ sym (shows_it.elsewhere r.table.info.name k other);
              free = was.free;
              cleared = was.cleared;
              holders = was.holders;
              wide = was.wide;
            }

        here_now : slice_get new.store.tables.items place ≡ Some changed
        here_now = ap (λ (l : List Rows). slice_get l place) tables_now ∙ set_same t.store.tables.items place changed rows there

        was_there : (p : ℕ) (r : Rows) → slice_get new.store.tables.items p ≡ Some r → (p ≡ place → ⊥) → slice_get t.store.tables.items p ≡ Some r
        was_there p r is apart = sym (ap (λ (l : List Rows). slice_get l p) tables_now ∙ set_other t.store.tables.items place p changed apart) ∙ is

        distinct : are_distinct same_name (names_of_tables t.store.tables.items) ≡ true
        distinct = ap (λ (l : List DemoTable). are_distinct same_name (map (λ (d : DemoTable). d.info.name) l)) after.tables_are ∙ after.can.distinct

        rows_now : (p : ℕ) (r : Rows) → slice_get new.store.tables.items p ≡ Some r → AreInserted tables (act ∷ past) (found_at p r.table) r
        rows_now p r is = by (nat_eq p place) refl
          where
            by : (b : Bool) → nat_eq p place ≡ b → AreInserted tables (act ∷ past) (found_at p r.table) r
            by true same =
                let e : p ≡ place = (Decides-eqb p place).0 same in
                let f : changed ≡ r = (let both : Some changed ≡ Some r = sym here_now ∙ (ap (slice_get new.store.tables.items) (sym e) ∙ is) in cc) in
                subst (λ (n : ℕ). AreInserted tables (act ∷ past) (found_at n r.table) r) (sym e)
                (subst (λ (x : Rows). AreInserted tables (act ∷ past) (found_at place x.table) x) f
                (subst (λ (d : DemoTable). AreInserted tables (act ∷ past) (found_at place d) changed) (sym same_table) inserted_one))
            by false other =
                let apart : p ≡ place → ⊥ = λ e. (let contra : true ≡ false = sym ((Decides-eqb p place).1 e) ∙ other in cc) in
                let was = was_there p r is apart in
                inserted_other p r was (apart_at t.store.tables.items place p rows r distinct there was (λ e. apart (sym e)))

        messages_are : messages ≡ messages_by [] (act ∷ past)
        messages_are = done.messages ∙ ap (λ (m : Message). messages_by [] past ++ m ∷ []) done.is.message_is

        pub accepts_first : IsRowInserted tables past (Insert [] name cells) new
        accepts_first = record {
          act = act;
          accepted = accepted_first;
          inserts = record {
            can = after.can;
            standing = stands_on tables past after.can after.standing (Insert [] name cells) (Ok act) accepted_first;
            only = after.only;
            tables_are = ap (map (λ (r : Rows). r.table)) tables_now ∙ (tables_set t.store.tables.items place rows changed there same_table ∙ after.tables_are);
            sessions = λ n. ap (λ (s : BTreeMap (List ℕ) Session). get text_cmp s n) sessions_now ∙ after.sessions n;
            rows = rows_now;
            messages = messages_now ∙ messages_are;
            size = size_now ∙ (done.size_is ∙ done.is.fits.1);
            fitting = subst (AllByRecursion Fits) (sym (messages_now ∙ messages_are)) (all_push Fits (messages_by [] past) message (subst (AllByRecursion Fits) after.messages after.fitting) done.is.fits.3);
          };
        }

-- ---- their commit

module _ (tables : List DemoTable) (past : List Accepted) (t : FirstRows) (after : InsertsAfter tables past t) where
  pub commits_first : IsAccepted tables past (Commit []) t.store
  commits_first = record {
    act = Committed [];
    accepted = ap (λ (b : Bool). refuse_step_if (not b) errors.NotOpen >>= λ (u : Unit {0}). Ok (Committed [])) (only_open tables past after.only []);
    stands = record {
      can = after.can;
      standing = committed_first tables past after.can after.standing after.only;
      tables_are = after.tables_are;
      sessions = λ name. subst (IsSessionAt (Committed [] ∷ past) name) (sym (after.sessions name)) (none_open tables past after.can after.standing after.only name);
      rows = λ place rows there. inserted_committed tables past after.can after.standing after.only (found_at place rows.table) rows (after.rows place rows there);
      listed = λ name x place rows has there. (let contra : None ≡ Some x = sym (after.sessions name) ∙ has in cc);
    };
  }

  pub gives_first : IsGiven past [] t.messages.items
  gives_first = record {
    are = after.messages;
    fitting = after.fitting;
    short = subst (λ (ms : List Message). entry_size ms ≤ entry_limit) (sym after.messages) (after.standing.orderly.sized []);
  }
