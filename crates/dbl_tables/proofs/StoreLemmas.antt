-- A step at a store that stands: the table that it names, and a planned change that is taken or isn't.
use Rattle.std.proofs.Common.{◌≡◌, ◌∙◌, ◌⊎◌, ◌<◌, ◌≤◌, ◌+◌, ◌^◌, inl, inr, ℕ, zero, suc, Bool, true, false, Option, Some, None, List, [], ◌∷◌, cond, map, length, get_or, refl, sym, ap, subst, arith}
use Rattle.std.specs.Prelude.{not, if◌then◌else◌, is_some, nat_lt, Result, Ok, Err, slice_get, bytes_eq}
use Rattle.std.specs.List.{position_from}
use Rattle.std.specs.Ordering.{is_eq}
use Rattle.std.specs.BTreeMap.{get}
use Rattle.std.proofs.Math.ListN.{set}
use Rattle.std.proofs.lemmas.List.{length-map}
use Rattle.std.proofs.lemmas.Bool.Decides.{nat_tests}
use Rattle.std.proofs.lemmas.Map.Text.{is_eq-slice_cmp}
use Rattle.std.proofs.lemmas.Option.{slice_get_past, slice_get_read, slice_get_within}
use Rattle.dbl_base.specs.Texts.{text_cmp}
use Rattle.dbl_model_table.specs.declared.table.TableName.{TableName}
use Rattle.dbl_model_table.specs.Tables.{same_name}
use Rattle.dbl_tables_rows.specs.SourceLog.Relations.{first_oid}
use Rattle.dbl_tables_rows.proofs.SourceLogThemselvesLemmas.{name_same}
use Rattle.dbl_tables_rows.specs.declared.demo_table.DemoTable.{DemoTable}
use Rattle.dbl_tables_rows.specs.declared.error.StepError.{StepError}
use Rattle.dbl_tables_rows.specs.declared.error.StepError.TheVariants as errors
use Rattle.dbl_tables_rows.specs.Acts.{Accepted, is_open}
use Rattle.dbl_tables_rows.specs.Refusals.{◌>>=◌, refuse_step_if, some_or_refuse}
use Rattle.dbl_tables_rows.specs.Steps.{Step, FoundTable, found_from, found, table_judged, judged}
use Rattle.dbl_tables_changes.proofs.TablesLawsJudgedLemmas.{table_named_so}
use Rattle.dbl_tables_changes.proofs.TablesLawsMessageLemmas.{found_there}
use Rattle.dbl_tables_rows.specs.declared.rows.Rows.{Rows}
use Rattle.dbl_tables_rows.proofs.RowLemmas.{set_same, set_other}
use Rattle.dbl_tables_changes.specs.declared.planned.Planned.{Planned}
use Rattle.dbl_tables_changes.specs.declared.sessions.Session.{Session}
use Rattle.dbl_tables.specs.declared.tables.Tables.{Tables}
use Rattle.dbl_tables_changes.specs.Planned.{found_here, IsPlanned, IsAskedOfTable}
use Rattle.dbl_tables_changes.specs.AcceptedSteps.{IsSessionAt, found_at}
use Rattle.dbl_tables.specs.Stands.{Stands, IsAccepted, IsRefusedStep}
use Rattle.dbl_tables_changes.specs.Taking.{TakesChange, IsUntaken}
use Rattle.dbl_tables.specs.Places.{PlacesFor, IsPlannedAt}
use Rattle.dbl_tables.proofs.DoStands.{taken}
use Rattle.dbl_tables.proofs.UntakenLemmas.{stands_untaken}

-- ---- the tables after a change of one

pub tables_set : (tables : List Rows) (i : ℕ) (was new : Rows) → slice_get tables i ≡ Some was → new.table ≡ was.table → map (λ (r : Rows). r.table) (set tables i new) ≡ map (λ (r : Rows). r.table) tables
tables_set [] i was new there same = cc
tables_set (r ∷ tables) zero was new there same =
    let e : r ≡ was = cc in
    ap (λ (t : DemoTable). t ∷ map (λ (x : Rows). x.table) tables) (same ∙ ap (λ (x : Rows). x.table) (sym e))
tables_set (r ∷ tables) (suc i) was new there same = ap (λ (l : List DemoTable). r.table ∷ l) (tables_set tables i was new there same)

-- ---- the session and the table that a step names

-- one session more, or less, or another one
pub comes : (s : List ℕ) (o : Option Session) (old new : Tables) → ((q : List ℕ) → get text_cmp new.sessions q ≡ cond (is_eq (text_cmp s q)) o (get text_cmp old.sessions q)) → (q : List ℕ) → get text_cmp new.sessions q ≡ (if bytes_eq s q then o else get text_cmp old.sessions q)
comes s o old new updates q = updates q ∙ (ap (λ (b : Bool). cond b o (get text_cmp old.sessions q)) (is_eq-slice_cmp s q) ∙ by (bytes_eq s q))
  where
    by : (b : Bool) → cond b o (get text_cmp old.sessions q) ≡ (if b then o else get text_cmp old.sessions q)
    by true = refl
    by false = refl

-- the place of a name is that of the table that is found
pub found_none : (ts : List Rows) (i oid : ℕ) (name : TableName) → position_from (λ rows. same_name rows.table.info.name name) i ts ≡ None → found_from oid (map (λ (r : Rows). r.table) ts) name ≡ None
found_none [] i oid name none = refl
found_none (r ∷ ts) i oid name none = by (same_name r.table.info.name name) refl none (λ later. found_none ts (i + 1) (oid + 1) name later)
  where
    by : (b : Bool) → same_name r.table.info.name name ≡ b → (if b then Some i else position_from (λ (x : Rows). same_name x.table.info.name name) (i + 1) ts) ≡ None
        → (position_from (λ (x : Rows). same_name x.table.info.name name) (i + 1) ts ≡ None → found_from (oid + 1) (map (λ (x : Rows). x.table) ts) name ≡ None)
        → (if b then Some (let f : FoundTable = record { oid = oid; table = r.table } in f) else found_from (oid + 1) (map (λ (x : Rows). x.table) ts) name) ≡ None
    by true is none later = cc
    by false is none later = later none

-- and where there is one
pub record IsHere (ts : List Rows) (oid i place : ℕ) (name : TableName) : Type 0 where
  pub rows : Rows
  pub subsequent : ℕ
  pub place_is : place ≡ i + subsequent
  pub there : slice_get ts subsequent ≡ Some rows
  pub is : found_from oid (map (λ (r : Rows). r.table) ts) name ≡ Some (record { oid = oid + subsequent; table = rows.table })

pub found_here_at : (ts : List Rows) (oid i place : ℕ) (name : TableName) → position_from (λ rows. same_name rows.table.info.name name) i ts ≡ Some place → IsHere ts oid i place name
found_here_at [] oid i place name is = cc
found_here_at (r ∷ ts) oid i place name is = by (same_name r.table.info.name name) refl is (λ later. found_here_at ts (oid + 1) (i + 1) place name later)
  where
    nothing_more : (n : ℕ) → n ≡ n + 0
    nothing_more n = omega arith

    one_more : (n b : ℕ) → (n + 1) + b ≡ n + suc b
    one_more n b = omega arith

    by : (b : Bool) → same_name r.table.info.name name ≡ b → (if b then Some i else position_from (λ (x : Rows). same_name x.table.info.name name) (i + 1) ts) ≡ Some place
        → (position_from (λ (x : Rows). same_name x.table.info.name name) (i + 1) ts ≡ Some place → IsHere ts (oid + 1) (i + 1) place name) → IsHere (r ∷ ts) oid i place name
    by true same told later =
        let e : i ≡ place = cc in
        record {
          rows = r;
          subsequent = 0;
          place_is = sym e ∙ nothing_more i;
          there = refl;
          is = ap (λ (b : Bool). if b then Some (let f : FoundTable = record { oid = oid; table = r.table } in f) else found_from (oid + 1) (map (λ (x : Rows). x.table) ts) name) same
              ∙ ap (λ (n : ℕ). Some (let f : FoundTable = record { oid = n; table = r.table } in f)) (nothing_more oid);
        }
    by false other told later =
        let h = later told in
        record {
          rows = h.rows;
          subsequent = suc h.subsequent;
          place_is = h.place_is ∙ one_more i h.subsequent;
          there = h.there;
          is = ap (λ (b : Bool). if b then Some (let f : FoundTable = record { oid = oid; table = r.table } in f) else found_from (oid + 1) (map (λ (x : Rows). x.table) ts) name) other
              ∙ (h.is ∙ ap (λ (n : ℕ). Some (let f : FoundTable = record { oid = n; table = h.rows.table } in f)) (one_more oid h.subsequent));
        }

module _ (tables : List DemoTable) (past : List Accepted) (s : List ℕ) (t : Tables) (st : Stands tables past t) where
  opened : (o : Option Session) → o ≡ get text_cmp t.sessions s → is_some o ≡ is_open s past
  opened o is = by o (subst (IsSessionAt past s) (sym is) (st.sessions s))
    where
      by : (o : Option Session) → IsSessionAt past s o → is_some o ≡ is_open s past
      by None closed = sym closed
      by (Some x) own = sym own.begun

  pub open_as : (b : Bool) → is_some (get text_cmp t.sessions s) ≡ b → is_open s past ≡ b
  open_as b is = sym (opened (get text_cmp t.sessions s) refl) ∙ is

  -- it isn't open
  pub closed_table : (name : TableName) → is_open s past ≡ false → table_judged tables past s name ≡ Err errors.NotOpen
  closed_table name closed = ap (λ (b : Bool). refuse_step_if (not b) errors.NotOpen >>= (λ (u : Unit {0}). some_or_refuse (found tables name) errors.UnknownTable)) closed

  open_table : (name : TableName) → is_open s past ≡ true → table_judged tables past s name ≡ some_or_refuse (found tables name) errors.UnknownTable
  open_table name opened = ap (λ (b : Bool). refuse_step_if (not b) errors.NotOpen >>= (λ (u : Unit {0}). some_or_refuse (found tables name) errors.UnknownTable)) opened

  pub unknown_table : (name : TableName) → is_open s past ≡ true → position_from (λ rows. same_name rows.table.info.name name) 0 t.tables.items ≡ None → table_judged tables past s name ≡ Err errors.UnknownTable
  unknown_table name opened none =
      open_table name opened ∙ ap (λ (o : Option FoundTable). some_or_refuse o errors.UnknownTable)
      (ap (λ (l : List DemoTable). found l name) (sym st.tables_are) ∙ found_none t.tables.items 0 first_oid name none)

  -- the table at the place is the one that the step is judged at
  pub record IsHad (name : TableName) (place : ℕ) : Type 0 where
    pub rows : Rows
    pub there : slice_get t.tables.items place ≡ Some rows
    pub is : table_judged tables past s name ≡ Ok (found_at place rows.table)

  pub had_table : (name : TableName) (place : ℕ) → is_open s past ≡ true → position_from (λ rows. same_name rows.table.info.name name) 0 t.tables.items ≡ Some place → IsHad name place
  had_table name place opened at =
      let h = found_here_at t.tables.items first_oid 0 place name at in
      let e : place ≡ h.subsequent = h.place_is ∙ zero_more h.subsequent in
      record {
        rows = h.rows;
        there = ap (slice_get t.tables.items) e ∙ h.there;
        is = open_table name opened ∙ ap (λ (o : Option FoundTable). some_or_refuse o errors.UnknownTable)
            (ap (λ (l : List DemoTable). found l name) (sym st.tables_are) ∙ (h.is ∙ ap (λ (n : ℕ). Some (found_at n h.rows.table)) (sym e)));
      }
    where
      zero_more : (n : ℕ) → 0 + n ≡ n
      zero_more n = omega arith

  -- what a plan is asked of
  pub asked_of : (name : TableName) (place : ℕ) (rows : Rows) (session : Session) → table_judged tables past s name ≡ Ok (found_at place rows.table) → slice_get t.tables.items place ≡ Some rows → Some session ≡ get text_cmp t.sessions s
      → IsAskedOfTable tables past s (found_at place rows.table) rows session
  asked_of name place rows session is there has =
      let named = table_named_so tables past s name (found_at place rows.table) is in
      let own : same_name rows.table.info.name name ≡ true = (let at = found_there first_oid tables name (found_at place rows.table) named.there in at.named) in
      record {
        can = st.can;
        standing = st.standing;
        there = ap (found tables) (name_same rows.table.info.name name own) ∙ named.there;
        are_rows = st.rows place rows there;
        is_session = subst (IsSessionAt past s) (sym has) (st.sessions s);
      }

-- ---- a step at one table

-- an item that was got of a slice, or none
pub got : (ts slice : List Rows) (place : ℕ) (r : Rows) → slice ≡ ts → true ≡ nat_lt place (length slice) → r ≡ get_or slice place r → slice_get ts place ≡ Some r
got ts slice place r same within is =
    let less : place < length slice = grind (arith, nat_tests) in
    subst (λ (l : List Rows). slice_get l place ≡ Some r) same (slice_get_read slice (length slice) place r refl less is)

pub got_none : (ts slice : List Rows) (place : ℕ) → slice ≡ ts → false ≡ nat_lt place (length slice) → slice_get ts place ≡ None
got_none ts slice place same past =
    let more : length slice ≤ place = grind (arith, nat_tests) in
    subst (λ (l : List Rows). slice_get l place ≡ None) same (slice_get_past slice place more)

-- what a place says of the verdict on a name
pub record IsJudgedAt (r : Result FoundTable StepError) (ts : List Rows) (place : ℕ) : Type 0 where
  pub rows : Rows
  pub there : slice_get ts place ≡ Some rows
  pub is : r ≡ Ok (found_at place rows.table)

pub placed : (r : Result FoundTable StepError) (ts : List Rows) (place : ℕ) → PlacesFor r ts (Ok place) → IsJudgedAt r ts place
placed (Ok at) ts place of = record { rows = of.rows; there = of.there; is = ap Ok of.is }
placed (Err e) ts place of = absurd of

pub not_placed : (r : Result FoundTable StepError) (ts : List Rows) (e : StepError) → PlacesFor r ts (Err e) → r ≡ Err e
not_placed (Ok at) ts e of = absurd of
not_placed (Err x) ts e of = ap (λ (y : StepError). Err y) (sym of)

module _ (tables : List DemoTable) (past : List Accepted) (s : List ℕ) (t : Tables) (st : Stands tables past t) (name : TableName) (call : Step) (f : FoundTable → Result Accepted StepError) (judges : judged tables past call ≡ (table_judged tables past s name >>= f)) where
  -- the session isn't open, or the table isn't there
  pub step_refused : (e : StepError) → PlacesFor (table_judged tables past s name) t.tables.items (Err e) → IsRefusedStep tables past call e t
  step_refused e of = record { why = inr (judges ∙ ap (λ (r : Result FoundTable StepError). r >>= f) (not_placed (table_judged tables past s name) t.tables.items e of)); stands = st }

  module _ (place : ℕ) (of : PlacesFor (table_judged tables past s name) t.tables.items (Ok place)) where
    its_place : IsJudgedAt (table_judged tables past s name) t.tables.items place
    its_place = placed (table_judged tables past s name) t.tables.items place of

    pub step_open : is_open s past ≡ true
    step_open = (let h = its_place in (let named = table_named_so tables past s name (found_at place h.rows.table) h.is in named.begun))

    pub step_has : (o : Option Session) → o ≡ get text_cmp t.sessions s → is_some o ≡ true
    step_has o is = ap is_some is ∙ (sym (open_as tables past s t st (is_some (get text_cmp t.sessions s)) refl) ∙ step_open)

    pub step_there : slice_get t.tables.items place ≡ None → ⊥
    step_there none = (let h = its_place in (let contra : Some h.rows ≡ None = sym h.there ∙ none in cc))

    pub low_place : place < 2 ^ 31
    low_place =
        let h = its_place in
        let within : place < length t.tables.items = slice_get_within t.tables.items place h.rows h.there in
        let few : length t.tables.items ≤ 64 = subst (λ (n : ℕ). n ≤ 64) (ap length (sym st.tables_are) ∙ length-map t.tables.items (λ (r : Rows). r.table)) st.can.few in
        let most : 64 < 2 ^ 31 = omega arith in
        omega arith

    module _ (rows : Rows) (there : slice_get t.tables.items place ≡ Some rows) (oid : ℕ) (oid_is : oid ≡ first_oid + place) where
      at_rows : table_judged tables past s name ≡ Ok (found_here oid rows)
      at_rows =
          let h = its_place in
          let e : h.rows ≡ rows = (let both : Some h.rows ≡ Some rows = sym h.there ∙ there in cc) in
          h.is ∙ (ap (λ (r : Rows). Ok (found_at place r.table)) e ∙ ap (λ (n : ℕ). Ok (let at : FoundTable = record { oid = n; table = rows.table } in at)) (sym oid_is))

      here_is : found_here oid rows ≡ found_at place rows.table
      here_is = ap (λ (n : ℕ). let at : FoundTable = record { oid = n; table = rows.table } in at) oid_is

      judged_here : judged tables past call ≡ f (found_here oid rows)
      judged_here = judges ∙ ap (λ (r : Result FoundTable StepError). r >>= f) at_rows

      pub asked_here : (session : Session) → Some session ≡ get text_cmp t.sessions s → IsAskedOfTable tables past s (found_here oid rows) rows session
      asked_here session has =
          subst (λ (at : FoundTable). IsAskedOfTable tables past s at rows session) (sym here_is)
          (asked_of tables past s t st name place rows session (at_rows ∙ ap (λ (at : FoundTable). Ok at) here_is) there has)

      pub plan_refused : (e : StepError) → (e ≡ errors.Memory) ⊎ (f (found_here oid rows) ≡ Err e) → IsRefusedStep tables past call e t
      plan_refused e (inl mem) = record { why = inl mem; stands = st }
      plan_refused e (inr is) = record { why = inr (judged_here ∙ is); stands = st }

      pub plan_ready : (planned : Planned) → IsPlanned tables past s (found_here oid rows) (f (found_here oid rows)) planned → IsPlannedAt tables past call s place t.tables.items planned
      plan_ready planned is = record {
        at = found_here oid rows;
        begun = step_open;
        there = record { rows = rows; there = there; is = here_is };
        planned_is = subst (λ (v : Result Accepted StepError). IsPlanned tables past s (found_here oid rows) v planned) (sym judged_here) is;
      }

-- ---- a planned change is taken

module _ (tables : List DemoTable) (past : List Accepted) (s : List ℕ) (c : Step) (old new : Tables) (planned : Planned) (place : ℕ) (before after : Session) (rows changed : Rows) (st : Stands tables past old) (at : IsPlannedAt tables past c s place old.tables.items planned)
    (has : Some before ≡ get text_cmp old.sessions s) (there : slice_get old.tables.items place ≡ Some rows) (items : new.tables.items ≡ set old.tables.items place changed)
    (updates : (q : List ℕ) → get text_cmp new.sessions q ≡ cond (is_eq (text_cmp s q)) (Some after) (get text_cmp old.sessions q)) where
  here : slice_get new.tables.items place ≡ Some changed
  here = ap (λ (l : List Rows). slice_get l place) items ∙ set_same old.tables.items place changed rows there

  elsewhere : (other : ℕ) → (other ≡ place → ⊥) → slice_get new.tables.items other ≡ slice_get old.tables.items other
  elsewhere other apart = ap (λ (l : List Rows). slice_get l other) items ∙ set_other old.tables.items place other changed apart

  tables_stay : changed.table ≡ rows.table → map (λ (r : Rows). r.table) new.tables.items ≡ map (λ (r : Rows). r.table) old.tables.items
  tables_stay same = ap (map (λ (r : Rows). r.table)) items ∙ tables_set old.tables.items place rows changed there same

  its_plan : IsPlanned tables past s (found_at place rows.table) (judged tables past c) planned
  its_plan =
      let e : at.there.rows ≡ rows = (let both : Some at.there.rows ≡ Some rows = sym at.there.there ∙ there in cc) in
      subst (λ (f : FoundTable). IsPlanned tables past s f (judged tables past c) planned) (at.there.is ∙ ap (λ (r : Rows). found_at place r.table) e) at.planned_is

  pub take_accepted : TakesChange place s planned rows changed before after → IsAccepted tables past c new
  take_accepted takes =
      taken tables past s c old new planned place before after rows changed st (sym has) there its_plan takes (comes s (Some after) old new updates) here elsewhere (tables_stay takes.table.table)

  pub take_refused : IsUntaken rows changed before after → IsRefusedStep tables past c errors.Memory new
  take_refused untaken = record {
    why = inl refl;
    stands = stands_untaken tables past s old new place before after rows changed st (sym has) there untaken (comes s (Some after) old new updates) here elsewhere (tables_stay untaken.table.table);
  }
