-- The begin of a session, and its end.
use Rattle.std.proofs.Common.{◌≡◌, ◌∙◌, ℕ, Bool, true, false, Option, Some, None, List, [], map, cond, refl, sym, ap, subst}
use Rattle.std.specs.Prelude.{◌≤◌, not, if◌then◌else◌, is_some, Ok, Err, slice_get, bytes_eq}
use Rattle.std.specs.Ordering.{is_eq}
use Rattle.std.specs.BTreeMap.{get}
use Rattle.std.proofs.lemmas.Map.Text.{is_eq-slice_cmp}
use Rattle.dbl_base.specs.Texts.{text_cmp}
use Rattle.dbl_pgmsg.specs.declared.messages.Message.{Message}
use Rattle.dbl_model_table.proofs.Lists.{same_text}
use Rattle.dbl_tables_rows.specs.declared.demo_table.DemoTable.{DemoTable}
use Rattle.dbl_tables_rows.specs.declared.error.StepError.TheVariants as errors
use Rattle.dbl_tables_rows.specs.Acts.{Accepted, is_open}
use Rattle.dbl_tables_rows.specs.Acts.Accepted.{Began, Committed, RolledBack}
use Rattle.dbl_tables_rows.specs.Sending.{entry_size, entry_limit}
use Rattle.dbl_tables_rows.specs.Refusals.{◌>>=◌, refuse_step_if}
use Rattle.dbl_tables_rows.specs.Steps.{begin_judged, end_judged}
use Rattle.dbl_tables_rows.specs.Steps.Step.{Begin, Commit, Rollback}
use Rattle.dbl_tables_rows.specs.declared.held.HeldKey.{HeldKey}
use Rattle.dbl_tables_rows.specs.declared.rows.Rows.{Rows}
use Rattle.dbl_tables_rows.specs.Ends.{EachChanges, IsCommitted, IsRolledBack}
use Rattle.dbl_tables_changes.specs.declared.sessions.Session.{Session}
use Rattle.dbl_tables.specs.declared.tables.Tables.{Tables}
use Rattle.dbl_tables_changes.specs.AcceptedSteps.{IsSession, IsSessionAt}
use Rattle.dbl_tables.specs.Stands.{Stands, IsAccepted, IsGiven}
use Rattle.dbl_tables.proofs.StandLemmas.{IsGone, stands_begins, stands_rolls_back, stands_commits}

-- the judgement, by whether the session is open
judged_at : (past : List Accepted) (s : List ℕ) (act : Accepted) (b : Bool) → is_open s past ≡ b → end_judged past s act ≡ (if b then Ok act else Err errors.NotOpen)
judged_at past s act b is = ap (λ (o : Bool). refuse_step_if (not o) errors.NotOpen >>= (λ (u : Unit {0}). Ok act)) is ∙ by b
  where
    by : (b : Bool) → (refuse_step_if (not b) errors.NotOpen >>= (λ (u : Unit {0}). Ok act)) ≡ (if b then Ok act else Err errors.NotOpen)
    by true = refl
    by false = refl

module _ (tables : List DemoTable) (past : List Accepted) (s : List ℕ) (old new : Tables) (st : Stands tables past old) (updates : (q : List ℕ) → get text_cmp new.sessions q ≡ cond (is_eq (text_cmp s q)) None (get text_cmp old.sessions q)) where
  gone : IsGone s old new
  gone q = updates q ∙ (ap (λ (b : Bool). cond b None (get text_cmp old.sessions q)) (is_eq-slice_cmp s q) ∙ by (bytes_eq s q))
    where
      by : (b : Bool) → cond b None (get text_cmp old.sessions q) ≡ (if b then None else get text_cmp old.sessions q)
      by true = refl
      by false = refl

  module _ (session : Session) (found : Some session ≡ get text_cmp old.sessions s) where
    its_session : IsSession past s session
    its_session = subst (IsSessionAt past s) (sym found) (st.sessions s)

    pub rolled_back : (keys : List HeldKey) → keys ≡ session.keys.items → EachChanges (λ place o n. IsRolledBack place keys s o n) old.tables.items new.tables.items → IsAccepted tables past (Rollback s) new
    rolled_back keys same each = record {
      act = RolledBack s;
      accepted = judged_at past s (RolledBack s) true its_session.begun;
      stands = stands_rolls_back tables past s old new session st (sym found) gone (subst (λ (l : List HeldKey). EachChanges (λ place o n. IsRolledBack place l s o n) old.tables.items new.tables.items) same each);
    }

    pub committed : (keys : List HeldKey) → keys ≡ session.keys.items → EachChanges (λ place o n. IsCommitted place keys s o n) old.tables.items new.tables.items → IsAccepted tables past (Commit s) new
    committed keys same each = record {
      act = Committed s;
      accepted = judged_at past s (Committed s) true its_session.begun;
      stands = stands_commits tables past s old new session st (sym found) gone (subst (λ (l : List HeldKey). EachChanges (λ place o n. IsCommitted place l s o n) old.tables.items new.tables.items) same each);
    }

    pub given : IsGiven past s session.messages.items
    given = record {
      are = its_session.messages;
      fitting = its_session.fitting;
      short = subst (λ (ms : List Message). entry_size ms ≤ entry_limit) (sym its_session.messages) (st.standing.orderly.sized s);
    }

  -- who isn't there isn't open
  pub not_open : None ≡ get text_cmp old.sessions s → (act : Accepted) → end_judged past s act ≡ Err errors.NotOpen
  not_open none act = judged_at past s act false (subst (IsSessionAt past s) (sym none) (st.sessions s))

  -- and nothing happens
  pub nothing_taken : None ≡ get text_cmp old.sessions s → (q : List ℕ) → get text_cmp new.sessions q ≡ get text_cmp old.sessions q
  nothing_taken none q = gone q ∙ by (bytes_eq s q) refl
    where
      by : (b : Bool) → bytes_eq s q ≡ b → (if b then None else get text_cmp old.sessions q) ≡ get text_cmp old.sessions q
      by true same = none ∙ ap (get text_cmp old.sessions) (same_text s q same)
      by false other = refl

-- a store with the same tables and the same sessions
pub unmoved : (tables : List DemoTable) (past : List Accepted) (old new : Tables) → Stands tables past old → new.tables.items ≡ old.tables.items → ((q : List ℕ) → get text_cmp new.sessions q ≡ get text_cmp old.sessions q) → Stands tables past new
unmoved tables past old new st tables_stay same = record {
  can = st.can;
  standing = st.standing;
  tables_are = ap (λ (l : List Rows). map (λ (r : Rows). r.table) l) tables_stay ∙ st.tables_are;
  sessions = λ name. subst (IsSessionAt past name) (sym (same name)) (st.sessions name);
  rows = λ place rows there. st.rows place rows (ap (λ (l : List Rows). slice_get l place) (sym tables_stay) ∙ there);
  listed = λ name x place rows has there. st.listed name x place rows (sym (same name) ∙ has) (ap (λ (l : List Rows). slice_get l place) (sym tables_stay) ∙ there);
}

-- ---- a session begins

-- the session that a name has, told by whether it has one
is_there : (past : List Accepted) (name : List ℕ) (o : Option Session) (b : Bool) → is_some o ≡ b → IsSessionAt past name o → is_open name past ≡ b
is_there past name None true some is = cc
is_there past name None false some is = is
is_there past name (Some x) true some is = is.begun
is_there past name (Some x) false some is = cc

module _ (tables : List DemoTable) (past : List Accepted) (s : List ℕ) (old : Tables) (st : Stands tables past old) where
  pub open_by : (b : Bool) → is_some (get text_cmp old.sessions s) ≡ b → is_open s past ≡ b
  open_by b some = is_there past s (get text_cmp old.sessions s) b some (st.sessions s)

  pub begun_already : is_some (get text_cmp old.sessions s) ≡ true → begin_judged past s ≡ Err errors.AlreadyOpen
  begun_already some = ap (λ (o : Bool). refuse_step_if o errors.AlreadyOpen >>= (λ (u : Unit {0}). Ok (Began s))) (open_by true some)

  pub begins : (new : Tables) (fresh : Session) → is_some (get text_cmp old.sessions s) ≡ false → new.tables.items ≡ old.tables.items → fresh.messages.items ≡ [] → fresh.size ≡ entry_size [] → fresh.keys.items ≡ []
      → ((q : List ℕ) → get text_cmp new.sessions q ≡ cond (is_eq (text_cmp s q)) (Some fresh) (get text_cmp old.sessions q)) → IsAccepted tables past (Begin s) new
  begins new fresh none same messages size keys updates =
      let closed : is_open s past ≡ false = open_by false none in
      record {
        act = Began s;
        accepted = ap (λ (o : Bool). refuse_step_if o errors.AlreadyOpen >>= (λ (u : Unit {0}). Ok (Began s))) closed;
        stands = stands_begins tables past s old new fresh st closed same messages size keys come;
      }
    where
      come : (q : List ℕ) → get text_cmp new.sessions q ≡ (if bytes_eq s q then Some fresh else get text_cmp old.sessions q)
      come q = updates q ∙ (ap (λ (b : Bool). cond b (Some fresh) (get text_cmp old.sessions q)) (is_eq-slice_cmp s q) ∙ by (bytes_eq s q))
        where
          by : (b : Bool) → cond b (Some fresh) (get text_cmp old.sessions q) ≡ (if b then Some fresh else get text_cmp old.sessions q)
          by true = refl
          by false = refl
