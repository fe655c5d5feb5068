-- What open sessions have changed stays fit for the committed rows while others begin, commit and roll back.
use Rattle.std.proofs.Common.{◌≡◌, ◌≢◌, ◌∙◌, ℕ, Bool, true, false, List, [], ◌∷◌, ◌++◌, map, refl, sym, ap, subst}
use Rattle.std.specs.Prelude.{if◌then◌else◌, bytes_eq}
use Rattle.dbl_tables_rows.specs.Pgmsg.declared.messages.Message.{Message}
use Rattle.dbl_model_table.proofs.Lists.{same_text, text_itself}
use Rattle.dbl_tables_rows.specs.ModelHistory.History.{RawChange}
use Rattle.dbl_tables_rows.specs.SourceLog.declared.logged.LogTable.{LogTable}
use Rattle.dbl_tables_rows.specs.SourceLog.declared.logged.Logged.TheVariants.{Changes}
use Rattle.dbl_tables_rows.specs.SourceLog.TextRows.{TextRows, no_text_rows, text_rows_after, text_rows_with}
use Rattle.dbl_tables_rows.specs.SourceLog.RawChanges.{raw_changes, changes_from, text_rows_from}
use Rattle.dbl_tables_rows.specs.SourceLog.Histories.{text_rows_through}
use Rattle.dbl_tables_rows.specs.SourceLog.FitLogs.{AreFitChanges}
use Rattle.dbl_tables_rows.specs.declared.demo_table.DemoTable.{DemoTable}
use Rattle.dbl_tables_rows.specs.Acts.{Accepted, messages_by, log_in}
use Rattle.dbl_tables_rows.specs.Acts.Accepted.{Began, Did, Committed, RolledBack}
use Rattle.dbl_tables_rows.specs.Seen.{committed_rows, changes_by, seen_rows}
use Rattle.dbl_tables_rows.specs.Sending.{log_tables}
use Rattle.dbl_tables_laws.specs.Reachable.{AreTables, IsOrderly, HaveFitChanges, IsFitAfter}
use Rattle.dbl_tables_laws.proofs.LockLemmas.{AgreeAt, fit_for}
use Rattle.dbl_tables_laws.proofs.SeenLemmas.{shows, held_stay, stays_there}
use Rattle.dbl_tables_laws.proofs.OrderLemmas.{more_changes}

-- before anybody has come
pub fit_none : (tables : List DemoTable) → IsFitAfter tables []
fit_none tables = record { changes = λ session. tt; log = tt }

-- ---- lists of changes and of commits

fit-append : (tables : List LogTable) (cs ds : List RawChange) (rows : TextRows) → AreFitChanges tables rows cs → AreFitChanges tables (text_rows_with tables cs rows) ds → AreFitChanges tables rows (cs ++ ds)
fit-append tables [] ds rows first rest = rest
fit-append tables (c ∷ cs) ds rows first rest = (first.0, fit-append tables cs ds (text_rows_after tables c rows) first.1 rest)

-- the rows after some commits
abbrev pub rows_through : List LogTable → TextRows → List (List Message) → TextRows
rows_through tables rows [] = rows
rows_through tables rows (ms ∷ log) = rows_through tables (text_rows_from tables rows ms) log

pub through_is : (tables : List LogTable) (rows : TextRows) (log : List (List Message)) → rows_through tables rows log ≡ text_rows_through tables rows (map Changes log)
through_is tables rows [] = refl
through_is tables rows (ms ∷ log) = through_is tables (text_rows_from tables rows ms) log

commits-push : (tables : List LogTable) (rows : TextRows) (log : List (List Message)) (ms : List Message) → HaveFitChanges tables rows log → AreFitChanges tables (rows_through tables rows log) (changes_from tables (rows_through tables rows log) ms) → HaveFitChanges tables rows (log ++ ms ∷ [])
commits-push tables rows [] ms fit last = (last, tt)
commits-push tables rows (xs ∷ log) ms fit last = (fit.0, commits-push tables (text_rows_from tables rows xs) log ms fit.1 last)

module _ (tables : List DemoTable) (past : List Accepted) (fit : IsFitAfter tables past) where
  -- a list of messages or none
  cut : (t : List ℕ) (b : Bool) → AreFitChanges (log_tables tables) (committed_rows (log_tables tables) past) (changes_from (log_tables tables) (committed_rows (log_tables tables) past) (if b then [] else messages_by t past))
  cut t true = tt
  cut t false = fit.changes t

  pub fit_begins : (s : List ℕ) → IsFitAfter tables (Began s ∷ past)
  fit_begins s = record { changes = λ t. cut t (bytes_eq s t); log = fit.log }

  pub fit_rolls_back : (s : List ℕ) → IsFitAfter tables (RolledBack s ∷ past)
  fit_rolls_back s = record { changes = λ t. cut t (bytes_eq s t); log = fit.log }

  -- what is committed was fit, and what others have changed is fit for it, since they hold none of its keys
  pub fit_commits : (s : List ℕ) → AreTables tables → IsOrderly tables past → IsFitAfter tables (Committed s ∷ past)
  fit_commits s can orderly = record {
    changes = λ t. others t (bytes_eq s t) refl;
    log = commits-push (log_tables tables) no_text_rows (log_in past) (messages_by s past) fit.log (subst (λ (rows : TextRows). AreFitChanges (log_tables tables) rows (changes_from (log_tables tables) rows (messages_by s past))) (sym (through_is (log_tables tables) no_text_rows (log_in past))) (fit.changes s));
  }
    where
      others : (t : List ℕ) (b : Bool) → bytes_eq s t ≡ b → AreFitChanges (log_tables tables) (committed_rows (log_tables tables) (Committed s ∷ past)) (changes_by (log_tables tables) (Committed s ∷ past) t)
      others t true same =
          subst (λ (b : Bool). AreFitChanges (log_tables tables) (committed_rows (log_tables tables) (Committed s ∷ past)) (changes_from (log_tables tables) (committed_rows (log_tables tables) (Committed s ∷ past)) (if b then [] else messages_by t past))) (sym same) tt
      others t false other =
          let apart : t ≢ s = λ e. (let contra : true ≡ false = sym (text_itself t) ∙ (ap (λ (x : List ℕ). bytes_eq x t) e ∙ other) in cc) in
          let subsequent : TextRows = committed_rows (log_tables tables) (Committed s ∷ past) in
          let agree : AgreeAt (log_tables tables) (changes_by (log_tables tables) past t) (committed_rows (log_tables tables) past) subsequent
          = λ name key held. stays_there tables past can orderly t s apart name key held ∙ sym (ap (λ (rows : TextRows). rows name key) (shows (log_tables tables) past s)) in
          subst (AreFitChanges (log_tables tables) subsequent) (sym (held_stay tables past t s can orderly apart).changes) (fit_for (log_tables tables) (changes_by (log_tables tables) past t) (committed_rows (log_tables tables) past) subsequent agree (fit.changes t))

  -- one more change of a session, fit for the rows that it sees
  pub fit_does : (s : List ℕ) (m : Message) → IsOrderly tables past → AreFitChanges (log_tables tables) (seen_rows (log_tables tables) past s) (raw_changes (log_tables tables) (seen_rows (log_tables tables) past s) m) → IsFitAfter tables (Did s m ∷ past)
  fit_does s m orderly new = record { changes = λ t. more t (bytes_eq s t) refl; log = fit.log }
    where
      more : (t : List ℕ) (b : Bool) → bytes_eq s t ≡ b → AreFitChanges (log_tables tables) (committed_rows (log_tables tables) past) (changes_from (log_tables tables) (committed_rows (log_tables tables) past) (messages_by t (Did s m ∷ past)))
      more t false other = subst (λ (b : Bool). AreFitChanges (log_tables tables) (committed_rows (log_tables tables) past) (changes_from (log_tables tables) (committed_rows (log_tables tables) past) (if b then messages_by t past ++ m ∷ [] else messages_by t past))) (sym other) (fit.changes t)
      more t true same =
          let e : s ≡ t = same_text s t same in
          let rows : TextRows = committed_rows (log_tables tables) past in
          let here : AreFitChanges (log_tables tables) (seen_rows (log_tables tables) past t) (raw_changes (log_tables tables) (seen_rows (log_tables tables) past t) m) =
          subst (λ (x : List ℕ). AreFitChanges (log_tables tables) (seen_rows (log_tables tables) past x) (raw_changes (log_tables tables) (seen_rows (log_tables tables) past x) m)) e new in
          let both : AreFitChanges (log_tables tables) rows (changes_by (log_tables tables) past t ++ raw_changes (log_tables tables) (seen_rows (log_tables tables) past t) m) =
          fit-append (log_tables tables) (changes_by (log_tables tables) past t) (raw_changes (log_tables tables) (seen_rows (log_tables tables) past t) m) rows (fit.changes t) here in
          subst (λ (b : Bool). AreFitChanges (log_tables tables) rows (changes_from (log_tables tables) rows (if b then messages_by t past ++ m ∷ [] else messages_by t past))) (sym same)
          (subst (AreFitChanges (log_tables tables) rows) (sym (more_changes tables past orderly rows (messages_by t past) m)) both)
