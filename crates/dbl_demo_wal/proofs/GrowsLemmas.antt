-- Wals that grow: what they represent grows with them.
use Rattle.std.proofs.Common.{◌≡◌, ◌∙◌, ℕ, ◌≤◌, Option, None, Some, option_map, List, [], ◌∷◌, ◌++◌, map, refl, sym, ap, subst, arith, append_assoc}
use Rattle.std.proofs.lemmas.List.{append-nil}
use Rattle.std.proofs.lemmas.List.Elements.{filter_map-append}
use Rattle.dbl_base.specs.declared.lsn.Lsn.{Lsn}
use Rattle.dbl_pgmsg.specs.declared.messages.Message.{Message}
use Rattle.dbl_tables_laws.specs.SourceModel.Growth.{Grows, Marks}
use Rattle.dbl_tables_laws.specs.SourceModel.Standings.{Reading}
use Rattle.dbl_tables_laws.specs.SourceModel.Calls.{Moved, IsMarked, IsConfirmed}
use Rattle.dbl_tables_laws.specs.SourceModel.Leaves.{MayFollow}
use Rattle.dbl_tables_laws.proofs.SourceModelGrowthLemmas.{marks_on}
use Rattle.dbl_tables_laws.specs.SourceLog.declared.logged.Logged.{Logged}
use Rattle.dbl_tables_laws.specs.SourceLog.declared.logged.Logged.TheVariants.{Changes, Mark}
use Rattle.dbl_tables_laws.specs.SourceLog.declared.reader_position.ReaderPosition.{ReaderPosition}
use Rattle.dbl_tables_laws.specs.SourceLog.Histories.{history_of}
use Rattle.dbl_tables_laws.specs.SourceLog.Sent.{told_at, IsPlaceIn}
use Rattle.dbl_tables_laws.proofs.SourceLogLogLemmas.{log_grows_to, log_marks}
use Rattle.dbl_tables_laws.proofs.SourceLogSentLemmas.{stays}
use Rattle.dbl_demo_wal.specs.declared.entry.Entry.{Entry}
use Rattle.dbl_demo_wal.specs.declared.entry.Entry.TheVariants as entry
use Rattle.dbl_demo_wal.specs.Sound.{logged_by, logged_in, session_commits, confirmed_from}
use Rattle.dbl_demo_wal.specs.Wals.{Wal}
use Rattle.dbl_demo_wal.specs.Standings.{confirmed_of, history_in, left_in, wal_reading, standing_in, tables_of}
use Rattle.dbl_demo_wal.specs.CrashState.{with_entries}
use Rattle.dbl_demo_wal.proofs.GroupLemmas.{AreCommits, logged_commits, confirmed_commits, confirmed_from-append}

module _ (wal : Wal) (more : List Entry) (are : AreCommits more) where
  logged_more : logged_in (with_entries wal more).entries ≡ logged_in wal.entries ++ map Changes (session_commits more)
  logged_more = filter_map-append logged_by wal.entries more ∙ ap (λ (l : List Logged). logged_in wal.entries ++ l) (logged_commits more are)

  pub history_grows : Grows (history_in wal) (history_in (with_entries wal more))
  history_grows = log_grows_to (tables_of wal) (logged_in wal.entries) (logged_in (with_entries wal more).entries) (session_commits more) logged_more

  pub confirmed_stays : confirmed_of (with_entries wal more) ≡ confirmed_of wal
  confirmed_stays = confirmed_from-append (record { 0 = 0 }) wal.entries more ∙ confirmed_commits (confirmed_of wal) more are

  pub left_follows : (place : Option ReaderPosition) → MayFollow (standing_in wal place) (left_in (with_entries wal more))
  left_follows place = record { grows = history_grows; confirmed = confirmed_stays }

-- what was read stays, for any addition
pub reading_stays : (wal : Wal) (more : List Entry) (place : Option ReaderPosition) → ((p : ReaderPosition) → place ≡ Some p → IsPlaceIn (logged_in wal.entries) p) → option_map (wal_reading (with_entries wal more)) place ≡ option_map (wal_reading wal) place
reading_stays wal more None placed = refl
reading_stays wal more (Some p) placed =
    let logged = filter_map-append logged_by wal.entries more in
    let told = stays (tables_of wal) (logged_in wal.entries) (logged_in more) p (placed p refl) in
    ap (λ (ms : List Message). Some (let r : Reading = record { after = p.after; messages = ms } in r)) (ap (λ (log : List Logged). told_at (tables_of wal) log p) logged ∙ told)

pub standing_moves : (wal : Wal) (more : List Entry) (place : Option ReaderPosition) → AreCommits more → ((p : ReaderPosition) → place ≡ Some p → IsPlaceIn (logged_in wal.entries) p) → Moved (standing_in wal place) (standing_in (with_entries wal more) place)
standing_moves wal more place are placed = record { grows = history_grows wal more are; confirmed = confirmed_stays wal more are; reading = reading_stays wal more place placed }

-- ---- a watermark

abbrev pub marked : List Entry → ℕ → List ℕ → List Entry
marked more steps value = more ++ entry.Marks steps value ∷ []

module _ (wal : Wal) (more : List Entry) (are : AreCommits more) (steps : ℕ) (value : List ℕ) where
  logged_mark : logged_in (with_entries wal (marked more steps value)).entries ≡ logged_in (with_entries wal more).entries ++ Mark value ∷ []
  logged_mark =
      ap logged_in (sym (append_assoc wal.entries more (entry.Marks steps value ∷ []))) ∙ filter_map-append logged_by (wal.entries ++ more) (entry.Marks steps value ∷ [])

  pub history_marks : Marks value (history_in wal) (history_in (with_entries wal (marked more steps value)))
  history_marks =
      let next = log_marks (tables_of wal) value (logged_in (with_entries wal more).entries) in
      let here = subst (λ (log : List Logged). Marks value (history_in (with_entries wal more)) (history_of (tables_of wal) log)) (sym logged_mark) next in
      marks_on value (history_in wal) (history_in (with_entries wal more)) (history_in (with_entries wal (marked more steps value))) (history_grows wal more are) here

  pub confirmed_marks : confirmed_of (with_entries wal (marked more steps value)) ≡ confirmed_of wal
  confirmed_marks =
      ap (confirmed_from (record { 0 = 0 })) (sym (append_assoc wal.entries more (entry.Marks steps value ∷ [])))
      ∙ confirmed_from-append (record { 0 = 0 }) (wal.entries ++ more) (entry.Marks steps value ∷ [])
      ∙ confirmed_stays wal more are

  pub standing_marks : (place : Option ReaderPosition) → ((p : ReaderPosition) → place ≡ Some p → IsPlaceIn (logged_in wal.entries) p) → IsMarked value (standing_in wal place) (standing_in (with_entries wal (marked more steps value)) place)
  standing_marks place placed = record { marks = history_marks; confirmed = confirmed_marks; reading = reading_stays wal (marked more steps value) place placed }

-- ---- a confirmed position

abbrev pub confirming : List Entry → Lsn → List Entry
confirming more upto = more ++ entry.Confirms upto ∷ []

module _ (wal : Wal) (more : List Entry) (are : AreCommits more) (upto : Lsn) where
  logged_confirm : logged_in (with_entries wal (confirming more upto)).entries ≡ logged_in (with_entries wal more).entries
  logged_confirm =
      ap logged_in (sym (append_assoc wal.entries more (entry.Confirms upto ∷ [])))
      ∙ filter_map-append logged_by (wal.entries ++ more) (entry.Confirms upto ∷ [])
      ∙ append-nil (logged_in (wal.entries ++ more))

  pub history_confirms : Grows (history_in wal) (history_in (with_entries wal (confirming more upto)))
  history_confirms = subst (λ (log : List Logged). Grows (history_in wal) (history_of (tables_of wal) log)) (sym logged_confirm) (history_grows wal more are)

  pub confirmed_confirms : confirmed_of (with_entries wal (confirming more upto)) ≡ upto
  confirmed_confirms =
      ap (confirmed_from (record { 0 = 0 })) (sym (append_assoc wal.entries more (entry.Confirms upto ∷ [])))
      ∙ confirmed_from-append (record { 0 = 0 }) (wal.entries ++ more) (entry.Confirms upto ∷ [])

  pub standing_confirms : (place : Option ReaderPosition) → (confirmed_of wal).0 ≤ upto.0 → ((p : ReaderPosition) → place ≡ Some p → IsPlaceIn (logged_in wal.entries) p)
      → IsConfirmed upto (standing_in wal place) (standing_in (with_entries wal (confirming more upto)) place)
  standing_confirms place le placed = record {
    grows = history_confirms;
    confirmed = ap (λ (l : Lsn). l.0) confirmed_confirms ∙ omega (arith, le);
    reading = reading_stays wal (confirming more upto) place placed;
  }
