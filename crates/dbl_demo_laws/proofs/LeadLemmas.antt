-- What each call leads to, from the wal with what the call added.
use Rattle.std.proofs.Common.{◌≡◌, ◌∙◌, ℕ, ◌≤◌, ◌<◌, Bool, true, false, Option, List, [], ◌∷◌, length, refl, sym, ap, subst, arith, inl}
use Rattle.std.specs.Prelude.{nat_lt, if◌then◌else◌, is_some}
use Rattle.std.proofs.lemmas.Bool.{ltb-false}
use Rattle.std.proofs.lemmas.Bool.Decides.{Decides-ltb}
use Rattle.dbl_base.specs.declared.lsn.Lsn.{Lsn}
use Rattle.dbl_disk.specs.Model.{DiskModel}
use Rattle.dbl_model_table.specs.declared.table.RawTable.{RawTable}
use Rattle.dbl_model_table.specs.declared.table.TableName.{TableName}
use Rattle.dbl_source.specs.ModelHistory.History.{entry_of}
use Rattle.dbl_source.specs.SourceModel.declared.started.Started.{Started}
use Rattle.dbl_source.specs.SourceModel.declared.started.Started.TheVariants.{Ready, Gone}
use Rattle.dbl_source.specs.SourceModel.Answered.{IsDescribed, IsHeaded}
use Rattle.dbl_source.specs.SourceModel.Calls.{Moved, IsMarked, IsHead, Starts, IsConfirmed, IsConfirmedAt, IsConfirmedUpTo, TellsLog}
use Rattle.dbl_source.specs.SourceModel.Standings.{SourceState, HasState}
use Rattle.dbl_source.specs.SourceModel.Leaves.{Leaves, MayFollowMark, MayFollowConfirm}
use Rattle.dbl_source.specs.SourceModel.Trace.{is_ready}
use Rattle.dbl_source.proofs.SourceModelGrowthLemmas.{grown_length}
use Rattle.dbl_source.specs.SourceLog.declared.logged.LogTable.{LogTable}
use Rattle.dbl_source.specs.SourceLog.declared.logged.Logged.{Logged}
use Rattle.dbl_source.specs.SourceLog.declared.reader_position.ReaderPosition.{ReaderPosition}
use Rattle.dbl_source.specs.SourceLog.Histories.{history_of}
use Rattle.dbl_source.specs.SourceLog.Numbers.{lsn_of}
use Rattle.dbl_source.proofs.SourceLogLogLemmas.{length-history}
use Rattle.dbl_source.proofs.LogStates.{begun_after, is_entry, is_head}
use Rattle.dbl_demo_workload.specs.DemoWal.declared.entry.Entry.TheVariants.{Confirms}
use Rattle.dbl_demo_workload.specs.DemoWal.Groups.{released}
use Rattle.dbl_demo_workload.specs.DemoWal.Sound.{logged_in}
use Rattle.dbl_demo_workload.specs.DemoWal.Wals.{Wal}
use Rattle.dbl_demo_workload.specs.DemoWal.Standings.{MayLeaveWal, confirmed_of, history_in, standing_in, tables_of}
use Rattle.dbl_demo_workload.specs.DemoWal.CrashState.{added_by, with_entries}
use Rattle.dbl_demo_wal.proofs.KeptTables.{tables_whole}
use Rattle.dbl_demo_workload.proofs.DemoWalGroupLemmas.{released_are}
use Rattle.dbl_demo_workload.proofs.DemoWalGrowsLemmas.{confirmed_stays, history_grows, standing_moves}
use Rattle.dbl_demo_laws.specs.Answers.{AnswersEntry, AnswersHead, AnswersStart, place_after}
use Rattle.dbl_demo_laws.specs.Calls.{LeavesFirst, Released, confirm_of, mark_entries, start_answer}
use Rattle.dbl_demo_laws.specs.Demo.{Demo, IsDemo, HasDemoState}
use Rattle.dbl_demo_laws.proofs.CallLemmas.{leads, leads_confirmed, leads_marked, leads_moved, left_confirmed, left_marked, left_moved, stood_for}
use Rattle.dbl_demo_laws.proofs.HoldLemmas.{count_places}
use Rattle.dbl_demo_laws.proofs.PromiseLemmas.{commits_added}

pub stood_as : {S : Type 0} (stands : S → SourceState → Type 0) (source : S) (P Q : SourceState → Type 0) → ((t : SourceState) → P t → Q t) → HasState stands source P → HasState stands source Q
stood_as stands source P Q by stood = record { standing = stood.standing; is = stood.is; holds = by stood.standing stood.holds }

module _ {D : Type 0} (model : DiskModel D) (old new : Demo D) (wal : Wal) (of_old : IsDemo model wal old) where
  -- ---- where the call writes nothing of its own

  module _ (upto : ℕ) (s : SourceState) (stands : HasDemoState model old s) (done : Released model wal upto [] old new) where
    abbrev next : Wal
    next = with_entries wal (added_by wal old.done upto [])

    moved_on : new.place ≡ old.place → HasState (HasDemoState model) new (Moved s)
    moved_on place = leads_moved model old new wal (added_by wal old.done upto []) (commits_added wal old.done upto) of_old place s stands done.is

    -- the wal's history has grown
    grows : length (history_in wal).commits ≤ length (logged_in next.entries)
    grows = omega (
      arith,
      grown_length (history_in wal) (history_in next) (history_grows wal (added_by wal old.done upto []) (commits_added wal old.done upto)),
      length-history (tables_of next) (logged_in next.entries),
    )

    moves : (place : Option ReaderPosition) → place ≡ old.place → Moved (standing_in wal old.place) (standing_in next place)
    moves place same =
        subst (λ (p : Option ReaderPosition). Moved (standing_in wal old.place) (standing_in next p)) (sym same)
        (standing_moves wal (added_by wal old.done upto []) old.place (commits_added wal old.done upto) of_old.running.reader.placed)

    pub lead_entry : (name : TableName) (entry : Option RawTable) → AnswersEntry name old new entry → HasState (HasDemoState model) new (IsDescribed name entry s)
    lead_entry name entry answer =
        let is : entry ≡ entry_of (history_of (tables_of next) []) name = answer.is ∙ ap (λ (tables : List LogTable). entry_of (history_of tables []) name) of_old.running.tables in
        leads model old new wal next s (IsDescribed name entry) of_old done.is stands (
          moves new.place answer.reader.place,
          is_entry (tables_of next) (logged_in next.entries) (confirmed_of next) (standing_in wal old.place) name entry (history_grows wal (added_by wal old.done upto []) (commits_added wal old.done upto))
              (is ∙ sym (ap (λ (tables : List LogTable). entry_of (history_of tables []) name) (tables_whole (tables_of next) next.entries))),
        )

    pub lead_head : (lsn : Lsn) → AnswersHead old new lsn → HasState (HasDemoState model) new (IsHeaded lsn s)
    lead_head lsn answer =
        let log : List Logged = logged_in next.entries in
        let count : length new.commits ≡ length log = ap length done.is.running.commits ∙ count_places 1 next.entries in
        let head : IsHead (lsn_of (length log)) (standing_in wal old.place) (standing_in next new.place) =
        is_head (tables_of next) log (confirmed_of next) (standing_in wal old.place) new.place (history_grows wal (added_by wal old.done upto []) (commits_added wal old.done upto)) grows in
        leads model old new wal next s (IsHeaded lsn) of_old done.is stands
        (moves new.place answer.reader.place, subst (λ (l : Lsn). IsHead l (standing_in wal old.place) (standing_in next new.place)) (sym (answer.is ∙ ap lsn_of count)) head)

    -- reading begins, or the log is gone
    begins : (after : Lsn) (started : Started) → new.place ≡ place_after after started → Starts after started (standing_in wal old.place) (standing_in next (place_after after started)) → HasState (HasDemoState model) new (Starts after started s)
    begins after started place holds =
        leads model old new wal next s (Starts after started) of_old done.is stands
        (subst (λ (p : Option ReaderPosition). Starts after started (standing_in wal old.place) (standing_in next p)) (sym place) holds)

    starts : (after : Lsn) (below : Bool) → nat_lt after.0 old.confirmed.0 ≡ below → Starts after (if below then Gone old.confirmed else Ready) (standing_in wal old.place) (standing_in next (place_after after (if below then Gone old.confirmed else Ready)))
    starts after true is =
        let confirmed : old.confirmed ≡ confirmed_of wal = of_old.running.confirmed in
        record {
          grows = history_grows wal (added_by wal old.done upto []) (commits_added wal old.done upto);
          confirmed = confirmed_stays wal (added_by wal old.done upto []) (commits_added wal old.done upto);
          reading = refl;
          later = (Decides-ltb after.0 old.confirmed.0).0 is;
          dropped = omega (arith, ap (λ (l : Lsn). l.0) confirmed);
        }
    starts after false is = record {
      grows = history_grows wal (added_by wal old.done upto []) (commits_added wal old.done upto);
      confirmed = confirmed_stays wal (added_by wal old.done upto []) (commits_added wal old.done upto);
      reading = (begun_after (tables_of next) (logged_in next.entries) (confirmed_of next) after old.place).reading;
    }

    pub lead_start : (after : Lsn) (started : Started) → AnswersStart after old new started → HasState (HasDemoState model) new (Starts after started s)
    lead_start after started answer =
        begins after started answer.place
        (subst (λ (x : Started). Starts after x (standing_in wal old.place) (standing_in next (place_after after x))) (sym answer.is) (starts after (nat_lt after.0 old.confirmed.0) refl))

    pub lead_moved : (P : SourceState → Type 0) → new.place ≡ old.place → ((t : SourceState) → Moved s t → P t) → HasState (HasDemoState model) new (λ t. Moved s t × P t)
    lead_moved P place holds = stood_as (HasDemoState model) new (Moved s) (λ t. Moved s t × P t) (λ t moved. (moved, holds t moved)) (moved_on place)

  -- ---- the answer of a start is exact

  told_exact : (s : SourceState) → s.confirmed ≡ old.confirmed → (after : Lsn) (below : Bool) → nat_lt after.0 old.confirmed.0 ≡ below
      → TellsLog IsConfirmedUpTo IsConfirmedAt s after (if below then Gone old.confirmed else Ready)
  told_exact s same after true is =
      let low : after.0 < old.confirmed.0 = (Decides-ltb after.0 old.confirmed.0).0 is in
      (λ high. omega (arith, low, high, ap (λ (l : Lsn). l.0) same), sym same)
  told_exact s same after false is =
      let high : old.confirmed.0 ≤ after.0 = ltb-false after.0 old.confirmed.0 is in
      omega (arith, high, ap (λ (l : Lsn). l.0) same)

  pub start_is_exact : (after : Lsn) (started : Started) → started ≡ start_answer after old.confirmed → (s : SourceState) → HasDemoState model old s → TellsLog IsConfirmedUpTo IsConfirmedAt s after started
  start_is_exact after started is s stands =
      let same : s.confirmed ≡ old.confirmed = ap (λ (t : SourceState). t.confirmed) stands.2 ∙ sym stands.1.running.confirmed in
      subst (TellsLog IsConfirmedUpTo IsConfirmedAt s after) (sym is) (told_exact s same after (nat_lt after.0 old.confirmed.0) refl)

  -- ---- a watermark

  pub lead_mark : (upto : ℕ) (value : List ℕ) (s : SourceState) → HasDemoState model old s → Released model wal upto (mark_entries value upto) old new → new.place ≡ old.place → HasState (HasDemoState model) new (IsMarked value s)
  lead_mark upto value s stands done place = leads_marked model old new wal (released wal.workload old.done upto) (released_are wal.workload old.done upto) of_old place s stands upto value done.is

  -- ---- a confirmed position

  lead_confirm_at : (upto : ℕ) (lsn : Lsn) (s : SourceState) → HasDemoState model old s → (rises : Bool) → nat_lt old.confirmed.0 lsn.0 ≡ rises → Released model wal upto (if rises then Confirms lsn ∷ [] else []) old new → new.place ≡ old.place
      → HasState (HasDemoState model) new (IsConfirmed lsn s)
  lead_confirm_at upto lsn s stands true is done place =
      let above : old.confirmed.0 < lsn.0 = (Decides-ltb old.confirmed.0 lsn.0).0 is in
      let le : (confirmed_of wal).0 ≤ lsn.0 = omega (arith, above, ap (λ (l : Lsn). l.0) of_old.running.confirmed) in
      leads_confirmed model old new wal (released wal.workload old.done upto) (released_are wal.workload old.done upto) of_old place s stands lsn le done.is
  lead_confirm_at upto lsn s stands false is done place =
      let low : lsn.0 ≤ old.confirmed.0 = ltb-false old.confirmed.0 lsn.0 is in
      let was : s ≡ standing_in wal old.place = stood_for model old wal s of_old stands in
      let confirmed : s.confirmed.0 ≡ old.confirmed.0 = ap (λ (t : SourceState). t.confirmed.0) was ∙ ap (λ (l : Lsn). l.0) (sym of_old.running.confirmed) in
      stood_as (HasDemoState model) new (Moved s) (IsConfirmed lsn s)
      (λ t moved. record { grows = moved.grows; confirmed = omega (arith, ap (λ (l : Lsn). l.0) moved.confirmed, low, confirmed); reading = moved.reading })
      (moved_on upto s stands done place)

  pub lead_confirm : (upto : ℕ) (lsn : Lsn) (s : SourceState) → HasDemoState model old s → Released model wal upto (confirm_of old.confirmed lsn) old new → new.place ≡ old.place → HasState (HasDemoState model) new (IsConfirmed lsn s)
  lead_confirm upto lsn s stands done place = lead_confirm_at upto lsn s stands (nat_lt old.confirmed.0 lsn.0) refl done place

-- ---- what a crash leaves after a watermark and after a confirmed position

module _ {D : Type 0} (model : DiskModel D) (old new : Demo D) where
  pub left_mark : (upto : ℕ) (value : List ℕ) → LeavesFirst model upto (mark_entries value upto) old new → Leaves (HasDemoState model) (λ source l. MayLeaveWal model source.journal.disk l) old new (MayFollowMark value)
  left_mark upto value first s l stands may =
      let wal = stands.0 in
      left_marked model old new wal (released wal.workload old.done upto) (released_are wal.workload old.done upto) stands.1 s stands l may upto value (first wal stands.1)

  left_confirm_at : (upto : ℕ) (lsn : Lsn) (rises : Bool) → nat_lt old.confirmed.0 lsn.0 ≡ rises → LeavesFirst model upto (if rises then Confirms lsn ∷ [] else []) old new
      → Leaves (HasDemoState model) (λ source l. MayLeaveWal model source.journal.disk l) old new (MayFollowConfirm lsn)
  left_confirm_at upto lsn true is first s l stands may =
      let wal = stands.0 in
      let above : old.confirmed.0 < lsn.0 = (Decides-ltb old.confirmed.0 lsn.0).0 is in
      let le : (confirmed_of wal).0 ≤ lsn.0 = omega (arith, above, ap (λ (l : Lsn). l.0) stands.1.running.confirmed) in
      left_confirmed model old new wal (released wal.workload old.done upto) (released_are wal.workload old.done upto) stands.1 s stands l may lsn le (first wal stands.1)
  left_confirm_at upto lsn false is first s l stands may =
      let wal = stands.0 in
      let follow = left_moved model old new wal (added_by wal old.done upto []) (commits_added wal old.done upto) stands.1 s stands l may (first wal stands.1) in
      record { grows = follow.grows; confirmed = inl follow.confirmed }

  pub left_confirm : (upto : ℕ) (lsn : Lsn) → LeavesFirst model upto (confirm_of old.confirmed lsn) old new → Leaves (HasDemoState model) (λ source l. MayLeaveWal model source.journal.disk l) old new (MayFollowConfirm lsn)
  left_confirm upto lsn first = left_confirm_at upto lsn (nat_lt old.confirmed.0 lsn.0) refl first

-- ---- whether reading begins

pub started_reads : (after : Lsn) (started : Started) → is_some (place_after after started) ≡ is_ready started
started_reads after Ready = refl
started_reads after (Gone first) = refl
