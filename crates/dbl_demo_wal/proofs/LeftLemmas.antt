-- What a crash leaves of a wal follows what the source represented.
use Rattle.std.proofs.Common.{◌≡◌, ◌∙◌, ℕ, ◌≤◌, max, Option, Some, List, take, refl, sym, ap, subst, arith, inl, inr}
use Rattle.dbl_base.specs.declared.lsn.Lsn.{Lsn}
use Rattle.dbl_disk.specs.Model.{DiskModel}
use Rattle.dbl_tables_laws.specs.SourceModel.Standings.{CrashState}
use Rattle.dbl_tables_laws.specs.SourceModel.Leaves.{MayFollow, MayFollowMark, MayFollowConfirm}
use Rattle.dbl_tables_laws.specs.SourceLog.declared.reader_position.ReaderPosition.{ReaderPosition}
use Rattle.dbl_demo_wal.specs.declared.entry.Entry.{Entry}
use Rattle.dbl_demo_wal.specs.declared.entry.Entry.TheVariants as entry
use Rattle.dbl_demo_wal.specs.Wals.{Wal}
use Rattle.dbl_demo_wal.specs.Standings.{MayLeaveWal, confirmed_of, left_in, standing_in}
use Rattle.dbl_demo_wal.specs.CrashState.{IsLeftOf, LeavesWal, with_entries}
use Rattle.dbl_demo_wal.proofs.ListLemmas.{take_push}
use Rattle.dbl_demo_wal.proofs.WalLaws.{one_wal}
use Rattle.dbl_demo_wal.proofs.GroupLemmas.{AreCommits, take_are}
use Rattle.dbl_demo_wal.proofs.GrowsLemmas.{left_follows, marked, history_marks, confirmed_marks, confirming, history_confirms, confirmed_confirms}

-- ---- what is left is one of the wals that a call leaves

module _ {D : Type 0} (model : DiskModel D) (disk : D) (P : Wal → Type 0) where
  pub left_as : (l : CrashState) → LeavesWal model disk P → MayLeaveWal model disk l → (wal : Wal) × P wal × (l ≡ left_in wal)
  left_as l leaves may =
      let here = leaves may.crashed may.may in
      (here.0, here.2, may.left ∙ ap left_in (one_wal may.crashed may.wal here.0 may.is here.1))

  pub some_left : ((disk : D) (bytes : List ℕ) → model.seen disk ≡ Some bytes → model.may_leave disk bytes) → (bytes : List ℕ) → model.seen disk ≡ Some bytes → LeavesWal model disk P → (l : CrashState) × MayLeaveWal model disk l
  some_left may_be_left bytes told leaves =
      let may = may_be_left disk bytes told in
      let here = leaves bytes may in
      (left_in here.0, record { crashed = bytes; may = may; wal = here.0; is = here.1; left = refl })

-- ---- commits, with a watermark or a confirmed position after them

module _ (wal : Wal) (more : List Entry) (are : AreCommits more) (place : Option ReaderPosition) (left : Wal) where
  -- the first ones of some commits
  pub follows_commits : (count : ℕ) → left ≡ with_entries wal (take count more) → MayFollow (standing_in wal place) (left_in left)
  follows_commits count is = subst (λ (x : Wal). MayFollow (standing_in wal place) (left_in x)) (sym is) (left_follows wal (take count more) (take_are count more are) place)

  pub follows_released : IsLeftOf wal more left → MayFollow (standing_in wal place) (left_in left)
  follows_released h = follows_commits h.count h.is

  pub follows_mark : (steps : ℕ) (value : List ℕ) → IsLeftOf wal (marked more steps value) left → MayFollowMark value (standing_in wal place) (left_in left)
  follows_mark steps value h =
      elim (take_push h.count more (entry.Marks steps value)) [
        | inl some ↦ (
            let follow = follows_commits h.count (h.is ∙ ap (with_entries wal) some) in
            record { history = inl follow.grows; confirmed = follow.confirmed })
        | inr all ↦ (
            let is : left ≡ with_entries wal (marked more steps value) = h.is ∙ ap (with_entries wal) all in
            subst (λ (x : Wal). MayFollowMark value (standing_in wal place) (left_in x)) (sym is)
            (record { history = inr (history_marks wal more are steps value); confirmed = confirmed_marks wal more are steps value }))
      ]

  pub follows_confirm : (upto : Lsn) → (confirmed_of wal).0 ≤ upto.0 → IsLeftOf wal (confirming more upto) left → MayFollowConfirm upto (standing_in wal place) (left_in left)
  follows_confirm upto le h =
      elim (take_push h.count more (entry.Confirms upto)) [
        | inl some ↦ (
            let follow = follows_commits h.count (h.is ∙ ap (with_entries wal) some) in
            record { grows = follow.grows; confirmed = inl follow.confirmed })
        | inr all ↦ (
            let is : left ≡ with_entries wal (confirming more upto) = h.is ∙ ap (with_entries wal) all in
            let highest : (confirmed_of (with_entries wal (confirming more upto))).0 ≡ max (confirmed_of wal).0 upto.0 = ap (λ (l : Lsn). l.0) (confirmed_confirms wal more are upto) ∙ omega (arith, le) in
            subst (λ (x : Wal). MayFollowConfirm upto (standing_in wal place) (left_in x)) (sym is) (record { grows = history_confirms wal more are upto; confirmed = inr highest }))
      ]
