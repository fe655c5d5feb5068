-- A run of `gen --run`, among the commands, and one that ended before it began.
use Rattle.std.proofs.Common.{◌≡◌, ◌⊎◌, inl, inr, ◌∙◌, ℕ, ◌^◌, ◌≤◌, Bool, true, false, Option, Some, List, [], length, refl, sym, ap, subst, arith}
use Rattle.std.specs.Prelude.{max}
use Rattle.dbl_cli_commands.specs.declared.commands.Command.{Command}
use Rattle.dbl_cli_commands.specs.declared.commands.Command.TheVariants as command
use Rattle.dbl_gen.specs.Workload.{workload}
use Rattle.dbl_disk.specs.Model.{DiskModel}
use Rattle.dblog_init.specs.declared.error.Store.TheVariants as store
use Rattle.dblog_init.specs.Answers as inits
use Rattle.dblog_init.specs.declared.disks.Disks.{Disks}
use Rattle.dblog_init.specs.Disks.{AreAtMostMeasured, HoldSomeBytes}
use Rattle.dblog_capture.specs.Generated.{HasMade, IsMadeShort, IsStoreShort}
use Rattle.dblog_capture.proofs.Fresh.{nothing_is_no_store}
use Rattle.dblog_run_stores.specs.Inits.{AreUntouched}
use Rattle.dblog_run.specs.Means.{makes}
use Rattle.dblog_run_stores.proofs.InitEndLemmas.{untouched}
use Rattle.dblog_run.proofs.StatusLemmas.{switched}

-- the command is `gen --run`
abbrev pub generates : Command → Bool
generates (command.Gen number rows groups run) = run
generates c = false

pub ungenerated : (c : Command) (number rows groups : ℕ) → generates c ≡ false → c ≡ command.Gen number rows groups true → ⊥
ungenerated c number rows groups none is = switched (sym (ap generates is) ∙ none)

pub generating : {c : Command} {number rows groups : ℕ} {run : Bool} → c ≡ command.Gen number rows groups run → run ≡ true → c ≡ command.Gen number rows groups true
generating {c} {number} {rows} {groups} {run} is runs = is ∙ ap (λ (b : Bool). command.Gen number rows groups b) runs

-- one command is of one workload
pub one_generated : {a b : ℕ} {c d : ℕ} {e f : ℕ} → command.Gen a c e true ≡ command.Gen b d f true → workload a c e ≡ workload b d f
one_generated {a} {b} {c} {d} {e} {f} is =
    let number : a ≡ b = cc in
    let rows : c ≡ d = cc in
    let groups : e ≡ f = cc in
    ap (λ (n : ℕ). workload n c e) number ∙ ap (λ (n : ℕ). workload b n e) rows ∙ ap (λ (n : ℕ). workload b d n) groups

-- it makes the stores: `init`, or `gen --run`
pub makes_by : (c : Command) → makes c ≡ true → (c ≡ command.Init) ⊎ ((number rows groups : ℕ) × (c ≡ command.Gen number rows groups true))
makes_by command.Init is = inl refl
makes_by (command.Gen number rows groups true) is = inr (number, rows, groups, refl)
makes_by (command.Gen number rows groups false) is = absurd (switched (sym is))
makes_by command.Topics is = absurd (switched (sym is))
makes_by command.Offsets is = absurd (switched (sym is))
makes_by command.Compact is = absurd (switched (sym is))
makes_by (command.Capture options) is = absurd (switched (sym is))
makes_by (command.Resume options) is = absurd (switched (sym is))
makes_by (command.Apply lines placeholder) is = absurd (switched (sym is))
makes_by (command.Replay options) is = absurd (switched (sym is))

-- what holds of both holds of a command that makes the stores
pub made_by : (P : Type 0) (c : Command) → (c ≡ command.Init → P) → ((number rows groups : ℕ) → c ≡ command.Gen number rows groups true → P) → makes c ≡ true → P
made_by P c init generated is = elim (makes_by c is) [ inl same ↦ init same | inr gen ↦ generated gen.0 gen.1 gen.2 gen.3 ]

-- disks of which one holds a byte aren't written by it
module _ {W T F : Type 0} (wal_model : DiskModel W) (topics_model : DiskModel T) (offsets_model : DiskModel F) (old new : Disks W T F) where
  abbrev Full : Type 0
  Full = HoldSomeBytes wal_model topics_model offsets_model old

  abbrev Untouched : Type 0
  Untouched = AreUntouched wal_model topics_model offsets_model old new

  abbrev Asked : Type 0
  Asked = (end : inits.InitEnd) × (Full → AreAtMostMeasured wal_model topics_model offsets_model end old new)

  untouched_by : Asked → Full → Untouched
  untouched_by asked full =
      let each = asked.1 full in
      (untouched wal_model store.Wal asked.0 old.wal new.wal each.0, (untouched topics_model store.Topics asked.0 old.topics new.topics each.1.0, untouched offsets_model store.Offsets asked.0 old.offsets new.offsets each.1.1))

  pub full_by : (c : Command) → (c ≡ command.Init → Full → Untouched) → ((number rows groups : ℕ) → c ≡ command.Gen number rows groups true → Asked) → makes c ≡ true → Full → Untouched
  full_by c init generated = made_by (Full → Untouched) c init (λ number rows groups same. untouched_by (generated number rows groups same))

pub same_store_short : (told : Option (List ℕ)) → IsStoreShort told told
same_store_short told before now was is =
    let same : Some now ≡ Some before = sym is ∙ was in
    let bytes : now ≡ before = cc in
    subst (λ (b : List ℕ). length b ≤ max (length before) (2 ^ 30)) (sym bytes) (omega arith)

pub same_short : (told : Option (List ℕ)) → IsMadeShort told told
same_short told before now was is = inl (same_store_short told before now was is)

-- a disk that wasn't touched is still empty, which is no store
pub unmade : {W T F : Type 0} (wal_model : DiskModel W) (topics_model : DiskModel T) (offsets_model : DiskModel F) (disks : Disks W T F) → ((bytes : List ℕ) → offsets_model.seen disks.offsets ≡ Some bytes → offsets_model.may_leave disks.offsets bytes) → HasMade wal_model topics_model offsets_model disks disks → ⊥
unmade wal_model topics_model offsets_model disks crashed made =
    let nothing = made.made [] (crashed [] made.offsets_empty.told) in
    nothing_is_no_store nothing.0 nothing.1
