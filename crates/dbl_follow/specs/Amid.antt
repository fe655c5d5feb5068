-- A follower within a transaction: what it answered so far, and what it holds.
use Rattle.std.specs.Prelude.{◌≡◌, ℕ, ℤ, ◌+◌, Option, Some, None, List, [], ◌∷◌, ◌++◌, length}
use Rattle.dbl_record.specs.declared.record.Record.{Record}
use Rattle.dbl_model_table.specs.declared.table.TableInfo.{TableInfo}
use Rattle.dbl_model_table.specs.declared.change.Change.{Change}
use Rattle.dbl_model_table.specs.declared.change.Commit.{Commit}
use Rattle.dbl_model_table.specs.declared.change.Ended.{Ended}
use Rattle.dbl_model_table.specs.declared.change.Head.{Head}
use Rattle.dbl_model_table.specs.Heads.{commit_by, commit_so_far}
use Rattle.dbl_model_event.specs.Clashes.{clash_of}
use Rattle.dbl_model_event.specs.EventJson.{envelopes}
use Rattle.dbl_model_event.specs.OpenEvents.{unmarked}
use Rattle.dbl_model_event.specs.SnapshotLists.{IsSnapshot}
use Rattle.dbl_envelope.specs.Writers.{Captured}
use Rattle.dbl_envelope.specs.SoFar.{HasMadeRecords, records_after}
use Rattle.dbl_window.specs.Plans.{Chunk}
use Rattle.dbl_follow.specs.declared.error.FollowError.{FollowError}
use Rattle.dbl_follow.specs.declared.part.Part.{Part}
use Rattle.dbl_follow.specs.declared.window.Window.{Window}
use Rattle.dbl_follow.specs.declared.window.Window.TheVariants.{Armed}
use Rattle.dbl_follow.specs.Faults.{IsClashOf}
use Rattle.dbl_follow.specs.Followed.{OpenPart, Following}
use Rattle.dbl_follow.specs.Steps.{mark_of, closing, closed_of, records_by, clash_by, Passes, Steps}

-- Whether the new window is the old one after the changes of a transaction so far.
abbrev pub PassesSoFar : List TableInfo → Window → List Change → Window → Type 0
PassesSoFar infos old [] new = new ≡ old
PassesSoFar infos old (c ∷ changes) new = Passes infos old (c ∷ changes) new

-- Whether all records of a transaction so far but the last one are these, and the last one is held, marked as the last of its commit.
-- Before its first change there is none.
abbrev pub AreReleased : Following → Head → List Change → ℤ → List Record → Option OpenPart → Type 0
AreReleased start head [] now released part = (part ≡ None) × (released ≡ [])
AreReleased start head (c ∷ changes) now released part =
    (held : Record) × (part ≡ Some (record { head = head; now = now; made = length released + 1; held = held }))
    × (released ++ held ∷ [] ≡ envelopes start.identity start.infos (commit_so_far head (c ∷ changes)) now)

-- Whether a follower that was `start`, between transactions, has followed these changes of the transaction with this Begin, and returned
-- these records, made at `now`. For no changes and no records, each follower between transactions has.
pub record IsAmid (start : Following) (head : Head) (changes : List Change) (now : ℤ) (released : List Record)
    (f : Following) : Type 0 where
  pub between : start.part ≡ None
  pub same : f ≡ record start { window = f.window; part = f.part }
  pub passes : PassesSoFar start.infos start.window changes f.window
  pub no_clash : clash_of start.identity start.infos (commit_so_far head changes) ≡ None
  pub released_are : AreReleased start head changes now released f.part

-- Whether these records are those of a commit that the follower followed from `start` on: the commit's, or the snapshot of the window that
-- it closes.
pub record EndsWithCommit (start : Following) (commit : Commit) (now : ℤ) (records : List Record) (new : Following) : Type 0 where
  pub records_are : records ≡ records_by start commit now
  pub steps : Steps start commit new
  pub no_clash : clash_by start commit ≡ None
  pub snapshot : (chunk : Chunk) → closing start.window (mark_of commit) ≡ Some chunk
      → IsSnapshot start.identity start.infos (closed_of chunk) commit now records

-- The effect of one more change of the transaction with this Begin on a follower: it releases these records. The records of a transaction
-- are made at the time of its first change.
abbrev pub FollowsChange : Following → Head → Change → ℤ → List Record → Following → Type 0
FollowsChange old head change now_ms more new = (start : Following) (changes : List Change) (now : ℤ) (released : List Record)
    → IsAmid start head changes now released old → (changes ≡ [] → now ≡ now_ms)
    → IsAmid start head (changes ++ change ∷ []) now (released ++ more) new

-- The error names the first value equal to the placeholder of the transaction's changes up to this one, unless memory ran out.
abbrev pub RefusesChange : Following → Head → Change → FollowError → Type 0
RefusesChange old head change e = (start : Following) (changes : List Change) (now : ℤ) (released : List Record)
    → IsAmid start head changes now released old
    → IsClashOf (clash_of start.identity start.infos (commit_so_far head (changes ++ change ∷ []))) e

-- The effect of a transaction's end on a follower: with these records, all of its commit are released.
abbrev pub EndsTransaction : Following → Ended → ℤ → List Record → Following → Type 0
EndsTransaction old ended now_ms more new = (start : Following) (changes : List Change) (now : ℤ) (released : List Record)
    → IsAmid start ended.head changes now released old → (changes ≡ [] → now ≡ now_ms)
    → EndsWithCommit start (commit_by ended changes) now (released ++ more) new

-- The error names the first value equal to the placeholder of the commit's records, unless memory ran out.
abbrev pub RefusesEnd : Following → Ended → FollowError → Type 0
RefusesEnd old ended e = (start : Following) (changes : List Change) (now : ℤ) (released : List Record)
    → IsAmid start ended.head changes now released old → IsClashOf (clash_by start (commit_by ended changes)) e

-- For private clauses: the effect of one more change on the open transaction, and the records that it releases.
abbrev pub ExtendsPart : Captured → Head → ℤ → Change → Option OpenPart → List Record → Option OpenPart → Type 0
ExtendsPart captured head now change None released new =
    (held : Record)
    × (new ≡ Some (record { head = head; now = now; made = length (records_after captured head now 0 change); held = held }))
    × (released ++ held ∷ [] ≡ records_after captured head now 0 change)
ExtendsPart captured head now change (Some part) released new =
    (held : Record)
    × (new
    ≡ Some (record part { made = part.made + length (records_after captured part.head part.now part.made change); held = held }))
    × (released ++ held ∷ [] ≡ unmarked part.held ∷ records_after captured part.head part.now part.made change)

-- For private clauses: the records of one more change were appended to the old ones, but that the last of them is held.
pub record HoldsLast (captured : Captured) (head : Head) (now : ℤ) (made : ℕ) (change : Change) (old new : List Record)
    (part : Part) : Type 0 where
  pub head_is : part.head ≡ head
  pub now_is : part.now_ms ≡ now
  pub appended : new ++ part.held ∷ [] ≡ old ++ records_after captured head now made change
  pub makes : HasMadeRecords captured head now (made + length (records_after captured head now made change)) part.records

-- For private clauses: the record that is held, if one is.
abbrev pub held_records : Option OpenPart → List Record
held_records None = []
held_records (Some part) = part.held ∷ []

-- To arm a window within a transaction is to arm it before the transaction.
abbrev pub ArmedWithinTransactions : Type 0
ArmedWithinTransactions = (start f : Following) (head : Head) (changes : List Change) (now : ℤ) (released : List Record) (chunk : Chunk)
    → IsAmid start head changes now released f
    → IsAmid (record start { window = Armed chunk }) head changes now released (record f { window = Armed chunk })
