-- The records of a transaction that is still open. A transaction so far is a commit that ends at its last change (`commit_so_far`).
use Rattle.std.specs.Prelude.{◌≡◌, ◌≢◌, ℤ, false, Some, None, List, [], ◌∷◌, ◌++◌, flat_map}
use Rattle.dbl_record.specs.declared.record.Record.{Record}
use Rattle.dbl_model_table.specs.declared.identity.Identity.{Identity}
use Rattle.dbl_model_table.specs.declared.table.TableInfo.{TableInfo}
use Rattle.dbl_model_table.specs.declared.change.Change.{Change}
use Rattle.dbl_model_table.specs.declared.change.Head.{Head}
use Rattle.dbl_model_table.specs.declared.change.Ended.{Ended}
use Rattle.dbl_model_table.specs.Heads.{commit_by, commit_so_far}
use Rattle.dbl_model_event.specs.Events.{notices}
use Rattle.dbl_model_event.specs.EventJson.{envelopes}
use Rattle.dbl_model_event.specs.Clashes.{Clash, clash_of}

-- The record, not marked as the last of its commit.
abbrev pub unmarked : Record → Record
unmarked item = record item { last = false }

-- The records of a transaction so far are the first ones of what it becomes by further changes that have records, but that the last of them
-- is no longer marked as the last.
abbrev pub RecordsGoOn : Type 0
RecordsGoOn = (identity : Identity) (infos : List TableInfo) (head : Head) (changes more : List Change) (now : ℤ) (released : List Record)
    (held : Record)
    → envelopes identity infos (commit_so_far head changes) now ≡ released ++ held ∷ [] → flat_map (notices infos) more ≢ []
    → (rest : List Record)
    × (envelopes identity infos (commit_so_far head (changes ++ more)) now ≡ (released ++ unmarked held ∷ []) ++ rest)

-- The records of a commit of changes are those of its transaction, so far as it came.
abbrev pub RecordsShowNoEnd : Type 0
RecordsShowNoEnd = (identity : Identity) (infos : List TableInfo) (ended : Ended) (changes : List Change) (now : ℤ) → ended.mark ≡ None
    → envelopes identity infos (commit_by ended changes) now ≡ envelopes identity infos (commit_so_far ended.head changes) now

-- A value equal to the placeholder that is the first one of a transaction so far stays the first one.
abbrev pub FirstClashesStay : Type 0
FirstClashesStay = (identity : Identity) (infos : List TableInfo) (head : Head) (changes more : List Change) (clash : Clash)
    → clash_of identity infos (commit_so_far head changes) ≡ Some clash
    → clash_of identity infos (commit_so_far head (changes ++ more)) ≡ Some clash
