-- The records of a topic log that a compaction keeps: those that still count for a consumer that begins with no rows. Deletes, tombstones
-- and truncates aren't among them.
use Rattle.std.specs.Prelude.{ℕ, ◌&&◌, List, [], ◌∷◌, Bool, true, false, not, if◌then◌else◌, Result, Ok, Err}
use Rattle.std.specs.List.{list_any}
use Rattle.std.specs.Str.{bytes_eq}
use Rattle.dbl_record.specs.declared.record.Record.{Record}
use Rattle.dbl_record.specs.declared.acts.ConsumeError.{ConsumeError}
use Rattle.dbl_record.specs.Reading.{as_line}
use Rattle.dbl_consume.specs.declared.kinds.Kind.{Kind}
use Rattle.dbl_consume.specs.declared.kinds.Kind.TheVariants.{Nothing, Wipe, Remove, Set}
use Rattle.dbl_consume.specs.Kinds.{kind}

-- the kind of a record's effect, or why a consumer refuses the record
abbrev pub kind_at : List ℕ → Record → Result Kind ConsumeError
kind_at placeholder item = kind placeholder (as_line item)

-- whether an effect ends a key's row: it sets the row whole, or removes it, so that the row is the same whatever it was before
abbrev pub ends_key : Result Kind ConsumeError → List ℕ → Bool
ends_key (Ok Nothing) key = false
ends_key (Ok Wipe) key = true
ends_key (Ok (Remove text)) key = bytes_eq text key
ends_key (Ok (Set text whole)) key = whole && bytes_eq text key
ends_key (Err error) key = false

-- whether a record ends the row of a topic and a key text
abbrev pub ends : List ℕ → List ℕ → List ℕ → Record → Bool
ends placeholder topic key item = bytes_eq item.topic topic && ends_key (kind_at placeholder item) key

-- whether one of the records ends it
abbrev pub are_ending : List ℕ → List Record → List ℕ → List ℕ → Bool
are_ending placeholder records topic key = list_any (ends placeholder topic key) records

-- whether an effect sets the row of a key, and that isn't one of the ended ones
abbrev pub sets_unended : Result Kind ConsumeError → (List ℕ → Bool) → Bool
sets_unended (Ok Nothing) is_ended = false
sets_unended (Ok Wipe) is_ended = false
sets_unended (Ok (Remove text)) is_ended = false
sets_unended (Ok (Set text whole)) is_ended = not (is_ended text)
sets_unended (Err error) is_ended = false

-- whether a record that is followed by these later ones is kept: it sets a row that none of them ends
abbrev pub is_kept : List ℕ → Record → List Record → Bool
is_kept placeholder item later = sets_unended (kind_at placeholder item) (are_ending placeholder later item.topic)

-- The records that are kept, in order: each that sets the row of a topic and key, and after which no record sets that row whole, removes
-- it or empties the topic.
abbrev pub kept : List ℕ → List Record → List Record
kept placeholder [] = []
kept placeholder (item ∷ later) = if is_kept placeholder item later then item ∷ kept placeholder later else kept placeholder later
