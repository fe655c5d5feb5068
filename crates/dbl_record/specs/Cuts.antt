-- The batches, or groups, in which a list of records is delivered to a sink.
use Rattle.std.specs.Prelude.{◌≡◌, ◌≢◌, ◌⊎◌, ℕ, ◌≤◌, ◌+◌, ◌==◌, ◌||◌, Bool, not, false}
use Rattle.std.specs.Prelude.{if◌then◌else◌, List, [], ◌∷◌, ◌++◌, length, take, nat_lt}
use Rattle.std.specs.List.{AllByRecursion, flat_map}
use Rattle.dbl_record.specs.declared.record.Record.{Record}
use Rattle.dbl_record.specs.Groups.{group_form}

-- a batch that a sink accepts: 1 to 1,000 records encoded in at most 16,777,216 bytes, or a single record of any length
pub record IsHandful (group : List Record) : Type 0 where
  pub some : 1 ≤ length group
  pub few : length group ≤ 1000
  pub small : (length (group_form group) ≤ 16777216) ⊎ (length group ≡ 1)

-- the last of the records has a position other than that of this one
abbrev pub stands_elsewhere : List Record → Record → Bool
stands_elsewhere [] item = false
stands_elsewhere (previous ∷ []) item = not (previous.position == item.position)
stands_elsewhere (first ∷ (second ∷ more)) item = stands_elsewhere (second ∷ more) item

-- A new batch begins at a record if its position differs from the previous record's, or if the batch with it would exceed 1,000 records or
-- 16,777,216 encoded bytes.
unfoldable pub begins_batch : List Record → Record → Bool
begins_batch group item = stands_elsewhere group item || nat_lt 1000 (length group + 1)
    || nat_lt 16777216 (length (group_form (group ++ item ∷ [])))

-- the batches of an unfinished batch and the records after it
abbrev pub batches_after : List Record → List Record → List (List Record)
batches_after group [] = group ∷ []
batches_after group (item ∷ items) = if begins_batch group item then group ∷ batches_after (item ∷ []) items
    else batches_after (group ++ item ∷ []) items

-- the batches of the records
abbrev pub cut : List Record → List (List Record)
cut [] = []
cut (item ∷ items) = batches_after (item ∷ []) items

-- the concatenation of batches
abbrev pub joined : List (List Record) → List Record
joined groups = flat_map (λ group. group) groups

-- the batches of records, joined, are the records
abbrev pub CutsJoin : Type 0
CutsJoin = (records : List Record) → joined (cut records) ≡ records

-- a sink accepts each batch of the records
abbrev pub CutsAreHandfuls : Type 0
CutsAreHandfuls = (records : List Record) → AllByRecursion IsHandful (cut records)

-- the first records share no position with the others
abbrev pub ArePartedAt : List Record → List Record → Type 0
ArePartedAt first others =
    AllByRecursion (λ a. AllByRecursion (λ b. a.position ≢ b.position) others) first

-- records that share no position with others are batched separately: the batches of both are those of the first, then the others'
abbrev pub CutsPart : Type 0
CutsPart = (first others : List Record) → ArePartedAt first others → cut (first ++ others) ≡ cut first ++ cut others

-- if a batch is torn, so that only some first records of it are left, the batches of what is left are those before it and these records
abbrev pub CutsTear : Type 0
CutsTear = (records : List Record) (groups later : List (List Record)) (group : List Record) (n : ℕ) →
    cut records ≡ groups ++ group ∷ later → 1 ≤ n → n ≤ length group →
    cut (joined groups ++ take n group) ≡ groups ++ take n group ∷ []
