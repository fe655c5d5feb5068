-- What is stored of streamed transactions.
use Rattle.std.specs.Prelude.{◌++◌, ℕ, suc, Bool, if◌then◌else◌, List, [], ◌∷◌, nat_lt}
use Rattle.std.specs.Prelude.{Option, Some, None, unwrap_or}
use Rattle.std.specs.Ordering.{nat_cmp}
use Rattle.std.specs.BTreeMap.{get}
use Rattle.dbl_stream2_pending.specs.declared.pending.Pending.{Pending}

-- a message of a block, with its xid
abbrev pub Item : Type 0 → Type 0
Item M = ℕ × M

-- the message of the item, unless it is lost
abbrev pub item_left : {M : Type 0} → Bool → Item M → List M
item_left is_lost item = if is_lost then [] else item.1 ∷ []

-- the messages that aren't lost by this test of their xid and their index, counted from this index
abbrev pub remaining : {M : Type 0} → (ℕ → ℕ → Bool) → ℕ → List (Item M) → List M
remaining is_lost i [] = []
remaining is_lost i (item ∷ items) = item_left (is_lost item.0 i) item ++ remaining is_lost (suc i) items

-- the messages that are stored of a transaction, if it is pending
abbrev pub buffer_in : {M : Type 0} → Option (Pending M) → Option (List (Item M))
buffer_in None = None
buffer_in (Some p) = Some p.buffer.items

-- how many messages were stored at the last abort of the subtransaction y
abbrev pub aborts_in : {M : Type 0} → ℕ → Option (Pending M) → ℕ
aborts_in y None = 0
aborts_in y (Some p) = unwrap_or (get nat_cmp p.aborts y) 0

-- the messages that are stored, or none
abbrev pub buffer_or_empty : {M : Type 0} → Option (List (Item M)) → List (Item M)
buffer_or_empty None = []
buffer_or_empty (Some items) = items

-- the messages of the transaction that aren't lost: those after the last abort of their subtransaction
abbrev pub remaining_in : {M : Type 0} → Pending M → List M
remaining_in p = remaining (λ y i. nat_lt i (aborts_in y (Some p))) 0 (buffer_or_empty (buffer_in (Some p)))
