-- A session joins those that hold something of a table, and a change is taken in its parts.
use Rattle.std.proofs.Common.{◌≡◌, ◌∙◌, ℕ, Bool, true, false, List, ◌++◌, ◌∷◌, [], cond, length, take, refl, sym, ap, subst}
use Rattle.std.specs.Prelude.{◌||◌, bytes_eq}
use Rattle.std.specs.List.{AllByRecursion, list_any}
use Rattle.std.specs.Ordering.{is_eq}
use Rattle.std.specs.BTreeMap.{is_at}
use Rattle.std.specs.BTreeSet.{BTreeSet, contains}
use Rattle.std.proofs.lemmas.Map.Text.{is_eq-slice_cmp}
use Rattle.dbl_base.specs.Texts.{text_cmp}
use Rattle.dbl_pgmsg.specs.declared.messages.Message.{Message}
use Rattle.dbl_tables_rows.specs.declared.held.HeldKey.{HeldKey}
use Rattle.dbl_tables_rows.specs.declared.rows.Rows.{Rows}
use Rattle.dbl_tables_rows.specs.Listed.{is_listed}
use Rattle.dbl_tables_rows.specs.Views.{Slots, committed_in, held_in}
use Rattle.dbl_tables_changes.specs.declared.planned.Planned.{Planned}
use Rattle.dbl_tables_changes.specs.declared.planned.Write.{Write}
use Rattle.dbl_tables_changes.specs.declared.sessions.Session.{Session}
use Rattle.dbl_tables_changes.specs.Taking.{HasMadeRoom, AreReady, IsSameTable, TakesChange, IsUntaken}
use Rattle.dbl_tables_changes.specs.Written.{lock_written, WritesAll}

-- a name is added to a set
pub holds_too : (s : List ℕ) (old new : BTreeSet (List ℕ)) → ((q : List ℕ) → contains text_cmp new q ≡ cond (is_eq (text_cmp s q)) true (contains text_cmp old q)) → (name : List ℕ) → contains text_cmp new name ≡ (bytes_eq s name || contains text_cmp old name)
holds_too s old new updates name = updates name ∙ (ap (λ (b : Bool). cond b true (contains text_cmp old name)) (is_eq-slice_cmp s name) ∙ by (bytes_eq s name))
  where
    by : (b : Bool) → cond b true (contains text_cmp old name) ≡ (b || contains text_cmp old name)
    by true = refl
    by false = refl

pub holds_same : (old new : BTreeSet (List ℕ)) → new.keys ≡ old.keys → (name : List ℕ) → contains text_cmp new name ≡ contains text_cmp old name
holds_same old new same name = ap (list_any (is_at (text_cmp name))) same

-- a message that was put last is taken back
front : (old : List Message) (m : Message) → take (length old) (old ++ m ∷ []) ≡ old
front [] m = refl
front (x ∷ old) m = ap (λ (l : List Message). x ∷ l) (front old m)

pub taken_back : (old pushed popped : List Message) (m : Message) (n : ℕ) → pushed ≡ old ++ m ∷ [] → popped ≡ take n pushed → n ≡ length old → popped ≡ old
taken_back old pushed popped m n push pop is = pop ∙ (ap (take n) push ∙ (ap (λ (k : ℕ). take k (old ++ m ∷ [])) is ∙ front old m))

-- ---- a change in its parts: room, then the message and the holder, then the locks

module _ (place : ℕ) (name : List ℕ) (planned : Planned) (old : Rows) (before : Session) (slots : Slots) (keys : List HeldKey) (ready : HasMadeRoom old.slots slots before.keys.items keys) where
  -- room was made, and nothing else
  pub untaken_room : (changed : Rows) (after : Session) → IsSameTable old changed → changed.slots ≡ slots → ((n : List ℕ) → contains text_cmp changed.holders n ≡ contains text_cmp old.holders n) → after.messages.items ≡ before.messages.items → after.size ≡ before.size
      → after.keys.items ≡ keys → IsUntaken old changed before after
  untaken_room changed after table slots_are holders messages size keys_are = record {
    table = table;
    slots = record { committed = λ q. ap (λ (l : Slots). committed_in l q) slots_are ∙ ready.slots.committed q; held = λ q. ap (λ (l : Slots). held_in l q) slots_are ∙ ready.slots.held q };
    holders = holders;
    messages = messages;
    size_is = size;
    keys = λ p key is. subst (λ (l : List HeldKey). is_listed p key l ≡ true) (sym keys_are) (ready.keys p key is);
  }

  pub taken_parts : (changed : Rows) (after : Session) → IsSameTable old changed → WritesAll planned.writes.items slots changed.slots → ((n : List ℕ) → contains text_cmp changed.holders n ≡ (bytes_eq name n || contains text_cmp old.holders n))
      → after.messages.items ≡ before.messages.items ++ planned.message ∷ [] → after.size ≡ planned.size → after.keys.items ≡ keys → AreReady place planned.writes.items slots keys → TakesChange place name planned old changed before after
  taken_parts changed after table writes holders messages size keys_are are_ready = record {
    table = table;
    slots = record {
      committed = λ q. writes.committed q ∙ ready.slots.committed q;
      locked = λ apart q. writes.locked apart q ∙ ap (lock_written planned.writes.items q) (ready.slots.held q);
    };
    holders = holders;
    messages = messages;
    size_is = size;
    keys = λ p key is. subst (λ (l : List HeldKey). is_listed p key l ≡ true) (sym keys_are) (ready.keys p key is);
    listed = subst (λ (l : List HeldKey). AllByRecursion (λ (w : Write). is_listed place w.key l ≡ true) planned.writes.items) (sym keys_are) are_ready.listed;
  }
