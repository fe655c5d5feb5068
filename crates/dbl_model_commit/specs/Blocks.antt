-- The stated commits by the blocks of the transactions, read from the front of a list of messages. `before` has the messages before, the
-- newest first.
use Rattle.std.specs.Prelude.{◌≡◌, ℕ, ℤ, Option, None, List, [], ◌∷◌, ◌++◌, flat_map, is_some, not}
use Rattle.std.specs.List.{AllByRecursion}
use Rattle.dbl_base.specs.declared.lsn.Lsn.{Lsn}
use Rattle.dbl_pgmsg.specs.declared.messages.Message.{Message}
use Rattle.dbl_pgmsg.specs.declared.messages.Message.TheVariants as says
use Rattle.dbl_model_table.specs.declared.table.TableInfo.{TableInfo}
use Rattle.dbl_model_table.specs.declared.change.Change.{Change}
use Rattle.dbl_model_table.specs.declared.change.Commit.{Commit}
use Rattle.dbl_model_commit.specs.declared.txn_error.TxnError.{TxnError}
use Rattle.dbl_model_commit.specs.Past.{begin_of, open_mark, HasNoRelation}
use Rattle.dbl_model_commit.specs.Stated.{is_empty, stated, ok_or_none, open_changes, commit_of, commits_of, first_of, transaction_fault}

-- Messages in order, put one by one in front of a list that has the newest first.
abbrev pub onto : List Message → List Message → List Message
onto before [] = before
onto before (m ∷ ms) = onto (m ∷ before) ms

-- A transaction: a Begin, further messages, and a Commit with the Begin's LSN.
pub record Block : Type 0 where
  pub lsn : Lsn
  pub time : ℤ
  pub xid : ℕ
  pub inner : List Message
  pub flags : ℕ
  pub end_lsn : Lsn
  pub end_time : ℤ

-- A message between transactions, or a transaction.
pub data Part : Type 0 where
  Between : Message → Part
  Whole : Block → Part

-- The messages of a part, in order.
abbrev pub messages_of : Part → List Message
messages_of (Between m) = m ∷ []
messages_of (Whole b) = says.Begin b.lsn b.time b.xid ∷ (b.inner ++ says.Commit b.flags b.lsn b.end_lsn b.end_time ∷ [])

-- Whether a message is neither a Begin nor a Commit.
abbrev pub IsFurther : Message → Type 0
IsFurther (says.Begin lsn time xid) = ⊥
IsFurther (says.Commit flags lsn end_lsn time) = ⊥
IsFurther m = Unit {0}

-- Whether a part has neither a Begin nor a Commit besides those of its transaction.
abbrev pub IsPart : Part → Type 0
IsPart (Between m) = IsFurther m
IsPart (Whole b) = AllByRecursion IsFurther b.inner

-- Whether the messages are an unfinished transaction, or none at all.
abbrev pub IsRest : List Message → Type 0
IsRest [] = Unit {0}
IsRest (says.Begin lsn time xid ∷ ms) = AllByRecursion IsFurther ms
IsRest (m ∷ ms) = ⊥

-- The changes that a transaction's messages state, one after another.
abbrev pub changes_in : List TableInfo → List Message → List Message → List Change
changes_in infos before [] = []
changes_in infos before (m ∷ ms) = ok_or_none (stated infos m before) ++ changes_in infos (m ∷ before) ms

-- The commit of a transaction after its Begin.
abbrev pub commit_in : List TableInfo → List Message → Block → Commit
commit_in infos before b = commit_of b.lsn b.end_lsn (open_mark (onto before b.inner)) (changes_in infos before b.inner)
    (record { lsn = b.lsn; time = b.time; xid = b.xid })

-- The commits of some parts: one for each transaction.
abbrev pub commits_in : List TableInfo → List Message → List Part → List Commit
commits_in infos before [] = []
commits_in infos before (Between m ∷ parts) = commits_in infos (m ∷ before) parts
commits_in infos before (Whole b ∷ parts) =
    commit_in infos (says.Begin b.lsn b.time b.xid ∷ before) b ∷ commits_in infos (onto before (messages_of (Whole b))) parts

-- Whether messages, in order, are transactions and messages between them, which state these commits, followed by an unfinished transaction,
-- or nothing, `rest`.
pub record States (infos : List TableInfo) (ms : List Message) (commits : List Commit) (rest : List Message) : Type 0 where
  pub parts : List Part
  pub are_parts : AllByRecursion IsPart parts
  pub is_rest : IsRest rest
  pub spelled : ms ≡ flat_map messages_of parts ++ rest
  pub stated : commits ≡ commits_in infos [] parts

-- Whether none of the messages, the newest first, has an error after those before it.
abbrev pub AreWithoutFault : List TableInfo → Lsn → List Message → Type 0
AreWithoutFault infos after [] = Unit {0}
AreWithoutFault infos after (m ∷ ms) = (transaction_fault infos after m ms ≡ None) × AreWithoutFault infos after ms

-- The first error of messages in order, after others.
abbrev pub first_transaction_fault : List TableInfo → Lsn → List Message → List Message → Option TxnError
first_transaction_fault infos after before [] = None
first_transaction_fault infos after before (m ∷ ms) =
    first_of (transaction_fault infos after m before) (first_transaction_fault infos after (m ∷ before) ms)

-- Every division of messages into transactions states the commits found by looking back.
abbrev pub BlocksStateOneList : Type 0
BlocksStateOneList = (infos : List TableInfo) (ms : List Message) (commits : List Commit) (rest : List Message)
    → States infos ms commits rest → commits ≡ commits_of infos (onto [] ms)

-- The messages of the open transaction in order, followed by the messages `subsequent`; none if no transaction is open.
abbrev pub open_messages : List Message → List Message → List Message
open_messages [] subsequent = []
open_messages (says.Begin lsn time xid ∷ ms) subsequent = says.Begin lsn time xid ∷ subsequent
open_messages (says.Commit flags lsn end_lsn time ∷ ms) subsequent = []
open_messages (m ∷ ms) subsequent = open_messages ms (m ∷ subsequent)

-- Every division of messages into transactions leaves the same unfinished transaction, or none.
abbrev pub RestsAreOne : Type 0
RestsAreOne = (infos : List TableInfo) (ms : List Message) (commits : List Commit) (rest : List Message)
    → States infos ms commits rest → rest ≡ open_messages (onto [] ms) []

-- A transaction is open if and only if the messages end in an unfinished one.
abbrev pub RestsAreOpen : Type 0
RestsAreOpen = (infos : List TableInfo) (ms : List Message) (commits : List Commit) (rest : List Message)
    → States infos ms commits rest → is_some (begin_of (onto [] ms)) ≡ not (is_empty rest)

-- Messages without an error are transactions and an unfinished one, or none, and state the commits found by looking back.
abbrev pub AcceptedAreBlocks : Type 0
AcceptedAreBlocks = (infos : List TableInfo) (after : Lsn) (ms : List Message) → AreWithoutFault infos after ms
    → (list : List Message) × (rest : List Message) × States infos list (commits_of infos ms) rest × (onto [] list ≡ ms)

-- Messages in order without an error are transactions and an unfinished one, or none, and state the commits found by looking back.
abbrev pub FaultlessAreBlocks : Type 0
FaultlessAreBlocks = (infos : List TableInfo) (after : Lsn) (ms : List Message) → first_transaction_fault infos after [] ms ≡ None
    → (rest : List Message) × States infos ms (commits_of infos (onto [] ms)) rest

-- Capturing a further table before its first Relation changes neither what earlier messages state nor their errors.
pub record LaterTablesChangeNothing (infos : List TableInfo) (info : TableInfo) : Type 0 where
  pub commits : (ms : List Message) → HasNoRelation info.name ms → commits_of (infos ++ info ∷ []) ms ≡ commits_of infos ms
  pub changes : (ms : List Message) → HasNoRelation info.name ms → open_changes (infos ++ info ∷ []) ms ≡ open_changes infos ms
  pub faults : (after : Lsn) (m : Message) (ms : List Message) → HasNoRelation info.name (m ∷ ms)
      → transaction_fault (infos ++ info ∷ []) after m ms ≡ transaction_fault infos after m ms
