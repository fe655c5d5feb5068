-- What the sessions of a small transactional store did: the accepted acts, the newest first. PostgreSQL's manual, "Transactions", for the
-- terms.
use Rattle.std.specs.Prelude.{ℕ, ◌&&◌, ◌||◌, not, Bool, false, if◌then◌else◌, List, [], ◌∷◌, ◌++◌, filter, map, bytes_eq}
use Rattle.dbl_pgmsg.specs.declared.messages.Message.{Message}
use Rattle.dbl_source_log.specs.declared.logged.Logged.{Logged}
use Rattle.dbl_source_log.specs.declared.logged.Logged.TheVariants.{Changes}

-- An accepted act of a session: a begin, a change with its message, a commit, or a rollback.
pub data Accepted : Type 0 where
  Began : List ℕ → Accepted
  Did : List ℕ → Message → Accepted
  Committed : List ℕ → Accepted
  RolledBack : List ℕ → Accepted

-- Whether the session has begun, and hasn't ended since.
abbrev pub is_open : List ℕ → List Accepted → Bool
is_open session [] = false
is_open session (Began other ∷ past) = bytes_eq other session || is_open session past
is_open session (Did other message ∷ past) = is_open session past
is_open session (Committed other ∷ past) = not (bytes_eq other session) && is_open session past
is_open session (RolledBack other ∷ past) = not (bytes_eq other session) && is_open session past

-- The names of the open sessions.
abbrev pub open_in : List Accepted → List (List ℕ)
open_in [] = []
open_in (Began session ∷ past) = session ∷ open_in past
open_in (Did session message ∷ past) = open_in past
open_in (Committed session ∷ past) = filter (λ other. not (bytes_eq other session)) (open_in past)
open_in (RolledBack session ∷ past) = filter (λ other. not (bytes_eq other session)) (open_in past)

-- The changes of a session since its begin, the oldest first; none once it has ended.
abbrev pub messages_by : List ℕ → List Accepted → List Message
messages_by session [] = []
messages_by session (Began other ∷ past) = if bytes_eq other session then [] else messages_by session past
messages_by session (Did other message ∷ past) = if bytes_eq other session then messages_by session past ++ message ∷ []
    else messages_by session past
messages_by session (Committed other ∷ past) = if bytes_eq other session then [] else messages_by session past
messages_by session (RolledBack other ∷ past) = if bytes_eq other session then [] else messages_by session past

-- The committed transactions, the oldest first, each as the list of its changes.
abbrev pub log_in : List Accepted → List (List Message)
log_in [] = []
log_in (Began session ∷ past) = log_in past
log_in (Did session message ∷ past) = log_in past
log_in (Committed session ∷ past) = log_in past ++ messages_by session past ∷ []
log_in (RolledBack session ∷ past) = log_in past

-- The committed transactions as entries of the source's log.
abbrev pub accepted_log : List Accepted → List Logged
accepted_log past = map Changes (log_in past)
