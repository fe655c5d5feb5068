-- For private clauses: the tokens of parts of an event's value.
use Rattle.std.specs.Prelude.{ℤ, List, ℕ, [], ◌∷◌, ◌++◌, codes, decimal}
use Rattle.std.specs.Fmt.{signed_decimal}
use Rattle.json.specs.Token.{Token, begin_object, end_object, key, string, number, null}
use Rattle.json.specs.Tree.{json_tokens}
use Rattle.serde_json.specs.Written.{outline}
use Rattle.dbl_model_table.specs.declared.identity.Identity.{Identity}
use Rattle.dbl_model_table.specs.declared.table.TableName.{TableName}
use Rattle.dbl_model_table.specs.declared.change.Commit.{Commit}
use Rattle.dbl_model_event.specs.EventJson.{milliseconds_of, source_data}

-- the members of a source up to `schema`
abbrev pub first_tokens : Identity → TableName → Commit → List Token
first_tokens identity table commit =
    key (codes "connector") ∷ string (codes "postgresql") ∷ key (codes "db") ∷ string identity.db
    ∷ key (codes "lsn") ∷ number (decimal commit.lsn.0) ∷ key (codes "name") ∷ string identity.prefix
    ∷ key (codes "schema") ∷ string table.schema ∷ []

-- the members of a source from `snapshot` on
abbrev pub last_tokens : TableName → Commit → List ℕ → List Token
last_tokens table commit snapshot =
    key (codes "snapshot") ∷ string snapshot ∷ key (codes "table") ∷ string table.name
    ∷ key (codes "ts_ms") ∷ number (signed_decimal (milliseconds_of commit.time))
    ∷ key (codes "txId") ∷ number (decimal commit.xid) ∷ key (codes "version") ∷ string (codes "1.0")
    ∷ key (codes "xmin") ∷ null ∷ end_object ∷ []

-- an event's value up to `op`, given the tokens of `after` and `before`
abbrev pub head_tokens : List Token → List Token → List ℕ → List Token
head_tokens after before op =
    begin_object ∷ key (codes "after") ∷ (after ++ key (codes "before") ∷ (before ++ key (codes "op") ∷ string op ∷ []))

-- an event's value from `source` on
abbrev pub tail_tokens : Identity → TableName → Commit → List ℕ → ℤ → List Token
tail_tokens identity table commit snapshot now =
    key (codes "source") ∷ (json_tokens (outline (source_data identity table commit snapshot))
    ++ key (codes "transaction") ∷ null ∷ key (codes "ts_ms") ∷ number (signed_decimal now) ∷ end_object ∷ [])

-- the value of a progress record, given the tokens of `done` and `last`
abbrev pub progress_tokens : Token → List Token → List ℕ → List Token
progress_tokens done last table =
    begin_object ∷ key (codes "done") ∷ done ∷ key (codes "last") ∷ (last ++ key (codes "table") ∷ string table ∷ end_object ∷ [])
