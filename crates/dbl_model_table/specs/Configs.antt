-- Valid configurations of a session.
use Rattle.std.specs.Prelude.{ℕ, ◌≤◌, IsTrue, length}
use Rattle.dbl_model_table.specs.declared.config.Config.{Config}
use Rattle.dbl_model_table.specs.Tables.{same_name, are_distinct}
use Rattle.dbl_model_table.specs.Identities.{is_good_identity}

-- The largest number of messages that a session may be configured to read.
abbrev pub budget_limit : ℕ
budget_limit = 999999999

-- Whether a configuration is valid: a valid identity, 1 to 64 distinct tables, and numbers within their limits.
pub record IsGoodConfig (config : Config) : Type 0 where
  pub identity : IsTrue (is_good_identity config.identity)
  pub some_tables : 1 ≤ length config.tables
  pub few_tables : length config.tables ≤ 64
  pub distinct : IsTrue (are_distinct same_name config.tables)
  pub chunk : (1 ≤ config.chunk) × (config.chunk ≤ 100000)
  pub every : (1 ≤ config.every) × (config.every ≤ 10000)
  pub messages : (1 ≤ config.messages) × (config.messages ≤ budget_limit)
