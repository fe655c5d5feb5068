-- Limits of a source that is played from a script.
use Rattle.std.specs.Prelude.{ℕ, ◌+◌, ◌<◌}
use Rattle.dbl_source_log.specs.Numbers.{commit_limit}

-- Whether the history has room for commits before a call and of its own.
abbrev pub HasRoom : ℕ → ℕ → ℕ → Type 0
HasRoom count before own = count + before + own < commit_limit
