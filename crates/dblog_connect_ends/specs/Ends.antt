-- How a session ended.
use Rattle.std.specs.Prelude.{Result}
use Rattle.dblog_connect_ends.specs.declared.summary.Summary.{Summary}
use Rattle.dblog_connect_ends.specs.declared.error.ConnectError.{ConnectError}

-- The result of a command: the session's summary, or an error.
abbrev pub ConnectEnd : Type 0
ConnectEnd = Result Summary ConnectError
