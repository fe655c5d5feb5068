-- What `gen` writes.
use Rattle.std.specs.Prelude.{ℕ, []}
use Rattle.dbl_gen.specs.Workload.{workload_lines}
use Rattle.dbl_lines.specs.declared.status.Status.TheVariants.{Done}
use Rattle.dblog_streams.specs.Answers.{RunAnswer}

-- The answer of `gen`: the lines of the workload, which are written at once.
abbrev pub made : ℕ → ℕ → ℕ → RunAnswer
made number rows groups = record { status = Done; lines = workload_lines number rows groups; one_by_one = [] }
