-- The status of a session that ended normally, and the lines of its report.
use Rattle.std.specs.Prelude.{ℕ, List, [], ◌∷◌, ◌++◌, codes, decimal}
use Rattle.dbl_lines.specs.declared.status.Status.{Status}
use Rattle.dbl_lines.specs.declared.status.Status.TheVariants.{Done, BudgetSpent}
use Rattle.dbl_capture_work.specs.declared.report.Ending.{Ending}
use Rattle.dbl_capture_work.specs.declared.report.Ending.TheVariants.{Complete, Budget}
use Rattle.dbl_capture_work.specs.declared.report.Report.{Report}

-- The exit status of a session that ended normally.
abbrev pub ending_status : Ending → Status
ending_status Complete = Done
ending_status Budget = BudgetSpent

-- The printed word for the ending of a session.
abbrev pub ending_word : Ending → List ℕ
ending_word Complete = codes "complete"
ending_word Budget = codes "budget"

-- The line of a count, as `<what> <count>`.
abbrev pub count_line : List ℕ → ℕ → List ℕ
count_line what count = what ++ (codes " " ++ decimal count)

-- The lines of a report, without their newlines.
abbrev pub report_lines : Ending → Report → List (List ℕ)
report_lines ending report =
    count_line (ending_word ending ++ codes " at") report.position
    ∷ (count_line (codes "messages") report.messages
    ∷ (count_line (codes "commits") report.commits
    ∷ (count_line (codes "records") report.records
    ∷ (count_line (codes "chunks") report.chunks
    ∷ (count_line (codes "snapshot rows") report.snapshot_rows ∷ [])))))
