-- The errors of the parts below, as `DemoError`.
use Rattle.dbl_model_table.specs.declared.error.ModelError.{ModelError}
use Rattle.dbl_model_table.specs.declared.error.ModelError.TheVariants as model
use Rattle.dbl_script.specs.declared.error.ScriptError.{ScriptError}
use Rattle.dbl_script.specs.declared.error.ScriptError.TheVariants as script
use Rattle.dbl_journal.specs.declared.error.JournalError.{JournalError}
use Rattle.dbl_journal.specs.declared.error.JournalError.TheVariants as journal
use Rattle.dbl_demo_workload.specs.declared.error.DemoError.{DemoError}
use Rattle.dbl_demo_workload.specs.declared.error.DemoError.TheVariants as demo

-- The error of a journal, as the source's.
abbrev pub journal_error : JournalError → DemoError
journal_error journal.Memory = demo.Memory
journal_error e = demo.Journal e

-- The error of a script, as the source's.
abbrev pub script_error : ScriptError → DemoError
script_error script.Memory = demo.Memory
script_error e = demo.Script e

-- The error of a table that can't be captured, as the source's.
abbrev pub model_error : ModelError → DemoError
model_error model.Memory = demo.Memory
model_error e = demo.Model e
