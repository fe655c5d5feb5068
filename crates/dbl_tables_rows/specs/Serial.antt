-- The serial run of a list of steps: one transaction for each accepted commit, in order.
use Rattle.std.specs.Prelude.{Result, Ok, Err, List, [], ◌∷◌, ◌++◌, map}
use Rattle.dbl_pgmsg.specs.declared.messages.Message.{Message}
use Rattle.dbl_model_table.specs.declared.named_cell.NamedCell.{NamedCell}
use Rattle.dbl_model_table.specs.declared.table.TableName.{TableName}
use Rattle.dbl_tables_rows.specs.declared.demo_table.DemoTable.{DemoTable}
use Rattle.dbl_tables_rows.specs.declared.error.StepError.{StepError}
use Rattle.dbl_tables_rows.specs.Acts.{Accepted, log_in}
use Rattle.dbl_tables_rows.specs.Steps.{Step, judged}
use Rattle.dbl_tables_rows.specs.Steps.Step.{Begin, Commit, Insert}

-- The acts after a step: one more if it is accepted, the same ones if it is refused.
abbrev pub accepted_onto : Result Accepted StepError → List Accepted → List Accepted
accepted_onto (Ok act) past = act ∷ past
accepted_onto (Err e) past = past

-- The acts after some steps, one after the other.
abbrev pub acts_after : List DemoTable → List Accepted → List Step → List Accepted
acts_after tables past [] = past
acts_after tables past (step ∷ steps) = acts_after tables (accepted_onto (judged tables past step) past) steps

-- A row that exists before the first step.
abbrev pub InitialRow : Type 0
InitialRow = TableName × List NamedCell

-- The steps that make the initial rows: one commit of a session without a name, or none if there are no rows.
abbrev pub initial_steps : List InitialRow → List Step
initial_steps [] = []
initial_steps (row ∷ rows) = Begin [] ∷ map (λ (r : InitialRow). Insert [] r.0 r.1) (row ∷ rows) ++ Commit [] ∷ []

-- The transactions of the initial rows and the steps, each as the list of its messages.
abbrev pub serial : List DemoTable → List InitialRow → List Step → List (List Message)
serial tables rows steps = log_in (acts_after tables [] (initial_steps rows ++ steps))
