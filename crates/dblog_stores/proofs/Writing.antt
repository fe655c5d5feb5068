-- What is written of lines, and the lines of groups.
use Rattle.std.proofs.Common.{◌≡◌, ◌∙◌, ℕ, ◌+◌, ◌≤◌, Option, Some, List, [], ◌++◌, drop, length, map, sym, ap, append-nil, subst}
use Rattle.std.specs.Prelude.{slice_get}
use Rattle.std.proofs.lemmas.List.{map-append}
use Rattle.dbl_lines.specs.declared.error.PrintError.{PrintError}
use Rattle.dbl_lines.specs.declared.error.PrintError.TheVariants as print
use Rattle.dbl_lines.specs.Writing.{PrintFails}
use Rattle.dbl_record.specs.declared.record.Record.{Record}
use Rattle.dbl_record.specs.Cuts.{joined}
use Rattle.dbl_record.specs.Line.{line_of}
use Rattle.dblog_stores.specs.declared.error.CommandError.{CommandError}
use Rattle.dblog_stores.specs.declared.error.CommandError.TheVariants.{OutputFailed, Memory, Failed, NotStarted, NotAStore, BadEntry}
use Rattle.dblog_stores.specs.Errors.{print_error}
use Rattle.dblog_stores.specs.Answers.{topic_lines}
use Rattle.dblog_stores.specs.Ends.{CutsLines, IsExternalCommandError, WroteFirst}
use Rattle.dblog_stores.proofs.CrashState.{next_got, nothing_left}

-- a fault of printing cuts the lines
pub print_cuts : (lines : List (List ℕ)) (error : PrintError) (told : CommandError) (before after : Option (List ℕ)) → told ≡ print_error error → PrintFails lines error before after → CutsLines lines told before after
print_cuts lines print.OutputFailed told before after is fails = subst (λ e. CutsLines lines e before after) (sym is) fails
print_cuts lines print.Memory told before after is fails = subst (λ e. CutsLines lines e before after) (sym is) fails

-- none of the lines was written
pub none_written : (lines : List (List ℕ)) (before after : Option (List ℕ)) → after ≡ before → WroteFirst lines before after
none_written lines before after same = (0, λ bytes told. same ∙ told ∙ ap Some (sym (append-nil bytes)))

-- lines are cut where memory runs out or a disk fails
pub outside_cuts : (lines : List (List ℕ)) (error : CommandError) (before after : Option (List ℕ)) → IsExternalCommandError error → WroteFirst lines before after → CutsLines lines error before after
outside_cuts lines OutputFailed before after outside first = absurd outside
outside_cuts lines Memory before after outside first = first
outside_cuts lines (Failed store) before after outside first = first
outside_cuts lines NotStarted before after outside first = absurd outside
outside_cuts lines (NotAStore store at) before after outside first = absurd outside
outside_cuts lines (BadEntry store index) before after outside first = absurd outside

-- ---- the lines of groups

-- the lines of the groups from a number on
pub next_lines : (groups : List (List Record)) (number : ℕ) (group : List Record) → slice_get groups number ≡ Some group → topic_lines (drop number groups) ≡ map line_of group ++ topic_lines (drop (number + 1) groups)
next_lines groups number group there = ap topic_lines (next_got groups number group there) ∙ map-append line_of group (joined (drop (number + 1) groups))

pub last_lines : (groups : List (List Record)) (number : ℕ) → length groups ≤ number → topic_lines (drop number groups) ≡ []
last_lines groups number end = ap topic_lines (nothing_left groups number end)
