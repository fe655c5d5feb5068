use Rattle.std.proofs.Common.{◌≡◌, ◌∙◌, ◌<◌, ◌++◌, Some, None, length, ap, sym, subst, OnOk}
use Rattle.std.proofs.lemmas.Result.{on_ok_weaker, IfErr-weaker}
use Rattle.std.specs.Option.{option_to_list}
use Rattle.dbl_consume.specs.Holdings.{Took, placeholder_of}
use Rattle.dbl_consume.specs.Records.{recorded_as}
use Rattle.dblog_replay.specs.Apply.{line_fault_of, reading_of_line}
use Rattle.dblog_replay.proofs.ApplyLemmas.{reading_of_no_text, reading_of_bytes, fault_of_line, some_bytes}
use Rattle.dblog_replay.proofs.apply.take_line.Goals as goal

pub returns-in-Err-clause-bad : goal.returns-in-Err-clause-bad
returns-in-Err-clause-bad c =
    let some : 0 < length c.args.line.now = some_bytes c.args.line.now (sym c.is_empty.ensures ∙ c.if-is_empty.false) in
    λ other. fault_of_line c.args.line.now some (placeholder_of c.args.held.now) ∙ ap (line_fault_of (placeholder_of c.args.held.now))
    (reading_of_no_text c.args.line.now some c.in-Err.ensures.cases.0)

pub returns-in-Ok-None-clause-bad : goal.returns-in-Ok-None-clause-bad
returns-in-Ok-None-clause-bad c =
    let read = rw c.in-Ok-None.field-0-is at c.in-Ok-None.ensures in
    let some : 0 < length c.args.line.now = some_bytes c.args.line.now (sym c.is_empty.ensures ∙ c.if-is_empty.false) in
    let told : reading_of_line c.args.line.now ≡ None =
    reading_of_bytes c.args.line.now c.in-Ok.text.now None some c.in-Ok.ensures.cases.0 c.in-Ok.ensures.cases.1 (sym read) in
    λ other. fault_of_line c.args.line.now some (placeholder_of c.args.held.now) ∙ ap (line_fault_of (placeholder_of c.args.held.now)) told

pub returns-in-Ok-Some-clause-took : goal.returns-in-Ok-Some-clause-took
returns-in-Ok-Some-clause-took c = λ taken took.
    let read = rw c.in-Ok-Some.field-0-is at c.in-Ok-Some.ensures in
    let some : 0 < length c.args.line.now = some_bytes c.args.line.now (sym c.is_empty.ensures ∙ c.if-is_empty.false) in
    let told : reading_of_line c.args.line.now ≡ Some (recorded_as c.in-Ok-Some.parsed) =
    reading_of_bytes c.args.line.now c.in-Ok.text.now _ some c.in-Ok.ensures.cases.0 c.in-Ok.ensures.cases.1 (sym read) in
    subst (λ found. OnOk c.take_parsed.result (Took (taken ++ option_to_list found) c.take_parsed.new.held)) (sym told) (c.take_parsed.ensures.took taken took)

pub returns-in-Ok-Some-clause-good : goal.returns-in-Ok-Some-clause-good
returns-in-Ok-Some-clause-good c =
    let read = rw c.in-Ok-Some.field-0-is at c.in-Ok-Some.ensures in
    let some : 0 < length c.args.line.now = some_bytes c.args.line.now (sym c.is_empty.ensures ∙ c.if-is_empty.false) in
    let told : reading_of_line c.args.line.now ≡ Some (recorded_as c.in-Ok-Some.parsed) =
    reading_of_bytes c.args.line.now c.in-Ok.text.now _ some c.in-Ok.ensures.cases.0 c.in-Ok.ensures.cases.1 (sym read) in
    on_ok_weaker c.take_parsed.result
    (λ good. fault_of_line c.args.line.now some (placeholder_of c.args.held.now) ∙ ap (line_fault_of (placeholder_of c.args.held.now)) told
    ∙ good) c.take_parsed.ensures.good

pub returns-in-Ok-Some-clause-bad : goal.returns-in-Ok-Some-clause-bad
returns-in-Ok-Some-clause-bad c =
    let read = rw c.in-Ok-Some.field-0-is at c.in-Ok-Some.ensures in
    let some : 0 < length c.args.line.now = some_bytes c.args.line.now (sym c.is_empty.ensures ∙ c.if-is_empty.false) in
    let told : reading_of_line c.args.line.now ≡ Some (recorded_as c.in-Ok-Some.parsed) =
    reading_of_bytes c.args.line.now c.in-Ok.text.now _ some c.in-Ok.ensures.cases.0 c.in-Ok.ensures.cases.1 (sym read) in
    IfErr-weaker c.take_parsed.result _ _
    (λ fault bad other. fault_of_line c.args.line.now some (placeholder_of c.args.held.now) ∙ ap (line_fault_of (placeholder_of c.args.held.now)) told
    ∙ bad other) c.take_parsed.ensures.bad
