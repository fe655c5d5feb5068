use Rattle.std.proofs.Common.{◌≡◌, ◌∙◌, None, Some, List, [], length, drop, ap, rules, subst, arith}
use Rattle.std.proofs.lemmas.Result.{err_from_is_err_and}
use Rattle.dbl_pgmsg.specs.declared.messages.Message.{Message}
use Rattle.dbl_demo_wal.specs.declared.entry.Entry.TheVariants.{Commits}
use Rattle.dbl_demo_wal.specs.Entries.{EncodesEntry}
use Rattle.dbl_demo_wal.proofs.SizeLemmas.{few_in}
use Rattle.dbl_demo_workload.specs.Steps.{FitAnEntry}
use Rattle.dbl_demo.proofs.BeginLemmas.{append_kind, grown_once, grown_twice, one_first, rows_short, two_first, workload_short}
use Rattle.dbl_demo.proofs.making.begin_log.Goals as goal

pub returns-in_err-append_built-clause-kinds : goal.returns-in_err-append_built-clause-kinds
returns-in_err-append_built-clause-kinds g c =
    let p = err_from_is_err_and c.from_residual-in_err-append_built.result c.from_residual-in_err-append_built.ensures.1 in
    let a = c.append_built.ensures in
    rw p.1 (append_kind c.append_built.result c.in_err-append_built.field-0.0 p.0 c.in_err-append_built.was p.2 a.journal
    (λ len is. workload_short c.args.bytes.now _ c.requires.short c.in_ok-workload_entry.ensures.entry ((a.too_long len).0 is).0))

pub returns-in_err-append_built-clause-grows : goal.returns-in_err-append_built-clause-grows
returns-in_err-append_built-clause-grows g c = λ old new lists was is.
    grown_once c.args.bytes.now _ _ _ _ c.in_ok-workload_entry.ensures.entry (c.append_built.ensures.grows [] old new lists was is)

pub commit_entry-requires-clause-few : goal.commit_entry-requires-clause-few
commit_entry-requires-clause-few g c =
    let fits : FitAnEntry c.in-Some.rows = search rules in
    omega (arith, few_in c.in-Some.rows fits.short, ap (λ (l : List Message). length l) (c.as_slice.ensures.value ∙ c.items.ensures))

pub returns-in_err-commit_entry-in-Some-clause-grows : goal.returns-in_err-commit_entry-in-Some-clause-grows
returns-in_err-commit_entry-in-Some-clause-grows g c = λ old new lists was is.
    grown_once c.args.bytes.now _ _ _ _ c.in_ok-workload_entry.ensures.entry (c.append_built.ensures.grows [] old new lists was is)

pub returns-in_err-append_built-in-Some-clause-kinds : goal.returns-in_err-append_built-in-Some-clause-kinds
returns-in_err-append_built-in-Some-clause-kinds g c =
    let p = err_from_is_err_and c.from_residual-in_err-append_built-in-Some.result c.from_residual-in_err-append_built-in-Some.ensures.1 in
    let a = c.append_built-in-Some.ensures in
    let fits : FitAnEntry c.in-Some.rows = search rules in
    let same : c.as_slice.result.now ≡ c.in-Some.rows = c.as_slice.ensures.value ∙ c.items.ensures in
    let spells = subst (λ (ms : List Message). EncodesEntry (drop 4 c.in_ok-commit_entry-in-Some.field-0.items) (Commits 0 ms)) same c.in_ok-commit_entry-in-Some.ensures.entry in
    rw p.1 (append_kind c.append_built-in-Some.result c.in_err-append_built-in-Some.field-0.0 p.0 c.in_err-append_built-in-Some.was p.2 a.journal
    (λ len is. rows_short c.in-Some.rows _ fits spells ((a.too_long len).0 is).0))

pub returns-in_err-append_built-in-Some-clause-grows : goal.returns-in_err-append_built-in-Some-clause-grows
returns-in_err-append_built-in-Some-clause-grows g c = λ old new lists was is.
    let told = c.append_built.ensures.puts.told old was in
    let some : c.args.prepared.now.rows ≡ Some c.in-Some.rows = search rules in
    let same : c.as_slice.result.now ≡ c.in-Some.rows = c.as_slice.ensures.value ∙ c.items.ensures in
    let spells = subst (λ (ms : List Message). EncodesEntry (drop 4 c.in_ok-commit_entry-in-Some.field-0.items) (Commits 0 ms)) same c.in_ok-commit_entry-in-Some.ensures.entry in
    grown_twice c.args.bytes.now _ _ _ _ _ _ _ some c.in_ok-workload_entry.ensures.entry spells (c.append_built.ensures.grows [] old told.0 lists was told.1)
    (c.append_built-in-Some.ensures.grows _ told.0 new (c.in_ok-append_built.ensures.added [] lists) told.1 is)

pub returns-in_ok-append_built-in-Some-clause-count : goal.returns-in_ok-append_built-in-Some-clause-count
returns-in_ok-append_built-in-Some-clause-count g c =
    let some : c.args.prepared.now.rows ≡ Some c.in-Some.rows = search rules in
    two_first c.args.bytes.now _ _ _ _ _ some c.requires.empty c.in_ok-append_built.ensures.count c.in_ok-append_built-in-Some.ensures.count

pub returns-in_ok-append_built-in-Some-clause-grows : goal.returns-in_ok-append_built-in-Some-clause-grows
returns-in_ok-append_built-in-Some-clause-grows g c = λ old new lists was is.
    let told = c.append_built.ensures.puts.told old was in
    let some : c.args.prepared.now.rows ≡ Some c.in-Some.rows = search rules in
    let same : c.as_slice.result.now ≡ c.in-Some.rows = c.as_slice.ensures.value ∙ c.items.ensures in
    let spells = subst (λ (ms : List Message). EncodesEntry (drop 4 c.in_ok-commit_entry-in-Some.field-0.items) (Commits 0 ms)) same c.in_ok-commit_entry-in-Some.ensures.entry in
    grown_twice c.args.bytes.now _ _ _ _ _ _ _ some c.in_ok-workload_entry.ensures.entry spells (c.append_built.ensures.grows [] old told.0 lists was told.1)
    (c.append_built-in-Some.ensures.grows _ told.0 new (c.in_ok-append_built.ensures.added [] lists) told.1 is)

pub returns-in-None-clause-count : goal.returns-in-None-clause-count
returns-in-None-clause-count g c =
    let none : c.args.prepared.now.rows ≡ None = search rules in
    one_first c.args.bytes.now _ _ _ none c.requires.empty c.in_ok-append_built.ensures.count

pub returns-in-None-clause-grows : goal.returns-in-None-clause-grows
returns-in-None-clause-grows g c = λ old new lists was is.
    grown_once c.args.bytes.now _ _ _ _ c.in_ok-workload_entry.ensures.entry (c.append_built.ensures.grows [] old new lists was is)
