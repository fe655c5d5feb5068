use Rattle.std.proofs.lemmas.Result.{err_from_is_err_and}
use Rattle.dbl_demo_workload.proofs.RowLemmas.{can_make, row_refused, script_ready, table_refused}
use Rattle.dbl_demo_workload.proofs.preparing.prepare_script.Goals as goal

pub make_store-requires : goal.make_store-requires
make_store-requires c =
    let read = c.in_ok-read.read in
    can_make c.args.script c.into_items.result.items c.into_items.ensures read.names.items read.demo.items read.log.items c.requires.few c.in_ok-read.ensures.read

pub returns-clause-ready : goal.returns-clause-ready
returns-clause-ready c =
    let read = c.in_ok-read.read in
    script_ready c.args.script c.into_items.result.items c.into_items.ensures c.into_items-2.result.items c.into_items-2.ensures read.demo.items
    (record { names = read.names; tables = read.log; store = c.in_ok-committed.committed.0; steps = c.into_items-3.result; rows = c.in_ok-committed.committed.1 }) c.in_ok-read.ensures.read c.into_items-3.ensures
    (c.in_ok-committed.ensures read.demo.items c.in_ok-store.ensures.stands)

pub returns-in_err-committed-clause-refused : goal.returns-in_err-committed-clause-refused
returns-in_err-committed-clause-refused c =
    let read = c.in_ok-read.read in
    let p = err_from_is_err_and c.from_residual-in_err-committed.result c.from_residual-in_err-committed.ensures.1 in
    rw (p.1, p.2) (row_refused c.args.script c.into_items.result.items c.into_items.ensures c.into_items-2.result.items c.into_items-2.ensures read.demo.items read.names.items read.log.items c.in_err-committed.field-0.0
    c.in_ok-read.ensures.read (c.in_err-committed.ensures read.demo.items c.in_ok-store.ensures.stands))

pub returns-in_err-read-clause-refused : goal.returns-in_err-read-clause-refused
returns-in_err-read-clause-refused c =
    let p = err_from_is_err_and c.from_residual.result c.from_residual.ensures.1 in
    rw (p.1, p.2) (table_refused c.args.script c.into_items.result.items c.into_items.ensures c.in_err-read.field-0.0 c.in_err-read.ensures.refused)
