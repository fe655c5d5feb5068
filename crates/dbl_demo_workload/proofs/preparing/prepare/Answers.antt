use Rattle.std.proofs.lemmas.Result.{err_from_is_err_and}
use Rattle.dbl_demo_workload.proofs.RowLemmas.{all_fitting, all_ready, all_refused, few_tables, parse_good, parse_refused}
use Rattle.dbl_demo_workload.proofs.preparing.prepare.Goals as goal

pub prepare_script-requires : goal.prepare_script-requires
prepare_script-requires c = record { few = few_tables c.args.bytes.now c.in_ok-script.script c.in_ok-script.ensures.script c.in_ok-script.ensures.good }

pub returns-clause-ready : goal.returns-clause-ready
returns-clause-ready c =
    let good = parse_good c.args.bytes.now c.parse.result c.in_ok-script.script c.in_ok-script.was c.parse.ensures.too_many c.in_ok-script.ensures.good in
    all_ready c.args.bytes.now good c.in_ok-script.script c.in_ok-script.ensures.script c.prepare_script.result c.prepare_script.ensures.ready

pub returns-clause-fits : goal.returns-clause-fits
returns-clause-fits c =
    let good = parse_good c.args.bytes.now c.parse.result c.in_ok-script.script c.in_ok-script.was c.parse.ensures.too_many c.in_ok-script.ensures.good in
    all_fitting c.args.bytes.now good c.in_ok-script.script c.in_ok-script.ensures.script c.prepare_script.result c.prepare_script.ensures.ready

pub returns-clause-refused : goal.returns-clause-refused
returns-clause-refused c =
    let good = parse_good c.args.bytes.now c.parse.result c.in_ok-script.script c.in_ok-script.was c.parse.ensures.too_many c.in_ok-script.ensures.good in
    all_refused c.args.bytes.now good c.in_ok-script.script c.in_ok-script.ensures.script c.prepare_script.result c.prepare_script.ensures.refused

pub returns-in_err-script-clause-refused : goal.returns-in_err-script-clause-refused
returns-in_err-script-clause-refused c =
    let p = err_from_is_err_and c.from_residual.result c.from_residual.ensures.1 in
    rw p.1 (parse_refused c.args.bytes.now c.parse.result c.in_err-script.field-0.0 p.0 c.in_err-script.was c.parse.ensures.bad c.parse.ensures.too_many p.2)
