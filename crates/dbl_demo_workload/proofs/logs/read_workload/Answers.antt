use Rattle.std.proofs.Common.{inr, refl}
use Rattle.std.specs.Prelude.{None, Some}
use Rattle.dbl_demo_workload.proofs.ReadLemmas.{begun_entry, no_claim, refused_entry}
use Rattle.dbl_demo_workload.proofs.logs.read_workload.Goals as goal

pub returns-in_default-clause-refused : goal.returns-in_default-clause-refused
returns-in_default-clause-refused c = inr (c.no_workload.ensures, no_claim c.args.entry.now None c.in_default.ensures refl)

pub returns-in-Ok-clause-ready : goal.returns-in-Ok-clause-ready
returns-in-Ok-clause-ready c = begun_entry c.args.entry.now (Some c.in-Some.workload.now) c.in-Some.ensures c.in-Some.workload.now refl c.in-Ok.prepared c.in-Ok.ensures.ready

pub returns-in-Err-clause-refused : goal.returns-in-Err-clause-refused
returns-in-Err-clause-refused c = refused_entry c.args.entry.now (Some c.in-Some.workload.now) c.in-Some.ensures c.in-Some.workload.now refl c.in-Err.error c.workload_error.result c.workload_error.ensures c.in-Err.ensures.refused
