use Rattle.std.proofs.Common.{inl, refl}
use Rattle.dbl_demo.proofs.MakingLemmas.{empty_small, prepare_kinds, prepare_refused, prepare_spares}
use Rattle.dbl_demo.proofs.source.DemoSource.make.Goals as goal

-- ---- the workload is refused, or there is no memory for it

pub returns-in-Err-clause-refused : goal.returns-in-Err-clause-refused
returns-in-Err-clause-refused g c = prepare_refused c.args.workload.now c.in-Err.error c.in-Err.ensures.refused

pub returns-in-Err-clause-kinds : goal.returns-in-Err-clause-kinds
returns-in-Err-clause-kinds g c = prepare_kinds c.args.workload.now c.in-Err.error c.in-Err.ensures.refused

pub returns-in-Err-clause-failed : goal.returns-in-Err-clause-failed
returns-in-Err-clause-failed g c = λ failed. absurd (prepare_spares c.args.workload.now c.in-Err.error c.in-Err.ensures.refused failed)

pub returns-in-Err-clause-small : goal.returns-in-Err-clause-small
returns-in-Err-clause-small g c = λ bytes told is. empty_small g.D.Disk c.args.disk bytes told is

pub returns-in-Err-clause-steady : goal.returns-in-Err-clause-steady
returns-in-Err-clause-steady g c = λ no bytes told. refl

-- ---- there is no memory for the numbers

pub returns-in-Err-first_numbers-clause-kinds : goal.returns-in-Err-first_numbers-clause-kinds
returns-in-Err-first_numbers-clause-kinds g c = prepare_kinds c.args.workload.now c.in-Err-first_numbers.error (inl c.in-Err-first_numbers.ensures.memory)

pub returns-in-Err-first_numbers-clause-failed : goal.returns-in-Err-first_numbers-clause-failed
returns-in-Err-first_numbers-clause-failed g c = λ failed. absurd (prepare_spares c.args.workload.now c.in-Err-first_numbers.error (inl c.in-Err-first_numbers.ensures.memory) failed)

pub returns-in-Err-first_numbers-clause-small : goal.returns-in-Err-first_numbers-clause-small
returns-in-Err-first_numbers-clause-small g c = λ bytes told is. empty_small g.D.Disk c.args.disk bytes told is

pub returns-in-Err-first_numbers-clause-steady : goal.returns-in-Err-first_numbers-clause-steady
returns-in-Err-first_numbers-clause-steady g c = λ no bytes told. refl
