use Rattle.std.proofs.Common.{◌∙◌, arith}
use Rattle.jiff_core.proofs.SignedLemmas.{signed_arith}
use Rattle.dbl_time.proofs.CalendarSteps.{civil_of, year_back, days_fit, widened}
use Rattle.dbl_time.proofs.dates.civil.Goals as goal

pub overflow_cast-result : goal.overflow_cast-result
overflow_cast-result c =
    let date = c.in-Ok.date in
    let number = c.in-Ok.ensures.value ∙ widened c.args.day.now (days_fit c.args.day.now c.requires) in
    let civil = civil_of date.year date.month date.day c.args.day.now (date.year_in, date.month_in, date.day_in) number c.requires in
    let not_negative = civil.not_negative in
    let small = civil.small in
    rw (year_back date.year date.year_in) (omega (arith, signed_arith), omega arith)

pub returns-clause-is_day : goal.returns-clause-is_day
returns-clause-is_day c =
    let date = c.in-Ok.date in
    let number = c.in-Ok.ensures.value ∙ widened c.args.day.now (days_fit c.args.day.now c.requires) in
    let civil = civil_of date.year date.month date.day c.args.day.now (date.year_in, date.month_in, date.day_in) number c.requires in
    rw (year_back date.year date.year_in) civil.is_day

pub returns-clause-number : goal.returns-clause-number
returns-clause-number c =
    let date = c.in-Ok.date in
    let number = c.in-Ok.ensures.value ∙ widened c.args.day.now (days_fit c.args.day.now c.requires) in
    let civil = civil_of date.year date.month date.day c.args.day.now (date.year_in, date.month_in, date.day_in) number c.requires in
    rw (year_back date.year date.year_in) civil.number_is
