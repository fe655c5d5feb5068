use Rattle.std.proofs.Common.{Err, ap}
use Rattle.dblog_streams.proofs.ErrorLemmas.{reading_halts, reading_within, reading_failed, reading_fails, reading_kinds, reading_no_usage}
use Rattle.dblog_streams.proofs.input.read_input.Goals as goal

pub returns-in-Err-clause-halts : goal.returns-in-Err-clause-halts
returns-in-Err-clause-halts g c = λ bytes told.
    reading_halts bytes c.in-Err.error _ c.reading_error.ensures (λ is. c.in-Err.ensures.too_long bytes told (ap Err is))

pub returns-in-Err-clause-long : goal.returns-in-Err-clause-long
returns-in-Err-clause-long g c = λ bytes told within.
    reading_within bytes c.in-Err.error _ c.reading_error.ensures (λ is. c.in-Err.ensures.too_long bytes told (ap Err is)) within

pub returns-in-Err-clause-failed : goal.returns-in-Err-clause-failed
returns-in-Err-clause-failed g c = λ is.
    c.in-Err.ensures.cause.cause (ap Err (reading_failed c.in-Err.error c.reading_error.result c.reading_error.ensures (let t = is in cc)))

pub returns-in-Err-clause-kinds : goal.returns-in-Err-clause-kinds
returns-in-Err-clause-kinds g c = reading_kinds c.in-Err.error _ c.reading_error.ensures

pub returns-in-Err-clause-command : goal.returns-in-Err-clause-command
returns-in-Err-clause-command g c = reading_no_usage c.in-Err.error _ c.reading_error.ensures

pub returns-in-Ok-clause-steady : goal.returns-in-Ok-clause-steady
returns-in-Ok-clause-steady g c = λ bytes told not. c.in-Ok.ensures.steady bytes told (λ failed. (let wrong = failed in cc))

pub returns-in-Err-clause-steady : goal.returns-in-Err-clause-steady
returns-in-Err-clause-steady g c = λ bytes told not.
    c.in-Err.ensures.steady bytes told (λ failed. not (reading_fails c.in-Err.error c.reading_error.result c.reading_error.ensures failed))
