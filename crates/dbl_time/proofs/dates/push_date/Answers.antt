use Rattle.std.proofs.Common.{◌≡◌, ◌∙◌, sym, ap, pos}
use Rattle.jiff_core.specs.Calendar.{days_from_civil}
use Rattle.dbl_time.specs.Dates.{date_text, date_parts_text}
use Rattle.dbl_time.proofs.CalendarSteps.{is_day-IsDay, date_text-parts}
use Rattle.dbl_time.proofs.dates.push_date.Goals as goal

pub returns : goal.returns
returns c =
    let day = c.civil-year in
    let number : days_from_civil (pos day.result.0) day.result.1 day.result.2 ≡ c.args.day.now = day.ensures.number in
    let parts : date_text c.args.day.now ≡ date_parts_text day.result.0 day.result.1 day.result.2 = ap date_text (sym number) ∙ date_text-parts _ _ _ (is_day-IsDay _ _ _ day.ensures.is_day) in
    rw parts c.push_parts.ensures
