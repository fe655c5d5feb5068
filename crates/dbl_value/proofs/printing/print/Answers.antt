use Rattle.std.proofs.Common.{subst}
use Rattle.dbl_value_types.specs.Values.{IsOf}
use Rattle.dbl_value_types.proofs.RangeLemmas.{date_in_years, time_in_day, stamp_in_years, instant_in_years}
use Rattle.dbl_value.proofs.printing.print.Goals as goal

pub date_string-requires : goal.date_string-requires
date_string-requires c = date_in_years c.args.ty c.in-Date.day (subst (IsOf c.args.ty) c.in-Date.is c.requires.is_of)

pub time_string-requires : goal.time_string-requires
time_string-requires c = let range = time_in_day c.args.ty c.in-Time.micros (subst (IsOf c.args.ty) c.in-Time.is c.requires.is_of) in record { low = range.0; high = range.1 }

pub stamp_string-requires : goal.stamp_string-requires
stamp_string-requires c = stamp_in_years c.args.ty c.in-Stamp.moment (subst (IsOf c.args.ty) c.in-Stamp.is c.requires.is_of)

pub instant_string-requires : goal.instant_string-requires
instant_string-requires c = instant_in_years c.args.ty c.in-StampTz.instant (subst (IsOf c.args.ty) c.in-StampTz.is c.requires.is_of)
