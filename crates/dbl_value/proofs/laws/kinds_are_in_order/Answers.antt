use Rattle.std.proofs.Common.{refl}
use Rattle.dbl_value.proofs.laws.kinds_are_in_order.Goals as goal

pub returns : goal.returns
returns c = record {
  null_before_truth = λ truth. refl;
  truth_before_integer = λ truth number. refl;
  integer_before_text = λ number text. refl;
  text_before_bytes = λ text bytes. refl;
  bytes_before_date = λ bytes day. refl;
  date_before_time = λ day micros. refl;
  time_before_stamp = λ micros moment. refl;
  stamp_before_instant = λ moment instant. refl;
}
