use Rattle.std.proofs.Common.{◌≡◌, ◌∙◌, Result, ap, refl, rules, sym}
use Rattle.std.specs.Prelude.{Err}
use Rattle.std.proofs.lemmas.Result.{err_from_is_err_and}
use Rattle.dbl_topic.specs.declared.error.SinkError.{SinkError}
use Rattle.dbl_topic.specs.declared.error.SinkError.TheVariants as sink
use Rattle.dbl_capture_work.specs.declared.halt.Halt.{Halt}
use Rattle.dbl_capture_work.specs.declared.halt.Halt.TheVariants as halt
use Rattle.dbl_capture_work.specs.Halts.{sink_halt}
use Rattle.dbl_capture_work.proofs.groups.put_group.Goals as goal

same_halt : (e f : Halt) → ◌≡◌ {A = Result (Unit {0}) Halt} (Err e) (Err f) → e ≡ f
same_halt e f is = cc

sink_failed : (e : SinkError) → sink_halt e ≡ halt.Sink → e ≡ sink.Failed
sink_failed sink.Failed is = refl
sink_failed (sink.TooLong len) is = absurd cc
sink_failed sink.Memory is = absurd cc

-- a put that failed otherwise than by the sink appended nothing
pub returns-in_err-put-clause-group : goal.returns-in_err-put-clause-group
returns-in_err-put-clause-group g c = record {
  put = search rules;
  kept = λ groups held.
      let p = err_from_is_err_and c.from_residual.result c.from_residual.ensures.1 in
      rw (p.1, p.2) (λ other. c.in_err-put.ensures.kept groups held (λ failed. let is : c.in_err-put.field-0.0 ≡ sink.Failed = cc in other (ap (λ (x : SinkError). Err (sink_halt x)) is)));
  left = search rules;
  some = search rules;
  fails = λ failed.
      let p = err_from_is_err_and c.from_residual.result c.from_residual.ensures.1 in
      c.in_err-put.ensures.failed (ap (λ (e : SinkError). Err e) (sink_failed c.in_err-put.field-0.0 (sym p.2 ∙ same_halt p.0 halt.Sink (sym p.1 ∙ failed))));
}
