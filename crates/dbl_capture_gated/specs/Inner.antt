-- What a session over a gate keeps of the inner sink.
use Rattle.std.specs.Prelude.{◌≡◌, ℕ, IsTrue, Option, None, Result, Err, OnOk}
use Rattle.dbl_base.specs.Streams.{FailsOnlyIfCounted}
use Rattle.dbl_topic.specs.Model.{SinkModel}

-- The inner sink can be used after a normal end and extends the old one. If no record was refused, the session stopped for a failed append
-- only if the inner sink's count of faults rose; the count never falls.
pub record KeepsInner {K T E : Type 0} (model : SinkModel K) (sink new_sink : K) (refused : Option (ℕ × ℕ)) (result : Result T E)
    (failed : E) : Type 0 where
  pub live : OnOk result (IsTrue (model.is_live new_sink))
  pub comes : model.comes_of sink new_sink
  pub cause : FailsOnlyIfCounted ((result ≡ Err failed) × (refused ≡ None)) (model.faults sink) (model.faults new_sink)
