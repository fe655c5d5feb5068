-- What calls keep of a sink.
use Rattle.std.specs.Prelude.{◌≡◌, IsTrue, Result, Err, OnOk}
use Rattle.dbl_base.specs.Streams.{FailsOnlyIfCounted}
use Rattle.dbl_topic.specs.Model.{SinkModel}

-- What every call keeps of a sink: it can be used after Ok, extends the old one, and failed only if its count of faults rose.
pub record KeepsSink {K T E : Type 0} (sink_model : SinkModel K) (sink new_sink : K) (result : Result T E) (failed : E) : Type 0 where
  pub live : OnOk result (IsTrue (sink_model.is_live new_sink))
  pub comes : sink_model.comes_of sink new_sink
  pub cause : FailsOnlyIfCounted (result ≡ Err failed) (sink_model.faults sink) (sink_model.faults new_sink)
