use Rattle.std.proofs.Common.{◌≡◌, ◌++◌, ◌∷◌, drop, map}
use Rattle.json.specs.Token.{begin_object}
use Rattle.json.specs.Tree.{members_tokens}
use Rattle.serde_json.specs.Written.{members_outline}
use Rattle.dbl_model_event.specs.EventJson.{sent}
use Rattle.dbl_envelope_json.specs.Layouts.{members_at}
use Rattle.dbl_envelope_json.proofs.tokens.write_sent.Given as goal

abbrev pub invariant-loop-place : goal.invariant-loop-place
invariant-loop-place l = (l.writer.tokens ++ members_tokens (members_outline (members_at (map (sent l.placeholder) l.fn.cells) (drop l.place-index l.fn.order))) ≡ l.fn.writer.tokens ++ begin_object ∷ members_tokens (members_outline (members_at (map (sent l.placeholder) l.fn.cells) l.fn.order))) × (l.writer.before ≡ l.fn.writer.before)
