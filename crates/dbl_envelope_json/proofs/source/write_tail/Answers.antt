use Rattle.std.proofs.Common.{◌≡◌, ◌∙◌, ◌++◌, ◌∷◌, [], append_assoc, codes}
use Rattle.std.proofs.lemmas.Result.{on_ok_weaker}
use Rattle.std.specs.Fmt.{signed_decimal}
use Rattle.json.specs.Token.{key, null, number}
use Rattle.json.specs.Tree.{json_tokens}
use Rattle.serde_json.specs.Written.{outline}
use Rattle.dbl_model_event.specs.EventJson.{source_data}
use Rattle.dbl_envelope_json.proofs.source.write_tail.Goals as goal

pub returns-clause-ok : goal.returns-clause-ok
returns-clause-ok c =
    let from = source_data c.args.identity.now c.args.table.now c.args.commit.now c.args.snapshot.now in
    let source : c.write_source.new.writer.tokens ≡ c.key.new.self.tokens ++ json_tokens (outline from) = c.in_ok-write_source.ensures.ok in
    let nothing : c.null_member.new.writer.tokens ≡ c.write_source.new.writer.tokens ++ key (codes "transaction") ∷ null ∷ [] = c.in_ok-null_member.ensures.ok in
    let moment : c.i64_member.new.writer.tokens ≡ c.null_member.new.writer.tokens ++ key (codes "ts_ms") ∷ number (signed_decimal c.args.now_ms.now) ∷ [] = c.in_ok-i64_member.ensures.ok in
    on_ok_weaker c.end_object.result
    (λ e. e ∙ rw (moment, nothing, source, c.in_ok-key.ensures.ok) (simp append_assoc))
    c.end_object.ensures.ok
