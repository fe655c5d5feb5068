use Rattle.std.proofs.Common.{ℕ, List, Ok, subst}
use Rattle.std.specs.Prelude.{IfOk, IfErr, false}
use Rattle.std.proofs.lemmas.Result.{IfOk-weaker}
use Rattle.dblog_streams.specs.Inputs.{EncodesStrings}
use Rattle.dblog_streams.specs.Streaming.{HaltsReading}
use Rattle.dblog_streams.proofs.InputLemmas.{strings_small}
use Rattle.dblog_streams.proofs.replaying.read_lines.Goals as goal

pub returns-in-Ok-clause-encodes : goal.returns-in-Ok-clause-encodes
returns-in-Ok-clause-encodes g c = λ bytes told.
    subst (λ (b : List ℕ). IfOk c.strings_of.result (λ strings. EncodesStrings false b (Ok strings.items))) (c.in-Ok.ensures.all bytes told)
    c.strings_of.ensures.encodes

pub returns-in-Ok-clause-small : goal.returns-in-Ok-clause-small
returns-in-Ok-clause-small g c =
    IfOk-weaker c.strings_of.result _ _ (λ strings encodes. strings_small false c.in-Ok.text strings.items encodes) c.strings_of.ensures.encodes

pub returns-in-Ok-clause-halts : goal.returns-in-Ok-clause-halts
returns-in-Ok-clause-halts g c = λ bytes told.
    subst (λ (b : List ℕ). IfErr c.strings_of.result (HaltsReading false b)) (c.in-Ok.ensures.all bytes told) c.strings_of.ensures.halts
