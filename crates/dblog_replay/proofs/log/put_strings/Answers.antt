use Rattle.std.proofs.Common.{Bool, subst}
use Rattle.dblog_replay.specs.Streams.{ReadsPieces}
use Rattle.dblog_replay.proofs.log.put_strings.Goals as goal

pub returns-then-stream-clause-puts : goal.returns-then-stream-clause-puts
returns-then-stream-clause-puts g c = λ options pieces follows read. c.put_streamed.ensures.puts options pieces follows
    (subst (λ (b : Bool). ReadsPieces b c.args.strings.items pieces) c.if-stream.true read)

pub returns-clause-puts : goal.returns-clause-puts
returns-clause-puts g c = λ options pieces follows read. c.put_messages.ensures.puts options pieces follows
    (subst (λ (b : Bool). ReadsPieces b c.args.strings.items pieces) c.if-stream.false read)
