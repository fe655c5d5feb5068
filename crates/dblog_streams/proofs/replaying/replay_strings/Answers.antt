use Rattle.std.proofs.Common.{[], refl}
use Rattle.dbl_lines.specs.declared.status.Status.TheVariants.{StdoutFailed}
use Rattle.dblog_replay.specs.Masked.{masked_pieces}
use Rattle.dblog_replay.proofs.StreamLemmas.{reads_exist}
use Rattle.dblog_streams.proofs.ReplayRunLemmas.{printed_runs, cut_runs, starved_runs, printed_known, printed_no_output, printed_no_input}
use Rattle.dblog_streams.proofs.replaying.replay_strings.Goals as goal

pub returns-in-Ok-clause-told : goal.returns-in-Ok-clause-told
returns-in-Ok-clause-told g c = λ pieces read. printed_runs c.args.options c.args.now_ms.now (masked_pieces c.args.options.mask [] pieces) c.in-Ok.status _ _ (c.in-Ok.ensures.prints pieces read)

pub returns-in-Ok-clause-output_failed : goal.returns-in-Ok-clause-output_failed
returns-in-Ok-clause-output_failed g c = λ is.
    let some = reads_exist c.args.stream c.args.strings.items c.requires in
    absurd (printed_no_output c.args.options c.args.now_ms.now (masked_pieces c.args.options.mask [] some.0) c.in-Ok.status _ _ (c.in-Ok.ensures.prints some.0 some.1) is)

pub returns-in-Ok-clause-not_input : goal.returns-in-Ok-clause-not_input
returns-in-Ok-clause-not_input g c =
    let some = reads_exist c.args.stream c.args.strings.items c.requires in
    printed_no_input c.args.options c.args.now_ms.now (masked_pieces c.args.options.mask [] some.0) c.in-Ok.status _ _ (c.in-Ok.ensures.prints some.0 some.1)

pub returns-in-Ok-clause-known : goal.returns-in-Ok-clause-known
returns-in-Ok-clause-known g c =
    let some = reads_exist c.args.stream c.args.strings.items c.requires in
    printed_known c.args.options c.args.now_ms.now (masked_pieces c.args.options.mask [] some.0) c.in-Ok.status _ _ (c.in-Ok.ensures.prints some.0 some.1)

pub returns-in-Err-OutputFailed-clause-told : goal.returns-in-Err-OutputFailed-clause-told
returns-in-Err-OutputFailed-clause-told g c = λ pieces read.
    cut_runs c.args.options c.args.now_ms.now (masked_pieces c.args.options.mask [] pieces) StdoutFailed _ _ refl
    (rw c.in-Err-OutputFailed.field-0-is at (c.in-Err-OutputFailed.ensures.prints pieces read))

pub returns-in-Err-Memory-clause-told : goal.returns-in-Err-Memory-clause-told
returns-in-Err-Memory-clause-told g c = λ pieces read.
    starved_runs c.args.options c.args.now_ms.now (masked_pieces c.args.options.mask [] pieces) c.say.result _ _ _
    (rw c.in-Err-Memory.field-0-is at (c.in-Err-Memory.ensures.prints pieces read)) c.say.ensures.says
