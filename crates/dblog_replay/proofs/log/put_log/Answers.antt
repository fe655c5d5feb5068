use Rattle.dbl_lines.proofs.PutLemmas.{putting_begins, putting_starves}
use Rattle.dblog_replay.proofs.log.put_log.Goals as goal

pub returns-in-Err-clause-puts : goal.returns-in-Err-clause-puts
returns-in-Err-clause-puts g c =
    λ pieces read lines end writes. putting_starves lines lines c.args.lines.now c.args.lines.now _ _
    (putting_begins lines c.args.lines.now (g.O.Output.written c.args.output.now))

pub put_strings-result-requires : goal.put_strings-result-requires
put_strings-result-requires g c = (c.args.options, c.in-Ok.ensures)

pub returns-clause-puts : goal.returns-clause-puts
returns-clause-puts g c = λ pieces read. c.put_strings-result.ensures.puts c.args.options pieces c.in-Ok.ensures read
