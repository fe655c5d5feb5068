use Rattle.std.proofs.Common.{[], length, ap, arith}
use Rattle.dbl_source_scripted.specs.Played.{Played}
use Rattle.dbl_source_scripted.proofs.AlterLemmas.{length-filled}
use Rattle.dbl_source_scripted.proofs.scripted.ScriptedSource.count.Goals as goal

pub returns : goal.returns
returns c =
    let i = c.self.inside in
    omega (arith, c.len.ensures, i.log.ok.0, length-filled i.tables.items [] i.log.items, ap (λ (p : Played). length p.log) c.self.view_is)
