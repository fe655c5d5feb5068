use Rattle.std.proofs.Common.{◌≡◌, ◌∙◌, [], length, ap, arith}
use Rattle.dbl_source_log.specs.Numbers.{lsn_of}
use Rattle.dbl_source_scripted.specs.Played.{Played}
use Rattle.dbl_source_scripted.proofs.AlterLemmas.{length-filled}
use Rattle.dbl_source_scripted.proofs.scripted.ScriptedSource.last_lsn.Goals as goal

pub lsn_of-requires : goal.lsn_of-requires
lsn_of-requires c =
    let i = c.self.inside in
    omega (arith, c.len.ensures, i.log.ok.0, length-filled i.tables.items [] i.log.items, c.self.invariant.0.few)

pub returns : goal.returns
returns c =
    let i = c.self.inside in
    let long : c.len.result ≡ length c.args.self.now.log =
    omega (arith, c.len.ensures, i.log.ok.0, length-filled i.tables.items [] i.log.items, ap (λ (p : Played). length p.log) c.self.view_is) in
    c.lsn_of.ensures ∙ ap lsn_of long
