use Rattle.std.proofs.Common.{◌≡◌, ◌≤◌, List, Some, length, arith, ap, refl, sym, subst}
use Rattle.std.specs.Prelude.{slice_get}
use Rattle.std.proofs.lemmas.Bool.Decides.{Decides-ltb}
use Rattle.std.proofs.lemmas.Option.{slice_get_read, slice_get_past}
use Rattle.std.proofs.lemmas.Result.{IfOk-weaker}
use Rattle.dbl_model_table.specs.declared.table.TableInfo.{TableInfo}
use Rattle.cases_ages.proofs.PlainAgeLemmas.{fails}
use Rattle.cases_ages.proofs.ToldLemmas.{told_in_table, untold_elsewhere}
use Rattle.cases_ages.proofs.progress.is_told.Goals as goal

pub returns-in-Some : goal.returns-in-Some
returns-in-Some c =
    let infos : c.deref.result.now ≡ c.args.log.now.infos.now.items = c.deref.ensures.value in
    let at : slice_get c.args.log.now.infos.now.items c.args.table ≡ Some c.in-Some.info.now =
    subst (λ (l : List TableInfo). slice_get l c.args.table ≡ Some c.in-Some.info.now) infos
    (slice_get_read c.deref.result.now (length c.deref.result.now) c.args.table c.in-Some.info.now refl
    ((Decides-ltb c.args.table (length c.deref.result.now)).0 (sym c.in-Some.ensures.lookup.0)) c.in-Some.ensures.lookup.1) in
    IfOk-weaker c.is_told_in.result _ _
    (λ told t. told_in_table c.args.log.now.identity.now c.args.log.now.infos.now.items c.args.table c.args.log.now.records.now.items c.args.key.now c.args.log.now.said.now.items c.in-Some.info.now told at t)
    c.is_told_in.ensures

pub returns-in-None : goal.returns-in-None
returns-in-None c =
    let past : length c.args.log.now.infos.now.items ≤ c.args.table = omega (arith, c.in-None.ensures.lookup.3, ap length c.deref.ensures.value) in
    fails (untold_elsewhere c.args.log.now.identity.now c.args.log.now.infos.now.items c.args.table c.args.log.now.records.now.items c.args.key.now c.args.log.now.said.now.items
    (slice_get_past c.args.log.now.infos.now.items c.args.table past))
