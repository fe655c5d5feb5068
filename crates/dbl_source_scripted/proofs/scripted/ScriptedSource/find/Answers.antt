use Rattle.std.proofs.Common.{◌≡◌, ◌∙◌, [], List, length, sym, ap, subst, arith}
use Rattle.dbl_source_log.specs.declared.logged.LogTable.{LogTable}
use Rattle.dbl_source_log.specs.declared.logged.Logged.{Logged}
use Rattle.dbl_source_log.specs.Alterations.{tables_through, HaveVersions}
use Rattle.dbl_source_log.specs.Histories.{history_of}
use Rattle.dbl_source_log.specs.Numbers.{commit_limit}
use Rattle.dbl_source_model.specs.ModelHistory.History.{entry_of}
use Rattle.dbl_source.specs.LogStates.{entry_at}
use Rattle.dbl_source_scripted.specs.Exits.{IsFound}
use Rattle.dbl_source_scripted.specs.Played.{Played, tables_now}
use Rattle.dbl_source_scripted.specs.Fields.{played_of}
use Rattle.dbl_source_scripted.proofs.AlterLemmas.{length-filled}
use Rattle.dbl_source_scripted.proofs.FilledLemmas.{through_filled, fewer_versions}
use Rattle.dbl_source_scripted.proofs.scripted.ScriptedSource.find.Goals as goal

pub tables_through-requires : goal.tables_through-requires
tables_through-requires c =
    let i = c.self.inside in
    subst (λ (l : List Logged). HaveVersions (length l) c.deref-2.result.now) (sym c.deref.ensures.value)
    (subst (HaveVersions (length i.log.items)) (sym c.deref-2.ensures.value)
    (fewer_versions (length i.log.items) commit_limit i.tables.items (omega (arith, c.self.invariant.0.few, length-filled i.tables.items [] i.log.items)) c.self.invariant.0.versions))

pub returns-clause-ok : goal.returns-clause-ok
returns-clause-ok c =
    let i = c.self.inside in
    let now : c.in_ok-tables.tables.items ≡ tables_now (played_of i) =
    c.in_ok-tables.ensures
    ∙ ap (λ (l : List Logged). tables_through l c.deref-2.result.now) c.deref.ensures.value
    ∙ ap (tables_through i.log.items) c.deref-2.ensures.value
    ∙ sym (through_filled i.tables.items i.tables.items [] i.log.items) in
    let found : IsFound c.args.name.now c.in_ok-tables.tables.items (c.place_of-place.result, c.in_ok-entry_at.field-0) = record {
      there = c.in_ok-entry_at.ensures ∙ ap (λ (ts : List LogTable). entry_at ts c.place_of-place.result) c.deref-4.ensures.value;
      named = subst (λ (ts : List LogTable). entry_at ts c.place_of-place.result ≡ entry_of (history_of ts []) c.args.name.now) c.deref-3.ensures.value c.place_of-place.ensures;
    } in
    subst (λ (p : Played). IsFound c.args.name.now (tables_now p) (c.place_of-place.result, c.in_ok-entry_at.field-0)) c.self.view_is
    (subst (λ (ts : List LogTable). IsFound c.args.name.now ts (c.place_of-place.result, c.in_ok-entry_at.field-0)) now found)
