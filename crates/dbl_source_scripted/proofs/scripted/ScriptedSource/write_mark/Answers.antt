use Rattle.std.proofs.Common.{◌∙◌, ◌++◌, ◌∷◌, [], ℕ, List, length, ap, arith}
use Rattle.dbl_source_log.specs.declared.logged.Logged.{Logged}
use Rattle.dbl_source_log.specs.declared.logged.Logged.TheVariants.{Mark}
use Rattle.dbl_source_scripted.specs.AlteredRows.{filled}
use Rattle.dbl_source_scripted.specs.Played.{Played}
use Rattle.dbl_source_scripted.specs.Fields.{played_of}
use Rattle.dbl_source_scripted.proofs.AlterLemmas.{filled_more}
use Rattle.dbl_source_scripted.proofs.KeptLemmas.{played_marked}
use Rattle.dbl_source_scripted.proofs.scripted.ScriptedSource.write_mark.Goals as goal

pub invariant_of-self-2 : goal.invariant_of-self-2
invariant_of-self-2 c =
    let i = c.self.inside in (
      played_marked i.tables.items (filled i.tables.items [] i.log.items) (filled i.tables.items [] c.push.new.self.items) i.asked.items i.place i.described c.args.value.now
          (filled_more i.tables.items i.log.items (Mark c.args.value.now ∷ []) c.push.new.self.items (c.in_ok-push.ensures.items ∙ ap (λ (v : List ℕ). i.log.items ++ Mark v ∷ []) c.in_ok-copied.ensures))
          (omega (arith, c.requires, ap (λ (p : Played). length p.log) c.self.view_is)) c.self.invariant.0,
      c.self.invariant.1,
    )

pub returns-clause-ok : goal.returns-clause-ok
returns-clause-ok c =
    let i = c.self.inside in
    ap (λ (log : List Logged). record (played_of i) { log = log })
    (filled_more i.tables.items i.log.items (Mark c.args.value.now ∷ []) c.push.new.self.items (c.in_ok-push.ensures.items ∙ ap (λ (v : List ℕ). i.log.items ++ Mark v ∷ []) c.in_ok-copied.ensures))
    ∙ ap (λ (p : Played). record p { log = p.log ++ Mark c.args.value.now ∷ [] }) c.self.view_is
