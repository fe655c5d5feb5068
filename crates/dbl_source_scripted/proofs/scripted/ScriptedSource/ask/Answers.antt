use Rattle.std.proofs.Common.{◌≡◌, ◌∙◌, ◌++◌, ◌∷◌, [], ℕ, List, length, ap, arith}
use Rattle.std.specs.Prelude.{option_copied}
use Rattle.dbl_source_scripted.specs.declared.asked.Asked.{Asked}
use Rattle.dbl_source_scripted.specs.AlteredRows.{filled}
use Rattle.dbl_source_scripted.specs.Played.{Played, question_of}
use Rattle.dbl_source_scripted.specs.Fields.{played_of}
use Rattle.dbl_source_scripted.proofs.AlterLemmas.{length-filled}
use Rattle.dbl_source_scripted.proofs.KeptLemmas.{played_asked}
use Rattle.dbl_source_scripted.proofs.scripted.ScriptedSource.ask.Goals as goal

pub invariant_of-self-2 : goal.invariant_of-self-2
invariant_of-self-2 c =
    let i = c.self.inside in
    let log = filled i.tables.items [] i.log.items in (
      played_asked i.tables.items log i.asked.items c.push.new.self.items c.in_ok-asked.asked i.place i.described c.in_ok-push.ensures.items
          (omega (arith, ap (λ (q : Asked). q.upto) c.in_ok-asked.ensures, c.len.ensures, i.log.ok.0, length-filled i.tables.items [] i.log.items)) c.self.invariant.0,
      c.self.invariant.1,
    )

pub returns-clause-ok : goal.returns-clause-ok
returns-clause-ok c =
    let i = c.self.inside in
    let upto : c.len.result ≡ length (filled i.tables.items [] i.log.items) = omega (arith, c.len.ensures, i.log.ok.0, length-filled i.tables.items [] i.log.items) in
    let asks : ℕ → Asked = question_of c.args.table.now (option_copied c.args.above) c.args.limit c.args.from in
    ap (λ (asked : List Asked). record (played_of i) { asked = asked }) (c.in_ok-push.ensures.items ∙ ap (λ (q : Asked). i.asked.items ++ q ∷ []) (c.in_ok-asked.ensures ∙ ap asks upto))
    ∙ ap (λ (p : Played). record p { asked = p.asked ++ asks (length p.log) ∷ [] }) c.self.view_is
