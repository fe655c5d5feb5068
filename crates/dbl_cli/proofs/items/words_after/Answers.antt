use Rattle.std.proofs.Common.{[], ◌∙◌, sym, ap, drop, Bool, arith, ◌+◌, cond, Some, None, length}
use Rattle.std.proofs.lemmas.List.{drop_all}
use Rattle.dbl_cli.specs.Checks.{words_after}
use Rattle.dbl_cli.specs.Names.{all_named, texts}
use Rattle.dbl_cli.specs.declared.items.Next.TheVariants.{Item, Value, Stop, Bad}
use Rattle.dbl_cli.proofs.CheckLemmas.{after_step, after_end}
use Rattle.dbl_cli.proofs.items.words_after.Goals as goal
use Rattle.dbl_cli.proofs.items.words_after.Goals.{in-Item, in-Value}

pub returns-in-Stop-clause-words : goal.returns-in-Stop-clause-words
returns-in-Stop-clause-words c = sym (c.loop-i.invariant ∙ after_step _ c.loop-i.waits c.args.words.now c.loop-i.i _ Stop c.loop-i-test.true c.in-Stop.ensures)

pub returns-in-Bad-clause-words : goal.returns-in-Bad-clause-words
returns-in-Bad-clause-words c = sym (c.loop-i.invariant ∙ after_step _ c.loop-i.waits c.args.words.now c.loop-i.i _ Bad c.loop-i-test.true c.in-Bad.ensures)

pub loop-i-preserved : goal.loop-i-preserved
loop-i-preserved c = elim c.match-next_of.branch [
  | in-Item w ↦
      c.loop-i.invariant ∙ after_step _ c.loop-i.waits c.args.words.now c.loop-i.i _ Item c.loop-i-test.true w.in-Item.ensures
      ∙ ap (λ (b : Bool). words_after (all_named c.args.names.now) b (texts (drop (c.loop-i.i + 1) c.args.words.now))) (sym w.waits-is)
  | in-Value w ↦
      c.loop-i.invariant ∙ after_step _ c.loop-i.waits c.args.words.now c.loop-i.i _ Value c.loop-i-test.true w.in-Value.ensures
      ∙ ap (λ (b : Bool). words_after (all_named c.args.names.now) b (texts (drop (c.loop-i.i + 1) c.args.words.now))) (sym w.waits-is)
]

pub returns-then-waits-clause-words : goal.returns-then-waits-clause-words
returns-then-waits-clause-words c =
    sym (c.loop-i.invariant ∙ after_end _ c.loop-i.waits c.args.words.now c.loop-i.i c.loop-i-test.false ∙ ap (λ b. cond b None (Some [])) c.if-waits.true)

pub returns-else-waits-clause-words : goal.returns-else-waits-clause-words
returns-else-waits-clause-words c =
    ap (λ l. Some (texts l)) (drop_all (length c.args.words.now) c.args.words.now (omega arith))
    ∙ sym (c.loop-i.invariant ∙ after_end _ c.loop-i.waits c.args.words.now c.loop-i.i c.loop-i-test.false ∙ ap (λ b. cond b None (Some [])) c.if-waits.false)
