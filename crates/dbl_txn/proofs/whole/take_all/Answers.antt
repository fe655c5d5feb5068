use Rattle.std.proofs.Common.{arith, sym, ◌∙◌, ap, subst, List, [], ◌≡◌}
use Rattle.std.proofs.lemmas.Result.{err_from_is_err_and}
use Rattle.std.specs.Vec.Iter.{into_iter_items}
use Rattle.dbl_pgmsg.specs.declared.messages.Message.{Message}
use Rattle.dbl_model_table.specs.declared.change.Commit.{Commit}
use Rattle.dbl_model_commit.specs.Stated.{commits_of}
use Rattle.dbl_model_commit.specs.Blocks.{States}
use Rattle.dbl_model_commit.proofs.Splitting.{faultless_states}
use Rattle.dbl_txn.specs.Stands.{StandsWhole}
use Rattle.dbl_txn_pieces.proofs.TxnChangesLoops.{no_items}
use Rattle.dbl_txn.proofs.Wholes.{one_more, stopped, at_end, end_clean}
use Rattle.dbl_txn.proofs.whole.take_all.Goals as goal

pub returns-in_err-ended-clause-refused : goal.returns-in_err-ended-clause-refused
returns-in_err-ended-clause-refused c = λ infos after ms s. (
    let t = c.loop-message.invariant infos after ms s in
    let p = err_from_is_err_and c.from_residual.result c.from_residual.ensures.1 in
    rw (p.1, p.2) (stopped infos after ms c.args.messages.items c.in-Some.message (into_iter_items c.loop-message.message-iterator) (into_iter_items c.next.new.self) c.loop-message.assembler c.loop-message.commits.items c.in_err-ended.field-0.0 t
    c.in-Some.ensures.steps.0 (c.in_err-ended.ensures infos after t.now t.stands)))

pub loop-message-preserved : goal.loop-message-preserved
loop-message-preserved c = λ infos after ms s. (
    let t = c.loop-message.invariant infos after ms s in
    rw c.in_ok-keep.ensures (one_more infos after ms c.args.messages.items c.in-Some.message (into_iter_items c.loop-message.message-iterator) (into_iter_items c.next.new.self) c.loop-message.assembler c.take.new.self c.loop-message.commits.items c.in_ok-ended.ended t
    c.in-Some.ensures.steps.0 (c.in_ok-ended.ensures infos after t.now t.stands)))

pub returns-clause-stands : goal.returns-clause-stands
returns-clause-stands c = λ infos after ms s. (
    let t = c.loop-message.invariant infos after ms s in
    let none : into_iter_items c.loop-message.message-iterator ≡ [] = no_items (into_iter_items c.loop-message.message-iterator) (omega (arith, c.in-None.ensures.steps.0, c.loop-message.message-iterator.rest.ok)) in
    subst (λ (l : List Message). StandsWhole infos after l c.loop-message.assembler) (at_end infos after ms c.args.messages.items (into_iter_items c.loop-message.message-iterator) c.loop-message.assembler c.loop-message.commits.items t none) t.stands)

pub returns-clause-commits : goal.returns-clause-commits
returns-clause-commits c = λ infos after ms s. (
    let t = c.loop-message.invariant infos after ms s in
    let none : into_iter_items c.loop-message.message-iterator ≡ [] = no_items (into_iter_items c.loop-message.message-iterator) (omega (arith, c.in-None.ensures.steps.0, c.loop-message.message-iterator.rest.ok)) in
    ap (commits_of infos) (sym (at_end infos after ms c.args.messages.items (into_iter_items c.loop-message.message-iterator) c.loop-message.assembler c.loop-message.commits.items t none)) ∙ t.commits)

pub returns-clause-clean : goal.returns-clause-clean
returns-clause-clean c = λ infos after ms s. (
    let t = c.loop-message.invariant infos after ms s in
    let none : into_iter_items c.loop-message.message-iterator ≡ [] = no_items (into_iter_items c.loop-message.message-iterator) (omega (arith, c.in-None.ensures.steps.0, c.loop-message.message-iterator.rest.ok)) in
    end_clean infos after ms c.args.messages.items (into_iter_items c.loop-message.message-iterator) c.loop-message.assembler c.loop-message.commits.items t none)

pub returns-clause-blocks : goal.returns-clause-blocks
returns-clause-blocks c = λ infos after s. (
    let t = c.loop-message.invariant infos after [] s in
    let none : into_iter_items c.loop-message.message-iterator ≡ [] = no_items (into_iter_items c.loop-message.message-iterator) (omega (arith, c.in-None.ensures.steps.0, c.loop-message.message-iterator.rest.ok)) in
    let found = faultless_states infos after c.args.messages.items (end_clean infos after [] c.args.messages.items (into_iter_items c.loop-message.message-iterator) c.loop-message.assembler c.loop-message.commits.items t none) in (
      found.0,
      subst (λ (cs : List Commit). States infos c.args.messages.items cs found.0)
          (ap (commits_of infos) (sym (at_end infos after [] c.args.messages.items (into_iter_items c.loop-message.message-iterator) c.loop-message.assembler c.loop-message.commits.items t none)) ∙ t.commits) found.1,
    ))
