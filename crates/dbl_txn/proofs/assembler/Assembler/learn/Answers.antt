use Rattle.std.proofs.Common.{refl}
use Rattle.std.proofs.lemmas.Result.{on_ok_weaker, on_err_weaker}
use Rattle.dbl_txn.specs.declared.assembler.Assembler.{Assembler}
use Rattle.dbl_txn.proofs.Buffering.{flags_learnt, whole_learnt}
use Rattle.dbl_txn.proofs.assembler.Assembler.learn.Goals as goal

pub returns-clause-learnt : goal.returns-clause-learnt
returns-clause-learnt c = λ infos after ms held s none. (
    let now : Assembler = record c.args.self.now { reader = c.learn.new.self } in
    on_ok_weaker c.learn.result (λ reads. record {
      reads = reads;
      buffers = s.buffers;
      flags = flags_learnt infos c.args.info after ms held c.args.self.now now s none refl;
    }) (c.learn.ensures.learnt infos after ms s.reads none))

pub returns-clause-whole : goal.returns-clause-whole
returns-clause-whole c = λ infos after ms s none. (
    let now : Assembler = record c.args.self.now { reader = c.learn.new.self } in
    on_ok_weaker c.learn.result (λ reads. whole_learnt infos c.args.info after ms c.args.self.now now s none refl refl reads)
    (c.learn.ensures.learnt infos after ms s.reads none))

pub returns-clause-kept : goal.returns-clause-kept
returns-clause-kept c = λ infos after ms held s. (
    on_err_weaker c.learn.result (λ reads. record { reads = reads; buffers = s.buffers; flags = s.flags }) (c.learn.ensures.kept infos after ms s.reads))
