use Rattle.std.proofs.Common.{[], ◌∷◌, ◌++◌, sym, subst}
use Rattle.dbl_model_commit.proofs.Reshaping.{open_stated_learnt}
use Rattle.dbl_txn_shapes.specs.Oids.{KnowsOids}
use Rattle.dbl_txn_shapes.proofs.OidLemmas.{oids_learnt}
use Rattle.dbl_txn_shapes.proofs.reader.ShapingAssembler.learn.Goals as goal

pub returns-clause-learnt : goal.returns-clause-learnt
returns-clause-learnt c = λ infos after ms s none. record {
  stands = c.in_ok-learn.ensures.whole infos after ms s.stands none;
  stated = open_stated_learnt infos c.args.info ms none s.stated;
  oids = subst (KnowsOids (infos ++ c.args.info ∷ []) ms) (sym c.in_ok-push.ensures.items) (oids_learnt infos ms c.args.self.now.oids.items
      c.args.info s.oids none);
}

pub returns-clause-pieces : goal.returns-clause-pieces
returns-clause-pieces c = λ infos after ms s none. record {
  stands = c.in_ok-learn.ensures.learnt infos after ms [] s.stands none;
  stated = open_stated_learnt infos c.args.info ms none s.stated;
  oids = subst (KnowsOids (infos ++ c.args.info ∷ []) ms) (sym c.in_ok-push.ensures.items) (oids_learnt infos ms c.args.self.now.oids.items
      c.args.info s.oids none);
}
