use Rattle.std.proofs.Common.{List, [], refl, sym, subst}
use Rattle.dbl_model_table.specs.declared.table.TableInfo.{TableInfo}
use Rattle.dbl_txn.specs.Stands.{Stands}
use Rattle.dbl_txn_shapes.specs.Oids.{KnowsOids}
use Rattle.dbl_txn_shapes.proofs.reader.ShapingAssembler.make.Goals as goal

pub returns : goal.returns
returns c = record {
  stands = subst (λ (i : List TableInfo). Stands i c.args.after [] [] c.make.result) c.new.ensures.items (c.make.ensures []);
  stated = λ head begun. tt;
  oids = subst (KnowsOids [] []) (sym c.new-2.ensures.items) (record { long = refl; each = λ name place no_mark at. absurd (cc) });
}
