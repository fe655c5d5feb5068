use Rattle.std.proofs.Common.{refl}
use Rattle.std.specs.Vec.{with_item}
use Rattle.dbl_txn_pieces.specs.declared.reader.PieceReader.{PieceReader}
use Rattle.dbl_txn_pieces.proofs.Steps.{reads_reshaped}
use Rattle.dbl_txn_pieces.proofs.reader.PieceReader.reshape.Goals as goal

pub returns-then-place-len : goal.returns-then-place-len
returns-then-place-len c = λ infos after ms old s at name all none. (
    let now : PieceReader = record {
      infos = with_item c.args.self.now.infos c.args.table c.args.info;
      last = c.args.self.now.last;
      relations = c.args.self.now.relations;
      block = c.args.self.now.block;
    } in
    reads_reshaped infos c.args.table old c.args.info after ms c.args.self.now now s at name all none refl refl refl refl)
