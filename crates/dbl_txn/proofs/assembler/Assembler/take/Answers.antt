use Rattle.std.proofs.Common.{[], ◌++◌, ◌∙◌, refl, sym, ap, subst}
use Rattle.std.specs.Prelude.{Some, None}
use Rattle.std.proofs.lemmas.Result.{err_from_is_err_and}
use Rattle.dbl_model_table.specs.declared.change.Commit.{Commit}
use Rattle.dbl_model_table.specs.Heads.{commit_by}
use Rattle.dbl_model_commit.specs.declared.piece.Piece.{Piece}
use Rattle.dbl_model_commit.specs.declared.piece.Piece.TheVariants.{Nothing, Changed, Ended}
use Rattle.dbl_model_commit.specs.Pieces.{changes_so_far, with_piece}
use Rattle.dbl_txn_pieces.specs.declared.reader.PieceReader.{PieceReader}
use Rattle.dbl_txn_pieces.specs.Reading.{ReadPiece}
use Rattle.dbl_txn.specs.declared.assembler.Assembler.{Assembler}
use Rattle.dbl_txn.specs.Stands.{AreFlagged}
use Rattle.dbl_txn.proofs.Buffering.{whole_taken}
use Rattle.dbl_txn.proofs.assembler.Assembler.take.Goals as goal

pub returns-in_err-piece : goal.returns-in_err-piece
returns-in_err-piece c = λ infos after ms s. (
    let p = err_from_is_err_and c.from_residual.result c.from_residual.ensures.1 in
    rw (p.1, p.2) (c.in_err-piece.ensures.reads infos after ms s.reads))

pub returns-in-Nothing : goal.returns-in-Nothing
returns-in-Nothing c = λ infos after ms s. (
    let flags = c.in_ok-piece.ensures.flags (changes_so_far infos ms) s.flags in
    whole_taken infos after c.args.message ms c.args.self.now c.read.new.self Nothing None s
    (subst (λ (p : Piece). ReadPiece infos after c.args.message ms c.read.new.self.reader p) c.in-Nothing.is (c.in_ok-piece.ensures.reads infos after ms s.reads))
    (subst (λ (p : Piece). AreFlagged (with_piece (changes_so_far infos ms) p) c.read.new.self.changed.items) c.in-Nothing.is flags)
    (ap (λ v. v.items) c.read.ensures.buffered) refl)

pub returns-in_ok-buffer-in-Changed : goal.returns-in_ok-buffer-in-Changed
returns-in_ok-buffer-in-Changed c = λ infos after ms s. (
    let flags = c.in_ok-piece.ensures.flags (changes_so_far infos ms) s.flags in
    let now : Assembler = record c.read.new.self { buffered = c.buffer.new.buffered } in
    whole_taken infos after c.args.message ms c.args.self.now now (Changed c.in-Changed.changes) None s
    (subst (λ (p : Piece). ReadPiece infos after c.args.message ms c.read.new.self.reader p) c.in-Changed.is (c.in_ok-piece.ensures.reads infos after ms s.reads))
    (subst (λ (p : Piece). AreFlagged (with_piece (changes_so_far infos ms) p) c.read.new.self.changed.items) c.in-Changed.is flags)
    (c.in_ok-buffer-in-Changed.ensures ∙ ap (λ v. v.items ++ c.in-Changed.changes) c.read.ensures.buffered) refl)

pub returns-in-Ended : goal.returns-in-Ended
returns-in-Ended c = λ infos after ms s. (
    let flags = c.in_ok-piece.ensures.flags (changes_so_far infos ms) s.flags in
    whole_taken infos after c.args.message ms c.args.self.now c.end.new.self (Ended c.in-Ended.ended) (Some c.end.result) s
    (subst (λ (r : PieceReader). ReadPiece infos after c.args.message ms r (Ended c.in-Ended.ended)) (sym c.end.ensures.reader)
    (subst (λ (p : Piece). ReadPiece infos after c.args.message ms c.read.new.self.reader p) c.in-Ended.is (c.in_ok-piece.ensures.reads infos after ms s.reads)))
    (subst (λ v. AreFlagged [] v.items) (sym c.end.ensures.changed)
    (subst (λ (p : Piece). AreFlagged (with_piece (changes_so_far infos ms) p) c.read.new.self.changed.items) c.in-Ended.is flags))
    c.end.ensures.none (ap (λ (x : Commit). Some x) (c.end.ensures.commit ∙ ap (λ v. commit_by c.in-Ended.ended v.items) c.read.ensures.buffered)))
