-- One more message.
use Rattle.std.proofs.Common.{◌≡◌, ◌∙◌, ℕ, ℤ, List, [], ◌∷◌, ◌++◌, refl, sym, ap, subst, eq-eqb}
use Rattle.std.specs.Prelude.{Bool, false, if◌then◌else◌, Option, Some, None, is_some, option_map, nat_eq, slice_get, slice_set}
use Rattle.std.specs.HashMap.{get}
use Rattle.dbl_base.specs.declared.lsn.Lsn.{Lsn}
use Rattle.dbl_pgmsg.specs.declared.messages.Message.{Message}
use Rattle.dbl_pgmsg.specs.declared.messages.Message.TheVariants as says
use Rattle.dbl_model_table.specs.declared.change.Change.{Change}
use Rattle.dbl_model_table.specs.declared.table.TableInfo.{TableInfo}
use Rattle.dbl_model_commit.specs.declared.message_parts.Relation.{Relation}
use Rattle.dbl_model_commit.specs.declared.message_parts.RowChange.{RowChange}
use Rattle.dbl_model_commit.specs.declared.message_parts.RowChange.TheVariants as row
use Rattle.dbl_model_commit.specs.declared.piece.Piece.TheVariants.{Ended}
use Rattle.dbl_model_commit.specs.declared.txn_error.TxnError.{TxnError}
use Rattle.dbl_model_commit.specs.declared.txn_error.TxnError.TheVariants as errors
use Rattle.dbl_model_commit.specs.Past.{relation_of, Head, begin_of, open_mark, HasNoRelation}
use Rattle.dbl_model_commit.specs.Stated.{has_some, open_changes, ended_commit, mismatch, first_of, commit_of}
use Rattle.dbl_model_commit.specs.Pieces.{piece_of, changes_so_far}
use Rattle.dbl_model_commit.specs.Shapes.{changes_table, IsOpenStated}
use Rattle.dbl_model_commit.proofs.Learning.{changes_learnt, other_relation, target_learnt}
use Rattle.dbl_model_commit.proofs.PieceLemmas.{stated_piece}
use Rattle.dbl_model_commit.proofs.Reshaping.{target_stays, open_stays}
use Rattle.dbl_txn_changes.specs.KnownTables.{known_in}
use Rattle.dbl_txn_pieces.specs.declared.reader.Block.{Block}
use Rattle.dbl_txn_pieces.specs.declared.reader.PieceReader.{PieceReader}
use Rattle.dbl_txn_pieces.specs.Reading.{message_of, IsBlock, IsOpen, HasReadMessages, ReadPiece, StatedChanges}

-- the Begin of an open transaction
pub record IsBegun (o : Option Head) (mark : Option (List ℕ)) (changed : Bool) (block : Block) : Type 0 where
  pub head : Head
  pub found : o ≡ Some head
  pub is : IsBlock mark changed head block

begun : (o : Option Head) (mark : Option (List ℕ)) (changed : Bool) (block : Block) → IsOpen mark changed o (Some block) → IsBegun o mark changed block
begun None mark changed block h = absurd h
begun (Some head) mark changed block h = record { head = head; found = refl; is = h }

-- the head of the block is that of the open transaction
pub heads_are : (mark : Option (List ℕ)) (changed : Bool) (o : Option Head) (block : Block) → IsOpen mark changed o (Some block) → Some block.head ≡ o
heads_are mark changed None block h = absurd h
heads_are mark changed (Some head) block h = ap (λ (x : Head). Some x) h.head_is

pub none_open : (mark : Option (List ℕ)) (changed : Bool) (o : Option Head) → IsOpen mark changed o None → None ≡ o
none_open mark changed None h = refl
none_open mark changed (Some head) h = absurd h

open_with : (infos : List TableInfo) (after : Lsn) (ms : List Message) (r : PieceReader) (block : Block) → HasReadMessages infos after ms r
    → r.block ≡ Some block
    → IsBegun (begin_of ms) (open_mark ms) (has_some (open_changes infos ms)) block
open_with infos after ms r block s was =
    begun (begin_of ms) (open_mark ms) (has_some (open_changes infos ms)) block
    (subst (IsOpen (open_mark ms) (has_some (open_changes infos ms)) (begin_of ms)) was s.block)

matched : (o : Option Head) (head : Head) (lsn : Lsn) (e : TxnError) → o ≡ Some head → head.lsn.0 ≡ lsn.0
    → first_of (if is_some o then None else Some e) (mismatch o lsn) ≡ None
matched o head lsn e found is = rw found (rw (eq-eqb head.lsn.0 lsn.0 is) refl)

-- a Commit with the Begin's LSN
pub committed : (infos : List TableInfo) (after : Lsn) (ms : List Message) (r : PieceReader) (block : Block) (flags : ℕ) (lsn end_lsn : Lsn) (time : ℤ)
    → HasReadMessages infos after ms r → r.block ≡ Some block → block.head.lsn.0 ≡ lsn.0
    → ReadPiece infos after (says.Commit flags lsn end_lsn time) ms (record { infos = r.infos; last = lsn; relations = r.relations; block = None })
    (Ended (record { head = block.head; end_lsn = end_lsn; mark = block.mark }))
committed infos after ms r block flags lsn end_lsn time s was same =
    let b = open_with infos after ms r block s was in
    let changes = open_changes infos ms in
    let heads : b.head.lsn.0 ≡ lsn.0 = sym (ap (λ (h : Head). h.lsn.0) b.is.head_is) ∙ same in
    let lsns : lsn ≡ block.head.lsn = ap (λ (n : ℕ). let l : Lsn = record { 0 = n } in l) (sym same) in
    record {
      clean = matched (begin_of ms) b.head lsn errors.OutsideTransaction b.found heads;
      is = ap (option_map (commit_of lsn end_lsn (open_mark ms) changes)) b.found
          ∙ ap (λ (h : Head). Some (commit_of lsn end_lsn (open_mark ms) changes h)) (sym b.is.head_is)
          ∙ ap (λ (l : Lsn). Some (commit_of l end_lsn (open_mark ms) changes block.head)) lsns
          ∙ ap (λ (m : Option (List ℕ)). Some (commit_of block.head.lsn end_lsn m changes block.head)) (sym b.is.mark_is);
      reads = record { tables = s.tables; last = refl; relations = s.relations; block = tt };
    }

row_ends_none : (infos : List TableInfo) (oid : ℕ) (change : RowChange) (ms : List Message) → ended_commit infos (message_of oid change) ms ≡ None
row_ends_none infos oid (row.Insert new) ms = refl
row_ends_none infos oid (row.Update before new) ms = refl
row_ends_none infos oid (row.Delete before) ms = refl

-- the piece of a row message
pub row_read : (infos : List TableInfo) (after : Lsn) (ms : List Message) (r : PieceReader) (oid : ℕ) (change : RowChange) (changes : List Change)
    → StatedChanges infos after (message_of oid change) ms r changes → ReadPiece infos after (message_of oid change) ms r (piece_of changes)
row_read infos after ms r oid change changes said = record {
  clean = said.clean;
  is = stated_piece infos (message_of oid change) ms changes said.some (row_ends_none infos oid change ms);
  reads = said.reads;
}

-- the piece of a Truncate
pub truncate_read : (infos : List TableInfo) (after : Lsn) (ms : List Message) (r : PieceReader) (options : ℕ) (oids : List ℕ) (changes : List Change)
    → StatedChanges infos after (says.Truncate options oids) ms r changes → ReadPiece infos after (says.Truncate options oids) ms r (piece_of changes)
truncate_read infos after ms r options oids changes said = record {
  clean = said.clean;
  is = stated_piece infos (says.Truncate options oids) ms changes said.some refl;
  reads = said.reads;
}

known_learnt : (infos : List TableInfo) (info : TableInfo) (o : Option Relation) → ((r : Relation) → o ≡ Some r → ¬ (r.name ≡ info.name))
    → option_map (known_in infos) o ≡ option_map (known_in (infos ++ info ∷ [])) o
known_learnt infos info None other = refl
known_learnt infos info (Some r) other = ap (λ t. Some (record { relation = r; target = t })) (sym (target_learnt infos info r.name (other r refl)))

-- one more table was learnt
pub reads_learnt : (infos : List TableInfo) (info : TableInfo) (after : Lsn) (ms : List Message) (a b : PieceReader) → HasReadMessages infos after ms a
    → HasNoRelation info.name ms
    → b.infos.items ≡ a.infos.items ++ info ∷ [] → b.last ≡ a.last → b.relations ≡ a.relations → b.block ≡ a.block
    → HasReadMessages (infos ++ info ∷ []) after ms b
reads_learnt infos info after ms a b s none is last relations block = record {
  tables = is ∙ ap (λ (l : List TableInfo). l ++ info ∷ []) s.tables;
  last = last ∙ s.last;
  relations = λ oid. subst (λ m. get nat_eq m oid ≡ option_map (known_in (infos ++ info ∷ [])) (relation_of oid ms)) (sym relations)
      (s.relations oid ∙ known_learnt infos info (relation_of oid ms) (other_relation info.name oid ms none));
  block = subst (λ (cs : List Change). IsOpen (open_mark ms) (has_some cs) (begin_of ms) b.block) (sym (changes_learnt infos info ms none))
      (subst (IsOpen (open_mark ms) (has_some (open_changes infos ms)) (begin_of ms)) (sym block) s.block);
}

known_reshaped : (infos : List TableInfo) (table : ℕ) (old new : TableInfo) → slice_get infos table ≡ Some old → new.name ≡ old.name → (o : Option Relation)
    → option_map (known_in infos) o ≡ option_map (known_in (slice_set infos table new)) o
known_reshaped infos table old new at name None = refl
known_reshaped infos table old new at name (Some r) = ap (λ t. Some (record { relation = r; target = t })) (sym (target_stays infos table old new at name r.name))

open_reshaped : (mark : Option (List ℕ)) (o : Option Head) (before now : List Change) (block : Option Block) → ((head : Head) → o ≡ Some head → now ≡ before)
    → IsOpen mark (has_some before) o block → IsOpen mark (has_some now) o block
open_reshaped mark None before now None same is = is
open_reshaped mark None before now (Some block) same is = is
open_reshaped mark (Some head) before now None same is = is
open_reshaped mark (Some head) before now (Some block) same is = subst (λ (cs : List Change). IsBlock mark (has_some cs) head block) (sym (same head refl)) is

-- a table got other columns
pub reads_reshaped : (infos : List TableInfo) (table : ℕ) (old new : TableInfo) (after : Lsn) (ms : List Message) (a b : PieceReader) → HasReadMessages infos after ms a
    → slice_get infos table ≡ Some old → new.name ≡ old.name → IsOpenStated infos ms → changes_table table (changes_so_far infos ms) ≡ false
    → b.infos.items ≡ slice_set a.infos.items table new → b.last ≡ a.last → b.relations ≡ a.relations → b.block ≡ a.block
    → HasReadMessages (slice_set infos table new) after ms b
reads_reshaped infos table old new after ms a b s at name all none is last relations block = record {
  tables = is ∙ ap (λ (l : List TableInfo). slice_set l table new) s.tables;
  last = last ∙ s.last;
  relations = λ oid. subst (λ m. get nat_eq m oid ≡ option_map (known_in (slice_set infos table new)) (relation_of oid ms)) (sym relations)
      (s.relations oid ∙ known_reshaped infos table old new at name (relation_of oid ms));
  block = open_reshaped (open_mark ms) (begin_of ms) (open_changes infos ms) (open_changes (slice_set infos table new) ms) b.block
      (λ head begun. (open_stays infos table old new at name ms all none head begun).0)
      (subst (IsOpen (open_mark ms) (has_some (open_changes infos ms)) (begin_of ms)) (sym block) s.block);
}
