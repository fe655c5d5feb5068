-- Pieces joined one after another, and the one piece of a message.
use Rattle.std.proofs.Common.{◌≡◌, ◌∙◌, ℕ, List, [], ◌∷◌, ◌++◌, refl, sym, ap, append_assoc}
use Rattle.std.proofs.lemmas.List.{append-nil}
use Rattle.std.specs.Prelude.{if◌then◌else◌, Option, Some, None, is_some, option_map, Result, Ok}
use Rattle.dbl_base.specs.declared.lsn.Lsn.{Lsn}
use Rattle.dbl_pgmsg.specs.declared.messages.Message.{Message}
use Rattle.dbl_pgmsg.specs.declared.messages.Message.TheVariants as says
use Rattle.dbl_model_table.specs.declared.table.TableInfo.{TableInfo}
use Rattle.dbl_model_table.specs.declared.change.Change.{Change}
use Rattle.dbl_model_table.specs.declared.change.Commit.{Commit}
use Rattle.dbl_model_table.specs.declared.change.Ended.{Ended as End}
use Rattle.dbl_model_table.specs.Heads.{body_of, commit_by}
use Rattle.dbl_model_commit.specs.declared.piece.Piece.{Piece}
use Rattle.dbl_model_commit.specs.declared.piece.Piece.TheVariants.{Nothing, Changed, Ended}
use Rattle.dbl_model_commit.specs.declared.txn_error.TxnError.{TxnError}
use Rattle.dbl_model_commit.specs.declared.txn_error.TxnError.TheVariants as errors
use Rattle.dbl_model_commit.specs.Past.{Head, begin_of, open_mark}
use Rattle.dbl_model_commit.specs.Stated.{stated, ok_or_none, open_changes, commit_of, ended_commit, list_of, commits_of, err_of, place_fault, own_fault, transaction_fault}
use Rattle.dbl_model_commit.specs.Blocks.{onto, IsFurther, first_transaction_fault}
use Rattle.dbl_model_commit.specs.Pieces.{IsPieceOf, piece_of, ArePiecesOf, with_piece, ended_by, with_pieces, commits_by, if_open, changes_so_far, PiecesAreJoined, EachMessageHasOnePiece}
use Rattle.dbl_model_commit.proofs.MarkedLemmas.{was_ok, first_none}
use Rattle.dbl_model_commit.proofs.BlockLemmas.{begin_push, changes_push}

-- ---- whether a transaction is open

pub record IsOpenAt (o : Option Head) : Type 0 where
  pub head : Head
  pub found : o ≡ Some head

open_so : (o : Option Head) (e : TxnError) → (if is_some o then None else Some e) ≡ None → IsOpenAt o
open_so None e fine = cc
open_so (Some head) e fine = record { head = head; found = refl }

closed_so : (o : Option Head) (e : TxnError) → (if is_some o then Some e else None) ≡ None → o ≡ None
closed_so None e fine = refl
closed_so (Some head) e fine = cc

changes_open : (o : Option Head) (changes : List Change) → IsOpenAt o → if_open o changes ≡ changes
changes_open o changes is = ap (λ (x : Option Head). if_open x changes) is.found

-- ---- one more piece

-- The piece adds to the changes so far what its message adds, and ends the commit that its message ends.
pub record Joins (infos : List TableInfo) (m : Message) (ms : List Message) (piece : Piece) : Type 0 where
  pub changes : with_piece (changes_so_far infos ms) piece ≡ changes_so_far infos (m ∷ ms)
  pub commit : ended_by (changes_so_far infos ms) piece ≡ ended_commit infos m ms

no_changes : (changes : List Change) (r : Result (List Change) TxnError) → r ≡ Ok [] → r ≡ Ok changes → changes ≡ []
no_changes changes r none is = cc

module _ (infos : List TableInfo) where
  -- the changes so far after a message that neither begins nor ends a transaction
  so_far : (m : Message) (ms : List Message) → IsFurther m
      → changes_so_far infos (m ∷ ms) ≡ if_open (begin_of ms) (open_changes infos ms ++ ok_or_none (stated infos m ms))
  so_far m ms further =
      ap (λ (o : Option Head). if_open o (open_changes infos (m ∷ ms))) (begin_push infos m ms further)
      ∙ ap (if_open (begin_of ms)) (changes_push infos m ms further)

  -- a message that states no change
  silent : (m : Message) (ms : List Message) (piece : Piece) → IsFurther m → stated infos m ms ≡ Ok [] → ended_commit infos m ms ≡ None
      → IsPieceOf infos m ms piece → Joins infos m ms piece
  silent m ms Nothing further none ends is = record {
    changes = sym (so_far m ms further ∙ ap (λ (r : Result (List Change) TxnError). if_open (begin_of ms) (open_changes infos ms ++ ok_or_none r)) none
        ∙ ap (if_open (begin_of ms)) (append-nil (open_changes infos ms)));
    commit = sym ends;
  }
  silent m ms (Changed changes) further none ends is = absurd (is.1 (no_changes changes (stated infos m ms) none is.0))
  silent m ms (Ended ended) further none ends is = cc

  -- a message that states changes
  stating : (m : Message) (ms : List Message) (piece : Piece) → IsFurther m → IsOpenAt (begin_of ms) → ended_commit infos m ms ≡ None
      → IsPieceOf infos m ms piece → Joins infos m ms piece
  stating m ms Nothing further begun ends is = silent m ms Nothing further is.0 ends is
  stating m ms (Changed changes) further begun ends is = record {
    changes = ap (λ (l : List Change). l ++ changes) (changes_open (begin_of ms) (open_changes infos ms) begun)
        ∙ sym (so_far m ms further ∙ changes_open (begin_of ms) (open_changes infos ms ++ ok_or_none (stated infos m ms)) begun
        ∙ ap (λ (r : Result (List Change) TxnError). open_changes infos ms ++ ok_or_none r) is.0);
    commit = sym ends;
  }
  stating m ms (Ended ended) further begun ends is = cc

  begins : (lsn : Lsn) (time : _) (xid : _) (ms : List Message) (piece : Piece) → begin_of ms ≡ None → IsPieceOf infos (says.Begin lsn time xid) ms piece
      → Joins infos (says.Begin lsn time xid) ms piece
  begins lsn time xid ms Nothing closed is = record { changes = ap (λ (o : Option Head). if_open o (open_changes infos ms)) closed; commit = refl }
  begins lsn time xid ms (Changed changes) closed is = absurd (is.1 (no_changes changes (Ok []) refl is.0))
  begins lsn time xid ms (Ended ended) closed is = cc

  ends : (flags : _) (lsn end_lsn : Lsn) (time : _) (ms : List Message) (piece : Piece) → IsOpenAt (begin_of ms)
      → IsPieceOf infos (says.Commit flags lsn end_lsn time) ms piece
      → Joins infos (says.Commit flags lsn end_lsn time) ms piece
  ends flags lsn end_lsn time ms Nothing begun is =
      let some = ap (option_map (commit_of lsn end_lsn (open_mark ms) (open_changes infos ms))) begun.found in
      let none : ended_commit infos (says.Commit flags lsn end_lsn time) ms ≡ None = is.1 in
      absurd (cc (some, none))
  ends flags lsn end_lsn time ms (Changed changes) begun is = absurd (is.1 (no_changes changes (Ok []) refl is.0))
  ends flags lsn end_lsn time ms (Ended ended) begun is = record {
    changes = refl;
    commit = ap (λ (l : List Change). Some (commit_by ended l)) (changes_open (begin_of ms) (open_changes infos ms) begun) ∙ sym is;
  }

  -- one more message without a fault
  pub piece_joins : (after : Lsn) (m : Message) (ms : List Message) (piece : Piece) → transaction_fault infos after m ms ≡ None → IsPieceOf infos m ms piece
      → Joins infos m ms piece
  piece_joins after (says.Begin lsn time xid) ms piece fine is =
      begins lsn time xid ms piece (closed_so (begin_of ms) errors.NestedBegin
      (first_none (place_fault (says.Begin lsn time xid) (is_some (begin_of ms))) (own_fault infos after (says.Begin lsn time xid) ms) fine).0) is
  piece_joins after (says.Commit flags lsn end_lsn time) ms piece fine is =
      ends flags lsn end_lsn time ms piece
      (open_so (begin_of ms) errors.OutsideTransaction
      (first_none (place_fault (says.Commit flags lsn end_lsn time) (is_some (begin_of ms)))
      (own_fault infos after (says.Commit flags lsn end_lsn time) ms) fine).0) is
  piece_joins after (says.Origin l n) ms piece fine is = silent (says.Origin l n) ms piece tt refl refl is
  piece_joins after (says.TypeName o n m) ms piece fine is = silent (says.TypeName o n m) ms piece tt refl refl is
  piece_joins after (says.Relation o n m i c) ms piece fine is = silent (says.Relation o n m i c) ms piece tt refl refl is
  piece_joins after (says.Logical f l p c) ms piece fine is = silent (says.Logical f l p c) ms piece tt refl refl is
  piece_joins after (says.Insert oid new) ms piece fine is =
      stating (says.Insert oid new) ms piece tt
      (open_so (begin_of ms) errors.OutsideTransaction
      (first_none (place_fault (says.Insert oid new) (is_some (begin_of ms))) (own_fault infos after (says.Insert oid new) ms) fine).0) refl is
  piece_joins after (says.Update oid before new) ms piece fine is =
      stating (says.Update oid before new) ms piece tt
      (open_so (begin_of ms) errors.OutsideTransaction
      (first_none (place_fault (says.Update oid before new) (is_some (begin_of ms))) (own_fault infos after (says.Update oid before new) ms) fine).0) refl is
  piece_joins after (says.Delete oid before) ms piece fine is =
      stating (says.Delete oid before) ms piece tt
      (open_so (begin_of ms) errors.OutsideTransaction
      (first_none (place_fault (says.Delete oid before) (is_some (begin_of ms))) (own_fault infos after (says.Delete oid before) ms) fine).0) refl is
  piece_joins after (says.Truncate options oids) ms piece fine is =
      stating (says.Truncate options oids) ms piece tt
      (open_so (begin_of ms) errors.OutsideTransaction
      (first_none (place_fault (says.Truncate options oids) (is_some (begin_of ms))) (own_fault infos after (says.Truncate options oids) ms) fine).0) refl is

  -- ---- all pieces

  all_joined : (after : Lsn) (before ms : List Message) (pieces : List Piece) → first_transaction_fault infos after before ms ≡ None
      → ArePiecesOf infos before ms pieces
      → (commits_of infos before ++ commits_by (changes_so_far infos before) pieces ≡ commits_of infos (onto before ms)) ×
      (with_pieces (changes_so_far infos before) pieces ≡ changes_so_far infos (onto before ms))
  all_joined after before [] [] fine are = (append-nil (commits_of infos before), refl)
  all_joined after before [] (piece ∷ pieces) fine are = absurd are
  all_joined after before (m ∷ ms) [] fine are = absurd are
  all_joined after before (m ∷ ms) (piece ∷ pieces) fine are =
      let none = first_none (transaction_fault infos after m before) (first_transaction_fault infos after (m ∷ before) ms) fine in
      let one = piece_joins after m before piece none.0 are.0 in
      let rest = all_joined after (m ∷ before) ms pieces none.1 are.1 in (
        sym (append_assoc (commits_of infos before) (list_of (ended_by (changes_so_far infos before) piece))
            (commits_by (with_piece (changes_so_far infos before) piece) pieces))
            ∙ (ap (λ (o : Option Commit). (commits_of infos before ++ list_of o) ++ commits_by (with_piece (changes_so_far infos before) piece) pieces)
            one.commit
            ∙ (ap (λ (l : List Change). commits_of infos (m ∷ before) ++ commits_by l pieces) one.changes ∙ rest.0)),
        ap (λ (l : List Change). with_pieces l pieces) one.changes ∙ rest.1,
      )

pub pieces_joined : PiecesAreJoined
pieces_joined infos after ms pieces fine are = all_joined infos after [] ms pieces fine are

-- ---- one piece

module _ (infos : List TableInfo) where
  pub stated_piece : (m : Message) (ms : List Message) (changes : List Change) → stated infos m ms ≡ Ok changes → ended_commit infos m ms ≡ None
      → IsPieceOf infos m ms (piece_of changes)
  stated_piece m ms [] states none = (states, none)
  stated_piece m ms (c ∷ changes) states none = (states, λ empty. cc)

  -- a message that ends a commit states no change
  ends_alone : (m : Message) (ms : List Message) (commit : Commit) → ended_commit infos m ms ≡ Some commit → stated infos m ms ≡ Ok []
  ends_alone (says.Commit f l e t) ms commit is = refl
  ends_alone (says.Begin l t x) ms commit is = cc
  ends_alone (says.Origin l n) ms commit is = cc
  ends_alone (says.TypeName o n m) ms commit is = cc
  ends_alone (says.Relation o n m i c) ms commit is = cc
  ends_alone (says.Insert oid new) ms commit is = cc
  ends_alone (says.Update oid before new) ms commit is = cc
  ends_alone (says.Delete oid before) ms commit is = cc
  ends_alone (says.Truncate options oids) ms commit is = cc
  ends_alone (says.Logical f l p c) ms commit is = cc

  marks_one : (a b : Option (List ℕ)) (changes : List Change) → body_of a changes ≡ body_of b changes → a ≡ b
  marks_one None None changes is = refl
  marks_one None (Some w) changes is = cc
  marks_one (Some v) None changes is = cc
  marks_one (Some v) (Some w) changes is = cc

  ends_one : (a b : End) (changes : List Change) (commit : Option Commit) → commit ≡ Some (commit_by a changes) → commit ≡ Some (commit_by b changes) → a ≡ b
  ends_one a b changes commit by_a by_b =
      let e : commit_by a changes ≡ commit_by b changes = cc in
      let lsn : a.head.lsn ≡ b.head.lsn = ap (λ (c : Commit). c.lsn) e in
      let end_lsn : a.end_lsn ≡ b.end_lsn = ap (λ (c : Commit). c.end_lsn) e in
      let time : a.head.time ≡ b.head.time = ap (λ (c : Commit). c.time) e in
      let xid : a.head.xid ≡ b.head.xid = ap (λ (c : Commit). c.xid) e in
      let mark : a.mark ≡ b.mark = marks_one a.mark b.mark changes (ap (λ (c : Commit). c.body) e) in
      λ i. record { head = record { lsn = lsn i; time = time i; xid = xid i }; end_lsn = end_lsn i; mark = mark i }

  pieces_one : (m : Message) (ms : List Message) (a b : Piece) → IsPieceOf infos m ms a → IsPieceOf infos m ms b → b ≡ a
  pieces_one m ms Nothing Nothing by_a by_b = refl
  pieces_one m ms Nothing (Changed changes) by_a by_b = absurd (by_b.1 (no_changes changes (stated infos m ms) by_a.0 by_b.0))
  pieces_one m ms Nothing (Ended ended) by_a by_b = cc
  pieces_one m ms (Changed changes) Nothing by_a by_b = absurd (by_a.1 (no_changes changes (stated infos m ms) by_b.0 by_a.0))
  pieces_one m ms (Changed changes) (Changed others) by_a by_b = let e : others ≡ changes = cc in ap (λ (l : List Change). Changed l) e
  pieces_one m ms (Changed changes) (Ended ended) by_a by_b =
      absurd (by_a.1 (no_changes changes (stated infos m ms) (ends_alone m ms (commit_by ended (open_changes infos ms)) by_b) by_a.0))
  pieces_one m ms (Ended ended) Nothing by_a by_b = cc
  pieces_one m ms (Ended ended) (Changed changes) by_a by_b =
      absurd (by_b.1 (no_changes changes (stated infos m ms) (ends_alone m ms (commit_by ended (open_changes infos ms)) by_a) by_b.0))
  pieces_one m ms (Ended ended) (Ended other) by_a by_b =
      ap (λ (e : End). Ended e) (ends_one other ended (open_changes infos ms) (ended_commit infos m ms) by_b by_a)

  abbrev OnePiece : Message → List Message → Type 0
  OnePiece m ms = (piece : Piece) × IsPieceOf infos m ms piece × ((other : Piece) → IsPieceOf infos m ms other → other ≡ piece)

  one_stated : (m : Message) (ms : List Message) (changes : List Change) → stated infos m ms ≡ Ok changes → ended_commit infos m ms ≡ None → OnePiece m ms
  one_stated m ms changes states none =
      let is = stated_piece m ms changes states none in
      (piece_of changes, is, λ other by. pieces_one m ms (piece_of changes) other is by)

  one_ended : (flags : _) (lsn end_lsn : Lsn) (time : _) (ms : List Message) → IsOpenAt (begin_of ms) → OnePiece (says.Commit flags lsn end_lsn time) ms
  one_ended flags lsn end_lsn time ms begun =
      let m : Message = says.Commit flags lsn end_lsn time in
      let ended : End = record { head = record { lsn = lsn; time = begun.head.time; xid = begun.head.xid }; end_lsn = end_lsn; mark = open_mark ms } in
      let is : IsPieceOf infos m ms (Ended ended) = ap (option_map (commit_of lsn end_lsn (open_mark ms) (open_changes infos ms))) begun.found in
      (Ended ended, is, λ other by. pieces_one m ms (Ended ended) other is by)

  one_row : (after : Lsn) (m : Message) (ms : List Message) → own_fault infos after m ms ≡ None → own_fault infos after m ms ≡ err_of (stated infos m ms)
      → ended_commit infos m ms ≡ None → OnePiece m ms
  one_row after m ms fine own none = one_stated m ms (ok_or_none (stated infos m ms)) (was_ok (stated infos m ms) (sym own ∙ fine)) none

pub one_piece : EachMessageHasOnePiece
one_piece infos after (says.Begin l t x) ms fine = one_stated infos (says.Begin l t x) ms [] refl refl
one_piece infos after (says.Origin l n) ms fine = one_stated infos (says.Origin l n) ms [] refl refl
one_piece infos after (says.TypeName o n m) ms fine = one_stated infos (says.TypeName o n m) ms [] refl refl
one_piece infos after (says.Relation o n m i c) ms fine = one_stated infos (says.Relation o n m i c) ms [] refl refl
one_piece infos after (says.Logical f l p c) ms fine = one_stated infos (says.Logical f l p c) ms [] refl refl
one_piece infos after (says.Commit flags lsn end_lsn time) ms fine =
    one_ended infos flags lsn end_lsn time ms
    (open_so (begin_of ms) errors.OutsideTransaction
    (first_none (place_fault (says.Commit flags lsn end_lsn time) (is_some (begin_of ms)))
    (own_fault infos after (says.Commit flags lsn end_lsn time) ms) fine).0)
one_piece infos after (says.Insert oid new) ms fine =
    let m : Message = says.Insert oid new in
    one_row infos after m ms (first_none (place_fault m (is_some (begin_of ms))) (own_fault infos after m ms) fine).1 refl refl
one_piece infos after (says.Update oid before new) ms fine =
    let m : Message = says.Update oid before new in
    one_row infos after m ms (first_none (place_fault m (is_some (begin_of ms))) (own_fault infos after m ms) fine).1 refl refl
one_piece infos after (says.Delete oid before) ms fine =
    let m : Message = says.Delete oid before in
    one_row infos after m ms (first_none (place_fault m (is_some (begin_of ms))) (own_fault infos after m ms) fine).1 refl refl
one_piece infos after (says.Truncate options oids) ms fine =
    let m : Message = says.Truncate options oids in
    one_row infos after m ms (first_none (place_fault m (is_some (begin_of ms))) (own_fault infos after m ms) fine).1 refl refl
