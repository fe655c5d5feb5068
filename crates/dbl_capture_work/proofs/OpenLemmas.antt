-- The open transaction of a session, message by message.
use Rattle.std.proofs.Common.{◌≡◌, ◌≢◌, ◌∙◌, ◌⊎◌, ℕ, Option, Some, None, List, [], ◌∷◌, ◌++◌, refl, sym, ap, subst}
use Rattle.std.specs.Prelude.{if◌then◌else◌, is_some, Result, Ok}
use Rattle.std.specs.List.{AllByRecursion}
use Rattle.std.proofs.lemmas.List.Elements.{All-from_recursion}
use Rattle.dbl_base.specs.declared.lsn.Lsn.{Lsn}
use Rattle.dbl_pgmsg.specs.declared.messages.Message.{Message}
use Rattle.dbl_pgmsg.specs.declared.messages.Message.TheVariants as says
use Rattle.dbl_pgmsg.specs.Grammar.{FitsFields, Spells}
use Rattle.dbl_model_table.specs.declared.change.Change.{Change}
use Rattle.dbl_model_table.specs.declared.change.Head.{Head}
use Rattle.dbl_model_table.specs.declared.table.TableInfo.{TableInfo}
use Rattle.dbl_model_history.specs.FitsInfos.{FitsInfos}
use Rattle.dbl_model_commit.specs.declared.piece.Piece.{Piece}
use Rattle.dbl_model_commit.specs.declared.piece.Piece.TheVariants.{Nothing, Changed, Ended}
use Rattle.dbl_model_commit.specs.declared.txn_error.TxnError.{TxnError}
use Rattle.dbl_model_commit.specs.declared.txn_error.TxnError.TheVariants as errors
use Rattle.dbl_model_commit.specs.Past.{begin_of, open_mark}
use Rattle.dbl_model_commit.specs.Pieces.{IsPieceOf, changes_so_far}
use Rattle.dbl_model_commit.specs.Stated.{has_some, open_changes, own_fault, place_fault, stated, transaction_fault}
use Rattle.dbl_model_commit.proofs.ChangeFits.{stated_fits}
use Rattle.dbl_model_commit.proofs.MarkedLemmas.{first_none}
use Rattle.dbl_model_commit.proofs.PieceLemmas.{piece_joins}
use Rattle.dbl_txn.specs.Stands.{TakenPiece}
use Rattle.dbl_capture_work.specs.declared.work.SessionState.{SessionState}
use Rattle.dbl_record.specs.declared.record.Record.{Record}
use Rattle.dbl_model_table.specs.Heads.{commit_by, commit_so_far, ended_at}
use Rattle.dbl_envelope.specs.ModelEvent.Clashes.{Clash, clash_of}
use Rattle.dbl_window.specs.Plans.{Chunk}
use Rattle.dbl_follow.specs.declared.error.FollowError.{FollowError}
use Rattle.dbl_follow.specs.Amid.{IsAmid}
use Rattle.dbl_follow.specs.Faults.{IsClashOf}
use Rattle.dbl_follow.specs.Followed.{Following}
use Rattle.dbl_follow.specs.Steps.{clash_in}
use Rattle.dbl_follow.proofs.AmidLemmas.{amid_same, clash_longer}
use Rattle.dbl_follow.proofs.SnapshotSteps.{closing-None}
use Rattle.dbl_capture_work.specs.declared.halt.Halt.TheVariants as halt
use Rattle.dbl_capture_work.specs.Halts.{follow_halt}
use Rattle.dbl_capture_work.specs.Works.{FollowsOpen, head_in, open_commit}
use Rattle.dbl_capture_work.specs.Takes.{FitsPiece, HasTakenPiece, IsClashIn}
use Rattle.dbl_capture_work.proofs.Following.{clash_kinds}
use Rattle.dbl_capture_work.proofs.Taking.{ended_fits}

-- ---- whether a transaction is open

pub record IsInside (ms : List Message) : Type 0 where
  pub head : Head
  pub begun : begin_of ms ≡ Some head

inside_so : (ms : List Message) (o : Option Head) (e : TxnError) → begin_of ms ≡ o → (if is_some o then None else Some e) ≡ None → IsInside ms
inside_so ms None e is fine = cc
inside_so ms (Some head) e is fine = record { head = head; begun = is }

no_changes : (changes : List Change) → ◌≡◌ {A = Result (List Change) TxnError} (Ok []) (Ok changes) → changes ≡ []
no_changes changes same = cc

-- a message that states changes stands in an open transaction, which goes on with it
pub record GoesOnWith (m : Message) (ms : List Message) : Type 0 where
  pub inside : IsInside ms
  pub same : begin_of (m ∷ ms) ≡ begin_of ms

module _ (infos : List TableInfo) (after : Lsn) (ms : List Message) (changes : List Change) (some : changes ≢ []) where
  goes : (m : Message) → place_fault m (is_some (begin_of ms)) ≡ (if is_some (begin_of ms) then None else Some errors.OutsideTransaction) → begin_of (m ∷ ms) ≡ begin_of ms → transaction_fault infos after m ms ≡ None → GoesOnWith m ms
  goes m place same clean = record {
    inside = inside_so ms (begin_of ms) errors.OutsideTransaction refl (sym place ∙ (first_none (place_fault m (is_some (begin_of ms))) (own_fault infos after m ms) clean).0);
    same = same;
  }

  pub goes_on : (m : Message) → transaction_fault infos after m ms ≡ None → stated infos m ms ≡ Ok changes → GoesOnWith m ms
  goes_on (says.Begin lsn time xid) clean is = absurd (some (no_changes changes is))
  goes_on (says.Commit flags lsn end_lsn time) clean is = absurd (some (no_changes changes is))
  goes_on (says.Origin lsn name) clean is = absurd (some (no_changes changes is))
  goes_on (says.TypeName oid namespace name) clean is = absurd (some (no_changes changes is))
  goes_on (says.Relation oid namespace name identity columns) clean is = absurd (some (no_changes changes is))
  goes_on (says.Logical flags lsn prefix content) clean is = absurd (some (no_changes changes is))
  goes_on (says.Insert oid new) clean is = goes (says.Insert oid new) refl refl clean
  goes_on (says.Update oid before new) clean is = goes (says.Update oid before new) refl refl clean
  goes_on (says.Delete oid before) clean is = goes (says.Delete oid before) refl refl clean
  goes_on (says.Truncate options oids) clean is = goes (says.Truncate options oids) refl refl clean

-- the changes so far with those of one message more
pub changes_on : (infos : List TableInfo) (after : Lsn) (m : Message) (ms : List Message) (changes : List Change) → changes ≢ [] → transaction_fault infos after m ms ≡ None → stated infos m ms ≡ Ok changes
    → changes_so_far infos (m ∷ ms) ≡ changes_so_far infos ms ++ changes
changes_on infos after m ms changes some clean is = sym (piece_joins infos after m ms (Changed changes) clean (is, some)).changes

-- ---- a message is taken

piece_fits : (infos : List TableInfo) (m : Message) (ms : List Message) (piece : Piece) → FitsFields m → IsPieceOf infos m ms piece → FitsPiece infos piece
piece_fits infos m ms Nothing fields is = tt
piece_fits infos m ms (Changed changes) fields is = All-from_recursion (FitsInfos infos) changes (stated_fits infos m ms (open_mark ms) (has_some (open_changes infos ms)) changes fields is.0)
piece_fits infos m ms (Ended ended) fields is = tt

pub took_piece : (after : Lsn) (ms : List Message) (bytes : List ℕ) (old new : SessionState) (m : Message) (piece : Piece) → AllByRecursion FitsFields ms → Spells bytes m → new ≡ record old { assembler = new.assembler }
    → TakenPiece old.offset.infos after m ms new.assembler piece → HasTakenPiece after ms bytes old new piece
took_piece after ms bytes old new m piece fields spells same taken =
    let joins = piece_joins old.offset.infos after m ms piece taken.clean taken.is in
    record {
      taken = record {
        message = m;
        spells = spells;
        clean = taken.clean;
        commit_is = joins.commit;
        stands = taken.stands;
        same = same;
        fits = ended_fits old.offset.infos m ms _ (spells.fits.fields, fields) joins.commit;
      };
      is = taken.is;
      fits_piece = piece_fits old.offset.infos m ms piece spells.fits.fields taken.is;
    }

-- ---- the changes of a message are followed

-- the follower's state for the Begin that the assembler knows
pub at_head : (m : Message) (ms : List Message) (start : Following) (released : List Record) (work : SessionState) (head : Head) → GoesOnWith m ms → begin_of (m ∷ ms) ≡ Some head → FollowsOpen ms start released work
    → IsAmid start head (changes_so_far work.offset.infos ms) work.now_ms released work.follower
at_head m ms start released work head goes is amid =
    subst (λ (h : Head). IsAmid start h (changes_so_far work.offset.infos ms) work.now_ms released work.follower) (ap head_in (sym goes.same ∙ is)) amid

-- and after the message
pub after_message : (after : Lsn) (m : Message) (ms : List Message) (changes : List Change) (start : Following) (released : List Record) (old new : SessionState) (head : Head) → changes ≢ [] → transaction_fault old.offset.infos after m ms ≡ None
    → stated old.offset.infos m ms ≡ Ok changes → begin_of (m ∷ ms) ≡ Some head → new ≡ record old { follower = new.follower }
    → IsAmid start head (changes_so_far old.offset.infos ms ++ changes) old.now_ms released new.follower → FollowsOpen (m ∷ ms) start released new
after_message after m ms changes start released old new head some clean states begun same amid =
    subst (λ (w : SessionState). IsAmid start (head_in (begin_of (m ∷ ms))) (changes_so_far w.offset.infos (m ∷ ms)) w.now_ms released new.follower) (sym same)
    (subst (λ (h : Head). IsAmid start h (changes_so_far old.offset.infos (m ∷ ms)) old.now_ms released new.follower) (sym (ap head_in begun))
    (amid_same (sym (changes_on old.offset.infos after m ms changes some clean states)) refl amid))

-- the first value equal to the placeholder stays that with further changes
pub clash_stays : (start : Following) (head : Head) (changes more : List Change) (e : FollowError) → IsClashOf (clash_of start.identity start.infos (commit_so_far head changes)) e
    → IsClashOf (clash_of start.identity start.infos (commit_so_far head (changes ++ more))) e
clash_stays start head changes more e is =
    subst (λ (o : Option Clash). IsClashOf o e) (ap (λ (o : Option Chunk). clash_in start o (commit_by (ended_at head head.lsn) (changes ++ more))) (closing-None start.window))
    (clash_longer start head head.lsn changes more e is)

-- the error of a change that is refused, among the changes of the message
pub refused_so : (start : Following) (head : Head) (infos : List TableInfo) (after : Lsn) (m : Message) (ms : List Message) (changes first more : List Change) (e : FollowError) → changes ≢ [] → transaction_fault infos after m ms ≡ None
    → stated infos m ms ≡ Ok changes → first ++ more ≡ changes_so_far infos ms ++ changes → IsClashOf (clash_of start.identity start.infos (commit_so_far head first)) e
    → (follow_halt e ≡ halt.Memory) ⊎ IsClashIn (clash_of start.identity start.infos (open_commit infos (m ∷ ms))) (follow_halt e)
refused_so start head infos after m ms changes first more e some clean states whole is =
    clash_kinds (clash_of start.identity start.infos (open_commit infos (m ∷ ms))) e
    (subst (λ (cs : List Change). IsClashOf (clash_of start.identity start.infos (commit_so_far head cs)) e) (whole ∙ sym (changes_on infos after m ms changes some clean states))
    (clash_stays start head first more e is))
