-- What a session has in hand when it begins, and the offset that it would store.
use Rattle.std.proofs.Common.{◌≡◌, ◌∙◌, ◌≤◌, List, [], refl, sym, ap, subst}
use Rattle.std.specs.Prelude.{None}
use Rattle.dbl_model_table.specs.declared.change.Change.{Change}
use Rattle.dbl_model_table.specs.declared.table.TableInfo.{TableInfo}
use Rattle.dbl_model_history.specs.Cursors.{AreCursorsOf}
use Rattle.dbl_txn.specs.Stands.{Stands, StandsInPieces}
use Rattle.dbl_offset_content.specs.declared.offset.Offset.{Offset}
use Rattle.dbl_offset.specs.Offsets.{IsOffset}
use Rattle.dbl_follow.specs.Followed.{Following}
use Rattle.dbl_capture_model.specs.Steps.{following_of}
use Rattle.dbl_capture_work.specs.declared.work.SessionState.{SessionState}
use Rattle.dbl_capture_work.specs.Works.{BeginsWithOffset, IsOwnWaiting}

-- the assembler of copies of the tables is that of the tables
stands_so : (offset : Offset) (copies : List TableInfo) (work : SessionState) → work.offset ≡ offset → copies ≡ offset.infos → ((held : List Change) → Stands copies offset.lsn [] held work.assembler)
    → StandsInPieces work.offset.infos offset.lsn [] work.assembler
stands_so offset copies work is same stands =
    subst (λ (l : List TableInfo). Stands l offset.lsn [] [] work.assembler) (same ∙ ap (λ (o : Offset). o.infos) (sym is)) (stands [])

pub work_begins : (offset : Offset) (copies : List TableInfo) (work : SessionState) → IsOffset offset → work.offset ≡ offset → work.follower ≡ following_of offset → copies ≡ offset.infos
    → ((held : List Change) → Stands copies offset.lsn [] held work.assembler) → 1 ≤ work.chunk → work.chunk ≤ 100000 → 1 ≤ work.every → work.since ≡ 0 → work.batch ≡ None
    → work.number ≡ 0
    → BeginsWithOffset offset work.now_ms work.chunk work.every work
work_begins offset copies work asked is follows same stands some_rows few_rows some since no_batch number = record {
  is = record {
    asked = subst IsOffset (sym is) asked;
    identity = ap (λ (f : Following). f.identity) follows ∙ ap (λ (o : Offset). o.identity) (sym is);
    infos = ap (λ (f : Following). f.infos) follows ∙ ap (λ (o : Offset). o.infos) (sym is);
    cursors = subst (λ (f : Following). AreCursorsOf work.offset.infos f.cursors) (sym follows) (subst (λ (o : Offset). AreCursorsOf o.infos offset.cursors) (sym is) asked.cursors);
    stands = stands_so offset copies work is same stands;
    fields = tt;
    accepted = tt;
    lsn = ap (λ (o : Offset). o.lsn) is;
    end_is = tt;
    start = subst (λ (o : Offset). o.start.0 ≤ offset.lsn.0) (sym is) asked.order;
    sent = tt;
    between = ap (λ (f : Following). f.part) follows;
    own = subst (λ (f : Following). IsOwnWaiting work.offset.incarnation work.number work.offset.infos f.cursors work.chunk f.window) (sym follows) tt;
    some_rows = some_rows;
    few_rows = few_rows;
    some = some;
  };
  offset_is = is;
  follower = follows;
  now_is = refl;
  chunk_is = refl;
  every_is = refl;
  none = since;
  no_batch = no_batch;
  unread = number;
}
