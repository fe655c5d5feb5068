-- What a session's calls need where they follow a message of the open transaction, and what they tell of it.
use Rattle.std.proofs.Common.{◌≡◌, ◌≢◌, ◌∙◌, ◌⊎◌, inl, inr, ◌+◌, ℕ, Option, Some, None, Ok, All, List, [], ◌∷◌, ◌++◌, length, refl, sym, ap, subst}
use Rattle.std.specs.Prelude.{IsErr, Bool, IsSome, Result}
use Rattle.dbl_base.specs.declared.lsn.Lsn.{Lsn}
use Rattle.dbl_pgmsg.specs.declared.messages.Message.{Message}
use Rattle.dbl_record.specs.declared.record.Record.{Record}
use Rattle.dbl_record.specs.Cuts.{cut}
use Rattle.dbl_record.specs.Groups.{group_form}
use Rattle.dbl_topic.specs.Model.{SinkModel}
use Rattle.dbl_topic.specs.Sinks.{group_limit}
use Rattle.dbl_model_table.specs.declared.change.Body.TheVariants.{Changes, Mark}
use Rattle.dbl_model_table.specs.declared.change.Change.{Change}
use Rattle.dbl_model_table.specs.declared.change.Commit.{Commit}
use Rattle.dbl_model_table.specs.declared.change.Ended.{Ended}
use Rattle.dbl_model_table.specs.declared.change.Head.{Head}
use Rattle.dbl_model_table.specs.declared.table.TableInfo.{TableInfo}
use Rattle.dbl_model_table.specs.Heads.{body_of, commit_by, commit_head}
use Rattle.dbl_capture_work.specs.ModelCommit.declared.piece.Piece.TheVariants.{Changed, Ended as PieceEnded}
use Rattle.dbl_capture_work.specs.ModelCommit.Blocks.{AreWithoutFault}
use Rattle.dbl_capture_work.specs.ModelCommit.Past.{begin_of, open_mark}
use Rattle.dbl_capture_work.specs.ModelCommit.Pieces.{changes_so_far, if_open}
use Rattle.dbl_capture_work.specs.ModelCommit.Stated.{open_changes}
use Rattle.dbl_capture_work.specs.ModelEvent.Clashes.{clash_of}
use Rattle.dbl_capture_work.specs.ModelHistory.FitsInfos.{FitsInfos}
use Rattle.dbl_capture_work.proofs.ModelCommitMarkedLemmas.{marked_bare}
use Rattle.dbl_capture_work.specs.Follow.Followed.{Following}
use Rattle.dbl_capture_work.specs.declared.halt.Halt.{Halt}
use Rattle.dbl_capture_work.specs.declared.report.Report.{Report}
use Rattle.dbl_capture_work.specs.declared.work.SessionState.{SessionState}
use Rattle.dbl_capture_work.specs.Takes.{DeliversCommit, DeliversOpen, EndsOpen, HasTakenPiece, IsStated, LeftOpen, StatesChanges}
use Rattle.dbl_capture_work.specs.Works.{CouldBeSentSoFar, HasOpen, IsWork, open_commit, rest_in, resting}
use Rattle.dbl_capture_laws.proofs.OpenCommits.{EndsOpenCommit, at_most, ends_open, is_open}
use Rattle.dbl_capture_laws.proofs.Opened.{taken_open}
use Rattle.dbl_capture_laws.proofs.Within.{open_infos}

-- ---- a message that states changes

module _ (after : Lsn) (ms : List Message) (bytes : List ℕ) (old next : SessionState) (changes : List Change) (p : HasTakenPiece after ms bytes old next (Changed changes)) where
  pub stated_now : IsStated after p.taken.message ms changes next
  stated_now = subst (IsStated after p.taken.message ms changes) (sym p.taken.same) (record {
    stands = p.taken.stands;
    states = p.is.0;
    some = p.is.1;
    clean = p.taken.clean;
  })

  -- it is read within a transaction
  pub inside_now : IsSome (begin_of (p.taken.message ∷ ms))
  inside_now = subst IsSome (sym (is_open old.offset.infos after p.taken.message ms changes p.taken.clean p.is.0 p.is.1).1) refl

  -- the condition under which they are followed
  pub states_now : (ahead : HasOpen ms old) → IsWork after ms (rest_in ahead) → StatesChanges next changes
  states_now ahead is = record {
    after = after;
    message = p.taken.message;
    messages = ms;
    is = stated_now;
    ahead = record { start = ahead.start; put = ahead.put; is = taken_open p.taken ahead.is };
    infos = subst (λ (x : SessionState). x.follower.infos ≡ x.offset.infos) (sym p.taken.same) (open_infos ms old ahead ∙ is.infos);
    fits = subst (λ (x : SessionState). All (FitsInfos x.offset.infos) changes) (sym p.taken.same) p.fits_piece;
  }

  -- the follower's tables and identity are the offset's
  abbrev pub offset_start : Following → Following
  offset_start start = record start { identity = next.offset.identity; infos = next.offset.infos }

  module _ {K T : Type 0} (sink_model : SinkModel K) (start : Following) (put : List Record) (new : SessionState) (sink sink2 : K) (report report2 : Report) where
    -- what they leave in the sink
    pub left_part : (result : Result T Halt) → DeliversOpen sink_model (open_commit next.offset.infos (p.taken.message ∷ ms)) (p.taken.message ∷ ms) start put (resting start next) new sink sink2 report report2 result
        → (groups left : List (List Record)) → sink_model.holds sink (groups ++ cut put) → sink_model.may_leave sink2 left
        → (left ≡ groups ++ cut put) ⊎ LeftOpen (open_commit old.offset.infos (p.taken.message ∷ ms)) (resting start next) groups left
    left_part result d groups left held may =
        subst (λ (l : List TableInfo). (left ≡ groups ++ cut put) ⊎ LeftOpen (open_commit l (p.taken.message ∷ ms)) (resting start next) groups left)
        (ap (λ (x : SessionState). x.offset.infos) p.taken.same) (d.left groups left held may)

    pub by_offset : (result : Result T Halt) → IsWork after ms (resting start old) → DeliversOpen sink_model (open_commit next.offset.infos (p.taken.message ∷ ms)) (p.taken.message ∷ ms) start put (resting start next) new sink sink2 report report2 result
        → DeliversOpen sink_model (open_commit next.offset.infos (p.taken.message ∷ ms)) (p.taken.message ∷ ms) start put (resting (offset_start start) next) new sink sink2 report report2 result
    by_offset result is d =
        let one : start.identity ≡ next.offset.identity = is.identity ∙ ap (λ (x : SessionState). x.offset.identity) (sym p.taken.same) in
        let two : start.infos ≡ next.offset.infos = is.infos ∙ ap (λ (x : SessionState). x.offset.infos) (sym p.taken.same) in
        let same : start ≡ offset_start start = λ i. record start { identity = one i; infos = two i } in
        subst (λ (f : Following). DeliversOpen sink_model (open_commit next.offset.infos (p.taken.message ∷ ms)) (p.taken.message ∷ ms) start put (resting f next) new sink sink2 report report2 result) same d

    -- where they were followed, they have no value equal to the placeholder, nor a record that is too long but perhaps one of the last two
    pub part_so_far : (x : T) → DeliversOpen sink_model (open_commit next.offset.infos (p.taken.message ∷ ms)) (p.taken.message ∷ ms) start put (resting (offset_start start) next) new sink sink2 report report2 (Ok x)
        → CouldBeSentSoFar (resting start next) (p.taken.message ∷ ms)
    part_so_far x d = record {
      clear = none_of (clash_of next.offset.identity next.offset.infos (open_commit next.offset.infos (p.taken.message ∷ ms))) (λ some. no_err x (d.clash some));
      short = λ place item at lt. at_most group_limit (length (group_form (item ∷ []))) (λ less. no_err x (d.long place item at lt less));
    }
      where
        no_err : (y : T) → IsErr {T = T} {E = Halt} (Ok y) → ⊥
        no_err y is = cc

        none_of : {A : Type 0} (o : Option A) → (o ≢ None → ⊥) → o ≡ None
        none_of None some = refl
        none_of (Some y) some = absurd (some (λ is. cc))

-- ---- a message that ends a commit

module _ (after : Lsn) (ms : List Message) (bytes : List ℕ) (old next : SessionState) (ended : Ended) (p : HasTakenPiece after ms bytes old next (PieceEnded ended)) where
  abbrev infos : List TableInfo
  infos = old.offset.infos

  abbrev commit : Commit
  commit = commit_by ended (changes_so_far infos ms)

  own_end : EndsOpenCommit infos ms commit
  own_end = ends_open infos after p.taken.message ms commit p.taken.clean (sym p.taken.commit_is)

  infos_same : next.offset.infos ≡ infos
  infos_same = ap (λ (x : SessionState). x.offset.infos) p.taken.same

  pub begun_now : begin_of ms ≡ Some ended.head
  begun_now =
      let head : ended.head ≡ own_end.ended.head = ap commit_head own_end.is in
      own_end.begun ∙ ap (λ (h : Head). Some h) (sym (head ∙ own_end.same))

  -- a transaction with a watermark has no change
  bare : (mark found : Option (List ℕ)) → open_mark ms ≡ found → body_of mark (changes_so_far infos ms) ≡ body_of found (changes_so_far infos ms) → IsSome (open_mark ms) ⊎ (mark ≡ None)
  bare None found at same = inr refl
  bare (Some value) None at same = let wrong : Mark value ≡ Changes (changes_so_far infos ms) = same in cc
  bare (Some value) (Some other) at same = inl (subst IsSome (sym at) refl)

  bare_now : AreWithoutFault infos after ms → IsSome ended.mark → changes_so_far infos ms ≡ []
  bare_now accepted some = by (bare ended.mark own_end.ended.mark (sym own_end.mark_is) (ap (λ (c : Commit). c.body) own_end.is))
    where
      none_marked : (o : Option (List ℕ)) → IsSome o → o ≡ None → ⊥
      none_marked None is none = cc
      none_marked (Some value) is none = cc

      by : IsSome (open_mark ms) ⊎ (ended.mark ≡ None) → changes_so_far infos ms ≡ []
      by (inl marked) = ap (λ (o : Option Head). if_open o (open_changes infos ms)) own_end.begun ∙ marked_bare infos after ms accepted marked
      by (inr none) = absurd (none_marked ended.mark some none)

  -- the condition under which its commit is followed
  pub ends_now : (ahead : HasOpen ms old) → IsWork after ms (rest_in ahead) → EndsOpen next ended
  ends_now ahead is = record {
    messages = ms;
    ahead = record { start = ahead.start; put = ahead.put; is = taken_open p.taken ahead.is };
    begun = begun_now;
    bare = λ some. ap (λ (l : List TableInfo). changes_so_far l ms) infos_same ∙ bare_now is.accepted some;
  }

  -- and what is told of the commit is told of that which the message ends
  pub delivers_now : {K : Type 0} (sink_model : SinkModel K) (start : Following) (put : List Record) (new : SessionState) (sink sink2 : K) (report report2 : Report) (result : Result Bool Halt)
      → DeliversCommit sink_model (commit_by ended (changes_so_far next.offset.infos ms)) put (resting start next) new sink sink2 report report2 result
      → DeliversCommit sink_model commit put (resting start next) new sink sink2 report report2 result
  delivers_now sink_model start put new sink sink2 report report2 result d =
      subst (λ (l : List TableInfo). DeliversCommit sink_model (commit_by ended (changes_so_far l ms)) put (resting start next) new sink sink2 report report2 result) infos_same d
