-- What a session has read, from call to call, and what its report tells of it.
use Rattle.std.proofs.Common.{◌≡◌, ◌∙◌, inr, ◌+◌, ℕ, ℤ, suc, Option, Some, None, List, [], ◌∷◌, ◌++◌, length, map, refl, sym, ap, subst, arith, append-nil, length-append}
use Rattle.dbl_base.specs.declared.lsn.Lsn.{Lsn}
use Rattle.dbl_pgmsg.specs.declared.messages.Message.{Message}
use Rattle.dbl_model_table.specs.declared.config.Config.{Config}
use Rattle.dbl_model_table.specs.declared.change.Commit.{Commit}
use Rattle.dbl_model_table.specs.declared.identity.Identity.{Identity}
use Rattle.dbl_model_table.specs.declared.table.TableInfo.{TableInfo}
use Rattle.dbl_capture_work.specs.ModelCommit.Blocks.{AreWithoutFault}
use Rattle.dbl_capture_work.specs.ModelCommit.Stated.{commits_of, ended_commit, list_of}
use Rattle.dbl_capture_work.specs.SourceModel.Trace.{Trace, IsTakenAnew, IsTakenBy}
use Rattle.dbl_capture_work.specs.Offset.declared.offset.Offset.{Offset}
use Rattle.dbl_capture_work.specs.CaptureModel.Stages.{IsOfSession}
use Rattle.dbl_capture_work.specs.declared.report.Report.{Report}
use Rattle.dbl_capture_work.specs.declared.work.SessionState.{SessionState}
use Rattle.dbl_capture_work.specs.Begins.{IsOffsetFor}
use Rattle.dbl_capture_work.specs.Works.{next_offset_of}
use Rattle.dbl_capture_laws.specs.Found.{HasStored, IsStoredBy}
use Rattle.dbl_capture_laws.specs.Reported.{AllCouldBeSent, AreSpelled, Course, HasFollowed, HasFollowedOf, HasReadAfter, BeginsAfter, IsPlacedOf, began_after, course_from, end_after}
use Rattle.dbl_capture_laws.specs.Followed.{EndsStandAtLast, HaltsAtMessages, HaltsBetween, MessagesAreTaken, ReadsOne, SessionsBeginUnread, SourcesSettle, SourcesStandAfter, SourcesStoodSo, StoodAreFollowed, StopsAreFollowed}

-- ---- what was told

-- who tells goes on telling, and more was read after what was
pub taken_more : (more read : List (List ℕ)) (old mid new : Option Trace) → IsTakenBy read old mid → IsTakenBy more mid new → (both : List (List ℕ)) → both ≡ more ++ read → IsTakenBy both old new
taken_more more read None None None one two both is = tt
taken_more more read None None (Some n) one two both is = absurd two
taken_more more read None (Some m) new one two both is = absurd one
taken_more more read (Some o) None new one two both is = absurd one
taken_more more read (Some o) (Some m) None one two both is = absurd two
taken_more more read (Some o) (Some m) (Some n) one two both is =
    two ∙ (ap (λ (l : List (List ℕ)). more ++ l) one ∙ (sym (together more read o.read) ∙ ap (λ (l : List (List ℕ)). l ++ o.read) (sym is)))
  where
    together : (xs ys zs : List (List ℕ)) → (xs ++ ys) ++ zs ≡ xs ++ (ys ++ zs)
    together [] ys zs = refl
    together (x ∷ xs) ys zs = ap (λ (l : List (List ℕ)). x ∷ l) (together xs ys zs)

-- the bytes that a source tells are those that were read since it began again
pub read_is : (read : List (List ℕ)) (found old new : Option Trace) (t : Trace) → new ≡ Some t → IsTakenAnew found old → IsTakenBy read old new → t.read ≡ read
read_is read found None None t is anew taken = cc
read_is read found None (Some n) t is anew taken = absurd taken
read_is read found (Some s) None t is anew taken = cc
read_is read None (Some s) (Some n) t is anew taken =
    let same : n ≡ t = cc in
    ap (λ (x : Trace). x.read) (sym same) ∙ (taken ∙ (ap (λ (l : List (List ℕ)). read ++ l) anew ∙ append-nil read))
read_is read (Some f) (Some s) (Some n) t is anew taken =
    let same : n ≡ t = cc in
    ap (λ (x : Trace). x.read) (sym same) ∙ (taken ∙ (ap (λ (l : List (List ℕ)). read ++ l) anew ∙ append-nil read))

-- as many messages as bytes that spell them
pub same_many : (read : List (List ℕ)) (ms : List Message) → AreSpelled read ms → length ms ≡ length read
same_many [] [] spelled = refl
same_many [] (m ∷ ms) spelled = absurd spelled
same_many (x ∷ read) [] spelled = absurd spelled
same_many (x ∷ read) (m ∷ ms) spelled = ap suc (same_many read ms spelled.1)

-- ---- one message more

one_more : (n m k : ℕ) → n ≡ m → k ≡ m + 1 → suc n ≡ k
one_more n m k one two = omega (arith, one, two)

none_more : (n m k : ℕ) → n ≡ m → k ≡ m → n ≡ k
none_more n m k one two = omega (arith, one, two)

some_more : (n a b c d : ℕ) → n ≡ a + b → a ≡ c → d ≡ c + b → n ≡ d
some_more n a b c d one two three = omega (arith, one, two, three)

pub ends_on : (end : Lsn) (xs ys : List Commit) → end_after end (xs ++ ys) ≡ end_after (end_after end xs) ys
ends_on end [] ys = refl
ends_on end (x ∷ xs) ys = ends_on x.end_lsn xs ys

module _ (ms : List Message) (m : Message) (before report : Report) (old new : SessionState) (one : ReadsOne ms m before report old new) where
  commits_now : commits_of new.offset.infos (m ∷ ms) ≡ commits_of old.offset.infos ms ++ list_of (ended_commit old.offset.infos m ms)
  commits_now = ap (λ (l : List TableInfo). commits_of l (m ∷ ms)) one.infos

  pub end_now : (end : Lsn) → old.offset.end_lsn ≡ end_after end (commits_of old.offset.infos ms) → new.offset.end_lsn ≡ end_after end (commits_of new.offset.infos (m ∷ ms))
  end_now end was =
      one.end_is ∙ (ap (λ (l : Lsn). end_after l (list_of (ended_commit old.offset.infos m ms))) was
      ∙ (sym (ends_on end (commits_of old.offset.infos ms) (list_of (ended_commit old.offset.infos m ms))) ∙ ap (end_after end) (sym commits_now)))

  pub counts_now : before.commits ≡ length (commits_of old.offset.infos ms) → report.commits ≡ length (commits_of new.offset.infos (m ∷ ms))
  counts_now was =
      one.commits
      ∙ (ap (λ (n : ℕ). n + length (list_of (ended_commit old.offset.infos m ms))) was
      ∙ (sym (length-append (commits_of old.offset.infos ms) (list_of (ended_commit old.offset.infos m ms))) ∙ ap length (sym commits_now)))

pub messages_are_taken : MessagesAreTaken
messages_are_taken after end start old new before report work next bytes m t taken spells one is = record {
  read = bytes ∷ t.read;
  messages = m ∷ t.messages;
  many = one_more (length t.read) before.messages report.messages t.many one.messages;
  taken = taken_more (bytes ∷ []) t.read start old new t.taken taken (bytes ∷ t.read) refl;
  spelled = (spells, t.spelled);
  is = is;
  end_is = end_now t.messages m before report work next one end t.end_is;
  followed = counts_now t.messages m before report work next one t.followed;
}

pub sources_stand_after : SourcesStandAfter
sources_stand_after after end before report work next s t m b reading one is = record {
  messages = m ∷ b.messages;
  is = is;
  reading_is = reading;
  many = one_more (length b.messages) before.messages report.messages b.many one.messages;
  end_is = end_now b.messages m before report work next one end b.end_is;
  followed = counts_now b.messages m before report work next one b.followed;
}

-- ---- where it stops with an error

pub halts_between : HaltsBetween
halts_between after end start old new before report work h t taken none messages commits = record {
  read = t.read;
  many = none_more (length t.read) before.messages report.messages t.many messages;
  taken = taken_more [] t.read start old new t.taken taken t.read refl;
  so_far = record {
    newest = [];
    few = none;
    earlier = t.read;
    parted = refl;
    messages = t.messages;
    spelled = t.spelled;
    accepted = t.is.accepted;
    sent = t.is.sent;
    followed = commits ∙ t.followed;
  };
}

pub halts_at_messages : HaltsAtMessages
halts_at_messages after end start old new before report work bytes h t taken one messages commits = record {
  read = bytes ∷ t.read;
  many = one_more (length t.read) before.messages report.messages t.many messages;
  taken = taken_more (bytes ∷ []) t.read start old new t.taken taken (bytes ∷ t.read) refl;
  so_far = record {
    newest = bytes ∷ [];
    few = one;
    earlier = t.read;
    parted = refl;
    messages = t.messages;
    spelled = t.spelled;
    accepted = t.is.accepted;
    sent = t.is.sent;
    followed = commits ∙ t.followed;
  };
}

both_many : (n a b c k : ℕ) → n ≡ a + b → b ≡ c → k ≡ c + a → n ≡ k
both_many n a b c k one two three = omega (arith, one, two, three)

pub sources_stood_so : SourcesStoodSo
sources_stood_so after end before report work s t newest h b reading few messages commits = record {
  messages = newest ++ b.messages;
  reading_is = reading;
  many = both_many (length (newest ++ b.messages)) (length newest) (length b.messages) before.messages report.messages (length-append newest b.messages) b.many messages;
  so_far = record {
    newest = newest;
    few = few;
    earlier = b.messages;
    parted = refl;
    accepted = b.is.accepted;
    sent = b.is.sent;
    followed = commits ∙ b.followed;
  };
}

-- ---- what is stored

-- an offset of the session is one that it stored
pub stored_by : (config : Config) (old : Option Offset) (first stored : Offset) → IsOffsetFor config old first → IsOfSession first stored → IsStoredBy config old stored
stored_by config None first stored for of = (of.identity ∙ for.0, ap (map (λ (info : TableInfo). info.name)) of.infos ∙ for.1, of.incarnation ∙ for.2)
stored_by config (Some found) first stored for of = (
  of.identity ∙ ap (λ (o : Offset). o.identity) for,
  of.infos ∙ ap (λ (o : Offset). o.infos) for,
  of.start ∙ ap (λ (o : Offset). o.start) for,
  of.incarnation ∙ ap (λ (o : Offset). o.incarnation) for,
)

abbrev pub has_stored : (config : Config) (old : Option Offset) (first stored : Offset) → IsOffsetFor config old first → IsOfSession first stored → HasStored config old (Some stored)
has_stored config old first stored for of = record { offset = stored; is = refl; by = stored_by config old first stored for of }

-- what it captures, and where it began, are the first offset's
pub since_first : (config : Config) (old : Option Offset) (first stored : Offset) → IsOffsetFor config old first → IsOfSession first stored → BeginsAfter old (Some stored) first.infos first.lsn
since_first config None first stored for of = (sym of.infos, for.3 ∙ sym of.start)
since_first config (Some found) first stored for of = (ap (λ (o : Offset). o.infos) for, ap (λ (o : Offset). o.lsn) for)

-- and where the log had come to, too
ends_first : (config : Config) (old : Option Offset) (first stored : Offset) → IsOffsetFor config old first → stored.start ≡ first.start → first.end_lsn ≡ began_after old stored
ends_first config None first stored for start = for.4 ∙ sym start
ends_first config (Some found) first stored for start = ap (λ (o : Offset). o.end_lsn) for

-- ---- a whole session

module _ (config : Config) (now : ℤ) (held : Option Offset) (first stored : Offset) (for : IsOffsetFor config held first) (of : IsOfSession first stored) where
  abbrev pub read_after : (report : Report) (told : Option Trace) (read : List (List ℕ)) → length read ≡ report.messages → ((t : Trace) → told ≡ Some t → t.read ≡ read) → HasReadAfter config held (Some stored) report told
  read_after report told read many tells = record {
    stored = has_stored config held first stored for of;
    infos = first.infos;
    after = first.lsn;
    begins_after = since_first config held first stored for of;
    read = read;
    many = many;
    tells = tells;
  }

  -- it goes by what it stored
  abbrev course_with : Identity → List TableInfo → Course
  course_with identity infos = record { identity = identity; infos = infos; now = now; after = first.lsn }

  course_same : course_from first now ≡ course_with stored.identity first.infos
  course_same = ap (λ (i : Identity). course_with i first.infos) (sym of.identity)

  course_stored : course_from first now ≡ course_with stored.identity stored.infos
  course_stored = course_same ∙ ap (course_with stored.identity) (sym of.infos)

pub stops_are_followed : StopsAreFollowed
stops_are_followed config now found begun told first stored held report h for of anew s = (
  inr (
    read_after config now held first stored for of report told s.read s.many tells,
    subst (λ (c : Course). HasFollowed c s.read report.commits h) (course_same config now held first stored for of) s.so_far,
  ),
  λ t is. ap length (tells t is) ∙ s.many,
)
  where
    tells : (t : Trace) → told ≡ Some t → t.read ≡ s.read
    tells t is = read_is s.read found begun told t is anew s.taken

pub stood_are_followed : StoodAreFollowed
stood_are_followed config now first stored held report t h for of s = record {
  stored = has_stored config held first stored for of;
  reading = record { after = first.lsn; messages = s.messages };
  reading_is = s.reading_is;
  begins_after = subst (λ (l : List TableInfo). BeginsAfter held (Some stored) l first.lsn) (sym of.infos) (since_first config held first stored for of);
  many = s.many;
  so_far = subst (λ (c : Course). HasFollowedOf c s.messages report.commits h) (course_stored config now held first stored for of) s.so_far;
}

-- ---- it ends

module _ (config : Config) (held : Option Offset) (first : Offset) (work : SessionState) (for : IsOffsetFor config held first) (placed : IsPlacedOf first work.offset) where
  infos_first : work.offset.infos ≡ first.infos
  infos_first = ap (λ (o : Offset). o.infos) placed

  pub of_session : IsOfSession first (next_offset_of work)
  of_session = record {
    identity = ap (λ (o : Offset). o.identity) placed;
    infos = ap (λ (o : Offset). o.infos) placed;
    versions = ap (λ (o : Offset). o.versions) placed;
    start = ap (λ (o : Offset). o.start) placed;
    incarnation = ap (λ (o : Offset). o.incarnation) placed;
  }

  -- the log had come to where the session began
  end_first : (messages : List Message) → work.offset.end_lsn ≡ end_after first.end_lsn (commits_of work.offset.infos messages) → work.offset.end_lsn ≡ end_after (began_after held (next_offset_of work)) (commits_of work.offset.infos messages)
  end_first messages is = is ∙ ap (λ (l : Lsn). end_after l (commits_of work.offset.infos messages)) (ends_first config held first (next_offset_of work) for (ap (λ (o : Offset). o.start) placed))

pub ends_stand_at_last : EndsStandAtLast
ends_stand_at_last config found begun told first held report work for placed anew t = record {
  read = read_after config work.now_ms held first (next_offset_of work) for (of_session config held first work for placed) report told t.read t.many (λ x is. read_is t.read found begun told x is anew t.taken);
  messages = t.messages;
  spelled = t.spelled;
  accepted = subst (λ (l : List TableInfo). AreWithoutFault l first.lsn t.messages) infos t.is.accepted;
  sent = subst (λ (l : List TableInfo). AllCouldBeSent (record { identity = work.offset.identity; infos = l; now = work.now_ms; after = first.lsn }) (commits_of l t.messages)) infos t.is.sent;
  lsn = t.is.lsn;
  end_lsn = end_first config held first work for placed t.messages t.end_is ∙ ap (λ (l : List TableInfo). end_after (began_after held (next_offset_of work)) (commits_of l t.messages)) infos;
  followed = t.followed ∙ ap (λ (l : List TableInfo). length (commits_of l t.messages)) infos;
}
  where
    infos : work.offset.infos ≡ first.infos
    infos = infos_first config held first work for placed

pub sources_settle : SourcesSettle
sources_settle config first held report work t for placed b upto = record {
  stored = has_stored config held first (next_offset_of work) for of;
  upto = upto;
  reading = record { after = first.lsn; messages = b.messages };
  reading_is = b.reading_is;
  begins_after = subst (λ (l : List TableInfo). BeginsAfter held (Some (next_offset_of work)) l first.lsn) (sym of.infos) (since_first config held first (next_offset_of work) for of);
  many = b.many;
  accepted = b.is.accepted;
  sent = b.is.sent;
  last = b.is.lsn;
  end_lsn = end_first config held first work for placed b.messages b.end_is;
  followed = b.followed;
}
  where
    of : IsOfSession first (next_offset_of work)
    of = of_session config held first work for placed

-- ---- it begins

taken_none : (told : Option Trace) → IsTakenBy [] told told
taken_none None = tt
taken_none (Some t) = refl

pub sessions_begin_unread : SessionsBeginUnread
sessions_begin_unread first now chunk every work told report t begun messages commits = (
  record {
    read = [];
    messages = [];
    many = sym messages;
    taken = taken_none told;
    spelled = tt;
    is = begun.is;
    end_is = ap (λ (o : Offset). o.end_lsn) begun.offset_is;
    followed = commits;
  },
  λ reading. record {
    messages = [];
    is = begun.is;
    reading_is = reading;
    many = sym messages;
    end_is = ap (λ (o : Offset). o.end_lsn) begun.offset_is;
    followed = commits;
  },
)
