-- The steps of a session that put no record.
use Rattle.std.proofs.Common.{◌≡◌, ◌∙◌, ◌⊎◌, ◌≤◌, ℕ, max, Option, None, List, [], ◌∷◌, ◌++◌, length, refl, sym, ap, subst, arith, append_assoc, append-nil, le_refl, length-append}
use Rattle.std.specs.List.{AllByRecursion}
use Rattle.std.proofs.lemmas.List.{length-map}
use Rattle.dbl_base.specs.declared.lsn.Lsn.{Lsn}
use Rattle.dbl_pgmsg.specs.declared.messages.Message.{Message}
use Rattle.dbl_model_table.specs.declared.change.Commit.{Commit}
use Rattle.dbl_faithful.specs.ModelHistory.History.{RawCommit, History}
use Rattle.dbl_faithful.specs.ModelHistory.Fit.{AreInfosOf, IsFitHistory}
use Rattle.dbl_faithful.specs.ModelHistory.Typed.{typed_commit}
use Rattle.dbl_faithful.proofs.ConsumeLawsNotices.{all_append}
use Rattle.dbl_follow.specs.ModelCommit.Stated.{list_of, ended_commit, commits_of}
use Rattle.dbl_follow.specs.SourceModel.Growth.{AreOthers, Grows}
use Rattle.dbl_faithful.proofs.Items.{all_weaker}
use Rattle.dbl_faithful.specs.Lag.{IsMarkedBy}
use Rattle.dbl_faithful.specs.Kept.{HasGrown}
use Rattle.dbl_follow.proofs.WindowHonestLemmas.{captured_stays}
use Rattle.dbl_capture_model.specs.Entries.{SessionStart}
use Rattle.dbl_capture_model.specs.Stages.{Stage, records_of_stage, next_offset, read_at, IsLastAt, PartsHistory, later_count, far_at}
use Rattle.dbl_capture_model.specs.Delivered.{IsDelivered}
use Rattle.dbl_capture_model.specs.Marked.{IsAwaited, IsWindowAt}
use Rattle.dbl_faithful.specs.Offset.declared.offset.Offset.{Offset}
use Rattle.dbl_capture_model.specs.Going.{IsReading, IsNear, IsGoing, begun_after}
use Rattle.dbl_capture_model.specs.Steps.{OthersKeepGoing, ConfirmsKeepGoing, MessagesKeepGoing, StoresKeepGoing}
use Rattle.dbl_faithful.proofs.Lists.{longer, is_longer, still_at, still_position}
use Rattle.dbl_capture_model.proofs.Growing.{first_longer, confirmed_so, reads_longer, parts_longer, offset_longer, up_longer, near_longer}
use Rattle.dbl_capture_model.proofs.Marking.{others_marked, own_marks_stay, awaited_stays, window_stays, counted_stays}

-- ---- others

-- no more commits were read than there are
pub read_le : (stage : Stage) (parts : PartsHistory stage) → later_count parts ≤ length stage.history.commits
read_le stage parts = omega (arith, ap length parts.spelled, length-append (parts.old ++ read_at stage) parts.later, length-map stage.history.commits (typed_commit stage.first.infos))

others_longer : (entry : SessionStart) (stage : Stage) (more : List RawCommit) → AreOthers more → Grows stage.history (longer stage.history more) → IsFitHistory (longer stage.history more) → IsGoing entry stage
    → IsGoing entry (record stage { history = longer stage.history more })
others_longer entry stage more others g fit going = record {
  reading = record {
    began = first_longer entry stage.history more stage.first entry.offset r.began;
    first_small = r.first_small;
    of_session = r.of_session;
    stored_later = r.stored_later;
    no_fall = r.no_fall;
    more = r.more ++ more;
    grown = record { tables = r.grown.tables; commits = ap (λ (l : List RawCommit). l ++ more) r.grown.commits ∙ append_assoc entry.history.commits r.more more };
    fit = fit;
    infos = infos;
    fields = r.fields;
    accepted = r.accepted;
    right = reads_longer entry stage more fit r.right;
    follows_identity = r.follows_identity;
    follows_infos = r.follows_infos;
    cursors = r.cursors;
    closed = r.closed;
    counted = counted_stays stage.history (longer stage.history more) g stage.first.infos entry.config.chunk stage.number r.closed entry.history stage.following.window stage.first.cursors stage.following.cursors r.counted;
    told = r.told;
  };
  placed = λ stood. record {
    position = still_position stage.history more stage.lsn.0 (going.placed stood).position;
    parts = parts_longer entry stage more fit (going.placed stood).position (going.placed stood).parts;
    awaited = awaited_stays stage.history (longer stage.history more) g (later_count (going.placed stood).parts) stage.following.window (going.placed stood).awaited;
  };
  kept = λ stood faithful. (
      let p = going.placed stood in
      let k = going.kept stood faithful in
      record {
        order = k.order;
        small = k.small;
        own_marks = own_marks_stay stage.history (longer stage.history more) g stage.first.incarnation stage.number (begun_after entry stage.first) k.own_marks;
        own_window = k.own_window;
        window = window_stays stage.history (longer stage.history more) g stage.first.infos (later_count p.parts) stage.following.window (read_le stage p.parts) k.window;
        from = k.from;
        to = k.to;
        stored_is = offset_longer entry stage more fit p.parts marks p.position stage.stored going.reading.of_session.incarnation k.stored_is;
        next_is = offset_longer entry stage more fit p.parts marks p.position (next_offset stage) refl k.next_is;
        up = up_longer entry stage more fit p.parts marks p.position r.fit r.infos infos k.stand k.up;
        adds = k.adds;
        within = k.within;
        grouped = k.grouped;
        near = near_longer entry stage more fit p.parts marks p.position k.near;
        stand = λ place item at. still_at stage.history more item.position (k.stand place item at);
      });
}
  where
    r : IsReading entry stage
    r = going.reading

    infos : AreInfosOf (longer stage.history more) stage.first.infos
    infos = captured_stays stage.history (longer stage.history more) stage.first.infos refl going.reading.infos

    marks : AllByRecursion (λ commit. IsMarkedBy stage.first.incarnation commit.body) more
    marks = others_marked stage.first.incarnation more others

pub others_keep_going : OthersKeepGoing
others_keep_going entry stage history grows fit going =
    let grown : HasGrown stage.history history grows.others = record { tables = grows.tables; commits = grows.commits } in
    let same : history ≡ longer stage.history grows.others = is_longer stage.history history grows.others grown in
    subst (λ (h : History). IsGoing entry (record stage { history = h })) (sym same)
    (others_longer entry stage grows.others grows.are_others (subst (Grows stage.history) same grows) (subst IsFitHistory same fit) going)

-- ---- confirming

both_le : (a b c d : ℕ) → a ≡ max b c → b ≤ d → c ≤ d → a ≤ d
both_le a b c d is one two = omega (arith, is, one, two)

le_on : (a b c : ℕ) → a ≤ b → b ≤ c → a ≤ c
le_on a b c one two = omega (arith, one, two)

le_greater : (a b c d : ℕ) → a ≤ b → d ≡ max b c → a ≤ d
le_greater a b c d le is = omega (arith, le, is)

abbrev parts_as : (stage : Stage) (confirmed : Lsn) (stored : Offset) (since : ℕ) → PartsHistory stage → PartsHistory (record stage { confirmed = confirmed; stored = stored; since = since })
parts_as stage confirmed stored since parts = record {
  old = parts.old;
  later = parts.later;
  spelled = parts.spelled;
  stated = parts.stated;
  last = parts.last;
  under = parts.under;
  over = parts.over;
  order = parts.order;
}

-- it is as near with other messages, and with another confirmed position
near_as : (entry : SessionStart) (stage : Stage) (messages : List Message) (confirmed : Lsn) → IsNear entry stage → IsNear entry (record stage { messages = messages; confirmed = confirmed })
near_as entry stage messages confirmed near = record {
  before = near.before;
  since = near.since;
  later = near.later;
  spelled = near.spelled;
  settled = near.settled;
  followed = near.followed;
  many = near.many;
  over = near.over;
  few = near.few;
  top = near.top;
}

confirmed_going : (entry : SessionStart) (stage : Stage) (confirmed upto : Lsn) → upto.0 ≤ stage.stored.lsn.0 → confirmed.0 ≡ max stage.confirmed.0 upto.0 → IsGoing entry stage → IsGoing entry (record stage { confirmed = confirmed })
confirmed_going entry stage confirmed upto le is going = record {
  reading = record {
    began = going.reading.began;
    first_small = going.reading.first_small;
    of_session = going.reading.of_session;
    stored_later = going.reading.stored_later;
    no_fall = le_greater entry.confirmed.0 stage.confirmed.0 upto.0 confirmed.0 going.reading.no_fall is;
    more = going.reading.more;
    grown = going.reading.grown;
    fit = going.reading.fit;
    infos = going.reading.infos;
    fields = going.reading.fields;
    accepted = going.reading.accepted;
    right = going.reading.right;
    follows_identity = going.reading.follows_identity;
    follows_infos = going.reading.follows_infos;
    cursors = going.reading.cursors;
    closed = going.reading.closed;
    counted = going.reading.counted;
    told = going.reading.told;
  };
  placed = λ stood. record {
    position = (going.placed stood).position;
    parts = parts_as stage confirmed stage.stored stage.since (going.placed stood).parts;
    awaited = (going.placed stood).awaited;
  };
  kept = λ stood faithful. (
      let k = going.kept stood faithful in
      let low : confirmed.0 ≤ stage.stored.lsn.0 = both_le confirmed.0 stage.confirmed.0 upto.0 stage.stored.lsn.0 is k.stored_is.confirmed_to le in
      record {
        order = k.order;
        small = k.small;
        own_marks = k.own_marks;
        own_window = k.own_window;
        window = k.window;
        from = k.from;
        to = k.to;
        stored_is = confirmed_so stage.history stage.confirmed confirmed (records_of_stage stage) stage.stored low k.stored_is;
        next_is = confirmed_so stage.history stage.confirmed confirmed (records_of_stage stage) (next_offset stage) (le_on confirmed.0 stage.stored.lsn.0 stage.lsn.0 low k.to) k.next_is;
        up = k.up;
        adds = k.adds;
        within = k.within;
        grouped = k.grouped;
        near = near_as entry stage stage.messages confirmed k.near;
        stand = k.stand;
      });
}

pub confirms_keep_going : ConfirmsKeepGoing
confirms_keep_going entry stage history confirmed upto grows fit le is going =
    confirmed_going entry (record stage { history = history }) confirmed upto le is (others_keep_going entry stage history grows fit going)

-- ---- a message that ends no commit

read_on : (stage : Stage) (m : Message) → ended_commit stage.first.infos m stage.messages ≡ None → commits_of stage.first.infos (m ∷ stage.messages) ≡ read_at stage
read_on stage m none = ap (λ (o : Option Commit). read_at stage ++ list_of o) none ∙ append-nil (read_at stage)

abbrev parts_took : (stage : Stage) (m : Message) → ended_commit stage.first.infos m stage.messages ≡ None → PartsHistory stage → PartsHistory (record stage { messages = m ∷ stage.messages })
parts_took stage m none parts = record {
  old = parts.old;
  later = parts.later;
  spelled = parts.spelled ∙ ap (λ (l : List Commit). (parts.old ++ l) ++ parts.later) (sym (read_on stage m none));
  stated = parts.stated ∙ ap (λ (l : List Commit). l ++ parts.later) (sym (read_on stage m none));
  last = subst (λ (l : List Commit). ((stage.lsn ≡ stage.first.lsn) × (l ≡ [])) ⊎ IsLastAt stage.lsn.0 l) (sym (read_on stage m none)) parts.last;
  under = subst (λ (l : List Commit). AllByRecursion (λ (c : Commit). c.lsn.0 ≤ stage.lsn.0) (parts.old ++ l)) (sym (read_on stage m none)) parts.under;
  over = parts.over;
  order = parts.order;
}

pub messages_keep_going : MessagesKeepGoing
messages_keep_going entry stage m fields clean none right going = record {
  reading = record {
    began = going.reading.began;
    first_small = going.reading.first_small;
    of_session = going.reading.of_session;
    stored_later = going.reading.stored_later;
    no_fall = going.reading.no_fall;
    more = going.reading.more;
    grown = going.reading.grown;
    fit = going.reading.fit;
    infos = going.reading.infos;
    fields = (fields, going.reading.fields);
    accepted = (clean, going.reading.accepted);
    right = right;
    follows_identity = going.reading.follows_identity;
    follows_infos = going.reading.follows_infos;
    cursors = going.reading.cursors;
    closed = going.reading.closed;
    counted = going.reading.counted;
    told = going.reading.told;
  };
  placed = λ stood. record {
    position = (going.placed stood).position;
    parts = parts_took stage m none (going.placed stood).parts;
    awaited = subst (λ (l : List Commit). IsAwaited stage.history (length ((going.placed stood).parts.old ++ l)) stage.following.window) (sym (read_on stage m none)) (going.placed stood).awaited;
  };
  kept = λ stood faithful. (
      let p = going.placed stood in
      let k = going.kept stood faithful in
      record {
        order = k.order;
        small = k.small;
        own_marks = k.own_marks;
        own_window = k.own_window;
        window = subst (λ (l : List Commit). IsWindowAt stage.first.infos stage.history (length (p.parts.old ++ l)) stage.following.window) (sym (read_on stage m none)) k.window;
        from = k.from;
        to = k.to;
        stored_is = k.stored_is;
        next_is = k.next_is;
        up = subst (λ (l : List Commit). IsDelivered stage.first.identity stage.first.infos stage.history stage.first.start.0 stage.first.lsn.0 stage.lsn.0 (far_at entry stage) (p.parts.old ++ l) p.parts.later 0 (records_of_stage stage)) (sym (read_on stage m none)) k.up;
        adds = k.adds;
        within = k.within;
        grouped = k.grouped;
        near = near_as entry stage (m ∷ stage.messages) stage.confirmed k.near;
        stand = k.stand;
      });
}

-- ---- a store

pub stores_keep_going : StoresKeepGoing
stores_keep_going entry stage going = record {
  reading = record {
    began = going.reading.began;
    first_small = going.reading.first_small;
    of_session = record { identity = refl; infos = refl; versions = refl; start = refl; incarnation = refl };
    stored_later = going.reading.counted.come.later;
    no_fall = going.reading.no_fall;
    more = going.reading.more;
    grown = going.reading.grown;
    fit = going.reading.fit;
    infos = going.reading.infos;
    fields = going.reading.fields;
    accepted = going.reading.accepted;
    right = going.reading.right;
    follows_identity = going.reading.follows_identity;
    follows_infos = going.reading.follows_infos;
    cursors = going.reading.cursors;
    closed = going.reading.closed;
    counted = going.reading.counted;
    told = going.reading.told;
  };
  placed = λ stood. record {
    position = (going.placed stood).position;
    parts = parts_as stage stage.confirmed (next_offset stage) 0 (going.placed stood).parts;
    awaited = (going.placed stood).awaited;
  };
  kept = λ stood faithful. (
      let p = going.placed stood in
      let k = going.kept stood faithful in
      record {
        order = k.order;
        small = k.small;
        own_marks = k.own_marks;
        own_window = k.own_window;
        window = k.window;
        from = p.parts.order;
        to = le_refl stage.lsn.0;
        stored_is = k.next_is;
        next_is = k.next_is;
        up = k.up;
        adds = k.adds;
        within = k.within;
        grouped = k.grouped;
        near = record {
          before = k.near.before ++ k.near.since;
          since = [];
          later = k.near.later;
          spelled = k.near.spelled ∙ sym (append_assoc k.near.before k.near.since k.near.later);
          settled = all_append (λ (c : RawCommit). c.lsn.0 ≤ stage.lsn.0) k.near.before k.near.since
              (all_weaker (λ (c : RawCommit). c.lsn.0 ≤ stage.stored.lsn.0) (λ (c : RawCommit). c.lsn.0 ≤ stage.lsn.0) k.near.before (λ c le. le_on c.lsn.0 stage.stored.lsn.0 stage.lsn.0 le k.to) k.near.settled) k.near.followed;
          followed = tt;
          many = refl;
          over = k.near.over;
          few = none_le entry.config.every;
          top = k.near.top;
        };
        stand = k.stand;
      });
}
  where
    none_le : (n : ℕ) → 0 ≤ n
    none_le n = omega arith
