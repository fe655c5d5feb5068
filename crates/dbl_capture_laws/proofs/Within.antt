-- A session within a transaction: what it shares with the session before the transaction, and what it leaves where it ends.
use Rattle.std.proofs.Common.{◌≡◌, ◌∙◌, ◌⊎◌, inl, inr, ◌+◌, ◌≤◌, ◌<◌, ℕ, ℤ, Option, Some, None, List, [], ◌∷◌, ◌++◌, length, take, refl, sym, ap, subst, arith, append_assoc, append-nil, length-append}
use Rattle.dbl_pgmsg.specs.declared.messages.Message.{Message}
use Rattle.dbl_record.specs.declared.record.Record.{Record}
use Rattle.dbl_record.specs.Cuts.{cut}
use Rattle.dbl_model_table.specs.declared.change.Change.{Change}
use Rattle.dbl_model_table.specs.declared.change.Head.{Head}
use Rattle.dbl_model_table.specs.declared.identity.Identity.{Identity}
use Rattle.dbl_model_table.specs.declared.table.TableInfo.{TableInfo}
use Rattle.dbl_model_table.specs.Heads.{commit_so_far}
use Rattle.dbl_capture_work.specs.ModelCommit.Past.{begin_of}
use Rattle.dbl_capture_work.specs.ModelCommit.Pieces.{changes_so_far, if_open}
use Rattle.dbl_capture_work.specs.ModelCommit.Stated.{open_changes}
use Rattle.dbl_capture_work.specs.ModelEvent.Clashes.{clash_of}
use Rattle.dbl_capture_work.specs.ModelEvent.EventJson.{envelopes}
use Rattle.dbl_capture_work.specs.ModelHistory.Ranges.{IsMomentInRange}
use Rattle.dbl_capture_work.specs.Offset.declared.offset.Offset.{Offset}
use Rattle.dbl_capture_work.specs.SourceModel.Standings.{CrashState}
use Rattle.dbl_capture_work.specs.Follow.Amid.{IsAmid, PassesSoFar}
use Rattle.dbl_capture_work.specs.Follow.Followed.{Following}
use Rattle.dbl_capture_work.specs.Follow.declared.window.Window.{Window}
use Rattle.dbl_capture_work.specs.Follow.declared.window.Window.TheVariants.{Absent, Armed, Open}
use Rattle.dbl_capture_work.specs.CaptureModel.Entries.{SessionStart, WasFaithful}
use Rattle.dbl_capture_work.specs.CaptureModel.Stages.{Stage, next_offset}
use Rattle.dbl_capture_work.specs.CaptureModel.Exits.{IsOpenPart, MayBeLeft}
use Rattle.dbl_capture_work.specs.CaptureModel.Going.{IsGoing}
use Rattle.dbl_capture_work.specs.CaptureModel.Outcomes.{FollowsSession}
use Rattle.dbl_capture_work.proofs.CaptureModelEnding.{sources_may_end, stores_may_end}
use Rattle.dbl_capture_work.proofs.CaptureModelParting.{parts_may_be_left}
use Rattle.dbl_capture_work.specs.declared.work.SessionState.{SessionState}
use Rattle.dbl_capture_work.specs.Works.{HasOpen, head_in, open_commit, rest_in}
use Rattle.dbl_capture_work.specs.Groups.{records_in}
use Rattle.dbl_capture_work.specs.Window.Plans.{Chunk}
use Rattle.dbl_capture_work.proofs.FollowAmidLemmas.{armed_within}
use Rattle.dbl_capture_laws.specs.Sessions.{IsWorkOf}

-- ---- the same as before the transaction

pub open_cursors : (ms : List Message) (work : SessionState) (ahead : HasOpen ms work) → work.follower.cursors ≡ ahead.start.cursors
open_cursors ms work ahead = ap (λ (f : Following). f.cursors) ahead.is.amid.same

pub open_infos : (ms : List Message) (work : SessionState) (ahead : HasOpen ms work) → work.follower.infos ≡ ahead.start.infos
open_infos ms work ahead = ap (λ (f : Following). f.infos) ahead.is.amid.same

pub open_identity : (ms : List Message) (work : SessionState) (ahead : HasOpen ms work) → work.follower.identity ≡ ahead.start.identity
open_identity ms work ahead = ap (λ (f : Following). f.identity) ahead.is.amid.same

-- changes close no window
absent_before : (infos : List TableInfo) (changes : List Change) (old new : Window) → PassesSoFar infos old changes new → new ≡ Absent → old ≡ Absent
absent_before infos [] old new passes none = sym passes ∙ none
absent_before infos (c ∷ changes) Absent new passes none = refl
absent_before infos (c ∷ changes) (Armed chunk) new passes none = let wrong : Armed chunk ≡ Absent = sym passes ∙ none in cc
absent_before infos (c ∷ changes) (Open chunk) new passes none =
    let still = passes.1 in
    let wrong : Open (record chunk { rows = passes.0 }) ≡ Absent = sym still ∙ none in
    cc

pub open_absent : (ms : List Message) (work : SessionState) (ahead : HasOpen ms work) → work.follower.window ≡ Absent → ahead.start.window ≡ Absent
open_absent ms work ahead none =
    absent_before ahead.start.infos (changes_so_far work.offset.infos ms) ahead.start.window work.follower.window ahead.is.amid.passes none

-- ---- the part that was appended

-- These are some first records of the transaction so far, but not all.
pub record IsPartSoFar (identity : Identity) (infos : List TableInfo) (head : Head) (changes : List Change) (now : ℤ) (put : List Record) : Type 0 where
  pub no_clash : clash_of identity infos (commit_so_far head changes) ≡ None
  pub few : length put < length (envelopes identity infos (commit_so_far head changes) now)
  pub is : put ≡ take (length put) (envelopes identity infos (commit_so_far head changes) now)

-- If a part was appended, a transaction is open.
pub record IsOpenWith (start : Following) (o : Option Head) (changes : List Change) (now : ℤ) (put : List Record) : Type 0 where
  pub head : Head
  pub begun : o ≡ Some head
  pub part : IsPartSoFar start.identity start.infos head changes now put

take_front : (xs ys : List Record) → xs ≡ take (length xs) (xs ++ ys)
take_front [] ys = refl
take_front (x ∷ xs) ys = ap (λ (l : List Record). x ∷ l) (take_front xs ys)

fewer : (n a b : ℕ) → n ≡ a + b → 1 ≤ b → a < n
fewer n a b is some = omega (arith, is, some)

some_more : (batch : List Record) (held : Record) → 1 ≤ length (batch ++ held ∷ [])
some_more [] held = omega arith
some_more (item ∷ batch) held = omega arith

part_so_far : (identity : Identity) (infos : List TableInfo) (head : Head) (changes : List Change) (now : ℤ) (put batch : List Record) (held : Record)
    → clash_of identity infos (commit_so_far head changes) ≡ None
    → (put ++ batch) ++ held ∷ [] ≡ envelopes identity infos (commit_so_far head changes) now → IsPartSoFar identity infos head changes now put
part_so_far identity infos head changes now put batch held clear are =
    let all = envelopes identity infos (commit_so_far head changes) now in
    let whole : all ≡ put ++ (batch ++ held ∷ []) = sym are ∙ append_assoc put batch (held ∷ []) in
    record {
      no_clash = clear;
      few = fewer (length all) (length put) (length (batch ++ held ∷ [])) (ap length whole ∙ length-append put (batch ++ held ∷ [])) (some_more batch held);
      is = take_front put (batch ++ held ∷ []) ∙ ap (take (length put)) (sym whole);
    }

none_put : (put batch : List Record) (first : Record) (rest : List Record) → put ≡ first ∷ rest → put ++ batch ≡ [] → ⊥
none_put [] batch first rest some none = cc
none_put (x ∷ put) batch first rest some none = cc

open_with : (start f : Following) (o : Option Head) (changes : List Change) (now : ℤ) (put batch : List Record) (first : Record) (rest : List Record)
    → put ≡ first ∷ rest → IsAmid start (head_in o) (if_open o changes) now (put ++ batch) f → IsOpenWith start o changes now put
open_with start f None changes now put batch first rest some amid = absurd (none_put put batch first rest some amid.released_are.1)
open_with start f (Some head) [] now put batch first rest some amid = absurd (none_put put batch first rest some amid.released_are.1)
open_with start f (Some head) (c ∷ changes) now put batch first rest some amid = record {
  head = head;
  begun = refl;
  part = part_so_far start.identity start.infos head (c ∷ changes) now put batch amid.released_are.0 amid.no_clash amid.released_are.2;
}

-- ---- what it leaves

module _ (entry : SessionStart) (stage : Stage) (work : SessionState) (ahead : HasOpen stage.messages work) (is : IsWorkOf entry stage (rest_in ahead))
    (going : IsGoing entry stage) where
  infos_so : work.offset.infos ≡ stage.first.infos
  infos_so = ap (λ (o : Offset). o.infos) is.offset_is

  identity_so : ahead.start.identity ≡ stage.first.identity
  identity_so = ap (λ (f : Following). f.identity) is.follower_is ∙ going.reading.follows_identity

  start_infos_so : ahead.start.infos ≡ stage.first.infos
  start_infos_so = ap (λ (f : Following). f.infos) is.follower_is ∙ going.reading.follows_infos

  open_part : (first : Record) (rest : List Record) → ahead.put ≡ first ∷ rest → IsOpenPart stage entry.now ahead.put
  open_part first rest some =
      let inside = open_with ahead.start work.follower (begin_of stage.messages) (open_changes work.offset.infos stage.messages) work.now_ms ahead.put _ first rest
      some ahead.is.amid in
      let part = subst (λ (t : ℤ). IsPartSoFar stage.first.identity stage.first.infos inside.head (open_changes stage.first.infos stage.messages) t ahead.put)
      is.now_is
      (subst (λ (l : List TableInfo). IsPartSoFar stage.first.identity stage.first.infos inside.head (open_changes l stage.messages) work.now_ms ahead.put) infos_so
      (subst (λ (l : List TableInfo). IsPartSoFar stage.first.identity l inside.head (open_changes work.offset.infos stage.messages) work.now_ms ahead.put)
      start_infos_so
      (subst (λ (i : Identity). IsPartSoFar i ahead.start.infos inside.head (open_changes work.offset.infos stage.messages) work.now_ms ahead.put) identity_so
      inside.part))) in
      record { head = inside.head; begun = inside.begun; no_clash = part.no_clash; count = length ahead.put; few = part.few; is = part.is }

  not_due : work.since < work.every → stage.since < entry.config.every
  not_due since =
      subst (λ (n : ℕ). n < entry.config.every) is.since_is (subst (λ (n : ℕ). work.since < n) is.every_is since)

  -- the part stays in the sink, with the stored offset or the next one in the store
  pub open_left : (left : CrashState) (offset : Offset) → WasFaithful entry → MayBeLeft stage left → (offset ≡ stage.stored) ⊎ (offset ≡ next_offset stage)
      → FollowsSession entry left (stage.groups ++ cut ahead.put) (Some offset)
  open_left left offset faithful may which = by ahead.put refl
    where
      rested : (offset ≡ stage.stored) ⊎ (offset ≡ next_offset stage) → FollowsSession entry left stage.groups (Some offset)
      rested (inl stored) = subst (λ (o : Offset). FollowsSession entry left stage.groups (Some o)) (sym stored) (sources_may_end entry stage left faithful may going)
      rested (inr next) = subst (λ (o : Offset). FollowsSession entry left stage.groups (Some o)) (sym next) (stores_may_end entry stage left faithful may going)

      by : (put : List Record) → ahead.put ≡ put → FollowsSession entry left (stage.groups ++ cut ahead.put) (Some offset)
      by [] none =
          subst (λ (l : List Record). FollowsSession entry left (stage.groups ++ cut l) (Some offset)) (sym none)
          (subst (λ (g : List (List Record)). FollowsSession entry left g (Some offset)) (sym (append-nil stage.groups)) (rested which))
      by (first ∷ rest) some = elim ahead.is.early [
        | inl none ↦ absurd (let wrong : [] ≡ first ∷ rest = sym none ∙ some in cc)
        | inr early ↦ parts_may_be_left entry stage left ahead.put offset faithful (subst IsMomentInRange is.now_is early.1) (not_due early.0) may
            (open_part first rest some) which going
      ]

-- ---- the offset was stored

pub some_more_left : (n : ℕ) → 1 ≤ n → 0 < n
some_more_left n le = omega (arith, le)

abbrev pub settled_open : (ms : List Message) (work : SessionState) → 1 ≤ work.every → HasOpen ms work → HasOpen ms (record work { since = 0 })
settled_open ms work some ahead = record {
  start = ahead.start;
  put = ahead.put;
  is = record {
    amid = ahead.is.amid;
    gathered = ahead.is.gathered;
    batched = ahead.is.batched;
    short = ahead.is.short;
    early = elim ahead.is.early [
      | inl none ↦ inl none
      | inr early ↦ inr (some_more_left work.every some, early.1)
    ];
  };
}

-- ---- a window was armed

-- as if it was before the transaction
abbrev pub armed_open : (ms : List Message) (work : SessionState) (chunk : Chunk) (ahead : HasOpen ms work)
    → HasOpen ms (record work { follower = record work.follower { window = Armed chunk }; number = work.number + 1 })
armed_open ms work chunk ahead = record {
  start = record ahead.start { window = Armed chunk };
  put = ahead.put;
  is = record {
    amid = armed_within ahead.start work.follower (head_in (begin_of ms)) (changes_so_far work.offset.infos ms) work.now_ms (ahead.put ++ records_in work.batch)
        chunk ahead.is.amid;
    gathered = ahead.is.gathered;
    batched = ahead.is.batched;
    short = ahead.is.short;
    early = ahead.is.early;
  };
}

-- ---- it ends at changes that it follows

module _ (entry : SessionStart) (stage : Stage) (rest : SessionState) (is : IsWorkOf entry stage rest) (going : IsGoing entry stage)
    (in_range : IsMomentInRange rest.now_ms) (since : rest.since < rest.every) (left : CrashState) (offset : Offset) (faithful : WasFaithful entry)
    (may : MayBeLeft stage left) (which : (offset ≡ stage.stored) ⊎ (offset ≡ next_offset stage)) where
  -- some first records of the open transaction of these tables are left
  abbrev LeavesPart : Identity → List TableInfo → List TableInfo → ℤ → Type 0
  LeavesPart identity infos captured now = (count : ℕ) → clash_of identity infos (open_commit captured stage.messages) ≡ None
      → (count ≡ 0) ⊎ (count < length (envelopes identity infos (open_commit captured stage.messages) now))
      → FollowsSession entry left (stage.groups ++ cut (take count (envelopes identity infos (open_commit captured stage.messages) now))) (Some offset)

  nothing_left : FollowsSession entry left stage.groups (Some offset)
  nothing_left = elim which [
    | inl stored ↦ subst (λ (o : Offset). FollowsSession entry left stage.groups (Some o)) (sym stored) (sources_may_end entry stage left faithful may going)
    | inr next ↦ subst (λ (o : Offset). FollowsSession entry left stage.groups (Some o)) (sym next) (stores_may_end entry stage left faithful may going)
  ]

  since_own : stage.since < entry.config.every
  since_own = subst (λ (n : ℕ). n < entry.config.every) is.since_is (subst (λ (n : ℕ). rest.since < n) is.every_is since)

  none_below : (n : ℕ) → n < 0 → ⊥
  none_below n lt = omega (arith, lt)

  head_of : (count : ℕ) (o : Option Head) → begin_of stage.messages ≡ o
      → count < length (envelopes stage.first.identity stage.first.infos (commit_so_far (head_in o) (if_open o (open_changes stage.first.infos stage.messages))) entry.now)
      → (head : Head) × (begin_of stage.messages ≡ Some head)
  head_of count None begun few = absurd (none_below count few)
  head_of count (Some head) begun few = (head, begun)

  own_part : LeavesPart stage.first.identity stage.first.infos stage.first.infos entry.now
  own_part count clear (inl zero) =
      subst (λ (n : ℕ). FollowsSession entry left (stage.groups ++ cut (take n (envelopes stage.first.identity stage.first.infos (open_commit stage.first.infos stage.messages) entry.now))) (Some offset)) (sym zero)
      (subst (λ (g : List (List Record)). FollowsSession entry left g (Some offset)) (sym (append-nil stage.groups)) nothing_left)
  own_part count clear (inr few) =
      let inside = head_of count (begin_of stage.messages) refl few in
      let changes = open_changes stage.first.infos stage.messages in
      parts_may_be_left entry stage left _ offset faithful (subst IsMomentInRange is.now_is in_range) since_own may
      (record {
        head = inside.0;
        begun = inside.1;
        no_clash = subst (λ (o : Option Head). clash_of stage.first.identity stage.first.infos (commit_so_far (head_in o) (if_open o changes)) ≡ None) inside.1 clear;
        count = count;
        few = subst (λ (o : Option Head). count < length (envelopes stage.first.identity stage.first.infos (commit_so_far (head_in o) (if_open o changes)) entry.now)) inside.1 few;
        is = ap (λ (o : Option Head). take count (envelopes stage.first.identity stage.first.infos (commit_so_far (head_in o) (if_open o changes)) entry.now)) inside.1;
      }) which going

  pub part_left : (clear : clash_of rest.follower.identity rest.follower.infos (open_commit rest.offset.infos stage.messages) ≡ None) (count : ℕ)
      → (count ≡ 0) ⊎ (count < length (envelopes rest.follower.identity rest.follower.infos (open_commit rest.offset.infos stage.messages) rest.now_ms))
      → FollowsSession entry left (stage.groups ++ cut (take count (envelopes rest.follower.identity rest.follower.infos (open_commit rest.offset.infos stage.messages) rest.now_ms))) (Some offset)
  part_left clear count few =
      (subst (λ (i : Identity). LeavesPart i rest.follower.infos rest.offset.infos rest.now_ms)
      (sym (ap (λ (f : Following). f.identity) is.follower_is ∙ going.reading.follows_identity))
      (subst (λ (l : List TableInfo). LeavesPart stage.first.identity l rest.offset.infos rest.now_ms)
      (sym (ap (λ (f : Following). f.infos) is.follower_is ∙ going.reading.follows_infos))
      (subst (λ (l : List TableInfo). LeavesPart stage.first.identity stage.first.infos l rest.now_ms) (sym (ap (λ (o : Offset). o.infos) is.offset_is))
      (subst (LeavesPart stage.first.identity stage.first.infos stage.first.infos) (sym is.now_is) own_part)))) count clear few
