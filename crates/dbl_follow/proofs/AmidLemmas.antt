-- A follower within a transaction, change by change, and at its end.
use Rattle.std.proofs.Common.{◌≡◌, ◌≢◌, ◌∙◌, ◌+◌, ℕ, suc, ℤ, Option, Some, None, List, [], ◌∷◌, ◌++◌, length, map, flat_map, refl, sym, ap, subst, arith, append_assoc, append-nil}
use Rattle.std.specs.Prelude.{IfOk, IfSome, IsSome, OnOk, Result, Ok, Err}
use Rattle.std.specs.Option.{option_or}
use Rattle.std.proofs.lemmas.List.{length-append, length-map}
use Rattle.dbl_record.specs.declared.record.Record.{Record}
use Rattle.dbl_model_table.specs.declared.identity.Identity.{Identity}
use Rattle.dbl_model_table.specs.declared.table.TableInfo.{TableInfo}
use Rattle.dbl_model_table.specs.declared.change.Body.TheVariants.{Changes, Mark}
use Rattle.dbl_model_table.specs.declared.change.Change.{Change}
use Rattle.dbl_model_table.specs.declared.change.Commit.{Commit}
use Rattle.dbl_model_table.specs.declared.change.Ended.{Ended}
use Rattle.dbl_model_table.specs.declared.change.Head.{Head}
use Rattle.dbl_model_table.specs.Heads.{commit_head, commit_by, ended_at, commit_so_far}
use Rattle.dbl_model_event.specs.Clashes.{Clash, clash_of, first_found, notice_clash}
use Rattle.dbl_model_event.specs.Events.{Notice, notices, numbered}
use Rattle.dbl_model_event.specs.EventJson.{print, envelopes}
use Rattle.dbl_model_event.specs.OpenEvents.{unmarked}
use Rattle.dbl_model_event.specs.SnapshotLists.{IsSnapshot}
use Rattle.dbl_model_event.proofs.OpenLemmas.{clashes_on, records_by_head, records_on, records_show_no_end, first_clashes_stay}
use Rattle.dbl_envelope.specs.Clashing.{notices_clash}
use Rattle.dbl_envelope.specs.Suits.{Suits}
use Rattle.dbl_envelope.specs.SoFar.{records_after}
use Rattle.dbl_envelope.specs.Writers.{Captured}
use Rattle.dbl_envelope.proofs.CommitLemmas.{notices_count}
use Rattle.dbl_window.specs.Plans.{Chunk}
use Rattle.dbl_follow.specs.declared.error.FollowError.{FollowError}
use Rattle.dbl_follow.specs.declared.window.Window.{Window}
use Rattle.dbl_follow.specs.declared.window.Window.TheVariants.{Absent, Armed, Open}
use Rattle.dbl_follow.specs.Amid.{PassesSoFar, AreReleased, IsAmid, EndsWithCommit, ExtendsPart, held_records, ArmedWithinTransactions}
use Rattle.dbl_follow.specs.Faults.{IsClashOf}
use Rattle.dbl_follow.specs.Followed.{OpenPart, Following, IsWindowOf}
use Rattle.dbl_follow.specs.Steps.{mark_of, closing, closed_of, records_of, records_by, clash_in, clash_by, cursors_after, Passes, Steps}
use Rattle.dbl_follow.proofs.SnapshotSteps.{closing-None}
use Rattle.dbl_follow.proofs.StepLemmas.{passes_on}

-- ---- the records of one more change

length_numbered : (position ordinal : ℕ) (ns : List Notice) → length (numbered position ordinal ns) ≡ length ns
length_numbered position ordinal [] = refl
length_numbered position ordinal (n ∷ ns) = ap suc (length_numbered position (ordinal + 1) ns)

-- the events of one change
one_change : (infos : List TableInfo) (change : Change) → flat_map (notices infos) (change ∷ []) ≡ notices infos change
one_change infos change = append-nil (notices infos change)

some_events : (infos : List TableInfo) (change : Change) → Suits infos change → flat_map (notices infos) (change ∷ []) ≢ []
some_events infos change suits = λ none. (
    let some = notices_count infos change suits in
    let empty : length (notices infos change) ≡ 0 = ap length (sym (one_change infos change) ∙ none) in
    omega (arith, some.1, empty))

module _ (identity : Identity) (infos : List TableInfo) (head : Head) (now : ℤ) where
  abbrev captured : Captured
  captured = record { identity = identity; infos = infos }

  abbrev so_far : List Change → List Record
  so_far changes = envelopes identity infos (commit_so_far head changes) now

  first_records : (change : Change) → so_far (change ∷ []) ≡ records_after captured head now 0 change
  first_records change =
      records_by_head identity infos head (change ∷ []) now
      ∙ ap (λ (l : List Notice). map (print identity (commit_so_far head []) now) (numbered head.lsn.0 0 l)) (one_change infos change)

  -- as many records as events
  counted : (changes : List Change) (released : List Record) (held : Record) → released ++ held ∷ [] ≡ so_far changes
      → length (flat_map (notices infos) changes) ≡ length released + 1
  counted changes released held are =
      let ns = flat_map (notices infos) changes in
      let P = print identity (commit_so_far head []) now in
      let long : length (released ++ held ∷ []) ≡ length (map P (numbered head.lsn.0 0 ns)) =
      ap length (are ∙ records_by_head identity infos head changes now) in
      let printed : length (map P (numbered head.lsn.0 0 ns)) ≡ length ns = length-map (numbered head.lsn.0 0 ns) P ∙ length_numbered head.lsn.0 0 ns in
      omega (arith, long, printed, length-append released (held ∷ []))

  next_records : (changes : List Change) (change : Change) (released : List Record) (held : Record) → released ++ held ∷ [] ≡ so_far changes
      → Suits infos change
      → so_far (changes ++ change ∷ []) ≡ (released ++ unmarked held ∷ []) ++ records_after captured head now (length released + 1) change
  next_records changes change released held are suits =
      let P = print identity (commit_so_far head []) now in
      records_on identity infos head changes (change ∷ []) now released held (sym are) (some_events infos change suits)
      ∙ ap (λ (n : ℕ). (released ++ unmarked held ∷ []) ++ map P (numbered head.lsn.0 n (flat_map (notices infos) (change ∷ []))))
      (counted changes released held are)
      ∙ ap (λ (l : List Notice). (released ++ unmarked held ∷ []) ++ map P (numbered head.lsn.0 (length released + 1) l)) (one_change infos change)

-- ---- what is released

abbrev pub captured_by : Following → Captured
captured_by f = record { identity = f.identity; infos = f.infos }

first_released : (start : Following) (head : Head) (change : Change) (now : ℤ) (more : List Record) (new : Option OpenPart)
    → ExtendsPart (captured_by start) head now change None more new
    → AreReleased start head (change ∷ []) now more new
first_released start head change now more new by =
    let long : length (more ++ by.0 ∷ []) ≡ length (records_after (captured_by start) head now 0 change) = ap length by.2 in
    let made : length (records_after (captured_by start) head now 0 change) ≡ length more + 1 = omega (arith, long, length-append more (by.0 ∷ [])) in (
      by.0,
      by.1 ∙ ap (λ (n : ℕ). let p : OpenPart = record { head = head; now = now; made = n; held = by.0 } in Some p) made,
      by.2 ∙ sym (first_records start.identity start.infos head now change),
    )

next_released : (start : Following) (head : Head) (c : Change) (cs : List Change) (change : Change) (now : ℤ) (released more : List Record) (held : Record)
    (new : Option OpenPart)
    → released ++ held ∷ [] ≡ envelopes start.identity start.infos (commit_so_far head (c ∷ cs)) now → Suits start.infos change
    → ExtendsPart (captured_by start) head now change (Some (record { head = head; now = now; made = length released + 1; held = held })) more new
    → AreReleased start head (c ∷ (cs ++ change ∷ [])) now (released ++ more) new
next_released start head c cs change now released more held new are suits by =
    let recs = records_after (captured_by start) head now (length released + 1) change in
    let long : length (more ++ by.0 ∷ []) ≡ length recs + 1 = ap length by.2 ∙ omega arith in
    let made : (length released + 1) + length recs ≡ length (released ++ more) + 1 =
    omega (arith, long, length-append more (by.0 ∷ []), length-append released more) in (
      by.0,
      by.1 ∙ ap (λ (n : ℕ). let p : OpenPart = record { head = head; now = now; made = n; held = by.0 } in Some p) made,
      append_assoc released more (by.0 ∷ [])
          ∙ ap (λ (l : List Record). released ++ l) by.2
          ∙ sym (append_assoc released (unmarked held ∷ []) recs)
          ∙ sym (next_records start.identity start.infos head now (c ∷ cs) change released held are suits),
    )

released_more : (start : Following) (head : Head) (changes : List Change) (change : Change) (now now_ms : ℤ) (released more : List Record)
    (old new : Option OpenPart)
    → AreReleased start head changes now released old → (changes ≡ [] → now ≡ now_ms) → Suits start.infos change
    → ExtendsPart (captured_by start) head now_ms change old more new
    → AreReleased start head (changes ++ change ∷ []) now (released ++ more) new
released_more start head [] change now now_ms released more old new are at suits by =
    subst (λ (l : List Record). AreReleased start head (change ∷ []) now (l ++ more) new) (sym are.1)
    (first_released start head change now more new
    (subst (λ (t : ℤ). ExtendsPart (captured_by start) head t change None more new) (sym (at refl))
    (subst (λ (o : Option OpenPart). ExtendsPart (captured_by start) head now_ms change o more new) are.0 by)))
released_more start head (c ∷ cs) change now now_ms released more old new are at suits by =
    next_released start head c cs change now released more are.0 new are.2 suits
    (subst (λ (o : Option OpenPart). ExtendsPart (captured_by start) head now_ms change o more new) are.1 by)

-- ---- one more change

passes_more : (infos : List TableInfo) (changes : List Change) (change : Change) (first middle last : Window) → PassesSoFar infos first changes middle
    → Passes infos middle (change ∷ []) last
    → PassesSoFar infos first (changes ++ change ∷ []) last
passes_more infos [] change first middle last a b = subst (λ (w : Window). Passes infos w (change ∷ []) last) a b
passes_more infos (c ∷ cs) change first middle last a b = passes_on infos (c ∷ cs) (change ∷ []) first middle last a b

pub identity_kept : (start f : Following) (head : Head) (changes : List Change) (now : ℤ) (released : List Record) → IsAmid start head changes now released f
    → captured_by f ≡ captured_by start
identity_kept start f head changes now released a = ap captured_by a.same

-- the first value equal to the placeholder of one more change
pub clash_more : (start f : Following) (head : Head) (changes : List Change) (change : Change) (now : ℤ) (released : List Record)
    → IsAmid start head changes now released f
    → clash_of start.identity start.infos (commit_so_far head (changes ++ change ∷ [])) ≡ notices_clash f.identity.placeholder f.infos change
clash_more start f head changes change now released a =
    clashes_on start.identity start.infos head changes (change ∷ [])
    ∙ ap (λ (o : Option Clash). option_or o (first_found (notice_clash start.identity.placeholder) (flat_map (notices start.infos) (change ∷ [])))) a.no_clash
    ∙ ap (first_found (notice_clash start.identity.placeholder)) (one_change start.infos change)
    ∙ ap (λ (k : Captured). notices_clash k.identity.placeholder k.infos change) (sym (identity_kept start f head changes now released a))

pub amid_more : (start old new : Following) (head : Head) (changes : List Change) (change : Change) (now now_ms : ℤ) (released more : List Record)
    → IsAmid start head changes now released old
    → (changes ≡ [] → now ≡ now_ms) → Suits old.infos change → ExtendsPart (captured_by old) head now_ms change old.part more new.part
    → notices_clash old.identity.placeholder old.infos change ≡ None → Passes old.infos old.window (change ∷ []) new.window
    → new ≡ record old { window = new.window; part = new.part }
    → IsAmid start head (changes ++ change ∷ []) now (released ++ more) new
amid_more start old new head changes change now now_ms released more a at suits by none passes same =
    let kept = identity_kept start old head changes now released a in record {
      between = a.between;
      same = same ∙ ap (λ (f : Following). record f { window = new.window; part = new.part }) a.same;
      passes = passes_more start.infos changes change start.window old.window new.window a.passes
          (subst (λ (k : Captured). Passes k.infos old.window (change ∷ []) new.window) kept passes);
      no_clash = clash_more start old head changes change now released a ∙ none;
      released_are = released_more start head changes change now now_ms released more old.part new.part a.released_are at
          (subst (λ (k : Captured). Suits k.infos change) kept suits)
          (subst (λ (k : Captured). ExtendsPart k head now_ms change old.part more new.part) kept by);
    }

-- ---- between transactions

pub amid_begins : (f : Following) (head : Head) (now : ℤ) → f.part ≡ None → IsAmid f head [] now [] f
amid_begins f head now none = record { between = none; same = refl; passes = refl; no_clash = refl; released_are = (none, refl) }

-- A follower without an open transaction has followed no change of one.
pub record IsAtRest (start f : Following) (changes : List Change) (released : List Record) : Type 0 where
  pub unchanged : changes ≡ []
  pub unreleased : released ≡ []
  pub same : start ≡ f

pub amid_rests : (start f : Following) (head : Head) (changes : List Change) (now : ℤ) (released : List Record) → IsAmid start head changes now released f
    → f.part ≡ None → IsAtRest start f changes released
amid_rests start f head [] now released a none =
    let part : f.part ≡ start.part = none ∙ sym a.between in
    let window : f.window ≡ start.window = a.passes in
    record {
      unchanged = refl;
      unreleased = a.released_are.1;
      same = sym (a.same ∙ (λ i. record start { window = window i; part = part i }));
    }
amid_rests start f head (c ∷ cs) now released a none =
    let is = a.released_are.1 in
    absurd (cc (is, none))

-- the head of an open transaction
pub amid_head : (start f : Following) (head : Head) (changes : List Change) (now : ℤ) (released : List Record) (part : OpenPart)
    → IsAmid start head changes now released f → f.part ≡ Some part → part.head ≡ head
amid_head start f head [] now released part a is = let none = a.released_are.0 in absurd (cc (none, is))
amid_head start f head (c ∷ cs) now released part a is =
    let whole : OpenPart = record { head = head; now = now; made = length released + 1; held = a.released_are.0 } in
    let some : f.part ≡ Some whole = a.released_are.1 in
    let same : part ≡ whole = cc (some, is) in
    ap (λ (p : OpenPart). p.head) same

-- ---- the end of a transaction of changes

pub passes_none : (infos : List TableInfo) (window : Window) → IsWindowOf infos window → Passes infos window [] window
passes_none infos Absent is = refl
passes_none infos (Armed chunk) is = refl
passes_none infos (Open chunk) is = (chunk.rows, refl, λ key. refl, is.ordered)

passed : (infos : List TableInfo) (changes : List Change) (old new : Window) → IsWindowOf infos new → PassesSoFar infos old changes new
    → Passes infos old changes new
passed infos [] old new is passes = subst (λ (w : Window). Passes infos w [] new) passes (passes_none infos new is)
passed infos (c ∷ cs) old new is passes = passes

all_released : (start f : Following) (head : Head) (changes : List Change) (now : ℤ) (released : List Record) → IsAmid start head changes now released f
    → released ++ held_records f.part ≡ envelopes start.identity start.infos (commit_so_far head changes) now
all_released start f head [] now released a =
    ap (λ (l : List Record). l ++ held_records f.part) a.released_are.1 ∙ ap held_records a.released_are.0
all_released start f head (c ∷ cs) now released a = ap (λ (o : Option OpenPart). released ++ held_records o) a.released_are.1 ∙ a.released_are.2

unmarked_end : (ended : Ended) → ended.mark ≡ None → ended ≡ ended_at ended.head ended.end_lsn
unmarked_end ended none = λ i. record { head = ended.head; end_lsn = ended.end_lsn; mark = none i }

ends_at : (start old new : Following) (ended : Ended) (changes : List Change) (now : ℤ) (released more : List Record)
    → IsAmid start ended.head changes now released old → IsWindowOf old.infos old.window
    → more ≡ held_records old.part → new ≡ record old { part = None }
    → EndsWithCommit start (commit_by (ended_at ended.head ended.end_lsn) changes) now (released ++ more) new
ends_at start old new ended changes now released more a window_is held same =
    let commit : Commit = commit_by (ended_at ended.head ended.end_lsn) changes in
    let closes : closing start.window None ≡ None = closing-None start.window in
    let kept = identity_kept start old ended.head changes now released a in
    let ends : new ≡ record start { window = old.window; part = None } = same ∙ ap (λ (f : Following). record f { window = old.window; part = None }) a.same in
    let window : new.window ≡ old.window = ap (λ (f : Following). f.window) ends in
    record {
      records_are = ap (λ (l : List Record). released ++ l) held
          ∙ all_released start old ended.head changes now released a
          ∙ sym (ap (λ (o : Option Chunk). records_of start o commit now) closes
          ∙ records_show_no_end start.identity start.infos (ended_at ended.head ended.end_lsn) changes now refl);
      steps = record {
        began = a.between;
        ended = ap (λ (f : Following). f.part) ends;
        identity = ap (λ (f : Following). f.identity) ends;
        infos = ap (λ (f : Following). f.infos) ends;
        cursors = ap (λ (f : Following). f.cursors) ends ∙ sym (ap (cursors_after start.cursors) closes);
        window = subst (λ (w : Window). Passes start.infos start.window changes w) (sym window)
            (passed start.infos changes start.window old.window (subst (λ (k : Captured). IsWindowOf k.infos old.window) kept window_is) a.passes);
      };
      no_clash = ap (λ (o : Option Chunk). clash_in start o commit) closes ∙ a.no_clash;
      snapshot = λ chunk closed. (let contra : None ≡ Some chunk = sym closes ∙ closed in absurd (cc));
    }

pub amid_ends : (start old new : Following) (ended : Ended) (changes : List Change) (now : ℤ) (released more : List Record)
    → IsAmid start ended.head changes now released old → ended.mark ≡ None
    → IsWindowOf old.infos old.window → more ≡ held_records old.part → new ≡ record old { part = None }
    → EndsWithCommit start (commit_by ended changes) now (released ++ more) new
amid_ends start old new ended changes now released more a none window_is held same =
    subst (λ (e : Ended). EndsWithCommit start (commit_by e changes) now (released ++ more) new) (sym (unmarked_end ended none))
    (ends_at start old new ended changes now released more a window_is held same)

-- ---- the end of a watermark's transaction

pub rest_ends : (start old new : Following) (ended : Ended) (changes : List Change) (now now_ms : ℤ) (released more : List Record)
    → IsAmid start ended.head changes now released old → old.part ≡ None
    → (changes ≡ [] → now ≡ now_ms) → EndsWithCommit old (commit_by ended []) now_ms more new
    → EndsWithCommit start (commit_by ended changes) now (released ++ more) new
rest_ends start old new ended changes now now_ms released more a none at ends =
    let rests = amid_rests start old ended.head changes now released a none in
    subst (λ (l : List Record). EndsWithCommit start (commit_by ended changes) now (l ++ more) new) (sym rests.unreleased)
    (subst (λ (l : List Change). EndsWithCommit start (commit_by ended l) now more new) (sym rests.unchanged)
    (subst (λ (t : ℤ). EndsWithCommit start (commit_by ended []) t more new) (sym (at rests.unchanged))
    (subst (λ (f : Following). EndsWithCommit f (commit_by ended []) now_ms more new) (sym rests.same) ends)))

pub rest_clashes : (start old : Following) (ended : Ended) (changes : List Change) (now : ℤ) (released : List Record) (e : FollowError)
    → IsAmid start ended.head changes now released old → old.part ≡ None
    → IsClashOf (clash_by old (commit_by ended [])) e → IsClashOf (clash_by start (commit_by ended changes)) e
rest_clashes start old ended changes now released e a none clashes =
    let rests = amid_rests start old ended.head changes now released a none in
    subst (λ (l : List Change). IsClashOf (clash_by start (commit_by ended l)) e) (sym rests.unchanged)
    (subst (λ (f : Following). IsClashOf (clash_by f (commit_by ended [])) e) (sym rests.same) clashes)

-- the commit that a watermark's end makes
pub marked_commit : (ended : Ended) (text value : List ℕ) → text ≡ value → ended.mark ≡ Some value
    → commit_by (record ended { mark = Some text }) [] ≡ commit_by ended []
marked_commit ended text value same marked =
    ap (λ (o : Option (List ℕ)). commit_by (record ended { mark = o }) []) (ap (λ (l : List ℕ). Some l) same ∙ sym marked)

-- what handling a watermark promises, as one record
pub marks_end : {V : Type 0} (r : Result V FollowError) (items : V → List Record) (old new : Following) (commit : Commit) (value : List ℕ) (now : ℤ)
    → mark_of commit ≡ Some value
    → IfOk r (λ v. items v ≡ records_by old commit now) → OnOk r (Steps old commit new) → OnOk r (clash_by old commit ≡ None)
    → ((chunk : Chunk) → closing old.window (Some value) ≡ Some chunk → IfOk r (λ v. IsSnapshot old.identity old.infos (closed_of chunk) commit now (items v)))
    → IfOk r (λ v. EndsWithCommit old commit now (items v) new)
marks_end (Ok v) items old new commit value now marked are steps none snapshot = record {
  records_are = are;
  steps = steps;
  no_clash = none;
  snapshot = λ chunk closed. snapshot chunk (ap (closing old.window) (sym marked) ∙ closed);
}
marks_end (Err e) items old new commit value now marked are steps none snapshot = tt

-- ---- whole commits

pub commit_is : (commit : Commit) (changes : List Change) → commit.body ≡ Changes changes
    → commit_by (ended_at (commit_head commit) commit.end_lsn) changes ≡ commit
commit_is commit changes is = λ i. record { lsn = commit.lsn; end_lsn = commit.end_lsn; time = commit.time; xid = commit.xid; body = sym is i }

-- the commit that a transaction of these changes, with this Begin, is
pub changes_end : (old new : Following) (commit : Commit) (head : Head) (changes : List Change) (now : ℤ) (records : List Record) → head ≡ commit_head commit
    → commit.body ≡ Changes changes
    → EndsWithCommit old (commit_by (ended_at head commit.end_lsn) changes) now records new → EndsWithCommit old commit now records new
changes_end old new commit head changes now records at is ends =
    subst (λ (c : Commit). EndsWithCommit old c now records new) (commit_is commit changes is)
    (subst (λ (h : Head). EndsWithCommit old (commit_by (ended_at h commit.end_lsn) changes) now records new) at ends)

pub changes_clash : (old : Following) (commit : Commit) (head : Head) (changes : List Change) (e : FollowError) → head ≡ commit_head commit
    → commit.body ≡ Changes changes
    → IsClashOf (clash_by old (commit_by (ended_at head commit.end_lsn) changes)) e → IsClashOf (clash_by old commit) e
changes_clash old commit head changes e at is clashes =
    subst (λ (c : Commit). IsClashOf (clash_by old c) e) (commit_is commit changes is)
    (subst (λ (h : Head). IsClashOf (clash_by old (commit_by (ended_at h commit.end_lsn) changes)) e) at clashes)

-- the commit of a watermark
pub mark_commit : (commit : Commit) (head : Head) (value text : List ℕ) → head ≡ commit_head commit → commit.body ≡ Mark value → text ≡ value
    → commit_by (record { head = head; end_lsn = commit.end_lsn; mark = Some text }) [] ≡ commit
mark_commit commit head value text at is same =
    ap (λ (h : Head). commit_by (record { head = h; end_lsn = commit.end_lsn; mark = Some text }) []) at
    ∙ ap (λ (l : List ℕ). commit_by (record { head = commit_head commit; end_lsn = commit.end_lsn; mark = Some l }) []) same
    ∙ (λ i. record { lsn = commit.lsn; end_lsn = commit.end_lsn; time = commit.time; xid = commit.xid; body = sym is i })

-- the value equal to the placeholder that a transaction has so far is the first one of its commit
pub clash_longer : (start : Following) (head : Head) (end_lsn : _) (changes more : List Change) (e : FollowError)
    → IsClashOf (clash_of start.identity start.infos (commit_so_far head changes)) e
    → IsClashOf (clash_by start (commit_by (ended_at head end_lsn) (changes ++ more))) e
clash_longer start head end_lsn changes more e h = by (clash_of start.identity start.infos (commit_so_far head changes)) refl h
  where
    by : (o : Option Clash) → clash_of start.identity start.infos (commit_so_far head changes) ≡ o → IsClashOf o e
        → IsClashOf (clash_by start (commit_by (ended_at head end_lsn) (changes ++ more))) e
    by None is clashes = λ other. (let contra = clashes other in absurd (cc (contra)))
    by (Some clash) is clashes =
        subst (λ (o : Option Clash). IsClashOf o e)
        (sym (ap (λ (o : Option Chunk). clash_in start o (commit_by (ended_at head end_lsn) (changes ++ more))) (closing-None start.window)
        ∙ first_clashes_stay start.identity start.infos head changes more clash is)) clashes

-- a watermark's transaction has followed no change
pub no_part : (o : Option OpenPart) (mark : Option (List ℕ)) (value : List ℕ) → (IsSome o → mark ≡ None) → mark ≡ Some value → o ≡ None
no_part None mark value unmarked_if is = refl
no_part (Some part) mark value unmarked_if is = let none = unmarked_if refl in absurd (cc (none, is))

-- the same changes and records, written otherwise
pub amid_same : {start f : Following} {head : Head} {a b : List Change} {now : ℤ} {released others : List Record} → a ≡ b → released ≡ others
    → IsAmid start head a now released f → IsAmid start head b now others f
amid_same {start = start} {f = f} {head = head} {a = a} {now = now} {others = others} same are amid =
    subst (λ (l : List Change). IsAmid start head l now others f) same (subst (λ (l : List Record). IsAmid start head a now l f) are amid)

pub ends_same : {start new : Following} {commit : Commit} {now then : ℤ} {records others : List Record} → now ≡ then → records ≡ others
    → EndsWithCommit start commit now records new → EndsWithCommit start commit then others new
ends_same {start = start} {new = new} {commit = commit} {now = now} {others = others} times are ends =
    subst (λ (m : ℤ). EndsWithCommit start commit m others new) times (subst (λ (l : List Record). EndsWithCommit start commit now l new) are ends)

-- an open transaction's head, as a condition
pub heads_fit : (start f : Following) (head : Head) (changes : List Change) (now : ℤ) (released : List Record) → IsAmid start head changes now released f
    → IfSome f.part (λ part. part.head ≡ head)
heads_fit start f head changes now released a = by f.part refl
  where
    by : (o : Option OpenPart) → f.part ≡ o → IfSome o (λ part. part.head ≡ head)
    by None is = tt
    by (Some part) is = amid_head start f head changes now released part a is

-- ---- arming

pub armed_within : ArmedWithinTransactions
armed_within start f head changes now released chunk a = record {
  between = a.between;
  same = ap (λ (g : Following). record g { window = Armed chunk; part = f.part }) a.same;
  passes = armed_passes changes;
  no_clash = a.no_clash;
  released_are = same_released changes a.released_are;
}
  where
    armed_passes : (changes : List Change) → PassesSoFar start.infos (Armed chunk) changes (Armed chunk)
    armed_passes [] = refl
    armed_passes (c ∷ cs) = refl

    same_released : (changes : List Change) → AreReleased start head changes now released f.part
        → AreReleased (record start { window = Armed chunk }) head changes now released f.part
    same_released [] are = are
    same_released (c ∷ cs) are = are
