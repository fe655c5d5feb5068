-- The open transaction before a message that ends it, or that states more of its changes.
use Rattle.std.proofs.Common.{◌≡◌, ◌≢◌, ◌∙◌, ◌⊎◌, inl, inr, ◌+◌, ◌≤◌, ◌<◌, ℕ, zero, suc, ℤ, Bool, true, false, Option, Some, None, List, [], ◌∷◌, ◌++◌, length, refl, sym, ap, ap₂, subst, arith}
use Rattle.std.specs.Prelude.{◌==◌, if◌then◌else◌, is_some, flat_map, map, option_map, IsSome, take, Result, Ok, slice_get}
use Rattle.std.specs.List.{AllByRecursion}
use Rattle.std.specs.Option.{option_or}
use Rattle.std.proofs.lemmas.Bool.{eqb-true}
use Rattle.std.proofs.lemmas.List.{append-nil}
use Rattle.std.proofs.lemmas.List.Concat.{flat_map-append}
use Rattle.dbl_base.specs.declared.lsn.Lsn.{Lsn}
use Rattle.dbl_pgmsg.specs.declared.messages.Message.{Message}
use Rattle.dbl_pgmsg.specs.declared.messages.Message.TheVariants as says
use Rattle.dbl_record.specs.declared.record.Record.{Record}
use Rattle.dbl_record.specs.Groups.{group_form}
use Rattle.dbl_topic.specs.Sinks.{group_limit}
use Rattle.dbl_model_table.specs.declared.identity.Identity.{Identity}
use Rattle.dbl_model_table.specs.declared.table.TableInfo.{TableInfo}
use Rattle.dbl_model_table.specs.declared.change.Body.TheVariants.{Changes}
use Rattle.dbl_model_table.specs.declared.change.Change.{Change}
use Rattle.dbl_model_table.specs.declared.change.Commit.{Commit}
use Rattle.dbl_model_table.specs.declared.change.Ended.{Ended}
use Rattle.dbl_model_table.specs.declared.change.Head.{Head}
use Rattle.dbl_model_table.specs.Heads.{body_of, commit_by, commit_head, commit_so_far}
use Rattle.dbl_model_table.specs.Rows.{changes_of}
use Rattle.dbl_capture_work.specs.ModelCommit.declared.piece.Piece.{Piece}
use Rattle.dbl_capture_work.specs.ModelCommit.declared.piece.Piece.TheVariants.{Nothing, Changed, Ended as PieceEnded}
use Rattle.dbl_capture_work.specs.ModelCommit.declared.txn_error.TxnError.{TxnError}
use Rattle.dbl_capture_work.specs.ModelCommit.declared.txn_error.TxnError.TheVariants as errors
use Rattle.dbl_capture_work.specs.ModelCommit.Past.{begin_of, open_mark}
use Rattle.dbl_capture_work.specs.ModelCommit.Blocks.{AreWithoutFault}
use Rattle.dbl_capture_work.specs.ModelCommit.Pieces.{IsPieceOf, changes_so_far, ended_by, if_open, with_piece}
use Rattle.dbl_capture_work.specs.ModelCommit.Stated.{commit_of, ended_commit, mismatch, open_changes, own_fault, place_fault, stated, transaction_fault}
use Rattle.dbl_capture_work.specs.ModelEvent.Clashes.{Clash, clash_of, first_found, notice_clash}
use Rattle.dbl_capture_work.specs.ModelEvent.Events.{Event, Notice, notices, numbered}
use Rattle.dbl_capture_work.specs.ModelEvent.EventJson.{envelopes, print, source_data}
use Rattle.dbl_capture_work.proofs.ModelCommitMarkedLemmas.{first_none, marked_bare}
use Rattle.dbl_capture_work.proofs.ModelCommitPieceLemmas.{one_piece, piece_joins}
use Rattle.dbl_capture_work.specs.declared.halt.Halt.{Halt}
use Rattle.dbl_capture_work.specs.declared.halt.Halt.TheVariants as halt
use Rattle.dbl_capture_work.specs.Causes.{IsLongRecord}
use Rattle.dbl_capture_work.specs.Takes.{HasTakenPiece, IsClashIn, IsLongSoFar, IsMessageHalt, IsTxnHalt}
use Rattle.dbl_capture_work.specs.declared.work.SessionState.{SessionState}
use Rattle.dbl_capture_work.specs.Follow.Followed.{Following}
use Rattle.dbl_capture_work.specs.Works.{CouldBeSentSoFar, head_in, open_commit, resting}
use Rattle.dbl_capture_laws.specs.Underway.{IsOpenNewestHalt}
use Rattle.dbl_capture_laws.proofs.Ahead.{rest_taken}

-- ---- records of a transaction so far

map_same : {A B : Type 0} (f g : A → B) → ((x : A) → f x ≡ g x) → (xs : List A) → map f xs ≡ map g xs
map_same f g same [] = refl
map_same {B = B} f g same (x ∷ xs) = ap₂ (λ (y : B) (l : List B). y ∷ l) (same x) (map_same f g same xs)

-- each shows its transaction's Begin alone
print_begin : (identity : Identity) (ended : Ended) (changes : List Change) (now : ℤ) (event : Event)
    → print identity (commit_by ended changes) now event ≡ print identity (commit_so_far ended.head []) now event
unfolding source_data
print_begin identity ended changes now event = refl

printed : (identity : Identity) (infos : List TableInfo) (head : Head) (changes : List Change) (now : ℤ)
    → envelopes identity infos (commit_so_far head changes) now ≡ map (print identity (commit_so_far head []) now) (numbered head.lsn.0 0 (flat_map (notices infos) changes))
printed identity infos head changes now =
    map_same (print identity (commit_so_far head changes) now) (print identity (commit_so_far head []) now)
    (print_begin identity (record { head = head; end_lsn = head.lsn; mark = None }) changes now) (numbered head.lsn.0 0 (flat_map (notices infos) changes))

pub printed_end : (identity : Identity) (infos : List TableInfo) (ended : Ended) (changes : List Change) (now : ℤ)
    → envelopes identity infos (commit_by (record ended { mark = None }) changes) now ≡ envelopes identity infos (commit_so_far ended.head changes) now
printed_end identity infos ended changes now =
    map_same (print identity (commit_by (record ended { mark = None }) changes) now) (print identity (commit_so_far ended.head []) now)
    (print_begin identity (record ended { mark = None }) changes now) (numbered ended.head.lsn.0 0 (flat_map (notices infos) changes))
    ∙ sym (printed identity infos ended.head changes now)

-- ---- a message that ends it

-- The commit is the open transaction's: with its Begin, and its changes so far unless it has a watermark.
pub record EndsOpenCommit (infos : List TableInfo) (ms : List Message) (commit : Commit) : Type 0 where
  pub head : Head
  pub begun : begin_of ms ≡ Some head
  pub ended : Ended
  pub same : ended.head ≡ head
  pub mark_is : ended.mark ≡ open_mark ms
  pub is : commit ≡ commit_by ended (changes_so_far infos ms)

same_lsn : (begun : Head) (lsn : Lsn) (b : Bool) → (begun.lsn.0 == lsn.0) ≡ b → (if b then None else Some (errors.CommitMismatch begun.lsn lsn)) ≡ None → begun.lsn ≡ lsn
same_lsn begun lsn true same told = ap (λ (n : ℕ). let l : Lsn = record { 0 = n } in l) (eqb-true begun.lsn.0 lsn.0 same)
same_lsn begun lsn false same told = cc

ended_after : (infos : List TableInfo) (ms : List Message) (o : Option Head) → begin_of ms ≡ o → (lsn end_lsn : Lsn) (commit : Commit) → mismatch o lsn ≡ None
    → option_map (commit_of lsn end_lsn (open_mark ms) (open_changes infos ms)) o ≡ Some commit → EndsOpenCommit infos ms commit
ended_after infos ms None found lsn end_lsn commit fine is = cc
ended_after infos ms (Some begun) found lsn end_lsn commit fine is =
    let e : commit_of lsn end_lsn (open_mark ms) (open_changes infos ms) begun ≡ commit = cc in
    let all : changes_so_far infos ms ≡ open_changes infos ms = ap (λ (o : Option Head). if_open o (open_changes infos ms)) found in
    record {
      head = begun;
      begun = found;
      ended = record { head = begun; end_lsn = end_lsn; mark = open_mark ms };
      same = refl;
      mark_is = refl;
      is =
          sym e ∙ (ap (λ (l : Lsn). commit_of l end_lsn (open_mark ms) (open_changes infos ms) begun) (sym (same_lsn begun lsn (begun.lsn.0 == lsn.0) refl fine))
          ∙ ap (commit_by (record { head = begun; end_lsn = end_lsn; mark = open_mark ms })) (sym all));
    }

pub ends_open : (infos : List TableInfo) (after : Lsn) (m : Message) (ms : List Message) (commit : Commit) → transaction_fault infos after m ms ≡ None → ended_commit infos m ms ≡ Some commit → EndsOpenCommit infos ms commit
ends_open infos after (says.Commit flags lsn end_lsn time) ms commit fine is =
    ended_after infos ms (begin_of ms) refl lsn end_lsn commit
    (first_none (place_fault (says.Commit flags lsn end_lsn time) (is_some (begin_of ms))) (own_fault infos after (says.Commit flags lsn end_lsn time) ms) fine).1 is
ends_open infos after (says.Begin l t x) ms commit fine is = cc
ends_open infos after (says.Origin l n) ms commit fine is = cc
ends_open infos after (says.TypeName o n m) ms commit fine is = cc
ends_open infos after (says.Relation o n m i c) ms commit fine is = cc
ends_open infos after (says.Logical f l p c) ms commit fine is = cc
ends_open infos after (says.Insert oid new) ms commit fine is = cc
ends_open infos after (says.Update oid before new) ms commit fine is = cc
ends_open infos after (says.Delete oid before) ms commit fine is = cc
ends_open infos after (says.Truncate options oids) ms commit fine is = cc

unmarked_body : (mark : Option (List ℕ)) (cs changes : List Change) → body_of mark cs ≡ Changes changes → mark ≡ None
unmarked_body None cs changes is = refl
unmarked_body (Some value) cs changes is = cc

module _ (infos : List TableInfo) (ms : List Message) (commit : Commit) (e : EndsOpenCommit infos ms commit) (changes : List Change) (body : commit.body ≡ Changes changes) where
  unmarked : e.ended.mark ≡ None
  unmarked = unmarked_body e.ended.mark (changes_so_far infos ms) changes (ap (λ (c : Commit). c.body) (sym e.is) ∙ body)

  open_is : commit_so_far e.ended.head (changes_so_far infos ms) ≡ open_commit infos ms
  open_is = ap (λ (h : Head). commit_so_far h (changes_so_far infos ms)) (e.same ∙ ap head_in (sym e.begun))

  pub clash_so_far : (identity : Identity) → clash_of identity infos commit ≡ clash_of identity infos (open_commit infos ms)
  clash_so_far identity =
      ap (clash_of identity infos) e.is
      ∙ (ap (λ (mark : Option (List ℕ)). clash_of identity infos (commit_by (record e.ended { mark = mark }) (changes_so_far infos ms))) unmarked
      ∙ ap (clash_of identity infos) open_is)

  pub records_so_far : (identity : Identity) (now : ℤ) → envelopes identity infos commit now ≡ envelopes identity infos (open_commit infos ms) now
  records_so_far identity now =
      ap (λ (c : Commit). envelopes identity infos c now) e.is
      ∙ (ap (λ (mark : Option (List ℕ)). envelopes identity infos (commit_by (record e.ended { mark = mark }) (changes_so_far infos ms)) now) unmarked
      ∙ (printed_end identity infos e.ended (changes_so_far infos ms) now ∙ ap (λ (c : Commit). envelopes identity infos c now) open_is))

-- ---- a message that states more of it

no_changes : (r : Result (List Change) TxnError) (changes : List Change) → r ≡ Ok [] → r ≡ Ok changes → changes ≡ []
no_changes r changes none is = cc

pub still_begun : (infos : List TableInfo) (m : Message) (ms : List Message) (changes : List Change) → stated infos m ms ≡ Ok changes → changes ≢ [] → begin_of (m ∷ ms) ≡ begin_of ms
still_begun infos (says.Begin l t x) ms changes states some = absurd (some (no_changes (Ok []) changes refl states))
still_begun infos (says.Commit flags lsn end_lsn time) ms changes states some = absurd (some (no_changes (Ok []) changes refl states))
still_begun infos (says.Origin l n) ms changes states some = refl
still_begun infos (says.TypeName o n m) ms changes states some = refl
still_begun infos (says.Relation o n m i c) ms changes states some = refl
still_begun infos (says.Logical f l p c) ms changes states some = refl
still_begun infos (says.Insert oid new) ms changes states some = refl
still_begun infos (says.Update oid before new) ms changes states some = refl
still_begun infos (says.Delete oid before) ms changes states some = refl
still_begun infos (says.Truncate options oids) ms changes states some = refl

records_long : (print_one : Event → Record) (position ordinal : ℕ) (ns : List Notice) → length (map print_one (numbered position ordinal ns)) ≡ length ns
records_long print_one position ordinal [] = refl
records_long print_one position ordinal (x ∷ ns) = ap (λ (n : ℕ). suc n) (records_long print_one position (ordinal + 1) ns)

none_less : (i : ℕ) → i + 1 < 0 → ⊥
none_less i lt = omega (arith, lt)

one_only : (i : ℕ) → i + 1 < 1 → ⊥
one_only i lt = omega (arith, lt)

one_less : (i n : ℕ) → suc i + 1 < suc n → i + 1 < n
one_less i n lt = omega (arith, lt)

-- all but the last one stay the same
front_same : (print_one : Event → Record) (position ordinal : ℕ) (ns more : List Notice) (i : ℕ) → i + 1 < length ns
    → slice_get (map print_one (numbered position ordinal (ns ++ more))) i ≡ slice_get (map print_one (numbered position ordinal ns)) i
front_same print_one position ordinal [] more i lt = absurd (none_less i lt)
front_same print_one position ordinal (x ∷ []) more i lt = absurd (one_only i lt)
front_same print_one position ordinal (x ∷ (y ∷ ns)) more zero lt = refl
front_same print_one position ordinal (x ∷ (y ∷ ns)) more (suc i) lt = front_same print_one position (ordinal + 1) (y ∷ ns) more i (one_less i (length (y ∷ ns)) lt)

-- No record of the open transaction so far is too long, but perhaps one of the last two.
abbrev pub IsShortSoFar : Identity → List TableInfo → ℤ → List Message → Type 0
IsShortSoFar identity infos now ms = (place : ℕ) (item : Record) → slice_get (envelopes identity infos (open_commit infos ms) now) place ≡ Some item
    → place + 2 < length (envelopes identity infos (open_commit infos ms) now) → length (group_form (item ∷ [])) ≤ group_limit

pub at_most : (a b : ℕ) → (a < b → ⊥) → b ≤ a
at_most a b less = omega (arith, less)

pub too_much : (a b : ℕ) → a < b → b ≤ a → ⊥
too_much a b lt le = omega (arith, lt, le)

less_than : (i a b : ℕ) → i + 2 < a → a ≡ b → i + 1 < b
less_than i a b lt same = omega (arith, lt, same)

first_part : (o p : Option Clash) → option_or o p ≡ None → o ≡ None
first_part None p none = refl
first_part (Some c) p none = cc

found_append : (f : Notice → Option Clash) (xs ys : List Notice) → first_found f (xs ++ ys) ≡ option_or (first_found f xs) (first_found f ys)
found_append f [] ys = refl
found_append f (x ∷ xs) ys = ap (option_or (f x)) (found_append f xs ys) ∙ or_assoc (f x) (first_found f xs) (first_found f ys)
  where
    or_assoc : (o p q : Option Clash) → option_or o (option_or p q) ≡ option_or (option_or o p) q
    or_assoc None p q = refl
    or_assoc (Some b) p q = refl

no_shorter : (a b n : ℕ) → n < a → a ≤ b → n < b
no_shorter a b n lt le = omega (arith, lt, le)

longer_by : (a b : List Notice) → length a ≤ length (a ++ b)
longer_by [] b = omega arith
longer_by (x ∷ a) b = let le = longer_by a b in omega (arith, le)

same_lengths : (a b c d : ℕ) → a ≡ c → b ≡ d → c ≤ d → a ≤ b
same_lengths a b c d one two le = omega (arith, one, two, le)

-- The message adds these changes to the open transaction, perhaps none.
module _ (identity : Identity) (infos : List TableInfo) (m : Message) (ms : List Message) (changes : List Change) (now : ℤ)
    (begun : begin_of (m ∷ ms) ≡ begin_of ms) (adds : changes_so_far infos ms ++ changes ≡ changes_so_far infos (m ∷ ms)) where
  abbrev ns : List Notice
  ns = flat_map (notices infos) (changes_so_far infos ms)

  abbrev more : List Notice
  more = flat_map (notices infos) changes

  abbrev print_one : Event → Record
  print_one = print identity (commit_so_far (head_in (begin_of ms)) []) now

  open_with : open_commit infos (m ∷ ms) ≡ commit_so_far (head_in (begin_of ms)) (changes_so_far infos ms ++ changes)
  open_with = ap₂ (λ (o : Option Head) (cs : List Change). commit_so_far (head_in o) cs) begun (sym adds)

  now_printed : envelopes identity infos (open_commit infos (m ∷ ms)) now ≡ map print_one (numbered (head_in (begin_of ms)).lsn.0 0 (ns ++ more))
  now_printed =
      ap (λ (c : Commit). envelopes identity infos c now) open_with
      ∙ (printed identity infos (head_in (begin_of ms)) (changes_so_far infos ms ++ changes) now
      ∙ ap (λ (l : List Notice). map print_one (numbered (head_in (begin_of ms)).lsn.0 0 l)) (flat_map-append (notices infos) (changes_so_far infos ms) changes))

  was_printed : envelopes identity infos (open_commit infos ms) now ≡ map print_one (numbered (head_in (begin_of ms)).lsn.0 0 ns)
  was_printed = printed identity infos (head_in (begin_of ms)) (changes_so_far infos ms) now

  pub front_stays : (i : ℕ) → i + 2 < length (envelopes identity infos (open_commit infos ms) now)
      → slice_get (envelopes identity infos (open_commit infos (m ∷ ms)) now) i ≡ slice_get (envelopes identity infos (open_commit infos ms) now) i
  front_stays i lt =
      ap (λ (l : List Record). slice_get l i) now_printed
      ∙ (front_same print_one (head_in (begin_of ms)).lsn.0 0 ns more i (less_than i _ _ lt (ap length was_printed ∙ records_long print_one (head_in (begin_of ms)).lsn.0 0 ns))
      ∙ ap (λ (l : List Record). slice_get l i) (sym was_printed))

  pub no_fewer : length (envelopes identity infos (open_commit infos ms) now) ≤ length (envelopes identity infos (open_commit infos (m ∷ ms)) now)
  no_fewer =
      same_lengths _ _ (length ns) (length (ns ++ more)) (ap length was_printed ∙ records_long print_one (head_in (begin_of ms)).lsn.0 0 ns)
      (ap length now_printed ∙ records_long print_one (head_in (begin_of ms)).lsn.0 0 (ns ++ more)) (longer_by ns more)

  -- without a value equal to the placeholder now, there was none before
  pub clear_before : clash_of identity infos (open_commit infos (m ∷ ms)) ≡ None → clash_of identity infos (open_commit infos ms) ≡ None
  clear_before clear =
      first_part (first_found (notice_clash identity.placeholder) ns) (first_found (notice_clash identity.placeholder) more)
      (sym (ap (first_found (notice_clash identity.placeholder)) (flat_map-append (notices infos) (changes_so_far infos ms) changes) ∙ found_append (notice_clash identity.placeholder) ns more)
      ∙ (ap (clash_of identity infos) (sym open_with) ∙ clear))

  -- what is too long now wasn't known before
  pub long_now : (h : Halt) → IsShortSoFar identity infos now ms → (long : IsLongRecord (envelopes identity infos (open_commit infos (m ∷ ms)) now) h)
      → length (envelopes identity infos (open_commit infos ms) now) ≤ long.place + 2
  long_now h short long =
      at_most (long.place + 2) (length (envelopes identity infos (open_commit infos ms) now))
      (λ lt. too_much group_limit (length (group_form (long.item ∷ []))) long.long (short long.place long.item (sym (front_stays long.place lt) ∙ long.stands) lt))

  -- what is short now was short before
  pub short_before : IsShortSoFar identity infos now (m ∷ ms) → IsShortSoFar identity infos now ms
  short_before short place item at lt = short place item (front_stays place lt ∙ at) (no_shorter _ _ (place + 2) lt no_fewer)

-- a message that states changes adds them
pub states_adds : (infos : List TableInfo) (after : Lsn) (m : Message) (ms : List Message) (changes : List Change) → transaction_fault infos after m ms ≡ None → stated infos m ms ≡ Ok changes → changes ≢ []
    → changes_so_far infos ms ++ changes ≡ changes_so_far infos (m ∷ ms)
states_adds infos after m ms changes clean states some = (piece_joins infos after m ms (Changed changes) clean (states, some)).changes

-- ---- what a message does to the open transaction

-- The message adds changes to the open transaction, or none.
pub record AddsChanges (infos : List TableInfo) (m : Message) (ms : List Message) : Type 0 where
  pub begun : begin_of (m ∷ ms) ≡ begin_of ms
  pub more : List Change
  pub adds : changes_so_far infos ms ++ more ≡ changes_so_far infos (m ∷ ms)

-- The message ends a commit of the open transaction's changes.
pub record EndsChanges (infos : List TableInfo) (m : Message) (ms : List Message) : Type 0 where
  pub commit : Commit
  pub ends : ended_commit infos m ms ≡ Some commit
  pub changes : List Change
  pub body : commit.body ≡ Changes changes

adds_by : (infos : List TableInfo) (m : Message) (ms : List Message) (piece : Piece) → IsPieceOf infos m ms piece → with_piece (changes_so_far infos ms) piece ≡ changes_so_far infos (m ∷ ms)
    → begin_of (m ∷ ms) ≡ begin_of ms → ended_commit infos m ms ≡ None → AddsChanges infos m ms
adds_by infos m ms Nothing is joins begun none = record { begun = begun; more = []; adds = append-nil (changes_so_far infos ms) ∙ joins }
adds_by infos m ms (Changed changes) is joins begun none = record { begun = begun; more = changes; adds = joins }
adds_by infos m ms (PieceEnded ended) is joins begun none = cc

ends_by : (infos : List TableInfo) (after : Lsn) (ms : List Message) (lsn end_lsn : Lsn) (mark : Option (List ℕ)) (o : Option Head) → (IsSome mark → open_changes infos ms ≡ []) → (if is_some o then None else Some errors.OutsideTransaction) ≡ None
    → (changes_so_far infos ms ≡ []) ⊎ ((commit : Commit) × (changes : List Change) × (option_map (commit_of lsn end_lsn mark (open_changes infos ms)) o ≡ Some commit) × (commit.body ≡ Changes changes))
ends_by infos after ms lsn end_lsn mark None bare fine = cc
ends_by infos after ms lsn end_lsn None (Some head) bare fine = inr (commit_of lsn end_lsn None (open_changes infos ms) head, open_changes infos ms, refl, refl)
ends_by infos after ms lsn end_lsn (Some value) (Some head) bare fine = inl (none_open (begin_of ms) (open_changes infos ms) (bare refl))
  where
    none_open : (o : Option Head) (cs : List Change) → cs ≡ [] → if_open o cs ≡ []
    none_open None cs none = refl
    none_open (Some h) cs none = none

closed_open : (o : Option Head) (cs : List Change) → (if is_some o then Some errors.NestedBegin else None) ≡ None → if_open o cs ≡ []
closed_open None cs fine = refl
closed_open (Some h) cs fine = cc

pub goes_on : (infos : List TableInfo) (after : Lsn) (m : Message) (ms : List Message) → transaction_fault infos after m ms ≡ None → AreWithoutFault infos after ms
    → (changes_so_far infos ms ≡ []) ⊎ (AddsChanges infos m ms ⊎ EndsChanges infos m ms)
goes_on infos after m ms clean accepted = by m clean (one_piece infos after m ms clean)
  where
    on : (x : Message) → transaction_fault infos after x ms ≡ None → (piece : Piece) → IsPieceOf infos x ms piece → begin_of (x ∷ ms) ≡ begin_of ms → ended_commit infos x ms ≡ None → AddsChanges infos x ms
    on x fine piece is begun none = adds_by infos x ms piece is (piece_joins infos after x ms piece fine is).changes begun none

    by : (x : Message) → transaction_fault infos after x ms ≡ None → (piece : Piece) × IsPieceOf infos x ms piece × ((other : Piece) → IsPieceOf infos x ms other → other ≡ piece)
        → (changes_so_far infos ms ≡ []) ⊎ (AddsChanges infos x ms ⊎ EndsChanges infos x ms)
    by (says.Begin l t x) fine p = inl (closed_open (begin_of ms) (open_changes infos ms) (first_none (place_fault (says.Begin l t x) (is_some (begin_of ms))) (own_fault infos after (says.Begin l t x) ms) fine).0)
    by (says.Commit flags lsn end_lsn time) fine p = elim (ends_by infos after ms lsn end_lsn (open_mark ms) (begin_of ms) (marked_bare infos after ms accepted)
        (first_none (place_fault (says.Commit flags lsn end_lsn time) (is_some (begin_of ms))) (own_fault infos after (says.Commit flags lsn end_lsn time) ms) fine).0) [
          | inl none ↦ inl none
          | inr e ↦ inr (inr (record { commit = e.0; ends = e.2; changes = e.1; body = e.3 }))
        ]
    by (says.Origin l n) fine p = inr (inl (on (says.Origin l n) fine p.0 p.1 refl refl))
    by (says.TypeName o n k) fine p = inr (inl (on (says.TypeName o n k) fine p.0 p.1 refl refl))
    by (says.Relation o n k i c) fine p = inr (inl (on (says.Relation o n k i c) fine p.0 p.1 refl refl))
    by (says.Logical f l x c) fine p = inr (inl (on (says.Logical f l x c) fine p.0 p.1 refl refl))
    by (says.Insert oid new) fine p = inr (inl (on (says.Insert oid new) fine p.0 p.1 refl refl))
    by (says.Update oid before new) fine p = inr (inl (on (says.Update oid before new) fine p.0 p.1 refl refl))
    by (says.Delete oid before) fine p = inr (inl (on (says.Delete oid before) fine p.0 p.1 refl refl))
    by (says.Truncate options oids) fine p = inr (inl (on (says.Truncate options oids) fine p.0 p.1 refl refl))

-- after a Commit no transaction is open
pub none_after : (infos : List TableInfo) (m : Message) (ms : List Message) (commit : Commit) → ended_commit infos m ms ≡ Some commit → changes_so_far infos (m ∷ ms) ≡ []
none_after infos (says.Commit flags lsn end_lsn time) ms commit is = refl
none_after infos (says.Begin l t x) ms commit is = cc
none_after infos (says.Origin l n) ms commit is = cc
none_after infos (says.TypeName o n m) ms commit is = cc
none_after infos (says.Relation o n m i c) ms commit is = cc
none_after infos (says.Logical f l p c) ms commit is = cc
none_after infos (says.Insert oid new) ms commit is = cc
none_after infos (says.Update oid before new) ms commit is = cc
none_after infos (says.Delete oid before) ms commit is = cc
none_after infos (says.Truncate options oids) ms commit is = cc

-- without changes there is nothing to send
module _ (identity : Identity) (infos : List TableInfo) (ms : List Message) (none : changes_so_far infos ms ≡ []) where
  pub none_clash : clash_of identity infos (open_commit infos ms) ≡ None
  none_clash = ap (λ (cs : List Change). first_found (notice_clash identity.placeholder) (flat_map (notices infos) cs)) none

  pub none_sent : (now : ℤ) → length (envelopes identity infos (open_commit infos ms) now) ≡ 0
  none_sent now = ap (λ (cs : List Change). length (envelopes identity infos (commit_so_far (head_in (begin_of ms)) cs) now)) none

-- between transactions nothing is to be sent
no_place : (n i : ℕ) → n ≡ 0 → i + 2 < n → ⊥
no_place n i none lt = omega (arith, none, lt)

pub none_known : (identity : Identity) (infos : List TableInfo) (ms : List Message) (now : ℤ) → changes_so_far infos ms ≡ [] → (place : ℕ) → place + 2 < length (envelopes identity infos (open_commit infos ms) now) → ⊥
none_known identity infos ms now none place lt = no_place (length (envelopes identity infos (open_commit infos ms) now)) place (none_sent identity infos ms none now) lt

pub nothing_so_far : (work : SessionState) (ms : List Message) → changes_so_far work.offset.infos ms ≡ [] → CouldBeSentSoFar work ms
nothing_so_far work ms none = record {
  clear = none_clash work.offset.identity work.offset.infos ms none;
  short = λ place item at lt. absurd (none_known work.offset.identity work.offset.infos ms work.now_ms none place lt);
}

-- ---- a commit that the open transaction begins

-- records show their commit's Begin alone
print_any : (identity : Identity) (commit : Commit) (now : ℤ) (event : Event) → print identity commit now event ≡ print identity (commit_so_far (commit_head commit) []) now event
unfolding source_data
print_any identity commit now event = refl

printed_as : (identity : Identity) (infos : List TableInfo) (commit : Commit) (now : ℤ)
    → envelopes identity infos commit now ≡ map (print identity (commit_so_far (commit_head commit) []) now) (numbered (commit_head commit).lsn.0 0 (flat_map (notices infos) (changes_of commit)))
printed_as identity infos commit now =
    map_same (print identity commit now) (print identity (commit_so_far (commit_head commit) []) now) (print_any identity commit now) (numbered commit.lsn.0 0 (flat_map (notices infos) (changes_of commit)))

take_same : (print_one : Event → Record) (position ordinal : ℕ) (ns more : List Notice) (i : ℕ) → i + 1 < length ns
    → take i (map print_one (numbered position ordinal (ns ++ more))) ≡ take i (map print_one (numbered position ordinal ns))
take_same print_one position ordinal [] more i lt = absurd (none_less i lt)
take_same print_one position ordinal (x ∷ []) more i lt = absurd (one_only i lt)
take_same print_one position ordinal (x ∷ (y ∷ ns)) more zero lt = refl
take_same print_one position ordinal (x ∷ (y ∷ ns)) more (suc i) lt =
    ap (λ (l : List Record). print_one (record { notice = x; position = position; ordinal = ordinal; last = false }) ∷ l)
    (take_same print_one position (ordinal + 1) (y ∷ ns) more i (one_less i (length (y ∷ ns)) lt))

first_stays : (o p : Option Clash) (h : Halt) → IsClashIn o h → IsClashIn (option_or o p) h
first_stays None p h is = absurd is
first_stays (Some c) p h is = is

-- `later` has the changes of `so_far`, and more.
module _ (identity : Identity) (infos : List TableInfo) (so_far later : Commit) (more : List Change) (changes : changes_of later ≡ changes_of so_far ++ more) where
  both_notices : flat_map (notices infos) (changes_of later) ≡ flat_map (notices infos) (changes_of so_far) ++ flat_map (notices infos) more
  both_notices = ap (flat_map (notices infos)) changes ∙ flat_map-append (notices infos) (changes_of so_far) more

  -- its first value equal to the placeholder stays the first
  pub clash_stays : (h : Halt) → IsClashIn (clash_of identity infos so_far) h → IsClashIn (clash_of identity infos later) h
  clash_stays h is =
      subst (λ (o : Option Clash). IsClashIn o h)
      (sym (ap (first_found (notice_clash identity.placeholder)) both_notices ∙ found_append (notice_clash identity.placeholder) (flat_map (notices infos) (changes_of so_far)) (flat_map (notices infos) more)))
      (first_stays (clash_of identity infos so_far) (first_found (notice_clash identity.placeholder) (flat_map (notices infos) more)) h is)

  -- and a record that is too long, if it isn't one of the last two
  module _ (now : ℤ) (heads : commit_head so_far ≡ commit_head later) where
    abbrev made : Head → List Notice → List Record
    made head ns = map (print identity (commit_so_far head []) now) (numbered head.lsn.0 0 ns)

    so_far_made : envelopes identity infos so_far now ≡ made (commit_head later) (flat_map (notices infos) (changes_of so_far))
    so_far_made = printed_as identity infos so_far now ∙ ap (λ (head : Head). made head (flat_map (notices infos) (changes_of so_far))) heads

    later_made : envelopes identity infos later now ≡ made (commit_head later) (flat_map (notices infos) (changes_of so_far) ++ flat_map (notices infos) more)
    later_made = printed_as identity infos later now ∙ ap (made (commit_head later)) both_notices

    pub long_stays : (h : Halt) → IsLongSoFar (envelopes identity infos so_far now) h → IsLongRecord (envelopes identity infos later now) h
    long_stays h too = by (subst (λ (l : List Record). IsLongSoFar l h) so_far_made too)
      where
        by : IsLongSoFar (made (commit_head later) (flat_map (notices infos) (changes_of so_far))) h → IsLongRecord (envelopes identity infos later now) h
        by is =
            let P = print identity (commit_so_far (commit_head later) []) now in
            let first = (commit_head later).lsn.0 in
            let lt = less_than is.long.place _ _ is.known (records_long P first 0 (flat_map (notices infos) (changes_of so_far))) in
            subst (λ (l : List Record). IsLongRecord l h) (sym later_made) (record {
              place = is.long.place;
              item = is.long.item;
              stands = front_same P first 0 (flat_map (notices infos) (changes_of so_far)) (flat_map (notices infos) more) is.long.place lt ∙ is.long.stands;
              first = subst (AllByRecursion (λ (other : Record). length (group_form (other ∷ [])) ≤ group_limit))
                  (sym (take_same P first 0 (flat_map (notices infos) (changes_of so_far)) (flat_map (notices infos) more) is.long.place lt)) is.long.first;
              long = is.long.long;
              is = is.long.is;
            })

-- ---- a message that states changes is read within a transaction

open_at : (o : Option Head) (e : TxnError) → (if is_some o then None else Some e) ≡ None → (head : Head) × (o ≡ Some head)
open_at None e fine = cc
open_at (Some head) e fine = (head, refl)

pub is_open : (infos : List TableInfo) (after : Lsn) (m : Message) (ms : List Message) (changes : List Change) → transaction_fault infos after m ms ≡ None → stated infos m ms ≡ Ok changes → changes ≢ []
    → (head : Head) × (begin_of (m ∷ ms) ≡ Some head)
is_open infos after (says.Begin l t x) ms changes clean states some = absurd (some (no_changes (Ok []) changes refl states))
is_open infos after (says.Commit flags lsn end_lsn time) ms changes clean states some = absurd (some (no_changes (Ok []) changes refl states))
is_open infos after (says.Origin l n) ms changes clean states some = absurd (some (no_changes (Ok []) changes refl states))
is_open infos after (says.TypeName o n m) ms changes clean states some = absurd (some (no_changes (Ok []) changes refl states))
is_open infos after (says.Relation o n m i c) ms changes clean states some = absurd (some (no_changes (Ok []) changes refl states))
is_open infos after (says.Logical f l p c) ms changes clean states some = absurd (some (no_changes (Ok []) changes refl states))
is_open infos after (says.Insert oid new) ms changes clean states some =
    open_at (begin_of ms) errors.OutsideTransaction (first_none (place_fault (says.Insert oid new) (is_some (begin_of ms))) (own_fault infos after (says.Insert oid new) ms) clean).0
is_open infos after (says.Update oid before new) ms changes clean states some =
    open_at (begin_of ms) errors.OutsideTransaction (first_none (place_fault (says.Update oid before new) (is_some (begin_of ms))) (own_fault infos after (says.Update oid before new) ms) clean).0
is_open infos after (says.Delete oid before) ms changes clean states some =
    open_at (begin_of ms) errors.OutsideTransaction (first_none (place_fault (says.Delete oid before) (is_some (begin_of ms))) (own_fault infos after (says.Delete oid before) ms) clean).0
is_open infos after (says.Truncate options oids) ms changes clean states some =
    open_at (begin_of ms) errors.OutsideTransaction (first_none (place_fault (says.Truncate options oids) (is_some (begin_of ms))) (own_fault infos after (says.Truncate options oids) ms) clean).0

pub ends_none : (infos : List TableInfo) (m : Message) (ms : List Message) (changes : List Change) → stated infos m ms ≡ Ok changes → changes ≢ [] → ended_commit infos m ms ≡ None
ends_none infos (says.Begin l t x) ms changes states some = refl
ends_none infos (says.Commit flags lsn end_lsn time) ms changes states some = absurd (some (no_changes (Ok []) changes refl states))
ends_none infos (says.Origin l n) ms changes states some = refl
ends_none infos (says.TypeName o n m) ms changes states some = refl
ends_none infos (says.Relation o n m i c) ms changes states some = refl
ends_none infos (says.Logical f l p c) ms changes states some = refl
ends_none infos (says.Insert oid new) ms changes states some = refl
ends_none infos (says.Update oid before new) ms changes states some = refl
ends_none infos (says.Delete oid before) ms changes states some = refl
ends_none infos (says.Truncate options oids) ms changes states some = refl

-- ---- a message over the session before the open transaction

module _ (start : Following) (after : Lsn) (ms : List Message) (bytes : List ℕ) where
  abbrev pub rest_piece : (old new : SessionState) (piece : Piece) → HasTakenPiece after ms bytes old new piece → HasTakenPiece after ms bytes (resting start old) (resting start new) piece
  rest_piece old new piece p = record { taken = rest_taken after ms bytes old new (ended_by (changes_so_far old.offset.infos ms) piece) start p.taken; is = p.is; fits_piece = p.fits_piece }

  -- why it isn't taken
  pub rest_halt : (number : ℕ) (work : SessionState) (h : Halt) → (h ≡ halt.Memory) ⊎ (IsMessageHalt number bytes h ⊎ IsTxnHalt number after ms bytes work h)
      → (h ≡ halt.Memory) ⊎ (IsMessageHalt number bytes h ⊎ IsTxnHalt number after ms bytes (resting start work) h)
  rest_halt number work h (inl memory) = inl memory
  rest_halt number work h (inr (inl message)) = inr (inl message)
  rest_halt number work h (inr (inr txn)) = inr (inr (record { message = txn.message; spells = txn.spells; error = txn.error; fault = txn.fault; is = txn.is }))

-- ---- why a step stops at changes

-- The open transaction of these messages has a value equal to the placeholder, or else a record that is too long and isn't one of its last two.
abbrev pub IsOpenCause : SessionState → List Message → Halt → Type 0
IsOpenCause work ms h =
    IsClashIn (clash_of work.offset.identity work.offset.infos (open_commit work.offset.infos ms)) h
    ⊎ ((clash_of work.offset.identity work.offset.infos (open_commit work.offset.infos ms) ≡ None)
    × IsLongSoFar (envelopes work.offset.identity work.offset.infos (open_commit work.offset.infos ms) work.now_ms) h)

-- so the newest message is the cause
pub open_newest : (after : Lsn) (ms : List Message) (bytes : List ℕ) (work next : SessionState) (changes : List Change) (h : Halt) (p : HasTakenPiece after ms bytes work next (Changed changes)) → CouldBeSentSoFar work ms
    → IsOpenCause next (p.taken.message ∷ ms) h → IsOpenNewestHalt after ms bytes work h
open_newest after ms bytes work next changes h p so_far cause = record {
  next = next;
  taken = p.taken;
  changes = changes;
  states = p.is.0;
  some = p.is.1;
  before = so_far;
  is = subst (λ (x : SessionState). IsOpenCause x (p.taken.message ∷ ms) h) p.taken.same cause;
}
