-- A session's step within a transaction: what follows of the changes that it followed, and of the records that it appended.
use Rattle.std.proofs.Common.{◌≡◌, ◌∙◌, ◌⊎◌, inl, inr, ◌+◌, ◌-◌, ◌≤◌, ◌<◌, ◌^◌, ℕ, ℤ, zero, suc, false, Option, Some, None, List, [], ◌∷◌, ◌++◌, length, take, drop, refl, sym, ap, subst, arith, append_assoc, append-nil, length-append}
use Rattle.std.specs.Prelude.{Result, Err, IsErr, OnOk, slice_get}
use Rattle.std.specs.List.{AllByRecursion}
use Rattle.std.proofs.lemmas.List.{take-append-drop}
use Rattle.std.proofs.lemmas.Result.{IfErr-weaker, IfOk-weaker, on_err_weaker}
use Rattle.dbl_pgmsg.specs.declared.messages.Message.{Message}
use Rattle.dbl_record.specs.declared.record.Record.{Record}
use Rattle.dbl_record.specs.Cuts.{cut}
use Rattle.dbl_record.specs.Groups.{group_form}
use Rattle.dbl_topic.specs.Model.{SinkModel}
use Rattle.dbl_topic.specs.Sinks.{group_limit}
use Rattle.dbl_model_table.specs.declared.change.Commit.{Commit}
use Rattle.dbl_model_table.specs.declared.change.Change.{Change}
use Rattle.dbl_model_table.specs.declared.change.Head.{Head}
use Rattle.dbl_model_table.specs.Heads.{commit_so_far}
use Rattle.dbl_model_history.specs.Ranges.{IsMomentInRange}
use Rattle.dbl_model_commit.specs.Past.{begin_of}
use Rattle.dbl_model_commit.specs.Pieces.{changes_so_far}
use Rattle.dbl_envelope.specs.ModelEvent.Clashes.{Clash, clash_of}
use Rattle.dbl_envelope.specs.ModelEvent.EventJson.{envelopes}
use Rattle.dbl_follow.specs.Amid.{IsAmid, AreReleased}
use Rattle.dbl_follow.specs.Followed.{Following}
use Rattle.dbl_follow.proofs.AmidLemmas.{amid_same}
use Rattle.dbl_capture_model.proofs.Events.{take_whole}
use Rattle.dbl_capture_model.proofs.FaithfulItems.{at_cases, at_left, at_right}
use Rattle.dbl_capture_work.specs.declared.halt.Halt.{Halt}
use Rattle.dbl_capture_work.specs.declared.halt.Halt.TheVariants as halt
use Rattle.dbl_capture_work.specs.declared.report.Report.{Report}
use Rattle.dbl_capture_work.specs.declared.work.SessionState.{SessionState}
use Rattle.dbl_capture_work.specs.Causes.{HaltsAppending, IsLongRecord}
use Rattle.dbl_capture_work.specs.Groups.{AppendsMore, HasLastsAtItsEnd, HoldsPut, IsBatched, LeavesRecords, WasTorn, WerePut, records_in}
use Rattle.dbl_capture_work.specs.Takes.{CountsOnlyRecords, DeliversOpen, GoesOnOpen, IsClashIn, IsLongSoFar, LeftOpen, open_released}
use Rattle.dbl_capture_work.specs.Works.{FollowsOpen, IsAmidWork, head_in, open_commit, resting}
use Rattle.dbl_capture_work.proofs.Batches.{IsOwnBatch, cut_taken, own_gathered, take_within}
use Rattle.dbl_capture_work.proofs.Puts.{report_none, within}
use Rattle.dbl_capture_work.proofs.Delivering.{drop_front, holds_after, left_after, released_is, released_not_last, take_front, take_joined, torn_after}

-- ---- lists

pub all_append : (P : Record → Type 0) (xs ys : List Record) → AllByRecursion P xs → AllByRecursion P ys → AllByRecursion P (xs ++ ys)
all_append P [] ys one two = two
all_append P (x ∷ xs) ys one two = (one.0, all_append P xs ys one.1 two)

-- an element of a list of which each is so
pub all_at : (P : Record → Type 0) (xs : List Record) (k : ℕ) (x : Record) → AllByRecursion P xs → slice_get xs k ≡ Some x → P x
all_at P [] k x all at = cc
all_at P (y ∷ xs) zero x all at = let same : y ≡ x = cc in subst P same all.0
all_at P (y ∷ xs) (suc k) x all at = all_at P xs k x all.1 at

-- of the last records none but the last one is the last of its commit, as of all
pub lasts_right : (xs ys : List Record) → HasLastsAtItsEnd (xs ++ ys) → HasLastsAtItsEnd ys
lasts_right xs ys ends = record {
  each = λ place item at last. less (length xs) place (length ys) (length (xs ++ ys)) (length-append xs ys) (ends.each (length xs + place) item (at_right xs ys place item at) last);
}
  where
    less : (a p n m : ℕ) → m ≡ a + n → a + p + 1 ≡ m → p + 1 ≡ n
    less a p n m long is = omega (arith, long, is)

pub none_both : (xs ys : List Record) → xs ++ ys ≡ [] → xs ≡ []
none_both [] ys is = refl
none_both (x ∷ xs) ys is = cc

-- ---- how many records there are

-- the follower released all of the open transaction's records but the last one, or there is none
pub record HasReleased (all released : List Record) : Type 0 where
  pub held : List Record
  pub whole : all ≡ released ++ held
  pub one : (all ≡ []) ⊎ (length all ≡ length released + 1)

pub has_released : (start f : Following) (head : Head) (changes : List Change) (now : ℤ) (released : List Record) → IsAmid start head changes now released f
    → HasReleased (envelopes start.identity start.infos (commit_so_far head changes) now) released
has_released start f head changes now released amid = by changes amid.released_are
  where
    by : (cs : List Change) → AreReleased start head cs now released f.part → HasReleased (envelopes start.identity start.infos (commit_so_far head cs) now) released
    by [] are = record { held = []; whole = sym (ap (λ (l : List Record). l ++ []) are.1); one = inl refl }
    by (c ∷ cs) are = record { held = are.0 ∷ []; whole = sym are.2; one = inr (ap length (sym are.2) ∙ length-append released (are.0 ∷ [])) }

module _ {K T : Type 0} (sink_model : SinkModel K) (m : Message) (ms : List Message) (start : Following) (put records : List Record) (work new : SessionState) (sink new_sink : K) (report new_report : Report) (result : Result T Halt)
    (amid : IsAmidWork ms start put work) (same : new ≡ record work { follower = new.follower; batch = new.batch })
    (follows : IsAmid start (head_in (begin_of (m ∷ ms))) (changes_so_far work.offset.infos (m ∷ ms)) work.now_ms ((put ++ records_in work.batch) ++ records) new.follower)
    (since : work.since < work.every) (moment : IsMomentInRange work.now_ms) where
  abbrev commit : Commit
  commit = open_commit work.offset.infos (m ∷ ms)

  abbrev rest : List Record
  rest = records_in work.batch ++ records

  abbrev all : List Record
  all = envelopes start.identity start.infos commit work.now_ms

  own : IsOwnBatch (records_in work.batch)
  own = own_gathered work.batch amid.gathered

  amid_all : IsAmid start (head_in (begin_of (m ∷ ms))) (changes_so_far work.offset.infos (m ∷ ms)) work.now_ms (put ++ rest) new.follower
  amid_all = amid_same refl (append_assoc put (records_in work.batch) records) follows

  no_clash : clash_of start.identity start.infos commit ≡ None
  no_clash = follows.no_clash

  whole : HasReleased all (put ++ rest)
  whole = has_released start new.follower (head_in (begin_of (m ∷ ms))) (changes_so_far work.offset.infos (m ∷ ms)) work.now_ms (put ++ rest) amid_all

  dropped : drop (length put) (open_released (resting start work) commit) ≡ rest
  dropped =
      ap (drop (length put)) (sym (released_is start new.follower (head_in (begin_of (m ∷ ms))) (changes_so_far work.offset.infos (m ∷ ms)) work.now_ms (put ++ rest) amid_all))
      ∙ drop_front put rest

  lasts : HasLastsAtItsEnd rest
  lasts = lasts_right put rest (released_not_last start new.follower (head_in (begin_of (m ∷ ms))) (changes_so_far work.offset.infos (m ∷ ms)) work.now_ms (put ++ rest) amid_all)

  -- ---- where all were gathered

  module _ (a : AppendsMore sink_model rest new.batch false sink new_sink report new_report) where
    more_taken : take (length a.more) rest ≡ a.more
    more_taken = ap (take (length a.more)) a.parted ∙ take_front a.more (records_in new.batch)

    cut_more : cut (put ++ a.more) ≡ cut put ++ cut a.more
    cut_more =
        ap (λ (l : List Record). cut (put ++ l)) (sym more_taken)
        ∙ (cut_taken put (records_in work.batch) records (length a.more) amid.batched own ∙ ap (λ (l : List Record). cut put ++ cut l) more_taken)

    cut_all : cut (put ++ rest) ≡ cut put ++ cut rest
    cut_all =
        ap (λ (l : List Record). cut (put ++ l)) (sym (take_whole rest))
        ∙ (cut_taken put (records_in work.batch) records (length rest) amid.batched own ∙ ap (λ (l : List Record). cut put ++ cut l) (take_whole rest))

    batched_by : (batch : List Record) → rest ≡ a.more ++ batch → IsBatched a.more batch → IsBatched (put ++ a.more) batch
    batched_by [] parted batched =
        let none : rest ≡ [] = parted ∙ (append-nil a.more ∙ batched) in
        let empty : records_in work.batch ≡ [] = none_both (records_in work.batch) records none in
        let nothing : put ≡ [] = subst (IsBatched put) empty amid.batched in
        ap (λ (l : List Record). l ++ a.more) nothing ∙ batched
    batched_by (item ∷ batch) parted batched =
        ap cut (append_assoc put a.more (item ∷ batch) ∙ ap (λ (l : List Record). put ++ l) (sym parted))
        ∙ (cut_all
        ∙ (ap (λ (l : List Record). cut put ++ cut l) parted
        ∙ (ap (λ (l : List (List Record)). cut put ++ l) batched
        ∙ (sym (append_assoc (cut put) (cut a.more) ((item ∷ batch) ∷ [])) ∙ ap (λ (l : List (List Record)). l ++ (item ∷ batch) ∷ []) (sym cut_more)))))

    pub goes_on_open : GoesOnOpen sink_model (m ∷ ms) start put new sink new_sink report new_report
    goes_on_open = record {
      more = a.more;
      is = record {
        amid = subst (λ (w : SessionState). IsAmid start (head_in (begin_of (m ∷ ms))) (changes_so_far w.offset.infos (m ∷ ms)) w.now_ms ((put ++ a.more) ++ records_in new.batch) new.follower) (sym same)
            (amid_same refl (ap (λ (l : List Record). put ++ l) a.parted ∙ sym (append_assoc put a.more (records_in new.batch))) amid_all);
        gathered = a.gathered;
        batched = batched_by (records_in new.batch) a.parted a.batched;
        short = all_append (λ (item : Record). length (group_form (item ∷ [])) ≤ group_limit) put a.more amid.short a.short;
        early = inr (subst (λ (w : SessionState). (w.since < w.every) × IsMomentInRange w.now_ms) (sym same) (since, moment));
      };
      held = λ groups h. subst (sink_model.holds new_sink) (append_assoc groups (cut put) (cut a.more) ∙ ap (λ (l : List (List Record)). groups ++ l) (sym cut_more)) (a.held (groups ++ cut put) h);
      counted = a.counted lasts;
    }

  -- ---- what may be left

  few_of : (n k l : ℕ) → n ≤ k → l ≡ k + 1 → n < l
  few_of n k l le is = omega (arith, le, is)

  zero_of : (n k : ℕ) → n ≤ k → k ≡ 0 → n ≡ 0
  zero_of n k le is = omega (arith, le, is)

  prefix_few : (xs ys : List Record) → length xs ≤ length (xs ++ ys)
  prefix_few xs ys = le_of (length xs) (length ys) (length (xs ++ ys)) (length-append xs ys)
    where
      le_of : (a b c : ℕ) → c ≡ a + b → a ≤ c
      le_of a b c is = omega (arith, is)

  part_of_rest : (n : ℕ) → put ++ rest ≡ (put ++ take n rest) ++ drop n rest
  part_of_rest n = ap (λ (l : List Record). put ++ l) (sym (take-append-drop n rest)) ∙ sym (append_assoc put (take n rest) (drop n rest))

  part_of_all : (n : ℕ) → all ≡ (put ++ take n rest) ++ (drop n rest ++ whole.held)
  part_of_all n = whole.whole ∙ (ap (λ (l : List Record). l ++ whole.held) (part_of_rest n) ∙ append_assoc (put ++ take n rest) (drop n rest) whole.held)

  pub left_open : (groups left : List (List Record)) (n : ℕ) → left ≡ groups ++ cut (put ++ take n rest) → LeftOpen commit (resting start work) groups left
  left_open groups left n is = record {
    no_clash = no_clash;
    count = length (put ++ take n rest);
    few = elim whole.one [
      | inl none ↦ inl (zero_of (length (put ++ take n rest)) (length all) (subst (λ (l : List Record). length (put ++ take n rest) ≤ length l) (sym (part_of_all n)) (prefix_few (put ++ take n rest) (drop n rest ++ whole.held))) (ap length none))
      | inr one ↦ inr (few_of (length (put ++ take n rest)) (length (put ++ rest)) (length all) (subst (λ (l : List Record). length (put ++ take n rest) ≤ length l) (sym (part_of_rest n)) (prefix_few (put ++ take n rest) (drop n rest))) one)
    ];
    is = is ∙ ap (λ (l : List Record). groups ++ cut l) (sym (ap (take (length (put ++ take n rest))) (part_of_all n) ∙ take_front (put ++ take n rest) (drop n rest ++ whole.held)));
  }

  -- ---- why it stops

  known_of : (a p n l : ℕ) → p + 1 < n → l ≡ (a + n) + 1 → a + p + 2 < l
  known_of a p n l lt is = omega (arith, lt, is)

  some_left : (p n k : ℕ) → p + 1 < n → k ≡ 0 → n ≤ k → ⊥
  some_left p n k lt is le = omega (arith, lt, is, le)

  long_open : (h : Halt) (long : IsLongRecord rest h) → long.place + 1 < length rest → IsLongSoFar all h
  long_open h long lt =
      let more = at_left (put ++ rest) whole.held (length put + long.place) long.item (at_right put rest long.place long.item long.stands) in
      let taken : take (length put + long.place) all ≡ put ++ take long.place rest =
      ap (take (length put + long.place)) (whole.whole ∙ append_assoc put rest whole.held)
      ∙ (take_joined long.place put (rest ++ whole.held) ∙ ap (λ (l : List Record). put ++ l) (take_within long.place rest whole.held (lt_le long.place (length rest) lt))) in
      record {
        long = record {
          place = length put + long.place;
          item = long.item;
          stands = subst (λ (l : List Record). slice_get l (length put + long.place) ≡ Some long.item) (sym whole.whole) more;
          first = subst (AllByRecursion (λ other. length (group_form (other ∷ [])) ≤ group_limit)) (sym taken) (all_append (λ (other : Record). length (group_form (other ∷ [])) ≤ group_limit) put (take long.place rest) amid.short long.first);
          long = long.long;
          is = long.is;
        };
        known = elim whole.one [
          | inl none ↦ absurd (some_left long.place (length rest) (length all) lt (ap length none)
              (subst (λ (l : List Record). length rest ≤ length l) (sym (whole.whole ∙ append_assoc put rest whole.held)) (within_all put rest whole.held)))
          | inr one ↦ known_of (length put) long.place (length rest) (length all) lt (one ∙ ap (λ (k : ℕ). k + 1) (length-append put rest))
        ];
      }
    where
      lt_le : (a b : ℕ) → a + 1 < b → a ≤ b
      lt_le a b lt = omega (arith, lt)

      le_sum : (a b c d e : ℕ) → e ≡ a + d → d ≡ b + c → b ≤ e
      le_sum a b c d e one two = omega (arith, one, two)

      within_all : (xs ys zs : List Record) → length ys ≤ length (xs ++ (ys ++ zs))
      within_all xs ys zs = le_sum (length xs) (length ys) (length zs) (length (ys ++ zs)) (length (xs ++ (ys ++ zs))) (length-append xs (ys ++ zs)) (length-append ys zs)

  open_cause : (h : Halt) → (h ≡ halt.Memory) ⊎ ((h ≡ halt.Sink) ⊎ ((long : IsLongRecord rest h) × (long.place + 1 < length rest)))
      → (h ≡ halt.Memory) ⊎ ((h ≡ halt.Sink) ⊎ (IsClashIn (clash_of start.identity start.infos commit) h ⊎ ((clash_of start.identity start.infos commit ≡ None) × IsLongSoFar all h)))
  open_cause h (inl memory) = inl memory
  open_cause h (inr (inl failed)) = inr (inl failed)
  open_cause h (inr (inr long)) = inr (inr (inr (no_clash, long_open h long.0 long.1)))

  -- a record that is too long is one of those after the ones that were put
  too_long : (place : ℕ) (item : Record) → slice_get all place ≡ Some item → place + 2 < length all → group_limit < length (group_form (item ∷ []))
      → ((other : ℕ) → slice_get rest other ≡ Some item → other + 1 < length rest → IsErr result) → IsErr result
  too_long place item at known long halts =
      elim (at_cases (put ++ rest) whole.held place item (subst (λ (l : List Record). slice_get l place ≡ Some item) whole.whole at)) [
        | inl here ↦ by_place here
        | inr there ↦ absurd (beyond whole.one there.0 there.2)
      ]
    where
      not_short : (n : ℕ) → group_limit < n → n ≤ group_limit → ⊥
      not_short n lt le = omega (arith, lt, le)

      not_known : (place n l k : ℕ) → place + 2 < l → l ≡ n + 1 → place ≡ n + k → ⊥
      not_known place n l k lt is at = omega (arith, lt, is, at)

      none_known : (place l : ℕ) → place + 2 < l → l ≡ 0 → ⊥
      none_known place l lt is = omega (arith, lt, is)

      beyond : (all ≡ []) ⊎ (length all ≡ length (put ++ rest) + 1) → (k : ℕ) → place ≡ length (put ++ rest) + k → ⊥
      beyond (inl none) k is = none_known place (length all) known (ap length none)
      beyond (inr one) k is = not_known place (length (put ++ rest)) (length all) k known one is

      within_rest : (place a k n l : ℕ) → place + 2 < l → l ≡ (a + n) + 1 → place ≡ a + k → k + 1 < n
      within_rest place a k n l lt is at = omega (arith, lt, is, at)

      rest_known : (all ≡ []) ⊎ (length all ≡ length (put ++ rest) + 1) → (k : ℕ) → place ≡ length put + k → k + 1 < length rest
      rest_known (inl none) k is = absurd (none_known place (length all) known (ap length none))
      rest_known (inr one) k is = within_rest place (length put) k (length rest) (length all) known (one ∙ ap (λ (n : ℕ). n + 1) (length-append put rest)) is

      by_place : slice_get (put ++ rest) place ≡ Some item → IsErr result
      by_place here = elim (at_cases put rest place item here) [
        | inl short ↦ absurd (not_short (length (group_form (item ∷ []))) long (all_at (λ (other : Record). length (group_form (other ∷ [])) ≤ group_limit) put place item amid.short short))
        | inr there ↦ halts there.0 there.1 (rest_known whole.one there.0 there.2)
      ]

  -- ---- all of it

  pub delivers_open : OnOk result (AppendsMore sink_model rest new.batch false sink new_sink report new_report) → LeavesRecords sink_model rest false sink new_sink report new_report result
      → HaltsAppending sink_model rest false sink new_sink report new_report result
      → DeliversOpen sink_model commit (m ∷ ms) start put (resting start work) new sink new_sink report new_report result
  delivers_open appends leaves halts = record {
    next = IfOk-weaker result (λ x. AppendsMore sink_model rest new.batch false sink new_sink report new_report) (λ x. GoesOnOpen sink_model (m ∷ ms) start put new sink new_sink report new_report) (λ x a. goes_on_open a) appends;
    left = λ groups left held may.
        let some = left_after put (records_in work.batch) records amid.batched own groups left (leaves.left (groups ++ cut put) left held may) in
        inr (left_open groups left some.0 some.1);
    some = leaves.some;
    kept = λ groups held.
        on_err_weaker result
        (λ kept other.
        subst (λ (l : List Record). HoldsPut sink_model.holds groups false put l report new_report new_sink) (sym dropped)
        (holds_after put (records_in work.batch) records amid.batched own sink_model.holds groups false report new_report new_sink (kept other)))
        (leaves.kept (groups ++ cut put) held lasts);
    torn = λ groups held is.
        subst (λ (l : List Record). WasTorn sink_model groups false put l report new_report new_sink) (sym dropped)
        (torn_after put (records_in work.batch) records amid.batched own sink_model groups false report new_report new_sink (leaves.torn (groups ++ cut put) held lasts is));
    causes = IfErr-weaker result (λ h. (h ≡ halt.Memory) ⊎ ((h ≡ halt.Sink) ⊎ ((long : IsLongRecord rest h) × (long.place + 1 < length rest))))
        (λ h. (h ≡ halt.Memory) ⊎ ((h ≡ halt.Sink) ⊎ (IsClashIn (clash_of start.identity start.infos commit) h ⊎ ((clash_of start.identity start.infos commit ≡ None) × IsLongSoFar all h)))) open_cause halts.causes;
    clash = λ some. absurd (some no_clash);
    no_clash = λ is. no_clash;
    released = λ is. ap (λ (l : List Record). put ++ l) dropped
        ∙ released_is start new.follower (head_in (begin_of (m ∷ ms))) (changes_so_far work.offset.infos (m ∷ ms)) work.now_ms (put ++ rest) amid_all;
    long = λ place item at known long. too_long place item at known long (λ other there lt. halts.long other item there lt long);
  }

-- ---- where the follower refused a change, or memory ran out before any record was appended

module _ {K T : Type 0} (sink_model : SinkModel K) (commit : Commit) (ms : List Message) (start : Following) (put : List Record) (work new : SessionState) (sink : K) (report : Report) (result : Result T Halt) (h : Halt) (is : result ≡ Err h) where
  -- it appended nothing, and counted nothing
  pub refuses_open : (holds_so : (groups left : List (List Record)) → sink_model.holds sink groups → sink_model.may_leave sink left → left ≡ groups) → (may : (groups : List (List Record)) → sink_model.holds sink groups → sink_model.may_leave sink groups)
      → (h ≡ halt.Sink → ⊥) → report.records ≤ 2 ^ 64 - 1 → report.chunks ≤ 2 ^ 64 - 1 → report.snapshot_rows ≤ 2 ^ 64 - 1
      → (h ≡ halt.Memory) ⊎ IsClashIn (clash_of start.identity start.infos commit) h
      → DeliversOpen sink_model commit ms start put (resting start work) new sink sink report report result
  refuses_open holds_so may other one two three cause = rw is (record {
    next = tt;
    left = λ groups left held can. inl (holds_so (groups ++ cut put) left held can);
    some = λ groups held. (groups, may groups held);
    kept = λ groups held not_sink. record {
      count = 0;
      few = inl refl;
      held = subst (sink_model.holds sink) (ap (λ (l : List Record). groups ++ cut l) (sym (append-nil put))) held;
      report = sym (report_none false report one two three);
    };
    torn = λ groups held failed. let same : h ≡ halt.Sink = cc in absurd (other same);
    causes = refused cause;
    clash = λ some. refl;
    no_clash = λ failed. let same : h ≡ halt.Sink = cc in absurd (other same);
    released = λ failed. let same : h ≡ halt.Sink = cc in absurd (other same);
    long = λ place item at known long. refl;
  })
    where
      refused : (h ≡ halt.Memory) ⊎ IsClashIn (clash_of start.identity start.infos commit) h
          → (h ≡ halt.Memory) ⊎ ((h ≡ halt.Sink) ⊎ (IsClashIn (clash_of start.identity start.infos commit) h ⊎ ((clash_of start.identity start.infos commit ≡ None) × IsLongSoFar (envelopes start.identity start.infos commit work.now_ms) h)))
      refused (inl memory) = inl memory
      refused (inr clash) = inr (inr (inl clash))

-- ---- what a call of the parts says of the session

-- the follower's state after the message
pub follows_from : (m : Message) (ms : List Message) (start : Following) (released : List Record) (old new : SessionState) → new ≡ record old { follower = new.follower } → FollowsOpen (m ∷ ms) start released new
    → IsAmid start (head_in (begin_of (m ∷ ms))) (changes_so_far old.offset.infos (m ∷ ms)) old.now_ms released new.follower
follows_from m ms start released old new same is =
    subst (λ (w : SessionState). IsAmid start (head_in (begin_of (m ∷ ms))) (changes_so_far w.offset.infos (m ∷ ms)) w.now_ms released new.follower) same is

-- a report counts records alone
pub only_records : (records : List Record) (before after : Report) → before.chunks ≤ 2 ^ 64 - 1 → before.snapshot_rows ≤ 2 ^ 64 - 1 → WerePut false records before after → CountsOnlyRecords before after
only_records records before after two three put =
    put.report ∙ (λ i. record before {
      records = sym (ap (λ (r : Report). r.records) put.report) i;
      chunks = within before.chunks (2 ^ 64 - 1) two i;
      snapshot_rows = within before.snapshot_rows (2 ^ 64 - 1) three i;
    })

-- of the records that were released after the ones that were put none is the last of its commit
pub released_rest : (start f : Following) (head : Head) (changes : List Change) (now : ℤ) (put batch records : List Record) → IsAmid start head changes now ((put ++ batch) ++ records) f → HasLastsAtItsEnd (batch ++ records)
released_rest start f head changes now put batch records amid =
    lasts_right put (batch ++ records) (released_not_last start f head changes now (put ++ (batch ++ records)) (amid_same refl (append_assoc put batch records) amid))

-- a refusal of the follower isn't an error of the sink
pub refused_not_sink : (clash : Option Clash) (h : Halt) → (h ≡ halt.Memory) ⊎ IsClashIn clash h → h ≡ halt.Sink → ⊥
refused_not_sink clash h (inl memory) is = let both : halt.Memory ≡ halt.Sink = sym memory ∙ is in cc
refused_not_sink None h (inr none) is = none
refused_not_sink (Some c) h (inr clash) is = let both : halt.Clash c.table c.column ≡ halt.Sink = sym clash ∙ is in cc
