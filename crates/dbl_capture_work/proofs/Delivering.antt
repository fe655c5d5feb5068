-- What a session's step delivers of the open transaction, after the records that were put before.
use Rattle.std.proofs.Common.{◌≡◌, ◌∙◌, ◌⊎◌, inl, inr, ◌+◌, ◌-◌, ◌≤◌, ◌<◌, ℕ, ℤ, zero, suc, Bool, true, Some, List, [], ◌∷◌, ◌++◌, length, take, drop, refl, sym, ap, subst, arith, append_assoc, length-append}
use Rattle.std.specs.Prelude.{slice_get}
use Rattle.dbl_record.specs.declared.record.Record.{Record}
use Rattle.dbl_record.specs.Cuts.{cut}
use Rattle.dbl_model_table.specs.declared.change.Change.{Change}
use Rattle.dbl_model_table.specs.declared.change.Head.{Head}
use Rattle.dbl_model_table.specs.Heads.{commit_so_far}
use Rattle.dbl_envelope.specs.ModelEvent.EventJson.{envelopes}
use Rattle.dbl_model_table.proofs.Lists.{slice_get-lt}
use Rattle.dbl_topic.specs.Model.{SinkModel}
use Rattle.dbl_topic.specs.Sinks.{IsLeftByPut}
use Rattle.dbl_follow.specs.Amid.{IsAmid, AreReleased}
use Rattle.dbl_follow.specs.Followed.{Following}
use Rattle.dbl_capture_work.specs.declared.halt.Halt.{Halt}
use Rattle.dbl_capture_work.specs.declared.report.Report.{Report}
use Rattle.dbl_capture_work.specs.Causes.{HasPutBefore}
use Rattle.dbl_capture_work.specs.Groups.{HasLastsAtItsEnd, HoldsPut, IsBatched, IsLeftByCut, WasTorn}
use Rattle.dbl_capture_work.proofs.Batches.{IsOwnBatch, cut_taken}
use Rattle.dbl_capture_model.proofs.Events.{take_whole}
use Rattle.dbl_capture_model.proofs.FaithfulItems.{at_left}
use Rattle.dbl_capture_work.proofs.Taking.{lasts_of_commit}

-- ---- lists

pub take_front : {X : Type 0} (xs ys : List X) → take (length xs) (xs ++ ys) ≡ xs
take_front [] ys = refl
take_front (x ∷ xs) ys = ap (λ (l : List _). x ∷ l) (take_front xs ys)

pub drop_front : {X : Type 0} (xs ys : List X) → drop (length xs) (xs ++ ys) ≡ ys
drop_front [] ys = refl
drop_front (x ∷ xs) ys = drop_front xs ys

none_first : (n : ℕ) → 0 + n ≡ n
none_first n = omega arith

one_first : (a n : ℕ) → suc a + n ≡ suc (a + n)
one_first a n = omega arith

pub take_joined : {X : Type 0} (n : ℕ) (xs ys : List X) → take (length xs + n) (xs ++ ys) ≡ xs ++ take n ys
take_joined n [] ys = ap (λ (k : ℕ). take k ys) (none_first n)
take_joined n (x ∷ xs) ys = ap (λ (k : ℕ). take k (x ∷ (xs ++ ys))) (one_first (length xs) n) ∙ ap (λ (l : List _). x ∷ l) (take_joined n xs ys)

-- some first elements of a list, as so many
pub taken_front : {X : Type 0} (n : ℕ) (xs : List X) → take (length (take n xs)) xs ≡ take n xs
taken_front zero xs = refl
taken_front (suc n) [] = refl
taken_front (suc n) (x ∷ xs) = ap (λ (l : List _). x ∷ l) (taken_front n xs)

pub taken_few : {X : Type 0} (n : ℕ) (xs : List X) → length (take n xs) ≤ length xs
taken_few zero xs = omega arith
taken_few (suc n) [] = omega arith
taken_few (suc n) (x ∷ xs) = one_more (length (take n xs)) (length xs) (taken_few n xs)
  where
    one_more : (a b : ℕ) → a ≤ b → suc a ≤ suc b
    one_more a b le = omega (arith, le)

-- ---- the records that the follower released

one_less : (n k : ℕ) → k ≡ n + 1 → k - 1 ≡ n
one_less n k is = omega (arith, is)

-- they are all of the open transaction so far but the last one
pub released_is : (start f : Following) (head : Head) (changes : List Change) (now : ℤ) (released : List Record) → IsAmid start head changes now released f
    → released ≡ take (length (envelopes start.identity start.infos (commit_so_far head changes) now) - 1) (envelopes start.identity start.infos (commit_so_far head changes) now)
released_is start f head changes now released amid = by changes amid.released_are
  where
    by : (cs : List Change) → AreReleased start head cs now released f.part
        → released ≡ take (length (envelopes start.identity start.infos (commit_so_far head cs) now) - 1) (envelopes start.identity start.infos (commit_so_far head cs) now)
    by [] are = are.1
    by (c ∷ cs) are =
        let all = envelopes start.identity start.infos (commit_so_far head (c ∷ cs)) now in
        let held = are.0 in
        let is : released ++ held ∷ [] ≡ all = are.2 in
        let long : length all - 1 ≡ length released = one_less (length released) (length all) (ap length (sym is) ∙ length-append released (held ∷ [])) in
        sym (ap (λ (k : ℕ). take k all) long ∙ (ap (take (length released)) (sym is) ∙ take_front released (held ∷ [])))

-- and they are fewer than all, unless there are none
pub released_fewer : (start f : Following) (head : Head) (changes : List Change) (now : ℤ) (released : List Record) → IsAmid start head changes now released f
    → (length released ≡ 0) ⊎ (length released < length (envelopes start.identity start.infos (commit_so_far head changes) now))
released_fewer start f head changes now released amid = by changes amid.released_are
  where
    less : (n k : ℕ) → k ≡ n + 1 → n < k
    less n k is = omega (arith, is)

    by : (cs : List Change) → AreReleased start head cs now released f.part
        → (length released ≡ 0) ⊎ (length released < length (envelopes start.identity start.infos (commit_so_far head cs) now))
    by [] are = inl (ap length are.1)
    by (c ∷ cs) are =
        inr (less (length released) (length (envelopes start.identity start.infos (commit_so_far head (c ∷ cs)) now)) (ap length (sym are.2) ∙ length-append released (are.0 ∷ [])))

-- none of them is marked as the last of its commit
pub released_not_last : (start f : Following) (head : Head) (changes : List Change) (now : ℤ) (released : List Record) → IsAmid start head changes now released f → HasLastsAtItsEnd released
released_not_last start f head changes now released amid = record { each = λ place item at last. by changes amid.released_are place item at last }
  where
    never : (place n m : ℕ) → place < n → place + 1 ≡ m → m ≡ n + 1 → ⊥
    never place n m lt is long = omega (arith, lt, is, long)

    by : (cs : List Change) → AreReleased start head cs now released f.part → (place : ℕ) (item : Record) → slice_get released place ≡ Some item → item.last ≡ true → place + 1 ≡ length released
    by [] are place item at last =
        let none : slice_get {X = Record} [] place ≡ Some item = subst (λ (l : List Record). slice_get l place ≡ Some item) are.1 at in
        cc
    by (c ∷ cs) are place item at last =
        let all = envelopes start.identity start.infos (commit_so_far head (c ∷ cs)) now in
        let there : slice_get all place ≡ Some item = subst (λ (l : List Record). slice_get l place ≡ Some item) are.2 (at_left released (are.0 ∷ []) place item at) in
        absurd (never place (length released) (length all) (slice_get-lt released place item at)
        ((lasts_of_commit start.identity start.infos (commit_so_far head (c ∷ cs)) now).each place item there last) (ap length (sym are.2) ∙ length-append released (are.0 ∷ [])))

-- ---- after the records that were put

module _ (put batch more : List Record) (batched : IsBatched put batch) (own : IsOwnBatch batch) where
  -- batches after the ones that were put are the batches of all
  pub groups_after : (groups : List (List Record)) (n : ℕ) → (groups ++ cut put) ++ cut (take n (batch ++ more)) ≡ groups ++ cut (put ++ take n (batch ++ more))
  groups_after groups n =
      append_assoc groups (cut put) (cut (take n (batch ++ more))) ∙ ap (λ (l : List (List Record)). groups ++ l) (sym (cut_taken put batch more n batched own))

  pub holds_after : {K : Type 0} (holds : K → List (List Record) → Type 0) (groups : List (List Record)) (snapshot : Bool) (before after : Report) (sink : K)
      → HoldsPut holds (groups ++ cut put) snapshot [] (batch ++ more) before after sink → HoldsPut holds groups snapshot put (batch ++ more) before after sink
  holds_after holds groups snapshot before after sink h = record {
    count = h.count;
    few = h.few;
    held = subst (holds sink) (groups_after groups h.count) h.held;
    report = h.report;
  }

  pub torn_after : {K : Type 0} (model : SinkModel K) (groups : List (List Record)) (snapshot : Bool) (before after : Report) (sink : K)
      → WasTorn model (groups ++ cut put) snapshot [] (batch ++ more) before after sink → WasTorn model groups snapshot put (batch ++ more) before after sink
  torn_after model groups snapshot before after sink t = record {
    count = t.count;
    group = t.group;
    later = t.later;
    parted =
        whole
        ∙ (ap (λ (l : List (List Record)). cut put ++ l) t.parted
        ∙ (sym (append_assoc (cut put) (cut (take t.count (batch ++ more))) (t.group ∷ t.later))
        ∙ ap (λ (l : List (List Record)). l ++ t.group ∷ t.later) (sym (cut_taken put batch more t.count batched own))));
    left = λ found may. subst (λ (l : List (List Record)). IsLeftByPut l t.group found) (groups_after groups t.count) (t.left found may);
    some = t.some;
    fails = t.fails;
    report = t.report;
  }
    where
      whole : cut (put ++ (batch ++ more)) ≡ cut put ++ cut (batch ++ more)
      whole =
          ap (λ (l : List Record). cut (put ++ l)) (sym (take_whole (batch ++ more)))
          ∙ (cut_taken put batch more (length (batch ++ more)) batched own ∙ ap (λ (l : List Record). cut put ++ cut l) (take_whole (batch ++ more)))

  pub before_after : {K : Type 0} (holds : K → List (List Record) → Type 0) (groups : List (List Record)) (snapshot : Bool) (before after : Report) (sink : K) (h : Halt)
      → HasPutBefore holds (groups ++ cut put) snapshot [] (batch ++ more) before after sink h → HasPutBefore holds groups snapshot put (batch ++ more) before after sink h
  before_after holds groups snapshot before after sink h p = record {
    long = p.long;
    held = subst (holds sink) (groups_after groups p.long.place) p.held;
    report = p.report;
  }

  -- what may be left is some first records of all
  pub left_after : (groups left : List (List Record)) → IsLeftByCut (groups ++ cut put) [] (batch ++ more) left → (n : ℕ) × (left ≡ groups ++ cut (put ++ take n (batch ++ more)))
  left_after groups left l = (l.0, l.1 ∙ groups_after groups l.0)
