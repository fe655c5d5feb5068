-- What is sent of a log, of one that grows.
use Rattle.std.proofs.Common.{◌≡◌, ◌∙◌, inl, inr, ◌+◌, ◌-◌, ◌<◌, ◌≤◌, ℕ, zero, suc, Bool, true, false, Option, Some, None, List, [], ◌∷◌, ◌++◌, length, take, drop, reverse, refl, sym, ap, subst, arith, append_assoc, length-drop}
use Rattle.std.specs.Prelude.{◌⊎◌, IsTrue, is_some, nat_lt, option_map, unwrap_or, if◌then◌else◌, slice_get}
use Rattle.std.proofs.lemmas.Bool.Decides.{nat_tests}
use Rattle.std.proofs.lemmas.Option.{slice_get_past}
use Rattle.std.proofs.lemmas.List.{reverse-append, take-append-le, take-append-drop, take_all, length-take-le, drop-append-le}
use Rattle.dbl_pgmsg.specs.declared.messages.Message.{Message}
use Rattle.dbl_source_model.specs.ModelCommit.Past.{relation_of}
use Rattle.dbl_source_model.specs.ModelCommit.Stated.{list_of}
use Rattle.dbl_source_log.specs.declared.logged.LogTable.{LogTable}
use Rattle.dbl_source_log.specs.declared.logged.Logged.{Logged}
use Rattle.dbl_source_log.specs.declared.reader_position.ReaderPosition.{ReaderPosition}
use Rattle.dbl_source_log.specs.Numbers.{commits_upto}
use Rattle.dbl_source_log.specs.Relations.{relation_at}
use Rattle.dbl_source_log.specs.Alterations.{tables_after, tables_through}
use Rattle.dbl_source_log.specs.Sent.{is_described, oids_of, messages_in, onto_relation, onto_relations, told_changes, begin_message, commit_message, told_commit, told_from, told_whole, index_of, tables_at, told_part, told_open, told_at, IsPlaceIn}
use Rattle.dbl_source_log.specs.Laws.{ReadMessagesStay, ReadersReadWhatIsSent, SentMessagesStay}
use Rattle.dbl_source_log.proofs.AlterationLemmas.{through_take}

-- a list with others on top, the newest first
pub record IsOnTop (past now : List Message) : Type 0 where
  pub more : List Message
  pub is : now ≡ more ++ past

pub on_top : (past : List Message) → IsOnTop past past
on_top past = record { more = []; is = refl }

pub on_top_one : (m : Message) (past : List Message) → IsOnTop past (m ∷ past)
on_top_one m past = record { more = m ∷ []; is = refl }

pub on_top_twice : (a b c : List Message) → IsOnTop a b → IsOnTop b c → IsOnTop a c
on_top_twice a b c f g = record {
  more = g.more ++ f.more;
  is = g.is ∙ ap (λ (l : List Message). g.more ++ l) f.is ∙ sym (append_assoc g.more f.more a);
}

-- in order, what was read before is a prefix
pub on_top_prefix : (past now : List Message) → IsOnTop past now → (rest : List Message) × (reverse now ≡ reverse past ++ rest)
on_top_prefix past now top = (reverse top.more, ap reverse top.is ∙ reverse-append top.more past)

-- ---- lists

pub take_none : {A : Type 0} (n : ℕ) → take {A = A} n [] ≡ []
take_none zero = refl
take_none (suc n) = refl

pub drop_at : {A : Type 0} (n : ℕ) (xs : List A) → drop n xs ≡ list_of (slice_get xs n) ++ drop (suc n) xs
drop_at zero [] = refl
drop_at zero (x ∷ xs) = refl
drop_at (suc n) [] = refl
drop_at (suc n) (x ∷ xs) = drop_at n xs

pub slice_get-drop : {A : Type 0} (first n : ℕ) (xs : List A) → slice_get (drop first xs) n ≡ slice_get xs (first + n)
slice_get-drop zero n xs = ap (slice_get xs) (omega arith)
slice_get-drop (suc first) n [] = refl
slice_get-drop (suc first) n (x ∷ xs) =
    let more : suc first + n ≡ suc (first + n) = omega arith in
    slice_get-drop first n xs ∙ sym (ap (slice_get (x ∷ xs)) more)

drop_past : {A : Type 0} (n : ℕ) (xs : List A) → length xs ≤ n → drop n xs ≡ []
drop_past zero [] le = refl
drop_past zero (x ∷ xs) le = absurd (omega (arith, le))
drop_past (suc n) [] le = refl
drop_past (suc n) (x ∷ xs) le = drop_past n xs (omega (arith, le))

pub nat_cases : (a b : ℕ) → (a < b) ⊎ (b ≤ a)
nat_cases a b = by (nat_lt a b) refl
  where
    by : (t : Bool) → nat_lt a b ≡ t → (a < b) ⊎ (b ≤ a)
    by true is = inl (grind (arith, nat_tests))
    by false is = inr (grind (arith, nat_tests))

module _ (tables : List LogTable) where
  on_relation : (oid : ℕ) (past : List Message) → IsOnTop past (onto_relation tables oid past)
  on_relation oid past = by (is_described tables oid past)
    where
      by : (b : Bool) → IsOnTop past (if b then past else list_of (relation_at tables oid) ++ past)
      by true = on_top past
      by false = record { more = list_of (relation_at tables oid); is = refl }

  pub on_relations : (oids : List ℕ) (past : List Message) → IsOnTop past (onto_relations tables oids past)
  on_relations [] past = on_top past
  on_relations (oid ∷ oids) past = on_top_twice past (onto_relation tables oid past) (onto_relations tables oids (onto_relation tables oid past)) (on_relation oid past) (on_relations oids (onto_relation tables oid past))

  pub on_change : (m : Message) (past : List Message) → IsOnTop past (m ∷ onto_relations tables (oids_of m) past)
  on_change m past =
      let subsequent : List Message = onto_relations tables (oids_of m) past in
      on_top_twice past subsequent (m ∷ subsequent) (on_relations (oids_of m) past) (on_top_one m subsequent)

  pub on_changes : (ms past : List Message) → IsOnTop past (told_changes tables ms past)
  on_changes [] past = on_top past
  on_changes (m ∷ ms) past =
      let now : List Message = m ∷ onto_relations tables (oids_of m) past in
      on_top_twice past now (told_changes tables ms now) (on_change m past) (on_changes ms now)

  pub on_commit : (n : ℕ) (entry : Logged) (past : List Message) → IsOnTop past (told_commit tables n entry past)
  on_commit n entry past =
      let begun : List Message = begin_message n ∷ past in
      let changed : List Message = told_changes tables (messages_in entry) begun in
      on_top_twice past begun (commit_message n ∷ changed) (on_top_one (begin_message n) past)
      (on_top_twice begun changed (commit_message n ∷ changed) (on_changes (messages_in entry) begun) (on_top_one (commit_message n) changed))

  -- ---- one after the other

  pub onto_relations-append : (xs ys : List ℕ) (past : List Message) → onto_relations tables (xs ++ ys) past ≡ onto_relations tables ys (onto_relations tables xs past)
  onto_relations-append [] ys past = refl
  onto_relations-append (x ∷ xs) ys past = onto_relations-append xs ys (onto_relation tables x past)

  pub told_changes-append : (xs ys past : List Message) → told_changes tables (xs ++ ys) past ≡ told_changes tables ys (told_changes tables xs past)
  told_changes-append [] ys past = refl
  told_changes-append (x ∷ xs) ys past = told_changes-append xs ys (x ∷ onto_relations tables (oids_of x) past)

-- ---- commits, one after the other

pub on_log : (tables : List LogTable) (n : ℕ) (log : List Logged) (past : List Message) → IsOnTop past (told_from tables n log past)
on_log tables n [] past = on_top past
on_log tables n (entry ∷ log) past =
    let now : List Message = told_commit tables n entry past in
    on_top_twice past now (told_from (tables_after entry tables) (n + 1) log now) (on_commit tables n entry past) (on_log (tables_after entry tables) (n + 1) log now)

pub told_from-append : (tables : List LogTable) (n : ℕ) (log more : List Logged) (past : List Message) → told_from tables n (log ++ more) past ≡ told_from (tables_through log tables) (n + length log) more (told_from tables n log past)
told_from-append tables n [] more past =
    let same : n ≡ n + length {A = Logged} [] = omega arith in
    ap (λ (k : ℕ). told_from tables k more past) same
told_from-append tables n (entry ∷ log) more past =
    let same : (n + 1) + length log ≡ n + length (entry ∷ log) = omega arith in
    let next : List LogTable = tables_after entry tables in
    told_from-append next (n + 1) log more (told_commit tables n entry past)
    ∙ ap (λ (k : ℕ). told_from (tables_through log next) k more (told_from next (n + 1) log (told_commit tables n entry past))) same

-- ---- growth

-- an entry that is there stays there
pub there_more : (log more : List Logged) (i : ℕ) → i < length log → slice_get (log ++ more) i ≡ slice_get log i
there_more [] more i lt = absurd (omega arith)
there_more (entry ∷ log) more zero lt = refl
there_more (entry ∷ log) more (suc i) lt = there_more log more i (omega arith)

-- as many entries after a place as there are, of a log that grew
pub after_more : (first n : ℕ) (log more : List Logged) → n ≤ length log - first → take n (drop first (log ++ more)) ≡ take n (drop first log)
after_more zero n log more le = take-append-le n log more (omega (arith, le))
after_more (suc first) zero [] more le = refl
after_more (suc first) (suc n) [] more le = absurd (omega arith)
after_more (suc first) n (entry ∷ log) more le = after_more first n log more (omega arith)

-- where the commit isn't begun its tables don't count
pub not_begun : (tables : List LogTable) (place : ReaderPosition) (o : Option Logged) (past : List Message) → place.begun ≡ false → told_open tables place o past ≡ past
not_begun tables place None past is = refl
not_begun tables place (Some entry) past is = ap (λ (b : Bool). if b then told_part tables place entry past else past) is

module _ (tables : List LogTable) (log more : List Logged) where
  whole_stays : (first n : ℕ) → n ≤ length log - first → told_from (tables_through (take first (log ++ more)) tables) (first + 1) (take n (drop first (log ++ more))) []
      ≡ told_from (tables_through (take first log) tables) (first + 1) (take n (drop first log)) []
  whole_stays first n few = elim (nat_cases (length log) first) [
    | inl past_end ↦
        let none : n ≡ 0 = omega (arith, few, past_end) in
        ap (λ (k : ℕ). told_from (tables_through (take first (log ++ more)) tables) (first + 1) (take k (drop first (log ++ more))) []) none
        ∙ sym (ap (λ (k : ℕ). told_from (tables_through (take first log) tables) (first + 1) (take k (drop first log)) []) none)
    | inr within ↦
        ap (λ (l : List Logged). told_from (tables_through l tables) (first + 1) (take n (drop first (log ++ more))) []) (take-append-le first log more within)
        ∙ ap (λ (l : List Logged). told_from (tables_through (take first log) tables) (first + 1) l []) (after_more first n log more few)
  ]

  open_stays : (place : ReaderPosition) (b : Bool) (past : List Message) → place.begun ≡ b → (IsTrue b → index_of place < length log)
      → told_open (tables_at tables (log ++ more) place) place (slice_get (log ++ more) (index_of place)) past ≡ told_open (tables_at tables log place) place (slice_get log (index_of place)) past
  open_stays place true past is there =
      ap (λ (o : Option Logged). told_open (tables_at tables (log ++ more) place) place o past) (there_more log more (index_of place) (there refl))
      ∙ ap (λ (l : List Logged). told_open (tables_through l tables) place (slice_get log (index_of place)) past) (take-append-le (index_of place) log more (omega (arith, there refl)))
  open_stays place false past is there =
      not_begun (tables_at tables (log ++ more) place) place (slice_get (log ++ more) (index_of place)) past is
      ∙ sym (not_begun (tables_at tables log place) place (slice_get log (index_of place)) past is)

  pub told_at-grown : (place : ReaderPosition) → IsPlaceIn log place → told_at tables (log ++ more) place ≡ told_at tables log place
  told_at-grown place placed =
      ap (told_open (tables_at tables (log ++ more) place) place (slice_get (log ++ more) (index_of place))) (whole_stays (commits_upto place.after) place.commits placed.few)
      ∙ open_stays place place.begun (told_whole tables place.after place.commits log) refl placed.there

module _ (tables : List LogTable) where
  -- ---- prefixes

  -- so many Relations of the next change are told before that change is
  next_before : (t : ℕ) (o : Option Message) (rest past : List Message) → IsOnTop (onto_relations tables (take t (unwrap_or (option_map oids_of o) [])) past) (told_changes tables (list_of o ++ rest) past)
  next_before t None rest past = subst (λ (l : List ℕ). IsOnTop (onto_relations tables l past) (told_changes tables rest past)) (sym (take_none t)) (on_changes tables rest past)
  next_before t (Some m) rest past =
      let some : List Message = onto_relations tables (take t (oids_of m)) past in
      let all : List Message = onto_relations tables (oids_of m) past in
      let all_is : all ≡ onto_relations tables (drop t (oids_of m)) some =
      ap (λ (l : List ℕ). onto_relations tables l past) (sym (take-append-drop t (oids_of m))) ∙ onto_relations-append tables (take t (oids_of m)) (drop t (oids_of m)) past in
      on_top_twice some all (told_changes tables rest (m ∷ all)) (subst (IsOnTop some) (sym all_is) (on_relations tables (drop t (oids_of m)) some))
      (on_top_twice all (m ∷ all) (told_changes tables rest (m ∷ all)) (on_top_one m all) (on_changes tables rest (m ∷ all)))

  -- so many messages of a commit that is open are told before all of it is
  pub part_before : (place : ReaderPosition) (entry : Logged) (past : List Message) → IsOnTop (told_part tables place entry past) (told_commit tables (index_of place + 1) entry past)
  part_before place entry past =
      let c : ℕ = place.change in
      let ms : List Message = messages_in entry in
      let begun : List Message = begin_message (index_of place + 1) ∷ past in
      let some : List Message = told_changes tables (take c ms) begun in
      let all : List Message = told_changes tables ms begun in
      let all_is : all ≡ told_changes tables (list_of (slice_get ms c) ++ drop (suc c) ms) some =
      ap (λ (l : List Message). told_changes tables l begun) (sym (take-append-drop c ms))
      ∙ told_changes-append tables (take c ms) (drop c ms) begun
      ∙ ap (λ (l : List Message). told_changes tables l some) (drop_at c ms) in
      on_top_twice (told_part tables place entry past) all (commit_message (index_of place + 1) ∷ all)
      (subst (IsOnTop (told_part tables place entry past)) (sym all_is) (next_before place.table (slice_get ms c) (drop (suc c) ms) some))
      (on_top_one (commit_message (index_of place + 1)) all)

  -- what is left of a log after the whole commits that were read
  left_since : (place : ReaderPosition) (o : Option Logged) (rest : List Logged) (past : List Message) → IsOnTop (told_open tables place o past) (told_from tables (index_of place + 1) (list_of o ++ rest) past)
  left_since place None rest past = on_log tables (index_of place + 1) rest past
  left_since place (Some entry) rest past =
      let whole : List Message = told_commit tables (index_of place + 1) entry past in
      on_top_twice (if place.begun then told_part tables place entry past else past) whole (told_from (tables_after entry tables) ((index_of place + 1) + 1) rest whole)
      (by place.begun) (on_log (tables_after entry tables) ((index_of place + 1) + 1) rest whole)
    where
      by : (b : Bool) → IsOnTop (if b then told_part tables place entry past else past) (told_commit tables (index_of place + 1) entry past)
      by true = part_before place entry past
      by false = on_commit tables (index_of place + 1) entry past

  -- at the end of the log nothing is left
  pub none_left : (place : ReaderPosition) (log : List Logged) (past : List Message) → length (drop (commits_upto place.after) log) ≤ place.commits
      → told_open tables place (slice_get log (index_of place)) past ≡ past
  none_left place log past le =
      ap (λ (o : Option Logged). told_open tables place o past)
      (slice_get_past log (index_of place) (omega (arith, le, length-drop (commits_upto place.after) log)))

module _ (tables : List LogTable) where
  pub at_front : (log : List Logged) (place : ReaderPosition) → IsOnTop (told_at tables log place) (told_from (tables_through (take (commits_upto place.after) log) tables) (commits_upto place.after + 1) (drop (commits_upto place.after) log) [])
  at_front log place = elim (nat_cases place.commits (length subsequent)) [
    | inl within ↦ subst (IsOnTop (told_at tables log place)) (sym (all_is (omega (arith, within)))) (subst (λ (o : Option Logged). IsOnTop (told_open here place o whole) (told_from here (index_of place + 1) (list_of (slice_get subsequent place.commits) ++ drop (suc place.commits) subsequent) whole)) (slice_get-drop first place.commits log) (left_since here place (slice_get subsequent place.commits) (drop (suc place.commits) subsequent) whole))
    | inr past_end ↦ subst (λ (l : List Message). IsOnTop l (told_from start (first + 1) subsequent [])) (sym (none_left here place log whole past_end)) (subst (λ (l : List Logged). IsOnTop whole (told_from start (first + 1) l [])) (take_all place.commits subsequent past_end) (on_top whole))
  ]
    where
      first : ℕ
      first = commits_upto place.after

      subsequent : List Logged
      subsequent = drop first log

      start : List LogTable
      start = tables_through (take first log) tables

      here : List LogTable
      here = tables_at tables log place

      whole : List Message
      whole = told_whole tables place.after place.commits log

      all_is : place.commits ≤ length subsequent → told_from start (first + 1) subsequent [] ≡ told_from here (index_of place + 1) (list_of (slice_get subsequent place.commits) ++ drop (suc place.commits) subsequent) whole
      all_is le =
          let number : first + 1 + length (take place.commits subsequent) ≡ index_of place + 1 = omega (arith, length-take-le place.commits subsequent le) in
          ap (λ (l : List Logged). told_from start (first + 1) l []) (sym (take-append-drop place.commits subsequent))
          ∙ told_from-append start (first + 1) (take place.commits subsequent) (drop place.commits subsequent) []
          ∙ ap (λ (n : ℕ). told_from (tables_through (take place.commits subsequent) start) n (drop place.commits subsequent) whole) number
          ∙ ap (λ (ts : List LogTable). told_from ts (index_of place + 1) (drop place.commits subsequent) whole) (through_take first place.commits log tables)
          ∙ ap (λ (l : List Logged). told_from here (index_of place + 1) l whole) (drop_at place.commits subsequent)

  -- a log that reaches the start is sent on
  pub sent_on : (first : ℕ) (log more : List Logged) → IsOnTop (told_from (tables_through (take first log) tables) (first + 1) (drop first log) []) (told_from (tables_through (take first (log ++ more)) tables) (first + 1) (drop first (log ++ more)) [])
  sent_on first log more = elim (nat_cases first (length log)) [
    | inl within ↦
        let start : List LogTable = tables_through (take first log) tables in
        let sent : List Message = told_from start (first + 1) (drop first log) [] in
        let all : told_from (tables_through (take first (log ++ more)) tables) (first + 1) (drop first (log ++ more)) [] ≡ told_from (tables_through (drop first log) start) (first + 1 + length (drop first log)) more sent =
        ap (λ (l : List Logged). told_from (tables_through l tables) (first + 1) (drop first (log ++ more)) []) (take-append-le first log more (omega (arith, within)))
        ∙ ap (λ (l : List Logged). told_from start (first + 1) l []) (drop-append-le first log more (omega (arith, within)))
        ∙ told_from-append start (first + 1) (drop first log) more [] in
        subst (IsOnTop sent) (sym all) (on_log (tables_through (drop first log) start) (first + 1 + length (drop first log)) more sent)
    | inr past_end ↦ subst (λ (l : List Logged). IsOnTop (told_from (tables_through (take first log) tables) (first + 1) l []) (told_from (tables_through (take first (log ++ more)) tables) (first + 1) (drop first (log ++ more)) [])) (sym (drop_past first log past_end)) (on_log (tables_through (take first (log ++ more)) tables) (first + 1) (drop first (log ++ more)) [])
  ]

pub stays : ReadMessagesStay
stays tables log more place placed = told_at-grown tables log more place placed

pub sent_stays : SentMessagesStay
sent_stays tables after log more =
    let first : ℕ = commits_upto after in
    on_top_prefix (told_from (tables_through (take first log) tables) (first + 1) (drop first log) []) (told_from (tables_through (take first (log ++ more)) tables) (first + 1) (drop first (log ++ more)) []) (sent_on tables first log more)

pub reads_what_is_sent : ReadersReadWhatIsSent
reads_what_is_sent tables log place =
    let first : ℕ = commits_upto place.after in
    on_top_prefix (told_at tables log place) (told_from (tables_through (take first log) tables) (first + 1) (drop first log) []) (at_front tables log place)
