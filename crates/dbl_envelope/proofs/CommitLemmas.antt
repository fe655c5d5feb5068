-- The records of a commit, change by change.
use Rattle.std.proofs.Common.{◌≡◌, ◌∙◌, ◌+◌, ◌==◌, ◌<◌, ◌≤◌, ℕ, ℤ, zero, suc, Bool, true, false, List, [], ◌∷◌, ◌++◌, length, drop, map, flat_map, slice_get, Option, Some, None, refl, sym, ap, ap₂, subst, arith, append_assoc, codes}
use Rattle.std.specs.List.{AllByRecursion, All}
use Rattle.std.specs.Prelude.{IsSomeAnd, option_map, unwrap_or, if◌then◌else◌}
use Rattle.std.proofs.lemmas.Grind.{common_steps}
use Rattle.std.proofs.lemmas.List.{append-nil, drop_all, length-map}
use Rattle.dbl_record.specs.declared.record.Record.{Record}
use Rattle.dbl_model_table.specs.declared.table.TableInfo.{TableInfo}
use Rattle.dbl_model_table.specs.declared.change.Change.{Change}
use Rattle.dbl_model_table.specs.declared.change.Change.TheVariants.{Insert, Update, Delete, Clear}
use Rattle.dbl_model_table.specs.declared.change.Commit.{Commit}
use Rattle.dbl_model_table.specs.Keys.{new_key_of, same_key, given_or_null}
use Rattle.dbl_model_event.specs.Events.{Notice, Updated, notice, move_notices, notices, change_notices, numbered, is_nil}
use Rattle.dbl_model_event.specs.EventJson.{print, envelopes}
use Rattle.dbl_model_table.specs.Rows.{changes_of, table_of}
use Rattle.dbl_envelope_json.specs.Frames.{events_from, print_as, told, tail_text}
use Rattle.dbl_envelope_json.specs.declared.frame.Frame.{Frame}
use Rattle.dbl_model_table.specs.declared.identity.Identity.{Identity}
use Rattle.dbl_envelope.specs.Suits.{SuitsTable, Suits}
use Rattle.dbl_envelope.specs.Writers.{Captured, records_from, change_records, tail_at}
use Rattle.dbl_envelope_json.specs.Layouts.{layout_of}
use Rattle.dbl_envelope_json.specs.declared.layout.Layout.{Layout}
use Rattle.dbl_envelope_json.specs.declared.stamp.Stamp.{Stamp}

pub all_by : {A : Type 0} (P : A → Type 0) (xs : List A) → All P xs → AllByRecursion P xs
all_by P [] h = tt
all_by P (x ∷ xs) h = (h 0 x (omega arith), all_by P xs (λ k d below. h (suc k) d (omega arith)))

map_append : {A B : Type 0} (f : A → B) (xs ys : List A) → map f (xs ++ ys) ≡ map f xs ++ map f ys
map_append f [] ys = refl
map_append f (x ∷ xs) ys = ap (λ l. f x ∷ l) (map_append f xs ys)

-- numbered events in two parts
numbered_append : (p o : ℕ) (ns ms : List Notice) → numbered p o (ns ++ ms) ≡ events_from p o (is_nil ms) ns ++ numbered p (o + length ns) ms
numbered_append p o [] ms = ap (λ k. numbered p k ms) (omega arith)
numbered_append p o (n ∷ []) ms = refl
numbered_append p o (n ∷ m ∷ ns) ms =
    let more : (o + 1) + length (m ∷ ns) ≡ o + length (n ∷ m ∷ ns) = omega arith in
    ap (λ es. record { notice = n; position = p; ordinal = o; last = false } ∷ es)
    (numbered_append p (o + 1) (m ∷ ns) ms ∙ ap (λ k. events_from p (o + 1) (is_nil ms) (m ∷ ns) ++ numbered p k ms) more)

length_events : (p o : ℕ) (last : Bool) (ns : List Notice) → length (events_from p o last ns) ≡ length ns
length_events p o last [] = refl
length_events p o last (n ∷ []) = refl
length_events p o last (n ∷ m ∷ ns) = ap suc (length_events p (o + 1) last (m ∷ ns))

-- a change tells one thing at least, and three at most
module _ (t : ℕ) (info : TableInfo) where
  told_some : (c : Change) (more : List Notice) → is_nil (change_notices t info c ++ more) ≡ false
  told_some (Insert u row) more = refl
  told_some (Update u key old cells) more = choice (same_key key (new_key_of info cells))
    where
      choice : (b : Bool) → is_nil ((if b then notice t info (Some key) (Updated old cells) ∷ [] else move_notices t info key (new_key_of info cells) old (record { cells = map given_or_null cells })) ++ more) ≡ false
      choice true = refl
      choice false = refl
  told_some (Delete u key old) more = refl
  told_some (Clear u) more = refl

  told_count : (c : Change) → (length (change_notices t info c) ≤ 3) × (1 ≤ length (change_notices t info c))
  told_count (Insert u row) = (omega arith, omega arith)
  told_count (Update u key old cells) = choice (same_key key (new_key_of info cells))
    where
      choice : (b : Bool) → (length (if b then notice t info (Some key) (Updated old cells) ∷ [] else move_notices t info key (new_key_of info cells) old (record { cells = map given_or_null cells })) ≤ 3)
          × (1 ≤ length (if b then notice t info (Some key) (Updated old cells) ∷ [] else move_notices t info key (new_key_of info cells) old (record { cells = map given_or_null cells })))
      choice true = (omega arith, omega arith)
      choice false = (omega arith, omega arith)
  told_count (Delete u key old) = (omega arith, omega arith)
  told_count (Clear u) = (omega arith, omega arith)

notices_some : (infos : List TableInfo) (c : Change) (more : List Notice) → Suits infos c → is_nil (notices infos c ++ more) ≡ false
notices_some infos c more h = step (slice_get infos (table_of c)) h
  where
    step : (o : Option TableInfo) → IsSomeAnd o (λ info. SuitsTable info c) → is_nil (unwrap_or (option_map (λ info. change_notices (table_of c) info c) o) [] ++ more) ≡ false
    step None h = absurd h
    step (Some info) h = told_some (table_of c) info c more

pub notices_count : (infos : List TableInfo) (c : Change) → Suits infos c → (length (notices infos c) ≤ 3) × (1 ≤ length (notices infos c))
notices_count infos c h = step (slice_get infos (table_of c)) h
  where
    step : (o : Option TableInfo) → IsSomeAnd o (λ info. SuitsTable info c) → (length (unwrap_or (option_map (λ info. change_notices (table_of c) info c) o) []) ≤ 3) × (1 ≤ length (unwrap_or (option_map (λ info. change_notices (table_of c) info c) o) []))
    step None h = absurd h
    step (Some info) h = told_count (table_of c) info c

nil_notices : (infos : List TableInfo) (cs : List Change) → AllByRecursion (Suits infos) cs → is_nil (flat_map (notices infos) cs) ≡ is_nil cs
nil_notices infos [] h = refl
nil_notices infos (c ∷ cs) h = notices_some infos c (flat_map (notices infos) cs) h.0

nil_drop : {A : Type 0} (xs : List A) (k : ℕ) → k ≤ length xs → is_nil (drop k xs) ≡ (k == length xs)
nil_drop [] zero h = refl
nil_drop [] (suc k) h = absurd (omega arith)
nil_drop (x ∷ xs) zero h = grind (arith, common_steps)
nil_drop (x ∷ xs) (suc k) h = nil_drop xs k (omega arith) ∙ same k (length xs)
  where
    same : (k n : ℕ) → (k == n) ≡ (suc k == suc n)
    same k n = grind (arith, common_steps)

all_drop : {A : Type 0} (P : A → Type 0) (xs : List A) (k : ℕ) → AllByRecursion P xs → AllByRecursion P (drop k xs)
all_drop P [] zero h = tt
all_drop P [] (suc k) h = tt
all_drop P (x ∷ xs) zero h = h
all_drop P (x ∷ xs) (suc k) h = all_drop P xs k h.1

pub change_count : (captured : Captured) (commit : Commit) (now : ℤ) (stamp : Stamp) (c : Change) → Suits captured.infos c
    → (length (change_records captured commit now stamp c) ≤ 3) × (1 ≤ length (change_records captured commit now stamp c))
unfolding change_records
change_count captured commit now stamp c suits =
    let ns = notices captured.infos c in
    let events = events_from commit.lsn.0 stamp.ordinal stamp.last ns in
    let long : length (map (print captured.identity commit now) events) ≡ length ns = length-map events (print captured.identity commit now) ∙ length_events commit.lsn.0 stamp.ordinal stamp.last ns in
    let count = notices_count captured.infos c suits in
    (omega (arith, long, count.0), omega (arith, long, count.1))

-- one more change's records
pub change_step : (captured : Captured) (commit : Commit) (now : ℤ) (i o : ℕ) (c : Change) (stamp : Stamp) (made more all : List Record)
    → AllByRecursion (Suits captured.infos) (changes_of commit) → i < length (changes_of commit) → drop i (changes_of commit) ≡ c ∷ drop (i + 1) (changes_of commit)
    → stamp.ordinal ≡ o → stamp.last ≡ (i + 1 == length (changes_of commit))
    → made ++ records_from captured commit now i o ≡ all
    → more ≡ made ++ change_records captured commit now stamp c
    → more ++ records_from captured commit now (i + 1) (o + length (change_records captured commit now stamp c)) ≡ all
unfolding records_from change_records
change_step captured commit now i o c stamp made more all suits within here number last before pushed =
    let infos = captured.infos in
    let changes = changes_of commit in
    let P = print captured.identity commit now in
    let ns = notices infos c in
    let rest = flat_map (notices infos) (drop (i + 1) changes) in
    let opened : flat_map (notices infos) (drop i changes) ≡ ns ++ rest = ap (flat_map (notices infos)) here in
    let is_last : stamp.last ≡ is_nil rest = last ∙ sym (nil_drop changes (i + 1) (omega arith)) ∙ sym (nil_notices infos (drop (i + 1) changes) (all_drop (Suits infos) changes (i + 1) suits)) in
    let events = events_from commit.lsn.0 stamp.ordinal stamp.last ns in
    let split : map P (numbered commit.lsn.0 o (flat_map (notices infos) (drop i changes))) ≡ map P events ++ map P (numbered commit.lsn.0 (o + length ns) rest) =
    ap (λ l. map P (numbered commit.lsn.0 o l)) opened
    ∙ ap (map P) (numbered_append commit.lsn.0 o ns rest)
    ∙ map_append P (events_from commit.lsn.0 o (is_nil rest) ns) (numbered commit.lsn.0 (o + length ns) rest)
    ∙ ap₂ (λ k l. map P (events_from commit.lsn.0 k l ns) ++ map P (numbered commit.lsn.0 (o + length ns) rest)) (sym number) (sym is_last) in
    let count : length (map P events) ≡ length ns = length-map events P ∙ length_events commit.lsn.0 stamp.ordinal stamp.last ns in
    ap₂ (λ (m : List Record) (k : ℕ). m ++ map P (numbered commit.lsn.0 (o + k) rest)) pushed count
    ∙ append_assoc made (map P events) (map P (numbered commit.lsn.0 (o + length ns) rest))
    ∙ ap (λ (x : List Record). made ++ x) (sym split)
    ∙ before

-- nothing is left after the last change
pub nothing_left : (captured : Captured) (commit : Commit) (now : ℤ) (i o : ℕ) → i ≡ length (changes_of commit) → records_from captured commit now i o ≡ []
unfolding records_from
nothing_left captured commit now i o end =
    ap (λ cs. map (print captured.identity commit now) (numbered commit.lsn.0 o (flat_map (notices captured.infos) cs))) (drop_all i (changes_of commit) (omega arith))

-- all are left before the first
pub all_left : (captured : Captured) (commit : Commit) (now : ℤ) → records_from captured commit now 0 0 ≡ envelopes captured.identity captured.infos commit now
unfolding records_from
all_left captured commit now = refl

-- all are made once no more are
pub all_made : (made more left all : List Record) → length more ≡ 0 → (more ≡ [] → left ≡ []) → made ++ left ≡ all → made ≡ all
all_made made [] left all none end so_far = sym (append-nil made) ∙ ap (λ (l : List Record). made ++ l) (sym (end refl)) ∙ so_far
all_made made (r ∷ more) left all none end so_far = absurd (omega arith)

-- ---- one change's table

pub suits_place : (infos : List TableInfo) (c : Change) → Suits infos c → table_of c < length infos
suits_place infos c h = step infos (table_of c) h
  where
    step : (infos : List TableInfo) (t : ℕ) → IsSomeAnd (slice_get infos t) (λ info. SuitsTable info c) → t < length infos
    step [] t h = absurd h
    step (info ∷ infos) zero h = omega arith
    step (info ∷ infos) (suc t) h = omega (arith, step infos t h)

pub suits_at : (infos : List TableInfo) (c : Change) (info : TableInfo) → slice_get infos (table_of c) ≡ Some info → Suits infos c → SuitsTable info c
suits_at infos c info is h = subst (λ o. IsSomeAnd o (λ info. SuitsTable info c)) is h

-- what a frame of the change's table tells is what the change tells
pub told_is : (captured : Captured) (commit : Commit) (now : ℤ) (frame : Frame) (stamp : Stamp) (c : Change) → frame.identity.now ≡ captured.identity → frame.commit.now ≡ commit → frame.now_ms.now ≡ now
    → frame.snapshot.now ≡ codes "false" → slice_get captured.infos (table_of c) ≡ Some frame.info.now → told frame stamp c ≡ change_records captured commit now stamp c
unfolding change_records
told_is captured commit now frame stamp c identity_is commit_is now_is snapshot_is info_is =
    let ns = change_notices (table_of c) frame.info.now c in
    let g = λ (s : List ℕ) (i : Identity) (cm : Commit) (m : ℤ). map (print_as s i cm m) (events_from cm.lsn.0 stamp.ordinal stamp.last ns) in
    ap (λ s. g s frame.identity.now frame.commit.now frame.now_ms.now) snapshot_is
    ∙ ap (λ i. g (codes "false") i frame.commit.now frame.now_ms.now) identity_is
    ∙ ap (λ cm. g (codes "false") captured.identity cm frame.now_ms.now) commit_is
    ∙ ap (λ m. g (codes "false") captured.identity commit m) now_is
    ∙ ap (λ o. map (print captured.identity commit now) (events_from commit.lsn.0 stamp.ordinal stamp.last (unwrap_or (option_map (λ info. change_notices (table_of c) info c) o) []))) (sym info_is)

-- the layout and the tail of a table at its place
pub laid : (captured : Captured) (t : ℕ) (info : TableInfo) (layout : Layout) → slice_get captured.infos t ≡ Some info → option_map (layout_of captured.identity) (slice_get captured.infos t) ≡ Some layout → layout ≡ layout_of captured.identity info
laid captured t info layout is at =
    let same : Some layout ≡ Some (layout_of captured.identity info) = sym at ∙ ap (option_map (layout_of captured.identity)) is in
    cc

pub tailed : (captured : Captured) (commit : Commit) (now : ℤ) (t : ℕ) (info : TableInfo) (tail : List ℕ) → slice_get captured.infos t ≡ Some info → tail ≡ tail_at captured commit now t → tail ≡ tail_text captured.identity info.name commit (codes "false") now
tailed captured commit now t info tail is at = at ∙ ap (λ o. unwrap_or (option_map (λ info. tail_text captured.identity info.name commit (codes "false") now) o) []) is
