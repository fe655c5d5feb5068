-- The lines of a log are those of all commits that its messages state up to the first fault.
use Rattle.std.proofs.Common.{◌≡◌, inl, inr, ◌∙◌, ℕ, zero, suc, ℤ, ◌+◌, Option, Some, None, IsSome, IsSomeAnd, List, [], ◌∷◌, ◌++◌, map, flat_map, slice_get, refl, sym, ap, ap₂, subst, append_assoc}
use Rattle.std.specs.Prelude.{option_map, unwrap_or}
use Rattle.std.specs.List.{AllByRecursion}
use Rattle.std.proofs.lemmas.List.{append-nil, map-append}
use Rattle.dbl_pgmsg.specs.declared.messages.Message.{Message}
use Rattle.dbl_pgmsg.specs.declared.messages.Message.TheVariants as says
use Rattle.dbl_pgmsg.specs.Grammar.{FitsFields}
use Rattle.dbl_record.specs.declared.record.Record.{Record}
use Rattle.dbl_record.specs.Line.{line_of}
use Rattle.dbl_model_table.specs.declared.identity.Identity.{Identity}
use Rattle.dbl_model_table.specs.declared.table.RawTable.{RawTable}
use Rattle.dbl_model_table.specs.declared.table.TableInfo.{TableInfo}
use Rattle.dbl_model_table.specs.declared.table.TableName.{TableName}
use Rattle.dbl_model_table.specs.declared.change.Change.{Change}
use Rattle.dbl_model_table.specs.declared.change.Change.TheVariants.{Insert, Update, Delete, Clear}
use Rattle.dbl_model_table.specs.declared.change.Commit.{Commit}
use Rattle.dbl_model_table.specs.Infos.{catalogue_of}
use Rattle.dbl_model_table.specs.Rows.{table_of, changes_of}
use Rattle.dbl_model_event.specs.Events.{Notice, notices, change_notices, numbered}
use Rattle.dbl_model_event.specs.EventJson.{print, envelopes}
use Rattle.dbl_model_history.specs.FitsInfos.{FitsInsert, FitsUpdate, FitsDelete, FitsInfos}
use Rattle.dbl_model_commit.specs.StatedFits.{FitCommits}
use Rattle.dbl_model_commit.specs.Past.{HasNoRelation}
use Rattle.dbl_model_commit.specs.Stated.{list_of, ended_commit, commits_of}
use Rattle.dbl_model_commit.specs.Blocks.{onto, AreWithoutFault}
use Rattle.dbl_model_commit.proofs.ChangeFits.{commits_fit}
use Rattle.dbl_model_commit.proofs.Learning.{commits_learnt, fault_learnt}
use Rattle.dblog_replay.specs.declared.log_fault.LogFault.{LogFault}
use Rattle.dblog_replay.specs.declared.options.LogOptions.{LogOptions}
use Rattle.dblog_replay.specs.Captures.{table_told, altered_by, tables_in, AreCaptured}
use Rattle.dblog_replay.specs.Pieces.{Piece, Carries, Stops, CarryMessages, AllFitFields}
use Rattle.dblog_replay.specs.Replay.{HaveNoFault, EndsLog, AreLinesOf, IsReplayed, KeptColumnsStateLines, CommitsAreWritten, ReplaysAreOne, ReplaysExist}
use Rattle.dblog_replay.specs.Log.{lines_in, log_start, IsTaken, LogWrites}
use Rattle.dblog_replay.proofs.CaptureLemmas.{infos_one, told_has_none}
use Rattle.dblog_replay.proofs.ExistLemmas.{log_exists}
use Rattle.dblog_replay.proofs.LogLemmas.{log_one}

-- ---- records of earlier commits stay the same where a table is captured later

get_front : (xs : List TableInfo) (y x : TableInfo) (t : ℕ) → slice_get xs t ≡ Some x → slice_get (xs ++ y ∷ []) t ≡ Some x
get_front [] y x t is = cc
get_front (a ∷ as') y x zero is = is
get_front (a ∷ as') y x (suc t) is = get_front as' y x t is

some_get : (o : Option TableInfo) (P : TableInfo → Type 0) → IsSomeAnd o P → (x : TableInfo) × (o ≡ Some x)
some_get None P is = absurd is
some_get (Some x) P is = (x, refl)

notices_at : (infos : List TableInfo) (info x : TableInfo) (change : Change) → slice_get infos (table_of change) ≡ Some x → notices (infos ++ info ∷ []) change ≡ notices infos change
notices_at infos info x change is =
    ap (λ (o : Option TableInfo). unwrap_or (option_map (λ i. change_notices (table_of change) i change) o) []) (get_front infos info x (table_of change) is ∙ sym is)

cleared_same : (infos : List TableInfo) (info : TableInfo) (table : ℕ) (o : Option TableInfo) → slice_get infos table ≡ o → IsSome o → notices (infos ++ info ∷ []) (Clear table) ≡ notices infos (Clear table)
cleared_same infos info table None is some = cc
cleared_same infos info table (Some x) is some = notices_at infos info x (Clear table) is

notices_same : (infos : List TableInfo) (info : TableInfo) (change : Change) → FitsInfos infos change → notices (infos ++ info ∷ []) change ≡ notices infos change
notices_same infos info (Insert table row) fits = let found = some_get (slice_get infos table) (λ i. FitsInsert i row) fits in notices_at infos info found.0 (Insert table row) found.1
notices_same infos info (Update table key old cells) fits = let found = some_get (slice_get infos table) (λ i. FitsUpdate i key old cells) fits in notices_at infos info found.0 (Update table key old cells) found.1
notices_same infos info (Delete table key old) fits = let found = some_get (slice_get infos table) (λ i. FitsDelete i key old) fits in notices_at infos info found.0 (Delete table key old) found.1
notices_same infos info (Clear table) fits = cleared_same infos info table (slice_get infos table) refl fits

all_notices : (infos : List TableInfo) (info : TableInfo) (changes : List Change) → AllByRecursion (FitsInfos infos) changes → flat_map (notices (infos ++ info ∷ [])) changes ≡ flat_map (notices infos) changes
all_notices infos info [] fit = refl
all_notices infos info (change ∷ changes) fit = ap₂ (λ (a b : List Notice). a ++ b) (notices_same infos info change fit.0) (all_notices infos info changes fit.1)

all_records : (identity : Identity) (infos : List TableInfo) (info : TableInfo) (now : ℤ) (commits : List Commit) → FitCommits infos commits
    → flat_map (λ commit. envelopes identity (infos ++ info ∷ []) commit now) commits ≡ flat_map (λ commit. envelopes identity infos commit now) commits
all_records identity infos info now [] fit = refl
all_records identity infos info now (commit ∷ commits) fit =
    ap₂ (λ (a b : List Record). a ++ b)
    (ap (λ (ns : List Notice). map (print identity commit now) (numbered commit.lsn.0 0 ns)) (all_notices infos info (changes_of commit) fit.0))
    (all_records identity infos info now commits fit.1)

lines_same : (identity : Identity) (infos : List TableInfo) (info : TableInfo) (now : ℤ) (commits : List Commit) → FitCommits infos commits → lines_in identity (infos ++ info ∷ []) commits now ≡ lines_in identity infos commits now
lines_same identity infos info now commits fit = ap (map line_of) (all_records identity infos info now commits fit)

flat_more : (f : Commit → List Record) (xs ys : List Commit) → flat_map f (xs ++ ys) ≡ flat_map f xs ++ flat_map f ys
flat_more f [] ys = refl
flat_more f (x ∷ xs) ys = ap (λ (l : List Record). f x ++ l) (flat_more f xs ys) ∙ sym (append_assoc (f x) (flat_map f xs) (flat_map f ys))

lines_more : (identity : Identity) (infos : List TableInfo) (xs ys : List Commit) (now : ℤ) → lines_in identity infos (xs ++ ys) now ≡ lines_in identity infos xs now ++ lines_in identity infos ys now
lines_more identity infos xs ys now =
    let f : Commit → List Record = λ commit. envelopes identity infos commit now in
    ap (map line_of) (flat_more f xs ys) ∙ map-append line_of (flat_map f xs) (flat_map f ys)

-- ---- messages that were accepted

accepted_learnt : (infos : List TableInfo) (info : TableInfo) (ms : List Message) → HasNoRelation info.name ms → AreWithoutFault infos log_start ms → AreWithoutFault (infos ++ info ∷ []) log_start ms
accepted_learnt infos info [] none accepted = tt
accepted_learnt infos info (m ∷ ms) none accepted =
    (fault_learnt infos info log_start m ms none ∙ accepted.0, accepted_learnt infos info ms (tail_has_none info.name m ms none) accepted.1)
  where
    tail_has_none : (name : TableName) (n : Message) (ns : List Message) → HasNoRelation name (n ∷ ns) → HasNoRelation name ns
    tail_has_none name (says.Begin l t x) ns h = h
    tail_has_none name (says.Commit f l e t) ns h = h
    tail_has_none name (says.Origin l n) ns h = h
    tail_has_none name (says.TypeName o n m') ns h = h
    tail_has_none name (says.Insert oid new) ns h = h
    tail_has_none name (says.Update oid before new) ns h = h
    tail_has_none name (says.Delete oid before) ns h = h
    tail_has_none name (says.Truncate options oids) ns h = h
    tail_has_none name (says.Logical f l p c) ns h = h
    tail_has_none name (says.Relation given namespace tname identity columns) ns h = h.1

-- messages whose tables keep their columns, with what they state so far
record AreStatedSoFar (options : LogOptions) (now : ℤ) (ms : List Message) (infos : List TableInfo) (lines : List (List ℕ)) : Type 0 where
  pub captured : AreCaptured options.keys ms infos
  pub accepted : AreWithoutFault infos log_start ms
  pub fields : AllByRecursion FitsFields ms
  pub commits : lines ≡ lines_in options.identity infos (commits_of infos ms) now

-- the same where one more table is captured
so_far_more : (options : LogOptions) (now : ℤ) (ms : List Message) (infos : List TableInfo) (info : TableInfo) (lines : List (List ℕ))
    → HasNoRelation info.name ms → AreStatedSoFar options now ms infos lines
    → AreWithoutFault (infos ++ info ∷ []) log_start ms × (lines ≡ lines_in options.identity (infos ++ info ∷ []) (commits_of (infos ++ info ∷ []) ms) now)
so_far_more options now ms infos info lines none so_far = (
  accepted_learnt infos info ms none so_far.accepted,
  so_far.commits ∙ sym (lines_same options.identity infos info now (commits_of infos ms) (commits_fit infos ms so_far.fields)) ∙ ap (λ (cs : List Commit). lines_in options.identity (infos ++ info ∷ []) cs now) (sym (commits_learnt infos info ms none)),
)

-- infos of tables and one more
record IsOneMore (xs all : List TableInfo) (raw : RawTable) : Type 0 where
  pub info : TableInfo
  pub all_is : all ≡ xs ++ info ∷ []
  pub is : catalogue_of info ≡ raw

head_is : (a b : RawTable) (as' bs : List RawTable) → a ∷ as' ≡ b ∷ bs → a ≡ b
head_is a b as' bs same = cc

tail_is : (a b : RawTable) (as' bs : List RawTable) → a ∷ as' ≡ b ∷ bs → as' ≡ bs
tail_is a b as' bs same = cc

one_more_is : (xs all : List TableInfo) (raw : RawTable) → map catalogue_of all ≡ map catalogue_of xs ++ raw ∷ [] → IsOneMore xs all raw
one_more_is [] [] raw is = cc
one_more_is [] (y ∷ []) raw is = record { info = y; all_is = refl; is = head_is _ _ _ _ is }
one_more_is [] (y ∷ z ∷ zs) raw is = let no = tail_is _ _ _ _ is in cc
one_more_is (x ∷ xs) [] raw is = cc
one_more_is (x ∷ xs) (y ∷ ys) raw is =
    let rest = one_more_is xs ys raw (tail_is _ _ _ _ is) in
    let first = infos_one (y ∷ []) (x ∷ []) (ap (λ (r : RawTable). r ∷ []) (head_is _ _ _ _ is)) in
    record { info = rest.info; all_is = ap₂ (λ (a b : List TableInfo). a ++ b) first rest.all_is; is = rest.is }

-- where one more message is read, with the tables captured then
so_far_then : (options : LogOptions) (now : ℤ) (ms : List Message) (m : Message) (infos more : List TableInfo) (lines : List (List ℕ)) (told : Option RawTable)
    → table_told options.keys (tables_in options.keys ms) m ≡ told → altered_by m (tables_in options.keys ms) ≡ tables_in options.keys ms → AreCaptured options.keys (m ∷ ms) more
    → AreStatedSoFar options now ms infos lines → AreWithoutFault more log_start ms × (lines ≡ lines_in options.identity more (commits_of more ms) now)
so_far_then options now ms m infos more lines None is kept captured so_far =
    let same = infos_one more infos (captured ∙ ap₂ (λ (t : List RawTable) (o : Option RawTable). t ++ list_of o) kept is ∙ append-nil (tables_in options.keys ms) ∙ sym so_far.captured) in
    subst (λ (i : List TableInfo). AreWithoutFault i log_start ms × (lines ≡ lines_in options.identity i (commits_of i ms) now)) (sym same) (so_far.accepted, so_far.commits)
so_far_then options now ms m infos more lines (Some raw) is kept captured so_far =
    let one = one_more_is infos more raw (captured ∙ ap₂ (λ (t : List RawTable) (o : Option RawTable). t ++ list_of o) kept is ∙ ap (λ (t : List RawTable). t ++ raw ∷ []) (sym so_far.captured)) in
    let none : HasNoRelation one.info.name ms = subst (λ (r : RawTable). HasNoRelation r.name ms) (sym one.is) (told_has_none options.keys ms m raw is) in
    subst (λ (i : List TableInfo). AreWithoutFault i log_start ms × (lines ≡ lines_in options.identity i (commits_of i ms) now)) (sym one.all_is) (so_far_more options now ms infos one.info lines none so_far)

-- messages whose tables keep their columns state their lines
pub kept_state : KeptColumnsStateLines
kept_state options now [] lines fields kept have = record { infos = []; captured = refl; accepted = tt; commits = have.1 }
kept_state options now (m ∷ ms) lines fields kept (((more, taken), clean), (infos, before, captured, below, split)) =
    let past = kept_state options now ms before fields.1 kept.1 (clean, below) in
    let then = so_far_then options now ms m past.infos more before (table_told options.keys (tables_in options.keys ms) m) refl kept.0 taken.tables.captured
    (record { captured = past.captured; accepted = past.accepted; fields = fields.1; commits = past.commits }) in
    let same : infos ≡ more = infos_one infos more (captured ∙ sym taken.tables.captured) in
    record {
      infos = more;
      captured = taken.tables.captured;
      accepted = (taken.placed, then.0);
      commits = split ∙ ap₂ (λ (l : List (List ℕ)) (i : List TableInfo). l ++ lines_in options.identity i (list_of (ended_commit i m ms)) now) then.1 same
          ∙ sym (lines_more options.identity more (commits_of more ms) (list_of (ended_commit more m ms)) now);
    }

-- ---- the lines so far

record IsSoFar (options : LogOptions) (now : ℤ) (ms : List Message) (lines : List (List ℕ)) : Type 0 where
  pub clean : HaveNoFault options ms
  pub commits : AreLinesOf options now ms lines

so_far_next : (options : LogOptions) (now : ℤ) (ms : List Message) (m : Message) (more : List TableInfo) (lines : List (List ℕ))
    → IsTaken options ms m more → IsSoFar options now ms lines
    → IsSoFar options now (m ∷ ms) (lines ++ lines_in options.identity more (list_of (ended_commit more m ms)) now)
so_far_next options now ms m more lines taken so_far =
    record { clean = ((more, taken), so_far.clean); commits = (more, lines, taken.tables.captured, so_far.commits, refl) }

-- messages have one list of lines
lines_one : (options : LogOptions) (now : ℤ) (ms : List Message) (a b : List (List ℕ)) → AreLinesOf options now ms a → AreLinesOf options now ms b → a ≡ b
lines_one options now [] a b one other = one ∙ sym other
lines_one options now (m ∷ ms) a b (i, below, captured, lines, split) (j, below', captured', lines', split') =
    split ∙ ap₂ (λ (l : List (List ℕ)) (x : List TableInfo). l ++ lines_in options.identity x (list_of (ended_commit x m ms)) now) (lines_one options now ms below below' lines lines')
    (infos_one i j (captured ∙ sym captured')) ∙ sym split'

-- what pieces after messages write, with the messages that stand before
record IsWhole (options : LogOptions) (now : ℤ) (ms : List Message) (pieces : List Piece) (lines : List (List ℕ)) (end : Option LogFault) : Type 0 where
  pub messages : List Message
  pub front : List Piece
  pub rest : List Piece
  pub parts : pieces ≡ front ++ rest
  pub carried : CarryMessages front messages
  pub so_far : IsSoFar options now (onto ms messages) lines
  pub ends : EndsLog options (onto ms messages) rest end

-- no message more
whole_ends : (options : LogOptions) (now : ℤ) (ms : List Message) (before : List (List ℕ)) (pieces : List Piece)
    (lines : List (List ℕ)) (end : Option LogFault)
    → IsSoFar options now ms before → lines ≡ [] → EndsLog options ms pieces end
    → IsWhole options now ms pieces (before ++ lines) end
whole_ends options now ms before pieces lines end so_far none ends = record {
  messages = [];
  front = [];
  rest = pieces;
  parts = refl;
  carried = tt;
  so_far = subst (IsSoFar options now ms) (sym (ap (λ (l : List (List ℕ)). before ++ l) none ∙ append-nil before)) so_far;
  ends = ends;
}

whole_from : (options : LogOptions) (now : ℤ) (ms : List Message) (before : List (List ℕ)) (pieces : List Piece)
    (lines : List (List ℕ)) (end : Option LogFault)
    → IsSoFar options now ms before → LogWrites options now ms pieces lines end → IsWhole options now ms pieces (before ++ lines) end
whole_from options now ms before [] lines end so_far writes = whole_ends options now ms before [] lines end so_far writes.0 writes.1
whole_from options now ms before (Stops f ∷ pieces) lines end so_far writes =
    whole_ends options now ms before (Stops f ∷ pieces) lines end so_far writes.0 writes.1
whole_from options now ms before (Carries number m ∷ pieces) lines end so_far (inl stopped) =
    whole_ends options now ms before (Carries number m ∷ pieces) lines end so_far stopped.none (stopped.fault, stopped.is, stopped.told)
whole_from options now ms before (Carries number m ∷ pieces) lines end so_far (inr (more, next, taken, split, writes)) =
    let printed = lines_in options.identity more (list_of (ended_commit more m ms)) now in
    let later = whole_from options now (m ∷ ms) (before ++ printed) pieces next end (so_far_next options now ms m more before taken so_far) writes in
    record {
      messages = m ∷ later.messages;
      front = Carries number m ∷ later.front;
      rest = later.rest;
      parts = ap (λ (l : List Piece). Carries number m ∷ l) later.parts;
      carried = ((number, refl), later.carried);
      so_far = subst (IsSoFar options now (onto (m ∷ ms) later.messages)) (append_assoc before printed next ∙ ap (λ (l : List (List ℕ)). before ++ l) (sym split)) later.so_far;
      ends = later.ends;
    }

pub commits_written : (options : LogOptions) (now : ℤ) (pieces : List Piece) (lines : List (List ℕ)) (end : Option LogFault) → AllFitFields pieces
    → LogWrites options now [] pieces lines end → IsReplayed options now pieces lines end
commits_written options now pieces lines end fit writes =
    let whole = whole_from options now [] [] pieces lines end (record { clean = tt; commits = refl }) writes in
    record {
      messages = whole.messages;
      front = whole.front;
      rest = whole.rest;
      parts = whole.parts;
      carried = whole.carried;
      clean = whole.so_far.clean;
      commits = whole.so_far.commits;
      ends = whole.ends;
    }

-- ---- messages without a fault are written

-- the messages before some that have no fault have none
clean_before : (options : LogOptions) (ms messages : List Message) → HaveNoFault options (onto ms messages) → HaveNoFault options ms
clean_before options ms [] clean = clean
clean_before options ms (m ∷ messages) clean = (clean_before options (m ∷ ms) messages clean).1

-- what messages after others write, and how it ends
record IsWalked (options : LogOptions) (now : ℤ) (ms messages : List Message) (pieces : List Piece) (before : List (List ℕ)) (end : Option LogFault)
    : Type 0 where
  pub lines : List (List ℕ)
  pub writes : LogWrites options now ms pieces lines end
  pub so_far : IsSoFar options now (onto ms messages) (before ++ lines)

walked_end : (options : LogOptions) (now : ℤ) (ms : List Message) (rest : List Piece) (before : List (List ℕ)) (end : Option LogFault)
    → LogWrites options now ms rest [] end → IsSoFar options now ms before
    → IsWalked options now ms [] rest before end
walked_end options now ms rest before end writes so_far =
    record { lines = []; writes = writes; so_far = subst (IsSoFar options now ms) (sym (append-nil before)) so_far }

ends_write : (options : LogOptions) (now : ℤ) (ms : List Message) (rest : List Piece) (end : Option LogFault) → EndsLog options ms rest end
    → LogWrites options now ms rest [] end
ends_write options now ms [] end ends = (refl, ends)
ends_write options now ms (Stops f ∷ rest) end ends = (refl, ends)
ends_write options now ms (Carries number m ∷ rest) end ends = inl (record { fault = ends.0; is = ends.1; none = refl; told = ends.2 })

walked : (options : LogOptions) (now : ℤ) (ms messages : List Message) (front rest : List Piece) (before : List (List ℕ))
    (end : Option LogFault)
    → CarryMessages front messages → HaveNoFault options (onto ms messages)
    → EndsLog options (onto ms messages) rest end → IsSoFar options now ms before
    → IsWalked options now ms messages (front ++ rest) before end
walked options now ms [] [] rest before end carried clean ends so_far =
    walked_end options now ms rest before end (ends_write options now ms rest end ends) so_far
walked options now ms [] (p ∷ front) rest before end carried clean ends so_far = absurd carried
walked options now ms (m ∷ messages) [] rest before end carried clean ends so_far = absurd carried
walked options now ms (m ∷ messages) (p ∷ front) rest before end carried clean ends so_far =
    let here = (clean_before options (m ∷ ms) messages clean).0 in
    let printed = lines_in options.identity here.0 (list_of (ended_commit here.0 m ms)) now in
    let later = walked options now (m ∷ ms) messages front rest (before ++ printed) end carried.1 clean ends
    (so_far_next options now ms m here.0 before here.1 so_far) in
    record {
      lines = printed ++ later.lines;
      writes = subst (λ (x : Piece). LogWrites options now ms (x ∷ (front ++ rest)) (printed ++ later.lines) end) (sym carried.0.1)
          (inr (here.0, later.lines, here.1, refl, later.writes));
      so_far = subst (IsSoFar options now (onto (m ∷ ms) messages)) (append_assoc before printed later.lines) later.so_far;
    }

pub replayed_written : (options : LogOptions) (now : ℤ) (pieces : List Piece) (lines : List (List ℕ)) (end : Option LogFault) → AllFitFields pieces
    → IsReplayed options now pieces lines end → LogWrites options now [] pieces lines end
replayed_written options now pieces lines end fit is =
    let walk = walked options now [] is.messages is.front is.rest [] end is.carried is.clean is.ends (record { clean = tt; commits = refl }) in
    let lines_are = lines_one options now (onto [] is.messages) walk.lines lines walk.so_far.commits is.commits in
    subst (λ (l : List Piece). LogWrites options now [] l lines end) (sym is.parts)
    (subst (λ (l : List (List ℕ)). LogWrites options now [] (is.front ++ is.rest) l end) lines_are walk.writes)

pub commits_are_written : CommitsAreWritten
commits_are_written options now pieces lines end fit = (commits_written options now pieces lines end fit, replayed_written options now pieces lines end fit)

-- ---- one answer, and some answer

pub replayed_once : ReplaysAreOne
replayed_once options now pieces l k d e fit one two =
    let same = log_one options now [] pieces l k d e (replayed_written options now pieces l d fit one) (replayed_written options now pieces k e fit two) in
    (same.lines, same.end)

pub replays_exist : ReplaysExist
replays_exist options now pieces fit =
    let log = log_exists options now [] [] refl pieces in
    (log.0, log.1, commits_written options now pieces log.0 log.1 fit log.2)
