-- Pieces write one list of lines, with one end.
use Rattle.std.proofs.Common.{◌≡◌, inl, inr, ◌∙◌, ℕ, ℤ, Option, Some, None, List, [], ◌∷◌, ◌++◌, sym, ap}
use Rattle.dbl_pgmsg.specs.declared.messages.Message.{Message}
use Rattle.dbl_model_table.specs.declared.table.TableInfo.{TableInfo}
use Rattle.dbl_model_commit.specs.Stated.{list_of, ended_commit, transaction_fault}
use Rattle.dblog_replay.specs.declared.log_fault.LogFault.{LogFault}
use Rattle.dblog_replay.specs.declared.options.LogOptions.{LogOptions}
use Rattle.dblog_replay.specs.declared.log_fault.LogFault.TheVariants as log
use Rattle.dblog_replay.specs.Captures.{AreCaptured}
use Rattle.dblog_replay.specs.Altered.{table_fault_of}
use Rattle.dblog_replay.specs.Pieces.{Piece, Carries, Stops}
use Rattle.dblog_replay.specs.Log.{lines_in, log_start, HasTables, records_fault, IsLogFault, no_table, no_place, no_records, IsTaken, LogWrites}
use Rattle.dblog_replay.proofs.CaptureLemmas.{infos_one}

some_one : {A : Type 0} (x y : A) → Some x ≡ Some y → x ≡ y
some_one x y same = cc

none_some : {A : Type 0} (o : Option A) (x : A) → o ≡ None → o ≡ Some x → ⊥
none_some o x none some = let both : None ≡ Some x = sym none ∙ some in cc

-- the captured tables are one list
pub tables_one : (options : LogOptions) (ms : List Message) (m : Message) (i j : List TableInfo) → HasTables options ms m i → HasTables options ms m j → i ≡ j
tables_one options ms m i j one two = infos_one i j (one.captured ∙ sym two.captured)

place_same : (options : LogOptions) (ms : List Message) (m : Message) (i j : List TableInfo) → HasTables options ms m i → HasTables options ms m j
    → transaction_fault i log_start m ms ≡ transaction_fault j log_start m ms
place_same options ms m i j one two = ap (λ (infos : List TableInfo). transaction_fault infos log_start m ms) (tables_one options ms m i j one two)

records_same : (options : LogOptions) (ms : List Message) (m : Message) (i j : List TableInfo) → HasTables options ms m i → HasTables options ms m j
    → records_fault options.identity i m ms ≡ records_fault options.identity j m ms
records_same options ms m i j one two = ap (λ (infos : List TableInfo). records_fault options.identity infos m ms) (tables_one options ms m i j one two)

-- the table of a message that has tables has no error
readable_none : (options : LogOptions) (ms : List Message) (number : ℕ) (m : Message) (i before : List TableInfo) (fault : LogFault) → HasTables options ms m i
    → AreCaptured options.keys ms before → table_fault_of options before number m ms ≡ Some fault → ⊥
readable_none options ms number m i before fault tables known told =
    none_some (table_fault_of options before number m ms) fault
    (ap (λ (infos : List TableInfo). table_fault_of options infos number m ms) (infos_one before tables.before (known ∙ sym tables.known)) ∙ tables.readable number) told

-- a message without an error has none
pub taken_has_none : (options : LogOptions) (ms : List Message) (number : ℕ) (m : Message) (i : List TableInfo) (fault : LogFault) → IsTaken options ms m i
    → IsLogFault options ms number m fault → ⊥
taken_has_none options ms number m i fault taken (no_table before known told) =
    readable_none options ms number m i before fault taken.tables known told
taken_has_none options ms number m i fault taken (no_place j error tables told is) =
    none_some (transaction_fault j log_start m ms) error (place_same options ms m j i tables taken.tables ∙ taken.placed) told
taken_has_none options ms number m i fault taken (no_records j tables placed told) =
    none_some (records_fault options.identity j m ms) fault (records_same options ms m j i tables taken.tables ∙ taken.made) told

-- a message has one error
pub log_fault_one : (options : LogOptions) (ms : List Message) (number : ℕ) (m : Message) (f g : LogFault) → IsLogFault options ms number m f
    → IsLogFault options ms number m g → f ≡ g
log_fault_one options ms number m f g (no_table before known told) (no_table before' known' told') =
    some_one f g (sym told ∙ ap (λ (infos : List TableInfo). table_fault_of options infos number m ms) (infos_one before before' (known ∙ sym known')) ∙ told')
log_fault_one options ms number m f g (no_table before known told) (no_place j e tables told' is) = absurd (readable_none options ms number m j before f tables known told)
log_fault_one options ms number m f g (no_table before known told) (no_records j tables placed told') = absurd (readable_none options ms number m j before f tables known told)
log_fault_one options ms number m f g (no_place i d tables told is) (no_table before known told') = absurd (readable_none options ms number m i before g tables known told')
log_fault_one options ms number m f g (no_place i d tables told is) (no_place j e tables' told' is') =
    is ∙ ap (log.Transaction number) (some_one d e (sym told ∙ place_same options ms m i j tables tables' ∙ told')) ∙ sym is'
log_fault_one options ms number m f g (no_place i d tables told is) (no_records j tables' placed told') =
    absurd (none_some (transaction_fault i log_start m ms) d (place_same options ms m i j tables tables' ∙ placed) told)
log_fault_one options ms number m f g (no_records i tables placed told) (no_table before known told') = absurd (readable_none options ms number m i before g tables known told')
log_fault_one options ms number m f g (no_records i tables placed told) (no_place j e tables' told' is) =
    absurd (none_some (transaction_fault j log_start m ms) e (place_same options ms m j i tables' tables ∙ placed) told')
log_fault_one options ms number m f g (no_records i tables placed told) (no_records j tables' placed' told') =
    some_one f g (sym told ∙ records_same options ms m i j tables tables' ∙ told')

pub record SameLog (l k : List (List ℕ)) (d e : Option LogFault) : Type 0 where
  pub lines : l ≡ k
  pub end : d ≡ e

-- what follows a message without an error
pub record Goes (options : LogOptions) (now : ℤ) (ms : List Message) (pieces : List Piece) (m : Message) (i : List TableInfo) (lines : List (List ℕ))
    (end : Option LogFault) : Type 0 where
  pub more : List (List ℕ)
  pub split : lines ≡ lines_in options.identity i (list_of (ended_commit i m ms)) now ++ more
  pub rest : LogWrites options now (m ∷ ms) pieces more end

pub goes : (options : LogOptions) (now : ℤ) (ms : List Message) (number : ℕ) (m : Message) (pieces : List Piece) (i : List TableInfo) (lines : List (List ℕ))
    (end : Option LogFault)
    → IsTaken options ms m i → LogWrites options now ms (Carries number m ∷ pieces) lines end → Goes options now ms pieces m i lines end
goes options now ms number m pieces i lines end taken (inl stopped) = absurd (taken_has_none options ms number m i stopped.fault taken stopped.is)
goes options now ms number m pieces i lines end taken (inr (j, more, taken', split, rest)) = record {
  more = more;
  split =
      split ∙ ap (λ (is : List TableInfo). lines_in options.identity is (list_of (ended_commit is m ms)) now ++ more)
      (tables_one options ms m j i taken'.tables taken.tables);
  rest = rest;
}

pub log_one : (options : LogOptions) (now : ℤ) (ms : List Message) (pieces : List Piece) (l k : List (List ℕ)) (d e : Option LogFault)
    → LogWrites options now ms pieces l d → LogWrites options now ms pieces k e → SameLog l k d e
log_one options now ms [] l k d e one two = record { lines = one.0 ∙ sym two.0; end = one.1 ∙ sym two.1 }
log_one options now ms (Stops f ∷ pieces) l k d e one two = record { lines = one.0 ∙ sym two.0; end = one.1 ∙ sym two.1 }
log_one options now ms (Carries number m ∷ pieces) l k d e (inl one) (inl two) =
    record { lines = one.none ∙ sym two.none; end = one.told ∙ ap Some (log_fault_one options ms number m one.fault two.fault one.is two.is) ∙ sym two.told }
log_one options now ms (Carries number m ∷ pieces) l k d e (inl one) (inr (j, more, taken, split, rest)) =
    absurd (taken_has_none options ms number m j one.fault taken one.is)
log_one options now ms (Carries number m ∷ pieces) l k d e (inr (i, more, taken, split, rest)) two =
    let other = goes options now ms number m pieces i k e taken two in
    let same = log_one options now (m ∷ ms) pieces more other.more d e rest other.rest in
    record { lines = split ∙ ap (λ (x : List (List ℕ)). lines_in options.identity i (list_of (ended_commit i m ms)) now ++ x) same.lines ∙ sym other.split; end = same.end }
