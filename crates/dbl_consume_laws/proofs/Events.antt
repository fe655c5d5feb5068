-- Which change an event is of, and what is so of the records of one change.
use Rattle.std.proofs.Common.{◌≡◌, ◌∙◌, inl, inr, ◌+◌, ◌-◌, ◌≤◌, ◌<◌, ℕ, zero, suc, ℤ, List, [], ◌∷◌, ◌++◌, Bool, true, false, cond, Option, Some, None, length, take, map, flat_map, refl, sym, ap, subst, arith, length-append}
use Rattle.std.specs.Prelude.{option_map, unwrap_or, slice_get}
use Rattle.std.specs.List.{AllByRecursion}
use Rattle.std.proofs.lemmas.Bool.{cases_lt}
use Rattle.dbl_record.specs.Places.{Place, place_of}
use Rattle.dbl_model_table.specs.declared.identity.Identity.{Identity}
use Rattle.dbl_model_table.specs.declared.row.Key.{Key}
use Rattle.dbl_model_table.specs.declared.row.Row.{Row}
use Rattle.dbl_model_table.specs.declared.table.TableInfo.{TableInfo}
use Rattle.dbl_model_table.specs.declared.change.Cell.{Cell}
use Rattle.dbl_model_table.specs.declared.change.Change.{Change}
use Rattle.dbl_model_table.specs.declared.change.Change.TheVariants.{Insert, Update, Delete, Clear}
use Rattle.dbl_model_table.specs.declared.change.Commit.{Commit}
use Rattle.dbl_model_table.specs.Keys.{new_key_of, given_or_null, same_key}
use Rattle.dbl_model_table.specs.Rows.{Rows, effect_of, table_of}
use Rattle.dbl_model_history.specs.Fit.{IsFitInsert, IsFitUpdate, IsFitDelete, IsFit}
use Rattle.dbl_model_history.specs.Image.{Names}
use Rattle.dbl_model_event.specs.Events.{Updated, Notice, Event, move_notices, change_notices, notices, numbered}
use Rattle.dbl_model_event.specs.EventJson.{print}
use Rattle.dbl_model_history.proofs.RowKeys.{some_and, is_some_value}
use Rattle.dbl_consume_laws.specs.Cells.{notice_op}
use Rattle.dbl_consume_laws.proofs.Prints.{table_topics_tell_none}
use Rattle.dbl_consume_laws.proofs.Lists.{slice_get-front, slice_get-subsequent}
use Rattle.dbl_consume_laws.proofs.KnownKeys.{IsQuiet}
use Rattle.dbl_consume_laws.proofs.AgeingRows.{item_op, placed, DoesAsTold}
use Rattle.dbl_consume_laws.proofs.Parts.{IsPartOf}

-- ---- the change of an event

pub record IsOfChange (infos : List TableInfo) (changes : List Change) (number : ℕ) (n : Notice) : Type 0 where
  pub earlier : List Change
  pub change : Change
  pub others : List Change
  pub place : ℕ
  pub spelled : changes ≡ earlier ++ change ∷ others
  pub stands : slice_get (notices infos change) place ≡ Some n
  pub number_is : number ≡ length (flat_map (notices infos) earlier) + place

number_first : (i : ℕ) → i ≡ 0 + i
number_first i = omega arith

number_later : (i o n p w : ℕ) → n ≤ i → i - n ≡ o + p → w ≡ n + o → i ≡ w + p
number_later i o n p w le is size = omega (arith, le, is, size)

pub of_change : (infos : List TableInfo) (changes : List Change) (number : ℕ) (n : Notice) → slice_get (flat_map (notices infos) changes) number ≡ Some n → IsOfChange infos changes number n
of_change infos [] number n at = cc
of_change infos (c ∷ changes) number n at = elim (cases_lt number (length (notices infos c))) [
  | inl lt ↦ record {
    earlier = [];
    change = c;
    others = changes;
    place = number;
    spelled = refl;
    stands = sym (slice_get-front (notices infos c) (flat_map (notices infos) changes) number lt) ∙ at;
    number_is = number_first number;
  }
  | inr le ↦ (
      let rest = of_change infos changes (number - length (notices infos c)) n (sym (slice_get-subsequent (notices infos c) (flat_map (notices infos) changes) number le) ∙ at) in
      record {
        earlier = c ∷ rest.earlier;
        change = rest.change;
        others = rest.others;
        place = rest.place;
        spelled = ap (λ (l : List Change). c ∷ l) rest.spelled;
        stands = rest.stands;
        number_is = number_later number (length (flat_map (notices infos) rest.earlier)) (length (notices infos c)) rest.place (length (notices infos c ++ flat_map (notices infos) rest.earlier)) le rest.number_is
            (length-append (notices infos c) (flat_map (notices infos) rest.earlier));
      })
]

-- the notice of a numbered event
pub numbered_notice : (position ordinal : ℕ) (ns : List Notice) (number : ℕ) (e : Event) → slice_get (numbered position ordinal ns) number ≡ Some e → slice_get ns number ≡ Some e.notice
numbered_notice position ordinal [] number e at = cc
numbered_notice position ordinal (n ∷ ns) zero e at = ap (λ (o : Option Event). option_map (λ (x : Event). x.notice) o) at
numbered_notice position ordinal (n ∷ ns) (suc number) e at = numbered_notice position (ordinal + 1) ns number e at

-- a change that fits tells some event
some_update : (table : ℕ) (info : TableInfo) (from to : Key) (old : Option Row) (cells : List Cell) (stays : Bool)
    → 0 < length (cond stays (record { table = table; info = info; key = Some from; content = Updated old cells; newkey = None; oldkey = None } ∷ []) (move_notices table info from to old (record { cells = map given_or_null cells })))
some_update table info from to old cells true = omega arith
some_update table info from to old cells false = omega arith

some_notices : (table : ℕ) (info : TableInfo) (c : Change) → 0 < length (change_notices table info c)
some_notices table info (Insert t row) = omega arith
some_notices table info (Update t from old cells) = some_update table info from (new_key_of info cells) old cells (same_key from (new_key_of info cells))
some_notices table info (Delete t from old) = omega arith
some_notices table info (Clear t) = omega arith

captured_table : (infos : List TableInfo) (at : Rows) (c : Change) → IsFit infos at c → (info : TableInfo) × (slice_get infos (table_of c) ≡ Some info)
captured_table infos at (Insert t row) fit = let f = some_and (slice_get infos t) (λ info. IsFitInsert info (at t) row) fit in (f.0, f.1)
captured_table infos at (Update t from old cells) fit = let f = some_and (slice_get infos t) (λ info. IsFitUpdate info (at t) from old cells) fit in (f.0, f.1)
captured_table infos at (Delete t from old) fit = let f = some_and (slice_get infos t) (λ info. IsFitDelete info (at t) from old) fit in (f.0, f.1)
captured_table infos at (Clear t) fit = is_some_value (slice_get infos t) fit

pub tells_some : (infos : List TableInfo) (at : Rows) (c : Change) → IsFit infos at c → 0 < length (notices infos c)
tells_some infos at c fit =
    let info = captured_table infos at c fit in
    subst (λ (o : Option TableInfo). 0 < length (unwrap_or (option_map (λ i. change_notices (table_of c) i c) o) [])) (sym info.1) (some_notices (table_of c) info.0 c)

-- ---- the records of some notices among those of a commit

module _ (identity : Identity) (commit : Commit) (now : ℤ) where
  -- what is so of their places
  pub each_place : (P : Place → Type 0) (position ordinal : ℕ) (ns others : List Notice) → ((i : ℕ) → i < length ns → P (position, ordinal + i)) → AllByRecursion (λ item. P (place_of item)) (map (print identity commit now) (placed position ordinal ns others))
  each_place P position ordinal [] others h = tt
  each_place P position ordinal (n ∷ ns) others h =
      let first : ordinal + 0 ≡ ordinal = omega arith in (
        subst (λ (o : ℕ). P (position, o)) first (h 0 (omega arith)),
        each_place P position (ordinal + 1) ns others (λ i lt. (let e : ordinal + suc i ≡ ordinal + 1 + i = omega arith in subst (λ (o : ℕ). P (position, o)) e (h (suc i) (omega (arith, lt))))),
      )

  -- an event's record tells of no table's snapshot
  pub event_quiet : (e : Event) → IsQuiet identity (print identity commit now e)
  event_quiet e = λ info through done tells. table_topics_tell_none identity e.notice.info info (print identity commit now e) through done refl tells

  pub all_quiet : (es : List Event) → AllByRecursion (IsQuiet identity) (map (print identity commit now) es)
  all_quiet [] = tt
  all_quiet (e ∷ es) = (event_quiet e, all_quiet es)

  -- where each notice is a part of a change, so are the first records
  pub item_parts : (infos : List TableInfo) (at : Rows) (c : Change) (position ordinal count : ℕ) (ns others : List Notice) → AllByRecursion (DoesAsTold identity commit now) (take count (placed position ordinal ns others))
      → ((topic text : List ℕ) (table : ℕ) (key : Key) (column : List ℕ) (names : Names identity infos topic text table key) → AllByRecursion (λ n. IsPartOf names.info column (effect_of infos c table key) (at table key) (notice_op identity n topic text column)) ns)
      → AllByRecursion (λ item. (topic text : List ℕ) (table : ℕ) (key : Key) (column : List ℕ) (names : Names identity infos topic text table key) → IsPartOf names.info column (effect_of infos c table key) (at table key) (item_op identity item topic text column)) (take count (map (print identity commit now) (placed position ordinal ns others)))
  item_parts infos at c position ordinal zero ns others does parts = tt
  item_parts infos at c position ordinal (suc count) [] others does parts = tt
  item_parts infos at c position ordinal (suc count) (n ∷ ns) others does parts = (
    λ topic text table key column names. subst (IsPartOf names.info column (effect_of infos c table key) (at table key)) (sym (does.0 topic text column)) (parts topic text table key column names).0,
    item_parts infos at c position (ordinal + 1) count ns others does.1 (λ topic text table key column names. (parts topic text table key column names).1),
  )
