-- The cells that a consumer holds, record by record.
use Rattle.std.proofs.Common.{◌≡◌, ◌∙◌, ◌+◌, ℕ, suc, ℤ, List, [], ◌∷◌, ◌++◌, length, Option, None, fold, map, refl, sym, ap, arith}
use Rattle.std.specs.List.{AllByRecursion}
use Rattle.std.proofs.lemmas.List.{map-append}
use Rattle.dbl_record.specs.declared.acts.HeldCell.{HeldCell}
use Rattle.dbl_record.specs.declared.record.Record.{Record}
use Rattle.dbl_record.specs.Acts.{Reading, reading_of}
use Rattle.dbl_record.specs.Reading.{as_line}
use Rattle.dbl_model_table.specs.declared.identity.Identity.{Identity}
use Rattle.dbl_model_table.specs.declared.change.Commit.{Commit}
use Rattle.dbl_model_event.specs.Events.{Notice, Event, is_nil, numbered}
use Rattle.dbl_model_event.specs.EventJson.{print}
use Rattle.dbl_consume_laws.specs.Cells.{Op, cell_after, record_op, notice_op}
use Rattle.dbl_consume_laws.specs.Effects.{after_notices}
use Rattle.dbl_consume_laws.proofs.Cells.{consumers_hold_cells}
use Rattle.dbl_consume_laws.proofs.Consumers.{fold_append}
use Rattle.dbl_consume_laws.specs.Ages.{held_cell}

-- what a record does to the cell at a topic, a key's text and a column
abbrev pub item_op : Identity → Record → List ℕ → List ℕ → List ℕ → Op
item_op identity item topic text column = record_op identity.placeholder (reading_of (as_line item)) topic text column

-- what records leave of a cell
abbrev pub held_from : Identity → List ℕ → List ℕ → List ℕ → Option HeldCell → List Record → Option HeldCell
held_from identity topic text column held records = fold (λ cell reading. cell_after (record_op identity.placeholder reading topic text column) cell) held (map reading_of (map as_line records))

module _ (identity : Identity) (topic text column : List ℕ) where
  abbrev after : Option HeldCell → Reading → Option HeldCell
  after cell reading = cell_after (record_op identity.placeholder reading topic text column) cell

  pub held-is : (records : List Record) → held_cell identity records topic text column ≡ held_from identity topic text column None records
  held-is records = consumers_hold_cells identity.placeholder (map reading_of (map as_line records)) topic text column

  held_from-append : (held : Option HeldCell) (xs ys : List Record) → held_from identity topic text column held (xs ++ ys) ≡ held_from identity topic text column (held_from identity topic text column held xs) ys
  held_from-append held xs ys =
      ap (λ (l : List _). fold after held (map reading_of l)) (map-append as_line xs ys)
      ∙ (ap (fold after held) (map-append reading_of (map as_line xs) (map as_line ys))
      ∙ fold_append after held (map reading_of (map as_line xs)) (map reading_of (map as_line ys)))

  -- with more records
  pub held-more : (records more : List Record) → held_cell identity (records ++ more) topic text column ≡ held_from identity topic text column (held_cell identity records topic text column) more
  held-more records more =
      held-is (records ++ more)
      ∙ (held_from-append None records more
      ∙ ap (λ (h : Option HeldCell). held_from identity topic text column h more) (sym (held-is records)))

  -- with one more
  pub held-one : (records : List Record) (item : Record) → held_cell identity (records ++ item ∷ []) topic text column ≡ cell_after (item_op identity item topic text column) (held_cell identity records topic text column)
  held-one records item = held-more records (item ∷ [])

-- ---- the events of some notices among those of a commit

-- The events of the first notices, where others follow: the last of them is the last of its commit where none does.
abbrev pub placed : ℕ → ℕ → List Notice → List Notice → List Event
placed position ordinal [] others = []
placed position ordinal (n ∷ ns) others = record { notice = n; position = position; ordinal = ordinal; last = is_nil (ns ++ others) } ∷ placed position (ordinal + 1) ns others

next_count : (o l : ℕ) → o + 1 + l ≡ o + suc l
next_count o l = omega arith

pub numbered-append : (position ordinal : ℕ) (ns others : List Notice) → numbered position ordinal (ns ++ others) ≡ placed position ordinal ns others ++ numbered position (ordinal + length ns) others
numbered-append position ordinal [] others = let e : ordinal ≡ ordinal + 0 = omega arith in ap (λ (o : ℕ). numbered position o others) e
numbered-append position ordinal (n ∷ ns) others =
    let e : ordinal + 1 + length ns ≡ ordinal + suc (length ns) = next_count ordinal (length ns) in
    let first : Event = record { notice = n; position = position; ordinal = ordinal; last = is_nil (ns ++ others) } in
    ap (λ (es : List Event). first ∷ es) (numbered-append position (ordinal + 1) ns others ∙ ap (λ (o : ℕ). placed position (ordinal + 1) ns others ++ numbered position o others) e)

-- the event's record does to each cell what the event does
abbrev pub DoesAsTold : Identity → Commit → ℤ → Event → Type 0
DoesAsTold identity commit now e = (topic text column : List ℕ) → item_op identity (print identity commit now e) topic text column ≡ notice_op identity e.notice topic text column

-- together they leave of a cell what the notices do
pub held_placed : (identity : Identity) (commit : Commit) (now : ℤ) (topic text column : List ℕ) (position ordinal : ℕ) (ns others : List Notice) (held : Option HeldCell) → AllByRecursion (DoesAsTold identity commit now) (placed position ordinal ns others)
    → held_from identity topic text column held (map (print identity commit now) (placed position ordinal ns others)) ≡ after_notices identity ns topic text column held
held_placed identity commit now topic text column position ordinal [] others held does = refl
held_placed identity commit now topic text column position ordinal (n ∷ ns) others held does =
    held_placed identity commit now topic text column position (ordinal + 1) ns others (cell_after (item_op identity (print identity commit now (record { notice = n; position = position; ordinal = ordinal; last = is_nil (ns ++ others) })) topic text column) held) does.1
    ∙ ap (λ (op : Op). after_notices identity ns topic text column (cell_after op held)) (does.0 topic text column)
