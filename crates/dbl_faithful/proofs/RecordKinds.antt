-- The kinds of records that are made of events and of windows.
use Rattle.std.proofs.Common.{◌≡◌, ◌∙◌, ℕ, ℤ, Bool, true, false, not, List, [], ◌∷◌, Option, refl, ap}
use Rattle.std.specs.Prelude.{if◌then◌else◌}
use Rattle.std.specs.List.{AllByRecursion}
use Rattle.dbl_record.specs.Acts.{is_progress}
use Rattle.dbl_model_table.specs.declared.identity.Identity.{Identity}
use Rattle.dbl_model_table.specs.declared.change.Commit.{Commit}
use Rattle.dbl_consume_laws.specs.ModelEvent.Events.{Content, Created, Updated, Deleted, Tombstone, Truncated, Event, events_of}
use Rattle.dbl_consume_laws.specs.ModelEvent.EventJson.{print}
use Rattle.dbl_consume_laws.specs.ModelEvent.Snapshots.{read_record, progress_record}
use Rattle.dbl_consume_laws.specs.Letters.{letter_of, content_letter}
use Rattle.dbl_consume_laws.proofs.Letters.{events_have_letters, read_rows_have_their_letter}
use Rattle.dbl_consume_laws.proofs.Topics.{not_progress, is_progress_topic}
use Rattle.dbl_faithful.specs.Kinds.{is_read_letter, is_change_record, EventsAreChanges, ReadRowsAreRows, ProgressIsNeither, RowsAreNoChanges}

other_letter : (content : Content) → not (is_read_letter (content_letter content)) ≡ true
other_letter (Created row) = refl
other_letter (Updated old cells) = refl
other_letter (Deleted old) = refl
other_letter Tombstone = refl
other_letter Truncated = refl

module _ (identity : Identity) (commit : Commit) (now : ℤ) where
  event_is_change : (e : Event) → letter_of (print identity commit now e) ≡ content_letter e.notice.content → is_change_record (print identity commit now e) ≡ true
  event_is_change e letter =
      ap (λ (b : Bool). if b then false else not (is_read_letter (letter_of (print identity commit now e)))) (not_progress identity e.notice.info)
      ∙ (ap (λ (o : Option (List ℕ)). not (is_read_letter o)) letter ∙ other_letter e.notice.content)

  each_event : (es : List Event) → AllByRecursion (λ e. letter_of (print identity commit now e) ≡ content_letter e.notice.content) es → AllByRecursion (λ e. is_change_record (print identity commit now e) ≡ true) es
  each_event [] letters = tt
  each_event (e ∷ es) letters = (event_is_change e letters.0, each_event es letters.1)

pub events_are_changes : EventsAreChanges
events_are_changes identity infos commit now range moment = each_event identity commit now (events_of infos commit) (events_have_letters identity infos commit now range moment)

pub read_rows_are_rows : ReadRowsAreRows
read_rows_are_rows identity info commit now ordinal entry range =
    let letter = read_rows_have_their_letter identity info commit now ordinal entry range in
    let topic = not_progress identity info in (
      ap (λ (b : Bool). if b then false else is_read_letter (letter_of (read_record identity info commit now ordinal entry))) topic ∙ ap is_read_letter letter,
      ap (λ (b : Bool). if b then false else not (is_read_letter (letter_of (read_record identity info commit now ordinal entry)))) topic ∙ ap (λ (o : Option (List ℕ)). not (is_read_letter o)) letter,
    )

pub progress_is_neither : ProgressIsNeither
progress_is_neither identity info commit ordinal through done = (
  ap (λ (b : Bool). if b then false else is_read_letter (letter_of (progress_record identity info commit ordinal through done))) (is_progress_topic identity),
  ap (λ (b : Bool). if b then false else not (is_read_letter (letter_of (progress_record identity info commit ordinal through done)))) (is_progress_topic identity),
)

pub rows_are_no_changes : RowsAreNoChanges
rows_are_no_changes item row = by (is_progress item.topic) (is_read_letter (letter_of item)) row
  where
    by : (p q : Bool) → (if p then false else q) ≡ true → (if p then false else not q) ≡ false
    by true q is = cc
    by false true is = refl
    by false false is = cc
