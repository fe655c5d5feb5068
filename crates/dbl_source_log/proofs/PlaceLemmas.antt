-- A reader reads one more message: what it has read then, and where it is.
use Rattle.std.proofs.Common.{◌≡◌, ◌∙◌, ◌+◌, ◌<◌, ◌≤◌, ℕ, zero, suc, Bool, true, false, Option, Some, None, List, [], ◌∷◌, ◌++◌, length, take, drop, refl, sym, ap, arith}
use Rattle.std.specs.Prelude.{option_map, unwrap_or, if◌then◌else◌, slice_get}
use Rattle.std.proofs.lemmas.List.{take_more, take_all, length-take-le}
use Rattle.std.proofs.lemmas.Option.{slice_get_within, get_or_from_slice_get}
use Rattle.dbl_pgmsg.specs.declared.messages.Message.{Message}
use Rattle.dbl_source_log.specs.declared.logged.LogTable.{LogTable}
use Rattle.dbl_source_log.specs.declared.logged.Logged.{Logged}
use Rattle.dbl_source_log.specs.declared.reader_position.ReaderPosition.{ReaderPosition}
use Rattle.dbl_source_log.specs.Numbers.{commits_upto}
use Rattle.dbl_source_log.specs.Alterations.{tables_through}
use Rattle.dbl_source_log.specs.Sent.{oids_of, messages_in, onto_relations, told_changes, begin_message, commit_message, told_commit, told_from, told_whole, index_of, tables_at, oids_at, told_part, told_open, told_at, IsPlaceIn}
use Rattle.dbl_source_log.proofs.AlterationLemmas.{through_take}
use Rattle.dbl_source_log.proofs.SentLemmas.{take_none, slice_get-drop, told_changes-append, told_from-append, not_begun}

-- the places that a reader comes to
abbrev pub begun_at : ReaderPosition → ReaderPosition
begun_at place = record { after = place.after; commits = place.commits; begun = true; change = 0; table = 0 }

abbrev pub table_looked_at : ReaderPosition → ℕ → ReaderPosition
table_looked_at place table = record { after = place.after; commits = place.commits; begun = true; change = place.change; table = table }

abbrev pub change_told : ReaderPosition → ReaderPosition
change_told place = record { after = place.after; commits = place.commits; begun = true; change = place.change + 1; table = 0 }

abbrev pub commit_told : ReaderPosition → ReaderPosition
commit_told place = record { after = place.after; commits = place.commits + 1; begun = false; change = 0; table = 0 }

module _ (tables : List LogTable) (log : List Logged) (place : ReaderPosition) where
  abbrev pub whole : List Message
  whole = told_whole tables place.after place.commits log

  -- the tables of the commit that is read
  abbrev pub here : List LogTable
  here = tables_at tables log place

  -- after the Begin and so many changes
  abbrev pub base : Logged → List Message
  base entry = told_changes here (take place.change (messages_in entry)) (begin_message (index_of place + 1) ∷ whole)

  pub told_waiting : place.begun ≡ false → told_at tables log place ≡ whole
  told_waiting is = not_begun here place (slice_get log (index_of place)) whole is

  pub told_begun : (entry : Logged) → slice_get log (index_of place) ≡ Some entry → place.begun ≡ true → told_at tables log place ≡ told_part here place entry whole
  told_begun entry there is =
      ap (λ (o : Option Logged). told_open here place o whole) there ∙ ap (λ (b : Bool). if b then told_part here place entry whole else whole) is

  pub begin_read : (entry : Logged) → slice_get log (index_of place) ≡ Some entry → place.begun ≡ false → told_at tables log (begun_at place) ≡ begin_message (index_of place + 1) ∷ told_at tables log place
  begin_read entry there is =
      ap (λ (o : Option Logged). told_open here (begun_at place) o whole) there
      ∙ ap (λ (past : List Message). begin_message (index_of place + 1) ∷ past) (sym (told_waiting is))

  oids_there : (entry : Logged) (m : Message) → slice_get (messages_in entry) place.change ≡ Some m → oids_at entry place.change ≡ oids_of m
  oids_there entry m is = ap (λ (o : Option Message). unwrap_or (option_map oids_of o) []) is

  pub relation_read : (entry : Logged) (m relation : Message) (table : ℕ) → slice_get log (index_of place) ≡ Some entry → place.begun ≡ true → slice_get (messages_in entry) place.change ≡ Some m
      → onto_relations here (take table (oids_of m)) (base entry) ≡ relation ∷ onto_relations here (take place.table (oids_of m)) (base entry)
      → told_at tables log (table_looked_at place table) ≡ relation ∷ told_at tables log place
  relation_read entry m relation table there is change told =
      ap (λ (o : Option Logged). told_open here (table_looked_at place table) o whole) there
      ∙ ap (λ (l : List ℕ). onto_relations here (take table l) (base entry)) (oids_there entry m change)
      ∙ told
      ∙ ap (λ (l : List ℕ). relation ∷ onto_relations here (take place.table l) (base entry)) (sym (oids_there entry m change))
      ∙ ap (λ (past : List Message). relation ∷ past) (sym (told_begun entry there is))

  pub change_read : (entry : Logged) (m : Message) → slice_get log (index_of place) ≡ Some entry → place.begun ≡ true → slice_get (messages_in entry) place.change ≡ Some m
      → onto_relations here (oids_of m) (base entry) ≡ onto_relations here (take place.table (oids_of m)) (base entry)
      → told_at tables log (change_told place) ≡ m ∷ told_at tables log place
  change_read entry m there is change all =
      let ms : List Message = messages_in entry in
      let begun : List Message = begin_message (index_of place + 1) ∷ whole in
      let more : take (place.change + 1) ms ≡ take place.change ms ++ m ∷ [] =
      take_more ms place.change m (slice_get_within ms place.change m change) ∙ ap (λ (x : Message). take place.change ms ++ x ∷ []) (get_or_from_slice_get ms place.change m m change) in
      ap (λ (o : Option Logged). told_open here (change_told place) o whole) there
      ∙ ap (λ (l : List Message). told_changes here l begun) more
      ∙ told_changes-append here (take place.change ms) (m ∷ []) begun
      ∙ ap (λ (past : List Message). m ∷ past) all
      ∙ ap (λ (l : List ℕ). m ∷ onto_relations here (take place.table l) (base entry)) (sym (oids_there entry m change))
      ∙ ap (λ (past : List Message). m ∷ past) (sym (told_begun entry there is))

  none_there : (entry : Logged) → slice_get (messages_in entry) place.change ≡ None → oids_at entry place.change ≡ []
  none_there entry is = ap (λ (o : Option Message). unwrap_or (option_map oids_of o) []) is

  -- all changes were told
  told_out : (entry : Logged) → slice_get log (index_of place) ≡ Some entry → place.begun ≡ true → slice_get (messages_in entry) place.change ≡ None
      → told_at tables log place ≡ told_changes here (messages_in entry) (begin_message (index_of place + 1) ∷ whole)
  told_out entry there is none =
      told_begun entry there is
      ∙ ap (λ (l : List ℕ). onto_relations here (take place.table l) (base entry)) (none_there entry none)
      ∙ ap (λ (l : List ℕ). onto_relations here l (base entry)) (take_none place.table)
      ∙ ap (λ (l : List Message). told_changes here l (begin_message (index_of place + 1) ∷ whole)) (take_all place.change (messages_in entry) (slice_get_none (messages_in entry) place.change none))
    where
      slice_get_none : (ms : List Message) (n : ℕ) → slice_get ms n ≡ None → length ms ≤ n
      slice_get_none [] n out = omega arith
      slice_get_none (m ∷ ms) zero out = cc
      slice_get_none (m ∷ ms) (suc n) out = omega (arith, slice_get_none ms n out)

  -- one whole commit more
  whole_more : (entry : Logged) → slice_get log (index_of place) ≡ Some entry → told_whole tables place.after (place.commits + 1) log ≡ told_commit here (index_of place + 1) entry whole
  whole_more entry there =
      let first : ℕ = commits_upto place.after in
      let subsequent : List Logged = drop first log in
      let found : slice_get subsequent place.commits ≡ Some entry = slice_get-drop first place.commits log ∙ there in
      let within : place.commits < length subsequent = slice_get_within subsequent place.commits entry found in
      let more : take (place.commits + 1) subsequent ≡ take place.commits subsequent ++ entry ∷ [] =
      take_more subsequent place.commits entry within ∙ ap (λ (x : Logged). take place.commits subsequent ++ x ∷ []) (get_or_from_slice_get subsequent place.commits entry entry found) in
      let number : first + 1 + length (take place.commits subsequent) ≡ index_of place + 1 = omega (arith, length-take-le place.commits subsequent (omega (arith, within))) in
      let start : List LogTable = tables_through (take first log) tables in
      ap (λ (l : List Logged). told_from start (first + 1) l []) more
      ∙ told_from-append start (first + 1) (take place.commits subsequent) (entry ∷ []) []
      ∙ ap (λ (n : ℕ). told_commit (tables_through (take place.commits subsequent) start) n entry whole) number
      ∙ ap (λ (ts : List LogTable). told_commit ts (index_of place + 1) entry whole) (through_take first place.commits log tables)

  pub commit_read : (entry : Logged) → slice_get log (index_of place) ≡ Some entry → place.begun ≡ true → slice_get (messages_in entry) place.change ≡ None
      → told_at tables log (commit_told place) ≡ commit_message (index_of place + 1) ∷ told_at tables log place
  commit_read entry there is none =
      waiting
      ∙ whole_more entry there
      ∙ ap (λ (past : List Message). commit_message (index_of place + 1) ∷ past) (sym (told_out entry there is none))
    where
      waiting : told_at tables log (commit_told place) ≡ told_whole tables place.after (place.commits + 1) log
      waiting = not_begun (tables_at tables log (commit_told place)) (commit_told place) (slice_get log (index_of (commit_told place))) (told_whole tables place.after (place.commits + 1) log) refl

  -- ---- the places lie in the log

  pub inside : (entry : Logged) → slice_get log (index_of place) ≡ Some entry → index_of place < length log
  inside entry there = slice_get_within log (index_of place) entry there

  pub placed_begun : (table change : ℕ) (entry : Logged) → slice_get log (index_of place) ≡ Some entry → IsPlaceIn log place
      → IsPlaceIn log (record { after = place.after; commits = place.commits; begun = true; change = change; table = table })
  placed_begun table change entry there placed = record { few = placed.few; there = λ begun. inside entry there }

  pub placed_told : (entry : Logged) → slice_get log (index_of place) ≡ Some entry → IsPlaceIn log (commit_told place)
  placed_told entry there = record { few = omega (arith, inside entry there); there = λ begun. cc }
