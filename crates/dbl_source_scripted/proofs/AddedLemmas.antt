-- A played source to whose log a call adds, by its states before and after.
use Rattle.std.proofs.Common.{◌≡◌, ◌∙◌, ◌+◌, ◌<◌, ℕ, Option, Some, List, [], ◌∷◌, ◌++◌, length, map, refl, ap, subst, arith, length-append}
use Rattle.std.specs.Prelude.{slice_get}
use Rattle.std.proofs.lemmas.List.{length-map}
use Rattle.dbl_pgmsg.specs.declared.messages.Message.{Message}
use Rattle.dbl_model_table.specs.declared.row.Key.{Key}
use Rattle.dbl_model_table.specs.declared.table.TableName.{TableName}
use Rattle.dbl_source_log.specs.declared.logged.Logged.{Logged}
use Rattle.dbl_source_log.specs.declared.logged.Logged.TheVariants.{Changes, Mark}
use Rattle.dbl_source_scripted.specs.declared.asked.Asked.{Asked}
use Rattle.dbl_source_scripted.specs.declared.asked.Last.TheVariants as answers
use Rattle.dbl_source_log.specs.Numbers.{commit_limit}
use Rattle.dbl_source_scripted.specs.Moves.{HasRoom}
use Rattle.dbl_source_scripted.specs.Played.{Played, played_messages, inside_of, with_counted_call, committed, with_release, with_answer, question_of, with_mark, with_select}
use Rattle.dbl_source_scripted.specs.Steps.{KeepsPlayed, WasFair}
use Rattle.dbl_source_scripted.proofs.PlayLemmas.{WereAsked, fair_before, fair_same}
use Rattle.dbl_source_scripted.proofs.CallLemmas.{WentOn, messages_stay, went_placed}

-- after the commits before a call there is room for its own
pub room_left : (mid new : Played) (before : List Logged) (own : ℕ) → new ≡ committed before (with_counted_call mid) → HasRoom (length mid.log) (length before) own → length new.log + own < commit_limit
room_left mid new before own is room = omega (arith, ap (λ (p : Played). length p.log) is, length-append mid.log before, room)

-- the selects so far returned before other clients committed
went_asked : (old mid : Played) → WentOn old mid → KeepsPlayed old → WereAsked mid.asked mid.log
went_asked old mid w kept n question found =
    let was : slice_get old.asked n ≡ Some question = subst (λ (asked : List Asked). slice_get asked n ≡ Some question) w.asked found in
    omega (arith, kept.before n question was, ap length w.log, length-append old.log w.more)

-- ---- commits inside of a call

-- what a select makes of a source: other clients committed around it, its question is kept, and it answered
pub select_is : (old around kept new : Played) (table : TableName) (above : Option Key) (limit from number : ℕ) → new ≡ with_answer (answers.Rows number) kept
    → kept ≡ record around { asked = around.asked ++ question_of table above limit from (length around.log) ∷ [] } → around ≡ committed (map Changes (inside_of old)) (with_release old) → from ≡ length old.log → number ≡ length around.asked
    → new ≡ with_select table above limit (length old.log) (inside_of old) (with_release old)
select_is old around kept new table above limit from number is kept_is around_is from_is number_is =
    let mid : Played = with_release old in
    let inside : List (List Message) = inside_of old in
    let long : length (mid.log ++ map Changes inside) ≡ length mid.log + length inside = omega (arith, length-append mid.log (map Changes inside), length-map inside Changes) in
    let made : Played → ℕ → ℕ → ℕ → Played = λ s f u n. with_answer (answers.Rows n) (record s { asked = s.asked ++ question_of table above limit f u ∷ [] }) in
    is
    ∙ ap (with_answer (answers.Rows number)) kept_is
    ∙ ap (λ (n : ℕ). made around from (length around.log) n) number_is
    ∙ ap (λ (f : ℕ). made around f (length around.log) (length around.asked)) from_is
    ∙ ap (λ (s : Played). made s (length old.log) (length s.log) (length s.asked)) around_is
    ∙ ap (λ (u : ℕ). made (committed (map Changes inside) mid) (length old.log) u (length mid.asked)) long

pub select_read : (old mid : Played) (table : TableName) (above : Option Key) (limit from : ℕ) (inside : List (List Message)) → WentOn old mid → KeepsPlayed old → played_messages (with_select table above limit from inside mid) ≡ played_messages mid
select_read old mid table above limit from inside w kept = messages_stay mid.tables mid.log (map Changes inside) mid.place (went_placed old mid w kept)

pub select_fair : (old mid : Played) (table : TableName) (above : Option Key) (limit from : ℕ) (inside : List (List Message)) → WentOn old mid → KeepsPlayed old → WasFair (with_select table above limit from inside mid) → WasFair mid
select_fair old mid table above limit from inside w kept fair =
    let question : Asked = question_of table above limit from (length mid.log + length inside) in
    fair_before mid.tables mid.tables mid.log (map Changes inside) (mid.log ++ map Changes inside) mid.asked (question ∷ []) (mid.asked ++ question ∷ []) mid.rows mid.rows refl refl refl refl (went_asked old mid w kept) fair

-- ---- a watermark

pub mark_read : (old mid : Played) (value : List ℕ) → WentOn old mid → KeepsPlayed old → played_messages (with_mark value mid) ≡ played_messages mid
mark_read old mid value w kept = messages_stay mid.tables mid.log (Mark value ∷ []) mid.place (went_placed old mid w kept)

pub mark_fair : (old mid : Played) (value : List ℕ) → WentOn old mid → KeepsPlayed old → WasFair (with_mark value mid) → WasFair mid
mark_fair old mid value w kept fair =
    fair_same mid.tables mid.tables mid.log (Mark value ∷ []) (mid.log ++ Mark value ∷ []) mid.asked mid.asked mid.rows mid.rows refl refl refl refl (went_asked old mid w kept) fair
