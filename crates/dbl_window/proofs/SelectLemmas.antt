-- What a select of a conforming source leads to.
use Rattle.std.proofs.Common.{◌≡◌, ◌≢◌, ◌∙◌, inl, inr, ℕ, Bool, true, false, Option, Some, None, List, [], length, refl, sym, ap, subst}
use Rattle.std.specs.Prelude.{IsTrue, Result, Ok, Err, IfOk, OnOk, IfSome, nat_lt, ◌==◌, if◌then◌else◌}
use Rattle.std.proofs.lemmas.Bool.Decides.{Decides-eqb}
use Rattle.dbl_value_types.specs.declared.error.ValueError.{ValueError}
use Rattle.dbl_model_table.specs.declared.table.RawRow.{RawRow}
use Rattle.dbl_model_table.specs.declared.table.TableInfo.{TableInfo}
use Rattle.dbl_model_table.specs.declared.row.Key.{Key}
use Rattle.dbl_model_table.specs.declared.row.Row.{Row}
use Rattle.dbl_model_history.specs.Fit.{IsKeyOf, IsFitHistory}
use Rattle.dbl_model_history.specs.KeyedRows.{last_key}
use Rattle.dbl_source.specs.SourceModel.Standings.{SourceState, HasState}
use Rattle.dbl_source.specs.SourceModel.declared.selected.Selected.{Selected as SelectAnswer}
use Rattle.dbl_source.specs.SourceModel.Selected.{Selects}
use Rattle.dbl_source.specs.SourceModel.Calls.{Moved}
use Rattle.dbl_source.specs.SourceModel.Trace.{Trace, RowsSelected, IsTakenBy, LastAnswerIs}
use Rattle.dbl_source.specs.SourceLog.declared.error.SourceError.{SourceError}
use Rattle.dbl_source.specs.SourceLog.declared.error.SourceError.TheVariants as source
use Rattle.dbl_window.specs.declared.error.WindowError.{WindowError}
use Rattle.dbl_window.specs.declared.error.WindowError.TheVariants as window
use Rattle.dbl_window.specs.Errors.{window_fault}
use Rattle.dbl_window.specs.Plans.{Plan, Chunk}
use Rattle.dbl_window.specs.Reading.{answer_read, rows_read, chunk_read}
use Rattle.dbl_window.specs.Selected.{IsCaptured, IsSelected, SelectsChunk, HasMoved, HasUnreadable, IsReadAs, IsChunkReadFrom}
use Rattle.dbl_window.proofs.FaultLemmas.{reads_never_move}
use Rattle.dbl_window.proofs.HonestLemmas.{captured_stays, never_bad_chunk, unreadable_cell, selected_chunk}

pub chunk_is : (plan : Plan) (rows : List RawRow) → chunk_read plan rows ≡ rows_read plan 0 plan.above rows
unfolding chunk_read
chunk_is plan rows = refl

-- who tells nothing new goes on telling what was told
pub none_taken : (told : Option Trace) → IsTakenBy [] told told
none_taken None = tt
none_taken (Some t) = refl

-- a source that ran out of memory, or failed, as a window
pub memory_was : (e : SourceError) → window_fault e ≡ window.Memory → e ≡ source.Memory
memory_was source.Failed is = cc
memory_was source.Memory is = refl

-- ---- what was read of a source

-- a source represents one thing, and so for what a call led to
pub still_led : {S : Type 0} (stands : S → SourceState → Type 0) (source : S) (P : SourceState → Type 0) (s t : SourceState) → ((a b : SourceState) → stands source a → stands source b → a ≡ b) → HasState stands source P
    → ((u : SourceState) → P u → u.reading ≡ s.reading) → stands source t → t.reading ≡ s.reading
still_led stands source P s t one stood same is = ap (λ (u : SourceState). u.reading) (one t stood.standing is stood.is) ∙ same stood.standing stood.holds

-- one that can't be used represents nothing
pub still_dead : {S : Type 0} (stands : S → SourceState → Type 0) (is_live : S → Bool) (source : S) (s t : SourceState) → ((u : SourceState) → stands source u → IsTrue (is_live source)) → is_live source ≡ false → stands source t → t.reading ≡ s.reading
still_dead stands is_live source s t lives dead is =
    let contra : false ≡ true = sym dead ∙ lives t is in
    absurd (cc)

-- what holds at any rate holds of an answer
pub on_ok : {T E P : Type 0} (r : Result T E) → P → OnOk r P
on_ok (Ok x) holds = holds
on_ok (Err e) holds = tt

-- ---- what the rows are read as

-- the rows of an answer that is read
rows_of_answer : (plan : Plan) (answer : SelectAnswer) (rows : List (Key × Row)) → answer_read plan answer ≡ Ok rows → chunk_read plan answer.rows ≡ Ok rows
rows_of_answer plan answer rows read = by (answer.version == plan.version) read
  where
    by : (b : Bool) → (if b then chunk_read plan answer.rows else Err (window.Moved answer.version)) ≡ Ok rows → chunk_read plan answer.rows ≡ Ok rows
    by true is = is
    by false is = cc

-- and it has the window's version
version_of_answer : (plan : Plan) (answer : SelectAnswer) (rows : List (Key × Row)) → answer_read plan answer ≡ Ok rows → plan.version ≡ answer.version
version_of_answer plan answer rows read = by (answer.version == plan.version) refl read
  where
    by : (b : Bool) → (answer.version == plan.version) ≡ b → (if b then chunk_read plan answer.rows else Err (window.Moved answer.version)) ≡ Ok rows → plan.version ≡ answer.version
    by true test is = sym ((Decides-eqb answer.version plan.version).0 test)
    by false test is = cc

-- another error than that the table was altered is its rows'
fault_of_answer : (plan : Plan) (answer : SelectAnswer) (e : WindowError) → ((version : ℕ) → e ≡ window.Moved version → ⊥) → answer_read plan answer ≡ Err e → chunk_read plan answer.rows ≡ Err e
fault_of_answer plan answer e never read = by (answer.version == plan.version) read
  where
    by : (b : Bool) → (if b then chunk_read plan answer.rows else Err (window.Moved answer.version)) ≡ Err e → chunk_read plan answer.rows ≡ Err e
    by true is = is
    by false is = (let same : window.Moved answer.version ≡ e = cc in absurd (never answer.version (sym same)))

-- an answer of the window's version is read as its rows
pub answered_same : (plan : Plan) (answer : SelectAnswer) (rows : List RawRow) (read : Result (List (Key × Row)) WindowError) → answer.version ≡ plan.version → rows ≡ answer.rows → rows_read plan 0 plan.above rows ≡ read → answer_read plan answer ≡ read
answered_same plan answer rows read same is read_is =
    ap (λ (b : Bool). if b then chunk_read plan answer.rows else Err (window.Moved answer.version)) ((Decides-eqb answer.version plan.version).1 same)
    ∙ (chunk_is plan answer.rows ∙ subst (λ (l : List RawRow). rows_read plan 0 plan.above l ≡ read) is read_is)

-- and that one comes if and only if the answer has another version
moved_answer : (plan : Plan) (answer : SelectAnswer) (version : ℕ) → answer_read plan answer ≡ Err (window.Moved version) → (answer.version ≡ version) × (answer.version ≢ plan.version)
moved_answer plan answer version read = by (answer.version == plan.version) refl read
  where
    by : (b : Bool) → (answer.version == plan.version) ≡ b → (if b then chunk_read plan answer.rows else Err (window.Moved answer.version)) ≡ Err (window.Moved version) → (answer.version ≡ version) × (answer.version ≢ plan.version)
    by true test is = absurd (reads_never_move plan version answer.rows (sym (chunk_is plan answer.rows) ∙ is))
    by false test is = ((let same : answer.version ≡ version = cc in same), λ equal. (let wrong : true ≡ false = sym ((Decides-eqb answer.version plan.version).1 equal) ∙ test in cc))

pub held_so : (plan : Plan) (answer : SelectAnswer) (Q : Chunk → Type 0) (result : Result Chunk WindowError) → IsReadAs plan answer result → IfOk result (λ held. held.plan ≡ plan)
    → IfOk result (λ held. held.through ≡ last_key plan.above held.rows) → IfOk result (λ held. held.done ≡ nat_lt (length held.rows) plan.limit)
    → ((chunk : Chunk) → chunk.plan ≡ plan → plan.version ≡ answer.version → chunk_read plan answer.rows ≡ Ok chunk.rows → chunk.through ≡ last_key plan.above chunk.rows → chunk.done ≡ nat_lt (length chunk.rows) plan.limit → Q chunk)
    → IfOk result Q
held_so plan answer Q (Ok chunk) read same through done so = so chunk same (version_of_answer plan answer chunk.rows read) (rows_of_answer plan answer chunk.rows read) through done
held_so plan answer Q (Err e) read same through done so = tt

pub read_so : (plan : Plan) (told : Option Trace) (answer : SelectAnswer) (result : Result Chunk WindowError) → LastAnswerIs told (RowsSelected answer) → IsReadAs plan answer result → IsChunkReadFrom plan told result
read_so plan told answer (Ok chunk) tells read = record { answer = answer; told_so = tells; read_is = read }
read_so plan told answer (Err e) tells read =
    elim read [
      | inl failed ↦ inl failed
      | inr other ↦ elim other [
        | inl memory ↦ inr (inl memory)
        | inr fault ↦ inr (inr (record { answer = answer; told_so = tells; read_is = fault }))
      ]
    ]

-- ---- a conforming source's rows

moved_captured : (infos : List TableInfo) (plan : Plan) (s t : SourceState) → Moved s t → IsCaptured infos s.history plan → IsCaptured infos t.history plan
moved_captured infos plan s t moved captured = record { are = captured_stays s.history t.history infos moved.grows.tables captured.are; here = captured.here }

pub selects_so : (plan : Plan) (answer : SelectAnswer) (chunk : Chunk) (s t : SourceState) → Moved s t → IsFitHistory t.history → IfSome plan.above (IsKeyOf plan.info)
    → Selects plan.info.name plan.above plan.limit s.history t.history answer → chunk.plan ≡ plan → plan.version ≡ answer.version → chunk_read plan answer.rows ≡ Ok chunk.rows → chunk.through ≡ last_key plan.above chunk.rows
    → chunk.done ≡ nat_lt (length chunk.rows) plan.limit → SelectsChunk plan chunk s t
selects_so plan answer chunk s t moved fit starts selects plan_is same read through done infos captured =
    (subst (λ (p : Plan). IsCaptured infos t.history p → IfSome p.above (IsKeyOf p.info) → Selects p.info.name p.above p.limit s.history t.history answer → p.version ≡ answer.version → chunk_read p answer.rows ≡ Ok chunk.rows
    → chunk.through ≡ last_key p.above chunk.rows → chunk.done ≡ nat_lt (length chunk.rows) p.limit
    → IsSelected infos t.history (length s.history.commits) (length t.history.commits) chunk)
    plan_is (selected_chunk infos t.history (length s.history.commits) (length t.history.commits) answer chunk fit))
    (moved_captured infos plan s t moved captured) starts selects same read through done

-- an error of the reading but out of memory is the rows' fault
fault_is : (plan : Plan) (answer : SelectAnswer) (result : Result Chunk WindowError) (e : WindowError) → IsReadAs plan answer result → result ≡ Err e → (e ≡ window.Failed → ⊥) → (e ≡ window.Memory → ⊥)
    → answer_read plan answer ≡ Err e
fault_is plan answer result e read is not_failed not_memory =
    elim (subst (IsReadAs plan answer) is read) [
      | inl failed ↦ absurd (not_failed failed)
      | inr other ↦ elim other [
        | inl memory ↦ absurd (not_memory memory)
        | inr fault ↦ fault
      ]
    ]

fault_of_rows : (plan : Plan) (answer : SelectAnswer) (result : Result Chunk WindowError) (e : WindowError) → IsReadAs plan answer result → result ≡ Err e → (e ≡ window.Failed → ⊥) → (e ≡ window.Memory → ⊥)
    → ((version : ℕ) → e ≡ window.Moved version → ⊥) → rows_read plan 0 plan.above answer.rows ≡ Err e
fault_of_rows plan answer result e read is not_failed not_memory not_moved =
    sym (chunk_is plan answer.rows) ∙ fault_of_answer plan answer e not_moved (fault_is plan answer result e read is not_failed not_memory)

-- the table had the answer's version, which isn't the window's
pub moved_so : (plan : Plan) (answer : SelectAnswer) (result : Result Chunk WindowError) (s t : SourceState) (version : ℕ) → IsReadAs plan answer result
    → Selects plan.info.name plan.above plan.limit s.history t.history answer → result ≡ Err (window.Moved version) → HasMoved s.history t.history plan version
moved_so plan answer result s t version read selects is =
    let moved = moved_answer plan answer version (fault_is plan answer result (window.Moved version) read is (λ e. (let never : ⊥ = cc in never)) (λ e. (let never : ⊥ = cc in never))) in
    record {
      place = selects.place;
      not_before = selects.not_before;
      not_after = selects.not_after;
      is = sym moved.0 ∙ selects.version;
      other = λ same. moved.1 (moved.0 ∙ same);
    }

pub never_so : (plan : Plan) (answer : SelectAnswer) (result : Result Chunk WindowError) (s t : SourceState) (infos : List TableInfo) (row : ℕ) → IsReadAs plan answer result → Moved s t → IsFitHistory t.history
    → IfSome plan.above (IsKeyOf plan.info) → Selects plan.info.name plan.above plan.limit s.history t.history answer → IsCaptured infos s.history plan → result ≡ Err (window.BadChunk row) → ⊥
never_so plan answer result s t infos row read moved fit starts selects captured is =
    never_bad_chunk infos t.history plan (length s.history.commits) (length t.history.commits) answer row fit (moved_captured infos plan s t moved captured) starts selects
    (fault_of_rows plan answer result (window.BadChunk row) read is (λ e. (let never : ⊥ = cc in never)) (λ e. (let never : ⊥ = cc in never)) (λ v e. (let never : ⊥ = cc in never)))

pub cell_so : (plan : Plan) (answer : SelectAnswer) (result : Result Chunk WindowError) (s t : SourceState) (infos : List TableInfo) (name : List ℕ) (error : ValueError) → IsReadAs plan answer result → Moved s t
    → IsFitHistory t.history → IfSome plan.above (IsKeyOf plan.info) → Selects plan.info.name plan.above plan.limit s.history t.history answer → IsCaptured infos s.history plan
    → result ≡ Err (window.Cell name error) → HasUnreadable infos t.history plan name error
cell_so plan answer result s t infos name error read moved fit starts selects captured is =
    unreadable_cell infos t.history plan (length s.history.commits) (length t.history.commits) answer name error fit (moved_captured infos plan s t moved captured) starts selects
    (fault_of_rows plan answer result (window.Cell name error) read is (λ e. (let never : ⊥ = cc in never)) (λ e. (let never : ⊥ = cc in never)) (λ v e. (let never : ⊥ = cc in never)))
