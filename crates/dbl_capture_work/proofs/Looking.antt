-- What a window that is read does to a source, and what may be left of it.
use Rattle.std.proofs.Common.{◌≡◌, ◌∙◌, ◌⊎◌, inl, inr, ℕ, zero, suc, Bool, true, false, Option, Some, Ok, Err, List, [], ◌∷◌, ◌++◌, length, refl, sym, ap, subst, append-nil, append_assoc}
use Rattle.std.specs.Prelude.{◌==◌, if◌then◌else◌, slice_get}
use Rattle.dbl_model_table.specs.declared.row.Key.{Key}
use Rattle.dbl_model_table.specs.declared.row.Row.{Row}
use Rattle.dbl_model_table.specs.declared.table.TableInfo.{TableInfo}
use Rattle.dbl_envelope.specs.ModelEvent.Snapshots.{AreInKeyOrder}
use Rattle.dbl_model_history.specs.History.{RawBody, RawCommit, History}
use Rattle.dbl_model_history.specs.History.RawBody.{Changes, Mark, Alter}
use Rattle.dbl_source_model.specs.Calls.{Moved, IsMarked}
use Rattle.dbl_source_model.specs.Growth.{AreOthers, Grows, HasChanges, Marks, mark_in_body, marks_in}
use Rattle.dbl_source_model.specs.Leaves.{MayFollow}
use Rattle.dbl_source_model.specs.Standings.{SourceState, CrashState, left_of}
use Rattle.dbl_source_model.specs.Trace.{Trace}
use Rattle.dbl_source_model.specs.declared.selected.Selected.{Selected}
use Rattle.dbl_window.specs.Leaving.{MayStayOrMark}
use Rattle.dbl_window.specs.declared.error.WindowError.TheVariants as window
use Rattle.dbl_window.specs.Plans.{Plan, Chunk, low_text, high_text}
use Rattle.dbl_window.specs.Reading.{answer_read, chunk_read}
use Rattle.dbl_window.specs.Selected.{IsCaptured, IsReadOf, IsSelected, SelectsChunk}
use Rattle.dbl_window.proofs.LawLemmas.{above_in_order}
use Rattle.dbl_window.proofs.ReadLemmas.{read_answered}
use Rattle.dbl_capture_work.specs.Windowed.{MayHaveMarks, WasLooked, WasWindowed}
use Rattle.dbl_capture_work.specs.Works.{IsChunkOf}

-- ---- what was done

-- the rows were read, and the high watermark was written
pub was_looked : (honest before : Type 0) (plan : Plan) (held armed : Chunk) (s mid t : SourceState) → (honest → before) → armed ≡ held → held.plan ≡ plan → Moved s mid
    → (before → SelectsChunk plan held s mid) → IsMarked (high_text held.plan) mid t → WasLooked honest plan armed s t
was_looked honest before plan held armed s mid t back same planned moved selects marked = record {
  looked = mid.history;
  rows_are = moved.grows;
  high_is = subst (λ (p : Plan). Marks (high_text p) mid.history t.history) planned marked.marks;
  selected = λ is infos captured. subst (IsSelected infos mid.history (length s.history.commits) (length mid.history.commits)) (sym same) (selects (back is) infos captured);
  confirmed = marked.confirmed ∙ moved.confirmed;
  reading = marked.reading ∙ moved.reading;
}

-- after the low watermark
pub was_windowed : (honest : Type 0) (idle marked : Plan) (armed : Chunk) (s mid t : SourceState) → marked ≡ idle → IsMarked (low_text idle) s mid → WasLooked honest marked armed mid t → WasWindowed honest idle armed s t
was_windowed honest idle marked armed s mid t same low looked = record {
  marked = mid.history;
  low_is = low.marks;
  looked = record {
    looked = looked.looked;
    rows_are = looked.rows_are;
    high_is = subst (λ (p : Plan). Marks (high_text p) looked.looked t.history) same looked.high_is;
    selected = λ is infos captured. looked.selected is infos (subst (IsCaptured infos mid.history) (sym same) captured);
    confirmed = looked.confirmed ∙ low.confirmed;
    reading = looked.reading ∙ low.reading;
  };
}

-- ---- what may be left

marks_append : (xs ys : List RawCommit) → marks_in (xs ++ ys) ≡ marks_in xs ++ marks_in ys
marks_append [] ys = refl
marks_append (x ∷ xs) ys = ap (λ (l : List (List ℕ)). mark_in_body x.body ++ l) (marks_append xs ys) ∙ sym (append_assoc (mark_in_body x.body) (marks_in xs) (marks_in ys))

no_mark : (body : RawBody) → HasChanges body → mark_in_body body ≡ []
no_mark (Changes changes) has = refl
no_mark (Mark value) has = absurd has
no_mark (Alter name columns rows) has = refl

no_marks : (xs : List RawCommit) → AreOthers xs → marks_in xs ≡ []
no_marks [] others = refl
no_marks (x ∷ xs) others = ap (λ (l : List (List ℕ)). l ++ marks_in xs) (no_mark x.body others.0) ∙ no_marks xs others.1

-- nothing happened
pub rest_left : (values : List (List ℕ)) (s : SourceState) (left : CrashState) → left ≡ left_of s → MayHaveMarks values s left
rest_left values s left same = record {
  more = [];
  grown = record { tables = ap (λ (l : CrashState). l.history.tables) same; commits = ap (λ (l : CrashState). l.history.commits) same ∙ sym (append-nil s.history.commits) };
  count = zero;
  marks = refl;
  confirmed = ap (λ (l : CrashState). l.confirmed) same;
}

-- others have committed
pub others_left : (values : List (List ℕ)) (s : SourceState) (left : CrashState) → MayFollow s left → MayHaveMarks values s left
others_left values s left may = record {
  more = may.grows.others;
  grown = record { tables = may.grows.tables; commits = may.grows.commits };
  count = zero;
  marks = no_marks may.grows.others may.grows.are_others;
  confirmed = may.confirmed;
}

-- one watermark is there
marks_one : (value : List ℕ) (old new : History) (m : Marks value old new) → marks_in (m.before ++ m.mark ∷ m.after) ≡ value ∷ []
marks_one value old new m =
    marks_append m.before (m.mark ∷ m.after)
    ∙ (ap (λ (l : List (List ℕ)). l ++ (mark_in_body m.mark.body ++ marks_in m.after)) (no_marks m.before m.before_are_others)
    ∙ (ap (λ (b : RawBody). mark_in_body b ++ marks_in m.after) m.is_mark
    ∙ ap (λ (l : List (List ℕ)). value ∷ l) (no_marks m.after m.after_are_others)))

pub mark_left : (value : List ℕ) (rest : List (List ℕ)) (s : SourceState) (left : CrashState) → MayStayOrMark value s left → MayHaveMarks (value ∷ rest) s left
mark_left value rest s left (inl same) = rest_left (value ∷ rest) s left same
mark_left value rest s left (inr may) = by may.history
  where
    by : Grows s.history left.history ⊎ Marks value s.history left.history → MayHaveMarks (value ∷ rest) s left
    by (inl grows) = others_left (value ∷ rest) s left (record { grows = grows; confirmed = may.confirmed })
    by (inr m) = record {
      more = m.before ++ m.mark ∷ m.after;
      grown = record { tables = m.tables; commits = m.commits ∙ append_assoc s.history.commits m.before (m.mark ∷ m.after) };
      count = suc zero;
      marks = marks_one value s.history left.history m;
      confirmed = may.confirmed;
    }

-- it goes on after others' commits
pub moved_left : (values : List (List ℕ)) (s mid : SourceState) (left : CrashState) → Moved s mid → MayHaveMarks values mid left → MayHaveMarks values s left
moved_left values s mid left moved may = record {
  more = moved.grows.others ++ may.more;
  grown = record {
    tables = may.grown.tables ∙ moved.grows.tables;
    commits = may.grown.commits ∙ (ap (λ (l : List RawCommit). l ++ may.more) moved.grows.commits ∙ append_assoc s.history.commits moved.grows.others may.more);
  };
  count = may.count;
  marks = marks_append moved.grows.others may.more ∙ (ap (λ (l : List (List ℕ)). l ++ marks_in may.more) (no_marks moved.grows.others moved.grows.are_others) ∙ may.marks);
  confirmed = may.confirmed ∙ moved.confirmed;
}

-- and after a watermark
pub marked_left : (value : List ℕ) (rest : List (List ℕ)) (s mid : SourceState) (left : CrashState) → IsMarked value s mid → MayHaveMarks rest mid left → MayHaveMarks (value ∷ rest) s left
marked_left value rest s mid left marked may = record {
  more = (marked.marks.before ++ marked.marks.mark ∷ marked.marks.after) ++ may.more;
  grown = record {
    tables = may.grown.tables ∙ marked.marks.tables;
    commits =
        may.grown.commits
        ∙ (ap (λ (l : List RawCommit). l ++ may.more) (marked.marks.commits ∙ append_assoc s.history.commits marked.marks.before (marked.marks.mark ∷ marked.marks.after))
        ∙ append_assoc s.history.commits (marked.marks.before ++ marked.marks.mark ∷ marked.marks.after) may.more);
  };
  count = suc may.count;
  marks =
      marks_append (marked.marks.before ++ marked.marks.mark ∷ marked.marks.after) may.more
      ∙ (ap (λ (l : List (List ℕ)). l ++ marks_in may.more) (marks_one value s.history mid.history marked.marks) ∙ ap (λ (l : List (List ℕ)). value ∷ l) may.marks);
  confirmed = may.confirmed ∙ marked.confirmed;
}

-- ---- what was read

-- by the plan that it has
pub chunk_own : (plan : Plan) (chunk : Chunk) → IsChunkOf plan chunk → IsChunkOf chunk.plan chunk
chunk_own plan chunk is = subst (λ (p : Plan). IsChunkOf p chunk) (sym is.plan_is) is

info_at : (place : ℕ) (info : TableInfo) → (infos : List TableInfo) × (slice_get infos place ≡ Some info)
info_at zero info = (info ∷ [], refl)
info_at (suc place) info = (info ∷ (info_at place info).0, (info_at place info).1)

-- the rows of an answer that is read
rows_of_answer : (plan : Plan) (answer : Selected) (rows : List (Key × Row)) → answer_read plan answer ≡ Ok rows → chunk_read plan answer.rows ≡ Ok rows
rows_of_answer plan answer rows read = by (answer.version == plan.version) read
  where
    by : (b : Bool) → (if b then chunk_read plan answer.rows else Err (window.Moved answer.version)) ≡ Ok rows → chunk_read plan answer.rows ≡ Ok rows
    by true is = is
    by false is = cc

-- rows that were read are in the order of their keys
pub read_order : (plan : Plan) (told : Option Trace) (rows : List (Key × Row)) → IsReadOf plan told (Ok rows) → AreInKeyOrder rows
read_order plan told rows is = let infos = info_at plan.table plan.info in above_in_order plan.above rows (read_answered infos.0 plan is.answer.rows rows infos.1 (rows_of_answer plan is.answer rows is.read_is)).ordered
