-- Histories that grow: their watermarks, and their rows at the positions that stood.
use Rattle.std.proofs.Common.{◌≡◌, ◌∙◌, ◌+◌, ◌≤◌, ℕ, List, [], ◌∷◌, ◌++◌, length, map, take, drop, refl, sym, ap, arith, length-append, append_assoc}
use Rattle.std.proofs.lemmas.List.{append-nil, length-map, map-append, take-append-le, take-append-drop}
use Rattle.dbl_model_commit.specs.ModelTable.declared.table.TableInfo.{TableInfo}
use Rattle.dbl_model_commit.specs.ModelTable.declared.change.Commit.{Commit}
use Rattle.dbl_model_commit.specs.ModelTable.Rows.{no_rows, rows_from, all_changes}
use Rattle.dbl_model_commit.specs.ModelHistory.History.{RawBody, RawCommit, History, IsRising}
use Rattle.dbl_model_commit.specs.ModelHistory.History.RawBody.{Changes, Mark, Alter}
use Rattle.dbl_model_commit.specs.ModelHistory.Typed.{typed, typed_commit}
use Rattle.dbl_model_commit.proofs.ModelHistoryRowLemmas.{all_changes-append, take-length-append}
use Rattle.dbl_source_model.specs.Growth.{HasChanges, AreOthers, Grows, Marks, mark_in_body, marks_in}
use Rattle.dbl_source_model.specs.Laws.{GrownHistoriesGrow, GrownHistoriesKeepRows, RowsUpToAreRows, OthersWriteNoMark, MarksAreWrittenOnce}

pub others-append : (xs ys : List RawCommit) → AreOthers xs → AreOthers ys → AreOthers (xs ++ ys)
others-append [] ys a b = b
others-append (x ∷ xs) ys a b = (a.0, others-append xs ys a.1 b)

-- nothing was committed
pub grows_none : (h : History) → IsRising h → Grows h h
grows_none h rising = record { tables = refl; others = []; commits = sym (append-nil h.commits); are_others = tt; rising = rising }

pub grows_on : GrownHistoriesGrow
grows_on a b c g h = record {
  tables = h.tables ∙ g.tables;
  others = g.others ++ h.others;
  commits = h.commits ∙ ap (λ (l : List RawCommit). l ++ h.others) g.commits ∙ append_assoc a.commits g.others h.others;
  are_others = others-append g.others h.others g.are_others h.are_others;
  rising = h.rising;
}

-- a watermark was written after a history that had grown
pub marks_on : (value : List ℕ) (a b c : History) → Grows a b → Marks value b c → Marks value a c
marks_on value a b c g m = record {
  tables = m.tables ∙ g.tables;
  before = g.others ++ m.before;
  mark = m.mark;
  after = m.after;
  commits =
      m.commits
      ∙ ap (λ (l : List RawCommit). (l ++ m.before) ++ m.mark ∷ m.after) g.commits
      ∙ ap (λ (l : List RawCommit). l ++ m.mark ∷ m.after) (append_assoc a.commits g.others m.before);
  is_mark = m.is_mark;
  before_are_others = others-append g.others m.before g.are_others m.before_are_others;
  after_are_others = m.after_are_others;
  rising = m.rising;
}

-- and the history grew after it
pub marks_grown : (value : List ℕ) (a b c : History) → Marks value a b → Grows b c → Marks value a c
marks_grown value a b c m g = record {
  tables = g.tables ∙ m.tables;
  before = m.before;
  mark = m.mark;
  after = m.after ++ g.others;
  commits = g.commits ∙ ap (λ (l : List RawCommit). l ++ g.others) m.commits ∙ append_assoc (a.commits ++ m.before) (m.mark ∷ m.after) g.others;
  is_mark = m.is_mark;
  before_are_others = m.before_are_others;
  after_are_others = others-append m.after g.others m.after_are_others g.are_others;
  rising = g.rising;
}

pub grown_length : (old new : History) → Grows old new → length old.commits ≤ length new.commits
grown_length old new g = omega (arith, ap length g.commits, length-append old.commits g.others)

-- ---- watermarks

marks_in-append : (xs ys : List RawCommit) → marks_in (xs ++ ys) ≡ marks_in xs ++ marks_in ys
marks_in-append [] ys = refl
marks_in-append (x ∷ xs) ys = ap (λ (l : List (List ℕ)). mark_in_body x.body ++ l) (marks_in-append xs ys) ∙ sym (append_assoc (mark_in_body x.body) (marks_in xs) (marks_in ys))

no_mark : (body : RawBody) → HasChanges body → mark_in_body body ≡ []
no_mark (Changes changes) has = refl
no_mark (Mark value) has = absurd has
no_mark (Alter name columns rows) has = refl

no_marks : (xs : List RawCommit) → AreOthers xs → marks_in xs ≡ []
no_marks [] others = refl
no_marks (x ∷ xs) others = ap (λ (l : List (List ℕ)). l ++ marks_in xs) (no_mark x.body others.0) ∙ no_marks xs others.1

pub no_mark_more : OthersWriteNoMark
no_mark_more old new g =
    ap marks_in g.commits
    ∙ marks_in-append old.commits g.others
    ∙ ap (λ (l : List (List ℕ)). marks_in old.commits ++ l) (no_marks g.others g.are_others)
    ∙ append-nil (marks_in old.commits)

pub one_mark_more : MarksAreWrittenOnce
one_mark_more value old new m =
    ap marks_in m.commits
    ∙ marks_in-append (old.commits ++ m.before) (m.mark ∷ m.after)
    ∙ ap (λ (l : List (List ℕ)). l ++ (mark_in_body m.mark.body ++ marks_in m.after)) before_is
    ∙ ap (λ (l : List (List ℕ)). marks_in old.commits ++ l) mark_is
  where
    before_is : marks_in (old.commits ++ m.before) ≡ marks_in old.commits
    before_is =
        marks_in-append old.commits m.before
        ∙ ap (λ (l : List (List ℕ)). marks_in old.commits ++ l) (no_marks m.before m.before_are_others)
        ∙ append-nil (marks_in old.commits)

    mark_is : mark_in_body m.mark.body ++ marks_in m.after ≡ value ∷ []
    mark_is =
        ap (λ (body : RawBody). mark_in_body body ++ marks_in m.after) m.is_mark
        ∙ ap (λ (l : List (List ℕ)). value ∷ l) (no_marks m.after m.after_are_others)

-- ---- rows

pub typed-grown : (infos : List TableInfo) (old new : History) (g : Grows old new) → typed infos new ≡ typed infos old ++ map (typed_commit infos) g.others
typed-grown infos old new g = ap (map (typed_commit infos)) g.commits ∙ map-append (typed_commit infos) old.commits g.others

pub same_rows : GrownHistoriesKeepRows
same_rows infos old new place g fits =
    ap (λ (h : List Commit). rows_from infos no_rows (all_changes (take place h))) (typed-grown infos old new g)
    ∙ ap (λ (h : List Commit). rows_from infos no_rows (all_changes h))
    (take-append-le place (typed infos old) (map (typed_commit infos) g.others) (omega (arith, fits, length-map old.commits (typed_commit infos))))

pub rows_are : RowsUpToAreRows
rows_are infos history place =
    let h : List Commit = typed infos history in
    let parts : all_changes h ≡ all_changes (take place h) ++ all_changes (drop place h) = ap all_changes (sym (take-append-drop place h)) ∙ all_changes-append (take place h) (drop place h) in
    sym (ap (λ cs. rows_from infos no_rows (take (length (all_changes (take place h)) + 0) cs)) parts
    ∙ ap (rows_from infos no_rows) (take-length-append (all_changes (take place h)) (all_changes (drop place h)) 0 ∙ append-nil (all_changes (take place h))))
