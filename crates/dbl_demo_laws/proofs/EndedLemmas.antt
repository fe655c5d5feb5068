-- What a read told that found nothing left goes on holding, until a read finds a message or a start begins again.
use Rattle.std.proofs.Common.{◌≡◌, ◌∙◌, ℕ, zero, suc, List, [], ◌∷◌, ◌++◌, length, drop, sym, ap, subst}
use Rattle.std.specs.Prelude.{IsTrue}
use Rattle.std.specs.List.{AllByRecursion}
use Rattle.std.proofs.lemmas.List.Elements.{filter_map-append}
use Rattle.dbl_disk.specs.Model.{DiskModel}
use Rattle.dbl_source.specs.SourceLog.declared.logged.Logged.{Logged}
use Rattle.dbl_source.specs.SourceLog.Sent.{index_of}
use Rattle.dbl_demo_workload.specs.DemoWal.declared.entry.Entry.{Entry}
use Rattle.dbl_demo_workload.specs.DemoWal.Sound.{logged_by, logged_in}
use Rattle.dbl_demo_workload.specs.DemoWal.Wals.{Wal}
use Rattle.dbl_demo_workload.specs.DemoWal.CrashState.{added_by, with_entries}
use Rattle.dbl_demo_workload.proofs.DemoWalGroupLemmas.{released_none}
use Rattle.dbl_demo_laws.specs.Answers.{IsReaderKept}
use Rattle.dbl_demo_laws.specs.Demo.{Demo, HasReachedEnd, IsDemo, IsMark}

abbrev pub AreMarks : List Logged → Type 0
AreMarks log = AllByRecursion IsMark log

watermarks_since : (n : ℕ) (ys : List Logged) → AreMarks ys → AreMarks (drop n ys)
watermarks_since zero ys marks = marks
watermarks_since (suc n) [] marks = tt
watermarks_since (suc n) (y ∷ ys) marks = watermarks_since n ys marks.1

all_marks : (xs ys : List Logged) → AreMarks xs → AreMarks ys → AreMarks (xs ++ ys)
all_marks [] ys first second = second
all_marks (x ∷ xs) ys first second = (first.0, all_marks xs ys first.1 second)

marks_on : (n : ℕ) (xs ys : List Logged) → AreMarks (drop n xs) → AreMarks ys → AreMarks (drop n (xs ++ ys))
marks_on zero xs ys first second = all_marks xs ys first second
marks_on (suc n) [] ys first second = watermarks_since (suc n) ys second
marks_on (suc n) (x ∷ xs) ys first second = marks_on n xs ys first second

module _ {D : Type 0} (model : DiskModel D) (old new : Demo D) (wal : Wal) (of_old : IsDemo model wal old) where
  -- a call that runs no step then, and writes a watermark at the most
  pub ended_on : (upto : ℕ) (own : List Entry) → (old.done ≡ length old.steps → upto ≡ old.done) → AreMarks (logged_in own) → new.done ≡ upto → new.steps ≡ old.steps → IsReaderKept old new → IsTrue new.ended
      → HasReachedEnd (with_entries wal (added_by wal old.done upto own)) new
  ended_on upto own stays marks done steps kept is =
      let was : HasReachedEnd wal old = of_old.ended (sym kept.ended ∙ is) in
      let here : upto ≡ old.done = stays was.done in
      let added : added_by wal old.done upto own ≡ own =
      ap (λ (n : ℕ). added_by wal old.done n own) here ∙ ap (λ (l : List Entry). l ++ own) (released_none wal.workload old.done) in
      record {
        done = done ∙ here ∙ was.done ∙ ap length (sym steps);
        read = λ place at. subst (λ (l : List Entry). AreMarks (drop (index_of place) (logged_in (wal.entries ++ l)))) (sym added)
            (subst (λ (l : List Logged). AreMarks (drop (index_of place) l)) (sym (filter_map-append logged_by wal.entries own))
            (marks_on (index_of place) (logged_in wal.entries) (logged_in own) (was.read place (sym kept.place ∙ at)) marks));
        whole = λ place at. was.whole place (sym kept.place ∙ at);
      }
