use Rattle.std.proofs.Common.{◌≡◌, ◌⊎◌, ◌∙◌, ◌++◌, ◌∷◌, [], List, ℕ, length, ap, subst}
use Rattle.dbl_journal.specs.Form.{IsJournal}
use Rattle.dbl_journal.proofs.Appends.{length-places}
use Rattle.dbl_journal.proofs.Reading.{one_journal}
use Rattle.dbl_journal.proofs.laws.lists_are_one.Goals as goal

pub returns-clause-one : goal.returns-clause-one
returns-clause-one g c journal first second a b =
    let same : a.bytes ≡ b.bytes = cc (a.told, b.told) in
    one_journal b.bytes first second (subst (λ (l : List ℕ). IsJournal l first) same a.spelled) b.spelled

pub returns-clause-counted : goal.returns-clause-counted
returns-clause-counted g c journal entries lists = ap length lists.places ∙ length-places entries 8

pub returns-clause-left : goal.returns-clause-left
returns-clause-left g c journal entries left lists may =
    one_journal lists.bytes left entries (subst (λ (l : List ℕ). IsJournal l left) (lists.only may.0 may.1) may.2) lists.spelled

pub returns-clause-listed : goal.returns-clause-listed
returns-clause-listed g c journal entries lists = (lists.bytes, g.met.D.Disk.seen_may_be_left journal.disk lists.bytes lists.told, lists.spelled)

pub returns-clause-one_of : goal.returns-clause-one_of
returns-clause-one_of g c disk entries left entry leaves may =
    let here = leaves may.0 may.1 in
    subst (λ (l : List (List ℕ)). (l ≡ entries) ⊎ (l ≡ entries ++ entry ∷ [])) (one_journal may.0 here.0 left here.1 may.2) here.2
