use Rattle.std.proofs.Common.{◌≡◌, ◌∙◌, Some, sym, arith}
use Rattle.std.proofs.lemmas.Result.{IfErr-weaker, IfOk-weaker, MatchResult-weaker}
use Rattle.dbl_demo_laws.proofs.OpenLemmas.{bad_of_bytes, wal_of_bytes}
use Rattle.dbl_demo.proofs.OpeningLemmas.{as_failed, as_no_journal, is_failed, journal_kind, log_journal, log_kind, no_bad_entry}
use Rattle.dbl_demo.proofs.source.DemoSource.open.Goals as goal

-- ---- its entries were read

pub returns-in-Ok-clause-opened : goal.returns-in-Ok-clause-opened
returns-in-Ok-clause-opened g c = λ bytes told.
    let opened = c.in-Ok.ensures.opened bytes told in
    IfOk-weaker c.open_journal.result _ _ (λ source found. wal_of_bytes g.D.Disk bytes opened.0 opened.1 _ found) (c.open_journal.ensures.opened opened.0 opened.2)

pub returns-in-Ok-clause-bad : goal.returns-in-Ok-clause-bad
returns-in-Ok-clause-bad g c = λ bytes index told.
    let opened = c.in-Ok.ensures.opened bytes told in
    IfErr-weaker c.open_journal.result _ _ (λ refused bad is. bad_of_bytes g.D.Disk bytes opened.0 opened.1 index (bad is)) (c.open_journal.ensures.bad opened.0 index opened.2)

pub returns-in-Ok-clause-not_a_journal : goal.returns-in-Ok-clause-not_a_journal
returns-in-Ok-clause-not_a_journal g c = λ bytes at told.
    IfErr-weaker c.open_journal.result _ _ (λ refused kinds is. absurd (log_journal refused.error kinds at is)) c.open_journal.ensures.kinds

pub returns-in-Ok-clause-kinds : goal.returns-in-Ok-clause-kinds
returns-in-Ok-clause-kinds g c =
    IfErr-weaker c.open_journal.result _ _ (λ refused kinds. log_kind refused.error kinds) c.open_journal.ensures.kinds

pub returns-in-Ok-clause-failed : goal.returns-in-Ok-clause-failed
returns-in-Ok-clause-failed g c =
    let later = c.in-Ok.ensures.keeps.later in
    MatchResult-weaker c.open_journal.result c.open_journal.ensures.read (λ source read. tt) (λ refused read is. omega (arith, later, read.cause is))

pub returns-in-Ok-clause-seen : goal.returns-in-Ok-clause-seen
returns-in-Ok-clause-seen g c =
    MatchResult-weaker c.open_journal.result c.open_journal.ensures.read (λ source read. read.same ∙ c.in-Ok.ensures.keeps.same) (λ refused read. read.same ∙ c.in-Ok.ensures.keeps.same)

pub returns-in-Ok-clause-crash : goal.returns-in-Ok-clause-crash
returns-in-Ok-clause-crash g c = λ crashed.
    MatchResult-weaker c.open_journal.result c.open_journal.ensures.read (λ source read may. c.in-Ok.ensures.keeps.crash crashed (read.crash crashed may)) (λ refused read may. c.in-Ok.ensures.keeps.crash crashed (read.crash crashed may))

pub returns-in-Ok-clause-stable : goal.returns-in-Ok-clause-stable
returns-in-Ok-clause-stable g c = λ bytes told.
    let opened = c.in-Ok.ensures.opened bytes told in
    let is : Some opened.2.bytes ≡ Some bytes = sym opened.2.told ∙ c.in-Ok.ensures.keeps.same ∙ told in
    let same : opened.2.bytes ≡ bytes = cc in
    MatchResult-weaker c.open_journal.result c.open_journal.ensures.read (λ source read crashed may. opened.2.only crashed (read.crash crashed may) ∙ same) (λ refused read no crashed may. opened.2.only crashed (read.crash crashed may) ∙ same)

pub returns-in-Ok-clause-later : goal.returns-in-Ok-clause-later
returns-in-Ok-clause-later g c =
    let later = c.in-Ok.ensures.keeps.later in
    MatchResult-weaker c.open_journal.result c.open_journal.ensures.read (λ source read. omega (arith, later, read.later)) (λ refused read. omega (arith, later, read.later))

pub returns-in-Ok-clause-steady : goal.returns-in-Ok-clause-steady
returns-in-Ok-clause-steady g c =
    MatchResult-weaker c.open_journal.result c.open_journal.ensures.read
    (λ source read bytes told. read.steady (λ never. never) bytes (c.in-Ok.ensures.keeps.same ∙ told) ∙ c.in-Ok.ensures.keeps.steady (λ never. never) bytes told)
    (λ refused read no bytes told. read.steady no bytes (c.in-Ok.ensures.keeps.same ∙ told) ∙ c.in-Ok.ensures.keeps.steady (λ never. never) bytes told)

-- ---- the journal couldn't be opened

pub returns-in-Err-clause-bad : goal.returns-in-Err-clause-bad
returns-in-Err-clause-bad g c = λ bytes index told is. absurd (no_bad_entry c.in-Err.field-0.error c.from.result c.from.ensures index is)

pub returns-in-Err-clause-not_a_journal : goal.returns-in-Err-clause-not_a_journal
returns-in-Err-clause-not_a_journal g c = λ bytes at told is. c.in-Err.ensures.refused bytes told at (as_no_journal c.in-Err.field-0.error c.from.result c.from.ensures at is)

pub returns-in-Err-clause-kinds : goal.returns-in-Err-clause-kinds
returns-in-Err-clause-kinds g c = journal_kind c.in-Err.field-0.error c.from.result c.from.ensures c.in-Err.ensures.short

pub returns-in-Err-clause-failed : goal.returns-in-Err-clause-failed
returns-in-Err-clause-failed g c = λ is. c.in-Err.ensures.keeps.cause (as_failed c.in-Err.field-0.error c.from.result c.from.ensures is)

pub returns-in-Err-clause-stable : goal.returns-in-Err-clause-stable
returns-in-Err-clause-stable g c = λ bytes told no. c.in-Err.ensures.stable bytes told (λ is. no (is_failed c.in-Err.field-0.error c.from.result c.from.ensures is))

pub returns-in-Err-clause-steady : goal.returns-in-Err-clause-steady
returns-in-Err-clause-steady g c = λ no bytes told. c.in-Err.ensures.keeps.steady (λ is. no (is_failed c.in-Err.field-0.error c.from.result c.from.ensures is)) bytes told

pub returns-in-Err-clause-seen : goal.returns-in-Err-clause-seen
returns-in-Err-clause-seen g c = c.in-Err.ensures.keeps.same

pub returns-in-Err-clause-crash : goal.returns-in-Err-clause-crash
returns-in-Err-clause-crash g c = c.in-Err.ensures.keeps.crash

pub returns-in-Err-clause-later : goal.returns-in-Err-clause-later
returns-in-Err-clause-later g c = c.in-Err.ensures.keeps.later
