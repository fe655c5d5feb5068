use Rattle.std.proofs.Common.{◌≡◌, ℕ, List, ap}
use Rattle.dbl_demo_wal.specs.declared.entry.Entry.{Entry}
use Rattle.dbl_demo_wal.specs.Entries.{EncodesEntry}
use Rattle.dbl_demo_wal.proofs.EntryLaws.{one_entry}
use Rattle.dbl_demo_wal.specs.Sound.{logged_by}
use Rattle.dbl_demo.proofs.reading.commit_in.Goals as goal

-- bytes spell one entry, and so one commit
one_commit : (bytes : List ℕ) (read entry : Entry) → EncodesEntry bytes read → EncodesEntry bytes entry → logged_by read ≡ logged_by entry
one_commit bytes read entry is spells = ap logged_by (one_entry bytes read entry is spells)

pub returns-in-Ok-Commits-clause-commit : goal.returns-in-Ok-Commits-clause-commit
returns-in-Ok-Commits-clause-commit c = λ entry spells.
    let same = one_commit c.args.bytes.now c.in-Ok-Commits.field-0 entry c.in-Ok-Commits.ensures.read spells in
    let is = ap logged_by c.in-Ok-Commits.field-0-is in
    cc

pub returns-in-Ok-Marks-clause-commit : goal.returns-in-Ok-Marks-clause-commit
returns-in-Ok-Marks-clause-commit c = λ entry spells.
    let same = one_commit c.args.bytes.now c.in-Ok-Marks.field-0 entry c.in-Ok-Marks.ensures.read spells in
    let is = ap logged_by c.in-Ok-Marks.field-0-is in
    cc

pub returns-in-Ok-Confirms-clause-commit : goal.returns-in-Ok-Confirms-clause-commit
returns-in-Ok-Confirms-clause-commit c = λ entry spells.
    let same = one_commit c.args.bytes.now c.in-Ok-Confirms.field-0 entry c.in-Ok-Confirms.ensures.read spells in
    let is = ap logged_by c.in-Ok-Confirms.field-0-is in
    cc
