-- The errors of the source's parts, as the source's own.
use Rattle.dbl_journal.specs.declared.error.JournalError.TheVariants as journal
use Rattle.dbl_demo_workload.specs.declared.error.DemoError.{DemoError}
use Rattle.dbl_demo_workload.specs.declared.error.DemoError.TheVariants as demo

-- The errors of opening a source: a failed disk, no journal, a bad entry, or out of memory.
abbrev pub IsOpenFault : DemoError → Type 0
IsOpenFault (demo.Journal journal.Failed) = Unit {0}
IsOpenFault (demo.Journal (journal.NotAJournal at)) = Unit {0}
IsOpenFault (demo.BadEntry index) = Unit {0}
IsOpenFault demo.Memory = Unit {0}
IsOpenFault e = ⊥

-- The errors of making a source: a failed disk, a bad workload, or out of memory.
abbrev pub IsMakeFault : DemoError → Type 0
IsMakeFault (demo.Journal journal.Failed) = Unit {0}
IsMakeFault (demo.Script e) = Unit {0}
IsMakeFault (demo.Model e) = Unit {0}
IsMakeFault demo.Memory = Unit {0}
IsMakeFault e = ⊥
