-- A source's error as one of a window.
use Rattle.dbl_source.specs.SourceLog.declared.error.SourceError.{SourceError}
use Rattle.dbl_source.specs.SourceLog.declared.error.SourceError.TheVariants as source
use Rattle.dbl_window.specs.declared.error.WindowError.{WindowError}
use Rattle.dbl_window.specs.declared.error.WindowError.TheVariants as window

-- The window's error for an error of its source.
abbrev pub window_fault : SourceError → WindowError
window_fault source.Failed = window.Failed
window_fault source.Memory = window.Memory
