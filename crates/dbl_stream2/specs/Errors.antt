-- Errors of the bytes among those of the stream.
use Rattle.dbl_pgmsg.specs.declared.error.MsgError.{MsgError}
use Rattle.dbl_pgmsg.specs.declared.error.MsgError.TheVariants as bytes
use Rattle.dbl_stream2.specs.declared.error.StreamError.{StreamError}
use Rattle.dbl_stream2.specs.declared.error.StreamError.TheVariants.{Message, Memory}

-- the error of a stream whose message has this error; out of memory stays itself
abbrev pub wrapped : MsgError → StreamError
wrapped bytes.Memory = Memory
wrapped error = Message error
