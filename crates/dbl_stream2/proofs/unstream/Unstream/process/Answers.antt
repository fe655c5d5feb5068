use Rattle.std.proofs.Common.{ℤ, SFits, rules, subst}
use Rattle.std.specs.Prelude.{MatchResult}
use Rattle.std.specs.Int.{w64}
use Rattle.std.proofs.lemmas.Int.{to_z-of_z}
use Rattle.dbl_stream2.specs.declared.messages.StreamMessage.TheVariants.{Commit}
use Rattle.dbl_stream2.specs.State.{HasProcessed, FailsWith}
use Rattle.dbl_stream2.proofs.unstream.Unstream.process.Goals as goal

pub returns-in-Commit : goal.returns-in-Commit
returns-in-Commit c = λ past s. (
    let fits : SFits w64 c.in-Commit.time = search rules in
    rw c.in-Commit.is (subst (λ (t : ℤ). MatchResult c.commit_stream.result
    (λ out. HasProcessed past (Commit c.in-Commit.xid c.in-Commit.flags c.in-Commit.lsn c.in-Commit.end_lsn t) out.items c.commit_stream.new.self)
    (FailsWith past (Commit c.in-Commit.xid c.in-Commit.flags c.in-Commit.lsn c.in-Commit.end_lsn t)))
    (to_z-of_z w64 c.in-Commit.time fits) (c.commit_stream.ensures past s)))
