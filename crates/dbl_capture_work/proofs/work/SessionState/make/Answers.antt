use Rattle.std.proofs.Common.{ℤ, refl, subst, of_z, to_z, w64}
use Rattle.std.specs.Prelude.{None}
use Rattle.std.proofs.lemmas.Int.{to_z-of_z}
use Rattle.dbl_capture_work.specs.declared.work.SessionState.{SessionState}
use Rattle.dbl_capture_work.specs.Works.{BeginsWithOffset}
use Rattle.dbl_capture_work.proofs.Working.{work_begins}
use Rattle.dbl_capture_work.proofs.work.SessionState.make.Goals as goal

pub returns-clause-made : goal.returns-clause-made
returns-clause-made c =
    let work : SessionState = record {
      alloc = c.args.alloc;
      offset = c.args.offset;
      assembler = c.make-assembler.result;
      follower = c.in_ok-follower.follower;
      batch = None;
      now_ms = to_z w64 (of_z w64 c.args.now_ms);
      chunk = c.args.chunk;
      every = c.args.every;
      since = 0;
      number = 0;
    } in
    subst (λ (now : ℤ). BeginsWithOffset c.args.offset now c.args.chunk c.args.every work) (to_z-of_z w64 c.args.now_ms c.ranges.now_ms)
    (work_begins c.args.offset c.in_ok-infos_of.field-0.items work c.requires.offset refl c.in_ok-follower.ensures.made c.in_ok-infos_of.ensures c.make-assembler.ensures c.requires.some_rows c.requires.few_rows c.requires.some refl refl refl)
