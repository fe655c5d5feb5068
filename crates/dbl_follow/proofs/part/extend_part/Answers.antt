use Rattle.std.proofs.Common.{◌≡◌, ℤ, List, sym, subst, rules, of_z, to_z, w64}
use Rattle.std.specs.Prelude.{IfOk}
use Rattle.std.proofs.Math.Facts.{to_z-of_z}
use Rattle.dbl_record.specs.declared.record.Record.{Record}
use Rattle.dbl_envelope.specs.SoFar.{HasMadeRecords, made_by}
use Rattle.dbl_follow.specs.Amid.{HoldsLast}
use Rattle.dbl_follow.proofs.part.extend_part.Goals as goal

pub hold_last-requires-clause-tails : goal.hold_last-requires-clause-tails
hold_last-requires-clause-tails c = c.requires.made.tails

pub returns-clause-held : goal.returns-clause-held
returns-clause-held c =
    let part = c.args.part in
    let made = made_by part.records in
    let time : to_z w64 (of_z w64 part.now_ms) ≡ part.now_ms = to_z-of_z {w = w64} {z = part.now_ms} (search rules) in
    subst (λ (l : List Record). IfOk c.hold_last.result
    (HoldsLast c.args.writer.now part.head part.now_ms made c.args.change.now l c.hold_last.new.out.items)) c.in_ok-push.ensures.items
    (subst (λ (m : ℤ). IfOk c.hold_last.result
    (HoldsLast c.args.writer.now part.head m made c.args.change.now c.push.new.self.items c.hold_last.new.out.items)) time
    (c.hold_last.ensures.held made (subst (λ (m : ℤ). HasMadeRecords c.args.writer.now part.head m made part.records) (sym time) c.requires.made)))
