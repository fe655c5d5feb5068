use Rattle.std.proofs.Common.{◌≡◌, ◌+◌, length, inl, inr, sym, subst, arith}
use Rattle.dbl_frames.specs.Stream.{Reader, WasFed, bytes_fed}
use Rattle.dbl_frames.proofs.StepLemmas.{fed_exactly, fed_fault, fed_prefix, fed_read, reads_count, same_error}
use Rattle.dbl_frames.proofs.StreamLemmas.{not_both}
use Rattle.dbl_frames.proofs.frames.Frames.feed.Goals as goal

pub returns-in-Ok-clause-fed : goal.returns-in-Ok-clause-fed
returns-in-Ok-clause-fed c fed frames was =
    let w = subst (λ (r : Reader). WasFed fed frames r) (sym c.self.view_is) was in
    fed_read fed c.args.piece.now frames c.args.out.now.items c.read_piece.new.out.items _ _ w c.in-Ok.ensures.read w.ready

pub returns-in-Ok-clause-exactly : goal.returns-in-Ok-clause-exactly
returns-in-Ok-clause-exactly c fed frames all error was is =
    let w = subst (λ (r : Reader). WasFed fed frames r) (sym c.self.view_is) was in
    let new : Reader = record { at = c.read_piece.new.partial.at; unfinished = c.read_piece.new.partial.bytes.items; failed = c.self.inside.failed } in
    let now = fed_read fed c.args.piece.now frames c.args.out.now.items c.read_piece.new.out.items _ new w c.in-Ok.ensures.read w.ready in
    absurd (not_both _ _ all _ error now.2.read is)

pub returns-in-Ok-clause-prefix : goal.returns-in-Ok-clause-prefix
returns-in-Ok-clause-prefix c fed frames was =
    let w = subst (λ (r : Reader). WasFed fed frames r) (sym c.self.view_is) was in
    let new : Reader = record { at = c.read_piece.new.partial.at; unfinished = c.read_piece.new.partial.bytes.items; failed = c.self.inside.failed } in
    let now = fed_read fed c.args.piece.now frames c.args.out.now.items c.read_piece.new.out.items _ new w c.in-Ok.ensures.read w.ready in
    (now.0, now.1, now.2.read.begins)

pub returns-in-Ok-clause-count : goal.returns-in-Ok-clause-count
returns-in-Ok-clause-count c =
    subst (λ (r : Reader). c.read_piece.new.partial.at + length c.read_piece.new.partial.bytes.items ≡ bytes_fed r + length c.args.piece.now) c.self.view_is
    (omega (arith, reads_count _ _ _ _ _ _ _ _ c.in-Ok.ensures.read))

pub returns-in-Err-clause-fault : goal.returns-in-Err-clause-fault
returns-in-Err-clause-fault c fed frames was other =
    let w = subst (λ (r : Reader). WasFed fed frames r) (sym c.self.view_is) was in
    fed_fault fed c.args.piece.now frames c.args.out.now.items c.read_piece.new.out.items _ c.in-Err.error w c.in-Err.ensures.stops other

pub returns-in-Err-clause-exactly : goal.returns-in-Err-clause-exactly
returns-in-Err-clause-exactly c fed frames all error was is =
    let w = subst (λ (r : Reader). WasFed fed frames r) (sym c.self.view_is) was in
    elim (fed_exactly fed c.args.piece.now frames all c.args.out.now.items c.read_piece.new.out.items _ c.in-Err.error error w c.in-Err.ensures.stops is) [
      | inl same ↦ inl (same_error c.in-Err.error error same)
      | inr memory ↦ inr (same_error c.in-Err.error _ memory)
    ]

pub returns-in-Err-clause-prefix : goal.returns-in-Err-clause-prefix
returns-in-Err-clause-prefix c fed frames was =
    let w = subst (λ (r : Reader). WasFed fed frames r) (sym c.self.view_is) was in
    fed_prefix fed c.args.piece.now frames c.args.out.now.items c.read_piece.new.out.items _ c.in-Err.error w c.in-Err.ensures.stops
