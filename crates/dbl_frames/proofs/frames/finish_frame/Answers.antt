use Rattle.std.proofs.Common.{◌∙◌, refl, sym, ap, inl, inr, arith}
use Rattle.std.proofs.lemmas.List.{append-nil}
use Rattle.dbl_frames_heads.specs.Faults.{head_fault}
use Rattle.dbl_frames.proofs.StepLemmas.{reads_whole, stops_none}
use Rattle.dbl_frames.proofs.frames.finish_frame.Goals as goal

pub returns-in-Some-clause-stops : goal.returns-in-Some-clause-stops
returns-in-Some-clause-stops c =
    let at = c.args.partial.now.at in
    let bytes = c.args.partial.now.bytes.items in
    stops_none at bytes _ _ _ _ refl
    (inr (ap (head_fault at) (append-nil bytes ∙ sym c.deref.ensures.value) ∙ sym c.in-Some.ensures))

pub returns-in-Err-clause-stops : goal.returns-in-Err-clause-stops
returns-in-Err-clause-stops c = stops_none _ _ _ _ _ _ c.in-Err.ensures.same (inl refl)

pub returns-in-Ok-clause-read : goal.returns-in-Ok-clause-read
returns-in-Ok-clause-read c =
    let frame = c.in-Ok.ensures.frame in
    reads_whole c.args.partial.now.at _ c.args.partial.now.bytes.items c.clear.new.self.items c.args.out.now.items c.append_frame.new.out.items
    frame.0 frame.1
    (sym c.deref-3.ensures.value ∙ frame.2)
    (omega (arith, c.len-in-Ok.ensures, c.args.partial.now.bytes.ok))
    c.clear.ensures.items
    frame.3
