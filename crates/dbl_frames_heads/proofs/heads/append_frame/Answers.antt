use Rattle.std.proofs.Common.{◌++◌, [], ◌∷◌, ◌∙◌, ap}
use Rattle.dbl_frames_heads.specs.declared.frame.Frame.{Frame}
use Rattle.dbl_frames_heads.specs.Fields.{frame_at}
use Rattle.dbl_frames_heads.proofs.HeadLemmas.{HasBytes}
use Rattle.dbl_frames_heads.proofs.FrameLemmas.{whole_fields, whole_form, whole_head}
use Rattle.dbl_frames_heads.proofs.heads.append_frame.Goals as goal

pub read_frame-requires-clause-keepalive : goal.read_frame-requires-clause-keepalive
read_frame-requires-clause-keepalive c =
    (whole_fields c.requires.sound.0 c.args.bytes.now c.requires.sound.1 c.requires.whole).keepalive

pub read_frame-requires-clause-payload : goal.read_frame-requires-clause-payload
read_frame-requires-clause-payload c =
    (whole_fields c.requires.sound.0 c.args.bytes.now c.requires.sound.1 c.requires.whole).payload

pub returns-clause-frame : goal.returns-clause-frame
returns-clause-frame c =
    let are : HasBytes c.args.bytes.now = λ i. (c.type_inv.bytes i).fits in
    let head = whole_head c.requires.sound.0 c.args.bytes.now c.requires.sound.1 c.requires.whole in
    let form = whole_form c.requires.sound.0 c.args.bytes.now are c.requires.sound.1 head c.requires.whole in (
      frame_at c.args.bytes.now,
      form.fits,
      form.encoded,
      c.in_ok-push.ensures.items ∙ ap (λ (f : Frame). c.args.out.now.items ++ f ∷ []) c.in_ok-frame.ensures,
    )
