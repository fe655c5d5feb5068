-- An event's value, put together from its head and its tail.
use Rattle.std.proofs.Common.{◌≡◌, ◌∙◌, ◌++◌, ℕ, List, ap, ap₂, append_assoc, codes}
use Rattle.json.specs.Print.{print}
use Rattle.json.specs.Tree.{json_tokens}
use Rattle.serde_json.specs.Written.{outline, compact_text}
use Rattle.dbl_envelope_json.specs.declared.layout.Layout.{Layout}
use Rattle.dbl_envelope_json.specs.declared.frame.Frame.{Frame}
use Rattle.dbl_envelope_json.specs.declared.side.Side.{Side}
use Rattle.dbl_envelope_json.specs.Tokens.{head_tokens}
use Rattle.dbl_envelope_json.specs.Frames.{Framed, IsWide, side_data, side_row, framed_event}
use Rattle.dbl_envelope_json.proofs.TokenLemmas.{value_parts}
use Rattle.dbl_envelope_json.proofs.SideLemmas.{side_is}

pub value_is : (frame : Frame) (after before : Side) (op head text : List ℕ) → Framed frame → IsWide frame.info.now after → IsWide frame.info.now before
    → head ≡ print (head_tokens (json_tokens (outline (side_data frame.identity.now.placeholder frame.layout.now.columns after))) (json_tokens (outline (side_data frame.identity.now.placeholder frame.layout.now.columns before))) op)
    → text ≡ (head ++ codes ",") ++ frame.tail.now
    → text ≡ compact_text (framed_event frame (side_row frame.identity.now frame.info.now before) op (side_row frame.identity.now frame.info.now after))
value_is frame after before op head text framed wide_after wide_before head_is text_is =
    let identity = frame.identity.now in
    let info = frame.info.now in
    let a : side_data identity.placeholder frame.layout.now.columns after ≡ side_row identity info after = ap (λ (l : Layout). side_data identity.placeholder l.columns after) framed.layout ∙ side_is identity info after wide_after in
    let b : side_data identity.placeholder frame.layout.now.columns before ≡ side_row identity info before = ap (λ (l : Layout). side_data identity.placeholder l.columns before) framed.layout ∙ side_is identity info before wide_before in
    text_is
    ∙ append_assoc head (codes ",") frame.tail.now
    ∙ ap₂ (λ h t. h ++ (codes "," ++ t)) (head_is ∙ ap₂ (λ x y. print (head_tokens (json_tokens (outline x)) (json_tokens (outline y)) op)) a b) framed.tail
    ∙ value_parts identity info.name frame.commit.now frame.snapshot.now frame.now_ms.now (side_row identity info after) (side_row identity info before) op
