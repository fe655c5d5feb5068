use Rattle.std.proofs.Common.{◌≡◌, ◌∙◌, ◌||◌, Bool, Some, IsSome, bytes_eq, refl, ap, subst}
use Rattle.std.proofs.lemmas.Result.{on_ok_weaker}
use Rattle.std.specs.BTreeMap.{Updates, get}
use Rattle.dbl_base.specs.Texts.{text_cmp}
use Rattle.dbl_compact_ended.proofs.EndedLemmas.{row_ended, keys_at}
use Rattle.dbl_compact_ended.proofs.ended.end_row.Goals as goal

pub returns-in-Some : goal.returns-in-Some
returns-in-Some c =
    let old = c.args.ended.now in
    let topic = c.args.topic.now in
    let found : Some c.in-Some.keys.now ≡ get text_cmp old topic = c.in-Some.ensures.value in
    let new = c.get_mut.follows.lender c.end_key.new.ended in
    let updates : Updates text_cmp old new topic (Some c.end_key.new.ended) = (c.get_mut.follows.holds c.end_key.new.ended).3 (subst IsSome found refl) in
    on_ok_weaker c.end_key.result
    (λ changed. row_ended old new topic c.args.key c.end_key.new.ended updates
    (λ k. changed k ∙ ap (λ (b : Bool). bytes_eq c.args.key k || b) (keys_at old topic c.in-Some.keys.now found k))) c.end_key.ensures
