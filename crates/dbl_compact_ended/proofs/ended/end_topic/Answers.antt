use Rattle.std.proofs.Common.{ℕ, List, true, Some, refl, subst}
use Rattle.std.specs.BTreeMap.{Updates}
use Rattle.dbl_base.specs.Texts.{text_cmp}
use Rattle.dbl_compact_ended.specs.declared.ended.EndedKeys.{EndedKeys}
use Rattle.dbl_compact_ended.proofs.EndedLemmas.{topic_ended}
use Rattle.dbl_compact_ended.proofs.ended.end_topic.Goals as goal

pub returns : goal.returns
returns c =
    let old = c.args.ended.now in
    let new = c.insert.new.self in
    let keys : EndedKeys = record { all = true; keys = c.new.result } in
    let updates : Updates text_cmp old new c.args.topic.now (Some keys)
    = subst (λ (t : List ℕ). Updates text_cmp old new t (Some keys)) c.in_ok-copy.ensures c.in_ok-insert.ensures.updates in
    topic_ended old new c.args.topic.now keys updates refl
