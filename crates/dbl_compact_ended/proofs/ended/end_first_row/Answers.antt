use Rattle.std.proofs.Common.{◌∙◌, ◌||◌, ℕ, List, Bool, false, Some, bytes_eq, refl, sym, ap, subst}
use Rattle.std.specs.BTreeMap.{Updates}
use Rattle.dbl_base.specs.Texts.{text_cmp}
use Rattle.dbl_compact_ended.proofs.EndedLemmas.{row_ended, no_key}
use Rattle.dbl_compact_ended.proofs.ended.end_first_row.Goals as goal

pub returns : goal.returns
returns c =
    let old = c.args.ended.now in
    let topic = c.args.topic.now in
    let updates : Updates text_cmp old c.insert.new.self topic (Some c.end_key.new.ended)
    = subst (λ (t : List ℕ). Updates text_cmp old c.insert.new.self t (Some c.end_key.new.ended)) c.in_ok-copy.ensures c.in_ok-insert.ensures.updates in
    row_ended old c.insert.new.self topic c.args.key c.end_key.new.ended updates
    (λ k.
    c.in_ok-end_key.ensures k
    ∙ ap (λ (b : Bool). bytes_eq c.args.key k || b) (no_key (record { all = false; keys = c.new.result }) refl c.new.ensures.empty k ∙ sym (c.requires k)))
