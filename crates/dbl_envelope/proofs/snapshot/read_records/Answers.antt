use Rattle.std.proofs.Common.{◌≡◌, ◌∙◌, ◌++◌, ℕ, List, length, ap, subst}
use Rattle.dbl_model_table.specs.declared.row.Key.{Key}
use Rattle.dbl_model_table.specs.declared.row.Row.{Row}
use Rattle.dbl_model_event.specs.Snapshots.{read_record, read_records}
use Rattle.dbl_envelope.specs.Suits.{SuitsRows}
use Rattle.dbl_envelope.proofs.SnapshotLemmas.{read_step}
use Rattle.dbl_envelope.proofs.snapshot.read_records.Goals as goal

pub read_record-requires : goal.read_record-requires
read_record-requires c =
    let suits = subst (SuitsRows c.args.frame.now.info.now) c.in-Some.ensures.steps c.loop-key.invariant.0 in
    record { framed = c.requires.framed; snapshot = c.requires.snapshot; long = suits.0.0; wide = suits.0.1 }

pub loop-key-preserved : goal.loop-key-preserved
loop-key-preserved c =
    let frame = c.args.frame.now in
    let info = frame.info.now in
    let suits = subst (SuitsRows info) c.in-Some.ensures.steps c.loop-key.invariant.0 in
    let made = c.loop-key.made.items in
    let all = read_records frame.identity.now info frame.commit.now frame.now_ms.now 0 c.args.rows.now in
    let before = subst (λ (rows : List (Key × Row)). made ++ read_records frame.identity.now info frame.commit.now frame.now_ms.now (length made) rows ≡ all) c.in-Some.ensures.steps c.loop-key.invariant.1 in
    let e : Key × Row = (c.in-Some.key.now, c.in-Some.row.now) in
    let count : c.len-ordinal.result ≡ length made = c.len-ordinal.ensures ∙ c.loop-key.made.ok.0 in
    let is = c.in_ok-read_record.ensures ∙ ap (λ (n : ℕ). read_record frame.identity.now info frame.commit.now frame.now_ms.now n e) count in
    (suits.1, read_step frame.identity.now info frame.commit.now frame.now_ms.now made _ e c.next.new.self _ all before c.in_ok-push.ensures.items is)
