use Rattle.std.proofs.Common.{◌≡◌, ◌∙◌, ℕ, length, ap}
use Rattle.dbl_model_event.specs.Snapshots.{progress_record}
use Rattle.dbl_envelope.proofs.SnapshotLemmas.{chunk_is}
use Rattle.dbl_envelope.proofs.snapshot.chunk_records.Goals as goal

pub returns : goal.returns
returns c =
    let frame = c.args.frame.now in
    let info = frame.info.now in
    let made = c.in_ok-made.made.items in
    let count : c.len-ordinal.result ≡ length made = c.len-ordinal.ensures ∙ c.in_ok-made.made.ok.0 in
    let last = c.in_ok-progress_record.ensures ∙ ap (λ (n : ℕ). progress_record frame.identity.now info frame.commit.now n c.args.through.now c.args.done) count in
    chunk_is frame.identity.now info frame.commit.now frame.now_ms.now c.args.rows.now c.args.through.now c.args.done made _ _ c.in_ok-made.ensures c.in_ok-push.ensures.items last
