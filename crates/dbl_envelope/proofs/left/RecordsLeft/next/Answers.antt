use Rattle.std.proofs.Common.{◌≡◌, ◌∙◌, length, sym, ap, arith}
use Rattle.dbl_model_table.specs.Rows.{changes_of}
use Rattle.dbl_envelope.proofs.CommitLemmas.{nothing_left}
use Rattle.dbl_envelope.proofs.left.RecordsLeft.next.Goals as goal

pub returns-clause-end : goal.returns-clause-end
returns-clause-end c = λ none.
    let left = c.self.inside in
    let stays : c.next_place-upto.result ≡ left.change = omega (arith, c.in_ok-made.ensures.some, ap length none) in
    let end : left.change ≡ length (changes_of left.commit.now) = c.next_place-upto.ensures.more stays ∙ ap length c.changes.ensures in
    sym c.self.view_is ∙ nothing_left left.writer.now left.commit.now left.now_ms left.change left.ordinal end
