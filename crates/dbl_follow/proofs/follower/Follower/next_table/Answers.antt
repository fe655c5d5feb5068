use Rattle.std.proofs.Common.{◌≡◌, ◌<◌, ◌≤◌, false, None, length, not, sym, arith}
use Rattle.std.proofs.lemmas.List.Quantifiers.{position-Some}
use Rattle.dbl_model_history.specs.declared.cursor.Cursor.{Cursor}
use Rattle.dbl_follow.proofs.StepLemmas.{cursors_long}
use Rattle.dbl_follow.proofs.follower.Follower.next_table.Goals as goal

no_cursor : Cursor
no_cursor = record { last = None; done = false }

pub overflow_cast-result : goal.overflow_cast-result
overflow_cast-result c =
    let cursors = c.self.inside.cursors.items in
    let infos = c.self.inside.writer.infos in
    let lt : c.in-Some.table < length cursors = (position-Some (λ (cursor : Cursor). not cursor.done) cursors c.in-Some.table no_cursor (sym c.in-Some.ensures)).0 in
    let long : length cursors ≡ length infos = cursors_long infos cursors c.self.invariant.cursors_are in
    let few : length infos ≤ 64 = c.self.invariant.few in
    omega (arith, lt, long, few)
