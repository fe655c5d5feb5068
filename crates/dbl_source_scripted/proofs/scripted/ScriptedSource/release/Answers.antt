use Rattle.std.proofs.Common.{◌∙◌, List, length, subst}
use Rattle.std.specs.Prelude.{OnOk}
use Rattle.dbl_pgmsg.specs.declared.messages.Message.{Message}
use Rattle.dbl_source_scripted.specs.Moves.{HasRoom}
use Rattle.dbl_source_scripted.specs.Played.{Played, commits_with, past_move}
use Rattle.dbl_source_scripted.proofs.PlannedLemmas.{planned_after}
use Rattle.dbl_source_scripted.proofs.MemoryLemmas.{added_after}
use Rattle.dbl_source_scripted.proofs.scripted.ScriptedSource.release.Goals as goal

pub returns-clause-room : goal.returns-clause-room
returns-clause-room c =
    subst (λ (b : List (List Message)). OnOk c.begin.result (HasRoom (length c.args.self.now.log) (length (commits_with b (past_move c.args.self.now))) c.args.own)) (c.into_items.ensures ∙ c.next_move-before.ensures.before)
    (subst (λ (m : Played). OnOk c.begin.result (HasRoom (length m.log) (length (commits_with c.into_items.result.items m)) c.args.own)) c.next_move-before.ensures.past c.begin.ensures.room)

pub returns-clause-planned : goal.returns-clause-planned
returns-clause-planned c = planned_after _ _ _ _ _ _ c.next_move-before.ensures.past (c.into_items.ensures ∙ c.next_move-before.ensures.before) c.begin.ensures.full c.begin.ensures.listed c.begin.ensures.failing c.begin.ensures.failed

pub returns-clause-memory : goal.returns-clause-memory
returns-clause-memory c memory = added_after c.args.self.now c.next_move-before.new.self c.begin.new.self c.into_items.result.items c.next_move-before.ensures.past (c.into_items.ensures ∙ c.next_move-before.ensures.before) (c.begin.ensures.memory memory)
