use Rattle.std.proofs.Common.{◌≡◌, ◌∙◌, ◌++◌, List, length, map, take, sym, ap, arith}
use Rattle.std.proofs.lemmas.List.{map-id, length-map, take-map}
use Rattle.std.proofs.lemmas.Iterator.Adapters.{YieldsList-from_vec}
use Rattle.std.proofs.lemmas.Iterator.Consumers.{YieldsList-so_far, YieldsList-turn}
use Rattle.dbl_pgmsg.specs.declared.messages.Message.{Message}
use Rattle.dbl_source_log.specs.declared.logged.Logged.{Logged}
use Rattle.dbl_source_log.specs.declared.logged.Logged.TheVariants.{Changes}
use Rattle.dbl_source_scripted.specs.Steps.{HasPlayed}
use Rattle.dbl_source_scripted.proofs.CallLemmas.{on_err}
use Rattle.dbl_source_scripted.proofs.moves.append.Goals as goal

-- the list that was yielded so far is a prefix of the commits
pub returns-in_err-push-clause-err : goal.returns-in_err-push-clause-err
returns-in_err-push-clause-err c =
    let gives = c.into_iter-messages-iterator.ensures.into_iter_gives in
    let commits = c.args.commits.items in
    let yielded = c.loop-messages.yielded in
    let road = YieldsList-from_vec commits gives.0 (omega (arith, gives.1, c.args.commits.ok.0)) in
    let turn = YieldsList-turn road yielded c.loop-messages.messages-iterator c.loop-messages.yielded_by c.next.result c.next.new.self c.in-Some.messages c.in-Some.is c.next.ensures.steps in
    let front : yielded ≡ take (length yielded) commits = sym (map-id yielded) ∙ YieldsList-so_far road yielded c.loop-messages.messages-iterator c.loop-messages.yielded_by in
    let subsequent : HasPlayed (map Changes commits) c.args.log.now.items c.push.new.self.items = record {
      count = length yielded;
      few = omega (arith, turn.0, length-map commits Changes);
      is =
          c.in_err-push.ensures.items
          ∙ c.loop-messages.invariant
          ∙ ap (λ (l : List (List Message)). c.args.log.now.items ++ map Changes l) front
          ∙ ap (λ (l : List Logged). c.args.log.now.items ++ l) (sym (take-map Changes (length yielded) commits));
    } in
    on_err _ subsequent

-- an error comes at a commit
pub returns-in_err-push-clause-none : goal.returns-in_err-push-clause-none
returns-in_err-push-clause-none c = λ none.
    let gives = c.into_iter-messages-iterator.ensures.into_iter_gives in
    let commits = c.args.commits.items in
    let yielded = c.loop-messages.yielded in
    let road = YieldsList-from_vec commits gives.0 (omega (arith, gives.1, c.args.commits.ok.0)) in
    let turn = YieldsList-turn road yielded c.loop-messages.messages-iterator c.loop-messages.yielded_by c.next.result c.next.new.self c.in-Some.messages c.in-Some.is c.next.ensures.steps in
    absurd (omega (arith, turn.0, ap (λ (l : List (List Message)). length l) none))
