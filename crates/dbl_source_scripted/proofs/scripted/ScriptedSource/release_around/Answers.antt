use Rattle.std.proofs.Common.{◌≡◌, ◌∙◌, ℕ, List, length, map, ap, subst, arith}
use Rattle.std.proofs.lemmas.Result.{err_from_is_err_and}
use Rattle.dbl_pgmsg.specs.declared.messages.Message.{Message}
use Rattle.dbl_source_log.specs.declared.logged.Logged.TheVariants.{Changes}
use Rattle.dbl_source_log.specs.declared.error.SourceError.TheVariants.{Memory}
use Rattle.dbl_source_scripted.specs.Played.{inside_of, commits_with, commits_before, IsPlannedToFail, past_move, committed, with_release, FailsAsPlanned}
use Rattle.dbl_source_scripted.specs.Steps.{HasPlayed}
use Rattle.dbl_source_scripted.proofs.PlannedLemmas.{released_so, planned_after, planned_on, answer_is, error_is, no_listed, on_ok, err_holds, not_failed}
use Rattle.dbl_source_scripted.proofs.AddedLemmas.{room_left}
use Rattle.dbl_source_scripted.proofs.MemoryLemmas.{added_after, added_front, added_inside}
use Rattle.dbl_source_scripted.proofs.scripted.ScriptedSource.release_around.Goals as goal
use Rattle.dbl_source_scripted.proofs.scripted.ScriptedSource.release_around.Goals.{After-begin, In_ok-begin}

own_is : (c : After-begin) → c.len.result ≡ length (inside_of c.args.self.now)
own_is c = omega (arith, c.len.ensures, c.into_items-inside.result.ok.0, ap length (c.into_items-inside.ensures ∙ c.next_move-before.ensures.inside))

-- ---- the call can't begin

pub returns-in_err-begin-clause-memory : goal.returns-in_err-begin-clause-memory
returns-in_err-begin-clause-memory c told =
    let p = err_from_is_err_and c.from_residual.result c.from_residual.ensures.1 in
    let wanting : c.in_err-begin.field-0.0 ≡ Memory = cc (p.1, p.2) in
    added_front (past_move c.args.self.now) c.begin.new.self (commits_before c.args.self.now) (map Changes (inside_of c.args.self.now))
    (added_after c.args.self.now c.next_move-before.new.self c.begin.new.self c.into_items.result.items c.next_move-before.ensures.past (c.into_items.ensures ∙ c.next_move-before.ensures.before) (c.in_err-begin.ensures.memory (ap (error_is (Unit {0})) wanting)))

-- ---- it began

begun : (c : In_ok-begin) → c.begin.new.self ≡ with_release c.args.self.now
begun c = released_so c.args.self.now c.next_move-before.new.self c.begin.new.self c.into_items.result.items c.next_move-before.ensures.past (c.into_items.ensures ∙ c.next_move-before.ensures.before) c.in_ok-begin.ensures.ok

planned : (c : In_ok-begin) → FailsAsPlanned c.len.result ⊥ c.args.self.now c.begin.new.self (answer_is c.in_ok-begin.field-0)
planned c =
    planned_after c.args.self.now c.next_move-before.new.self c.begin.new.self c.into_items.result.items c.len.result (answer_is c.in_ok-begin.field-0) c.next_move-before.ensures.past (c.into_items.ensures ∙ c.next_move-before.ensures.before)
    c.in_ok-begin.ensures.full c.in_ok-begin.ensures.listed c.in_ok-begin.ensures.failing c.in_ok-begin.ensures.failed

unlisted : (c : In_ok-begin) → ¬ IsPlannedToFail c.args.self.now
unlisted c listed = no_listed c.in_ok-begin.field-0 ((planned c).listed listed)

pub commit-requires : goal.commit-requires
commit-requires c =
    let room = room_left c.next_move-before.new.self c.begin.new.self (commits_with c.into_items.result.items c.next_move-before.new.self) c.len.result c.in_ok-begin.ensures.ok c.in_ok-begin.ensures.room in
    omega (arith, room, c.len.ensures, c.into_items-inside.result.ok.0)

pub returns-clause-ok : goal.returns-clause-ok
returns-clause-ok c =
    on_ok (c.commit.new.self ≡ committed (map Changes c.into_items-inside.result.items) c.begin.new.self) (c.commit.new.self ≡ committed (map Changes (inside_of c.args.self.now)) (with_release c.args.self.now)) c.commit.result
    (λ is.
    is
    ∙ ap (λ (l : List (List Message)). committed (map Changes l) c.begin.new.self) (c.into_items-inside.ensures ∙ c.next_move-before.ensures.inside)
    ∙ ap (committed (map Changes (inside_of c.args.self.now))) (begun (goal.at.returns-clause-ok c).In_ok-begin)) c.commit.ensures.ok

pub returns-clause-planned : goal.returns-clause-planned
returns-clause-planned c =
    let known = goal.at.returns-clause-planned c in
    subst (λ (own : ℕ). FailsAsPlanned own ⊥ c.args.self.now c.commit.new.self c.commit.result) (own_is known.After-begin)
    (planned_on c.len.result c.args.self.now c.begin.new.self c.commit.new.self c.in_ok-begin.field-0 c.commit.result (planned known.In_ok-begin) (not_failed c.commit.result c.commit.ensures.memory))

pub returns-clause-memory : goal.returns-clause-memory
returns-clause-memory c told =
    let known = goal.at.returns-clause-memory c in
    let subsequent = err_holds (HasPlayed (map Changes c.into_items-inside.result.items) c.begin.new.self.log c.commit.new.self.log) c.commit.result Memory told c.commit.ensures.err in
    let kept = err_holds (c.commit.new.self ≡ record c.begin.new.self { log = c.commit.new.self.log }) c.commit.result Memory told c.commit.ensures.kept in
    added_inside c.args.self.now c.begin.new.self c.commit.new.self (map Changes (inside_of c.args.self.now)) (unlisted known.In_ok-begin) (begun known.In_ok-begin) kept
    (subst (λ (l : List (List Message)). HasPlayed (map Changes l) c.begin.new.self.log c.commit.new.self.log) (c.into_items-inside.ensures ∙ c.next_move-before.ensures.inside) subsequent)

pub returns-clause-listed : goal.returns-clause-listed
returns-clause-listed c listed told = absurd (unlisted (goal.at.returns-clause-listed c).In_ok-begin listed)
