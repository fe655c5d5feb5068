use Rattle.std.proofs.Common.{◌≡◌, ◌∙◌, ℕ, ◌<◌, ◌++◌, ◌∷◌, ◌^◌, [], Option, List, ap, refl, sym, subst, arith}
use Rattle.std.specs.Prelude.{Ok, IfSome}
use Rattle.std.proofs.lemmas.Result.{err_from_is_err_and}
use Rattle.dbl_pgmsg.specs.declared.messages.Message.{Message}
use Rattle.dbl_demo_workload.specs.declared.checking.Doubt.TheVariants as doubt
use Rattle.dbl_demo_workload.specs.Checking.{NextCommit}
use Rattle.dbl_demo_workload.specs.Steps.{FitAnEntry}
use Rattle.dbl_demo_workload.proofs.TakeLemmas.{commit_is, none_can, none_is, other_is, parts_more, said_of}
use Rattle.dbl_demo_workload.proofs.checking.Checked.take_commit.Goals as goal

pub is_commit-requires : goal.is_commit-requires
is_commit-requires c =
    let fits = subst (λ (o : Option (List Message)). IfSome o FitAnEntry) c.in-Some.is c.in_ok-messages.ensures.fits in
    subst FitAnEntry (sym (c.as_slice.ensures.value ∙ c.items.ensures)) fits

-- none can be
pub returns-in_err-messages-clause-checks : goal.returns-in_err-messages-clause-checks
returns-in_err-messages-clause-checks c = λ says w entries number_is is.
    let p = err_from_is_err_and c.from_residual.result c.from_residual.ensures.1 in
    rw (p.1, p.2) (none_can c.args.number c.args.steps c.args.entry.now c.args.self.now c.next_commit.new.self c.next_commit.new.self c.in_err-messages.field-0.0 c.in_err-messages.ensures.next says w entries number_is is)

pub returns-in_default-clause-checks : goal.returns-in_default-clause-checks
returns-in_default-clause-checks c =
    none_is c.args.number c.args.steps c.args.entry.now c.args.self.now c.next_commit.new.self
    (subst (λ (o : Option (List Message)). NextCommit c.args.steps c.args.self.now c.next_commit.new.self (Ok o)) c.in_default.is c.in_ok-messages.ensures.next)

-- memory ran out
pub returns-in_err-is_commit-clause-checks : goal.returns-in_err-is_commit-clause-checks
returns-in_err-is_commit-clause-checks c = λ says w entries number_is is.
    let p = err_from_is_err_and c.from_residual-in_err-is_commit.result c.from_residual-in_err-is_commit.ensures.1 in
    let memory : c.in_err-is_commit.field-0.0 ≡ doubt.Memory = (let m = c.in_err-is_commit.ensures.memory in cc) in
    rw (p.1, p.2, memory) tt

pub returns-in_err-push-clause-checks : goal.returns-in_err-push-clause-checks
returns-in_err-push-clause-checks c = λ says w entries number_is is.
    let p = err_from_is_err_and c.from_residual-in_err-push.result c.from_residual-in_err-push.ensures.1 in
    rw (p.1, p.2) tt

-- it is another one
pub returns-then-not-branch-clause-checks : goal.returns-then-not-branch-clause-checks
returns-then-not-branch-clause-checks c =
    let must = subst (λ (o : Option (List Message)). NextCommit c.args.steps c.args.self.now c.next_commit.new.self (Ok o)) c.in-Some.is c.in_ok-messages.ensures.next in
    let said = said_of c.in_ok-is_commit.field-0 c.args.entry.now c.args.steps c.as_slice.result.now c.in-Some.messages (c.as_slice.ensures.value ∙ c.items.ensures) c.in_ok-is_commit.ensures.same in
    other_is c.args.number c.args.steps c.args.entry.now c.args.self.now c.next_commit.new.self c.in-Some.messages must c.in_ok-is_commit.field-0 c.if-not-branch.true said

-- it is this one
pub returns-clause-checks : goal.returns-clause-checks
returns-clause-checks c =
    let must = subst (λ (o : Option (List Message)). NextCommit c.args.steps c.args.self.now c.next_commit.new.self (Ok o)) c.in-Some.is c.in_ok-messages.ensures.next in
    let said = said_of c.in_ok-is_commit.field-0 c.args.entry.now c.args.steps c.as_slice.result.now c.in-Some.messages (c.as_slice.ensures.value ∙ c.items.ensures) c.in_ok-is_commit.ensures.same in
    let fits = subst (λ (o : Option (List Message)). IfSome o FitAnEntry) c.in-Some.is c.in_ok-messages.ensures.fits in
    let small : c.args.steps < 2 ^ 64 = omega (arith, c.ranges.steps.fits) in
    commit_is c.args.number c.args.steps c.args.entry.now c.args.self.now c.next_commit.new.self c.in-Some.messages must (record c.next_commit.new.self { commits = c.push.new.self }) refl c.in_ok-push.ensures.items small fits (said.0 c.if-not-branch.false)

pub returns-clause-parts : goal.returns-clause-parts
returns-clause-parts c =
    parts_more c.args.number c.args.self.now (record c.next_commit.new.self { commits = c.push.new.self }) c.requires (record { has_run = c.next_commit.ensures.goes.has_run; rows = c.next_commit.ensures.goes.rows; named = c.next_commit.ensures.goes.named })
    (c.in_ok-push.ensures.items ∙ ap (λ (l : List ℕ). l ++ c.args.number ∷ []) c.next_commit.ensures.same)
