use Rattle.std.proofs.Common.{◌≡◌, ◌∙◌, ℕ, true, false, List, length, refl, sym, ap, subst}
use Rattle.std.proofs.lemmas.Result.{err_from_is_err_and}
use Rattle.std.specs.Prelude.{IsSome, is_some, replicate}
use Rattle.dbl_tables.specs.Truncates.{TruncatesAll}
use Rattle.dbl_tables.proofs.GatherLemmas.{cut_refused, cut_taken}
use Rattle.dbl_tables.proofs.StoreLemmas.{open_as}
use Rattle.dbl_tables.proofs.tables.Tables.cut.Goals as goal

-- the session is open
pub returns-in_default : goal.returns-in_default
returns-in_default c tables past names st of =
    let closed = open_as tables past c.args.session.now c.args.self.now st false (ap is_some (sym c.in_default.ensures.value)) in
    let contra : true ≡ false = sym of.begun ∙ closed in
    cc

pub returns-in_err-push : goal.returns-in_err-push
returns-in_err-push c tables past names st of =
    let p = err_from_is_err_and c.from_residual.result c.from_residual.ensures.1 in
    rw (p.1, p.2) (cut_refused tables past c.args.session.now names c.args.self.now _ c.args.cut c.in-Some.state.now _ st of c.in-Some.ensures.value refl
    ((c.get_mut.follows.holds (record c.in-Some.state.now { messages = c.push.new.self })).3 (subst IsSome c.in-Some.ensures.value refl)).0 refl c.in_err-push.ensures.items refl)

pub returns : goal.returns
returns c tables past names st of =
    let all : c.as_slice.result.now ≡ c.args.cut.places = c.as_slice.ensures.value ∙ c.items.ensures in
    cut_taken tables past c.args.session.now names c.args.self.now _ c.args.cut c.in-Some.state.now _ st of c.in-Some.ensures.value refl
    ((c.get_mut.follows.holds (record c.in-Some.state.now { messages = c.push.new.self; size = c.args.cut.size })).3 (subst IsSome c.in-Some.ensures.value refl)).0
    (subst (λ (l : List ℕ). TruncatesAll c.args.session.now l c.args.self.now.tables.items c.truncate_all.new.tables.items) all
    (c.truncate_all.ensures c.args.session.now (of.by ∙ ap (λ (l : List ℕ). replicate (length l) c.args.session.now) (sym all)))) c.in_ok-push.ensures.items refl
