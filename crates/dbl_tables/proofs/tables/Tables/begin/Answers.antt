use Rattle.std.proofs.Common.{◌∙◌, ℕ, List, cond, inl, inr, refl, sym, ap}
use Rattle.std.proofs.lemmas.Result.{err_from_is_err_and}
use Rattle.std.specs.Prelude.{Some}
use Rattle.std.specs.Ordering.{is_eq}
use Rattle.std.specs.BTreeMap.{get, is_at}
use Rattle.std.specs.Map.{lookup}
use Rattle.dbl_base.specs.Texts.{text_cmp}
use Rattle.dbl_tables.proofs.EndLemmas.{begun_already, begins, unmoved}
use Rattle.dbl_tables.proofs.tables.Tables.begin.Goals as goal

pub returns-then-contains_key : goal.returns-then-contains_key
returns-then-contains_key c tables past st = record { why = inr (begun_already tables past c.args.session.now c.args.self.now st (sym c.contains_key.ensures ∙ c.if-contains_key.true)); stands = st }

pub returns-in_err-name : goal.returns-in_err-name
returns-in_err-name c tables past st =
    let p = err_from_is_err_and c.from_residual.result c.from_residual.ensures.1 in
    rw (p.1, p.2) (record { why = inl refl; stands = st })

-- a session that found no room isn't there
pub returns-in_err-insert : goal.returns-in_err-insert
returns-in_err-insert c tables past st =
    let p = err_from_is_err_and c.from_residual-in_err-insert.result c.from_residual-in_err-insert.ensures.1 in
    rw (p.1, p.2) (record {
      why = inl refl;
      stands = unmoved tables past c.args.self.now (record c.args.self.now { sessions = c.insert.new.self }) st refl (λ q. ap (lookup (is_at (text_cmp q))) c.in_err-insert.ensures.err);
    })

pub returns : goal.returns
returns c tables past st =
    begins tables past c.args.session.now c.args.self.now st (record c.args.self.now { sessions = c.insert.new.self }) c.make.result (sym c.contains_key.ensures ∙ c.if-contains_key.false) refl
    c.make.ensures.messages c.make.ensures.size c.make.ensures.keys
    (λ q. c.in_ok-insert.ensures.updates.0 q ∙ ap (λ (n : List ℕ). cond (is_eq (text_cmp n q)) (Some c.make.result) (get text_cmp c.args.self.now.sessions q)) c.in_ok-name.ensures)
