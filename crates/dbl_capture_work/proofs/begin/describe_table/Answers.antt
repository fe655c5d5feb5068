use Rattle.std.proofs.Common.{◌≡◌, ◌∙◌, Option, None, [], ◌∷◌, length, sym, ap, subst}
use Rattle.std.specs.Prelude.{IfSome}
use Rattle.std.proofs.Math.Nat.{max_comm}
use Rattle.std.proofs.lemmas.Result.{err_from_is_err_and}
use Rattle.dbl_model_table.specs.declared.table.RawTable.{RawTable}
use Rattle.dbl_model_table.specs.declared.table.TableName.{TableName}
use Rattle.dbl_source_model.specs.Answered.{IsDescribed}
use Rattle.dbl_capture_work.specs.declared.halt.Halt.TheVariants as halt
use Rattle.dbl_capture_work.specs.Halts.{model_halt}
use Rattle.dbl_capture_work.proofs.Describing.{absent_after, absent_here, described_as, entry_absent, entry_halt}
use Rattle.dbl_capture_work.proofs.begin.describe_table.Goals as goal

pub returns-in_ok-make-in-Some-clause-described : goal.returns-in_ok-make-in-Some-clause-described
returns-in_ok-make-in-Some-clause-described g c s stands =
    let name = c.args.name.now in
    let raw = c.in-Some.raw in
    let stood = c.in_ok-raw.ensures.described s stands in
    record {
      standing = stood.standing;
      is = stood.is;
      holds = described_as name raw c.in_ok-make-in-Some.field-0 _ s stood.standing
          (subst (λ (o : Option RawTable). IsDescribed name o s stood.standing) c.in-Some.is stood.holds)
          (subst (λ (o : Option RawTable). IfSome o (λ (r : RawTable). r.name ≡ name)) c.in-Some.is c.in_ok-raw.ensures.named)
          c.in_ok-make-in-Some.ensures.ok
          (c.max.ensures ∙ max_comm raw.version 1);
    }

pub returns-in_err-make-in-Some-clause-absent : goal.returns-in_err-make-in-Some-clause-absent
returns-in_err-make-in-Some-clause-absent g c s stands =
    let p = err_from_is_err_and c.from_residual-in_err-make-in-Some.result c.from_residual-in_err-make-in-Some.ensures.1 in
    let raw = c.in-Some.raw in
    let error = c.in_err-make-in-Some.field-0.0 in
    let stood = c.in_ok-raw.ensures.described s stands in
    let at = stood.holds.1 in
    rw (p.1, p.2) (absent_after (g.S.Source.stands c.describe.new.self) s stood.standing (c.args.name.now ∷ []) (model_halt error) stood.is stood.holds.0
    (entry_absent stood.standing.history (length s.history.commits) c.args.name.now at.place raw (model_halt error) at.not_before at.not_after (sym c.in-Some.is ∙ at.is) (entry_halt raw error c.in_err-make-in-Some.ensures.fault)))

pub returns-in_ok-copy-in-None-clause-absent : goal.returns-in_ok-copy-in-None-clause-absent
returns-in_ok-copy-in-None-clause-absent g c s stands =
    let stood = c.in_ok-raw.ensures.described s stands in
    let at = stood.holds.1 in
    let name = c.in_ok-copy-in-None.field-0 in
    absent_after (g.S.Source.stands c.describe.new.self) s stood.standing (c.args.name.now ∷ []) (halt.UnknownTable name) stood.is stood.holds.0
    (absent_here stood.standing.history (length s.history.commits) c.args.name.now at.place None (halt.UnknownTable name) at.not_before at.not_after (sym c.in-None.is ∙ at.is) (ap (λ (n : TableName). halt.UnknownTable n) c.in_ok-copy-in-None.ensures))
