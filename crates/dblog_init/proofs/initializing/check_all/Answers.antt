use Rattle.std.proofs.Common.{◌≡◌, ◌∙◌, Err, ap, sym, subst}
use Rattle.std.proofs.lemmas.Result.{err_from_is_err_and}
use Rattle.dblog_init.specs.declared.error.Store.TheVariants.{Wal, Topics, Offsets}
use Rattle.dblog_init.specs.Answers.{InitEnd}
use Rattle.dblog_init.specs.Turns.{AsksOne, IsTurnFault, TellsFirst}
use Rattle.dblog_init.proofs.TurnLemmas.{asks_before, asks_none, asks_through, first_through, first_topics, first_wal, none_held, not_held, not_holding, turn_fault}
use Rattle.dblog_init.proofs.initializing.check_all.Goals as goal

pub returns-in_err-check_empty-clause-wal : goal.returns-in_err-check_empty-clause-wal
returns-in_err-check_empty-clause-wal g c =
    let p = err_from_is_err_and c.from_residual.result c.from_residual.ensures.1 in
    let same : c.from_residual.result ≡ Err c.in_err-check_empty.field-0.0 = p.1 ∙ ap (λ e. Err e) p.2 in
    subst (λ (x : InitEnd). AsksOne g.W.Disk Wal x c.args.disks.now.wal c.check_empty.new.disk) (sym same) c.in_err-check_empty.ensures.asks

pub returns-in_err-check_empty-clause-topics : goal.returns-in_err-check_empty-clause-topics
returns-in_err-check_empty-clause-topics g c =
    let p = err_from_is_err_and c.from_residual.result c.from_residual.ensures.1 in
    let same : c.from_residual.result ≡ Err c.in_err-check_empty.field-0.0 = p.1 ∙ ap (λ e. Err e) p.2 in
    subst (λ (x : InitEnd). AsksOne g.T.Disk Topics x c.args.disks.now.topics c.args.disks.now.topics) (sym same) (asks_none Topics Wal (λ is. cc) c.in_err-check_empty.field-0.0 c.in_err-check_empty.ensures.kinds g.T.Disk c.args.disks.now.topics)

pub returns-in_err-check_empty-clause-offsets : goal.returns-in_err-check_empty-clause-offsets
returns-in_err-check_empty-clause-offsets g c =
    let p = err_from_is_err_and c.from_residual.result c.from_residual.ensures.1 in
    let same : c.from_residual.result ≡ Err c.in_err-check_empty.field-0.0 = p.1 ∙ ap (λ e. Err e) p.2 in
    subst (λ (x : InitEnd). AsksOne g.F.Disk Offsets x c.args.disks.now.offsets c.args.disks.now.offsets) (sym same) (asks_none Offsets Wal (λ is. cc) c.in_err-check_empty.field-0.0 c.in_err-check_empty.ensures.kinds g.F.Disk c.args.disks.now.offsets)

pub returns-in_err-check_empty-clause-first : goal.returns-in_err-check_empty-clause-first
returns-in_err-check_empty-clause-first g c =
    let p = err_from_is_err_and c.from_residual.result c.from_residual.ensures.1 in
    let same : c.from_residual.result ≡ Err c.in_err-check_empty.field-0.0 = p.1 ∙ ap (λ e. Err e) p.2 in
    subst (λ (x : InitEnd). TellsFirst g.W.Disk g.T.Disk g.F.Disk c.args.disks.now x) (sym same) (first_wal g.W.Disk g.T.Disk g.F.Disk c.args.disks.now c.check_empty.new.disk c.args.disks.now.topics c.args.disks.now.offsets c.in_err-check_empty.field-0.0 c.in_err-check_empty.ensures.asks c.in_err-check_empty.ensures.kinds)

pub returns-in_err-check_empty-clause-kinds : goal.returns-in_err-check_empty-clause-kinds
returns-in_err-check_empty-clause-kinds g c =
    let p = err_from_is_err_and c.from_residual.result c.from_residual.ensures.1 in
    let same : c.from_residual.result ≡ Err c.in_err-check_empty.field-0.0 = p.1 ∙ ap (λ e. Err e) p.2 in
    subst IsTurnFault (sym same) (Wal, c.in_err-check_empty.ensures.kinds)

pub returns-in_err-check_empty-2-clause-wal : goal.returns-in_err-check_empty-2-clause-wal
returns-in_err-check_empty-2-clause-wal g c =
    let p = err_from_is_err_and c.from_residual-in_err-check_empty-2.result c.from_residual-in_err-check_empty-2.ensures.1 in
    let same : c.from_residual-in_err-check_empty-2.result ≡ Err c.in_err-check_empty-2.field-0.0 = p.1 ∙ ap (λ e. Err e) p.2 in
    subst (λ (x : InitEnd). AsksOne g.W.Disk Wal x c.args.disks.now.wal c.check_empty.new.disk) (sym same) (asks_before Wal Topics (λ is. cc) c.in_err-check_empty-2.field-0.0 c.in_err-check_empty-2.ensures.kinds g.W.Disk c.args.disks.now.wal c.check_empty.new.disk c.in_ok-check_empty.ensures.asks)

pub returns-in_err-check_empty-2-clause-topics : goal.returns-in_err-check_empty-2-clause-topics
returns-in_err-check_empty-2-clause-topics g c =
    let p = err_from_is_err_and c.from_residual-in_err-check_empty-2.result c.from_residual-in_err-check_empty-2.ensures.1 in
    let same : c.from_residual-in_err-check_empty-2.result ≡ Err c.in_err-check_empty-2.field-0.0 = p.1 ∙ ap (λ e. Err e) p.2 in
    subst (λ (x : InitEnd). AsksOne g.T.Disk Topics x c.args.disks.now.topics c.check_empty-2.new.disk) (sym same) c.in_err-check_empty-2.ensures.asks

pub returns-in_err-check_empty-2-clause-offsets : goal.returns-in_err-check_empty-2-clause-offsets
returns-in_err-check_empty-2-clause-offsets g c =
    let p = err_from_is_err_and c.from_residual-in_err-check_empty-2.result c.from_residual-in_err-check_empty-2.ensures.1 in
    let same : c.from_residual-in_err-check_empty-2.result ≡ Err c.in_err-check_empty-2.field-0.0 = p.1 ∙ ap (λ e. Err e) p.2 in
    subst (λ (x : InitEnd). AsksOne g.F.Disk Offsets x c.args.disks.now.offsets c.args.disks.now.offsets) (sym same) (asks_none Offsets Topics (λ is. cc) c.in_err-check_empty-2.field-0.0 c.in_err-check_empty-2.ensures.kinds g.F.Disk c.args.disks.now.offsets)

pub returns-in_err-check_empty-2-clause-first : goal.returns-in_err-check_empty-2-clause-first
returns-in_err-check_empty-2-clause-first g c =
    let p = err_from_is_err_and c.from_residual-in_err-check_empty-2.result c.from_residual-in_err-check_empty-2.ensures.1 in
    let same : c.from_residual-in_err-check_empty-2.result ≡ Err c.in_err-check_empty-2.field-0.0 = p.1 ∙ ap (λ e. Err e) p.2 in
    subst (λ (x : InitEnd). TellsFirst g.W.Disk g.T.Disk g.F.Disk c.args.disks.now x) (sym same) (first_topics g.W.Disk g.T.Disk g.F.Disk c.args.disks.now c.check_empty.new.disk c.check_empty-2.new.disk c.args.disks.now.offsets c.in_err-check_empty-2.field-0.0 c.in_ok-check_empty.ensures.asks c.in_err-check_empty-2.ensures.asks c.in_err-check_empty-2.ensures.kinds)

pub returns-in_err-check_empty-2-clause-kinds : goal.returns-in_err-check_empty-2-clause-kinds
returns-in_err-check_empty-2-clause-kinds g c =
    let p = err_from_is_err_and c.from_residual-in_err-check_empty-2.result c.from_residual-in_err-check_empty-2.ensures.1 in
    let same : c.from_residual-in_err-check_empty-2.result ≡ Err c.in_err-check_empty-2.field-0.0 = p.1 ∙ ap (λ e. Err e) p.2 in
    subst IsTurnFault (sym same) (Topics, c.in_err-check_empty-2.ensures.kinds)

pub returns-in_err-check_empty-2-clause-topics_stay : goal.returns-in_err-check_empty-2-clause-topics_stay
returns-in_err-check_empty-2-clause-topics_stay g c =
    let p = err_from_is_err_and c.from_residual-in_err-check_empty-2.result c.from_residual-in_err-check_empty-2.ensures.1 in
    let same : c.from_residual-in_err-check_empty-2.result ≡ Err c.in_err-check_empty-2.field-0.0 = p.1 ∙ ap (λ e. Err e) p.2 in
    λ is. absurd (not_holding Wal Topics (λ is. cc) c.in_err-check_empty-2.field-0.0 c.in_err-check_empty-2.ensures.kinds (let t = sym same ∙ is in cc))

pub returns-clause-wal : goal.returns-clause-wal
returns-clause-wal g c = asks_through g.W.Disk Wal Offsets (λ is. cc) c.check_empty-3.result c.check_empty-3.ensures.kinds _ _ c.in_ok-check_empty.ensures.asks

pub returns-clause-topics : goal.returns-clause-topics
returns-clause-topics g c = asks_through g.T.Disk Topics Offsets (λ is. cc) c.check_empty-3.result c.check_empty-3.ensures.kinds _ _ c.in_ok-check_empty-2.ensures.asks

pub returns-clause-first : goal.returns-clause-first
returns-clause-first g c = first_through g.W.Disk g.T.Disk g.F.Disk c.args.disks.now _ _ _ c.check_empty-3.result c.in_ok-check_empty.ensures.asks c.in_ok-check_empty-2.ensures.asks c.check_empty-3.ensures.asks c.check_empty-3.ensures.kinds

pub returns-clause-kinds : goal.returns-clause-kinds
returns-clause-kinds g c = turn_fault Offsets c.check_empty-3.result c.check_empty-3.ensures.kinds

pub returns-clause-topics_stay : goal.returns-clause-topics_stay
returns-clause-topics_stay g c = λ is. absurd (not_held Wal Offsets (λ is. cc) c.check_empty-3.result c.check_empty-3.ensures.kinds is)

pub returns-clause-offsets_stay : goal.returns-clause-offsets_stay
returns-clause-offsets_stay g c = λ is. absurd (none_held c.check_empty-3.result c.check_empty-3.ensures.kinds is)
