use Rattle.dbl_source.specs.SourceModel.Standings.{left_of}
use Rattle.dbl_window.proofs.SelectLemmas.{on_ok, held_so, moved_so, read_so, selects_so, never_so, cell_so}
use Rattle.dbl_window.proofs.states.Marked.select.Goals as goal

pub returns-clause-held : goal.returns-clause-held
returns-clause-held g c s stands =
    let stood = c.in_ok-answer.ensures.selected s stands in
    let plan = c.args.self in
    held_so plan c.in_ok-answer.answer _ c.holding.result c.holding.ensures.read c.holding.ensures.same c.holding.ensures.through c.holding.ensures.done
    (λ chunk same version read through done. record {
      standing = stood.standing;
      is = stood.is;
      holds = (
        stood.holds.0,
        λ honest. selects_so plan c.in_ok-answer.answer chunk s stood.standing stood.holds.0
            (g.met.S.Source.fit c.answered_rows.new.src (left_of stood.standing) (g.met.S.Source.may c.answered_rows.new.src stood.standing stood.is) honest) c.answered_rows.ensures.starts (stood.holds.1 honest) same version read through done,
      );
    })

pub returns-clause-chunk : goal.returns-clause-chunk
returns-clause-chunk g c = read_so c.args.self _ c.in_ok-answer.answer c.holding.result c.in_ok-answer.ensures.told c.holding.ensures.read

pub returns-clause-moved : goal.returns-clause-moved
returns-clause-moved g c s version stands honest is =
    let stood = c.in_ok-answer.ensures.selected s stands in
    record {
      standing = stood.standing;
      is = stood.is;
      holds = moved_so c.args.self c.in_ok-answer.answer c.holding.result s stood.standing version c.holding.ensures.read (stood.holds.1 honest) is;
    }

pub returns-clause-never : goal.returns-clause-never
returns-clause-never g c s infos row stands honest captured is =
    let stood = c.in_ok-answer.ensures.selected s stands in
    never_so c.args.self c.in_ok-answer.answer c.holding.result s stood.standing infos row c.holding.ensures.read stood.holds.0
    (g.met.S.Source.fit c.answered_rows.new.src (left_of stood.standing) (g.met.S.Source.may c.answered_rows.new.src stood.standing stood.is) honest) c.answered_rows.ensures.starts (stood.holds.1 honest) captured is

pub returns-clause-cell : goal.returns-clause-cell
returns-clause-cell g c s infos column error stands honest captured is =
    let stood = c.in_ok-answer.ensures.selected s stands in
    record {
      standing = stood.standing;
      is = stood.is;
      holds = cell_so c.args.self c.in_ok-answer.answer c.holding.result s stood.standing infos column error c.holding.ensures.read stood.holds.0
          (g.met.S.Source.fit c.answered_rows.new.src (left_of stood.standing) (g.met.S.Source.may c.answered_rows.new.src stood.standing stood.is) honest) c.answered_rows.ensures.starts (stood.holds.1 honest) captured is;
    }

-- what the rows' call tells

pub returns-clause-rests : goal.returns-clause-rests
returns-clause-rests g c = record {
  left = c.answered_rows.ensures.rests.left;
  some = c.answered_rows.ensures.rests.some;
  still = c.answered_rows.ensures.rests.still;
  taken = c.answered_rows.ensures.rests.taken;
}

pub returns-clause-reading : goal.returns-clause-reading
returns-clause-reading g c = c.answered_rows.ensures.reading

pub returns-clause-source : goal.returns-clause-source
returns-clause-source g c = record {
  live = on_ok c.holding.result c.in_ok-answer.ensures.source.live;
  honest = c.answered_rows.ensures.source.honest;
  comes = c.answered_rows.ensures.source.comes;
  cause = record { later = c.answered_rows.ensures.source.cause.later; cause = λ is. absurd (c.holding.ensures.no_failure is) };
}
