use Rattle.dbl_record.proofs.CutLaws as cuts
use Rattle.dbl_record.proofs.laws.cuts_join.Goals as goal

pub returns-clause-joined : goal.returns-clause-joined
returns-clause-joined c = cuts.cuts_join

pub returns-clause-handfuls : goal.returns-clause-handfuls
returns-clause-handfuls c = cuts.cuts_are_handfuls

pub returns-clause-part : goal.returns-clause-part
returns-clause-part c = cuts.cut_apart

pub returns-clause-tear : goal.returns-clause-tear
returns-clause-tear c = cuts.cut_torn
