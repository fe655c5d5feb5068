use Rattle.dblog_replay.proofs.MaskedLemmas.{unmasked_is, unmasked_knows, mapper_masks, mapper_knows}
use Rattle.dblog_replay.proofs.masking.mask_message.Goals as goal

pub returns-in-Some-clause-masked : goal.returns-in-Some-clause-masked
returns-in-Some-clause-masked c = λ mask past are.
    mapper_masks mask past c.args.mapper.now c.in-Some.mapper c.message.new.self c.args.message c.message.result are c.in-Some.is c.message.ensures.masked

pub returns-in-Some-clause-knows : goal.returns-in-Some-clause-knows
returns-in-Some-clause-knows c = λ mask past are.
    mapper_knows mask past c.args.mapper.now c.in-Some.mapper c.message.new.self c.args.message c.message.result are c.in-Some.is
    c.message.ensures.table c.message.ensures.column c.message.ensures.mask c.message.ensures.knows

pub returns-in-None-clause-masked : goal.returns-in-None-clause-masked
returns-in-None-clause-masked c = λ mask past are. unmasked_is mask past c.args.mapper.now c.args.message are c.in-None.is

pub returns-in-None-clause-knows : goal.returns-in-None-clause-knows
returns-in-None-clause-knows c = λ mask past are. unmasked_knows mask past c.args.mapper.now c.args.message are c.in-None.is
