use Rattle.std.proofs.Common.{sym, subst}
use Rattle.dbl_pgmsg.specs.Grammar.{FitsFields}
use Rattle.dblog_replay.proofs.MaskedLemmas.{masked_fits}
use Rattle.dblog_replay.proofs.FollowLemmas.{masked_takes}
use Rattle.dblog_replay.proofs.masking.MaskingReplayer.take.Goals as goal

pub take-requires : goal.take-requires
take-requires c =
    let f = c.requires.replaying in
    subst FitsFields (sym (c.in_ok-masked.ensures.masked f.options.mask f.ms f.follows.knows)) (masked_fits f.options.mask f.ms c.args.message c.requires.fits)

pub returns : goal.returns
returns c = λ options ms follows.
    masked_takes options ms c.args.number c.args.message c.in_ok-masked.masked _ c.take.result
    (c.in_ok-masked.ensures.masked options.mask ms follows.knows) (c.in_ok-masked.ensures.knows options.mask ms follows.knows)
    (c.take.ensures options _ follows.follows)
