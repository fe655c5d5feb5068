-- What a fair script means for its players.
use Rattle.dbl_source_log.proofs.ReaderLemmas.{read_right}
use Rattle.dbl_source_scripted.specs.Laws.{FairScriptsConform}

pub fair_conform : FairScriptsConform
fair_conform = record {
  conform = λ s fair. record { fit = fair.fit; right = λ place. read_right s.tables s.log place fair.changes; selects = fair.selects };
  were_fair = λ s conforms changes. record { fit = conforms.fit; changes = changes; selects = conforms.selects };
}
