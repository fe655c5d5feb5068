use Rattle.std.proofs.Common.{◌≡◌, take, map, flat_map}
use Rattle.dbl_model_event.specs.Events.{notices}
use Rattle.cases_ages.specs.PlainEvents.{notice_texts}
use Rattle.cases_ages.proofs.plain_records.told_texts.Given as goal

abbrev pub invariant-loop-change : goal.invariant-loop-change
invariant-loop-change l = l.out.items ≡ map (notice_texts l.identity l.commit l.now_ms) (flat_map (notices l.infos.items) (take l.change-index l.change-items))
