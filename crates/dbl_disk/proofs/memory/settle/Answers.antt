use Rattle.std.proofs.Common.{◌∙◌, List, ℕ, subst, sym}
use Rattle.std.proofs.lemmas.List.{with_items_is}
use Rattle.dbl_disk.specs.Memory.{DiffersInside}
use Rattle.dbl_disk.proofs.Kept.{copying_begins_at}
use Rattle.dbl_disk.proofs.memory.settle.Goals as goal

pub copy_extents-requires-clause-differ : goal.copy_extents-requires-clause-differ
copy_extents-requires-clause-differ c =
    subst (λ (l : List ℕ). DiffersInside c.args.dirty.now l c.args.current.now) (sym (c.deref_mut.ensures.value ∙ c.in_ok-extend_from_slice.ensures.items))
    (copying_begins_at c.args.stable.now.items c.args.current.now c.args.dirty.now c.len-old.result (c.len-old.ensures ∙ c.args.stable.now.ok.0) c.requires)

pub returns-clause-ok : goal.returns-clause-ok
returns-clause-ok c = with_items_is c.extend_from_slice.new.self c.copy_extents.new.stable (c.copy_extents.auto.stable ∙ c.deref_mut.ensures.len) ∙ c.copy_extents.ensures
