use Rattle.std.proofs.Common.{◌≡◌, ◌++◌, ◌∷◌, [], List, ℕ, length, inl, inr, refl, sym, ◌∙◌, ap, subst, arith}
use Rattle.dbl_disk.specs.declared.extent.Extent.{Extent}
use Rattle.dbl_disk.specs.Disks.{MayLeave, Torn, written}
use Rattle.dbl_disk.specs.Memory.{Platter}
use Rattle.dbl_disk.proofs.Tears.{one_less, torn_written}
use Rattle.dbl_disk.proofs.Kept.{kept_more}
use Rattle.dbl_disk.proofs.memory.MemDiskDisk.write_at.Goals as goal

pub invariant_of-self-in-Ok : goal.invariant_of-self-in-Ok
invariant_of-self-in-Ok c =
    rw (c.in-Ok.ensures.written, c.in-Ok.ensures.dirty)
    (kept_more c.self.inside.stable.items c.self.inside.current.items c.self.inside.dirty.items c.args.at c.args.bytes.now (omega arith) c.self.invariant)

pub returns-in-Ok-clause-crash : goal.returns-in-Ok-clause-crash
returns-in-Ok-clause-crash c crashed (inl now) =
    let current : c.self.inside.current.items ≡ c.args.self.now.current = ap (λ (p : Platter). p.current) c.self.view_is in
    let is : written c.args.self.now.current c.args.at c.args.bytes.now ≡ crashed = ap (λ (l : List ℕ). written l c.args.at c.args.bytes.now) (sym current) ∙ sym (now ∙ c.in-Ok.ensures.written) in
    (c.args.self.now.current, inl refl, subst (λ (l : List ℕ). Torn c.args.at (length c.args.bytes.now) c.args.self.now.current l) is (torn_written c.args.self.now.current c.args.at c.args.bytes.now))
returns-in-Ok-clause-crash c crashed (inr leaves) =
    let extent : Extent = record { at = c.args.at; length = length c.args.bytes.now } in
    let more : MayLeave c.self.inside.stable.items (c.self.inside.dirty.items ++ extent ∷ []) crashed = subst (λ (es : List Extent). MayLeave c.self.inside.stable.items es crashed) c.in-Ok.ensures.dirty leaves in
    let less = one_less c.self.inside.stable.items c.self.inside.dirty.items extent crashed more in
    (less.0, inr (subst (λ (p : Platter). MayLeave p.stable p.dirty less.0) c.self.view_is less.1), less.2)
