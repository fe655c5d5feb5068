use Rattle.std.proofs.Common.{◌≡◌, ◌∙◌, ◌++◌, ◌-◌, ℕ, List, take, length, ap, replicate, vec_len, sym, subst, arith, ◌≤◌, length-take}
use Rattle.std.proofs.lemmas.List.{with_items_is, length-take-le, take_all}
use Rattle.dbl_disk.specs.Memory.{AreFilled, IsFilled}
use Rattle.dbl_disk.proofs.Kept.{filling_ends}
use Rattle.dbl_disk.proofs.memory.filled_bytes.Goals as goal

pub fill_extents-requires : goal.fill_extents-requires
fill_extents-requires c k d below = omega (arith, c.requires.within k d below, c.in_ok-resize.ensures.len, c.deref_mut.ensures.len, c.requires.left.no_shorter)

start : (c : goal.After-crashed-4-1) → c.resize.new.self.items ≡ take (length c.args.stable.now) c.args.current.now ++ replicate (length c.args.current.now - length c.args.stable.now) c.args.byte
start c =
    let front : List ℕ = take (length c.args.stable.now) c.args.current.now in
    let crashed : c.in_ok-crashed.crashed.items ≡ front = c.in_ok-crashed.ensures.items in
    let long : vec_len c.in_ok-crashed.crashed ≡ length c.args.stable.now = c.in_ok-crashed.ensures.len ∙ length-take-le (length c.args.stable.now) c.args.current.now c.requires.left.no_shorter in
    let short : length c.in_ok-crashed.crashed.items ≤ length c.args.current.now = omega (arith, ap length crashed, length-take (length c.args.stable.now) c.args.current.now) in
    c.in_ok-resize.ensures.items
    ∙ ap (λ (l : List ℕ). l ++ replicate (length c.args.current.now - vec_len c.in_ok-crashed.crashed) c.args.byte) (take_all (length c.args.current.now) c.in_ok-crashed.crashed.items short ∙ crashed)
    ∙ ap (λ (n : ℕ). front ++ replicate (length c.args.current.now - n) c.args.byte) long

pub returns : goal.returns
returns c =
    subst (λ (l : List ℕ). IsFilled c.args.byte c.args.stable.now c.args.current.now c.args.dirty.now l)
    (sym (with_items_is c.resize.new.self c.fill_extents.new.crashed (c.fill_extents.auto.crashed ∙ c.deref_mut.ensures.len)))
    (filling_ends c.args.byte c.args.stable.now c.args.current.now c.fill_extents.new.crashed c.args.dirty.now c.requires.left.no_shorter
    (subst (λ (l : List ℕ). AreFilled c.args.byte c.args.dirty.now l c.fill_extents.new.crashed) (c.deref_mut.ensures.value ∙ start c) c.fill_extents.ensures))
