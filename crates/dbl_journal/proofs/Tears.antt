-- What a torn write leaves before and after its extent.
use Rattle.std.proofs.Common.{◌≡◌, ◌∙◌, inl, inr, ℕ, ◌+◌, ◌<◌, ◌≤◌, List, length, take, drop, sym, arith, length-take, length-drop}
use Rattle.std.proofs.lemmas.List.{ext_get_or, get_or-take, get_or-drop}
use Rattle.dbl_disk.specs.Disks.{Torn}
use Rattle.dbl_disk.proofs.Tears.{outside_one}

module _ (at count : ℕ) (old new : List ℕ) (torn : Torn at count old new) where
  pub torn_front : at ≤ length old → take at new ≡ take at old
  torn_front within =
      ext_get_or 0 (take at new) (take at old) (omega (arith, length-take at new, length-take at old, torn.no_shorter))
      (λ place below.
      let small : place < at = omega (arith, length-take at new) in
      get_or-take at new place 0 small
      ∙ torn.kept place (omega arith) (outside_one (record { at = at; length = count }) place (inl small))
      ∙ sym (get_or-take at old place 0 small))

  pub torn_long : at + count ≤ length old → length new ≡ length old
  torn_long within = omega (arith, torn.no_shorter, torn.no_longer)

  pub torn_back : at + count ≤ length old → drop (at + count) new ≡ drop (at + count) old
  torn_back within =
      ext_get_or 0 (drop (at + count) new) (drop (at + count) old) (omega (arith, length-drop (at + count) new, length-drop (at + count) old, torn_long within))
      (λ place below.
      get_or-drop (at + count) new place 0
      ∙ torn.kept (at + count + place) (omega (arith, length-drop (at + count) new, torn_long within)) (outside_one (record { at = at; length = count }) (at + count + place) (inr (omega arith)))
      ∙ sym (get_or-drop (at + count) old place 0))
