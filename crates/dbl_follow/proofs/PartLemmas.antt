-- The open transaction after one more change.
use Rattle.std.proofs.Common.{◌≡◌, ◌∙◌, ◌+◌, ℕ, ℤ, Some, None, List, [], ◌∷◌, ◌++◌, length, refl, sym, ap, arith}
use Rattle.dbl_record.specs.declared.record.Record.{Record}
use Rattle.dbl_model_table.specs.declared.change.Change.{Change}
use Rattle.dbl_model_table.specs.declared.change.Head.{Head}
use Rattle.dbl_model_table.specs.Heads.{commit_so_far}
use Rattle.dbl_model_event.specs.OpenEvents.{unmarked}
use Rattle.dbl_envelope.specs.declared.so_far.OpenRecords.{OpenRecords}
use Rattle.dbl_envelope.specs.SoFar.{AppendsRecords, made_by, records_after}
use Rattle.dbl_envelope.specs.Writers.{Captured}
use Rattle.dbl_follow.specs.declared.part.Part.{Part}
use Rattle.dbl_follow.specs.Amid.{ExtendsPart, HoldsLast}
use Rattle.dbl_follow.specs.Followed.{IsOpenPartOf, OpenPart, part_of}

-- all records of the change but the last one are appended
pub holds_last : (captured : Captured) (head : Head) (now kept : ℤ) (made : ℕ) (change : Change) (old all new : List Record) (records : OpenRecords)
    (held : Record)
    → kept ≡ now → AppendsRecords captured head now made change old all records → all ≡ new ++ held ∷ []
    → HoldsLast captured head now made change old new (record { head = head; now_ms = kept; records = records; held = held })
holds_last captured head now kept made change old all new records held same a popped = record {
  head_is = refl;
  now_is = same;
  appended = sym popped ∙ a.appended;
  makes = a.makes;
}

-- the records go on to be made for this transaction
pub part_makes : (captured : Captured) (head : Head) (now : ℤ) (made : ℕ) (change : Change) (old new : List Record) (part : Part)
    → HoldsLast captured head now made change old new part → IsOpenPartOf captured (Some part)
part_makes captured head now made change old new part h = record {
  commit = h.makes.commit ∙ ap (λ (x : Head). commit_so_far x []) (sym h.head_is);
  now_is = h.makes.now_is ∙ sym h.now_is;
  made_is = refl;
  tails = h.makes.tails;
}

part_is : (captured : Captured) (head : Head) (now : ℤ) (made : ℕ) (change : Change) (old new : List Record) (part : Part)
    → HoldsLast captured head now made change old new part
    → Some (part_of part) ≡ (let p : OpenPart =
    record { head = head; now = now; made = made + length (records_after captured head now made change); held = part.held } in Some p)
part_is captured head now made change old new part h =
    let head_is : part.head ≡ head = h.head_is in
    let now_is : part.now_ms ≡ now = h.now_is in
    let made_is : made_by part.records ≡ made + length (records_after captured head now made change) = h.makes.made_is in
    λ i. Some (record { head = head_is i; now = now_is i; made = made_is i; held = part.held })

pub first_extends : (captured : Captured) (head : Head) (now : ℤ) (change : Change) (released : List Record) (part : Part)
    → HoldsLast captured head now 0 change [] released part
    → ExtendsPart captured head now change None released (Some (part_of part))
first_extends captured head now change released part h =
    let none : 0 + length (records_after captured head now 0 change) ≡ length (records_after captured head now 0 change) = omega arith in (
      part.held,
      part_is captured head now 0 change [] released part h
          ∙ ap (λ (n : ℕ). let p : OpenPart = record { head = head; now = now; made = n; held = part.held } in Some p) none,
      h.appended,
    )

pub next_extends : (captured : Captured) (head : Head) (now : ℤ) (change : Change) (released : List Record) (old part : Part)
    → HoldsLast captured old.head old.now_ms (made_by old.records) change (unmarked old.held ∷ []) released part
    → ExtendsPart captured head now change (Some (part_of old)) released (Some (part_of part))
next_extends captured head now change released old part h = (
  part.held,
  part_is captured old.head old.now_ms (made_by old.records) change (unmarked old.held ∷ []) released part h,
  h.appended,
)
