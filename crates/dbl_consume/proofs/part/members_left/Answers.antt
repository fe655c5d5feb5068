use Rattle.std.proofs.Common.{◌≡◌, ◌∙◌, refl, sym, ap}
use Rattle.json.specs.Json as json
use Rattle.dbl_consume.specs.JsonValues.{data_members, data_at}
use Rattle.dbl_consume.proofs.CellLemmas.{cells_before, cells_before-no_members, one_listed}
use Rattle.dbl_consume.proofs.JsonValueLemmas.{data_at-is}
use Rattle.dbl_consume.proofs.part.members_left.Goals as goal

pub members-init : goal.members-init
members-init c = record {
  left = c.requires;
  copied = λ ms inside. (ms, inside, ap (λ cells. cells_before cells (data_members ms)) c.in_ok-cells.ensures.items);
}

pub part_of-requires : goal.part_of-requires
part_of-requires c =
    let first = c.in-Some.ensures.value c.members.invariant.left.0 c.members.invariant.left.1 in
    (first.0, first.3)

pub members-preserved : goal.members-preserved
members-preserved c =
    let l = c.members in
    let first = c.in-Some.ensures.value l.invariant.left.0 l.invariant.left.1 in
    record {
      left = (first.1, first.4);
      copied = λ ms inside.
          let now = l.invariant.copied ms inside in
          let f = c.in-Some.ensures.value now.0 now.1 in
          (f.1, f.4, one_listed l.cells.items c.push.new.self.items _ now.0 f.1 f.0 c.in_ok-push.ensures.items f.2 (ap data_at c.part_of.ensures ∙ data_at-is _ f.0 f.3) ∙ now.2);
    }

pub returns : goal.returns
returns c = λ ms inside.
    let l = c.members in
    let now = l.invariant.copied ms inside in
    let done : now.0 ≡ json.no_members = c.in_default.ensures.value now.0 now.1 in
    sym (cells_before-no_members l.cells.items) ∙ ap (λ rest. cells_before l.cells.items (data_members rest)) (sym done) ∙ now.2
