use Rattle.std.proofs.Common.{◌∙◌, ◌++◌, ap, subst}
use Rattle.std.specs.Str.{IsUtf8}
use Rattle.json.specs.Print.{quoted}
use Rattle.dbl_record.specs.Line.{Appends, head_pieces, tail_pieces}
use Rattle.dbl_record.proofs.Pieces.{both, line_whole}
use Rattle.dbl_record.proofs.writing.append_line.Goals as goal

-- the whole line
whole : (c : goal.In_ok-append_tail) → Appends c.args.out.items c.append_tail.new.out.items ((head_pieces c.args.item.now ++ quoted c.args.item.now.topic) ++ tail_pieces c.args.item.now)
whole c =
    let topic : Appends c.append_head.new.out.items c.in_ok-quoted.quoted.items (quoted c.args.item.now.topic) = subst (λ t. Appends c.append_head.new.out.items c.in_ok-quoted.quoted.items (quoted t)) c.as_str.ensures.value c.in_ok-quoted.ensures in
    both (both c.in_ok-append_head.ensures topic) c.in_ok-append_tail.ensures

pub returns-clause-line : goal.returns-clause-line
returns-clause-line c = (whole c).items ∙ ap (λ t. c.args.out.items ++ t) (line_whole c.args.item.now)

pub returns-clause-utf8 : goal.returns-clause-utf8
returns-clause-utf8 c = subst IsUtf8 (line_whole c.args.item.now) (whole c).utf8
