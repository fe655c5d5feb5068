use Rattle.std.proofs.Common.{◌≡◌, get_or, rules, refl, sym, ◌∙◌}
use Rattle.dbl_stream2.proofs.ReadingLaws.{kind_read, kind_refused, fixed_start, fixed_stop, fixed_commit, fixed_abort}
use Rattle.dbl_stream2.proofs.decoding.read_short.Goals as goal

pub returns-in-Ok : goal.returns-in-Ok
returns-in-Ok c =
    let first : get_or c.args.bytes.now 0 0 ≡ 83 = search rules in
    kind_read c.args.inside c.args.bytes.now 83 6 _ c.in-83.len_at_least first refl c.in-Ok.ensures.1 (fixed_start c.args.bytes.now first
    ∙ sym c.read_start.ensures)

pub returns-in-Ok-check_width : goal.returns-in-Ok-check_width
returns-in-Ok-check_width c =
    let first : get_or c.args.bytes.now 0 0 ≡ 69 = search rules in
    kind_read c.args.inside c.args.bytes.now 69 1 _ c.in-69.len_at_least first refl c.in-Ok-check_width.ensures.1 (fixed_stop c.args.bytes.now first)

pub returns-in-Ok-check_width-2 : goal.returns-in-Ok-check_width-2
returns-in-Ok-check_width-2 c =
    let first : get_or c.args.bytes.now 0 0 ≡ 99 = search rules in
    kind_read c.args.inside c.args.bytes.now 99 30 _ c.in-99.len_at_least first refl c.in-Ok-check_width-2.ensures.1 (fixed_commit c.args.bytes.now first
    ∙ sym c.read_commit.ensures)

pub returns-in-Ok-check_width-3 : goal.returns-in-Ok-check_width-3
returns-in-Ok-check_width-3 c =
    let first : get_or c.args.bytes.now 0 0 ≡ 65 = search rules in
    kind_read c.args.inside c.args.bytes.now 65 9 _ c.in-65.len_at_least first refl c.in-Ok-check_width-3.ensures.1 (fixed_abort c.args.bytes.now first
    ∙ sym c.read_abort.ensures)

pub returns-in-Err : goal.returns-in-Err
returns-in-Err c =
    let first : get_or c.args.bytes.now 0 0 ≡ 83 = search rules in
    kind_refused c.args.inside c.args.bytes.now 83 6 _ c.in-83.len_at_least first refl c.in-Err.ensures

pub returns-in-Err-check_width : goal.returns-in-Err-check_width
returns-in-Err-check_width c =
    let first : get_or c.args.bytes.now 0 0 ≡ 69 = search rules in
    kind_refused c.args.inside c.args.bytes.now 69 1 _ c.in-69.len_at_least first refl c.in-Err-check_width.ensures

pub returns-in-Err-check_width-2 : goal.returns-in-Err-check_width-2
returns-in-Err-check_width-2 c =
    let first : get_or c.args.bytes.now 0 0 ≡ 99 = search rules in
    kind_refused c.args.inside c.args.bytes.now 99 30 _ c.in-99.len_at_least first refl c.in-Err-check_width-2.ensures

pub returns-in-Err-check_width-3 : goal.returns-in-Err-check_width-3
returns-in-Err-check_width-3 c =
    let first : get_or c.args.bytes.now 0 0 ≡ 65 = search rules in
    kind_refused c.args.inside c.args.bytes.now 65 9 _ c.in-65.len_at_least first refl c.in-Err-check_width-3.ensures
