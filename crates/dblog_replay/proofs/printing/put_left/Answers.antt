use Rattle.std.proofs.Common.{◌≡◌, ◌∙◌, ◌++◌, [], map, sym, ap, arith}
use Rattle.std.proofs.lemmas.List.{map-append}
use Rattle.dbl_record.specs.Line.{line_of}
use Rattle.dbl_lines.proofs.PutLemmas.{putting_begins, putting_more, putting_fails, putting_starves, putting_ends}
use Rattle.dblog_replay.proofs.PrintLemmas.{no_items}
use Rattle.dblog_replay.proofs.printing.put_left.Goals as goal

pub left-init : goal.left-init
left-init g c = (putting_begins _ c.args.lines.now (g.O.Output.written c.args.output.now), omega arith)

pub left-preserved : goal.left-preserved
left-preserved g c =
    let split : map line_of c.left.left ≡ map line_of c.in-Ok.made.items ++ map line_of c.next.new.self = ap (map line_of) c.in-Ok.ensures.ok ∙ map-append line_of c.in-Ok.made.items c.next.new.self in
    (putting_more _ _ _ _ _ _ _ _ _ _ c.left.invariant.0 split c.in-Ok-put_records.ensures.puts, omega arith)

pub returns-in-Err-put_records-clause-puts : goal.returns-in-Err-put_records-clause-puts
returns-in-Err-put_records-clause-puts g c =
    let split : map line_of c.left.left ≡ map line_of c.in-Ok.made.items ++ map line_of c.next.new.self = ap (map line_of) c.in-Ok.ensures.ok ∙ map-append line_of c.in-Ok.made.items c.next.new.self in
    putting_fails _ _ _ _ _ _ _ _ _ _ c.left.invariant.0 split c.in-Err-put_records.ensures.puts

pub returns-in-Err-clause-puts : goal.returns-in-Err-clause-puts
returns-in-Err-clause-puts g c = putting_starves _ _ _ _ _ _ c.left.invariant.0

pub returns-then-is_empty-clause-puts : goal.returns-then-is_empty-clause-puts
returns-then-is_empty-clause-puts g c =
    let none : c.in-Ok.made.items ≡ [] = no_items c.in-Ok.made.items c.in-Ok.made.len (omega (arith, c.in-Ok.made.ok)) (sym c.is_empty.ensures ∙ c.if-is_empty.true) in
    putting_ends _ _ _ _ _ _ c.left.invariant.0 (ap (map line_of) (c.in-Ok.ensures.end none))
