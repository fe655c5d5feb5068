use Rattle.std.proofs.Common.{◌≡◌, ◌∙◌, ◌++◌, List, ℕ, length, ap, arith}
use Rattle.std.specs.List.{flat_map}
use Rattle.dbl_model_table.specs.declared.table.TableInfo.{TableInfo}
use Rattle.dbl_record.specs.Fields.{number32}
use Rattle.dbl_offset_content.specs.Entries.{entries_of, entry, tables_with_cursors}
use Rattle.dbl_offset_content.proofs.Sizes.{written_whole, entries_long}
use Rattle.dbl_offset_content.proofs.writing.write_offset.Goals as goal

pub returns : goal.returns
returns c =
    let o = c.args.offset.now in
    let infos : c.deref.result.now ≡ o.infos = c.deref.ensures.value ∙ c.items-2.ensures in
    let versions : c.deref-2.result.now ≡ o.versions = c.deref-2.ensures.value ∙ c.items-3.ensures in
    let cursors : c.deref-3.result.now ≡ o.cursors = c.deref-3.ensures.value ∙ c.items-4.ensures in
    let count : c.len.result ≡ length (tables_with_cursors o) =
    omega (arith, c.len.ensures, c.items.result.now.ok.0, ap (λ (l : List TableInfo). length l) c.items.ensures, entries_long o.infos o.versions o.cursors c.requires.versions c.requires.long) in
    written_whole c.args.format o c.args.out.now.items c.push.new.self.items c.write_names.new.out.items c.append_number64.new.out.items c.append_number64-2.new.out.items c.append_number64-3.new.out.items c.append_number64-4.new.out.items c.append_number32.new.out.items
    c.write_entries.new.out.items c.in_ok-push.ensures.items
    c.in_ok-write_names.ensures c.in_ok-append_number64.ensures c.in_ok-append_number64-2.ensures c.in_ok-append_number64-3.ensures c.in_ok-append_number64-4.ensures
    (c.in_ok-append_number32.ensures ∙ ap (λ (n : ℕ). c.append_number64-4.new.out.items ++ number32 n) count)
    (c.in_ok-write_entries.ensures ∙ (λ i. c.append_number32.new.out.items ++ flat_map (entry c.args.format) (entries_of (infos i) (versions i) (cursors i))))
