-- The bytes of a workload with one table, with a watermark and a confirmed position after it.
use Rattle.std.proofs.Common.{◌≡◌, ◌∙◌, ℕ, true, false, Bool, Option, None, Some, List, [], ◌∷◌, ◌++◌, length, refl, sym, ap, arith, length-append}
use Rattle.std.specs.Prelude.{codes, if◌then◌else◌}
use Rattle.std.specs.List.{All, cons_option, filter_map}
use Rattle.std.proofs.lemmas.List.Elements.{All-cons, All-nil}
use Rattle.std.proofs.lemmas.Str.{IsUtf8-from_is_utf8}
use Rattle.dbl_record.specs.Fields.{number32, number64, text_form}
use Rattle.dbl_record.proofs.Sizes.{number32_size, number64_size}
use Rattle.dbl_base.specs.Lines.{lines_of}
use Rattle.dbl_script.specs.ModelTable.declared.table.TableInfo.{TableInfo}
use Rattle.dbl_script.specs.ModelTable.Infos.{IsInfoOf}
use Rattle.dbl_script.specs.ModelTable.Made.{table_fault}
use Rattle.dbl_tables_laws.proofs.ModelTableCapturable.{capturable}
use Rattle.dbl_journal.specs.Form.{IsEntry, up_to_gate}
use Rattle.dbl_script.specs.declared.line.Line.{Line}
use Rattle.dbl_script.specs.declared.line.Line.TheVariants.{Table}
use Rattle.dbl_script.specs.declared.script.Script.{Script}
use Rattle.dbl_script.specs.declared.script.ScriptTable.{ScriptTable}
use Rattle.dbl_script.specs.Columns.{column_of, columns_of, named_column, typed_column}
use Rattle.dbl_script.specs.Grammar.{identity_of, line_at, table_in, toast_of, worded}
use Rattle.dbl_script.specs.Scripts.{first_bad, first_bad_after, follows, is_empty, may_follow, row_said, said, script_of, step_said, table_said}
use Rattle.dbl_script.specs.Texts.{column_name_of, listed_oid_of, measured_oid_of, name_of, number_of, oid_of, table_name_of, utf8_text}
use Rattle.dbl_script.specs.Reads.{all_of, some_of}
use Rattle.std.specs.Str.{chars, is_utf8}
use lib.Utf8.{encode}
use Rattle.dbl_script.specs.Value.Types.{type_of}
use Rattle.dbl_tables_laws.specs.TablesRows.declared.demo_table.DemoTable.{DemoTable}
use Rattle.dbl_demo_wal.specs.declared.entry.Entry.TheVariants.{Confirms, Marks}
use Rattle.dbl_demo_wal.specs.Entries.{entry_form, workload_form}
use Rattle.dbl_demo_wal.specs.Wals.{Wal, IsWalOf, forms_of}
use Rattle.dbl_demo_wal.specs.Workloads.{IsWorkload, Workload}
use Rattle.dbl_demo_wal.specs.LogLaws.{AWalStands, example_entries, example_script}

-- ---- the workload

table : ScriptTable
table = record {
  raw = record {
    name = record { schema = codes "public"; name = codes "users" };
    columns = record { name = codes "id"; oid = 23 } ∷ record { name = codes "name"; oid = 25 } ∷ [];
    key = codes "id" ∷ [];
    version = 1;
  };
  full = false;
  toast = 2000;
  line = 1;
}

script : Script
script = record { tables = table ∷ []; rows = []; steps = [] }

one_line : lines_of example_script ≡ example_script ∷ []
one_line = refl

line_is : line_at 1 example_script ≡ Some (Table table)
unfolding line_at worded table_in identity_of toast_of columns_of column_of named_column typed_column utf8_text name_of table_name_of column_name_of number_of oid_of listed_oid_of measured_oid_of some_of all_of is_utf8 chars encode table
line_is = refl

said_is : said 1 (example_script ∷ []) ≡ Table table ∷ []
said_is = ap (λ (o : Option Line). cons_option o []) line_is

script_is : script ≡ script_of (lines_of example_script)
unfolding script
script_is = ap (λ (all : List Line). let s : Script = record { tables = filter_map table_said all; rows = filter_map row_said all; steps = filter_map step_said all } in s) (sym said_is)

may : follows (script_of []) (Some (Table table)) ≡ true
unfolding may_follow
may = refl

good : first_bad (lines_of example_script) ≡ None
good =
    ap (λ (b : Bool). if b then first_bad_after (example_script ∷ []) [] else Some 1) (ap (follows (script_of [])) line_is ∙ may)
    ∙ ap (λ (all : List Line). if is_empty (filter_map table_said all) then Some 2 else None) said_is

no_fault : table_fault table.raw ≡ None
unfolding table type_of
no_fault = refl

info : (i : TableInfo) × IsInfoOf table.raw i
info = (capturable table.raw).0 no_fault

captured : DemoTable
captured = record { info = info.0; full = false; toast = 2000 }

workload : Workload
workload = record { script = script; tables = captured ∷ [] }

is_workload : IsWorkload example_script workload
unfolding workload captured script table
is_workload = record {
  few = omega arith;
  good = good;
  script = script_is;
  tables = (record { info = info.1; full = refl; toast = refl }, tt);
  rows = tt;
}

-- ---- its wal

wal : Wal
wal = record { script = example_script; workload = workload; entries = example_entries }

is_text : is_utf8 (codes "1-1-L") ≡ true
unfolding is_utf8 chars encode
is_text = refl

is_wal : IsWalOf (forms_of wal) wal
unfolding wal workload script
is_wal = record {
  are = refl;
  workload = is_workload;
  fits = (record { steps_fit = omega arith; stored = record { utf8 = IsUtf8-from_is_utf8 (codes "1-1-L") is_text; short = omega arith }; short = omega arith }, (omega arith, tt));
  sound = record {
    each = (record { later = omega arith; there = omega arith; none_between = refl }, (record { begun = omega arith; no_fall = omega arith }, tt));
    begun = omega arith;
  };
}

three : (a b c : List ℕ) → IsEntry a → IsEntry b → IsEntry c → All IsEntry (a ∷ b ∷ c ∷ [])
three a b c p q r = All-cons IsEntry a (b ∷ c ∷ []) p (All-cons IsEntry b (c ∷ []) q (All-cons IsEntry c [] r (All-nil IsEntry)))

short_workload : IsEntry (workload_form example_script)
unfolding workload_form
short_workload = omega arith

short_mark : IsEntry (entry_form (Marks 0 (codes "1-1-L")))
unfolding entry_form text_form
short_mark = omega (
  arith,
  length-append (number64 0) (number32 (length (codes "1-1-L")) ++ codes "1-1-L"),
  length-append (number32 (length (codes "1-1-L"))) (codes "1-1-L"),
  number64_size 0,
  number32_size (length (codes "1-1-L")),
)

short_confirm : IsEntry (entry_form (Confirms (record { 0 = 256 })))
unfolding entry_form
short_confirm = omega (arith, number64_size 256)

short_each : All IsEntry (forms_of wal)
unfolding wal
short_each = three (workload_form example_script) (entry_form (Marks 0 (codes "1-1-L"))) (entry_form (Confirms (record { 0 = 256 }))) short_workload short_mark short_confirm

pub a_wal : AWalStands
unfolding wal
a_wal = (
  wal,
  up_to_gate (forms_of wal) ++ 0 ∷ [],
  record {
    is = record { forms = forms_of wal; journal = record { rest = 0 ∷ []; spelled = refl; closed = λ e. cc; each = short_each }; are = is_wal; few = omega arith };
    script = refl;
    entries = refl;
  },
)
