-- What a session is asked for is within the limits.
use Rattle.std.proofs.Common.{◌≡◌, ◌&&◌, Bool, true, false, Option, Some, None, List, [], ◌∷◌, length, refl, sym, ap, subst, arith}
use Rattle.std.proofs.lemmas.List.{length-map}
use Rattle.dbl_model_table.specs.declared.config.Config.{Config}
use Rattle.dbl_model_table.specs.declared.table.TableInfo.{TableInfo}
use Rattle.dbl_model_table.specs.declared.table.TableName.{TableName}
use Rattle.dbl_model_table.specs.Configs.{IsGoodConfig}
use Rattle.dbl_cli_commands.specs.declared.commands.CaptureOptions.{CaptureOptions}
use Rattle.dbl_cli_commands.specs.declared.commands.ResumeOptions.{ResumeOptions}
use Rattle.dbl_cli_commands.specs.Limits.{AreGoodNames, AreGoodTables, IsGoodPace}
use Rattle.dbl_offset_content.specs.declared.offset.Offset.{Offset}
use Rattle.dbl_offset.specs.Offsets.{IsOffset}
use Rattle.dbl_demo.specs.DemoWorkload.Ready.{AreTableNames}
use Rattle.dblog_promise.specs.PromiseLaws.{AreFewNames}
use Rattle.dblog_promise.proofs.TableLaws.{workloads_have_tables}
use Rattle.dblog_connect.specs.declared.asked.Asked.{Asked}
use Rattle.dblog_connect.specs.declared.asked.Asked.TheVariants.{First, Again}
use Rattle.dblog_connect.specs.Asked.{asks_of, budget_of, config_again, config_of, tables_or}

all_true : (a b c d : Bool) → a ≡ true → b ≡ true → (c && d) ≡ true → (a && b && c && d) ≡ true
all_true true true true true p q r = refl
all_true true true true false p q r = r
all_true true true false d p q r = r
all_true true false c d p q r = q
all_true false b c d p q r = p

pub none_named : (tables all : List TableName) → length tables ≡ 0 → tables_or tables all ≡ all
none_named [] all none = refl
none_named (table ∷ tables) all none = absurd (omega (arith, none))

pub some_named : (tables all : List TableName) → (length tables ≡ 0 → ⊥) → tables_or tables all ≡ tables
some_named [] all some = absurd (some refl)
some_named (table ∷ tables) all some = refl

few_or : (tables all : List TableName) → AreFewNames all → AreGoodTables tables → AreFewNames (tables_or tables all)
few_or [] all few good = few
few_or (table ∷ tables) all few good = record { some = omega arith; few = good.few; distinct = good.distinct }

few_names : (all : List TableName) → AreTableNames all → AreFewNames all
few_names all names = subst AreFewNames (sym names.3) (workloads_have_tables names.0 names.1 names.2)

pub good_first : (options : CaptureOptions) (all : List TableName) → AreTableNames all → AreGoodNames options.prefix options.db options.placeholder
    → IsGoodPace options.chunk options.every options.messages → AreGoodTables options.tables → IsGoodConfig (config_of options all)
good_first options all names good pace tables =
    let few = few_or options.tables all (few_names all names) tables in
    record {
      identity = all_true _ _ _ _ good.prefix_is good.db_is good.placeholder_is;
      some_tables = few.some;
      few_tables = few.few;
      distinct = few.distinct;
      chunk = pace.chunk_is;
      every = pace.every_is;
      messages = pace.messages_are;
    }

pub good_again : (offset : Offset) (options : ResumeOptions) → IsOffset offset → IsGoodPace options.chunk options.every options.messages
    → IsGoodConfig (config_again offset options)
good_again offset options is pace =
    let many = length-map offset.infos (λ (info : TableInfo). info.name) in
    record {
      identity = is.identity;
      some_tables = omega (arith, many, is.some);
      few_tables = omega (arith, many, is.few);
      distinct = is.distinct;
      chunk = pace.chunk_is;
      every = pace.every_is;
      messages = pace.messages_are;
    }

-- of as many messages as the words allow
pub asks_budget : (asked : Asked) (all : List TableName) (stored : Option Offset) (config : Config) → asks_of asked all stored ≡ Some config → config.messages ≡ budget_of asked
asks_budget (First options) all None config is = (let same : config_of options all ≡ config = (let i = is in cc) in sym (ap (λ (c : Config). c.messages) same))
asks_budget (First options) all (Some offset) config is = absurd (let i = is in cc)
asks_budget (Again options) all None config is = absurd (let i = is in cc)
asks_budget (Again options) all (Some offset) config is =
    (let same : config_again offset options ≡ config = (let i = is in cc) in sym (ap (λ (c : Config). c.messages) same))
