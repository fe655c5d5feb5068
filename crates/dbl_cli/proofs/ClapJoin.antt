-- A list of items of a form, as clap reads it.
use Rattle.std.proofs.Common.{◌≡◌, ◌∙◌, Bool, true, false, List, [], ◌++◌, map, Some, not, sym, ap}
use Rattle.std.specs.List.{fold, list_all}
use Rattle.std.specs.Str.{bytes_eq}
use Rattle.clap.specs.Faults.{fault_of}
use Rattle.clap.specs.Values.{bool_text}
use Rattle.clap.specs.Walk.{Text, with_default, first_of, one_of, all_of}
use Rattle.clap.specs.Simple.{matches_of}
use Rattle.dbl_model_table.specs.Tables.{are_distinct}
use Rattle.dbl_cli.specs.Items.{Setting, Named, name_in, words_of, has_value, is_known, is_dashed, value_of, is_given}
use Rattle.dbl_cli.proofs.ClapRules.{place, app, all_rules}
use Rattle.dbl_cli.proofs.ClapRuns.{AreNames, fault_of_items, rows_of_items, items_run}
use Rattle.dbl_cli.proofs.ClapFaults.{fault_from_run, rows_from_run}
use Rattle.dbl_cli.proofs.ClapRows.{row_for, place_rows}
use Rattle.dbl_cli.proofs.ClapItems.{distinct_clear, clear_distinct, distinct_rows}
use Rattle.dbl_cli.proofs.ClapReads.{option_read, flag_read, places_read, some_texts}

module _ (names : List Named) (names_are : AreNames names) (has_places : Bool) (front back : List Setting) (texts : List Text)
    (known_before : list_all (is_known names) front ≡ true) (known_since : list_all (is_known names) back ≡ true)
    (plain : list_all (λ text. not (is_dashed text)) texts ≡ true) (none : has_places ≡ false → texts ≡ []) where
  abbrev words : List Text
  words = words_of front ++ (texts ++ words_of back)

  fault_is : fault_of (app names has_places) words ≡ fault_of_items front texts back
  fault_is = fault_from_run names has_places words _ _ (items_run names names_are front back texts known_before known_since plain has_places none)

  -- clap takes the words if and only if no name is given twice
  pub taken : are_distinct bytes_eq (map name_in (front ++ back)) ≡ true → fault_of (app names has_places) words ≡ []
  taken distinct = fault_is ∙ distinct_clear names names_are front back texts known_before known_since distinct

  pub taken_once : fault_of (app names has_places) words ≡ [] → are_distinct bytes_eq (map name_in (front ++ back)) ≡ true
  taken_once clear = clear_distinct names names_are front back texts known_before known_since (sym fault_is ∙ clear)

  module _ (distinct : are_distinct bytes_eq (map name_in (front ++ back)) ≡ true) where
    matches_are : matches_of (app names has_places) words ≡ fold with_default (rows_of_items front texts back) (all_rules names has_places)
    matches_are = rows_from_run names has_places words _ _ (items_run names names_are front back texts known_before known_since plain has_places none)

    rows_are : rows_of_items front texts back ≡ (map row_for front ++ place_rows texts) ++ map row_for back
    rows_are = distinct_rows names names_are front back texts known_before known_since distinct

    -- and gives the values
    pub option_given : (name : Text) → has_value names name ≡ Some true → first_of name (matches_of (app names has_places) words) ≡ value_of name (front ++ back)
    option_given name has =
        ap (first_of name) (matches_are ∙ ap (λ rs. fold with_default rs (all_rules names has_places)) rows_are)
        ∙ option_read names names_are has_places front back texts known_before known_since name has

    pub flag_given : (name : Text) → has_value names name ≡ Some false → one_of name (matches_of (app names has_places) words) ≡ Some (bool_text (is_given name (front ++ back)))
    flag_given name has =
        ap (one_of name) (matches_are ∙ ap (λ rs. fold with_default rs (all_rules names has_places)) rows_are)
        ∙ flag_read names names_are has_places front back texts known_before known_since name has

    pub places_given : all_of place (matches_of (app names has_places) words) ≡ some_texts texts
    places_given =
        ap (all_of place) (matches_are ∙ ap (λ rs. fold with_default rs (all_rules names has_places)) rows_are)
        ∙ places_read names names_are has_places front back texts known_before known_since
