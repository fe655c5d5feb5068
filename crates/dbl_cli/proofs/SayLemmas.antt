-- From clap's answer to what the words say.
use Rattle.std.proofs.Common.{◌≡◌, ◌∙◌, ℕ, ◌≤◌, ◌==◌, ◌&&◌, Bool, true, false, cond, List, [], ◌∷◌, ◌++◌, length, Option, Some, None, Result, Ok, Err, codes, not, refl, sym, ap, subst, arith, leb, ltb, inl, inr}
use Rattle.std.specs.List.{find, list_all}
use Rattle.std.specs.Option.{option_map, unwrap_or}
use Rattle.std.specs.Str.{bytes_eq}
use Rattle.std.proofs.lemmas.Bool.{and_parts, false≢true, not-true, both_ways, ltb-false, leb-true}
use Rattle.std.proofs.lemmas.Slice.Eq.{bytes_eq-Decides}
use Rattle.clap.specs.Lexer.{has_byte}
use Rattle.clap.specs.Faults.{fault_of}
use Rattle.clap.specs.Matches.{found_of}
use Rattle.clap.specs.Values.{bool_text}
use Rattle.clap.specs.Walk.{Text, rows_of, first_of, one_of, all_of}
use Rattle.clap.specs.Simple.{matches_of}
use Rattle.clap.specs.declared.parser.matches.ArgMatches.{ArgMatches}
use Rattle.clap.proofs.WalkLemmas.{first_value-rows, one_text-rows, raw_values-rows}
use Rattle.dbl_cli.specs.declared.verbs.Verb.{Verb}
use Rattle.dbl_cli.specs.declared.verbs.Verb.TheVariants as verb
use Rattle.dbl_cli_commands.specs.declared.commands.Command.{Command}
use Rattle.dbl_cli.specs.declared.error.CliError.{CliError}
use Rattle.dbl_cli.specs.declared.error.CliError.TheVariants.{Memory, Usage}
use Rattle.dbl_cli.specs.Items.{Setting, Named, AreItems, has_value, value_of, is_given}
use Rattle.std.specs.Prelude.{if◌then◌else◌}
use Rattle.dbl_cli.specs.Commands.{Spells, name_of, names_of, least_of, most_of, form_of, values_pass, capture_of, resume_of, apply_of, replay_of, gen_of, command_of}
use Rattle.dbl_cli.specs.Checks.{are_items}
use Rattle.dbl_cli.specs.Parsers.{place, app}
use Rattle.dbl_cli.specs.Reads.{Reads}
use Rattle.dbl_cli.specs.Found.{Finds, SaysItems, ReadsItems}
use Rattle.dbl_cli.proofs.ClapWords.{IsPlainName}
use Rattle.dbl_cli.proofs.ClapRuns.{AreNames}
use Rattle.dbl_cli.proofs.ClapReads.{some_texts}
use Rattle.dbl_cli.proofs.ClapJoin.{taken, taken_once, option_given, flag_given, places_given}
use Rattle.dbl_cli.proofs.ItemLaws.{look_passes, look_sound}

-- ---- the names of each command

abbrev is_plain : Named → Bool
is_plain n = not (length n.name == 0) && not (has_byte 61 n.name)

plain_name : (name : List ℕ) → not (length name == 0) ≡ true → not (has_byte 61 name) ≡ true → IsPlainName name
plain_name [] some whole = absurd (false≢true some)
plain_name (c ∷ cs) some whole = record { first = c; others = cs; some = refl; whole = not-true _ whole }

all_plain : (names : List Named) → list_all is_plain names ≡ true → (name : Text) (b : Bool) → has_value names name ≡ Some b → IsPlainName name
all_plain [] all name b has = cc
all_plain (n ∷ names) all name b has =
    let parts = and_parts (is_plain n) (list_all is_plain names) all in
    go (bytes_eq n.name name) refl (and_parts _ _ parts.0) has (λ h. all_plain names parts.1 name b h)
  where
    go : (t : Bool) → bytes_eq n.name name ≡ t → (not (length n.name == 0) ≡ true) × (not (has_byte 61 n.name) ≡ true)
        → option_map (λ (m : Named). m.has_value) (cond t (Some n) (find (λ (m : Named). bytes_eq m.name name) names)) ≡ Some b → (has_value names name ≡ Some b → IsPlainName name) → IsPlainName name
    go true e own h next = subst IsPlainName ((bytes_eq-Decides n.name name).0 e) (plain_name n.name own.0 own.1)
    go false e own h next = next h

pub are_names : (v : Verb) → AreNames (names_of v)
are_names verb.Init = record { plain = all_plain [] refl; no_place = refl; flags = refl }
are_names verb.Topics = record { plain = all_plain [] refl; no_place = refl; flags = refl }
are_names verb.Offsets = record { plain = all_plain [] refl; no_place = refl; flags = refl }
are_names verb.Compact = record { plain = all_plain [] refl; no_place = refl; flags = refl }
are_names verb.Capture = record { plain = all_plain (names_of verb.Capture) refl; no_place = refl; flags = refl }
are_names verb.Resume = record { plain = all_plain (names_of verb.Resume) refl; no_place = refl; flags = refl }
are_names verb.Apply = record { plain = all_plain (names_of verb.Apply) refl; no_place = refl; flags = refl }
are_names verb.Replay = record { plain = all_plain (names_of verb.Replay) refl; no_place = refl; flags = refl }
are_names verb.Gen = record { plain = all_plain (names_of verb.Gen) refl; no_place = refl; flags = refl }

abbrev pub has_places : Verb → Bool
has_places v = ltb 0 (most_of v)

no_places : (v : Verb) (texts : List Text) → leb (length texts) (most_of v) ≡ true → has_places v ≡ false → texts ≡ []
no_places v [] few none = refl
no_places v (t ∷ ts) few none =
    let high : length (t ∷ ts) ≤ most_of v = leb-true _ _ few in
    let low : most_of v ≤ 0 = ltb-false _ _ none in
    absurd (omega arith)

-- ---- items as clap reads them

module _ (v : Verb) (words : List Text) (front : List Setting) (texts : List Text) (back : List Setting) (items : AreItems (form_of v) words front texts back) where
  pub said_passes : are_items (names_of v) (least_of v) (most_of v) words ≡ true
  said_passes =
      ap (are_items (names_of v) (least_of v) (most_of v)) items.written
      ∙ look_passes (names_of v) (are_names v) (least_of v) (most_of v) front back texts items.known_before items.known_since items.plain items.enough items.few

  pub said_taken : fault_of (app (names_of v) (has_places v)) words ≡ []
  said_taken =
      ap (fault_of (app (names_of v) (has_places v))) items.written
      ∙ taken (names_of v) (are_names v) (has_places v) front back texts items.known_before items.known_since items.plain (no_places v texts items.few) items.once

  pub said_option : (name : Text) → has_value (names_of v) name ≡ Some true → first_of name (matches_of (app (names_of v) (has_places v)) words) ≡ value_of name (front ++ back)
  said_option name has =
      ap (λ ws. first_of name (matches_of (app (names_of v) (has_places v)) ws)) items.written
      ∙ option_given (names_of v) (are_names v) (has_places v) front back texts items.known_before items.known_since items.plain (no_places v texts items.few) items.once name has

  pub said_flag : (name : Text) → has_value (names_of v) name ≡ Some false → one_of name (matches_of (app (names_of v) (has_places v)) words) ≡ Some (bool_text (is_given name (front ++ back)))
  said_flag name has =
      ap (λ ws. one_of name (matches_of (app (names_of v) (has_places v)) ws)) items.written
      ∙ flag_given (names_of v) (are_names v) (has_places v) front back texts items.known_before items.known_since items.plain (no_places v texts items.few) items.once name has

  pub said_places : all_of place (matches_of (app (names_of v) (has_places v)) words) ≡ some_texts texts
  said_places =
      ap (λ ws. all_of place (matches_of (app (names_of v) (has_places v)) ws)) items.written
      ∙ places_given (names_of v) (are_names v) (has_places v) front back texts items.known_before items.known_since items.plain (no_places v texts items.few) items.once

  pub said_found : (found : ArgMatches) → rows_of (found_of found) ≡ matches_of (app (names_of v) (has_places v)) words → Finds v found (front ++ back) texts
  said_found found rows = record {
    options = λ name has. first_value-rows (found_of found) name ∙ ap (first_of name) rows ∙ said_option name has;
    flags = λ name has. one_text-rows (found_of found) name ∙ ap (one_of name) rows ∙ said_flag name has;
    places = ap (λ o. unwrap_or o []) (raw_values-rows (found_of found) place ∙ ap (all_of place) rows ∙ said_places) ∙ any texts;
    enough = items.enough;
    few = items.few;
  }
    where
      any : (ts : List Text) → unwrap_or (some_texts ts) [] ≡ ts
      any [] = refl
      any (t ∷ ts) = refl

-- ---- the answers

pub refused : (v : Verb) (words : List Text) → are_items (names_of v) (least_of v) (most_of v) words ≡ false → (command : Command) → SaysItems v words command → ⊥
refused v words fails command says = both_ways _ fails (said_passes v words says.front says.texts says.back says.items)

pub taken_items : (v : Verb) (words : List Text) → are_items (names_of v) (least_of v) (most_of v) words ≡ true → fault_of (app (names_of v) (has_places v)) words ≡ []
    → (front : List Setting) × (texts : List Text) × (back : List Setting) × AreItems (form_of v) words front texts back
taken_items v words passed clear =
    let i = look_sound (names_of v) (least_of v) (most_of v) words passed in (
      i.front,
      i.texts,
      i.back,
      record {
        written = i.written;
        known_before = i.known_before;
        known_since = i.known_since;
        once = taken_once (names_of v) (are_names v) (has_places v) i.front i.back i.texts i.known_before i.known_since i.plain (no_places v i.texts i.few)
            (sym (ap (fault_of (app (names_of v) (has_places v))) i.written) ∙ clear);
        plain = i.plain;
        enough = i.enough;
        few = i.few;
      },
    )

-- a reader of what clap found, on words that clap took
pub read_said : (v : Verb) (words : List Text) (found : ArgMatches) (r : Result Command CliError)
    → ((settings : List Setting) (texts : List Text) → Finds v found settings texts → Reads (values_pass v settings texts) (command_of v settings texts) r)
    → rows_of (found_of found) ≡ matches_of (app (names_of v) (has_places v)) words
    → ((front : List Setting) × (texts : List Text) × (back : List Setting) × AreItems (form_of v) words front texts back)
    → ReadsItems v words r
read_said v words found (Ok command) reads rows items =
    let got = reads (items.0 ++ items.2) items.1 (said_found v words items.0 items.1 items.2 items.3 found rows) in
    record { front = items.0; texts = items.1; back = items.2; items = items.3; pass = got.0; says = got.1 }
read_said v words found (Err Memory) reads rows items = inl refl
read_said v words found (Err Usage) reads rows items = inr (λ command says.
    elim (reads (says.front ++ says.back) says.texts (said_found v words says.front says.texts says.back says.items found rows)) [
      | inl h ↦ cc
      | inr h ↦ both_ways _ h says.pass
    ])

-- ---- names of commands

abbrev pub verb_by : List ℕ → Option Verb
verb_by name =
    if bytes_eq name (codes "init") then Some verb.Init
    else (if bytes_eq name (codes "topics") then Some verb.Topics
    else (if bytes_eq name (codes "offsets") then Some verb.Offsets
    else (if bytes_eq name (codes "compact") then Some verb.Compact
    else (if bytes_eq name (codes "capture") then Some verb.Capture
    else (if bytes_eq name (codes "resume") then Some verb.Resume
    else (if bytes_eq name (codes "apply") then Some verb.Apply
    else (if bytes_eq name (codes "replay") then Some verb.Replay
    else (if bytes_eq name (codes "gen") then Some verb.Gen else None))))))))

pub verb_named : (v : Verb) → verb_by (name_of v) ≡ Some v
verb_named verb.Init = refl
verb_named verb.Topics = refl
verb_named verb.Offsets = refl
verb_named verb.Compact = refl
verb_named verb.Capture = refl
verb_named verb.Resume = refl
verb_named verb.Apply = refl
verb_named verb.Replay = refl
verb_named verb.Gen = refl

-- two commands have two names
pub same_verb : (v w : Verb) → name_of v ≡ name_of w → v ≡ w
same_verb v w same =
    let both : Some v ≡ Some w = sym (verb_named v) ∙ ap verb_by same ∙ verb_named w in
    cc

-- what words spell, their rest says
pub said_of : (words rest : List Text) (v : Verb) (command : Command) → words ≡ name_of v ∷ rest → Spells words command → SaysItems v rest command
said_of words rest v command parts spells =
    let both : name_of spells.verb ∷ spells.rest ≡ name_of v ∷ rest = sym spells.parts ∙ parts in
    let names : name_of spells.verb ≡ name_of v = cc in
    let rests : spells.rest ≡ rest = cc in
    let own : SaysItems spells.verb spells.rest command = record { front = spells.front; texts = spells.texts; back = spells.back; items = spells.items; pass = spells.pass; says = spells.says } in
    subst (λ (w : Verb). SaysItems w rest command) (same_verb spells.verb v names) (subst (λ (ws : List Text). SaysItems spells.verb ws command) rests own)

pub not_spelled : (words rest : List Text) (v : Verb) (r : Result Command CliError) → words ≡ name_of v ∷ rest → ReadsItems v rest r → r ≡ Err Usage → (command : Command) → Spells words command → ⊥
not_spelled words rest v (Ok c) parts reads is command spells = cc
not_spelled words rest v (Err e) parts reads is command spells =
    let usage : e ≡ Usage = cc in
    elim reads [
      | inl h ↦ let bad : Usage ≡ Memory = sym usage ∙ h in cc
      | inr h ↦ h command (said_of words rest v command parts spells)
    ]

-- ---- at most one command

pub same_flag : (a b : Bool) → Some (bool_text a) ≡ Some (bool_text b) → a ≡ b
same_flag true true h = refl
same_flag true false h = cc
same_flag false true h = cc
same_flag false false h = refl

pub same_texts : (a b : List Text) → some_texts a ≡ some_texts b → a ≡ b
same_texts [] [] h = refl
same_texts [] (y ∷ ys) h = cc
same_texts (x ∷ xs) [] h = cc
same_texts (x ∷ xs) (y ∷ ys) h = cc

module _ (words : List Text) (front : List Setting) (texts : List Text) (back front2 : List Setting) (texts2 : List Text) (back2 : List Setting) where
  one_says : (v : Verb) → AreItems (form_of v) words front texts back → AreItems (form_of v) words front2 texts2 back2 → command_of v (front ++ back) texts ≡ command_of v (front2 ++ back2) texts2
  one_says v one other = go v (λ name has. sym (said_option v words front texts back one name has) ∙ said_option v words front2 texts2 back2 other name has)
      (λ name has. same_flag _ _ (sym (said_flag v words front texts back one name has) ∙ said_flag v words front2 texts2 back2 other name has))
      (same_texts texts texts2 (sym (said_places v words front texts back one) ∙ said_places v words front2 texts2 back2 other))
    where
      go : (w : Verb) → ((name : Text) → has_value (names_of w) name ≡ Some true → value_of name (front ++ back) ≡ value_of name (front2 ++ back2))
          → ((name : Text) → has_value (names_of w) name ≡ Some false → is_given name (front ++ back) ≡ is_given name (front2 ++ back2)) → texts ≡ texts2
          → command_of w (front ++ back) texts ≡ command_of w (front2 ++ back2) texts2
      go verb.Init options flags same = refl
      go verb.Topics options flags same = refl
      go verb.Offsets options flags same = refl
      go verb.Compact options flags same = refl
      go verb.Capture options flags same =
          (λ i. capture_of (options (codes "prefix") refl i) (options (codes "db") refl i) (options (codes "placeholder") refl i) (options (codes "chunk") refl i) (options (codes "every") refl i) (options (codes "messages") refl i) (options (codes "max-value") refl i) (same i))
      go verb.Resume options flags same = (λ i. resume_of (options (codes "chunk") refl i) (options (codes "every") refl i) (options (codes "messages") refl i) (options (codes "max-value") refl i))
      go verb.Apply options flags same = (λ i. apply_of (flags (codes "lines") refl i) (options (codes "placeholder") refl i))
      go verb.Replay options flags same =
          (λ i. replay_of (options (codes "prefix") refl i) (options (codes "db") refl i) (options (codes "placeholder") refl i) (flags (codes "raw") refl i) (flags (codes "stream") refl i)
          (options (codes "mask") refl i) (same i))
      go verb.Gen options flags same = (λ i. gen_of (same i) (options (codes "rows") refl i) (options (codes "groups") refl i) (flags (codes "run") refl i))

pub one_command : (words : List Text) (one other : Command) → Spells words one → Spells words other → one ≡ other
one_command words one other a b =
    let c = said_of words a.rest a.verb other a.parts b in
    a.says ∙ one_says a.rest a.front a.texts a.back c.front c.texts c.back a.verb a.items c.items ∙ sym c.says
