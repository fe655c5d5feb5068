-- Words spell a command, or none.
use Rattle.std.proofs.Common.{◌≡◌, ◌⊎◌, inl, inr, ◌∙◌, Bool, true, false, List, [], ◌∷◌, ◌++◌, Option, Some, None, codes, refl, sym, ap}
use Rattle.std.specs.Prelude.{MatchOption, if◌then◌else◌}
use Rattle.std.specs.Str.{bytes_eq}
use Rattle.std.proofs.lemmas.Bool.{both_ways}
use Rattle.std.proofs.lemmas.Slice.Eq.{bytes_eq-Decides}
use Rattle.clap.specs.Faults.{fault_of}
use Rattle.clap.specs.Walk.{Text}
use Rattle.dbl_cli.specs.declared.verbs.Verb.{Verb}
use Rattle.dbl_cli.specs.declared.verbs.Verb.TheVariants as verb
use Rattle.dbl_cli_commands.specs.declared.commands.Command.{Command}
use Rattle.dbl_cli.specs.Items.{Setting, AreItems, has_value, value_of, is_given}
use Rattle.dbl_cli.specs.Commands.{Spells, name_of, names_of, least_of, most_of, form_of, values_pass, capture_passes, resume_passes, apply_passes, replay_passes, gen_passes, command_of}
use Rattle.dbl_cli.specs.Checks.{are_items}
use Rattle.dbl_cli.specs.Parsers.{app}
use Rattle.dbl_cli.specs.Found.{SaysItems}
use Rattle.dbl_cli.proofs.SayLemmas.{has_places, refused, said_taken, taken_items, said_option, said_flag, said_places, said_of, same_flag, same_texts, verb_by, verb_named}

-- ---- the verb of a name

by_name : (name : Text) (v : Verb) (b : Bool) (rest : Option Verb) → bytes_eq name (name_of v) ≡ b → ((w : Verb) → rest ≡ Some w → name ≡ name_of w)
    → (w : Verb) → (if b then Some v else rest) ≡ Some w → name ≡ name_of w
by_name name v true rest e later w is =
    let same : v ≡ w = cc in
    (bytes_eq-Decides name (name_of v)).0 e ∙ ap name_of same
by_name name v false rest e later w is = later w is

verb_is : (name : Text) (w : Verb) → verb_by name ≡ Some w → name ≡ name_of w
verb_is name =
    by_name name verb.Init _ _ refl
    (by_name name verb.Topics _ _ refl
    (by_name name verb.Offsets _ _ refl
    (by_name name verb.Compact _ _ refl
    (by_name name verb.Capture _ _ refl
    (by_name name verb.Resume _ _ refl
    (by_name name verb.Apply _ _ refl
    (by_name name verb.Replay _ _ refl
    (by_name name verb.Gen _ _ refl (λ w none. cc)))))))))

pub verb_matches : (name : Text) (o : Option Verb) → o ≡ verb_by name → MatchOption o ((verb : Verb) → name_of verb ≡ name → ⊥) (λ verb. name_of verb ≡ name)
verb_matches name None is = λ (verb : Verb) (same : name_of verb ≡ name).
    let found : None ≡ Some verb = is ∙ ap verb_by (sym same) ∙ verb_named verb in
    cc
verb_matches name (Some v) is = sym (verb_is name v (sym is))

-- ---- two readings of the same words pass both or neither

module _ (words : List Text) (front : List Setting) (texts : List Text) (back front2 : List Setting) (texts2 : List Text) (back2 : List Setting) where
  one_passes : (v : Verb) → AreItems (form_of v) words front texts back → AreItems (form_of v) words front2 texts2 back2 → values_pass v (front ++ back) texts ≡ values_pass v (front2 ++ back2) texts2
  one_passes v one other = go v (λ name has. sym (said_option v words front texts back one name has) ∙ said_option v words front2 texts2 back2 other name has)
      (λ name has. same_flag _ _ (sym (said_flag v words front texts back one name has) ∙ said_flag v words front2 texts2 back2 other name has))
      (same_texts texts texts2 (sym (said_places v words front texts back one) ∙ said_places v words front2 texts2 back2 other))
    where
      go : (w : Verb) → ((name : Text) → has_value (names_of w) name ≡ Some true → value_of name (front ++ back) ≡ value_of name (front2 ++ back2))
          → ((name : Text) → has_value (names_of w) name ≡ Some false → is_given name (front ++ back) ≡ is_given name (front2 ++ back2)) → texts ≡ texts2
          → values_pass w (front ++ back) texts ≡ values_pass w (front2 ++ back2) texts2
      go verb.Init options flags same = refl
      go verb.Topics options flags same = refl
      go verb.Offsets options flags same = refl
      go verb.Compact options flags same = refl
      go verb.Capture options flags same =
          (λ i. capture_passes (options (codes "prefix") refl i) (options (codes "db") refl i) (options (codes "placeholder") refl i) (options (codes "chunk") refl i) (options (codes "every") refl i) (options (codes "messages") refl i) (options (codes "max-value") refl i) (same i))
      go verb.Resume options flags same = (λ i. resume_passes (options (codes "chunk") refl i) (options (codes "every") refl i) (options (codes "messages") refl i) (options (codes "max-value") refl i))
      go verb.Apply options flags same = (λ i. apply_passes (flags (codes "lines") refl i) (options (codes "placeholder") refl i))
      go verb.Replay options flags same = (λ i. replay_passes (options (codes "prefix") refl i) (options (codes "db") refl i) (options (codes "placeholder") refl i)
          (options (codes "mask") refl i) (same i))
      go verb.Gen options flags same = (λ i. gen_passes (same i) (options (codes "rows") refl i) (options (codes "groups") refl i))

-- ---- the rest of the words

abbrev Decided : Verb → List Text → Type 0
Decided v rest = ((command : Command) × SaysItems v rest command) ⊎ ((command : Command) → SaysItems v rest command → ⊥)

by_values : (v : Verb) (rest : List Text) (front : List Setting) (texts : List Text) (back : List Setting) → AreItems (form_of v) rest front texts back
    → (b : Bool) → values_pass v (front ++ back) texts ≡ b → Decided v rest
by_values v rest front texts back items true passes = inl (command_of v (front ++ back) texts, record { front = front; texts = texts; back = back; items = items; pass = passes; says = refl })
by_values v rest front texts back items false fails = inr (λ command says.
    both_ways _ fails (one_passes rest front texts back says.front says.texts says.back v items says.items ∙ says.pass))

by_faults : (v : Verb) (rest : List Text) → are_items (names_of v) (least_of v) (most_of v) rest ≡ true → (faults : List _) → fault_of (app (names_of v) (has_places v)) rest ≡ faults → Decided v rest
by_faults v rest passed [] clear =
    let items = taken_items v rest passed clear in
    by_values v rest items.0 items.1 items.2 items.3 _ refl
by_faults v rest passed (f ∷ fs) faults = inr (λ command says. let bad : [] ≡ f ∷ fs = sym (said_taken v rest says.front says.texts says.back says.items) ∙ faults in cc)

by_items : (v : Verb) (rest : List Text) (b : Bool) → are_items (names_of v) (least_of v) (most_of v) rest ≡ b → Decided v rest
by_items v rest true passed = by_faults v rest passed _ refl
by_items v rest false fails = inr (refused v rest fails)

-- ---- the words

as_spelled : (words rest : List Text) (v : Verb) → words ≡ name_of v ∷ rest → Decided v rest → ((command : Command) × Spells words command) ⊎ ((command : Command) → Spells words command → ⊥)
as_spelled words rest v parts (inl found) =
    let says = found.1 in
    inl (found.0, record { verb = v; rest = rest; front = says.front; texts = says.texts; back = says.back; parts = parts; items = says.items; pass = says.pass; says = says.says })
as_spelled words rest v parts (inr none) = inr (λ command spells. none command (said_of words rest v command parts spells))

by_verb : (name : Text) (rest : List Text) (o : Option Verb) → verb_by name ≡ o → ((command : Command) × Spells (name ∷ rest) command) ⊎ ((command : Command) → Spells (name ∷ rest) command → ⊥)
by_verb name rest None none = inr (λ command spells.
    let parts : name ∷ rest ≡ name_of spells.verb ∷ spells.rest = spells.parts in
    let same : name ≡ name_of spells.verb = cc in
    let found : None ≡ Some spells.verb = sym none ∙ ap verb_by same ∙ verb_named spells.verb in
    cc)
by_verb name rest (Some v) is = as_spelled (name ∷ rest) rest v (ap (λ (n : Text). n ∷ rest) (verb_is name v is)) (by_items v rest _ refl)

pub spelled_or_not : (words : List Text) → ((command : Command) × Spells words command) ⊎ ((command : Command) → Spells words command → ⊥)
spelled_or_not [] = inr (λ command spells. let none : [] ≡ name_of spells.verb ∷ spells.rest = spells.parts in cc)
spelled_or_not (name ∷ rest) = by_verb name rest _ refl
