use Rattle.std.proofs.Common.{◌≡◌, ◌∙◌, ap, subst, sym, inl, inr, true, ltb}
use Rattle.clap.specs.Words.{app_of, is_simple, kind_of, matches_of}
use Rattle.clap.specs.Faults.{fault_of, is_simple_and_free}
use Rattle.clap.specs.Kinds.{IsAmong, Kinds}
use Rattle.dbl_cli.specs.Names.{texts}
use Rattle.dbl_cli.specs.Parsers.{app}
use Rattle.dbl_cli.specs.Commands.{names_of, least_of, most_of}
use Rattle.dbl_cli.specs.Checks.{are_items}
use Rattle.dbl_cli.proofs.ClapFaults.{app_simple, app_free}
use Rattle.dbl_cli.proofs.SayLemmas.{has_places, refused, taken_items, read_said, said_taken}
use Rattle.dbl_cli.proofs.spelling.read_items.Goals as goal

pub returns-then-not-are_items : goal.returns-then-not-are_items
returns-then-not-are_items c =
    let words = texts c.args.items.now in
    inr (refused c.args.verb words
    (sym (λ i. are_items (c.names_of-names.ensures i) (c.least_of.ensures i) (c.most_of-most.ensures i) words) ∙ sym c.are_items.ensures ∙ c.if-not-are_items.true))

pub returns-in-Ok : goal.returns-in-Ok
returns-in-Ok c =
    let v = c.args.verb in
    let words = texts c.args.items.now in
    let parser = c.in_ok-parser.parser in
    let app_is : app_of parser ≡ app (names_of v) (has_places v) = c.in_ok-parser.ensures ∙ (λ i. app (c.names_of-names.ensures i) (ltb 0 (c.most_of-most.ensures i))) in
    let passed : are_items (names_of v) (least_of v) (most_of v) words ≡ true =
    sym (λ i. are_items (c.names_of-names.ensures i) (c.least_of.ensures i) (c.most_of-most.ensures i) words) ∙ sym c.are_items.ensures ∙ c.if-not-are_items.false in
    let rows = (c.in-Ok.ensures.matches (ap is_simple app_is ∙ app_simple (names_of v) (has_places v))).0 ∙ ap (λ a. matches_of a words) app_is in
    let clear = sym (ap (λ a. fault_of a words) app_is) ∙ c.in-Ok.ensures.kinds (ap is_simple_and_free app_is ∙ app_free (names_of v) (has_places v)) in
    read_said v words c.in-Ok.found c.read.result c.read.ensures rows (taken_items v words passed clear)

pub returns : goal.returns
returns c =
    let v = c.args.verb in
    let words = texts c.args.items.now in
    let parser = c.in_ok-parser.parser in
    let app_is : app_of parser ≡ app (names_of v) (has_places v) = c.in_ok-parser.ensures ∙ (λ i. app (c.names_of-names.ensures i) (ltb 0 (c.most_of-most.ensures i))) in
    inr (λ command says. elim (c.in-Err.ensures.kinds (ap is_simple_and_free app_is ∙ app_free (names_of v) (has_places v))) [
      | inl h ↦ c.in_default.not-OutOfMemory (c.kind.ensures ∙ h)
      | inr h ↦ subst (λ (kinds : Kinds). IsAmong (kind_of c.in-Err.error) kinds) (ap (λ a. fault_of a words) app_is ∙ said_taken v words says.front says.texts says.back says.items) h
    ])
