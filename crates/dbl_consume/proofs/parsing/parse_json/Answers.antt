use Rattle.std.proofs.Common.{◌≡◌, ◌∙◌, true, false, Some, None, map, cond, sym, ap, subst, arith}
use Rattle.json.specs.Json as json
use Rattle.json.specs.Lex.{tokens}
use Rattle.json.specs.Tape.{node_token}
use Rattle.dbl_record.specs.Acts.{json_in}
use Rattle.dbl_consume.specs.JsonValues.{data_of, data_at, tokens_are_in_range}
use Rattle.dbl_consume.specs.Parts.{IsShallow}
use Rattle.dbl_consume.proofs.JsonValueLemmas.{no_document, shallow_document, data_at-is, some_is}
use Rattle.dbl_consume.proofs.parsing.parse_json.Goals as goal

pub is_shallow-requires : goal.is_shallow-requires
is_shallow-requires c = c.in-Ok.ensures.ok.0

pub returns-in-Err-Invalid : goal.returns-in-Err-Invalid
returns-in-Err-Invalid c =
    let failed : json.document c.args.text.now ≡ None = grind arith in
    sym (no_document c.args.text.now failed)

pub returns-then-not-shallow : goal.returns-then-not-shallow
returns-then-not-shallow c = sym (subst (λ b. IsShallow b c.args.text.now) c.if-not-shallow.true c.in_ok-shallow.ensures)

pub returns-then-are_in_range : goal.returns-then-are_in_range
returns-then-are_in_range c =
    let text = c.args.text.now in
    let doc = some_is (json.document text) c.in-Ok.ensures.ok.1 in
    let shallow : IsShallow true text = subst (λ b. IsShallow b text) c.if-not-shallow.false c.in_ok-shallow.ensures in
    let same : map node_token c.nodes.result.now ≡ tokens text = c.nodes.ensures.tokens ∙ c.in-Ok.ensures.ok.0 in
    let yes : tokens_are_in_range (tokens text) ≡ true = ap tokens_are_in_range (sym same) ∙ sym c.are_in_range.ensures ∙ c.if-are_in_range.true in
    ap Some (data_at-is c.in-Ok.tape doc.0 (c.in-Ok.ensures.value doc.0 doc.1))
    ∙ sym (shallow_document text doc.0 doc.1 shallow ∙ ap (λ b. cond b (Some (data_of doc.0)) None) yes)

pub returns : goal.returns
returns c =
    let text = c.args.text.now in
    let doc = some_is (json.document text) c.in-Ok.ensures.ok.1 in
    let shallow : IsShallow true text = subst (λ b. IsShallow b text) c.if-not-shallow.false c.in_ok-shallow.ensures in
    let same : map node_token c.nodes.result.now ≡ tokens text = c.nodes.ensures.tokens ∙ c.in-Ok.ensures.ok.0 in
    let no : tokens_are_in_range (tokens text) ≡ false = ap tokens_are_in_range (sym same) ∙ sym c.are_in_range.ensures ∙ c.if-are_in_range.false in
    sym (shallow_document text doc.0 doc.1 shallow ∙ ap (λ b. cond b (Some (data_of doc.0)) None) no)
