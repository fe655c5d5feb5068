use Rattle.std.proofs.Common.{◌≡◌, ◌∙◌, ◌++◌, [], ◌∷◌, ap, ap₂, subst}
use Rattle.std.specs.Str.{IsUtf8}
use Rattle.json.specs.Print.{print, quoted}
use Rattle.json.specs.Token.{string}
use Rattle.serde_json.specs.Data as json
use Rattle.serde_json.proofs.Texts.{print-outline}
use Rattle.dbl_record.proofs.writing.append_quoted.Goals as goal

pub returns : goal.returns
returns c =
    let before : c.string.new.self.before ≡ c.args.out.items = c.in_ok-string.ensures.room.0 ∙ c.new-writer.ensures.before in
    let tokens : c.string.new.self.tokens ≡ string c.args.text.now ∷ [] = c.in_ok-string.ensures.ok ∙ ap (λ ts. ts ++ string c.args.text.now ∷ []) c.new-writer.ensures.tokens in
    let text : print c.string.new.self.tokens ≡ quoted c.args.text.now = ap print tokens ∙ print-outline (json.string c.args.text.now) in
    record {
      items = c.into_inner.ensures.items ∙ ap₂ (λ b t. b ++ t) before text;
      utf8 = subst IsUtf8 text c.into_inner.ensures.utf8;
    }
