use Rattle.std.proofs.Common.{◌≡◌, ◌∙◌, ℕ, ◌+◌, ◌%◌, List, [], ◌∷◌, ◌++◌, ap, sym}
use Rattle.std.specs.String.{string_bytes}
use Rattle.dbl_gen.specs.Draws.{next_state, drawn}
use Rattle.dbl_gen.specs.Workload.{balance_line}
use Rattle.dbl_gen.proofs.Changes.{change_is, inserts, sets_balance, deletes, sets_note}
use Rattle.dbl_gen.proofs.writing.write_change.Goals as goal

pub returns-then-kind-eq0-clause-line : goal.returns-then-kind-eq0-clause-line
returns-then-kind-eq0-clause-line c =
    let first = c.draw.new.self.state in
    let second = c.draw-kind.new.self.state in
    let key = 1 + c.draw.result % (c.from.result + 100) in
    let kind = c.draw-kind.result % 4 in
    let key_is : key ≡ 1 + drawn first % (c.args.rows + 100) = cc in
    let kind_is : kind ≡ drawn second % 4 = cc in
    let is = change_is c.args.rows c.args.group c.args.draws.now.state first second key kind c.draw.ensures.state c.draw-kind.ensures.state key_is kind_is ∙ inserts c.args.group key kind second (next_state second) c.if-kind-eq0.true in
    c.in_ok-write_insert.ensures ∙ ap (λ (p : List ℕ × ℕ). string_bytes c.args.text.now ++ (p.0 ++ 10 ∷ [])) (sym is)

pub returns-then-kind-eq0-clause-state : goal.returns-then-kind-eq0-clause-state
returns-then-kind-eq0-clause-state c =
    let first = c.draw.new.self.state in
    let second = c.draw-kind.new.self.state in
    let key = 1 + c.draw.result % (c.from.result + 100) in
    let kind = c.draw-kind.result % 4 in
    let key_is : key ≡ 1 + drawn first % (c.args.rows + 100) = cc in
    let kind_is : kind ≡ drawn second % 4 = cc in
    let is = change_is c.args.rows c.args.group c.args.draws.now.state first second key kind c.draw.ensures.state c.draw-kind.ensures.state key_is kind_is ∙ inserts c.args.group key kind second (next_state second) c.if-kind-eq0.true in
    ap (λ (p : List ℕ × ℕ). p.1) (sym is)

pub returns-then-kind-eq1-clause-line : goal.returns-then-kind-eq1-clause-line
returns-then-kind-eq1-clause-line c =
    let first = c.draw.new.self.state in
    let second = c.draw-kind.new.self.state in
    let key = 1 + c.draw.result % (c.from.result + 100) in
    let kind = c.draw-kind.result % 4 in
    let key_is : key ≡ 1 + drawn first % (c.args.rows + 100) = cc in
    let kind_is : kind ≡ drawn second % 4 = cc in
    let is = change_is c.args.rows c.args.group c.args.draws.now.state first second key kind c.draw.ensures.state c.draw-kind.ensures.state key_is kind_is ∙ sets_balance c.args.group key kind second (next_state second) c.if-kind-eq1.true in
    let balance_is : c.draw-balance.result % 1000 ≡ drawn (next_state second) % 1000 = cc in
    c.in_ok-write_balance.ensures ∙ ap (λ b. string_bytes c.args.text.now ++ (balance_line c.args.group key b ++ 10 ∷ [])) balance_is ∙ ap (λ (p : List ℕ × ℕ). string_bytes c.args.text.now ++ (p.0 ++ 10 ∷ [])) (sym is)

pub returns-then-kind-eq1-clause-state : goal.returns-then-kind-eq1-clause-state
returns-then-kind-eq1-clause-state c =
    let first = c.draw.new.self.state in
    let second = c.draw-kind.new.self.state in
    let key = 1 + c.draw.result % (c.from.result + 100) in
    let kind = c.draw-kind.result % 4 in
    let key_is : key ≡ 1 + drawn first % (c.args.rows + 100) = cc in
    let kind_is : kind ≡ drawn second % 4 = cc in
    let is = change_is c.args.rows c.args.group c.args.draws.now.state first second key kind c.draw.ensures.state c.draw-kind.ensures.state key_is kind_is ∙ sets_balance c.args.group key kind second (next_state second) c.if-kind-eq1.true in
    c.draw-balance.ensures.state ∙ ap (λ (p : List ℕ × ℕ). p.1) (sym is)

pub returns-then-kind-eq2-clause-line : goal.returns-then-kind-eq2-clause-line
returns-then-kind-eq2-clause-line c =
    let first = c.draw.new.self.state in
    let second = c.draw-kind.new.self.state in
    let key = 1 + c.draw.result % (c.from.result + 100) in
    let kind = c.draw-kind.result % 4 in
    let key_is : key ≡ 1 + drawn first % (c.args.rows + 100) = cc in
    let kind_is : kind ≡ drawn second % 4 = cc in
    let is = change_is c.args.rows c.args.group c.args.draws.now.state first second key kind c.draw.ensures.state c.draw-kind.ensures.state key_is kind_is ∙ deletes c.args.group key kind second (next_state second) c.if-kind-eq2.true in
    c.in_ok-write_delete.ensures ∙ ap (λ (p : List ℕ × ℕ). string_bytes c.args.text.now ++ (p.0 ++ 10 ∷ [])) (sym is)

pub returns-then-kind-eq2-clause-state : goal.returns-then-kind-eq2-clause-state
returns-then-kind-eq2-clause-state c =
    let first = c.draw.new.self.state in
    let second = c.draw-kind.new.self.state in
    let key = 1 + c.draw.result % (c.from.result + 100) in
    let kind = c.draw-kind.result % 4 in
    let key_is : key ≡ 1 + drawn first % (c.args.rows + 100) = cc in
    let kind_is : kind ≡ drawn second % 4 = cc in
    let is = change_is c.args.rows c.args.group c.args.draws.now.state first second key kind c.draw.ensures.state c.draw-kind.ensures.state key_is kind_is ∙ deletes c.args.group key kind second (next_state second) c.if-kind-eq2.true in
    ap (λ (p : List ℕ × ℕ). p.1) (sym is)

pub returns-clause-line : goal.returns-clause-line
returns-clause-line c =
    let first = c.draw.new.self.state in
    let second = c.draw-kind.new.self.state in
    let key = 1 + c.draw.result % (c.from.result + 100) in
    let kind = c.draw-kind.result % 4 in
    let key_is : key ≡ 1 + drawn first % (c.args.rows + 100) = cc in
    let kind_is : kind ≡ drawn second % 4 = cc in
    let is = change_is c.args.rows c.args.group c.args.draws.now.state first second key kind c.draw.ensures.state c.draw-kind.ensures.state key_is kind_is ∙ sets_note c.args.group key kind second (next_state second) c.if-kind-eq0.false c.if-kind-eq1.false c.if-kind-eq2.false in
    c.in_ok-write_note.ensures ∙ ap (λ (p : List ℕ × ℕ). string_bytes c.args.text.now ++ (p.0 ++ 10 ∷ [])) (sym is)

pub returns-clause-state : goal.returns-clause-state
returns-clause-state c =
    let first = c.draw.new.self.state in
    let second = c.draw-kind.new.self.state in
    let key = 1 + c.draw.result % (c.from.result + 100) in
    let kind = c.draw-kind.result % 4 in
    let key_is : key ≡ 1 + drawn first % (c.args.rows + 100) = cc in
    let kind_is : kind ≡ drawn second % 4 = cc in
    let is = change_is c.args.rows c.args.group c.args.draws.now.state first second key kind c.draw.ensures.state c.draw-kind.ensures.state key_is kind_is ∙ sets_note c.args.group key kind second (next_state second) c.if-kind-eq0.false c.if-kind-eq1.false c.if-kind-eq2.false in
    ap (λ (p : List ℕ × ℕ). p.1) (sym is)
