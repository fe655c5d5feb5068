-- What is written, token by token.
use Rattle.std.proofs.Common.{◌≡◌, ◌∙◌, ℕ, ℤ, pos, negsuc, Bool, true, false, List, [], ◌∷◌, ◌++◌, Some, refl, append_assoc, slice_get, subst, codes, sym, ap, map, zero, suc}
use Rattle.std.specs.Fmt.{signed_decimal}
use Rattle.std.specs.Prelude.{fold}
use Rattle.json.specs.Token.{Token, key}
use Rattle.json.specs.Token as t
use Rattle.json.specs.Print.{print, print_from, ends}
use Rattle.json.proofs.Printed.Tokens.{print_from-append}
use Rattle.json.specs.Tree.{json_tokens, members_tokens}
use Rattle.serde_json.specs.Data.{Data}
use Rattle.serde_json.specs.Data as d
use Rattle.serde_json.specs.Find.{of_integer}
use Rattle.serde_json.specs.Written.{outline, members_outline, number_text, compact_text}
use Rattle.serde_json.proofs.Texts.{print-outline}
use Rattle.dbl_value_types.specs.declared.value.Val.{Val}
use Rattle.dbl_value_types.specs.Values.{json_data}
use Rattle.dbl_model_table.specs.declared.identity.Identity.{Identity}
use Rattle.dbl_model_table.specs.declared.table.TableName.{TableName}
use Rattle.dbl_model_table.specs.declared.change.Commit.{Commit}
use Rattle.dbl_model_event.specs.EventJson.{source_data, event_data}
use Rattle.dbl_envelope_json.specs.Tokens.{head_tokens, tail_tokens}
use Rattle.dbl_envelope_json.specs.Frames.{tail_text}
use Rattle.dbl_envelope_json.specs.declared.layout.Place.{Place}
use Rattle.dbl_envelope_json.specs.Layouts.{members_at}

pub number_text-of_integer : (z : ℤ) → number_text (of_integer z) ≡ signed_decimal z
number_text-of_integer (pos n) = refl
number_text-of_integer (negsuc n) = refl

-- one more member is written
pub cell_step : (cells : List Val) (ps qs : List Place) (p : Place) (cell : Val) (before now all : List Token) → ps ≡ p ∷ qs → slice_get cells p.index ≡ Some cell
    → before ++ members_tokens (members_outline (members_at cells ps)) ≡ all
    → now ≡ (before ++ key p.name ∷ []) ++ json_tokens (outline (json_data cell))
    → now ++ members_tokens (members_outline (members_at cells qs)) ≡ all
cell_step cells ps qs p cell before now all e at is wrote =
    let opened : before ++ members_tokens (members_outline (members_at cells (p ∷ qs))) ≡ all = subst (λ l. before ++ members_tokens (members_outline (members_at cells l)) ≡ all) e is in
    rw wrote (simp append_assoc (rw at at opened))

pub map_get : {A B : Type 0} (f : A → B) (xs : List A) (i : ℕ) (x : A) → slice_get xs i ≡ Some x → slice_get (map f xs) i ≡ Some (f x)
map_get f [] i x h = cc
map_get f (y ∷ ys) zero x h = let same : y ≡ x = cc in ap (λ z. Some (f z)) same
map_get f (y ∷ ys) (suc i) x h = map_get f ys i x h

-- ---- an event's value in two parts

ends_last : (c : Bool) (ts : List Token) (t : Token) → fold (λ _ u. ends u) c (ts ++ t ∷ []) ≡ ends t
ends_last c [] t = refl
ends_last c (u ∷ ts) t = ends_last (ends u) ts t

head_front : (after before : List Token) (op : List ℕ)
    → head_tokens after before op ≡ (t.begin_object ∷ key (codes "after") ∷ (after ++ key (codes "before") ∷ (before ++ key (codes "op") ∷ []))) ++ t.string op ∷ []
head_front after before op = simp append_assoc

head_ends : (after before : List Token) (op : List ℕ) → fold (λ _ u. ends u) false (head_tokens after before op) ≡ true
head_ends after before op =
    ap (fold (λ _ u. ends u) false) (head_front after before op)
    ∙ ends_last false (t.begin_object ∷ key (codes "after") ∷ (after ++ key (codes "before") ∷ (before ++ key (codes "op") ∷ []))) (t.string op)

print_key : (k : List ℕ) (ts : List Token) → print_from true (key k ∷ ts) ≡ 44 ∷ print_from false (key k ∷ ts)
unfolding print_from
print_key k ts = refl

whole_tokens : (identity : Identity) (table : TableName) (commit : Commit) (snapshot : List ℕ) (now : ℤ) (after before : Data) (op : List ℕ)
    → head_tokens (json_tokens (outline after)) (json_tokens (outline before)) op ++ tail_tokens identity table commit snapshot now
    ≡ json_tokens (outline (event_data (source_data identity table commit snapshot) now before op after))
unfolding event_data
whole_tokens identity table commit snapshot now after before op = simp (append_assoc, number_text-of_integer)

-- the texts of the two parts, with a comma between them, are the value's
pub value_parts : (identity : Identity) (table : TableName) (commit : Commit) (snapshot : List ℕ) (now : ℤ) (after before : Data) (op : List ℕ)
    → print (head_tokens (json_tokens (outline after)) (json_tokens (outline before)) op) ++ 44 ∷ tail_text identity table commit snapshot now
    ≡ compact_text (event_data (source_data identity table commit snapshot) now before op after)
unfolding tail_text
value_parts identity table commit snapshot now after before op =
    let head = head_tokens (json_tokens (outline after)) (json_tokens (outline before)) op in
    let tail = tail_tokens identity table commit snapshot now in
    ap (λ x. print head ++ x) (sym (print_key (codes "source") _))
    ∙ ap (λ b. print head ++ print_from b tail) (sym (head_ends (json_tokens (outline after)) (json_tokens (outline before)) op))
    ∙ sym (print_from-append false head tail)
    ∙ ap print (whole_tokens identity table commit snapshot now after before op)
    ∙ print-outline (event_data (source_data identity table commit snapshot) now before op after)
