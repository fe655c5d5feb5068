-- Compact text is read back as the data that it was made of.
use Rattle.std.proofs.Common.{◌≡◌, ℕ, suc, ◌≤◌, pos, negsuc, List, [], Some, Option, option_map, option_and_then, Greater, nat_cmp, refl, sym, ap, ◌∙◌, arith, append-nil}
use Rattle.std.proofs.lemmas.Cmp.{nat_list_cmp_total}
use Rattle.std.specs.Cmp.Lexicographic.{slice_cmp}
use Rattle.std.specs.Ordering.{ordering_reverse}
use Rattle.json.specs.Token.{Token}
use Rattle.json.specs.Lex.{tokens}
use Rattle.json.specs.Print.{IsNumber}
use Rattle.json.specs.Json as json
use Rattle.json.specs.Tree as tree
use Rattle.json.proofs.Printed.Tokens.{tokens-print}
use Rattle.json.proofs.Printed.Trees.{value-json_tokens, ArePrintable-json_tokens}
use Rattle.json.proofs.Printed.Decimals.{IsNumber-decimal, IsNumber-signed_decimal}
use Rattle.serde_json.specs.Data.{Num, unsigned, negative, float, Data, null, boolean, number, string, array, object, Items, no_items, item, Members, no_members, member, put, depth, items_depth, members_depth}
use Rattle.serde_json.specs.Read.{read, of_json, of_items, of_members, number_of}
use Rattle.serde_json.specs.Written.{compact_text, outline, items_outline, members_outline, number_text}
use Rattle.serde_json.proofs.Numbers.{number_of-decimal, number_of-negative}
use Rattle.serde_json.proofs.Texts.{print-outline}
use Rattle.dbl_record.specs.Whole.{IsInteger, IsBelow, IsWhole, ItemsAreWhole, MembersAreWhole, TextsTellData}

abbrev whole : Option (json.Json × List Token) → Option Data
whole o = option_and_then of_json (option_and_then (λ p. json.if_last p.0 p.1) o)

-- the members go in one after another
abbrev puts : Members → Members → Members
puts no_members found = found
puts (member k d ms) found = puts ms (put k d found)

puts_below : (ms found : Members) (k : List ℕ) (d : Data) → IsBelow k ms → puts ms (member k d found) ≡ member k d (puts ms found)
puts_below no_members found k d h = refl
puts_below (member l e ms) found k d h =
    let above : slice_cmp nat_cmp l k ≡ Greater = nat_list_cmp_total.antisymm l k ∙ ap ordering_reverse h.0 in
    rw above (puts_below ms (put l e found) k d h.1)

puts_ordered : (ms : Members) → MembersAreWhole ms → puts ms no_members ≡ ms
puts_ordered no_members h = refl
puts_ordered (member k d ms) h = puts_below ms no_members k d h.1 ∙ ap (member k d) (puts_ordered ms h.2)

number_back : (n : Num) → IsInteger n → number_of (number_text n) ≡ Some n
number_back (unsigned n) h = number_of-decimal n h
number_back (negative (pos n)) h = elim h [ ]
number_back (negative (negsuc n)) h = number_of-negative n h
number_back (float x) h = elim h [ ]

mutual
  back : (d : Data) → IsWhole d → of_json (outline d) ≡ Some d
  back null h = refl
  back (boolean b) h = refl
  back (number n) h = ap (option_map number) (number_back n h)
  back (string s) h = refl
  back (array ds) h = ap (option_map array) (items_back ds h)
  back (object ms) h = ap (option_map object) (members_back ms no_members h ∙ ap Some (puts_ordered ms h))

  items_back : (ds : Items) → ItemsAreWhole ds → of_items (items_outline ds) ≡ Some ds
  items_back no_items h = refl
  items_back (item d ds) h = rw (back d h.0) (ap (option_map (item d)) (items_back ds h.1))

  members_back : (ms found : Members) → MembersAreWhole ms → of_members (members_outline ms) found ≡ Some (puts ms found)
  members_back no_members found h = refl
  members_back (member k d ms) found h = rw (back d h.0) (members_back ms (put k d found) h.2)

number_is : (n : Num) → IsInteger n → IsNumber (number_text n)
number_is (unsigned n) h = IsNumber-decimal n h
number_is (negative (pos n)) h = elim h [ ]
number_is (negative (negsuc n)) h = IsNumber-signed_decimal (negsuc n) (omega arith)
number_is (float x) h = elim h [ ]

mutual
  numbers : (d : Data) → IsWhole d → tree.HasNumbers (outline d)
  numbers null h = tt
  numbers (boolean b) h = tt
  numbers (number n) h = number_is n h
  numbers (string s) h = tt
  numbers (array ds) h = items_numbers ds h
  numbers (object ms) h = members_numbers ms h

  items_numbers : (ds : Items) → ItemsAreWhole ds → tree.ItemsHaveNumbers (items_outline ds)
  items_numbers no_items h = tt
  items_numbers (item d ds) h = (numbers d h.0, items_numbers ds h.1)

  members_numbers : (ms : Members) → MembersAreWhole ms → tree.MembersHaveNumbers (members_outline ms)
  members_numbers no_members h = tt
  members_numbers (member k d ms) h = (numbers d h.0, members_numbers ms h.2)

mutual
  same_depth : (d : Data) → tree.depth (outline d) ≡ depth d
  same_depth null = refl
  same_depth (boolean b) = refl
  same_depth (number n) = refl
  same_depth (string s) = refl
  same_depth (array ds) = ap suc (items_same ds)
  same_depth (object ms) = ap suc (members_same ms)

  items_same : (ds : Items) → tree.items_depth (items_outline ds) ≡ items_depth ds
  items_same no_items = refl
  items_same (item d ds) = rw (same_depth d, items_same ds) refl

  members_same : (ms : Members) → tree.members_depth (members_outline ms) ≡ members_depth ms
  members_same no_members = refl
  members_same (member k d ms) = rw (same_depth d, members_same ms) refl

-- its tokens
pub tokens-compact_text : (d : Data) → IsWhole d → tokens (compact_text d) ≡ tree.json_tokens (outline d)
tokens-compact_text d h = ap tokens (sym (print-outline d)) ∙ tokens-print (tree.json_tokens (outline d)) (ArePrintable-json_tokens (outline d) (numbers d h))

pub read-compact_text : (d : Data) → IsWhole d → depth d ≤ 127 → read (compact_text d) ≡ Some d
read-compact_text d h shallow =
    ap whole (ap (json.value 127) (tokens-compact_text d h ∙ sym (append-nil _)) ∙ value-json_tokens (outline d) 127 [] (omega (arith, same_depth d))) ∙ back d h

pub texts_tell_data : TextsTellData
texts_tell_data d e h k shallow shallow' same =
    let found : Some d ≡ Some e = sym (read-compact_text d h shallow) ∙ ap read same ∙ read-compact_text e k shallow' in
    cc
